-- In reliable mode no end is dead.
use Rattle.std.proofs.Common.{◌≡◌, refl, true, false, ◌∙◌, ap, subst, List, [], ◌++◌, inl, inr, ◌⊎◌}
use Rattle.std.specs.Prelude.{nat_eq}
use Rattle.osi_base.specs.declared.layer_words.Side.TheVariants.{A, B}
use Rattle.stub_tables.specs.declared.tables.Tables.{Tables}
use Rattle.dialogue.specs.declared.config.Config.{Config}
use Rattle.dialogue.specs.declared.config.Mode.{Mode}
use Rattle.dialogue.specs.declared.config.Mode.TheVariants.{Reliable}
use Rattle.dialogue.specs.declared.config.Phase.TheVariants.{Up, Releasing}
use Rattle.end_rules.specs.Base.{Spellings}
use Rattle.end_rules.specs.Messages.{Message}
use Rattle.end_rules.specs.State.{Body}
use Rattle.end_rules.specs.Policy.{is_faulty_proposal}
use Rattle.end_rules.specs.Writing.{own_proposals, proposals}
use Rattle.end_rules.specs.Calling.{is_dead}
use Rattle.end_rules.specs.World.{World}
use Rattle.end_config.proofs.Proposes.{proposes-rightly}
use Rattle.agreement.specs.Sets.Role.{Initiator, Responder}
use Rattle.end_model.specs.Seen.{Free}
use Rattle.end_model.specs.BothEnds.{Two, base_at}
use Rattle.reliable_model.specs.Ledgers.{Ledger, ReachedWithLedger}
use Rattle.reliable_model.specs.ReliableEnds.{IsFit}
use Rattle.reliable_model.proofs.Fixed.{AreIdentifiers, listed-identifiers}
use Rattle.reliable_model.proofs.Words.{Side as SideOf, Stands, IsOver}
use Rattle.reliable_model.proofs.Opening.{Way, First, Again, rests, asks, joins}
use Rattle.reliable_model.proofs.Machine as machine
use Rattle.reliable_model.proofs.Machine.{DeafRest, DeafAsked, DeafCarrying, LeftIdle, LeftJoined, LeftBroken, Resting, Calling, Confirming, Connecting, Accepting, Refusing, Deaf, Gone, Standing}
use Rattle.reliable_model.proofs.Placing.{all-kept}
use Rattle.said_words.proofs.TransferWorlds.{some-window}
use Rattle.transfer_laws.specs.Laws.{reliable_ends}
use Rattle.transfer_laws.proofs.Configs.{identifiers-right, has-window}
use Rattle.transfer_laws.proofs.Spelled.{spells-so, back-so}
use Rattle.transfer_laws.proofs.Premises.{ends-modelled}
use Rattle.run_laws.specs.Laws.{NobodyIsDead}
use Rattle.association_runs.specs.Sides.{ends_for}
use Rattle.association_runs.specs.Laws.{ReachesMessages}
use Rattle.codec_runs.proofs.ReliableSpoken.{of_first, of_second}
use Rattle.codec_runs.specs.ReliableLaws.{AreReliable}

rests-alive : (way : Way) → is_dead (rests way) ≡ false
rests-alive First = refl
rests-alive Again = refl

asks-alive : (way : Way) → is_dead (asks way) ≡ false
asks-alive First = refl
asks-alive Again = refl

joins-alive : (way : Way) → is_dead (joins way) ≡ false
joins-alive First = refl
joins-alive Again = refl

side-alive : (body : Body) (coming : List Message) → SideOf body coming → is_dead body.link.phase ≡ false
side-alive body coming (Stands live own) = go live.phase
  where
    go : (body.link.phase ≡ Up) ⊎ (body.link.phase ≡ Releasing) → is_dead body.link.phase ≡ false
    go (inl e) = ap is_dead e
    go (inr e) = ap is_dead e
side-alive body coming (IsOver e) = ap is_dead e

module _ (free : Free) (tables : Tables) (spellings : Spellings) (a b : Config) where
  deafened-alive : (way : Way) (body : Body) (coming : List Message) → machine.Deafened free tables spellings a b way body coming → is_dead body.link.phase ≡ false
  deafened-alive way body coming (DeafRest p e) = ap is_dead p.phase_is ∙ rests-alive way
  deafened-alive way body coming (DeafAsked p e) = ap is_dead p.phase_is ∙ asks-alive way
  deafened-alive way body coming (DeafCarrying p e) = ap is_dead p.phase_is ∙ asks-alive way

  left-alive : (body : Body) (coming : List Message) → machine.Left free tables spellings a b body coming → is_dead body.link.phase ≡ false
  left-alive body coming (LeftIdle way p e) = ap is_dead p.phase_is ∙ rests-alive way
  left-alive body coming (LeftJoined way p e) = ap is_dead p.phase_is ∙ joins-alive way
  left-alive body coming (LeftBroken p e) = ap is_dead p.phase_is

  opened-alive : (x y : Body) (f g : List Message) → machine.Opened free tables spellings a b x y f g → (is_dead x.link.phase ≡ false) × (is_dead y.link.phase ≡ false)
  opened-alive x y f g (Resting way p q c d) = (ap is_dead p.phase_is ∙ rests-alive way, ap is_dead q.phase_is ∙ rests-alive way)
  opened-alive x y f g (Calling way p q c d) = (ap is_dead p.phase_is ∙ asks-alive way, ap is_dead q.phase_is ∙ rests-alive way)
  opened-alive x y f g (Confirming way p q c d) = (ap is_dead p.phase_is ∙ asks-alive way, ap is_dead q.phase_is ∙ joins-alive way)
  opened-alive x y f g (Connecting way p q c d) = (ap is_dead p.phase_is ∙ asks-alive way, ap is_dead q.phase_is ∙ joins-alive way)
  opened-alive x y f g (Accepting way p word accept rest c own s) = (ap is_dead p.phase_is ∙ asks-alive way, side-alive y g s)
  opened-alive x y f g (Refusing way p (inl q) word refusal c) = (ap is_dead p.phase_is ∙ asks-alive way, ap is_dead q)
  opened-alive x y f g (Refusing way p (inr q) word refusal c) = (ap is_dead p.phase_is ∙ asks-alive way, ap is_dead q.0.phase_is)
  opened-alive x y f g (Deaf way q d) = (deafened-alive way x f d, ap is_dead q)
  opened-alive x y f g (Gone p l) = (ap is_dead p, left-alive y g l)
  opened-alive x y f g (Standing s t) = (side-alive x f s, side-alive y g t)

module _ (tables : Tables) (a b : Config) (d : AreReliable tables a b) where
  fit : IsFit (reliable_ends tables a b)
  fit =
      record {
        reads = back-so tables a true Reliable d.ends.module_s;
        spells = spells-so tables a true Reliable d.ends.module_s;
        proposes = subst (λ (m : Mode). is_faulty_proposal true [] (own_proposals m ++ a.contexts) ≡ false) (of_first tables a b d.ends).mode (proposes-rightly a (of_first tables a b d.ends).accepted);
        identifiers = identifiers-right a (of_first tables a b d.ends).accepted;
        window = has-window b (of_second tables a b d.ends).accepted;
      }

  abbrev pub free : Free
  free = (ends-modelled tables a b d.ends.module_s (of_first tables a b d.ends) (of_second tables a b d.ends)).0

  pub presumed : machine.Presumed free tables (reliable_ends tables a b).spellings a b
  presumed = record { fit = fit; carries = (ends-modelled tables a b d.ends.module_s (of_first tables a b d.ends) (of_second tables a b d.ends)).1 }

  -- the initiator proposes identifiers of contexts, and its window isn't 0
  pub identifiers : AreIdentifiers (proposals (base_at Initiator (reliable_ends tables a b)))
  identifiers = listed-identifiers (proposals (base_at Initiator (reliable_ends tables a b))) (identifiers-right a (of_first tables a b d.ends).accepted)

  pub window : nat_eq a.window 0 ≡ false
  window = some-window a.window (has-window a (of_first tables a b d.ends).accepted)

  pub kept : (two : Two) (ledger : Ledger) → ReachedWithLedger (reliable_ends tables a b) two ledger → machine.Kept free tables (reliable_ends tables a b).spellings a b two ledger
  kept two ledger g = all-kept free tables (reliable_ends tables a b).spellings a b presumed two ledger g

  pub nobody-dead : (w : World) → ReachesMessages (reliable_ends tables a b) w → NobodyIsDead (ends_for (reliable_ends tables a b)) w
  nobody-dead w s = go
    where
      alive : (is_dead s.two.a.link.phase ≡ false) × (is_dead s.two.b.link.phase ≡ false)
      alive =
          let k = kept s.two s.ledger s.speaks.goes in
          opened-alive free tables (reliable_ends tables a b).spellings a b s.two.a s.two.b s.two.to_a s.two.to_b k.opened

      go : NobodyIsDead (ends_for (reliable_ends tables a b)) w
      go A = ap (λ (x : Body). is_dead x.link.phase) (s.bodies Initiator) ∙ alive.0
      go B = ap (λ (x : Body). is_dead x.link.phase) (s.bodies Responder) ∙ alive.1
