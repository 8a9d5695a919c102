-- In direct mode no end is dead, and nothing is transferred.
use Rattle.std.proofs.Common.{◌≡◌, refl, true, false, ◌∙◌, sym, ap, subst, List, [], ◌∷◌, ◌++◌, map, inl, inr, ◌⊎◌, Ok}
use Rattle.std.specs.Prelude.{Bool, if◌then◌else◌}
use Rattle.osi_base.specs.declared.layer_words.Side.{Side}
use Rattle.osi_base.specs.declared.layer_words.Side.TheVariants.{A, B}
use Rattle.stub_tables.specs.declared.tables.Tables.{Tables}
use Rattle.dialogue.specs.declared.config.Config.{Config}
use Rattle.dialogue.specs.declared.config.Mode.TheVariants.{Direct}
use Rattle.dialogue.specs.declared.config.Phase.{Phase}
use Rattle.dialogue.specs.declared.config.Phase.TheVariants.{Up, Releasing}
use Rattle.dialogue.specs.declared.event.Event.{Event}
use Rattle.dialogue.specs.declared.event.Entry.{Entry}
use Rattle.end_rules.specs.Base.{Base, Spellings}
use Rattle.end_rules.specs.Messages.{Message, Session, OfActivities}
use Rattle.end_rules.specs.State.{Body, Stage}
use Rattle.end_rules.specs.Calling.{is_dead}
use Rattle.end_rules.specs.Requesting.{due_of}
use Rattle.end_rules.specs.ByItself.{OwnAct, SendsNow, EncodesOn}
use Rattle.end_rules.specs.History.{Step, called, sent, took, answered, step_of}
use Rattle.dialogue.specs.Sides.{other as other_side}
use Rattle.end_rules.specs.World as sides
use Rattle.end_rules.specs.World.{World, Ends, is_side}
use Rattle.agreement.specs.Sets.Role.{Initiator, Responder}
use Rattle.end_model.specs.Seen.{Free}
use Rattle.end_model.specs.Acting.{ReadsBack}
use Rattle.end_model.specs.BothEnds.{Common, base_at, WritesAll}
use Rattle.end_model.specs.DirectEnds.{direct_common, ProposesRightly}
use Rattle.end_model.specs.Sharing.{side_of}
use Rattle.end_model.proofs.DirectOpening.{At}
use Rattle.end_model.proofs.DirectWords.{Stands, IsOver}
use Rattle.end_model.proofs.DirectMachine as machine
use Rattle.end_model.proofs.DirectMachine.{Fresh, Calling, Confirming, Connecting, Accepting, Refusing, Deaf, Gone, Standing}
use Rattle.said_words.specs.Words.{IsMessage}
use Rattle.said_words.specs.Laws.{ProposesContexts}
use Rattle.said_words.proofs.Sharing.{kept-in}
use Rattle.association_worlds.specs.Laws.{IsMeant}
use Rattle.run_laws.specs.Transfers.{arrived_in, arrivals, AreWhole, ArriveWhole, AreFalling, OneTransfer, started, encodings}
use Rattle.run_laws.specs.Laws.{NobodyIsDead}
use Rattle.association_runs.specs.Worlds.{stepping, Runs}
use Rattle.association_runs.specs.Laws.{AreEvents}
use Rattle.association_runs.specs.Sides.{ends_for}
use Rattle.association_runs.proofs.Histories.{end_for, body-for}
use Rattle.association_runs.proofs.Keeps.{IsQuiet, Keeps}
use Rattle.association_runs.proofs.Joined.{Joined}
use Rattle.association_runs.proofs.Carried.{from-start}
use Rattle.codec_runs.proofs.DirectSent.{first-said}

-- ---- no end of an activity is taken

abbrev IsNoEnd : Step → Type 0
IsNoEnd (took (Session (OfActivities word))) = ⊥
IsNoEnd _ = Unit {0}

abbrev AreNoEnds : List Step → Type 0
AreNoEnds [] = Unit {0}
AreNoEnds (x ∷ xs) = IsNoEnd x × AreNoEnds xs

abbrev NoEnds : World → Type 0
NoEnds [] = Unit {0}
NoEnds (m ∷ w) = IsNoEnd m.step × NoEnds w

none-stepping : (side : Side) (w : World) (xs : List Step) → AreNoEnds xs → NoEnds w → NoEnds (stepping side w xs)
none-stepping side w [] n h = h
none-stepping side w (x ∷ xs) n h = none-stepping side (record { side = side; step = x } ∷ w) xs n.1 (n.0, h)

sents-end : (ms : List Message) → AreNoEnds (map sent ms)
sents-end [] = tt
sents-end (m ∷ ms) = (tt, sents-end ms)

answers-end : (to : Message) (ms : List Message) → AreNoEnds (map (answered to) ms)
answers-end to [] = tt
answers-end to (m ∷ ms) = (tt, answers-end to ms)

act-end : (own : OwnAct) → AreNoEnds (step_of own ∷ [])
act-end (SendsNow message) = (tt, tt)
act-end (EncodesOn context) = (tt, tt)

message-end : (a b : Base) (m : Message) → IsMessage (record a { mode = Direct }) b m → IsNoEnd (took m)
message-end a b (Session (OfActivities word)) h = absurd h
message-end a b _ h = tt

quiet-end : (x : Step) → IsQuiet x → IsNoEnd x
quiet-end (took message) q = absurd q
quiet-end _ q = tt

arrived-none : (base : Base) (body : Body) (x : Step) → IsNoEnd x → arrived_in base body x ≡ []
arrived-none base body (took (Session (OfActivities word))) n = absurd n
arrived-none base body _ n = refl

module _ (ends : Ends) where
  none-whole : (w : World) → NoEnds w → ArriveWhole ends w
  none-whole [] n = tt
  none-whole (m ∷ w) n =
      (subst (AreWhole (started ends (other_side m.side) w) (encodings ends (other_side m.side) w)) (sym (arrived-none (sides.base_at ends m.side) (sides.body_at ends m.side w) m.step n.0)) tt, none-whole w n.1)

  no-arrivals : (side : Side) (w : World) → NoEnds w → arrivals ends side w ≡ []
  no-arrivals side [] n = refl
  no-arrivals side (m ∷ w) n = go (is_side side m.side) (arrived-none (sides.base_at ends side) (sides.body_at ends side w) m.step n.0) (no-arrivals side w n.1)
    where
      go : (b : Bool) → arrived_in (sides.base_at ends side) (sides.body_at ends side w) m.step ≡ [] → arrivals ends side w ≡ [] → (if b then arrived_in (sides.base_at ends side) (sides.body_at ends side w) m.step ++ arrivals ends side w else arrivals ends side w) ≡ []
      go true e f = λ i. e i ++ f i
      go false e f = f

  none-transferred : (w : World) → NoEnds w → OneTransfer ends w
  none-transferred w n = record { whole = none-whole w n; once = λ side. subst AreFalling (sym (no-arrivals side w n)) tt }

-- ---- two ends

at-alive : (phase : Phase) (stage : Stage) (body : Body) → At phase stage body → is_dead phase ≡ false → is_dead body.link.phase ≡ false
at-alive phase stage body h e = ap is_dead h.phase_is ∙ e

module _ (free : Free) (tables : Tables) (spellings : Spellings) (a b : Config) where
  abbrev common : Common
  common = direct_common tables spellings a b

  abbrev ends : Ends
  ends = ends_for common

  side-alive : (body : Body) (coming : List Message) → machine.SideOf free tables spellings a b body coming → is_dead body.link.phase ≡ false
  side-alive body coming (Stands live own) = go live.phase
    where
      go : (body.link.phase ≡ Up) ⊎ (body.link.phase ≡ Releasing) → is_dead body.link.phase ≡ false
      go (inl e) = ap is_dead e
      go (inr e) = ap is_dead e
  side-alive body coming (IsOver e) = ap is_dead e

  left-alive : (body : Body) (coming : List Message) → machine.Left free tables spellings a b body coming → is_dead body.link.phase ≡ false
  left-alive body coming (inl h) = ap is_dead h.0.phase_is
  left-alive body coming (inr h) = ap is_dead h.0.phase_is

  opened-alive : (x y : Body) (f g : List Message) → machine.Opened free tables spellings a b x y f g → (is_dead x.link.phase ≡ false) × (is_dead y.link.phase ≡ false)
  opened-alive x y f g (Fresh p q c d) = (ap is_dead p.phase_is, ap is_dead q.phase_is)
  opened-alive x y f g (Calling p q c d) = (ap is_dead p.phase_is, ap is_dead q.phase_is)
  opened-alive x y f g (Confirming p q c d) = (ap is_dead p.phase_is, ap is_dead q.phase_is)
  opened-alive x y f g (Connecting p q c d) = (ap is_dead p.phase_is, ap is_dead q.phase_is)
  opened-alive x y f g (Accepting p word accept rest c own s) = (ap is_dead p.phase_is, side-alive y g s)
  opened-alive x y f g (Refusing p q word refusal c) = (ap is_dead p.phase_is, ap is_dead q)
  opened-alive x y f g (Deaf q (inl p)) = (ap is_dead p.0.phase_is, ap is_dead q)
  opened-alive x y f g (Deaf q (inr p)) = (ap is_dead p.0.phase_is, ap is_dead q)
  opened-alive x y f g (Gone p l) = (ap is_dead p, left-alive y g l)
  opened-alive x y f g (Standing s t) = (side-alive x f s, side-alive y g t)

  module _ (writes : WritesAll free) (back : ReadsBack (base_at Initiator common)) (right : ProposesRightly common) (contexts : ProposesContexts common) where
    ends-keep : Keeps common (λ w two ledger exchanges. NoEnds w)
    ends-keep = record {
      begins = tt;
      calls = λ role w two ledger exchanges call answer j c h.
          let due : List Message = due_of (base_at role common) (end_for common role w).body call (Ok answer) in
          none-stepping (side_of role) w (called call (Ok answer) ∷ map sent due) (tt, sents-end due) h;
      acts = λ role w two ledger exchanges own j c h. none-stepping (side_of role) w (step_of own ∷ []) (act-end own) h;
      takes = λ role w two ledger exchanges message left body answers shown j e r h.
          none-stepping (side_of role) w (took message ∷ map (answered message) answers)
          (message-end (base_at Initiator common) (base_at Responder common) message (first-said free tables spellings a b writes back right contexts two ledger j.speaks role message left e), answers-end message answers) h;
      passes = λ role w two ledger exchanges message left j e r h. (tt, h);
      quiet = λ role w two ledger exchanges x q h. (quiet-end x q, h);
      breaks = λ w two ledger exchanges j h. (tt, (tt, h));
    }

    module _ (m : IsMeant common) (w : World) (all : List Event) (told : List Entry) (typed : AreEvents all) (r : Runs ends [] all told w) where
      pub nothing-transferred : OneTransfer ends w
      nothing-transferred = none-transferred ends w (from-start common m (λ w two ledger exchanges. NoEnds w) ends-keep w all told typed r).extra

      pub nobody-dead : NobodyIsDead ends w
      nobody-dead = go (from-start common m (λ w two ledger exchanges. NoEnds w) ends-keep w all told typed r)
        where
          go : Joined common (λ w two ledger exchanges. NoEnds w) w → NobodyIsDead ends w
          go s A =
              let o = opened-alive s.two.a s.two.b s.two.to_a s.two.to_b (kept-in free tables spellings a b writes back right s.two s.ledger s.joint.speaks.goes).opened in
              ap (λ (y : Body). is_dead y.link.phase) (body-for common Initiator w ∙ s.joint.bodies Initiator) ∙ o.0
          go s B =
              let o = opened-alive s.two.a s.two.b s.two.to_a s.two.to_b (kept-in free tables spellings a b writes back right s.two s.ledger s.joint.speaks.goes).opened in
              ap (λ (y : Body). is_dead y.link.phase) (body-for common Responder w ∙ s.joint.bodies Responder) ∙ o.1
