-- In direct mode an end makes no step by itself, so that what is reached is reached by calls, by takings and by breaks.
use Rattle.std.proofs.Common.{◌≡◌, refl, sym, ap, ◌∙◌, None}
use Rattle.std.specs.Prelude.{Some}
use Rattle.dialogue.specs.declared.config.Config.{Config}
use Rattle.stub_tables.specs.declared.tables.Tables.{Tables}
use Rattle.end_rules.specs.State.{Body, holds_turn}
use Rattle.end_rules.specs.ByItself.{next_own}
use Rattle.agreement.specs.Sets.{Role}
use Rattle.agreement.specs.Sets.Role.{Initiator, Responder}
use Rattle.end_model.specs.BothEnds.{Common, base_at, Two, body_at, Reached, HasCodec}
use Rattle.end_model.specs.BothEnds as both_ends
use Rattle.reliable_model.specs.Ledgers.{Ledger, ReachedWithLedger}
use Rattle.reliable_model.specs.Ledgers as ledgers
use Rattle.association_worlds.specs.Laws.{IsMeant, SaidIsMeant}
use Rattle.association_worlds.proofs.Heard.{meant-heard}
use Rattle.association_worlds.proofs.Kept.{spelled}
use Rattle.association_worlds.proofs.Calm.{nothing-fails}
use Rattle.end_laws.specs.Codecs.{Transfers, direct_ends, IsDirect}
use Rattle.end_laws.specs.Laws.{DirectEndsTake, DirectTurnHasOneHolder}
use Rattle.said_worlds.specs.Laws.{AreEnds, DirectIsSaid}
use Rattle.codec_runs.specs.DirectWorlds.{DirectWorldsAreSpelled, DirectWorldsNeverFail, DirectWorldsHaveOneHolder}

module _ (tables : Tables) (transfers : Transfers) (a b : Config) where
  common : Common
  common = direct_ends tables transfers a b

  no-own : (role : Role) (body : Body) → next_own (base_at role (direct_ends tables transfers a b)) body ≡ None
  no-own Initiator body = refl
  no-own Responder body = refl

  pub reached : (two : Two) (ledger : Ledger) → ReachedWithLedger (direct_ends tables transfers a b) two ledger → Reached (direct_ends tables transfers a b) two
  reached two ledger ledgers.begins = both_ends.begins
  reached two ledger (ledgers.calls before l role call answer g c) = both_ends.calls before role call answer (reached before l g) c
  reached two ledger (ledgers.acts before l role own g c) = let none : None ≡ Some own = sym (no-own role (body_at role before)) ∙ c in absurd cc
  reached two ledger (ledgers.takes before l role message left body answers shown g e r) = both_ends.takes before role message left body answers shown (reached before l g) e r
  reached two ledger (ledgers.passes before l role message left g e r) = both_ends.passes before role message left (reached before l g) e r
  reached two ledger (ledgers.fails before l role message left fault body aborts shown g e r) = both_ends.fails before role message left fault body aborts shown (reached before l g) e r
  reached two ledger (ledgers.breaks before l g) = both_ends.breaks before (reached before l g)

module _ (law : SaidIsMeant) (take : DirectEndsTake) (codec : HasCodec) (is_said : DirectIsSaid) (tables : Tables) (transfers : Transfers) (a b : Config) (e : AreEnds tables a b) where
  pub direct : IsDirect a
  direct = record { mode = e.of_a.mode; accepted = e.of_a.accepted }

  pub all-meant : IsMeant (direct_ends tables transfers a b)
  all-meant =
      law (direct_ends tables transfers a b) refl
      (λ two ledger g role message left fault body aborts shown f r. take codec.0 tables transfers a b codec.1 e.module_s.readable direct two role message left fault body aborts shown (reached tables transfers a b two ledger g) f r)
      (is_said tables transfers a b e)

pub worlds-spelled : SaidIsMeant → DirectEndsTake → HasCodec → DirectIsSaid → DirectWorldsAreSpelled
worlds-spelled law take codec is_said tables transfers a b e ends s =
    spelled (direct_ends tables transfers a b) ends (meant-heard (direct_ends tables transfers a b) (all-meant law take codec is_said tables transfers a b e)) s

pub worlds-calm : SaidIsMeant → DirectEndsTake → HasCodec → DirectIsSaid → DirectWorldsNeverFail
worlds-calm law take codec is_said tables transfers a b e ends s = nothing-fails (direct_ends tables transfers a b) ends (all-meant law take codec is_said tables transfers a b e) s

pub worlds-one_holder : SaidIsMeant → DirectEndsTake → HasCodec → DirectIsSaid → DirectTurnHasOneHolder → DirectWorldsHaveOneHolder
worlds-one_holder law take codec is_said one tables transfers a b e ends s h k =
    let r = worlds-spelled law take codec is_said tables transfers a b e ends s in
    one codec.0 tables transfers a b codec.1 e.module_s.readable (direct law take codec is_said tables transfers a b e) r.two (reached tables transfers a b r.two r.ledger r.speaks.goes)
    (ap holds_turn (sym (r.bodies Initiator)) ∙ h) (ap holds_turn (sym (r.bodies Responder)) ∙ k)
