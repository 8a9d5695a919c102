-- What two ends of reliable mode say is enough.
use Rattle.std.proofs.Common.{refl, sym, ap, ◌∙◌}
use Rattle.dialogue.specs.declared.config.Config.{Config}
use Rattle.dialogue.specs.declared.config.Mode.TheVariants.{Reliable}
use Rattle.stub_tables.specs.declared.tables.Tables.{Tables}
use Rattle.end_rules.specs.State.{holds_turn}
use Rattle.agreement.specs.Sets.Role.{Initiator, Responder}
use Rattle.association_worlds.specs.Laws.{IsMeant, SaidIsMeant}
use Rattle.association_worlds.proofs.Heard.{meant-heard}
use Rattle.association_worlds.proofs.Kept.{spelled}
use Rattle.association_worlds.proofs.Calm.{nothing-fails}
use Rattle.transfer_laws.specs.Laws.{reliable_ends, IsReliable}
use Rattle.transfer_laws.proofs.Premises.{ends-take, ends-one_holder}
use Rattle.said_worlds.specs.Laws.{AreEndsIn, ReliableIsSaid}
use Rattle.codec_runs.specs.ReliableWorlds.{ReliableWorldsAreSpelled, ReliableWorldsNeverFail, ReliableWorldsHaveOneHolder}

module _ (tables : Tables) (a b : Config) (e : AreEndsIn Reliable tables a b) where
  pub of_first : IsReliable a
  of_first = record { mode = e.of_a.mode; accepted = e.of_a.accepted }

  pub of_second : IsReliable b
  of_second = record { mode = e.of_b.mode; accepted = e.of_b.accepted }

  pub all-meant : SaidIsMeant → ReliableIsSaid → IsMeant (reliable_ends tables a b)
  all-meant law is_said =
      law (reliable_ends tables a b) refl
      (λ two ledger g role message left fault body aborts shown. ends-take tables a b e.module_s of_first of_second two ledger g role message left fault body aborts shown)
      (is_said tables a b e)

pub worlds-spelled : SaidIsMeant → ReliableIsSaid → ReliableWorldsAreSpelled
worlds-spelled law is_said tables a b e ends s = spelled (reliable_ends tables a b) ends (meant-heard (reliable_ends tables a b) (all-meant tables a b e law is_said)) s

pub worlds-calm : SaidIsMeant → ReliableIsSaid → ReliableWorldsNeverFail
worlds-calm law is_said tables a b e ends s = nothing-fails (reliable_ends tables a b) ends (all-meant tables a b e law is_said) s

pub worlds-one_holder : SaidIsMeant → ReliableIsSaid → ReliableWorldsHaveOneHolder
worlds-one_holder law is_said tables a b e ends s h k =
    let r = worlds-spelled law is_said tables a b e ends s in
    ends-one_holder tables a b e.module_s (of_first tables a b e) (of_second tables a b e) r.two r.ledger r.speaks.goes
    (ap holds_turn (sym (r.bodies Initiator)) ∙ h) (ap holds_turn (sym (r.bodies Responder)) ∙ k)
