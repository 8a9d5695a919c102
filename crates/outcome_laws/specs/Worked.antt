-- A worked history of two ends of bare mode: one invokes, the other answers, and the first is told of it once.
use Rattle.std.specs.Prelude.{◌≡◌, pos, [], ◌∷◌, true, false, None}
use Rattle.stub_tables.specs.declared.apdu.Apdu.TheVariants as apdus
use Rattle.stub_tables.specs.declared.operation.Code.TheVariants.{Local}
use Rattle.dialogue.specs.declared.config.Mode.TheVariants.{Bare}
use Rattle.end_model.specs.end_rules.Cases.{calc, plain_spellings, config_of}
use Rattle.end_model.specs.BothEnds.{Common, Two}
use Rattle.reliable_model.specs.Ledgers.{Ledger}
use Rattle.outcome_laws.specs.Exchanges.{outcomes_in, Exchanges, ReachedWithExchanges}

abbrev pub bare_calc : Common
bare_calc =
    record { tables = calc; spellings = plain_spellings; mode = Bare; of_initiator = config_of true Bare; of_responder = config_of false Bare }

-- add is invoked and answered: what each wrote, what was asked for, what was told, and what is still on its way
pub record OneAnswer : Type 0 where
  pub two : Two
  pub ledger : Ledger
  pub exchanges : Exchanges
  pub reached_exchanges : ReachedWithExchanges bare_calc two ledger exchanges
  pub asked : exchanges.a.asked ≡ record { id = pos 1; operation = 0 } ∷ []
  pub invoked : exchanges.a.wrote ≡ apdus.Invoke (pos 1) None (Local (pos 1)) None ∷ []
  pub answered : exchanges.b.wrote ≡ apdus.Result (pos 1) None ∷ []
  pub told : outcomes_in exchanges.a.shown ≡ pos 1 ∷ []
  pub untold : outcomes_in exchanges.b.shown ≡ []
  pub coming : two.to_a ≡ []
