-- The worked history, step by step.
use Rattle.std.proofs.Common.{refl}
use Rattle.std.specs.Prelude.{pos, Some, None}
use Rattle.dialogue.specs.declared.call.Call.TheVariants as the_calls
use Rattle.agreement.specs.Sets.Role.{Initiator, Responder}
use Rattle.outcome_laws.specs.Exchanges.{begins, calls, takes}
use Rattle.outcome_laws.specs.Worked.{OneAnswer}

pub one-answer : OneAnswer
one-answer =
    record {
      two = _;
      ledger = _;
      exchanges = _;
      reached_exchanges =
          takes _ _ _ Initiator _ _ _ _ _
          (calls _ _ _ Responder (the_calls.Answer (pos 1) None) None
          (takes _ _ _ Responder _ _ _ _ _
          (calls _ _ _ Initiator (the_calls.Invoke 0 0 None None) (Some (pos 1)) begins refl) refl refl) refl) refl refl;
      asked = refl;
      invoked = refl;
      answered = refl;
      told = refl;
      untold = refl;
      coming = refl;
    }
