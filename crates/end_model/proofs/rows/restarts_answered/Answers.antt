use Rattle.std.proofs.Common.{ap, [], ◌∷◌}
use Rattle.std.specs.Prelude.{Some}
use Rattle.agreement.specs.Messages.Message.{RestartAnswer}
use Rattle.end_model.proofs.Sendings.{restored-seen}
use Rattle.end_model.proofs.rows.restarts_answered.Goals as goal

pub returns : goal.returns
returns c =
    record {
      rows = record {
        restart = λ number list theirs free base body. ap (λ l. Some (RestartAnswer number l) ∷ []) (restored-seen number body.saved);
      };
    }
