use Rattle.end_model.proofs.Restarts.{restarted-seen}
use Rattle.end_model.proofs.rows.restarts_taken.Goals as goal

pub returns : goal.returns
returns c =
    record {
      rows = record {
        restart = λ number list listed free base body h. restarted-seen number base body h;
        restart_ack = λ number list listed free base body h. restarted-seen number base body h;
      };
    }
