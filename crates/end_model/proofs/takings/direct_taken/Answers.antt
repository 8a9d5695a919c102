use Rattle.end_model.proofs.TakenRows.{mark-direct, give-direct, please-direct, restart-direct, restart_ack-direct, alter-direct, finish-direct, disconnect-direct, abort-direct}
use Rattle.end_model.proofs.takings.direct_taken.Goals as goal

pub returns : goal.returns
returns c =
    record {
      rows = record {
        mark = mark-direct;
        give = give-direct;
        please = please-direct;
        restart = restart-direct;
        restart_ack = restart_ack-direct;
        alter = alter-direct;
        finish = finish-direct;
        disconnect = disconnect-direct;
        abort = abort-direct;
      };
    }
