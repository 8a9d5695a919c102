use Rattle.end_model.proofs.TakenRows.{mark-reliable, give-reliable, give_ack-reliable, please-reliable, alter-reliable, start-reliable, interrupt-reliable, discard-reliable, interrupt_ack-reliable, disconnect-reliable, abort-reliable}
use Rattle.end_model.proofs.takings.reliable_taken.Goals as goal

pub returns : goal.returns
returns c =
    record {
      rows = record {
        mark = mark-reliable;
        give_all = give-reliable;
        give_ack = give_ack-reliable;
        please = please-reliable;
        alter = alter-reliable;
        start = start-reliable;
        interrupt = interrupt-reliable;
        discard = discard-reliable;
        interrupt_ack = interrupt_ack-reliable;
        disconnect = disconnect-reliable;
        abort = abort-reliable;
      };
    }
