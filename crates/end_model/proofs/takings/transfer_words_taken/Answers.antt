use Rattle.end_model.proofs.TransferRows.{part-taken, mark_ack-taken, resume-taken, end_ack-taken, finish-taken}
use Rattle.end_model.proofs.takings.transfer_words_taken.Goals as goal

pub returns : goal.returns
returns c =
    record {
      rows = record { part = part-taken; mark_ack = mark_ack-taken; resume = resume-taken; end_ack = end_ack-taken; finish = finish-taken };
    }
