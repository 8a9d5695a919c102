use Rattle.counted_runs.proofs.Whole.{take-when-whole}
use Rattle.counted_runs.proofs.laws.messages_are_taken_when_whole.Goals as goal

pub returns : goal.returns
returns c = record { law = take-when-whole c.beginnings_bring_nothing.ensures.law }
