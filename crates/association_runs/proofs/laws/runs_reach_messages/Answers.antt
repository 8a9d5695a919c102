use Rattle.association_runs.proofs.Reached.{reach-messages, take-in-place, show-what-is-taken, never-fail, have-one-holder, transfer-whole}
use Rattle.association_runs.proofs.laws.runs_reach_messages.Goals as goal

pub returns : goal.returns
returns c = record { reached = reach-messages; places = take-in-place; shown = show-what-is-taken; calm = never-fail; holder = have-one-holder; whole = transfer-whole }
