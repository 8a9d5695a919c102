use Rattle.schedule_text.proofs.Run.{is_run}
use Rattle.schedule_text.proofs.laws.schedules_are_run.Goals as goal

pub returns : goal.returns
returns c = is_run
