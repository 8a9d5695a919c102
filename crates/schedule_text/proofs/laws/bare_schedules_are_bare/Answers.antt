use Rattle.schedule_text.proofs.BareRun.{are_bare}
use Rattle.schedule_text.proofs.laws.bare_schedules_are_bare.Goals as goal

pub returns : goal.returns
returns c = are_bare
