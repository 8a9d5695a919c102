use Rattle.schedule_text.proofs.Bare.{bare_common}
use Rattle.schedule_text.proofs.laws.setups_of_bare_mode.Goals as goal

pub returns : goal.returns
returns c = bare_common
