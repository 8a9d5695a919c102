use Rattle.schedule_text.proofs.LineLaws.{first_fault}
use Rattle.schedule_text.proofs.laws.every_text_has_one_reading.Goals as goal

pub returns : goal.returns
returns c = first_fault
