use Rattle.module_compiler.proofs.Tabled.{rows_sound}
use Rattle.module_compiler.proofs.laws.faultless_rows_are_sound.Goals as goal

pub returns : goal.returns
returns c = rows_sound
