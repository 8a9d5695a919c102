-- The numbers with which the program ends.
use Rattle.std.specs.Prelude.{ℕ}
use Rattle.osi_base.specs.declared.layer_words.Status.{Status}
use Rattle.osi_base.specs.declared.layer_words.Status.TheVariants.{Done, Usage, ReadFault, WriteFault, LineFault, ModuleRefused, ScriptRefused, Ended, Spent, NoMemory}

abbrev pub exit_code : Status → ℕ
exit_code Done = 0
exit_code Usage = 2
exit_code ReadFault = 3
exit_code WriteFault = 4
exit_code LineFault = 5
exit_code ModuleRefused = 6
exit_code ScriptRefused = 7
exit_code Ended = 8
exit_code Spent = 9
exit_code NoMemory = 10
