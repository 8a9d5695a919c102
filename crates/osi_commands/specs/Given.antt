-- Commands as the code has them, with names behind references.
use Rattle.module_check.specs.declared.command.Check.{Check as CheckWords}
use Rattle.module_check.specs.Command.{Check}
use Rattle.osi_commands.specs.declared.commands.TwoFiles.{TwoFiles as TwoFilesWords}
use Rattle.osi_commands.specs.declared.commands.Command.{Command as CommandWords}
use Rattle.osi_commands.specs.declared.commands.Command.TheVariants as words
use Rattle.osi_commands.specs.Commands.{TwoFiles, Command, checks, two_files}

abbrev pub check_given : CheckWords → Check
check_given c = record { «module» = c.«module».now; table = c.table }

abbrev pub two_files_given : TwoFilesWords → TwoFiles
two_files_given p = record { work = p.work; «module» = p.«module».now; second = p.second.now }

abbrev pub given : CommandWords → Command
given (words.Check c) = checks (check_given c)
given (words.TwoFiles p) = two_files (two_files_given p)
