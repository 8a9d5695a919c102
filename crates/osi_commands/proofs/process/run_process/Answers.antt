use Rattle.osi_commands.specs.Process.{words_given}
use Rattle.osi_commands.proofs.Exiting.{exits_read, exits_unread}
use Rattle.osi_commands.proofs.process.run_process.Goals as goal

pub returns-in-Ok-clause-exits : goal.returns-in-Ok-clause-exits
returns-in-Ok-clause-exits g c =
    exits_read (g.F.Files.told c.args.files.now) (g.F.Files.faults c.args.files.now) (g.F.Files.faults c.osi_run.new.files) c.in-Ok.words (words_given c.args.arguments) (g.F.Files.asked c.args.files.now) (g.F.Files.asked c.osi_run.new.files) (g.O.Sink.faults c.args.out.now) (g.O.Sink.faults c.osi_run.new.out) (g.O.Sink.told c.args.out.now) (g.O.Sink.told c.osi_run.new.out) c.osi_run.result c.exit_code.result c.in-Ok.ensures.words c.osi_run.ensures.closes c.osi_run.ensures.asked_for c.exit_code.ensures

pub returns-in-Err-clause-exits : goal.returns-in-Err-clause-exits
returns-in-Err-clause-exits g c = exits_unread (g.F.Files.told c.args.files.now) (g.F.Files.faults c.args.files.now) (words_given c.args.arguments) (g.F.Files.asked c.args.files.now) (g.O.Sink.faults c.args.out.now) (g.O.Sink.told c.args.out.now) c.exit_code-in-Err.result c.exit_code-in-Err.ensures
