use Rattle.osi_commands.specs.Commands.{command_of}
use Rattle.osi_commands.specs.TopCall.{IsAnswer}
use Rattle.osi_commands.proofs.Endings.{closed}
use Rattle.osi_commands.proofs.RunEnding.{asked_at_end}
use Rattle.osi_commands.proofs.run.run_words.Goals as goal

pub returns-clause-closes : goal.returns-clause-closes
returns-clause-closes g c =
    closed (IsAnswer (g.F.Files.told c.args.files.now) (g.F.Files.faults c.args.files.now) (g.F.Files.faults c.answer_words.new.files) (command_of c.args.words.now)) (g.F.Files.faults c.args.files.now) (g.F.Files.faults c.answer_words.new.files) (g.O.Sink.faults c.args.out.now) (g.O.Sink.faults c.conclude.new.out) (g.O.Sink.told c.args.out.now) (g.O.Sink.told c.conclude.new.out) c.conclude.result c.answer_words.result c.answer_words.ensures.answer c.answer_words.ensures.counts c.answer_words.ensures.err_count c.conclude.ensures.ends

pub returns-clause-asked_for : goal.returns-clause-asked_for
returns-clause-asked_for g c =
    asked_at_end (g.F.Files.asked c.args.files.now) (g.F.Files.asked c.answer_words.new.files) (g.O.Sink.faults c.args.out.now) (g.O.Sink.faults c.conclude.new.out) (g.O.Sink.told c.args.out.now) (g.O.Sink.told c.conclude.new.out) (command_of c.args.words.now) (g.F.Files.told c.args.files.now) (g.F.Files.faults c.args.files.now) (g.F.Files.faults c.answer_words.new.files) c.conclude.result c.answer_words.result c.answer_words.ensures.asked c.answer_words.ensures.asked_for c.conclude.ensures.ends
