use Rattle.std.proofs.Common.{refl}
use Rattle.osi_commands.specs.Commands.{command_of}
use Rattle.osi_commands.specs.Given.{given}
use Rattle.osi_commands.proofs.RunEnding.{answers_none, answers_some, asks_none, asks_some, asked_none, asked_some}
use Rattle.osi_commands.proofs.run.answer_words.Goals as goal

pub returns-in-None-clause-answer : goal.returns-in-None-clause-answer
returns-in-None-clause-answer g c = answers_none (g.F.Files.told c.args.files.now) (g.F.Files.faults c.args.files.now) (g.F.Files.faults c.args.files.now) c.usage.result (command_of c.args.words.now) c.in-None.ensures c.usage.ensures

pub returns-in-Some-clause-answer : goal.returns-in-Some-clause-answer
returns-in-Some-clause-answer g c =
    answers_some (g.F.Files.told c.args.files.now) (g.F.Files.faults c.args.files.now) (g.F.Files.faults c.answer_command.new.files) c.answer_command.result (command_of c.args.words.now) (given c.in-Some.command) c.in-Some.ensures c.answer_command.ensures.answer

pub returns-in-None-clause-asked : goal.returns-in-None-clause-asked
returns-in-None-clause-asked g c = asks_none (g.F.Files.told c.args.files.now) (g.F.Files.faults c.args.files.now) (g.F.Files.faults c.args.files.now) (g.F.Files.asked c.args.files.now) (g.F.Files.asked c.args.files.now) (command_of c.args.words.now) c.in-None.ensures refl

pub returns-in-Some-clause-asked : goal.returns-in-Some-clause-asked
returns-in-Some-clause-asked g c =
    asks_some (g.F.Files.told c.args.files.now) (g.F.Files.faults c.args.files.now) (g.F.Files.faults c.answer_command.new.files) (g.F.Files.asked c.args.files.now) (g.F.Files.asked c.answer_command.new.files) (command_of c.args.words.now) (given c.in-Some.command) c.in-Some.ensures c.answer_command.ensures.asked

pub returns-in-None-clause-asked_for : goal.returns-in-None-clause-asked_for
returns-in-None-clause-asked_for g c = asked_none (g.F.Files.asked c.args.files.now) (g.F.Files.asked c.args.files.now) c.usage.result (command_of c.args.words.now) c.in-None.ensures refl

pub returns-in-Some-clause-asked_for : goal.returns-in-Some-clause-asked_for
returns-in-Some-clause-asked_for g c =
    asked_some (g.F.Files.asked c.args.files.now) (g.F.Files.asked c.answer_command.new.files) c.answer_command.result (command_of c.args.words.now) (given c.in-Some.command) c.in-Some.ensures c.answer_command.ensures.asked_for
