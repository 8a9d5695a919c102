use Rattle.osi_commands.specs.Given.{check_given}
use Rattle.osi_commands.proofs.CheckAnswers.{checks_read}
use Rattle.osi_commands.proofs.checking.answer_check.Goals as goal

pub returns-in_ok-answer-in-Some-clause-answer : goal.returns-in_ok-answer-in-Some-clause-answer
returns-in_ok-answer-in-Some-clause-answer g c =
    checks_read _ _ _ (check_given c.args.check) _ _ _ _ c.in_ok-read_file.ensures.read c.in-Some.is c.as_slice.ensures c.in_ok-answer-in-Some.ensures
