use Rattle.osi_commands.specs.Given.{two_files_given}
use Rattle.osi_commands.proofs.TwoFilesReading.{typed_whole}
use Rattle.osi_commands.proofs.TwoFilesCases.{two_files_refused, two_files_worked, two_files_asked}
use Rattle.osi_commands.proofs.module_and_file.answer_two_files.Goals as goal

pub returns-in-Answered-clause-answer : goal.returns-in-Answered-clause-answer
returns-in-Answered-clause-answer g c = two_files_refused _ _ _ _ _ _ c.in-Answered.is c.in_ok-answer.ensures.read

pub returns-in_ok-answer-in-Whole-clause-answer : goal.returns-in_ok-answer-in-Whole-clause-answer
returns-in_ok-answer-in-Whole-clause-answer g c =
    two_files_worked _ _ _ (two_files_given c.args.named) _ _ _ _ _ c.in-Whole.is c.in_ok-answer.ensures.read c.as_slice.ensures c.in_ok-answer-in-Whole.ensures

pub returns-in_ok-answer-in-Whole-clause-asked_for : goal.returns-in_ok-answer-in-Whole-clause-asked_for
returns-in_ok-answer-in-Whole-clause-asked_for g c =
    two_files_asked (two_files_given c.args.named) _ _ _ _ _ _ _ c.in-Whole.is c.in_ok-answer.ensures.asked_for c.in_ok-answer-in-Whole.ensures

pub answer_octets-requires : goal.answer_octets-requires
answer_octets-requires g c = record { typed = typed_whole _ _ _ c.in-Whole.is c.in_ok-answer.ensures.typed }
