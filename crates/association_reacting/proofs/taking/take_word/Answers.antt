use Rattle.std.proofs.Common.{None, false, not, sym, subst, ◌≡◌}
use Rattle.std.specs.Prelude.{IfOk, OnOk}
use Rattle.end_rules.specs.Messages.{unit_of, OfAssociation}
use Rattle.end_rules.specs.InPlace.{is_in_place}
use Rattle.end_rules.specs.Faults.{session_fault}
use Rattle.end_rules.specs.TakesAssociation.{association_fault}
use Rattle.end_rules.specs.Reacting.{word_fault, after_word, answers_to_word, shown_of_word}
use Rattle.association_words.specs.declared.words.Word.{Word}
use Rattle.association_words.specs.Seen.{seen_association, seen_word}
use Rattle.association_place.specs.association_state.Seen.{base_in, seen}
use Rattle.association_connecting.specs.association_answers.BroughtAs.{TakenAs}
use Rattle.association_reacting.specs.ActivityEnds.{is_end_word}
use Rattle.association_reacting.proofs.Reactions.{nothing_later}
use Rattle.association_reacting.proofs.taking.take_word.Goals as goal

pub take_association-requires : goal.take_association-requires
take_association-requires c =
    let b = base_in c.args.basis.now in
    let old = seen c.args.body.now in
    let word = seen_association c.in-OfAssociation.word in
    nothing_later (not (is_in_place b old (unit_of (OfAssociation word)))) session_fault (association_fault b old word)
    (subst (λ (w : Word). word_fault b old (seen_word w) ≡ None) c.in-OfAssociation.is c.requires.right)

pub take_activity-requires : goal.take_activity-requires
take_activity-requires c = subst (λ (w : Word). is_end_word (seen_word w) ≡ false) c.in-OfActivities.is c.requires.other

pub returns-in-OfAssociation-clause-body : goal.returns-in-OfAssociation-clause-body
returns-in-OfAssociation-clause-body c =
    subst (λ (w : Word). OnOk c.take_association.result (seen c.take_association.new.body ≡ after_word (base_in c.args.basis.now) (seen c.args.body.now) (seen_word w))) (sym c.in-OfAssociation.is) c.take_association.ensures.body

pub returns-in-OfAssociation-clause-taken : goal.returns-in-OfAssociation-clause-taken
returns-in-OfAssociation-clause-taken c =
    subst (λ (w : Word). IfOk c.take_association.result (TakenAs (answers_to_word (base_in c.args.basis.now) (seen c.args.body.now) (seen_word w)) (shown_of_word (base_in c.args.basis.now) (seen c.args.body.now) (seen_word w)))) (sym c.in-OfAssociation.is) c.take_association.ensures.taken

pub returns-in-OfData-clause-body : goal.returns-in-OfData-clause-body
returns-in-OfData-clause-body c =
    subst (λ (w : Word). OnOk c.take_data.result (seen c.take_data.new.body ≡ after_word (base_in c.args.basis.now) (seen c.args.body.now) (seen_word w))) (sym c.in-OfData.is) c.take_data.ensures.body

pub returns-in-OfData-clause-taken : goal.returns-in-OfData-clause-taken
returns-in-OfData-clause-taken c =
    subst (λ (w : Word). IfOk c.take_data.result (TakenAs (answers_to_word (base_in c.args.basis.now) (seen c.args.body.now) (seen_word w)) (shown_of_word (base_in c.args.basis.now) (seen c.args.body.now) (seen_word w)))) (sym c.in-OfData.is) c.take_data.ensures.taken

pub returns-in-OfMarks-clause-body : goal.returns-in-OfMarks-clause-body
returns-in-OfMarks-clause-body c =
    subst (λ (w : Word). OnOk c.take_mark.result (seen c.take_mark.new.body ≡ after_word (base_in c.args.basis.now) (seen c.args.body.now) (seen_word w))) (sym c.in-OfMarks.is) c.take_mark.ensures.body

pub returns-in-OfMarks-clause-taken : goal.returns-in-OfMarks-clause-taken
returns-in-OfMarks-clause-taken c =
    subst (λ (w : Word). IfOk c.take_mark.result (TakenAs (answers_to_word (base_in c.args.basis.now) (seen c.args.body.now) (seen_word w)) (shown_of_word (base_in c.args.basis.now) (seen c.args.body.now) (seen_word w)))) (sym c.in-OfMarks.is) c.take_mark.ensures.taken

pub returns-in-OfActivities-clause-body : goal.returns-in-OfActivities-clause-body
returns-in-OfActivities-clause-body c =
    subst (λ (w : Word). OnOk c.take_activity.result (seen c.take_activity.new.body ≡ after_word (base_in c.args.basis.now) (seen c.args.body.now) (seen_word w))) (sym c.in-OfActivities.is) c.take_activity.ensures.body

pub returns-in-OfActivities-clause-taken : goal.returns-in-OfActivities-clause-taken
returns-in-OfActivities-clause-taken c =
    subst (λ (w : Word). IfOk c.take_activity.result (TakenAs (answers_to_word (base_in c.args.basis.now) (seen c.args.body.now) (seen_word w)) (shown_of_word (base_in c.args.basis.now) (seen c.args.body.now) (seen_word w)))) (sym c.in-OfActivities.is) c.take_activity.ensures.taken
