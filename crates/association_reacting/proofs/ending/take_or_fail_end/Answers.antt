use Rattle.std.proofs.Common.{Option, sym, ap, subst, ◌∙◌}
use Rattle.std.specs.Prelude.{Result}
use Rattle.end_rules.specs.Base.{Fault}
use Rattle.end_rules.specs.Messages.{Word, OfActivities, End}
use Rattle.end_rules.specs.TakesActivities.{after_activity, answers_to_activity, shown_of_activity}
use Rattle.end_rules.specs.Reacting.{fails, on_word, word_fault}
use Rattle.association_words.specs.declared.faults.Fault as faults
use Rattle.association_words.specs.declared.values.Value.{Value}
use Rattle.association_words.specs.Seen.{seen_fault}
use Rattle.association_place.specs.association_state.Seen.{base_in, seen}
use Rattle.association_reacting.specs.ActivityEnds.{Arrives, ArrivesAs}
use Rattle.association_reacting.proofs.Reactions.{result_by, taken_so, misplaced, in_place}
use Rattle.association_reacting.proofs.ending.take_or_fail_end.Goals as goal

pub returns-then-not-placed : goal.returns-then-not-placed
returns-then-not-placed c =
    let b = base_in c.args.basis.now in
    let old = seen c.args.body.now in
    let word : Word = OfActivities (End c.args.number) in
    result_by (on_word b old word (word_fault b old word)) (fails old old.link.accepted (seen_fault c.at.result)) old (seen c.fails_on_accepted.new.body) c.fails_on_accepted.result
    (ap (on_word b old word) (misplaced b old word (sym c.is_in_place-placed.ensures ∙ c.if-not-placed.true)) ∙ ap (λ (f : Fault). fails old old.link.accepted f) (sym c.at.ensures))
    c.fails_on_accepted.ensures

pub end_taken-requires : goal.end_taken-requires
end_taken-requires c =
    let arrives : Arrives (base_in c.args.basis.now) (seen c.args.body.now) c.in-Ok.value
    = subst (λ (r : Result (Option Value) faults.Fault). ArrivesAs (base_in c.args.basis.now) (seen c.args.body.now) r) c.in-Ok.is c.requires in
    arrives.value_is

pub returns-in_ok-taken-in-Ok : goal.returns-in_ok-taken-in-Ok
returns-in_ok-taken-in-Ok c =
    let b = base_in c.args.basis.now in
    let old = seen c.args.body.now in
    let word : Word = OfActivities (End c.args.number) in
    let arrives : Arrives b old c.in-Ok.value = subst (λ (r : Result (Option Value) faults.Fault). ArrivesAs b old r) c.in-Ok.is c.requires in
    taken_so (on_word b old word (word_fault b old word)) (seen c.end_taken.new.body) (after_activity b old (End c.args.number)) (answers_to_activity b old (End c.args.number)) (shown_of_activity b old (End c.args.number)) c.in_ok-taken-in-Ok.taken
    (ap (on_word b old word) (in_place b old word (sym c.is_in_place-placed.ensures ∙ c.if-not-placed.false) ∙ arrives.sound))
    c.in_ok-taken-in-Ok.ensures.body c.in_ok-taken-in-Ok.ensures.taken

pub returns-in-Err : goal.returns-in-Err
returns-in-Err c =
    let b = base_in c.args.basis.now in
    let old = seen c.args.body.now in
    let word : Word = OfActivities (End c.args.number) in
    result_by (on_word b old word (word_fault b old word)) (fails old old.link.accepted (seen_fault c.in-Err.fault)) old (seen c.fails_on_accepted-in-Err.new.body) c.fails_on_accepted-in-Err.result
    (ap (on_word b old word) (in_place b old word (sym c.is_in_place-placed.ensures ∙ c.if-not-placed.false) ∙ subst (λ (r : Result (Option Value) faults.Fault). ArrivesAs b old r) c.in-Err.is c.requires))
    c.fails_on_accepted-in-Err.ensures
