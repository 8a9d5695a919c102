use Rattle.std.proofs.Common.{sym, ap, ◌∙◌}
use Rattle.std.specs.Prelude.{option_map}
use Rattle.end_rules.specs.Reacting.{fails, on_word, word_fault, contexts_of_word, after_word, answers_to_word, shown_of_word}
use Rattle.association_words.specs.Seen.{seen_fault, seen_word}
use Rattle.association_place.specs.association_state.Seen.{base_in, seen}
use Rattle.association_reacting.proofs.Reactions.{result_by, taken_so}
use Rattle.association_reacting.proofs.taking.take_or_fail.Goals as goal

pub returns-in-Some : goal.returns-in-Some
returns-in-Some c =
    let b = base_in c.args.basis.now in
    let old = seen c.args.body.now in
    let word = seen_word c.args.word in
    result_by (on_word b old word (word_fault b old word)) (fails old (contexts_of_word b old word) (seen_fault c.in-Some.fault)) old (seen c.fail_word-reaction.new.body) c.fail_word-reaction.result
    (ap (on_word b old word) (sym (sym (ap (option_map seen_fault) c.in-Some.is) ∙ c.in-Ok.ensures)))
    c.fail_word-reaction.ensures

pub take_word-requires-clause-right : goal.take_word-requires-clause-right
take_word-requires-clause-right c = sym (sym (ap (option_map seen_fault) c.in-None.is) ∙ c.in-Ok.ensures)

pub returns-in_ok-taken-in-None : goal.returns-in_ok-taken-in-None
returns-in_ok-taken-in-None c =
    let b = base_in c.args.basis.now in
    let old = seen c.args.body.now in
    let word = seen_word c.args.word in
    taken_so (on_word b old word (word_fault b old word)) (seen c.take_word.new.body) (after_word b old word) (answers_to_word b old word) (shown_of_word b old word) c.in_ok-taken-in-None.taken
    (ap (on_word b old word) (sym (sym (ap (option_map seen_fault) c.in-None.is) ∙ c.in-Ok.ensures)))
    c.in_ok-taken-in-None.ensures.body c.in_ok-taken-in-None.ensures.taken
