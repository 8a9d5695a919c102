use Rattle.std.proofs.Common.{refl, sym, ap, ◌∙◌}
use Rattle.end_rules.specs.Base.{Fault}
use Rattle.end_rules.specs.Reacting.{fails, react_to_word, on_word, word_fault}
use Rattle.association_words.specs.Seen.{seen_fault, seen_word}
use Rattle.association_place.specs.association_state.Seen.{base_in, seen}
use Rattle.association_reacting.proofs.Reactions.{result_by, unconnected, purged, looked_at}
use Rattle.association_reacting.proofs.reacting.react_to_word.Goals as goal

pub returns-then-not-has_connection : goal.returns-then-not-has_connection
returns-then-not-has_connection c =
    let b = base_in c.args.basis.now in
    let old = seen c.args.body.now in
    result_by (react_to_word b old (seen_word c.args.word)) (fails old old.link.accepted (seen_fault c.at.result)) old (seen c.fails_on_accepted.new.body) c.fails_on_accepted.result
    (unconnected b old (seen_word c.args.word) (sym c.has_connection.ensures ∙ c.if-not-has_connection.true) ∙ ap (λ (f : Fault). fails old old.link.accepted f) (sym c.at.ensures))
    c.fails_on_accepted.ensures

pub returns-then-is_purged : goal.returns-then-is_purged
returns-then-is_purged c = record {
  is = purged (base_in c.args.basis.now) (seen c.args.body.now) (seen_word c.args.word) (sym c.has_connection.ensures ∙ c.if-not-has_connection.false) (sym c.is_purged.ensures ∙ c.if-is_purged.true);
  body = refl;
}

pub returns : goal.returns
returns c =
    let b = base_in c.args.basis.now in
    let old = seen c.args.body.now in
    result_by (react_to_word b old (seen_word c.args.word)) (on_word b old (seen_word c.args.word) (word_fault b old (seen_word c.args.word))) old (seen c.take_or_fail.new.body) c.take_or_fail.result
    (looked_at b old (seen_word c.args.word) (sym c.has_connection.ensures ∙ c.if-not-has_connection.false) (sym c.is_purged.ensures ∙ c.if-is_purged.false))
    c.take_or_fail.ensures
