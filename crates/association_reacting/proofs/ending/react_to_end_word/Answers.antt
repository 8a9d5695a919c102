use Rattle.std.proofs.Common.{refl, sym, ap, ◌∙◌}
use Rattle.end_rules.specs.Base.{Fault}
use Rattle.end_rules.specs.Messages.{Word, OfActivities, End}
use Rattle.end_rules.specs.Reacting.{fails, react_to_word, on_word, word_fault}
use Rattle.association_words.specs.Seen.{seen_fault}
use Rattle.association_place.specs.association_state.Seen.{base_in, seen}
use Rattle.association_reacting.proofs.Reactions.{result_by, unconnected, purged, looked_at}
use Rattle.association_reacting.proofs.ending.react_to_end_word.Goals as goal

pub returns-then-not-has_connection : goal.returns-then-not-has_connection
returns-then-not-has_connection c =
    let b = base_in c.args.basis.now in
    let old = seen c.args.body.now in
    let word : Word = OfActivities (End c.args.number) in
    result_by (react_to_word b old word) (fails old old.link.accepted (seen_fault c.at.result)) old (seen c.fails_on_accepted.new.body) c.fails_on_accepted.result
    (unconnected b old word (sym c.has_connection.ensures ∙ c.if-not-has_connection.true) ∙ ap (λ (f : Fault). fails old old.link.accepted f) (sym c.at.ensures))
    c.fails_on_accepted.ensures

pub returns-then-purged : goal.returns-then-purged
returns-then-purged c = record {
  is = purged (base_in c.args.basis.now) (seen c.args.body.now) (OfActivities (End c.args.number)) (sym c.has_connection.ensures ∙ c.if-not-has_connection.false) (sym c.is_purged-purged.ensures ∙ c.if-purged.true);
  body = refl;
}

pub returns : goal.returns
returns c =
    let b = base_in c.args.basis.now in
    let old = seen c.args.body.now in
    let word : Word = OfActivities (End c.args.number) in
    result_by (react_to_word b old word) (on_word b old word (word_fault b old word)) old (seen c.take_or_fail_end.new.body) c.take_or_fail_end.result
    (looked_at b old word (sym c.has_connection.ensures ∙ c.if-not-has_connection.false) (sym c.is_purged-purged.ensures ∙ c.if-purged.false))
    c.take_or_fail_end.ensures
