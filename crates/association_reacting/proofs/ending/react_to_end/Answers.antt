use Rattle.std.proofs.Common.{refl, sym, ◌∙◌}
use Rattle.end_rules.specs.Messages.{OfActivities, End, Session}
use Rattle.end_rules.specs.Reacting.{react, react_to_word}
use Rattle.association_place.specs.association_state.Seen.{base_in, seen}
use Rattle.association_reacting.proofs.Reactions.{result_by, passed_over, of_word}
use Rattle.association_reacting.proofs.ending.react_to_end.Goals as goal

pub returns-then-passes_over : goal.returns-then-passes_over
returns-then-passes_over c = record {
  is = passed_over (base_in c.args.basis.now) (seen c.args.body.now) (Session (OfActivities (End c.args.number))) (sym c.passes_over.ensures ∙ c.if-passes_over.true);
  body = refl;
}

pub returns : goal.returns
returns c =
    let b = base_in c.args.basis.now in
    let old = seen c.args.body.now in
    result_by (react b old (Session (OfActivities (End c.args.number)))) (react_to_word b old (OfActivities (End c.args.number))) old (seen c.react_to_end_word.new.body) c.react_to_end_word.result
    (of_word b old (OfActivities (End c.args.number)) c.requires.associated (sym c.passes_over.ensures ∙ c.if-passes_over.false))
    c.react_to_end_word.ensures
