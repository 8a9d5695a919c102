use Rattle.std.proofs.Common.{◌≡◌, ◌∙◌, ap, sym, subst, List, [], drop}
use Rattle.std.specs.Vec.Iter.{into_iter_items}
use Rattle.std.proofs.lemmas.List.{drop_all}
use Rattle.osi_base.specs.declared.layer_words.Proposal.{Proposal}
use Rattle.osi_base.specs.declared.layer_words.AddAnswer.{AddAnswer}
use Rattle.context_sets.specs.Alterations.{with_additions}
use Rattle.context_sets.proofs.TooFew.{none_added}
use Rattle.context_sets.proofs.settling.put_additions.Goals as goal

pub returns-clause-items : goal.returns-clause-items
returns-clause-items c =
    let done : drop c.loop-answer.answer-index c.args.answers.now ≡ [] = drop_all c.loop-answer.answer-index c.args.answers.now c.loop-answer-test.false in
    sym (none_added (into_iter_items c.loop-answer.rest) c.loop-answer.items.items)
    ∙ subst (λ (xs : List AddAnswer). with_additions (into_iter_items c.loop-answer.rest) xs c.loop-answer.items.items ≡ with_additions (into_iter_items c.into_iter-rest.result) c.args.answers.now c.args.items.now.items) done c.loop-answer.invariant.rest
    ∙ ap (λ (xs : List Proposal). with_additions xs c.args.answers.now c.args.items.now.items) (c.into_iter-rest.ensures.rest ∙ c.into_vec.ensures)
