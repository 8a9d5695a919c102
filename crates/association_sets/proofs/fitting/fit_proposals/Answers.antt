use Rattle.std.proofs.Common.{◌≡◌, ◌∙◌, List, [], length, drop, nat_le, sym, ap, arith}
use Rattle.std.proofs.lemmas.List.{drop_all}
use Rattle.osi_base.specs.declared.layer_words.Proposal.{Proposal}
use Rattle.association_ground.specs.end_rules.Sets.{fit_proposals}
use Rattle.association_sets.proofs.Fits.{all_fit}
use Rattle.association_sets.proofs.fitting.fit_proposals.Goals as goal

pub returns : goal.returns
returns c =
    let none : drop c.loop-place.place c.args.proposals.now ≡ [] = drop_all c.loop-place.place c.args.proposals.now (omega arith) in
    let end : length c.args.proposals.now ≡ c.loop-place.place = omega arith in
    ap (nat_le (length c.args.answers.now)) end
    ∙ sym (all_fit c.loop-place.place c.args.answers.now)
    ∙ ap (λ (ps : List Proposal). fit_proposals ps (drop c.loop-place.place c.args.answers.now)) (sym none)
    ∙ c.loop-place.invariant
