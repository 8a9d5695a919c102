use Rattle.std.proofs.Common.{◌≡◌, ◌∙◌, ℕ, List, [], drop, sym, ap, arith}
use Rattle.std.proofs.lemmas.List.{drop_all}
use Rattle.association_ground.specs.end_rules.Sets.{with_deleted}
use Rattle.association_sets.proofs.Fits.{none_deleted}
use Rattle.association_sets.proofs.altering.delete.Goals as goal

pub returns-then-place-answers : goal.returns-then-place-answers
returns-then-place-answers c =
    let done : drop c.loop-place.place c.args.answers.now ≡ [] = drop_all c.loop-place.place c.args.answers.now (omega arith) in
    sym (none_deleted (drop c.loop-place.place c.args.ids.now) c.loop-place.set.items)
    ∙ ap (λ (xs : List ℕ). with_deleted (drop c.loop-place.place c.args.ids.now) xs c.loop-place.set.items) (sym done)
    ∙ c.loop-place.invariant
