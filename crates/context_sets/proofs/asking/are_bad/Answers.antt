use Rattle.std.proofs.Common.{◌≡◌, ◌∙◌, ℕ, List, ◌∷◌, ◌+◌, ◌<◌, length, drop, get_or, refl, sym, subst, add-one, drop-cons}
use Rattle.context_sets.specs.Alterations.{named_by}
use Rattle.context_sets.specs.Met.{GoesOn}
use Rattle.context_sets.proofs.Meeting.{goes_on}
use Rattle.context_sets.proofs.asking.are_bad.Goals as goal

first_left : (xs : List ℕ) (i : ℕ) → i < length xs → drop i xs ≡ get_or xs i 0 ∷ drop (i + 1) xs
first_left xs i h = rw (add-one, drop-cons xs i 0) refl

pub loop-id-preserved : goal.loop-id-preserved
loop-id-preserved c =
    goes_on c.loop-id.met _ (get_or c.as_slice-id-items.result.now c.loop-id.id-index 0) _ _
    (subst (λ (xs : List ℕ). GoesOn c.loop-id.met xs (named_by c.args.asked.now)) (first_left c.as_slice-id-items.result.now c.loop-id.id-index c.loop-id-test.true) c.loop-id.invariant)
    (sym c.in_ok-is_bad_next-2.ensures.bad ∙ c.if-branch-2.false)
    (rw c.if-branch-2.false at c.in_ok-is_bad_next-2.ensures.updates)
