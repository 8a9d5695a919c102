-- What follows the quote that ends a string.
use Rattle.std.proofs.Common.{◌≡◌, ℕ, ◌<◌, ◌≤◌, List, [], ◌∷◌, length, drop, get_or, None, refl, arith}
use Rattle.value_reading.specs.Forms.{by_letter, quoted_form}

pub no_letter : (inside end : List ℕ) → length end < 2 → quoted_form inside end ≡ None
no_letter inside [] h = refl
no_letter inside (quote ∷ []) h = refl
no_letter inside (quote ∷ letter ∷ rest) h = absurd (omega arith)

pub with_letter : (inside end : List ℕ) → 2 ≤ length end → quoted_form inside end ≡ by_letter inside (get_or end 1 0) (drop 2 end)
with_letter inside [] h = absurd (omega arith)
with_letter inside (quote ∷ []) h = absurd (omega arith)
with_letter inside (quote ∷ letter ∷ rest) h = refl
