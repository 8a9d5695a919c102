-- One list of octets in two ways, and its parts.
use Rattle.std.proofs.Common.{◌≡◌, refl, sym, ℕ, ◌≤◌, List, [], ◌∷◌, ◌++◌, length, arith}

pub record Cut (a b c d : List ℕ) : Type 0 where
  pub more : List ℕ
  pub front : a ≡ c ++ more
  pub back : d ≡ more ++ b

pub cut : (a b c d : List ℕ) → a ++ b ≡ c ++ d → length c ≤ length a → Cut a b c d
cut a b [] d e l = record { more = a; front = refl; back = sym e }
cut [] b (y ∷ c) d e l = absurd (omega arith)
cut (x ∷ a) b (y ∷ c) d e l =
    let head : x ≡ y = cc in
    let tail : a ++ b ≡ c ++ d = cc in
    let k = cut a b c d tail (omega arith) in
    record { more = k.more; front = (λ i. head i ∷ k.front i); back = k.back }
