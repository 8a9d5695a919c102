-- Sums that stand still at the last value of a count.
use Rattle.std.proofs.Common.{◌≡◌, ℕ, ◌+◌, ◌-◌, ◌^◌, ◌≤◌, min, List, ◌++◌, length, ap, ◌∙◌, arith, length-append}
use Rattle.osi_base.specs.Limits.{last_count}

-- one more piece is counted
pub record Grown (size rest whole : ℕ) : Type 0 where
  pub few : size ≤ last_count
  pub so_far : min (size + rest) last_count ≡ whole

pub grow : (size x r whole : ℕ) (text a rest : List ℕ) → x ≡ min (length a) last_count → r ≡ min (size + x) (2 ^ 64 - 1) → text ≡ a ++ rest
    → min (size + length text) last_count ≡ whole → Grown r (length rest) whole
grow size x r whole text a rest ex er et so_far =
    let e : length text ≡ length a + length rest = ap length et ∙ length-append a rest in
    record { few = omega arith; so_far = omega arith }

pub all_grown : (size whole : ℕ) (text : List ℕ) → size ≤ last_count → length text ≡ 0 → min (size + length text) last_count ≡ whole → size ≡ whole
all_grown size whole text le e so_far = omega arith

pub few_is : (n : ℕ) (text : List ℕ) → n ≡ length text → n ≤ 5 → n ≡ min (length text) last_count
few_is n text e le = omega arith
