-- How many octets fields have at most.
use Rattle.std.proofs.Common.{◌≡◌, true, false, sym, subst, arith, ℕ, zero, suc, ◌+◌, ◌*◌, ◌/◌, ◌%◌, ◌^◌, ◌≤◌, ◌<◌, pos, List, [], ◌∷◌, ◌++◌, length}
use Rattle.std.specs.Prelude.{Bool, nat_eq, nat_lt, if◌then◌else◌}
use Rattle.std.proofs.lemmas.Bool.{lt-ltb}
use Rattle.std.proofs.lemmas.List.{length-append}
use Rattle.asn1_types.specs.declared.row.Tag as tags
use Rattle.asn1_types.specs.Writing.{natural_octets, integer_octets, digits_256, base_256, identifier, length_octets, definite}

-- numbers below 128, and 256 times as many with an octet more
abbrev pub small_for : ℕ → ℕ
small_for zero = 128
small_for (suc k) = 256 * small_for k

less-by : (n m : ℕ) → n < 256 * m → n / 256 < m
less-by n m h = omega arith

pub natural-length : (k turns n : ℕ) (behind : List ℕ) → n < small_for k → length (natural_octets turns n behind) ≤ suc k + length behind
natural-length k zero n behind h = omega arith
natural-length zero (suc turns) n behind h = ap-le
  where
    ap-le : length (if nat_lt n 128 then n ∷ behind else natural_octets turns (n / 256) ((n % 256) ∷ behind)) ≤ 1 + length behind
    ap-le = subst (λ b. length (if b then n ∷ behind else natural_octets turns (n / 256) ((n % 256) ∷ behind)) ≤ 1 + length behind) (sym (lt-ltb n 128 h)) (omega arith)
natural-length (suc k) (suc turns) n behind h = go (natural-length k turns (n / 256) ((n % 256) ∷ behind) (less-by n (small_for k) h)) (nat_lt n 128)
  where
    go : length (natural_octets turns (n / 256) ((n % 256) ∷ behind)) ≤ suc k + suc (length behind) → (b : Bool) → length (if b then n ∷ behind else natural_octets turns (n / 256) ((n % 256) ∷ behind)) ≤ suc (suc k) + length behind
    go later true = omega arith
    go later false = omega arith

pub integer-length : (k n : ℕ) → n < small_for k → length (integer_octets (pos n)) ≤ suc k
unfolding integer_octets
integer-length k n h = let l = natural-length k n n [] h in omega arith

digits-length : (k turns n : ℕ) (behind : List ℕ) → n < 256 ^ k → length (digits_256 turns n behind) ≤ k + length behind
digits-length k zero n behind h = omega arith
digits-length zero (suc turns) n behind h =
    let none : n ≡ 0 = omega arith in
    let s : length (if nat_eq n 0 then behind else digits_256 turns (n / 256) ((n % 256) ∷ behind)) ≤ length behind =
    subst (λ (m : ℕ). length (if nat_eq m 0 then behind else digits_256 turns (m / 256) ((m % 256) ∷ behind)) ≤ length behind) (sym none) (omega arith) in
    omega arith
digits-length (suc k) (suc turns) n behind h = go (digits-length k turns (n / 256) ((n % 256) ∷ behind) (lower n k h)) (nat_eq n 0)
  where
    lower : (n k : ℕ) → n < 256 ^ suc k → n / 256 < 256 ^ k
    lower n k h = less-by n (256 ^ k) (subst (λ m. n < m) (powers k) h)
      where
        powers : (k : ℕ) → 256 ^ suc k ≡ 256 * 256 ^ k
        powers k = omega arith

    go : length (digits_256 turns (n / 256) ((n % 256) ∷ behind)) ≤ k + suc (length behind) → (b : Bool) → length (if b then behind else digits_256 turns (n / 256) ((n % 256) ∷ behind)) ≤ suc k + length behind
    go later true = omega arith
    go later false = omega arith

base-length : (n : ℕ) → n < 2 ^ 24 → length (base_256 n) ≤ 3
unfolding base_256
base-length n h = let l = digits-length 3 n n [] (omega arith) in omega arith

-- a field with a low tag number, of fewer than 2^24 octets
pub definite-length : (constructed : Bool) (tag : tags.Tag) (c : List ℕ) → tag.number < 31 → length c < 2 ^ 24 → length (definite constructed tag c) ≤ 5 + length c
definite-length constructed tag c low few =
    let a : length (identifier tag.class constructed tag.number) ≤ 1 = one (nat_lt tag.number 31) (lt-ltb tag.number 31 low) _ _ _ in
    let b : length (length_octets (length c)) ≤ 4 = at-most (nat_lt (length c) 128) in
    let d = length-append (identifier tag.class constructed tag.number) (length_octets (length c) ++ c) in
    let e = length-append (length_octets (length c)) c in
    omega arith
  where
    one : (b : Bool) → b ≡ true → (x y : ℕ) (ys : List ℕ) → length (if b then x ∷ [] else y ∷ ys) ≤ 1
    one true e x y ys = omega arith
    one false e x y ys = cc

    at-most : (b : Bool) → length (if b then length c ∷ [] else (128 + length (base_256 (length c))) ∷ base_256 (length c)) ≤ 4
    at-most true = omega arith
    at-most false = let l = base-length (length c) few in omega arith
