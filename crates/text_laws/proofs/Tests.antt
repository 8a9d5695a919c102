-- Tests of lists and of pairs.
use Rattle.std.proofs.Common.{◌≡◌, ℕ, zero, suc, ◌<◌, Bool, true, false, not, List, [], ◌∷◌, ◌++◌, refl, arith}
use Rattle.std.specs.Prelude.{◌&&◌, ◌||◌}
use Rattle.std.specs.List.{list_all}

pub both_true : (a b : Bool) → (a && b) ≡ true → (a ≡ true) × (b ≡ true)
both_true true true e = (refl, refl)
both_true true false e = absurd (let no : ⊥ = cc in no)
both_true false true e = absurd (let no : ⊥ = cc in no)
both_true false false e = absurd (let no : ⊥ = cc in no)

pub both_false : (a b : Bool) → (a || b) ≡ false → (a ≡ false) × (b ≡ false)
both_false true true e = absurd (let no : ⊥ = cc in no)
both_false true false e = absurd (let no : ⊥ = cc in no)
both_false false true e = absurd (let no : ⊥ = cc in no)
both_false false false e = (refl, refl)

pub not_true : (a : Bool) → not a ≡ true → a ≡ false
not_true true e = absurd (let no : ⊥ = cc in no)
not_true false e = refl

pub all-append : {X : Type 0} (test : X → Bool) (xs ys : List X) → list_all test xs ≡ true → list_all test ys ≡ true → list_all test (xs ++ ys) ≡ true
all-append test [] ys h k = k
all-append test (x ∷ xs) ys h k = let p = both_true (test x) (list_all test xs) h in rw p.0 (all-append test xs ys p.1 k)

pub all_so : {X : Type 0} (test other : X → Bool) → ((x : X) → test x ≡ true → other x ≡ true) → (xs : List X) → list_all test xs ≡ true → list_all other xs ≡ true
all_so test other h [] k = refl
all_so test other h (x ∷ xs) k = let p = both_true (test x) (list_all test xs) k in rw (h x p.0) (all_so test other h xs p.1)

-- a test of all numbers below one
abbrev pub all_below : ℕ → (ℕ → Bool) → Bool
all_below zero test = true
all_below (suc n) test = test 0 && all_below n (λ k. test (suc k))

pub each_below : (n : ℕ) (test : ℕ → Bool) → all_below n test ≡ true → (i : ℕ) → i < n → test i ≡ true
each_below zero test h i lt = absurd (omega arith)
each_below (suc n) test h zero lt = (both_true (test 0) (all_below n (λ k. test (suc k))) h).0
each_below (suc n) test h (suc i) lt =
    let less : i < n = omega arith in
    each_below n (λ k. test (suc k)) (both_true (test 0) (all_below n (λ k. test (suc k))) h).1 i less
