-- The numbers of invocations: an end numbers its own one after the other, so that all are different.
use Rattle.std.proofs.Common.{◌≡◌, sym, subst, ℕ, suc, List, [], ◌∷◌, ◌++◌, arith}
use Rattle.std.specs.Prelude.{ℤ, pos, negsuc, true, nat_le}
use Rattle.std.proofs.lemmas.Bool.Decides.{nat_tests}
use Rattle.std.proofs.lemmas.List.{append-nil}
use Rattle.stub_tables.specs.declared.apdu.Apdu.{Apdu}
use Rattle.stub_tables.specs.declared.apdu.Apdu.TheVariants as apdus
use Rattle.outcome_laws.proofs.Open.{is_made}
use Rattle.association_runs.proofs.Telling.{IsFresh, AreFresh}

-- the identifier of an invocation
abbrev pub apdu_invokes : Apdu → List ℤ
apdu_invokes (apdus.Invoke id linked code argument) = id ∷ []
apdu_invokes apdu = []

-- ---- numbers that are all different, and were given

abbrev pub AllGiven : ℕ → List ℤ → Type 0
AllGiven made [] = Unit {0}
AllGiven made (i ∷ is) = (is_made made i ≡ true) × AllGiven made is

pub record IsGood (made : ℕ) (is : List ℤ) : Type 0 where
  pub fresh : AreFresh is
  pub given : AllGiven made is

fresh-append : (i : ℤ) (xs ys : List ℤ) → IsFresh i xs → IsFresh i ys → IsFresh i (xs ++ ys)
fresh-append i [] ys h k = k
fresh-append i (x ∷ xs) ys h k = (h.0, fresh-append i xs ys h.1 k)

pub fresh-front-one : (i : ℤ) (xs ys : List ℤ) → IsFresh i (xs ++ ys) → IsFresh i xs
fresh-front-one i [] ys h = tt
fresh-front-one i (x ∷ xs) ys h = (h.0, fresh-front-one i xs ys h.1)

pub fresh-back : (i : ℤ) (xs ys : List ℤ) → IsFresh i (xs ++ ys) → IsFresh i ys
fresh-back i [] ys h = h
fresh-back i (x ∷ xs) ys h = fresh-back i xs ys h.1

given-append : (made : ℕ) (xs ys : List ℤ) → AllGiven made xs → AllGiven made ys → AllGiven made (xs ++ ys)
given-append made [] ys h k = k
given-append made (x ∷ xs) ys h k = (h.0, given-append made xs ys h.1 k)

given-front : (made : ℕ) (xs ys : List ℤ) → AllGiven made (xs ++ ys) → AllGiven made xs
given-front made [] ys h = tt
given-front made (x ∷ xs) ys h = (h.0, given-front made xs ys h.1)

given-back : (made : ℕ) (xs ys : List ℤ) → AllGiven made (xs ++ ys) → AllGiven made ys
given-back made [] ys h = h
given-back made (x ∷ xs) ys h = given-back made xs ys h.1

-- without those in the middle
fresh-skip : (xs ys zs : List ℤ) → AreFresh (xs ++ (ys ++ zs)) → AreFresh (xs ++ zs)
fresh-skip [] [] zs h = h
fresh-skip [] (y ∷ ys) zs h = fresh-skip [] ys zs h.1
fresh-skip (x ∷ xs) ys zs h = (fresh-append x xs zs (fresh-front-one x xs (ys ++ zs) h.0) (fresh-back x ys zs (fresh-back x xs (ys ++ zs) h.0)), fresh-skip xs ys zs h.1)

pub fresh-front : (xs ys : List ℤ) → AreFresh (xs ++ ys) → AreFresh xs
fresh-front [] ys h = tt
fresh-front (x ∷ xs) ys h = (fresh-front-one x xs ys h.0, fresh-front xs ys h.1)

pub good-skip : (made : ℕ) (xs ys zs : List ℤ) → IsGood made (xs ++ (ys ++ zs)) → IsGood made (xs ++ zs)
good-skip made xs ys zs h =
    record { fresh = fresh-skip xs ys zs h.fresh; given = given-append made xs zs (given-front made xs (ys ++ zs) h.given) (given-back made ys zs (given-back made xs (ys ++ zs) h.given)) }

-- it is none of these
abbrev pub IsOther : ℤ → List ℤ → Type 0
IsOther i [] = Unit {0}
IsOther i (x ∷ xs) = (i ≡ x → ⊥) × IsOther i xs

pub fresh-snoc : (xs : List ℤ) (i : ℤ) → AreFresh xs → IsOther i xs → AreFresh (xs ++ i ∷ [])
fresh-snoc [] i h n = (tt, tt)
fresh-snoc (x ∷ xs) i h n = (fresh-append x xs (i ∷ []) h.0 (n.0, tt), fresh-snoc xs i h.1 n.1)

not-next : (made : ℕ) (i : ℤ) → is_made made i ≡ true → pos (suc made) ≡ i → ⊥
not-next made (pos n) h e = let same : suc made ≡ n = cc in clash made n h same
  where
    clash : (made n : ℕ) → nat_le n made ≡ true → suc made ≡ n → ⊥
    clash made n h e = grind (arith, nat_tests)
not-next made (negsuc n) h e = cc

next-other : (made : ℕ) (xs : List ℤ) → AllGiven made xs → IsOther (pos (suc made)) xs
next-other made [] h = tt
next-other made (x ∷ xs) h = (not-next made x h.0, next-other made xs h.1)

more-made : (made : ℕ) (i : ℤ) → is_made made i ≡ true → is_made (suc made) i ≡ true
more-made made (pos n) h = grind (arith, nat_tests, h)
more-made made (negsuc n) h = cc

is-next : (made : ℕ) → is_made (suc made) (pos (suc made)) ≡ true
is-next made = grind (arith, nat_tests)

given-more : (made : ℕ) (xs : List ℤ) → AllGiven made xs → AllGiven (suc made) xs
given-more made [] h = tt
given-more made (x ∷ xs) h = (more-made made x h.0, given-more made xs h.1)

pub good-next : (made : ℕ) (xs : List ℤ) → IsGood made xs → IsGood (suc made) (xs ++ pos (suc made) ∷ [])
good-next made xs h =
    record { fresh = fresh-snoc xs (pos (suc made)) h.fresh (next-other made xs h.given); given = given-append (suc made) xs (pos (suc made) ∷ []) (given-more made xs h.given) (is-next made, tt) }

pub good-none : (made : ℕ) (xs : List ℤ) → IsGood made xs → IsGood made (xs ++ [])
good-none made xs h = subst (IsGood made) (sym (append-nil xs)) h
