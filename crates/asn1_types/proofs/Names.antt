-- Names that have the same octets.
use Rattle.std.proofs.Common.{◌≡◌, ℕ, Bool, true, false, List, [], ◌∷◌, ◌↔◌, refl, sym, ap, ◌∙◌, arith}
use Rattle.std.specs.Prelude.{IsTrue, nat_eq}
use Rattle.std.proofs.lemmas.Bool.{eqb-true, and_parts}
use Rattle.asn1_types.specs.Table.{same_name}

same_itself : (a : List ℕ) → same_name a a ≡ true
same_itself [] = refl
same_itself (x ∷ a) = rw (eqb_itself x, same_itself a) refl
  where
    eqb_itself : (n : ℕ) → nat_eq n n ≡ true
    eqb_itself n = grind arith

same_is : (a b : List ℕ) → same_name a b ≡ true → a ≡ b
same_is [] [] e = refl
same_is [] (y ∷ b) e = absurd cc
same_is (x ∷ a) [] e = absurd cc
same_is (x ∷ a) (y ∷ b) e =
    let t = and_parts (nat_eq x y) (same_name a b) e in
    let first : x ≡ y = eqb-true x y t.0 in
    let others : a ≡ b = same_is a b t.1 in
    λ i. first i ∷ others i

pub same_name_is : (a b : List ℕ) (r : Bool) → IsTrue r ↔ (a ≡ b) → r ≡ same_name a b
same_name_is a b true h = sym (ap (same_name a) (sym (h.0 refl)) ∙ same_itself a)
same_name_is a b false h = by_test (same_name a b) refl
  where
    by_test : (s : Bool) → same_name a b ≡ s → false ≡ s
    by_test true e = h.1 (same_is a b e)
    by_test false e = refl
