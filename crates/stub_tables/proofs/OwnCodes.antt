-- Each operation is the one with its code, and so is each error.
use Rattle.std.proofs.Common.{◌≡◌, ℕ, zero, suc, ◌+◌, Bool, true, false, not, List, [], ◌∷◌, Some, refl, ap, subst, ◌∙◌, arith}
use Rattle.std.specs.Prelude.{slice_get, nat_eq, IsTrue}
use Rattle.std.specs.Cmp.Lexicographic.{pointwise}
use Rattle.std.specs.List.{list_any, position_from}
use Rattle.std.proofs.lemmas.Bool.{eq-eqb, and_parts, or_parts}
use Rattle.std.proofs.lemmas.Bool.Decides.{Decides-int_eq}
use Rattle.stub_tables.specs.declared.operation.Code.{Code}
use Rattle.stub_tables.specs.declared.operation.Code.TheVariants.{Local, Global}
use Rattle.stub_tables.specs.declared.tables.Tables.{Tables}
use Rattle.stub_tables.specs.Codes.{same_code, place_with, have_own_codes}
use Rattle.stub_tables.specs.Lookup.{HasOwnCodes}

same_list : (xs : List ℕ) → pointwise nat_eq xs xs ≡ true
same_list [] = refl
same_list (x ∷ xs) = rw (eq-eqb x x refl) (same_list xs)

pub same_code-refl : (c : Code) → same_code c c ≡ true
same_code-refl (Local n) = (Decides-int_eq n n).1 refl
same_code-refl (Global arcs) = same_list arcs

not_true : (a : Bool) → not a ≡ true → a ≡ false
not_true true h = absurd cc
not_true false h = refl

module _ {X : Type 0} (code_of : X → Code) where
  some_is : (a b : X) → Some a ≡ Some b → a ≡ b
  some_is a b h = cc

  -- an item whose code no later item has
  other : (x y : X) (xs : List X) (k : ℕ) → list_any (λ z. same_code (code_of x) (code_of z)) xs ≡ false → slice_get xs k ≡ Some y → same_code (code_of x) (code_of y) ≡ false
  other x y [] k h e = absurd cc
  other x y (z ∷ zs) zero h e =
      subst (λ (w : X). same_code (code_of x) (code_of w) ≡ false) (some_is z y e) (or_parts (same_code (code_of x) (code_of z)) (list_any (λ w. same_code (code_of x) (code_of w)) zs) h).0
  other x y (z ∷ zs) (suc k) h e = other x y zs k (or_parts (same_code (code_of x) (code_of z)) (list_any (λ w. same_code (code_of x) (code_of w)) zs) h).1 e

  pub found_at : (xs : List X) (n k : ℕ) (x : X) → have_own_codes code_of xs ≡ true → slice_get xs k ≡ Some x → position_from (λ y. same_code (code_of y) (code_of x)) n xs ≡ Some (n + k)
  found_at [] n k x h e = absurd cc
  found_at (y ∷ ys) n zero x h e =
      let s : same_code (code_of y) (code_of x) ≡ true = subst (λ (w : X). same_code (code_of y) (code_of w) ≡ true) (some_is y x e) (same_code-refl (code_of y)) in
      rw s (ap Some (omega arith))
  found_at (y ∷ ys) n (suc k) x h e =
      let a = and_parts (not (list_any (λ z. same_code (code_of y) (code_of z)) ys)) (have_own_codes code_of ys) h in
      let s = other y x ys k (not_true (list_any (λ z. same_code (code_of y) (code_of z)) ys) a.0) e in
      rw s (found_at ys (n + 1) k x a.1 e ∙ ap Some (omega arith))

  pub own_place : (xs : List X) (k : ℕ) (x : X) → IsTrue (have_own_codes code_of xs) → slice_get xs k ≡ Some x → place_with code_of (code_of x) xs ≡ Some k
  own_place xs k x h e = found_at xs 0 k x h e ∙ ap Some (omega arith)

pub own_codes : (tables : Tables) → HasOwnCodes tables
own_codes tables = record {
  operations = λ place o h. own_place (λ x. x.code) tables.operations place o tables.operation_codes h;
  errors = λ place e h. own_place (λ x. x.code) tables.errors place e tables.error_codes h;
}
