-- One more with a code of its own.
use Rattle.std.proofs.Common.{◌≡◌, Bool, true, false, not, List, [], ◌∷◌, ◌++◌, refl, ap, sym, ◌∙◌}
use Rattle.std.specs.Prelude.{◌||◌, ◌&&◌, IsTrue}
use Rattle.std.specs.List.{list_any}
use Rattle.std.proofs.lemmas.Bool.{and_parts, or_parts}
use Rattle.stub_tables.specs.declared.operation.Code.{Code}
use Rattle.stub_tables.specs.Codes.{same_code, have_own_codes}

any_more : {X : Type 0} (p : X → Bool) (xs : List X) (x : X) → list_any p xs ≡ false → p x ≡ false → list_any p (xs ++ x ∷ []) ≡ false
any_more p [] x h e = rw e refl
any_more p (z ∷ zs) x h e =
    let q = or_parts (p z) (list_any p zs) h in
    ap (λ (b : Bool). b || list_any p (zs ++ x ∷ [])) q.0 ∙ any_more p zs x q.1 e

not_true : (a : Bool) → not a ≡ true → a ≡ false
not_true true h = absurd cc
not_true false h = refl

module _ {X : Type 0} (code_of : X → Code) where
  pub own_more : (xs : List X) (x : X) → list_any (λ y. same_code (code_of y) (code_of x)) xs ≡ false → IsTrue (have_own_codes code_of xs) → IsTrue (have_own_codes code_of (xs ++ x ∷ []))
  own_more [] x e h = refl
  own_more (z ∷ zs) x e h =
      let a = and_parts (not (list_any (λ y. same_code (code_of z) (code_of y)) zs)) (have_own_codes code_of zs) h in
      let q = or_parts (same_code (code_of z) (code_of x)) (list_any (λ y. same_code (code_of y) (code_of x)) zs) e in
      let none = any_more (λ y. same_code (code_of z) (code_of y)) zs x (not_true (list_any (λ y. same_code (code_of z) (code_of y)) zs) a.0) q.0 in
      ap (λ (b : Bool). not b && have_own_codes code_of (zs ++ x ∷ [])) none ∙ own_more zs x q.1 a.1

-- a code that is new isn't among those before
pub lacks : (new has : Bool) → new ≡ not has → new ≡ true → has ≡ false
lacks new has e h = not_true has (sym e ∙ h)
