-- What was seen, once one more is: in a set in the order of insertion.
use Rattle.std.proofs.Common.{◌≡◌, ℕ, Bool, true, false, List, [], ◌∷◌, ◌++◌, refl, sym, ap, ◌∙◌}
use Rattle.std.specs.Prelude.{◌||◌, nat_eq, if◌then◌else◌}
use Rattle.std.specs.Ordering.{int_eq}
use Rattle.std.specs.List.{list_any}
use Rattle.std.specs.HashSet.{contains_by}
use Rattle.std.specs.Cmp.Lexicographic.{pointwise}
use Rattle.std.specs.Cmp.Lexicographic.{same_text, other_text}
use Rattle.indexmap.specs.IndexSet.{insert_key}
use Rattle.stub_tables.specs.declared.operation.Code.{Code}
use Rattle.stub_tables.specs.declared.operation.Code.TheVariants.{Local, Global}
use Rattle.stub_tables.specs.Codes.{same_code}
use Rattle.table_file.specs.declared.names_and_codes.Codes.{Codes}
use Rattle.table_file.specs.Known.{has_code}

text_swap : (a b : List ℕ) → pointwise nat_eq a b ≡ pointwise nat_eq b a
text_swap a b = by (pointwise nat_eq a b) (pointwise nat_eq b a) refl refl
  where
    by : (p q : Bool) → pointwise nat_eq a b ≡ p → pointwise nat_eq b a ≡ q → p ≡ q
    by true true e f = refl
    by false false e f = refl
    by true false e f = absurd (other_text b a (sym f) (sym (same_text a b (sym e))))
    by false true e f = absurd (other_text a b (sym e) (sym (same_text b a (sym f))))

any_end : {X : Type 0} (p : X → Bool) (xs : List X) (x : X) → list_any p (xs ++ x ∷ []) ≡ (p x || list_any p xs)
any_end p [] x = refl
any_end p (z ∷ zs) x = ap (λ (b : Bool). p z || b) (any_end p zs x) ∙ or_swap (p z) (p x) (list_any p zs)
  where
    or_swap : (a b c : Bool) → (a || (b || c)) ≡ (b || (a || c))
    or_swap true true c = refl
    or_swap true false c = refl
    or_swap false true c = refl
    or_swap false false c = refl

any_same : {X : Type 0} (p q : X → Bool) → ((x : X) → p x ≡ q x) → (xs : List X) → list_any p xs ≡ list_any q xs
any_same p q h [] = refl
any_same p q h (x ∷ xs) = ap (λ (b : Bool). b || list_any p xs) (h x) ∙ ap (λ (b : Bool). q x || b) (any_same p q h xs)

module _ {K : Type 0} (f : K → List ℕ) (eq : K → K → Bool) (ks : List K) (v : K) (alike : (k : K) → eq v k ≡ pointwise nat_eq (f v) (f k)) (name : List ℕ) where
  abbrev test : K → Bool
  test k = pointwise nat_eq name (f k)

  put : (b : Bool) → list_any (eq v) ks ≡ b → list_any test (if b then ks else ks ++ v ∷ []) ≡ (pointwise nat_eq (f v) name || list_any test ks)
  put false e = any_end test ks v ∙ ap (λ (b : Bool). b || list_any test ks) (text_swap name (f v))
  put true e = by (pointwise nat_eq (f v) name) refl
    where
      by : (p : Bool) → pointwise nat_eq (f v) name ≡ p → list_any test ks ≡ (p || list_any test ks)
      by false h = refl
      by true h =
          let same : f v ≡ name = same_text (f v) name (sym h) in
          any_same test (eq v) (λ k. ap (λ (n : List ℕ). pointwise nat_eq n (f k)) (sym same) ∙ sym (alike k)) ks ∙ e

  pub seen_more : list_any test (insert_key eq ks v) ≡ (pointwise nat_eq (f v) name || list_any test ks)
  seen_more = put (list_any (eq v) ks) refl

module _ {K : Type 0} (f : K → List ℕ) (eq : K → K → Bool) (ks new : List K) (v : K) (octets : List ℕ) (is : f v ≡ octets) (alike : (k : K) → eq v k ≡ pointwise nat_eq (f v) (f k)) (grown : new ≡ insert_key eq ks v) where
  pub seen_as : (name : List ℕ) → list_any (λ k. pointwise nat_eq name (f k)) new ≡ (pointwise nat_eq octets name || list_any (λ k. pointwise nat_eq name (f k)) ks)
  seen_as name =
      ap (λ (l : List K). list_any (λ k. pointwise nat_eq name (f k)) l) grown
      ∙ seen_more f eq ks v alike name
      ∙ ap (λ (o : List ℕ). pointwise nat_eq o name || list_any (λ k. pointwise nat_eq name (f k)) ks) is

pub code_seen : (old new : Codes) (code : Code) (oid : List ℕ) → code ≡ Global oid → new.locals ≡ old.locals
    → ((arcs : List ℕ) → has_code new (Global arcs) ≡ (pointwise nat_eq oid arcs || has_code old (Global arcs)))
    → (other : Code) → has_code new other ≡ (same_code code other || has_code old other)
code_seen old new code oid is locals more (Local n) = ap (λ set. contains_by (λ m. int_eq n m) set) locals ∙ ap (λ (c : Code). same_code c (Local n) || has_code old (Local n)) (sym is)
code_seen old new code oid is locals more (Global arcs) = more arcs ∙ ap (λ (c : Code). same_code c (Global arcs) || has_code old (Global arcs)) (sym is)
