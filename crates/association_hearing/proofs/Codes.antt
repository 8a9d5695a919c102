-- Rows and the codes by which they are found.
use Rattle.std.proofs.Common.{◌≡◌, ℕ, zero, suc, ◌+◌, ◌≤◌, Bool, true, false, cond, List, [], ◌∷◌, Option, Some, None, refl, sym, ap, subst, ◌∙◌, arith}
use Rattle.std.specs.Prelude.{slice_get}
use Rattle.std.specs.List.{position_from}
use Rattle.std.proofs.lemmas.Bool.{eq-eqb, eqb-true}
use Rattle.stub_tables.specs.declared.operation.Code.{Code}
use Rattle.stub_tables.specs.declared.operation.Operation.{Operation}
use Rattle.stub_tables.specs.declared.operation.ErrorRow.{ErrorRow}
use Rattle.stub_tables.specs.declared.tables.Tables.{Tables}
use Rattle.stub_tables.specs.Codes.{same_code}
use Rattle.stub_tables.specs.Lookup.{operation_at, error_at, operation_with, error_with}
use Rattle.stub_tables.proofs.OwnCodes.{own_codes}
use Rattle.apdu_spelling.proofs.Written.{same_is}
use Rattle.end_rules.specs.Hearing.{is_place}

-- ---- what is found passes the test

module _ {X : Type 0} (test : X → Bool) where
  some_is : {A : Type 0} (a b : A) → Some a ≡ Some b → a ≡ b
  some_is a b e = cc

  later : (n m : ℕ) (xs : List X) → position_from test n xs ≡ Some m → n ≤ m
  later n m [] h = absurd cc
  later n m (x ∷ xs) h = go (test x) h (later (n + 1) m xs)
    where
      go : (b : Bool) → cond b (Some n) (position_from test (n + 1) xs) ≡ Some m → (position_from test (n + 1) xs ≡ Some m → n + 1 ≤ m) → n ≤ m
      go true h next = let e = some_is n m h in omega arith
      go false h next = let e = next h in omega arith

  found_step : (n k : ℕ) (y x : X) (ys : List X) (b : Bool) → test y ≡ b → cond b (Some n) (position_from test (n + 1) ys) ≡ Some (n + k) → slice_get (y ∷ ys) k ≡ Some x
      → ((j : ℕ) → position_from test (n + 1) ys ≡ Some (n + 1 + j) → slice_get ys j ≡ Some x → test x ≡ true) → test x ≡ true
  found_step n zero y x ys true t h e next = subst (λ (z : X). test z ≡ true) (some_is y x e) t
  found_step n (suc k) y x ys true t h e next = absurd (let q = some_is n (n + suc k) h in omega arith)
  found_step n zero y x ys false t h e next = absurd (let q = later (n + 1) (n + 0) ys h in omega arith)
  found_step n (suc k) y x ys false t h e next = next k (h ∙ ap Some (omega arith)) e

  found_from : (n k : ℕ) (x : X) (xs : List X) → position_from test n xs ≡ Some (n + k) → slice_get xs k ≡ Some x → test x ≡ true
  found_from n k x [] h e = absurd cc
  found_from n k x (y ∷ ys) h e = found_step n k y x ys (test y) refl h e (λ j p q. found_from (n + 1) j x ys p q)

  found_passes : (k : ℕ) (x : X) (xs : List X) → position_from test 0 xs ≡ Some k → slice_get xs k ≡ Some x → test x ≡ true
  found_passes k x xs h e = found_from 0 k x xs (h ∙ ap Some (omega arith)) e

-- ---- the row at a place

-- it is found by its code
pub operation_found : (tables : Tables) (place : ℕ) (o : Operation) (code : Code) → operation_at tables place ≡ Some o → same_code o.code code ≡ true → operation_with tables code ≡ Some place
operation_found tables place o code there same = subst (λ (c : Code). operation_with tables c ≡ Some place) (same_is o.code code same) ((own_codes tables).operations place o there)

pub error_found : (tables : Tables) (place : ℕ) (e : ErrorRow) (code : Code) → error_at tables place ≡ Some e → same_code e.code code ≡ true → error_with tables code ≡ Some place
error_found tables place e code there same = subst (λ (c : Code). error_with tables c ≡ Some place) (same_is e.code code same) ((own_codes tables).errors place e there)

module _ (tables : Tables) (place : ℕ) (o : Operation) (code : Code) (there : operation_at tables place ≡ Some o) where
  is_found : same_code o.code code ≡ true → is_place (operation_with tables code) place ≡ true
  is_found same = ap (λ (w : Option ℕ). is_place w place) (operation_found tables place o code there same) ∙ eq-eqb place place refl

  its_place : (w : Option ℕ) → operation_with tables code ≡ w → (b : Bool) → is_place w place ≡ b → same_code o.code code ≡ false → b ≡ false
  its_place w e false at other = refl
  its_place None e true at other = absurd cc
  its_place (Some p) e true at other =
      let found : same_code o.code code ≡ true = found_passes (λ (x : Operation). same_code x.code code) place o tables.operations (e ∙ ap Some (eqb-true p place at)) there in
      absurd cc

  by_test : (b : Bool) → same_code o.code code ≡ b → b ≡ is_place (operation_with tables code) place
  by_test true same = sym (is_found same)
  by_test false other = sym (its_place (operation_with tables code) refl (is_place (operation_with tables code) place) refl other)

-- a code is its own where the operation with the code stands there
pub has_code_at : (tables : Tables) (place : ℕ) (o : Operation) (code : Code) → operation_at tables place ≡ Some o → same_code o.code code ≡ is_place (operation_with tables code) place
has_code_at tables place o code there = by_test tables place o code there (same_code o.code code) refl
