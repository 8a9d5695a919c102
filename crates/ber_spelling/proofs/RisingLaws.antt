-- The order of the items of a SET OF.
use Rattle.std.proofs.Common.{◌≡◌, ℕ, ◌<◌, ◌≤◌, Bool, true, false, not, ◌&&◌, ◌||◌, cond, List, [], ◌∷◌, ◌++◌, refl, sym, ap, ◌∙◌, inl, inr, arith}
use Rattle.std.specs.Prelude.{nat_lt, nat_eq}
use Rattle.std.specs.List.{list_all}
use Rattle.std.proofs.lemmas.Bool.{ltb-true, eqb-true, and_parts, or_cases, le-ltb}
use Rattle.std.proofs.lemmas.Bool.Decides.{nat_tests}
use Rattle.asn1_types.specs.Value.{Value, Values, no_values, value}
use Rattle.asn1_types.specs.ValueView.{values_of}
use Rattle.asn1_types.specs.Rising.{is_less, follows, rise_behind, rise, placed, sorted, behind_last}

not_less : (x y : ℕ) → x ≤ y → nat_lt y x ≡ false
not_less x y le = le-ltb y x le

pub less_one_way : (xs ys : List ℕ) → is_less xs ys ≡ true → is_less ys xs ≡ false
less_one_way [] [] e = refl
less_one_way [] (y ∷ ys) e = refl
less_one_way (x ∷ xs) [] e = absurd cc
less_one_way (x ∷ xs) (y ∷ ys) e =
    elim (or_cases (nat_lt x y) (nat_eq x y && is_less xs ys) e) [
      | inl t ↦ above x y (ltb-true x y t) (is_less ys xs)
      | inr t ↦ let b = and_parts (nat_eq x y) (is_less xs ys) t in beside x y (eqb-true x y b.0) (is_less ys xs) (less_one_way xs ys b.1)
    ]
  where
    above : (x y : ℕ) → x < y → (b : Bool) → (nat_lt y x || (nat_eq y x && b)) ≡ false
    above x y lt b = grind (arith, nat_tests)

    beside : (x y : ℕ) → x ≡ y → (b : Bool) → b ≡ false → (nat_lt y x || (nat_eq y x && b)) ≡ false
    beside x y e b f = grind (arith, nat_tests)

-- ---- items as a list

abbrev pub items_in : Values → List Value
items_in no_values = []
items_in (value v vs) = v ∷ items_in vs

pub items_same : (vs : Values) → values_of (items_in vs) ≡ vs
items_same no_values = refl
items_same (value v vs) = ap (value v) (items_same vs)

module _ (spell : Value → List ℕ) where
  -- ---- items that rise

  abbrev UpFrom : Value → Values → Type 0
  UpFrom v no_values = Unit {0}
  UpFrom v (value w ws) = (follows spell v w ≡ true) × UpFrom w ws

  -- items that go on behind these
  abbrev pub GoOn : List Value → Values → Type 0
  GoOn before no_values = Unit {0}
  GoOn before (value v vs) = (behind_last spell before v ≡ true) × UpFrom v vs

  last_is : (before : List Value) (v w : Value) → behind_last spell (before ++ v ∷ []) w ≡ follows spell v w
  last_is [] v w = refl
  last_is (a ∷ []) v w = refl
  last_is (a ∷ b ∷ more) v w = last_is (b ∷ more) v w

  pub go_on : (before : List Value) (v : Value) (vs : Values) → UpFrom v vs → GoOn (before ++ v ∷ []) vs
  go_on before v no_values h = tt
  go_on before v (value w ws) h = (last_is before v w ∙ h.0, h.1)

  pub up_after : (before : List Value) (v : Value) (vs : Values) → GoOn (before ++ v ∷ []) vs → UpFrom v vs
  up_after before v no_values h = tt
  up_after before v (value w ws) h = (sym (last_is before v w) ∙ h.0, h.1)

  up_rises_from : (v : Value) (vs : Values) → UpFrom v vs → rise_behind spell v vs ≡ true
  up_rises_from v no_values h = refl
  up_rises_from v (value w ws) h = rw h.0 (up_rises_from w ws h.1)

  pub goes_rise : (vs : Values) → GoOn [] vs → rise spell vs ≡ true
  goes_rise no_values h = refl
  goes_rise (value v vs) h = up_rises_from v vs h.1

  up_from : (v : Value) (vs : Values) → rise_behind spell v vs ≡ true → UpFrom v vs
  up_from v no_values e = tt
  up_from v (value w ws) e = let a = and_parts (follows spell v w) (rise_behind spell w ws) e in (a.0, up_from w ws a.1)

  pub rising_goes : (vs : Values) → rise spell vs ≡ true → GoOn [] vs
  rising_goes no_values e = tt
  rising_goes (value v vs) e = (refl, up_from v vs e)

  not_true : (b : Bool) → not b ≡ true → b ≡ false
  not_true true e = absurd cc
  not_true false e = refl

  sorted_so : (v : Value) (vs : Values) → UpFrom v vs → sorted spell (v ∷ items_in vs) ≡ v ∷ items_in vs
  sorted_so v no_values h = refl
  sorted_so v (value w ws) h = ap (placed spell v) (sorted_so w ws h.1) ∙ rw (not_true (is_less (spell w) (spell v)) h.0) refl

  -- items that rise are sorted
  pub rising_sorted : (vs : Values) → rise spell vs ≡ true → values_of (sorted spell (items_in vs)) ≡ vs
  rising_sorted no_values e = refl
  rising_sorted (value v vs) e = ap values_of (sorted_so v vs (up_from v vs e)) ∙ items_same (value v vs)

  -- ---- sorted items

  placed_all : (f : Value → Bool) (v : Value) (ws : List Value) → f v ≡ true → list_all f ws ≡ true → list_all f (placed spell v ws) ≡ true
  placed_all f v [] e h = rw e refl
  placed_all f v (w ∷ ws) e h =
      let b = and_parts (f w) (list_all f ws) h in
      by_test (is_less (spell w) (spell v)) b.0 b.1 (placed_all f v ws e b.1)
    where
      by_test : (t : Bool) → f w ≡ true → list_all f ws ≡ true → list_all f (placed spell v ws) ≡ true → list_all f (cond t (w ∷ placed spell v ws) (v ∷ w ∷ ws)) ≡ true
      by_test true a b c = rw a c
      by_test false a b c = rw (e, a) b

  pub sorted_all : (f : Value → Bool) (vs : List Value) → list_all f vs ≡ true → list_all f (sorted spell vs) ≡ true
  sorted_all f [] h = refl
  sorted_all f (v ∷ vs) h = let b = and_parts (f v) (list_all f vs) h in placed_all f v (sorted spell vs) b.0 (sorted_all f vs b.1)

  abbrev Behind : Value → List Value → Type 0
  Behind v [] = Unit {0}
  Behind v (w ∷ ws) = (follows spell v w ≡ true) × Behind w ws

  abbrev Up : List Value → Type 0
  Up [] = Unit {0}
  Up (v ∷ vs) = Behind v vs

  one_way : (v w : Value) → is_less (spell w) (spell v) ≡ true → follows spell w v ≡ true
  one_way v w e = rw (less_one_way (spell w) (spell v) e) refl

  placed_behind : (u v : Value) (ws : List Value) → follows spell u v ≡ true → Behind u ws → Behind u (placed spell v ws)
  placed_behind u v [] f h = (f, tt)
  placed_behind u v (w ∷ ws) f h = by_test (is_less (spell w) (spell v)) refl (λ g. placed_behind w v ws g h.1)
    where
      by_test : (t : Bool) → is_less (spell w) (spell v) ≡ t → (follows spell w v ≡ true → Behind w (placed spell v ws)) → Behind u (cond t (w ∷ placed spell v ws) (v ∷ w ∷ ws))
      by_test true e next = (h.0, next (one_way v w e))
      by_test false e next = (f, (rw e refl, h.1))

  placed_up : (v : Value) (ws : List Value) → Up ws → Up (placed spell v ws)
  placed_up v [] h = tt
  placed_up v (w ∷ ws) h = by_test (is_less (spell w) (spell v)) refl
    where
      by_test : (t : Bool) → is_less (spell w) (spell v) ≡ t → Up (cond t (w ∷ placed spell v ws) (v ∷ w ∷ ws))
      by_test true e = placed_behind w v ws (one_way v w e) h
      by_test false e = (rw e refl, h)

  sorted_up : (vs : List Value) → Up (sorted spell vs)
  sorted_up [] = tt
  sorted_up (v ∷ vs) = placed_up v (sorted spell vs) (sorted_up vs)

  behind_rises : (v : Value) (vs : List Value) → Behind v vs → rise_behind spell v (values_of vs) ≡ true
  behind_rises v [] h = refl
  behind_rises v (w ∷ ws) h = rw h.0 (behind_rises w ws h.1)

  up_rises : (vs : List Value) → Up vs → rise spell (values_of vs) ≡ true
  up_rises [] h = refl
  up_rises (v ∷ vs) h = behind_rises v vs h

  pub sorted_rises : (vs : List Value) → rise spell (values_of (sorted spell vs)) ≡ true
  sorted_rises vs = up_rises (sorted spell vs) (sorted_up vs)
