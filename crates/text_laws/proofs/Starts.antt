-- How printed values begin, and what is known of the values of a row.
use Rattle.std.proofs.Common.{◌≡◌, ◌==◌, ℕ, zero, suc, ◌+◌, Bool, true, false, not, List, [], ◌∷◌, ◌++◌, None, Some, refl, ap, sym, ◌∙◌, arith, slice_get}
use Rattle.std.specs.Prelude.{◌||◌}
use Rattle.std.specs.List.{list_all, list_any}
use Rattle.std.specs.Str.{bytes_eq}
use Rattle.std.specs.Bool.{Decides}
use Rattle.std.proofs.lemmas.Slice.Eq.{bytes_eq-Decides}
use Rattle.std.proofs.lemmas.Bool.Decides.{nat_tests}
use Rattle.asn1_types.specs.declared.row.Part.{Part}
use Rattle.asn1_types.specs.Table.{same_name, parts_agree, agrees_later}
use Rattle.asn1_types.specs.Value.{Value}
use Rattle.asn1_types.proofs.Names.{same_name_is}
use Rattle.value_reading.specs.Found.{Reader}
use Rattle.value_reading.specs.Words.{is_sign, after_spaces, closed_by}
use Rattle.value_reading.specs.Typed.{place_from}
use Rattle.text_laws.specs.Laws.{may_follow, is_name}
use Rattle.text_laws.proofs.Tests.{both_true, both_false, not_true}

-- neither with a space nor with a closing brace
abbrev pub starts : List ℕ → Bool
starts [] = false
starts (c ∷ cs) = not (c == 32 || c == 125)

pub spaces_kept : (t r : List ℕ) → starts t ≡ true → after_spaces (t ++ r) ≡ t ++ r
spaces_kept [] r h = absurd (let no : ⊥ = cc in no)
spaces_kept (c ∷ cs) r h =
    let no : (c == 32) ≡ false = (both_false (c == 32) (c == 125) (not_true (c == 32 || c == 125) h)).0 in
    rw no refl

pub not_closed : (t r : List ℕ) → starts t ≡ true → closed_by (t ++ r) ≡ None
not_closed [] r h = absurd (let no : ⊥ = cc in no)
not_closed (c ∷ cs) r h =
    let no : (c == 125) ≡ false = (both_false (c == 32) (c == 125) (not_true (c == 32 || c == 125) h)).1 in
    rw no refl

sign_starts : (c : ℕ) → is_sign c ≡ false → not (c == 32 || c == 125) ≡ true
sign_starts c h = grind (arith, nat_tests)

pub name_starts : (w r : List ℕ) → is_name w ≡ true → starts (w ++ r) ≡ true
name_starts [] r h = absurd (let no : ⊥ = cc in no)
name_starts (c ∷ cs) r h = sign_starts c (not_true (is_sign c) (both_true (not (is_sign c)) (list_all (λ c. not (is_sign c)) cs) h).0)

pub name_plain : (w : List ℕ) → is_name w ≡ true → list_all (λ c. not (is_sign c)) w ≡ true
name_plain [] h = refl
name_plain (c ∷ cs) h = h

-- What is printed of the values that fit is read back, and begins so.
pub record Inner (fit : Value → Bool) (text : Value → List ℕ) (read : Reader) : Type 0 where
  pub back : (v : Value) (rest : List ℕ) → fit v ≡ true → may_follow rest ≡ true → read (text v ++ rest) ≡ Some (record { value = v; rest = rest })
  pub start : (v : Value) → fit v ≡ true → starts (text v) ≡ true

-- ---- names that differ

by_bytes : (a b : List ℕ) (t : Bool) → Decides t (a ≡ b) → same_name a b ≡ false → t ≡ false
by_bytes a b true d h = absurd (let same : true ≡ same_name a b = same_name_is a b true ((λ _. d.0 refl), (λ _. refl)) in let no : ⊥ = cc in no)
by_bytes a b false d h = refl

pub other_bytes : (a b : List ℕ) → same_name a b ≡ false → bytes_eq a b ≡ false
other_bytes a b h = by_bytes a b (bytes_eq a b) (bytes_eq-Decides a b) h

own_by : (a : List ℕ) (t : Bool) → Decides t (a ≡ a) → t ≡ true
own_by a true d = refl
own_by a false d = d.1 refl

pub own_bytes : (a : List ℕ) → bytes_eq a a ≡ true
own_bytes a = own_by a (bytes_eq a a) (bytes_eq-Decides a a)

pub any_at : {X : Type 0} (test : X → Bool) (xs : List X) (i : ℕ) (x : X) → list_any test xs ≡ false → slice_get xs i ≡ Some x → test x ≡ false
any_at test [] i x h e = absurd (let no : ⊥ = cc in no)
any_at test (y ∷ ys) zero x h e = let same : y ≡ x = cc in rw (sym same) (both_false (test y) (list_any test ys) h).0
any_at test (y ∷ ys) (suc i) x h e = any_at test ys i x (both_false (test y) (list_any test ys) h).1 e

-- the part at a place is the first of its name
pub place_is : (before : ℕ) (ps : List Part) (i : ℕ) (p : Part) → agrees_later parts_agree ps ≡ false → slice_get ps i ≡ Some p → place_from before ps p.name ≡ Some (before + i)
place_is before [] i p h e = absurd (let no : ⊥ = cc in no)
place_is before (q ∷ qs) zero p h e =
    let same : q ≡ p = cc in
    let place : before ≡ before + 0 = omega arith in
    let own : bytes_eq q.name p.name ≡ true = ap (λ (x : Part). bytes_eq x.name p.name) same ∙ own_bytes p.name in
    rw own (ap (λ n. Some n) place)
place_is before (q ∷ qs) (suc i) p h e =
    let both = both_false (list_any (parts_agree q) qs) (agrees_later parts_agree qs) h in
    let other = other_bytes q.name p.name (any_at (parts_agree q) qs i p both.0 e) in
    let place : suc before + i ≡ before + suc i = omega arith in
    rw other (place_is (suc before) qs i p both.1 e ∙ ap (λ n. Some n) place)
