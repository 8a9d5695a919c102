-- Which values fit a row goes by the rows that it names.
use Rattle.std.proofs.Common.{◌≡◌, ◌≢◌, ℕ, zero, suc, ◌<◌, ◌≤◌, Bool, true, false, not, ◌&&◌, List, [], ◌∷◌, length, drop, get_or, Option, Some, None, refl, sym, ap, subst, arith}
use Rattle.std.specs.Prelude.{slice_get, nat_lt}
use Rattle.std.specs.List.{AllByRecursion, list_all}
use Rattle.std.specs.Str.{IsUtf8, is_utf8}
use Rattle.std.proofs.lemmas.Str.{IsUtf8-from_is_utf8}
use Rattle.std.proofs.lemmas.Bool.{lt-ltb, ltb-true, ltb-false, and_parts}
use Rattle.asn1_types.specs.declared.row.Part.{Part}
use Rattle.asn1_types.specs.declared.row.TypeRow.{TypeRow}
use Rattle.asn1_types.specs.declared.row.TypeRow.TheVariants.{Boolean, Integer, Enumerated, Null, OctetString, BitString, ObjectId, Text, Sequence, Set, SequenceOf, SetOf, Choice, Tagged, Any}
use Rattle.asn1_types.specs.Rows.{along, names_of, rows_of_parts}
use Rattle.asn1_types.specs.Defaults.{may_be_absent, is_default}
use Rattle.asn1_types.specs.Table.{AreSoundRows}
use Rattle.asn1_types.specs.Value.{Value, MaybeValues, no_parts, absent, present}
use Rattle.asn1_types.specs.ValueView.{parts_of}
use Rattle.asn1_types.specs.Fits.{has_32_bits, is_octet, part_fits, parts_fit, sequence_fits, list_fits, alternative_fits, choice_fits, form_by, nothing_fits, has_form, is_short, fits}
use Rattle.asn1_types.specs.Writing.{written}
use Rattle.asn1_types.specs.Rising.{set_rises}
use Rattle.asn1_types.specs.PackedSize.{packed_size}
use Rattle.asn1_types.proofs.Along.{settled}
use Rattle.asn1_types.proofs.Sound.{is_down}

module _ (f g : ℕ → Value → Bool) where
  parts_same : (ps : List Part) → AllByRecursion (λ m. f m ≡ g m) (rows_of_parts ps) → (vs : MaybeValues) → parts_fit f ps vs ≡ parts_fit g ps vs
  parts_same [] h no_parts = refl
  parts_same [] h (absent vs) = refl
  parts_same [] h (present v vs) = refl
  parts_same (p ∷ ps) h no_parts = refl
  parts_same (p ∷ ps) h (absent vs) = ap (λ b. may_be_absent p && b) (parts_same ps h.1 vs)
  parts_same (p ∷ ps) h (present v vs) = λ i. (not (is_default p.default v) && h.0 i v) && parts_same ps h.1 vs i

  alternative_same : (ps : List Part) → AllByRecursion (λ m. f m ≡ g m) (rows_of_parts ps) → (which : ℕ) → alternative_fits f (slice_get ps which) ≡ alternative_fits g (slice_get ps which)
  alternative_same [] h which = refl
  alternative_same (p ∷ ps) h zero = h.0
  alternative_same (p ∷ ps) h (suc which) = alternative_same ps h.1 which

pub form_cong : (spell : ℕ → Value → List ℕ) (row : TypeRow) (f g : ℕ → Value → Bool) → AllByRecursion (λ m. f m ≡ g m) (names_of row) → form_by spell f row ≡ form_by spell g row
form_cong spell Boolean f g h = refl
form_cong spell (Integer low high) f g h = refl
form_cong spell (Enumerated items) f g h = refl
form_cong spell Null f g h = refl
form_cong spell (OctetString most) f g h = refl
form_cong spell BitString f g h = refl
form_cong spell ObjectId f g h = refl
form_cong spell (Text kind) f g h = refl
form_cong spell (Sequence ps) f g h = ap sequence_fits (λ i vs. parts_same f g ps h vs i)
form_cong spell (Set ps) f g h = ap sequence_fits (λ i vs. parts_same f g ps h vs i)
form_cong spell (SequenceOf inner) f g h = ap list_fits h.0
form_cong spell (SetOf inner) f g h = λ i v. list_fits (h.0 i) v && set_rises (spell inner.0) v
form_cong spell (Choice ps) f g h = ap choice_fits (λ i which. alternative_same f g ps h which i)
form_cong spell (Tagged class number explicit inner) f g h = h.0
form_cong spell Any f g h = refl

-- which values have the form of a row, by the row
pub form_at : (rows : List TypeRow) → AreSoundRows rows → (n : ℕ) (row : TypeRow) → slice_get rows n ≡ Some row → has_form rows n ≡ form_by (written rows) (has_form rows) row
unfolding has_form
form_at rows sound n row e = settled nothing_fits (form_by (written rows)) (form_cong (written rows)) rows (is_down rows sound) n row e

no_row : (rows : List TypeRow) (n : ℕ) → length rows ≤ n → slice_get rows n ≡ None
no_row [] n le = refl
no_row (row ∷ rows) zero le = absurd (omega arith)
no_row (row ∷ rows) (suc n) le = no_row rows n (omega arith)

along_past : (spell : ℕ → Value → List ℕ) (rows : List TypeRow) (turns n : ℕ) (v : Value) → length rows ≤ n → along nothing_fits (form_by spell) rows turns n v ≡ false
along_past spell rows zero n v le = refl
along_past spell rows (suc turns) n v le = rw (no_row rows n le) refl

pub form_past : (rows : List TypeRow) (n : ℕ) (v : Value) → length rows ≤ n → false ≡ has_form rows n v
unfolding has_form
form_past rows n v le = sym (along_past (written rows) rows (length rows) n v le)

-- what fits has the form of its row
pub fits_has_form : (rows : List TypeRow) (n : ℕ) (v : Value) → fits rows n v ≡ true → has_form rows n v ≡ true
unfolding fits
fits_has_form rows n v e = (and_parts (has_form rows n v) (is_short (length (written rows n v)) && is_short (packed_size rows n v)) e).0

pub parts_short : (f : ℕ → Value → Bool) (ps : List Part) (vs : List (Option Value)) → length ps ≢ length vs → false ≡ parts_fit f ps (parts_of vs)
parts_short f [] [] ne = absurd (ne refl)
parts_short f [] (None ∷ vs) ne = refl
parts_short f [] (Some v ∷ vs) ne = refl
parts_short f (p ∷ ps) [] ne = refl
parts_short f (p ∷ ps) (None ∷ vs) ne = and_false (may_be_absent p) (parts_short f ps vs (λ e. ne (ap suc e)))
  where
    and_false : (a : Bool) {b : Bool} → false ≡ b → false ≡ (a && b)
    and_false true e = e
    and_false false e = refl
parts_short f (p ∷ ps) (Some v ∷ vs) ne = and_false (not (is_default p.default v) && f p.inner.0 v) (parts_short f ps vs (λ e. ne (ap suc e)))
  where
    and_false : (a : Bool) {b : Bool} → false ≡ b → false ≡ (a && b)
    and_false true e = e
    and_false false e = refl

-- parts one after the other, as a loop goes
pub parts_step : (f : ℕ → Value → Bool) (ps : List Part) (vs : List (Option Value)) (i : ℕ) (p : Part) (o : Option Value) → length ps ≡ length vs → i < length ps → p ≡ get_or ps i p → o ≡ get_or vs i o
    → parts_fit f (drop i ps) (parts_of (drop i vs)) ≡ (part_fits f p o && parts_fit f (drop (suc i) ps) (parts_of (drop (suc i) vs)))
parts_step f [] vs i p o same lt e d = absurd (omega arith)
parts_step f (q ∷ ps) [] i p o same lt e d = absurd (omega arith)
parts_step f (q ∷ ps) (None ∷ vs) zero p o same lt e d = rw (e, d) refl
parts_step f (q ∷ ps) (Some v ∷ vs) zero p o same lt e d = rw (e, d) refl
parts_step f (q ∷ ps) (w ∷ vs) (suc i) p o same lt e d = parts_step f ps vs i p o (omega arith) (omega arith) e d

pub all_small : (ns : List ℕ) → ((i : ℕ) → get_or ns i 0 < 4294967296) → true ≡ list_all has_32_bits ns
all_small [] h = refl
all_small (n ∷ ns) h = rw (lt-ltb n 4294967296 (h 0)) (all_small ns (λ i. h (suc i)))

pub all_octets : (ns : List ℕ) → ((i : ℕ) → get_or ns i 0 < 256) → true ≡ list_all is_octet ns
all_octets [] h = refl
all_octets (n ∷ ns) h = rw (lt-ltb n 256 (h 0)) (all_octets ns (λ i. h (suc i)))

pub not_utf8 : (os : List ℕ) → (IsUtf8 os → ⊥) → false ≡ is_utf8 os
not_utf8 os h = by_test (is_utf8 os) refl
  where
    by_test : (b : Bool) → is_utf8 os ≡ b → false ≡ b
    by_test true e = absurd (h (IsUtf8-from_is_utf8 os e))
    by_test false e = refl

pub not_within : (len n : ℕ) → (n < len → ⊥) → len ≤ n
not_within len n h = by_test (nat_lt n len) refl
  where
    by_test : (b : Bool) → nat_lt n len ≡ b → len ≤ n
    by_test true e = absurd (h (ltb-true n len e))
    by_test false e = ltb-false n len e

pub false_not : false ≡ true → ⊥
false_not e = cc

pub each_slot : (P : ℕ → Type 0) (ps : List Part) (i : ℕ) (p : Part) → AllByRecursion P (rows_of_parts ps) → slice_get ps i ≡ Some p → P p.inner.0
each_slot P [] i p h e = absurd cc
each_slot P (q ∷ ps) zero p h e = let same : q ≡ p = cc in subst (λ (x : Part). P x.inner.0) same h.0
each_slot P (q ∷ ps) (suc i) p h e = each_slot P ps i p h.1 e
