-- How many octets a row has in the packed syntax goes by its rule, and by pieces from the last to the first.
use Rattle.std.proofs.Common.{◌≡◌, ℕ, zero, suc, ◌+◌, ◌<◌, ◌≤◌, List, [], ◌∷◌, length, drop, get_or, min, Option, Some, None, refl, arith}
use Rattle.std.specs.Prelude.{slice_get}
use Rattle.std.specs.List.{AllByRecursion}
use Rattle.std.proofs.lemmas.Option.{slice_get_past}
use Rattle.asn1_types.specs.declared.row.Part.{Part}
use Rattle.asn1_types.specs.declared.row.TypeRow.{TypeRow}
use Rattle.asn1_types.specs.declared.row.TypeRow.TheVariants as row
use Rattle.asn1_types.specs.Rows.{along, names_of, rows_of_parts}
use Rattle.asn1_types.specs.Table.{AreSoundRows}
use Rattle.asn1_types.specs.Value.{Value, MaybeValues, no_parts, absent, present}
use Rattle.asn1_types.specs.ValueView.{parts_of, values_of}
use Rattle.asn1_types.specs.PackedSize.{mark_size, part_size, parts_size, sequence_size, values_size, list_size, alternative_size, choice_size, nothing_size, size_by, packed_size}
use Rattle.asn1_types.proofs.Along.{settled}
use Rattle.asn1_types.proofs.Sound.{is_down}

module _ (f g : ℕ → Value → ℕ) where
  parts_same : (ps : List Part) → AllByRecursion (λ m. f m ≡ g m) (rows_of_parts ps) → (vs : MaybeValues) → parts_size f ps vs ≡ parts_size g ps vs
  parts_same [] h vs = refl
  parts_same (p ∷ ps) h no_parts = refl
  parts_same (p ∷ ps) h (absent vs) = λ i. mark_size p + parts_same ps h.1 vs i
  parts_same (p ∷ ps) h (present v vs) = λ i. (mark_size p + h.0 i v) + parts_same ps h.1 vs i

  alternative_same : (ps : List Part) → AllByRecursion (λ m. f m ≡ g m) (rows_of_parts ps) → (which : ℕ) → alternative_size f (slice_get ps which) ≡ alternative_size g (slice_get ps which)
  alternative_same [] h which = refl
  alternative_same (p ∷ ps) h zero = λ i v. 1 + h.0 i v
  alternative_same (p ∷ ps) h (suc which) = alternative_same ps h.1 which

size_cong : (r : TypeRow) (f g : ℕ → Value → ℕ) → AllByRecursion (λ m. f m ≡ g m) (names_of r) → size_by f r ≡ size_by g r
size_cong row.Boolean f g h = refl
size_cong (row.Integer low high) f g h = refl
size_cong (row.Enumerated items) f g h = refl
size_cong row.Null f g h = refl
size_cong (row.OctetString most) f g h = refl
size_cong row.BitString f g h = refl
size_cong row.ObjectId f g h = refl
size_cong (row.Text kind) f g h = refl
size_cong (row.Sequence ps) f g h = λ i. sequence_size (λ vs. parts_same f g ps h vs i)
size_cong (row.Set ps) f g h = λ i. sequence_size (λ vs. parts_same f g ps h vs i)
size_cong (row.SequenceOf inner) f g h = λ i. list_size (h.0 i)
size_cong (row.SetOf inner) f g h = λ i. list_size (h.0 i)
size_cong (row.Choice ps) f g h = λ i. choice_size (λ which. alternative_same f g ps h which i)
size_cong (row.Tagged class number explicit inner) f g h = h.0
size_cong row.Any f g h = refl

pub size_at : (rows : List TypeRow) → AreSoundRows rows → (n : ℕ) (r : TypeRow) → slice_get rows n ≡ Some r → packed_size rows n ≡ size_by (packed_size rows) r
unfolding packed_size
size_at rows sound n r e = settled nothing_size size_by size_cong rows (is_down rows sound) n r e

along_past : (rows : List TypeRow) (turns n : ℕ) (v : Value) → length rows ≤ n → along nothing_size size_by rows turns n v ≡ 0
along_past rows zero n v le = refl
along_past rows (suc turns) n v le = rw (slice_get_past rows n le) refl

pub size_past : (rows : List TypeRow) (n : ℕ) (v : Value) → length rows ≤ n → packed_size rows n v ≡ 0
unfolding packed_size
size_past rows n v le = along_past rows (length rows) n v le

pub parts_before : (f : ℕ → Value → ℕ) (ps : List Part) (vs : List (Option Value)) (i k : ℕ) (p : Part) (o : Option Value) → k ≡ suc i → i < length ps → i < length vs → p ≡ get_or ps i p → o ≡ get_or vs i o
    → parts_size f (drop i ps) (parts_of (drop i vs)) ≡ part_size f p o + parts_size f (drop k ps) (parts_of (drop k vs))
parts_before f [] vs i k p o up lt more e d = absurd (omega arith)
parts_before f (q ∷ ps) [] i k p o up lt more e d = absurd (omega arith)
parts_before f (q ∷ ps) (None ∷ vs) zero k p o up lt more e d = rw (up, e, d) refl
parts_before f (q ∷ ps) (Some v ∷ vs) zero k p o up lt more e d = rw (up, e, d) refl
parts_before f (q ∷ ps) (w ∷ vs) (suc i) k p o up lt more e d = rw up (parts_before f ps vs i (suc i) p o refl (omega arith) (omega arith) e d)

pub parts_none : (f : ℕ → Value → ℕ) (ps : List Part) (vs : List (Option Value)) (i : ℕ) → i ≡ min (length ps) (length vs) → parts_size f (drop i ps) (parts_of (drop i vs)) ≡ 0
parts_none f [] vs zero h = refl
parts_none f [] vs (suc i) h = refl
parts_none f (p ∷ ps) [] zero h = refl
parts_none f (p ∷ ps) [] (suc i) h = absurd (omega arith)
parts_none f (p ∷ ps) (v ∷ vs) zero h = absurd (omega arith)
parts_none f (p ∷ ps) (v ∷ vs) (suc i) h = parts_none f ps vs i (omega arith)

pub values_before : (f : Value → ℕ) (vs : List Value) (i k : ℕ) (v : Value) → k ≡ suc i → i < length vs → v ≡ get_or vs i v → values_size f (values_of (drop i vs)) ≡ f v + values_size f (values_of (drop k vs))
values_before f [] i k v up lt e = absurd (omega arith)
values_before f (w ∷ vs) zero k v up lt e = rw (up, e) refl
values_before f (w ∷ vs) (suc i) k v up lt e = rw up (values_before f vs i (suc i) v refl (omega arith) e)

pub values_none : (f : Value → ℕ) (vs : List Value) (i : ℕ) → i ≡ length vs → values_size f (values_of (drop i vs)) ≡ 0
values_none f [] i h = rw h refl
values_none f (v ∷ vs) zero h = absurd (omega arith)
values_none f (v ∷ vs) (suc i) h = values_none f vs i (omega arith)
