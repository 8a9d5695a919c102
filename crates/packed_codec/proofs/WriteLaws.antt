-- What is written of a row goes by its rule.
use Rattle.std.proofs.Common.{◌≡◌, ℕ, zero, suc, ◌+◌, ◌≤◌, ◌<◌, min, cond, List, [], ◌∷◌, ◌++◌, length, drop, get_or, add-one, drop-cons, Option, Some, None, refl, ap, subst, arith}
use Rattle.std.specs.Prelude.{slice_get}
use Rattle.std.specs.List.{AllByRecursion, flat_map}
use Rattle.asn1_types.specs.declared.row.Part.{Part}
use Rattle.asn1_types.specs.declared.row.TypeRow.{TypeRow}
use Rattle.asn1_types.specs.declared.row.TypeRow.TheVariants.{Boolean, Integer, Enumerated, Null, OctetString, BitString, ObjectId, Text, Sequence, Set, SequenceOf, SetOf, Choice, Tagged, Any}
use Rattle.asn1_types.specs.Rows.{along, names_of, rows_of_parts}
use Rattle.asn1_types.specs.Table.{AreSoundRows}
use Rattle.asn1_types.specs.Value.{Value, boolean, integer, null, octets, bits, object_id, text, parts, list, chosen, any, MaybeValues, no_parts, absent, present}
use Rattle.asn1_types.specs.ValueView.{parts_of, values_of}
use Rattle.asn1_types.proofs.Along.{settled}
use Rattle.asn1_types.proofs.Sound.{is_down}
use Rattle.asn1_types.specs.Defaults.{may_be_absent}
use Rattle.packed_codec.specs.ObjectIds.{base_128}
use Rattle.packed_codec.specs.Writing.{Writer, part_written, parts_written, sequence_written, values_written, list_written, alternative_written, choice_written, nothing_written, write_by, packed, how_many}

module _ (f g : ℕ → Writer) where
  parts_same : (ps : List Part) → AllByRecursion (λ m. f m ≡ g m) (rows_of_parts ps) → (vs : MaybeValues) → parts_written f ps vs ≡ parts_written g ps vs
  parts_same [] h vs = refl
  parts_same (p ∷ ps) h no_parts = refl
  parts_same (p ∷ ps) h (absent vs) = ap (λ (x : List ℕ). part_written f p None ++ x) (parts_same ps h.1 vs)
  parts_same (p ∷ ps) h (present v vs) = λ i. cond (may_be_absent p) (1 ∷ h.0 i v) (h.0 i v) ++ parts_same ps h.1 vs i

  sequence_same : (ps : List Part) → AllByRecursion (λ m. f m ≡ g m) (rows_of_parts ps) → (v : Value) → sequence_written f ps v ≡ sequence_written g ps v
  sequence_same ps h (parts vs) = parts_same ps h vs
  sequence_same ps h null = refl
  sequence_same ps h (boolean b) = refl
  sequence_same ps h (integer z) = refl
  sequence_same ps h (octets os) = refl
  sequence_same ps h (bits os n) = refl
  sequence_same ps h (object_id os) = refl
  sequence_same ps h (text os) = refl
  sequence_same ps h (list vs) = refl
  sequence_same ps h (chosen n v) = refl
  sequence_same ps h (any os) = refl

  alternative_same : (ps : List Part) → AllByRecursion (λ m. f m ≡ g m) (rows_of_parts ps) → (which at : ℕ) (v : Value) → alternative_written f which (slice_get ps at) v ≡ alternative_written g which (slice_get ps at) v
  alternative_same [] h which at v = refl
  alternative_same (p ∷ ps) h which zero v = λ i. which ∷ h.0 i v
  alternative_same (p ∷ ps) h which (suc at) v = alternative_same ps h.1 which at v

  choice_same : (ps : List Part) → AllByRecursion (λ m. f m ≡ g m) (rows_of_parts ps) → (v : Value) → choice_written f ps v ≡ choice_written g ps v
  choice_same ps h (chosen which v) = alternative_same ps h which which v
  choice_same ps h null = refl
  choice_same ps h (boolean b) = refl
  choice_same ps h (integer z) = refl
  choice_same ps h (octets os) = refl
  choice_same ps h (bits os n) = refl
  choice_same ps h (object_id os) = refl
  choice_same ps h (text os) = refl
  choice_same ps h (parts qs) = refl
  choice_same ps h (list vs) = refl
  choice_same ps h (any os) = refl

write_cong : (row : TypeRow) (f g : ℕ → Writer) → AllByRecursion (λ m. f m ≡ g m) (names_of row) → write_by f row ≡ write_by g row
write_cong Boolean f g h = refl
write_cong (Integer low high) f g h = refl
write_cong (Enumerated items) f g h = refl
write_cong Null f g h = refl
write_cong (OctetString most) f g h = refl
write_cong BitString f g h = refl
write_cong ObjectId f g h = refl
write_cong (Text kind) f g h = refl
write_cong (Sequence ps) f g h = λ i v. sequence_same f g ps h v i
write_cong (Set ps) f g h = λ i v. sequence_same f g ps h v i
write_cong (SequenceOf inner) f g h = ap list_written h.0
write_cong (SetOf inner) f g h = ap list_written h.0
write_cong (Choice ps) f g h = λ i v. choice_same f g ps h v i
write_cong (Tagged class number explicit inner) f g h = h.0
write_cong Any f g h = refl

-- what is written of a row, by its rule
pub packed_at : (rows : List TypeRow) → AreSoundRows rows → (n : ℕ) (row : TypeRow) → slice_get rows n ≡ Some row → packed rows n ≡ write_by (packed rows) row
unfolding packed
packed_at rows sound n row e = settled nothing_written write_by write_cong rows (is_down rows sound) n row e

-- room for a row's text, once its form is known
pub room_as : (rows : List TypeRow) (at len : ℕ) (v : Value) (row form : TypeRow) → row ≡ form → at + length (write_by (packed rows) row v) ≤ len → at + length (write_by (packed rows) form v) ≤ len
room_as rows at len v row form e h = subst (λ (r : TypeRow). at + length (write_by (packed rows) r v) ≤ len) e h

no_row : (rows : List TypeRow) (n : ℕ) → length rows ≤ n → slice_get rows n ≡ None
no_row [] n le = refl
no_row (row ∷ rows) zero le = absurd (omega arith)
no_row (row ∷ rows) (suc n) le = no_row rows n (omega arith)

along_past : (rows : List TypeRow) (turns n : ℕ) (v : Value) → length rows ≤ n → along nothing_written write_by rows turns n v ≡ []
along_past rows zero n v le = refl
along_past rows (suc turns) n v le = rw (no_row rows n le) refl

pub packed_past : (rows : List TypeRow) (n : ℕ) (v : Value) → length rows ≤ n → packed rows n v ≡ []
unfolding packed
packed_past rows n v le = along_past rows (length rows) n v le

-- ---- one after the other, as loops go

pub parts_cell : (f : ℕ → Writer) (ps : List Part) (vs : List (Option Value)) (i : ℕ) (p : Part) (o : Option Value) → i < length ps → i < length vs → p ≡ get_or ps i p → o ≡ get_or vs i o
    → parts_written f (drop i ps) (parts_of (drop i vs)) ≡ part_written f p o ++ parts_written f (drop (i + 1) ps) (parts_of (drop (i + 1) vs))
parts_cell f ps vs i p o lp lv e d =
    let cp : drop i ps ≡ p ∷ drop (i + 1) ps = rw (add-one, drop-cons ps i p lp, ← e) refl in
    let cv : drop i vs ≡ o ∷ drop (i + 1) vs = rw (add-one, drop-cons vs i o lv, ← d) refl in
    rw (cp, cv) (by_value o)
  where
    by_value : (o : Option Value) → parts_written f (p ∷ drop (i + 1) ps) (parts_of (o ∷ drop (i + 1) vs)) ≡ part_written f p o ++ parts_written f (drop (i + 1) ps) (parts_of (drop (i + 1) vs))
    by_value None = refl
    by_value (Some v) = refl

pub parts_done : (f : ℕ → Writer) (ps : List Part) (vs : List (Option Value)) (i : ℕ) → min (length ps) (length vs) ≤ i → parts_written f (drop i ps) (parts_of (drop i vs)) ≡ []
parts_done f [] vs zero le = refl
parts_done f [] vs (suc i) le = refl
parts_done f (p ∷ ps) [] zero le = refl
parts_done f (p ∷ ps) [] (suc i) le = none (drop i ps)
  where
    none : (qs : List Part) → parts_written f qs no_parts ≡ []
    none [] = refl
    none (q ∷ qs) = refl
parts_done f (p ∷ ps) (o ∷ vs) zero le = absurd (omega arith)
parts_done f (p ∷ ps) (o ∷ vs) (suc i) le = parts_done f ps vs i (omega arith)

pub values_cell : (w : Writer) (vs : List Value) (i : ℕ) (v : Value) → i < length vs → v ≡ get_or vs i v → values_written w (values_of (drop i vs)) ≡ w v ++ values_written w (values_of (drop (i + 1) vs))
values_cell w vs i v lt e =
    let c : drop i vs ≡ v ∷ drop (i + 1) vs = rw (add-one, drop-cons vs i v lt, ← e) refl in
    ap (λ (x : List Value). values_written w (values_of x)) c

pub values_done : (w : Writer) (vs : List Value) (i : ℕ) → length vs ≤ i → values_written w (values_of (drop i vs)) ≡ []
values_done w [] zero le = refl
values_done w [] (suc i) le = refl
values_done w (v ∷ vs) zero le = absurd (omega arith)
values_done w (v ∷ vs) (suc i) le = values_done w vs i (omega arith)

pub numbers_cell : (ns : List ℕ) (i : ℕ) → i < length ns → flat_map base_128 (drop i ns) ≡ base_128 (get_or ns i 0) ++ flat_map base_128 (drop (i + 1) ns)
numbers_cell ns i lt =
    let c : drop i ns ≡ get_or ns i 0 ∷ drop (i + 1) ns = rw (add-one, drop-cons ns i 0 lt) refl in
    ap (λ (x : List ℕ). flat_map base_128 x) c

pub numbers_done : (ns : List ℕ) (i : ℕ) → length ns ≤ i → flat_map base_128 (drop i ns) ≡ []
numbers_done [] zero le = refl
numbers_done [] (suc i) le = refl
numbers_done (n ∷ ns) zero le = absurd (omega arith)
numbers_done (n ∷ ns) (suc i) le = numbers_done ns i (omega arith)

pub many_is : (vs : List Value) → how_many (values_of vs) ≡ length vs
many_is [] = refl
many_is (v ∷ vs) = ap suc (many_is vs)
