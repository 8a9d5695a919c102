-- What is printed of a row goes by its rule, and what loops print.
use Rattle.std.proofs.Common.{◌≡◌, ℕ, zero, suc, ◌+◌, ◌≤◌, ◌<◌, min, Bool, true, false, List, [], ◌∷◌, ◌++◌, length, drop, get_or, add-one, drop-cons, append-nil, append_assoc, codes, Option, Some, None, refl, sym, ap, arith}
use Rattle.std.specs.Prelude.{slice_get}
use Rattle.std.specs.List.{AllByRecursion}
use Rattle.asn1_types.specs.declared.row.Part.{Part}
use Rattle.asn1_types.specs.declared.row.TypeRow.{TypeRow}
use Rattle.asn1_types.specs.declared.row.TypeRow.TheVariants.{Boolean, Integer, Enumerated, Null, OctetString, BitString, ObjectId, Text, Sequence, Set, SequenceOf, SetOf, Choice, Tagged, Any}
use Rattle.asn1_types.specs.Rows.{along, names_of, rows_of_parts}
use Rattle.asn1_types.specs.Table.{AreSoundRows}
use Rattle.asn1_types.specs.Value.{Value, boolean, integer, null, octets, bits, object_id, text, parts, list, chosen, any, MaybeValues, no_parts, absent, present}
use Rattle.asn1_types.specs.ValueView.{parts_of}
use Rattle.asn1_types.proofs.Along.{settled}
use Rattle.asn1_types.proofs.Sound.{is_down}
use Rattle.value_text.specs.Printed.{comma, parts_text, slot_text, still_first, sequence_text, list_text, alternative_text, choice_text, unknown, text_by, printed}

abbrev pub Writer : Type 0
Writer = Value → List ℕ

module _ (f g : ℕ → Writer) where
  parts_same : (first : Bool) (ps : List Part) → AllByRecursion (λ m. f m ≡ g m) (rows_of_parts ps) → (vs : MaybeValues) → parts_text f first ps vs ≡ parts_text g first ps vs
  parts_same first [] h vs = refl
  parts_same first (p ∷ ps) h no_parts = refl
  parts_same first (p ∷ ps) h (absent vs) = parts_same first ps h.1 vs
  parts_same first (p ∷ ps) h (present v vs) = λ i. comma first ++ (p.name ++ (codes " " ++ (h.0 i v ++ parts_same false ps h.1 vs i)))

  sequence_same : (ps : List Part) → AllByRecursion (λ m. f m ≡ g m) (rows_of_parts ps) → (v : Value) → sequence_text f ps v ≡ sequence_text g ps v
  sequence_same ps h (parts vs) = ap (λ (x : List ℕ). codes "{" ++ x ++ codes "}") (parts_same true ps h vs)
  sequence_same ps h null = refl
  sequence_same ps h (boolean b) = refl
  sequence_same ps h (integer z) = refl
  sequence_same ps h (octets os) = refl
  sequence_same ps h (bits os n) = refl
  sequence_same ps h (object_id os) = refl
  sequence_same ps h (text os) = refl
  sequence_same ps h (list vs) = refl
  sequence_same ps h (chosen n v) = refl
  sequence_same ps h (any os) = refl

  alternative_same : (ps : List Part) → AllByRecursion (λ m. f m ≡ g m) (rows_of_parts ps) → (at : ℕ) (v : Value) → alternative_text f (slice_get ps at) v ≡ alternative_text g (slice_get ps at) v
  alternative_same [] h at v = refl
  alternative_same (p ∷ ps) h zero v = λ i. p.name ++ (codes " : " ++ h.0 i v)
  alternative_same (p ∷ ps) h (suc at) v = alternative_same ps h.1 at v

  choice_same : (ps : List Part) → AllByRecursion (λ m. f m ≡ g m) (rows_of_parts ps) → (v : Value) → choice_text f ps v ≡ choice_text g ps v
  choice_same ps h (chosen which v) = alternative_same ps h which v
  choice_same ps h null = refl
  choice_same ps h (boolean b) = refl
  choice_same ps h (integer z) = refl
  choice_same ps h (octets os) = refl
  choice_same ps h (bits os n) = refl
  choice_same ps h (object_id os) = refl
  choice_same ps h (text os) = refl
  choice_same ps h (parts qs) = refl
  choice_same ps h (list vs) = refl
  choice_same ps h (any os) = refl

text_cong : (row : TypeRow) (f g : ℕ → Writer) → AllByRecursion (λ m. f m ≡ g m) (names_of row) → text_by f row ≡ text_by g row
text_cong Boolean f g h = refl
text_cong (Integer low high) f g h = refl
text_cong (Enumerated items) f g h = refl
text_cong Null f g h = refl
text_cong (OctetString most) f g h = refl
text_cong BitString f g h = refl
text_cong ObjectId f g h = refl
text_cong (Text kind) f g h = refl
text_cong (Sequence ps) f g h = λ i v. sequence_same f g ps h v i
text_cong (Set ps) f g h = λ i v. sequence_same f g ps h v i
text_cong (SequenceOf inner) f g h = λ i v. list_text (h.0 i) v
text_cong (SetOf inner) f g h = λ i v. list_text (h.0 i) v
text_cong (Choice ps) f g h = λ i v. choice_same f g ps h v i
text_cong (Tagged class number explicit inner) f g h = λ i v. h.0 i v
text_cong Any f g h = refl

-- what is printed of a row, by its rule
pub printed_at : (rows : List TypeRow) → AreSoundRows rows → (n : ℕ) (row : TypeRow) → slice_get rows n ≡ Some row → printed rows n ≡ text_by (printed rows) row
unfolding printed
printed_at rows sound n row e = settled unknown text_by text_cong rows (is_down rows sound) n row e

no_row : (rows : List TypeRow) (n : ℕ) → length rows ≤ n → slice_get rows n ≡ None
no_row [] n le = refl
no_row (row ∷ rows) zero le = absurd (omega arith)
no_row (row ∷ rows) (suc n) le = no_row rows n (omega arith)

along_past : (rows : List TypeRow) (turns n : ℕ) (v : Value) → length rows ≤ n → along unknown text_by rows turns n v ≡ codes "?"
along_past rows zero n v le = refl
along_past rows (suc turns) n v le = rw (no_row rows n le) refl

pub printed_past : (rows : List TypeRow) (n : ℕ) (v : Value) → length rows ≤ n → printed rows n v ≡ codes "?"
unfolding printed
printed_past rows n v le = along_past rows (length rows) n v le

-- ---- one after the other, as loops go

pub slot_cell : (f : ℕ → Writer) (first : Bool) (ps : List Part) (vs : List (Option Value)) (i : ℕ) (p : Part) (o : Option Value) → i < length ps → i < length vs → p ≡ get_or ps i p → o ≡ get_or vs i o
    → parts_text f first (drop i ps) (parts_of (drop i vs)) ≡ slot_text f first p o ++ parts_text f (still_first first o) (drop (i + 1) ps) (parts_of (drop (i + 1) vs))
slot_cell f first ps vs i p o lp lv e d =
    let cp : drop i ps ≡ p ∷ drop (i + 1) ps = rw (add-one, drop-cons ps i p lp, ← e) refl in
    let cv : drop i vs ≡ o ∷ drop (i + 1) vs = rw (add-one, drop-cons vs i o lv, ← d) refl in
    rw (cp, cv) (by_value o)
  where
    by_value : (o : Option Value) → parts_text f first (p ∷ drop (i + 1) ps) (parts_of (o ∷ drop (i + 1) vs)) ≡ slot_text f first p o ++ parts_text f (still_first first o) (drop (i + 1) ps) (parts_of (drop (i + 1) vs))
    by_value None = refl
    by_value (Some v) = simp append_assoc

-- what was put so far, and what is still to be put
pub goes_on : (whole so_far next piece behind now : List ℕ) → whole ≡ so_far ++ behind → behind ≡ piece ++ next → now ≡ so_far ++ piece → whole ≡ now ++ next
goes_on whole so_far next piece behind now a b c = rw (a, b, c) (simp append_assoc)

pub ends : (whole so_far behind : List ℕ) → whole ≡ so_far ++ behind → behind ≡ [] → so_far ≡ whole
ends whole so_far behind a b = rw (a, b) (sym (append-nil so_far))

pub parts_done : (f : ℕ → Writer) (first : Bool) (ps : List Part) (vs : List (Option Value)) (i : ℕ) → min (length ps) (length vs) ≤ i → parts_text f first (drop i ps) (parts_of (drop i vs)) ≡ []
parts_done f first [] vs zero le = refl
parts_done f first [] vs (suc i) le = refl
parts_done f first (p ∷ ps) [] zero le = refl
parts_done f first (p ∷ ps) [] (suc i) le = none (drop i ps)
  where
    none : (qs : List Part) → parts_text f first qs no_parts ≡ []
    none [] = refl
    none (q ∷ qs) = refl
parts_done f first (p ∷ ps) (o ∷ vs) zero le = absurd (omega arith)
parts_done f first (p ∷ ps) (o ∷ vs) (suc i) le = parts_done f first ps vs i (omega arith)
