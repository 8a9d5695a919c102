-- What is read by a row goes by its rule.
use Rattle.std.proofs.Common.{◌≡◌, ℕ, zero, suc, ◌==◌, ◌≤◌, Bool, true, false, List, [], ◌∷◌, length, Option, Some, None, refl, arith, if◌then◌else◌}
use Rattle.std.specs.Prelude.{slice_get}
use Rattle.std.specs.List.{AllByRecursion}
use Rattle.asn1_types.specs.declared.row.Part.{Part}
use Rattle.asn1_types.specs.declared.row.TypeRow.{TypeRow}
use Rattle.asn1_types.specs.declared.row.TypeRow.TheVariants.{Boolean, Integer, Enumerated, Null, OctetString, BitString, ObjectId, Text, Sequence, Set, SequenceOf, SetOf, Choice, Tagged, Any}
use Rattle.asn1_types.specs.Rows.{along, names_of, rows_of_parts}
use Rattle.asn1_types.specs.Rising.{sorted}
use Rattle.asn1_types.specs.Table.{AreSoundRows}
use Rattle.asn1_types.specs.Value.{Value}
use Rattle.asn1_types.specs.Writing.{written}
use Rattle.asn1_types.proofs.Along.{settled}
use Rattle.asn1_types.proofs.Sound.{is_down}
use Rattle.asn1_types.specs.ValueView.{empty_slots}
use Rattle.value_reading.specs.Found.{Reader}
use Rattle.value_reading.specs.Words.{word, behind_word, after_spaces, behind_sign, closed_by}
use Rattle.value_reading.specs.Typed.{Slots, place_of, may_stand, part_at, with_part, named_part, parts_at, first_part, braced, sequence_at, list_at, as_read, chosen_at, alternative_at, named_alternative, choice_at, read_by, unread, read_as}

module _ (f g : ℕ → Reader) where
  Same : List Part → Type 0
  Same ps = AllByRecursion (λ m. f m ≡ g m) (rows_of_parts ps)

  part_same : (ps : List Part) → AllByRecursion (λ m. f m ≡ g m) (rows_of_parts ps) → (place : ℕ) (text : List ℕ) → part_at f (slice_get ps place) text ≡ part_at g (slice_get ps place) text
  part_same [] h place text = refl
  part_same (p ∷ ps) h zero [] = refl
  part_same (p ∷ ps) h zero (c ∷ cs) = λ i. if c == 32 then h.0 i (after_spaces cs) else None
  part_same (p ∷ ps) h (suc place) text = part_same ps h.1 place text

  named_same : (ordered : Bool) (ps : List Part) → AllByRecursion (λ m. f m ≡ g m) (rows_of_parts ps) → (next last : Slots → ℕ → Reader) → next ≡ last
      → (slots : Slots) (least : ℕ) (place : Option ℕ) (rest : List ℕ) → named_part f ordered ps next slots least place rest ≡ named_part g ordered ps last slots least place rest
  named_same ordered ps h next last e slots least None rest = refl
  named_same ordered ps h next last e slots least (Some place) rest =
      λ i. if may_stand ordered least slots place then with_part ps (e i) slots place (part_same ps h place rest i) else None

  parts_same : (ordered : Bool) (ps : List Part) → AllByRecursion (λ m. f m ≡ g m) (rows_of_parts ps) → (left : ℕ) → parts_at f ordered ps left ≡ parts_at g ordered ps left
  parts_same ordered ps h zero = refl
  parts_same ordered ps h (suc left) =
      λ i slots least text. named_same ordered ps h (parts_at f ordered ps left) (parts_at g ordered ps left) (parts_same ordered ps h left) slots least (place_of ps (word text)) (behind_word text) i

  first_same : (ordered : Bool) (ps : List Part) → AllByRecursion (λ m. f m ≡ g m) (rows_of_parts ps) → (inside : List ℕ) (closed : Option (List ℕ))
      → first_part f ordered ps inside closed ≡ first_part g ordered ps inside closed
  first_same ordered ps h inside (Some rest) = refl
  first_same ordered ps h inside None = λ i. parts_same ordered ps h (length ps) i (empty_slots ps) 0 inside

  braced_same : (ordered : Bool) (ps : List Part) → AllByRecursion (λ m. f m ≡ g m) (rows_of_parts ps) → (inside : Option (List ℕ))
      → braced f ordered ps inside ≡ braced g ordered ps inside
  braced_same ordered ps h None = refl
  braced_same ordered ps h (Some inside) = first_same ordered ps h inside (closed_by inside)

  sequence_same : (ordered : Bool) (ps : List Part) → AllByRecursion (λ m. f m ≡ g m) (rows_of_parts ps) → (text : List ℕ) → sequence_at f ordered ps text ≡ sequence_at g ordered ps text
  sequence_same ordered ps h text = braced_same ordered ps h (behind_sign 123 text)

  alternative_same : (ps : List Part) → AllByRecursion (λ m. f m ≡ g m) (rows_of_parts ps) → (which place : ℕ) (text : Option (List ℕ))
      → alternative_at f which (slice_get ps place) text ≡ alternative_at g which (slice_get ps place) text
  alternative_same [] h which place text = refl
  alternative_same (p ∷ ps) h which zero None = refl
  alternative_same (p ∷ ps) h which zero (Some text) = λ i. chosen_at which (h.0 i text)
  alternative_same (p ∷ ps) h which (suc place) text = alternative_same ps h.1 which place text

  chosen_same : (ps : List Part) → AllByRecursion (λ m. f m ≡ g m) (rows_of_parts ps) → (which : Option ℕ) (rest : List ℕ) → named_alternative f ps which rest ≡ named_alternative g ps which rest
  chosen_same ps h None rest = refl
  chosen_same ps h (Some which) rest = alternative_same ps h which which (behind_sign 58 (after_spaces rest))

  choice_same : (ps : List Part) → AllByRecursion (λ m. f m ≡ g m) (rows_of_parts ps) → (text : List ℕ) → choice_at f ps text ≡ choice_at g ps text
  choice_same ps h text = chosen_same ps h (place_of ps (word text)) (behind_word text)

read_cong : (spell : ℕ → Value → List ℕ) (row : TypeRow) (f g : ℕ → Reader) → AllByRecursion (λ m. f m ≡ g m) (names_of row) → read_by spell f row ≡ read_by spell g row
read_cong spell Boolean f g h = refl
read_cong spell (Integer low high) f g h = refl
read_cong spell (Enumerated items) f g h = refl
read_cong spell Null f g h = refl
read_cong spell (OctetString most) f g h = refl
read_cong spell BitString f g h = refl
read_cong spell ObjectId f g h = refl
read_cong spell (Text kind) f g h = refl
read_cong spell (Sequence ps) f g h = λ i text. sequence_same f g true ps h text i
read_cong spell (Set ps) f g h = λ i text. sequence_same f g false ps h text i
read_cong spell (SequenceOf inner) f g h = λ i text. list_at (h.0 i) as_read text
read_cong spell (SetOf inner) f g h = λ i text. list_at (h.0 i) (sorted (spell inner.0)) text
read_cong spell (Choice ps) f g h = λ i text. choice_same f g ps h text i
read_cong spell (Tagged class number explicit inner) f g h = λ i text. h.0 i text
read_cong spell Any f g h = refl

-- what is read by a row, by its rule
pub read_at : (rows : List TypeRow) → AreSoundRows rows → (n : ℕ) (row : TypeRow) → slice_get rows n ≡ Some row → read_as rows n ≡ read_by (written rows) (read_as rows) row
unfolding read_as
read_at rows sound n row e = settled unread (read_by (written rows)) (read_cong (written rows)) rows (is_down rows sound) n row e

no_row : (rows : List TypeRow) (n : ℕ) → length rows ≤ n → slice_get rows n ≡ None
no_row [] n le = refl
no_row (row ∷ rows) zero le = absurd (omega arith)
no_row (row ∷ rows) (suc n) le = no_row rows n (omega arith)

along_past : (rows : List TypeRow) (turns n : ℕ) (text : List ℕ) → length rows ≤ n → along unread (read_by (written rows)) rows turns n text ≡ None
along_past rows zero n text le = refl
along_past rows (suc turns) n text le = rw (no_row rows n le) refl

pub read_past : (rows : List TypeRow) (n : ℕ) (text : List ℕ) → length rows ≤ n → read_as rows n text ≡ None
unfolding read_as
read_past rows n text le = along_past rows (length rows) n text le
