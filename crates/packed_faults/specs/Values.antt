-- The first fault of values in the packed syntax, row by row: the fields before it are right, and this field breaks its rule.
use Rattle.std.specs.Prelude.{◌≡◌, ℕ, suc, ◌+◌, ◌-◌, ◌≤◌, ◌<◌, ◌⊎◌, Bool, true, false, Some, None, List, [], ◌∷◌, ◌++◌, length, slice_get}
use Rattle.byteorder.specs.Endian.{big_number}
use Rattle.osi_base.specs.declared.layer_words.Kind.TheVariants.{Content}
use Rattle.asn1_types.specs.declared.row.Part.{Part}
use Rattle.asn1_types.specs.declared.row.TypeRow.{TypeRow}
use Rattle.asn1_types.specs.declared.row.TypeRow.TheVariants as row
use Rattle.asn1_types.specs.Defaults.{may_be_absent, is_default}
use Rattle.asn1_types.specs.Fits.{are_bits, integer_fits, enumerated_fits, octets_fit, text_fits, object_id_fits}
use Rattle.asn1_types.specs.Rising.{behind_last}
use Rattle.asn1_types.specs.Value.{Value}
use Rattle.packed_codec.specs.declared.fault.PackedFault.{PackedFault}
use Rattle.packed_codec.specs.declared.fault.PackedFault.TheVariants.{NotSpelled, TooLong}
use Rattle.packed_codec.specs.Reading.{Spot}
use Rattle.packed_codec.specs.Numbers.{is_size}
use Rattle.packed_codec.specs.Rules.{any_size, at_most, bits_size, last_size, spent}
use Rattle.packed_codec.specs.Writing.{Writer, items, counted, with_size, number_written, octets_written, text_written, object_id_written}

-- what is wrong at a spot, within a limit
abbrev pub Wrong : Type 1
Wrong = ℕ → Spot → PackedFault → Type 0

-- the field at a place breaks the rule of its type
abbrev pub IsAt : ℕ → PackedFault → Type 0
IsAt place f = f ≡ NotSpelled place Content

-- ---- fields

-- a field at a place goes on until here, past the limit
abbrev pub Crosses : ℕ → ℕ → ℕ → PackedFault → Type 0
Crosses limit place until f = (limit < until) × (f ≡ TooLong place)

-- a field of so many octets, of which the first is there, passes the limit
abbrev pub FieldFault : ℕ → Wrong
FieldFault size limit s f = (0 < length s.rest) × Crosses limit s.place (s.place + size) f

-- octets at a spot, within the limit, and others behind them
pub record Takes (limit : ℕ) (s : Spot) (text : List ℕ) (to : Spot) : Type 0 where
  pub parts : s.rest ≡ text ++ to.rest
  pub onward : to.place ≡ s.place + length text
  pub within : to.place ≤ limit
  pub same_left : to.left ≡ s.left

-- a count of four octets
pub record Counts (limit : ℕ) (s : Spot) (n : ℕ) (to : Spot) : Type 0 where
  pub text : List ℕ
  pub four : length text ≡ 4
  pub number : n ≡ big_number 4 text
  pub takes : Takes limit s text to

-- a value that fits is spelled at a spot, within the limit and the items that may still be counted, and others stand behind it
pub record Stands (test : Value → Bool) (write : Writer) (limit : ℕ) (s : Spot) (v : Value) (to : Spot) : Type 0 where
  pub parts : s.rest ≡ write v ++ to.rest
  pub onward : to.place ≡ s.place + length (write v)
  pub within : to.place ≤ limit
  pub spent : s.left ≡ items v + to.left
  pub fits : test v ≡ true

-- ---- single octets, numbers and strings

-- an octet that is 0 or 1: FALSE or TRUE, absent or present
abbrev pub OctetFault : Wrong
OctetFault limit s f = FieldFault 1 limit s f ⊎ ((o : ℕ) × (to : Spot) × Takes limit s (o ∷ []) to × (2 ≤ o) × IsAt s.place f)

-- Behind a size, which is the field at a place, octets of that size: they pass the limit, or the size may not be, or they are
-- all there and not right.
abbrev pub SizedFault : (ℕ → Bool) → (List ℕ → Type 0) → ℕ → ℕ → Wrong
SizedFault few Right place n limit to f =
    Crosses limit place (to.place + n) f
    ⊎ (((to.place + n ≤ limit) × (few n ≡ false) × IsAt place f)
    ⊎ ((few n ≡ true) × (c : List ℕ) × (b : Spot) × Takes limit to c b × (length c ≡ n) × (Right c → ⊥) × IsAt to.place f))

-- a size of one octet, 1 to 8
abbrev pub NumberFault : (List ℕ → Type 0) → Wrong
NumberFault Right limit s f =
    FieldFault 1 limit s f
    ⊎ ((n : ℕ) × (to : Spot) × Takes limit s (n ∷ []) to × (((is_size n ≡ false) × IsAt s.place f) ⊎ ((is_size n ≡ true) × SizedFault is_size Right s.place n limit to f)))

abbrev pub StringFault : (ℕ → Bool) → (List ℕ → Type 0) → Wrong
StringFault few Right limit s f =
    FieldFault 4 limit s f
    ⊎ ((n : ℕ) × (to : Spot) × Counts limit s n to × SizedFault few Right s.place n limit to f)

-- contents with their size in front spell a value that fits
abbrev pub SpellWith : (List ℕ → List ℕ) → (Value → Bool) → Writer → List ℕ → Type 0
SpellWith wrap test write c = (v : Value) × (test v ≡ true) × (write v ≡ wrap c)

abbrev pub AreBits : ℕ → List ℕ → Type 0
AreBits unused c = are_bits c unused ≡ true

-- the number of unused bits, 0 to 7, and the octets
abbrev pub BitsFault : Wrong
BitsFault limit s f =
    FieldFault 1 limit s f
    ⊎ ((u : ℕ) × (to : Spot) × Takes limit s (u ∷ []) to × (((8 ≤ u) × IsAt s.place f) ⊎ ((u < 8) × StringFault (bits_size u) (AreBits u) limit to f)))

-- ---- values that hold values

-- the value of a part has the fault, or is its default's: that has the place of its last field
abbrev pub PresentFault : (Value → Bool) → Writer → Wrong → Part → Wrong
PresentFault test write W p limit s f =
    W limit s f
    ⊎ ((v : Value) × (to : Spot) × Stands test write limit s v to × (is_default p.default v ≡ true) × IsAt (to.place - last_size v) f)

-- a part is present from here on: behind a 1, where it may be absent
abbrev pub IsPresent : Part → ℕ → Spot → Spot → Type 0
IsPresent p limit s to =
    ((may_be_absent p ≡ true) × Takes limit s (1 ∷ []) to)
    ⊎ ((may_be_absent p ≡ false) × (to ≡ s))

-- The parts in the order of the notation: each is right or absent, up to the field that has the fault.
pub data PartsFault (test : ℕ → Value → Bool) (write : ℕ → Writer) (W : ℕ → Wrong) (limit : ℕ) : List Part → Spot → PackedFault → Type 0 where
  part_mark : (p : Part) (ps : List Part) (s : Spot) (f : PackedFault) → may_be_absent p ≡ true → OctetFault limit s f → PartsFault test write W limit (p ∷ ps) s f
  part_inside : (p : Part) (ps : List Part) (s to : Spot) (f : PackedFault) → IsPresent p limit s to
      → PresentFault (test p.inner.0) (write p.inner.0) (W p.inner.0) p limit to f → PartsFault test write W limit (p ∷ ps) s f
  part_absent : (p : Part) (ps : List Part) (s to : Spot) (f : PackedFault) → may_be_absent p ≡ true → Takes limit s (0 ∷ []) to
      → PartsFault test write W limit ps to f → PartsFault test write W limit (p ∷ ps) s f
  part_behind : (p : Part) (ps : List Part) (s at : Spot) (v : Value) (to : Spot) (f : PackedFault) → IsPresent p limit s at → Stands (test p.inner.0) (write p.inner.0) limit at v to
      → is_default p.default v ≡ false → PartsFault test write W limit ps to f → PartsFault test write W limit (p ∷ ps) s f

-- a count, and as many items; a count that, with those before, passes what one value may count is at fault
abbrev pub CountedFault : (ℕ → Wrong) → Wrong
CountedFault Items limit s f =
    FieldFault 4 limit s f
    ⊎ ((n : ℕ) × (to : Spot) × Counts limit s n to × (((to.left < n) × IsAt s.place f) ⊎ ((n ≤ to.left) × Items n limit (spent n to) f)))

pub data ItemsFault (test : Value → Bool) (write : Writer) (W : Wrong) (limit : ℕ) : ℕ → Spot → PackedFault → Type 0 where
  item_inside : (n : ℕ) (s : Spot) (f : PackedFault) → W limit s f → ItemsFault test write W limit (suc n) s f
  item_behind : (n : ℕ) (s : Spot) (v : Value) (to : Spot) (f : PackedFault) → Stands test write limit s v to → ItemsFault test write W limit n to f → ItemsFault test write W limit (suc n) s f

-- the same of a SET OF, behind the items before: a whole item that is less than the one before is at fault from its first octet on
pub data SetItemsFault (spell : Value → List ℕ) (test : Value → Bool) (write : Writer) (W : Wrong) (limit : ℕ) : List Value → ℕ → Spot → PackedFault → Type 0 where
  set_item_inside : (before : List Value) (n : ℕ) (s : Spot) (f : PackedFault) → W limit s f → SetItemsFault spell test write W limit before (suc n) s f
  set_item_less : (before : List Value) (n : ℕ) (s : Spot) (v : Value) (to : Spot) (f : PackedFault) → Stands test write limit s v to → behind_last spell before v ≡ false → IsAt s.place f
      → SetItemsFault spell test write W limit before (suc n) s f
  set_item_behind : (before : List Value) (n : ℕ) (s : Spot) (v : Value) (to : Spot) (f : PackedFault) → Stands test write limit s v to → behind_last spell before v ≡ true
      → SetItemsFault spell test write W limit (before ++ v ∷ []) n to f → SetItemsFault spell test write W limit before (suc n) s f

abbrev pub ListFault : (Value → Bool) → Writer → Wrong → Wrong
ListFault test write W = CountedFault (λ n limit s f. ItemsFault test write W limit n s f)

abbrev pub SetOfFault : (Value → List ℕ) → (Value → Bool) → Writer → Wrong → Wrong
SetOfFault spell test write W = CountedFault (λ n limit s f. SetItemsFault spell test write W limit [] n s f)

-- the alternative's place in one octet, and its value
abbrev pub ChoiceFault : (ℕ → Wrong) → List Part → Wrong
ChoiceFault W ps limit s f =
    FieldFault 1 limit s f
    ⊎ ((o : ℕ) × (to : Spot) × Takes limit s (o ∷ []) to
    × (((slice_get ps o ≡ None) × IsAt s.place f) ⊎ ((p : Part) × (slice_get ps o ≡ Some p) × W p.inner.0 limit to f)))

-- ---- each row, from which values of the rows that it names fit, how they are written, and what is wrong with them

-- nothing may stand where there is no packed spelling
abbrev pub DeadFault : Wrong
DeadFault limit s f = IsAt s.place f

abbrev pub RowFault : (ℕ → Value → List ℕ) → (ℕ → Value → Bool) → (ℕ → Writer) → (ℕ → Wrong) → TypeRow → Wrong
RowFault spell test write W row.Boolean = OctetFault
RowFault spell test write W (row.Integer low high) = NumberFault (SpellWith with_size (integer_fits low high) number_written)
RowFault spell test write W (row.Enumerated named) = NumberFault (SpellWith with_size (enumerated_fits named) number_written)
RowFault spell test write W row.Null = λ limit s f. ⊥
RowFault spell test write W (row.OctetString most) = StringFault (at_most most) (SpellWith counted (octets_fit most) octets_written)
RowFault spell test write W row.BitString = BitsFault
RowFault spell test write W row.ObjectId = StringFault any_size (SpellWith counted object_id_fits object_id_written)
RowFault spell test write W (row.Text kind) = StringFault any_size (SpellWith counted (text_fits kind) text_written)
RowFault spell test write W (row.Sequence ps) = λ limit s f. PartsFault test write W limit ps s f
RowFault spell test write W (row.Set ps) = λ limit s f. PartsFault test write W limit ps s f
RowFault spell test write W (row.SequenceOf of) = ListFault (test of.0) (write of.0) (W of.0)
RowFault spell test write W (row.SetOf of) = SetOfFault (spell of.0) (test of.0) (write of.0) (W of.0)
RowFault spell test write W (row.Choice ps) = ChoiceFault W ps
RowFault spell test write W (row.Tagged class number explicit of) = W of.0
RowFault spell test write W row.Any = DeadFault
