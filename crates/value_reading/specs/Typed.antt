-- Values that are read by their types (the notation of X.680 for values).
use Rattle.std.specs.Prelude.{ℕ, zero, suc, ◌+◌, ◌==◌, nat_le, Bool, true, false, not, is_some, if◌then◌else◌, List, [], ◌∷◌, ◌++◌, length, Option, None, Some, option_map, option_and_then, ◌^◌, slice_get, slice_set}
use Rattle.std.specs.Str.{bytes_eq}
use Rattle.asn1_types.specs.declared.row.Item.{Item}
use Rattle.asn1_types.specs.declared.row.Part.{Part}
use Rattle.asn1_types.specs.declared.row.TypeRow.{TypeRow}
use Rattle.asn1_types.specs.declared.row.TypeRow.TheVariants as row
use Rattle.asn1_types.specs.Rows.{along}
use Rattle.asn1_types.specs.Defaults.{kept}
use Rattle.asn1_types.specs.Fits.{fits}
use Rattle.asn1_types.specs.Rising.{sorted}
use Rattle.asn1_types.specs.Writing.{written}
use Rattle.asn1_types.specs.Value.{Value, integer, parts, list, chosen}
use Rattle.asn1_types.specs.ValueView.{parts_of, values_of, empty_slots}
use Rattle.value_text.specs.Numbers.{kept_below}
use Rattle.value_reading.specs.Found.{Found, Reader, found_before, Listed}
use Rattle.value_reading.specs.Words.{word, behind_word, after_spaces, behind_sign, after_comma, closed_by, after_brace}
use Rattle.value_reading.specs.Forms.{form_at}

abbrev pub Slots : Type 0
Slots = List (Option Value)

-- ---- items of an ENUMERATED (X.680 20.8)

abbrev pub item_named : List Item → List ℕ → Option Value
item_named [] name = None
item_named (item ∷ items) name = if bytes_eq item.name name then Some (integer item.number) else item_named items name

-- ---- parts of a SEQUENCE or SET (X.680 25.18, 27.8)

-- the place of the first part of this name, where so many stand before these
abbrev pub place_from : ℕ → List Part → List ℕ → Option ℕ
place_from before [] name = None
place_from before (p ∷ ps) name = if bytes_eq p.name name then Some before else place_from (suc before) ps name

-- of 32 bits
abbrev pub place_of : List Part → List ℕ → Option ℕ
place_of ps name = option_and_then (kept_below (2 ^ 32)) (place_from 0 ps name)

abbrev pub is_free : Option (Option Value) → Bool
is_free None = false
is_free (Some slot) = not (is_some slot)

-- the parts of a SEQUENCE stand in the order of the notation, those of a SET once each
abbrev pub may_stand : Bool → ℕ → Slots → ℕ → Bool
may_stand true least slots place = nat_le least place
may_stand false least slots place = is_free (slice_get slots place)

-- behind a part's name: one space or more, and its value
abbrev pub part_at : (ℕ → Reader) → Option Part → Reader
part_at inner None text = None
part_at inner (Some p) [] = None
part_at inner (Some p) (c ∷ cs) = if c == 32 then inner p.inner.0 (after_spaces cs) else None

-- a part with its default's value is absent
abbrev pub kept_slot : Part → Option Value → Option Value
kept_slot p None = None
kept_slot p (Some v) = kept p v

abbrev pub kept_slots : List Part → Slots → Slots
kept_slots [] slots = []
kept_slots (p ∷ ps) [] = []
kept_slots (p ∷ ps) (slot ∷ slots) = kept_slot p slot ∷ kept_slots ps slots

abbrev pub closed_parts : List Part → Slots → List ℕ → Option Found
closed_parts ps slots rest = Some (record { value = parts (parts_of (kept_slots ps slots)); rest = rest })

-- behind a part: another one follows a comma, and a brace closes them
abbrev pub behind_part : List Part → (Slots → ℕ → Reader) → Slots → ℕ → Option (List ℕ) → Option (List ℕ) → Option Found
behind_part ps next slots least (Some rest) closed = next slots least rest
behind_part ps next slots least None (Some rest) = closed_parts ps slots rest
behind_part ps next slots least None None = None

abbrev pub with_part : List Part → (Slots → ℕ → Reader) → Slots → ℕ → Option Found → Option Found
with_part ps next slots place None = None
with_part ps next slots place (Some f) =
    behind_part ps next (slice_set slots place (Some f.value)) (place + 1) (after_comma f.rest) (after_brace f.rest)

abbrev pub named_part : (ℕ → Reader) → Bool → List Part → (Slots → ℕ → Reader) → Slots → ℕ → Option ℕ → Reader
named_part inner ordered ps next slots least None rest = None
named_part inner ordered ps next slots least (Some place) rest =
    if may_stand ordered least slots place then with_part ps next slots place (part_at inner (slice_get ps place) rest) else None

-- so many parts at most, the first of them here
abbrev pub parts_at : (ℕ → Reader) → Bool → List Part → ℕ → Slots → ℕ → Reader
parts_at inner ordered ps zero slots least text = None
parts_at inner ordered ps (suc left) slots least text =
    named_part inner ordered ps (parts_at inner ordered ps left) slots least (place_of ps (word text)) (behind_word text)

-- inside the braces: nothing, or parts
abbrev pub first_part : (ℕ → Reader) → Bool → List Part → List ℕ → Option (List ℕ) → Option Found
first_part inner ordered ps inside (Some rest) = closed_parts ps (empty_slots ps) rest
first_part inner ordered ps inside None = parts_at inner ordered ps (length ps) (empty_slots ps) 0 inside

abbrev pub braced : (ℕ → Reader) → Bool → List Part → Option (List ℕ) → Option Found
braced inner ordered ps None = None
braced inner ordered ps (Some inside) = first_part inner ordered ps inside (closed_by inside)

abbrev pub sequence_at : (ℕ → Reader) → Bool → List Part → Reader
sequence_at inner ordered ps text = braced inner ordered ps (behind_sign 123 text)

-- ---- items of a SEQUENCE OF or SET OF (X.680 26.3, 28.3)

abbrev pub ListReader : Type 0
ListReader = List ℕ → Option Listed

abbrev pub closed_items : List Value → List ℕ → Option Listed
closed_items values rest = Some (record { values = values; rest = rest })

-- behind an item, as behind a part
abbrev pub behind_item : (List Value → ListReader) → List Value → Option (List ℕ) → Option (List ℕ) → Option Listed
behind_item next values (Some rest) closed = next values rest
behind_item next values None (Some rest) = closed_items values rest
behind_item next values None None = None

abbrev pub with_item : (List Value → ListReader) → List Value → Option Found → Option Listed
with_item next values None = None
with_item next values (Some f) = behind_item next (values ++ f.value ∷ []) (after_comma f.rest) (after_brace f.rest)

-- so many items at most, the first of them here, behind those that were read
abbrev pub items_at : Reader → ℕ → List Value → ListReader
items_at read zero values text = None
items_at read (suc left) values text = with_item (items_at read left) values (read text)

abbrev pub first_item : Reader → List ℕ → Option (List ℕ) → Option Listed
first_item read inside (Some rest) = closed_items [] rest
first_item read inside None = items_at read (length inside) [] inside

abbrev pub braced_items : Reader → Option (List ℕ) → Option Listed
braced_items read None = None
braced_items read (Some inside) = first_item read inside (closed_by inside)

abbrev pub list_value : (List Value → List Value) → Listed → Found
list_value order l = record { value = list (values_of (order l.values)); rest = l.rest }

abbrev pub list_at : Reader → (List Value → List Value) → Reader
list_at read order text = option_map (list_value order) (braced_items read (behind_sign 123 text))

abbrev pub as_read : List Value → List Value
as_read values = values

-- ---- alternatives of a CHOICE (X.680 29.12)

abbrev pub chosen_at : ℕ → Option Found → Option Found
chosen_at which f = option_map (λ (f : Found). record { value = chosen which f.value; rest = f.rest }) f

abbrev pub alternative_at : (ℕ → Reader) → ℕ → Option Part → Option (List ℕ) → Option Found
alternative_at inner which None text = None
alternative_at inner which (Some p) None = None
alternative_at inner which (Some p) (Some text) = chosen_at which (inner p.inner.0 text)

abbrev pub named_alternative : (ℕ → Reader) → List Part → Option ℕ → List ℕ → Option Found
named_alternative inner ps None rest = None
named_alternative inner ps (Some which) rest = alternative_at inner which (slice_get ps which) (behind_sign 58 (after_spaces rest))

-- a name, a colon and a value
abbrev pub choice_at : (ℕ → Reader) → List Part → Reader
choice_at inner ps text = named_alternative inner ps (place_of ps (word text)) (behind_word text)

-- ---- by rows

abbrev pub read_by : (ℕ → Value → List ℕ) → (ℕ → Reader) → TypeRow → Reader
read_by spell inner (row.Enumerated items) text = found_before (behind_word text) (item_named items (word text))
read_by spell inner (row.Sequence ps) text = sequence_at inner true ps text
read_by spell inner (row.Set ps) text = sequence_at inner false ps text
read_by spell inner (row.SequenceOf of) text = list_at (inner of.0) as_read text
read_by spell inner (row.SetOf of) text = list_at (inner of.0) (sorted (spell of.0)) text
read_by spell inner (row.Choice ps) text = choice_at inner ps text
read_by spell inner (row.Tagged class number explicit of) text = inner of.0 text
read_by spell inner row.Any text = None
read_by spell inner r text = form_at text

abbrev pub unread : Reader
unread text = None

-- the value that stands first in a text by row n of a table
unfoldable pub read_as : List TypeRow → ℕ → Reader
read_as rows n = along unread (read_by (written rows)) rows (length rows) n

abbrev pub if_fits : (Value → Bool) → Option Found → Option Found
if_fits fit None = None
if_fits fit (Some f) = if fit f.value then Some f else None

-- the one that also fits
abbrev pub value_at : List TypeRow → ℕ → Reader
value_at rows n text = if_fits (fits rows n) (read_as rows n text)
