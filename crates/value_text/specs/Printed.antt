-- What values print as by their types: the notation of X.680 for values, with one space where it needs any.
use Rattle.std.specs.Prelude.{ℕ, ℤ, Bool, true, false, List, [], ◌∷◌, ◌++◌, length, Option, None, Some, slice_get, codes, if◌then◌else◌}
use Rattle.asn1_types.specs.declared.row.Item.{Item}
use Rattle.asn1_types.specs.declared.row.Part.{Part}
use Rattle.asn1_types.specs.declared.row.TypeRow.{TypeRow}
use Rattle.asn1_types.specs.declared.row.TypeRow.TheVariants as row
use Rattle.asn1_types.specs.Rows.{along}
use Rattle.asn1_types.specs.Defaults.{same_number}
use Rattle.asn1_types.specs.Value.{Value, integer, parts, list, chosen, MaybeValues, absent, present, Values, no_values, value}
use Rattle.value_text.specs.Values.{value_text}

-- the name of the first item with this number (X.680 20.8)
abbrev pub item_name : List Item → ℤ → List ℕ
item_name [] z = []
item_name (i ∷ is) z = if same_number i.number z then i.name else item_name is z

abbrev pub item_text : List Item → Value → List ℕ
item_text items (integer z) = item_name items z
item_text items v = codes "?"

-- what parts an element from those before it
abbrev pub comma : Bool → List ℕ
comma true = []
comma false = codes ", "

-- the parts that are there, each with its name (X.680 25.18)
abbrev pub parts_text : (ℕ → Value → List ℕ) → Bool → List Part → MaybeValues → List ℕ
parts_text inner first (p ∷ ps) (absent vs) = parts_text inner first ps vs
parts_text inner first (p ∷ ps) (present v vs) = comma first ++ (p.name ++ (codes " " ++ (inner p.inner.0 v ++ parts_text inner false ps vs)))
parts_text inner first ps vs = []

-- one part, and whether what comes next is still the first
abbrev pub slot_text : (ℕ → Value → List ℕ) → Bool → Part → Option Value → List ℕ
slot_text inner first p None = []
slot_text inner first p (Some v) = comma first ++ (p.name ++ (codes " " ++ inner p.inner.0 v))

abbrev pub still_first : Bool → Option Value → Bool
still_first first None = first
still_first first (Some v) = false

abbrev pub sequence_text : (ℕ → Value → List ℕ) → List Part → Value → List ℕ
sequence_text inner ps (parts vs) = codes "{" ++ parts_text inner true ps vs ++ codes "}"
sequence_text inner ps v = codes "?"

abbrev pub items_text : (Value → List ℕ) → Bool → Values → List ℕ
items_text inner first no_values = []
items_text inner first (value v vs) = comma first ++ (inner v ++ items_text inner false vs)

abbrev pub list_text : (Value → List ℕ) → Value → List ℕ
list_text inner (list vs) = codes "{" ++ items_text inner true vs ++ codes "}"
list_text inner v = codes "?"

abbrev pub alternative_text : (ℕ → Value → List ℕ) → Option Part → Value → List ℕ
alternative_text inner None v = codes "?"
alternative_text inner (Some p) v = p.name ++ (codes " : " ++ inner p.inner.0 v)

abbrev pub choice_text : (ℕ → Value → List ℕ) → List Part → Value → List ℕ
choice_text inner ps (chosen which v) = alternative_text inner (slice_get ps which) v
choice_text inner ps v = codes "?"

abbrev pub unknown : Value → List ℕ
unknown v = codes "?"

abbrev pub text_by : (ℕ → Value → List ℕ) → TypeRow → Value → List ℕ
text_by inner (row.Enumerated items) v = item_text items v
text_by inner (row.Sequence ps) v = sequence_text inner ps v
text_by inner (row.Set ps) v = sequence_text inner ps v
text_by inner (row.SequenceOf of) v = list_text (inner of.0) v
text_by inner (row.SetOf of) v = list_text (inner of.0) v
text_by inner (row.Choice ps) v = choice_text inner ps v
text_by inner (row.Tagged class number explicit of) v = inner of.0 v
text_by inner r v = value_text v

-- what a value prints as by row n of a table
unfoldable pub printed : List TypeRow → ℕ → Value → List ℕ
printed rows n = along unknown text_by rows (length rows) n
