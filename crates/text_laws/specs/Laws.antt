-- What is printed of a value is read back as that value.
use Rattle.std.specs.Prelude.{◌≡◌, ℕ, ◌==◌, ◌^◌, nat_lt, Bool, true, false, not, ◌||◌, ◌&&◌, List, [], ◌∷◌, ◌++◌, length, Some}
use Rattle.std.specs.List.{list_all}
use Rattle.asn1_types.specs.declared.row.Item.{Item}
use Rattle.asn1_types.specs.declared.row.Part.{Part}
use Rattle.asn1_types.specs.declared.row.TypeRow.{TypeRow}
use Rattle.asn1_types.specs.declared.row.TypeRow.TheVariants as row
use Rattle.asn1_types.specs.Table.{AreSoundRows}
use Rattle.asn1_types.specs.Value as tree
use Rattle.asn1_types.specs.Value.{Value}
use Rattle.asn1_types.specs.Fits.{is_number, is_octet, bits_fit, object_id_fits, fits}
use Rattle.value_text.specs.Printed.{printed}
use Rattle.value_text.specs.Values.{value_text}
use Rattle.value_reading.specs.Words.{is_sign}
use Rattle.value_reading.specs.Forms.{form_at}
use Rattle.value_reading.specs.Typed.{value_at}

-- what may follow a value: nothing, or a space, a comma or a closing brace
abbrev pub may_follow : List ℕ → Bool
may_follow [] = true
may_follow (c ∷ cs) = c == 32 || c == 44 || c == 125

-- a value that has a form of its own, with numbers and octets of the sizes that they have
abbrev pub has_own_form : Value → Bool
has_own_form (tree.boolean b) = true
has_own_form (tree.integer z) = is_number z
has_own_form tree.null = true
has_own_form (tree.octets os) = list_all is_octet os
has_own_form (tree.bits os unused) = bits_fit (tree.bits os unused)
has_own_form (tree.object_id arcs) = object_id_fits (tree.object_id arcs)
has_own_form (tree.text cs) = true
has_own_form v = false

abbrev pub FormsAreReadBack : Type 0
FormsAreReadBack = (v : Value) (rest : List ℕ) → has_own_form v ≡ true → may_follow rest ≡ true → form_at (value_text v ++ rest) ≡ Some (record { value = v; rest = rest })

-- ---- by types

-- a name as the notation has them: not empty, and without a sign
abbrev pub is_name : List ℕ → Bool
is_name [] = false
is_name (c ∷ cs) = list_all (λ c. not (is_sign c)) (c ∷ cs)

abbrev pub are_named : List Part → Bool
are_named ps = list_all (λ (p : Part). is_name p.name) ps && nat_lt (length ps) (2 ^ 32)

-- a row whose values have a notation: names are words, and it is no `Any`
abbrev pub has_notation : TypeRow → Bool
has_notation (row.Enumerated items) = list_all (λ (i : Item). is_name i.name) items
has_notation (row.Sequence ps) = are_named ps
has_notation (row.Set ps) = are_named ps
has_notation (row.Choice ps) = are_named ps
has_notation row.Any = false
has_notation r = true

-- of tables all of whose rows have a notation, as those of modules
abbrev pub TypedAreReadBack : Type 0
TypedAreReadBack = (rows : List TypeRow) (n : ℕ) (v : Value) (rest : List ℕ) → AreSoundRows rows → list_all has_notation rows ≡ true
    → fits rows n v ≡ true → may_follow rest ≡ true → value_at rows n (printed rows n v ++ rest) ≡ Some (record { value = v; rest = rest })
