-- Parts with a default (X.680 25.9). A default is a number: 0 or 1 of a BOOLEAN, else that of an INTEGER or of an item
-- of an ENUMERATED.
use Rattle.std.specs.Prelude.{ℕ, ℤ, pos, negsuc, Bool, true, false, not, ◌&&◌, ◌||◌, List, length, Option, Some, None, nat_eq, int_lt, if◌then◌else◌}
use Rattle.std.specs.List.{list_any}
use Rattle.asn1_types.specs.declared.row.Item.{Item}
use Rattle.asn1_types.specs.declared.row.Part.{Part}
use Rattle.asn1_types.specs.declared.row.TypeRow.{TypeRow}
use Rattle.asn1_types.specs.declared.row.TypeRow.TheVariants.{Boolean, Integer, Enumerated, Sequence, Set, Choice, Tagged}
use Rattle.asn1_types.specs.Value.{Value, boolean, integer}
use Rattle.asn1_types.specs.Rows.{along}

abbrev pub same_number : ℤ → ℤ → Bool
same_number (pos a) (pos b) = nat_eq a b
same_number (negsuc a) (negsuc b) = nat_eq a b
same_number a b = false

-- some item has this number
abbrev pub is_item : List Item → ℤ → Bool
is_item items z = list_any (λ (item : Item). same_number item.number z) items

abbrev pub has_default : Option ℤ → Bool
has_default None = false
has_default (Some d) = true

-- an optional part may be absent, and a part with a default, for which it stands then
abbrev pub may_be_absent : Part → Bool
may_be_absent p = p.optional || has_default p.default

abbrev pub truth_number : Bool → ℤ
truth_number true = pos 1
truth_number false = pos 0

-- a value is the one that a default names
abbrev pub is_named : ℤ → Value → Bool
is_named d (boolean b) = same_number d (truth_number b)
is_named d (integer z) = same_number d z
is_named d v = false

abbrev pub is_default : Option ℤ → Value → Bool
is_default None v = false
is_default (Some d) v = is_named d v

-- a part with its default's value is absent
abbrev pub kept : Part → Value → Option Value
kept p v = if is_default p.default v then None else Some v

-- ---- which defaults a type has

abbrev pub default_by : (ℕ → ℤ → Bool) → TypeRow → ℤ → Bool
default_by inner Boolean d = same_number d (pos 0) || same_number d (pos 1)
default_by inner (Integer low high) d = not (int_lt d low) && not (int_lt high d)
default_by inner (Enumerated items) d = is_item items d
default_by inner (Tagged class number explicit of) d = inner of.0 d
default_by inner row d = false

abbrev pub no_default : ℤ → Bool
no_default d = false

-- row n is a BOOLEAN, INTEGER or ENUMERATED, or one under tags, and this default fits it
unfoldable pub takes_default : List TypeRow → ℕ → ℤ → Bool
takes_default rows n = along no_default default_by rows (length rows) n

abbrev pub is_bad : (ℕ → ℤ → Bool) → Part → Option ℤ → Bool
is_bad takes p None = false
is_bad takes p (Some d) = p.optional || not (takes p.inner.0 d)

-- an optional part has a default, or one that doesn't fit its type
abbrev pub is_bad_part : (ℕ → ℤ → Bool) → Part → Bool
is_bad_part takes p = is_bad takes p p.default

abbrev pub is_bad_alternative : Part → Bool
is_bad_alternative p = has_default p.default

abbrev pub has_bad_default : (ℕ → ℤ → Bool) → TypeRow → Bool
has_bad_default takes (Sequence parts) = list_any (is_bad_part takes) parts
has_bad_default takes (Set parts) = list_any (is_bad_part takes) parts
has_bad_default takes (Choice parts) = list_any is_bad_alternative parts
has_bad_default takes row = false
