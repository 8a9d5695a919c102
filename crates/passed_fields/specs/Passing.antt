-- Which fields are known, and which are passed over, by their tags.
use Rattle.std.specs.Prelude.{ℕ, zero, suc, Bool, true, ◌&&◌, Option, Some, None, List, [], ◌∷◌, nat_lt, nat_le, nat_eq, if◌then◌else◌}
use Rattle.asn1_types.specs.declared.row.Class.{Class}
use Rattle.asn1_types.specs.declared.row.Class.TheVariants.{Context}
use Rattle.asn1_types.specs.Rows.{same_class}
use Rattle.asn1_types.specs.Value.{Value}
use Rattle.passed_fields.specs.declared.field.Field as known
use Rattle.passed_fields.specs.declared.field.Passed as over

-- a tag whose number is below 31 is a field's
abbrev pub is_of : known.Field → Class → ℕ → Bool
is_of f class number = same_class class f.class && nat_eq number f.number && nat_lt number 31

abbrev pub are_optional : List known.Field → Bool
are_optional [] = true
are_optional (f ∷ fs) = f.optional && are_optional fs

-- fields that don't stand
abbrev pub nones : ℕ → List (Option Value)
nones zero = []
nones (suc n) = None ∷ nones n

-- of how many known fields it is told whether they stand, once one is passed over behind so many
abbrev pub settled_behind : Option ℕ → ℕ → Option ℕ
settled_behind None settled = Some settled
settled_behind (Some before) settled = if nat_le settled before then Some before else None

-- the tag is one of those that are passed over
abbrev pub is_over : over.Passed → Class → ℕ → Bool
is_over p class number = same_class class Context && nat_le p.low number && nat_le number p.high && nat_lt number 31

abbrev pub settled_by : over.Passed → ℕ → Class → ℕ → Option ℕ
settled_by p settled class number = if is_over p class number then settled_behind p.before settled else None

abbrev pub or_else : Option ℕ → Option ℕ → Option ℕ
or_else None more = more
or_else (Some n) more = Some n

-- whether a field with this tag is passed over where so many known fields are told
abbrev pub passes : List over.Passed → ℕ → Class → ℕ → Option ℕ
passes [] settled class number = None
passes (p ∷ ps) settled class number = or_else (settled_by p settled class number) (passes ps settled class number)
