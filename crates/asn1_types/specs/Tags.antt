-- Tags as octets (X.690 8.1.2), and their order, by class and then by number (X.680 8.6).
use Rattle.std.specs.Prelude.{ℕ, ◌+◌, ◌-◌, ◌*◌, ◌%◌, ◌^◌, min, Bool, Option, Some, None, List, [], ◌∷◌, nat_lt, nat_eq, if◌then◌else◌}
use Rattle.asn1_types.specs.declared.row.Class.{Class}
use Rattle.asn1_types.specs.declared.row.Class.TheVariants.{Universal, Application, Context, Private}
use Rattle.asn1_types.specs.declared.row.Tag as tags
use Rattle.asn1_types.specs.Rows.{class_number}

-- a given tag, or else this one
abbrev pub tag_or : Option tags.Tag → Class → ℕ → tags.Tag
tag_or None class number = record { class = class; number = number }
tag_or (Some tag) class number = tag

-- class and form, bits 8 to 6
abbrev pub leading : Class → Bool → ℕ
leading class constructed = 64 * class_number class + (if constructed then 32 else 0)

abbrev pub class_of : ℕ → Class
class_of first = if nat_lt first 64 then Universal else (if nat_lt first 128 then Application else (if nat_lt first 192 then Context else Private))

-- numbers past 32 bits are all one
abbrev pub capped : ℕ → ℕ
capped n = min n (2 ^ 32)

-- Universal, application, context, private (X.680 8.6), and in each class by the number.
abbrev pub rank : Class → ℕ → ℕ
rank class number = 2 ^ 33 * class_number class + capped number

-- more than any rank
abbrev pub ranks : ℕ
ranks = 2 ^ 35

-- the number that digits of seven bits begin with (X.690 8.1.2.4.2)
abbrev pub front_number : ℕ → List ℕ → ℕ
front_number number [] = number
front_number number (digit ∷ digits) =
    if nat_lt digit 128 then capped (128 * number + digit) else front_number (capped (128 * number + (digit - 128))) digits

-- the rank of the tag that octets begin with (X.690 8.1.2)
unfoldable pub front_rank : List ℕ → ℕ
front_rank [] = 0
front_rank (first ∷ rest) = if nat_eq (first % 32) 31 then rank (class_of first) (front_number 0 rest) else rank (class_of first) (first % 32)
