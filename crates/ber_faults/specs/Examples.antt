-- Tables, and octets with a first fault, by which the definitions can be read.
use Rattle.std.specs.Prelude.{ℕ, zero, suc, pos, negsuc, true, false, List, [], ◌∷◌, Some, None, codes}
use Rattle.asn1_types.specs.declared.row.TypeRow.{TypeRow}
use Rattle.asn1_types.specs.declared.row.TypeRow.TheVariants.{Boolean, Integer, OctetString, Sequence, Set, SetOf}

abbrev pub integer : TypeRow
integer = Integer (negsuc 9223372036854775807) (pos 9223372036854775807)

-- SEQUENCE {a INTEGER, b INTEGER DEFAULT 7}
abbrev pub with_default : List TypeRow
with_default =
    integer ∷ Sequence (record { name = codes "a"; inner = record { 0 = 0 }; optional = false; default = None }
    ∷ record { name = codes "b"; inner = record { 0 = 0 }; optional = false; default = Some (pos 7) } ∷ []) ∷ []

-- SET OF INTEGER
abbrev pub set_of_integers : List TypeRow
set_of_integers = integer ∷ SetOf (record { 0 = 0 }) ∷ []

-- OCTET STRING of at most 100 octets
abbrev pub string_table : List TypeRow
string_table = OctetString 100 ∷ []

-- SET {a INTEGER, b BOOLEAN OPTIONAL}
abbrev pub number_and_flag : List TypeRow
number_and_flag =
    integer ∷ Boolean ∷ Set (record { name = codes "a"; inner = record { 0 = 0 }; optional = false; default = None }
    ∷ record { name = codes "b"; inner = record { 0 = 1 }; optional = true; default = None } ∷ []) ∷ []

-- {a 5, b 7} with the default written
abbrev pub default_written : List ℕ
default_written = 48 ∷ 6 ∷ 2 ∷ 1 ∷ 5 ∷ 2 ∷ 1 ∷ 7 ∷ []

-- {3, 1}
abbrev pub falling_items : List ℕ
falling_items = 49 ∷ 6 ∷ 2 ∷ 1 ∷ 3 ∷ 2 ∷ 1 ∷ 1 ∷ []

-- contents of one octet, which is an identifier
abbrev pub cut_by_its_end : List ℕ
cut_by_its_end = 48 ∷ 1 ∷ 2 ∷ []

-- a segment, and one zero octet
abbrev pub half_a_mark : List ℕ
half_a_mark = 36 ∷ 128 ∷ 4 ∷ 1 ∷ 7 ∷ 0 ∷ []

-- {a 7}, and the number of a again, in a constructed value
abbrev pub twice_and_constructed : List ℕ
twice_and_constructed = 49 ∷ 6 ∷ 2 ∷ 1 ∷ 7 ∷ 34 ∷ 1 ∷ 5 ∷ []

-- so many strings of segments, one inside the other, and the identifier of one more
abbrev pub nested_strings : ℕ → List ℕ
nested_strings zero = 4 ∷ []
nested_strings (suc depth) = 36 ∷ 128 ∷ nested_strings depth
