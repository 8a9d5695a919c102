-- Tables, and octets with a first fault, by which the definitions can be read.
use Rattle.std.specs.Prelude.{ℕ, pos, negsuc, false, List, [], ◌∷◌, Some, None, codes}
use Rattle.asn1_types.specs.declared.row.TypeRow.{TypeRow}
use Rattle.asn1_types.specs.declared.row.TypeRow.TheVariants.{Integer, Sequence, SetOf}

abbrev pub integer : TypeRow
integer = Integer (negsuc 9223372036854775807) (pos 9223372036854775807)

-- SEQUENCE {a INTEGER, b INTEGER DEFAULT 7}
abbrev pub with_default : List TypeRow
with_default =
    integer ∷ Sequence (record { name = codes "a"; inner = record { 0 = 0 }; optional = false; default = None }
    ∷ record { name = codes "b"; inner = record { 0 = 0 }; optional = false; default = Some (pos 7) } ∷ []) ∷ []

-- SET OF INTEGER
abbrev pub set_of_integers : List TypeRow
set_of_integers = integer ∷ SetOf (record { 0 = 0 }) ∷ []

-- {a 5, b 7} with the default written
abbrev pub default_written : List ℕ
default_written = 1 ∷ 5 ∷ 1 ∷ 1 ∷ 7 ∷ []

-- {3, 1}
abbrev pub falling_items : List ℕ
falling_items = 0 ∷ 0 ∷ 0 ∷ 2 ∷ 1 ∷ 3 ∷ 1 ∷ 1 ∷ []

-- a size of nine octets
abbrev pub large_size : List ℕ
large_size = 9 ∷ []
