-- Rows of fixed tables of types.
use Rattle.std.specs.Prelude.{◌^◌, Bool, true, ◌&&◌, List, [], ◌∷◌, ◌++◌, is_none, nat_lt}
use Rattle.asn1_types.specs.declared.row.TypeRow.{TypeRow}
use Rattle.asn1_types.specs.declared.row.TypeRow.TheVariants.{Tagged}
use Rattle.asn1_types.specs.Table.{refusal}

-- each of these rows may be added behind those before it
abbrev pub all_added : List TypeRow → List TypeRow → Bool
all_added before [] = true
all_added before (row ∷ rows) = is_none (refusal before row) && all_added (before ++ row ∷ []) rows

-- the numbers of tags have 32 bits
abbrev pub has_short_tag : TypeRow → Bool
has_short_tag (Tagged class number explicit inner) = nat_lt number (2 ^ 32)
has_short_tag row = true

abbrev pub are_short : List TypeRow → Bool
are_short [] = true
are_short (row ∷ rows) = has_short_tag row && are_short rows
