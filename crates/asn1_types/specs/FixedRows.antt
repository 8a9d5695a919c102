-- Parts and tags in the rows of a table that is fixed.
use Rattle.std.specs.Prelude.{ℕ, Bool, true, false, List, None}
use Rattle.asn1_types.specs.declared.row.Part.{Part}
use Rattle.asn1_types.specs.declared.row.Class.TheVariants.{Context}
use Rattle.asn1_types.specs.declared.row.TypeRow.{TypeRow}
use Rattle.asn1_types.specs.declared.row.TypeRow.TheVariants.{Tagged}

-- a part of this name, whose type is this row, and which may be absent or not; it has no default
abbrev pub part : List ℕ → ℕ → Bool → Part
part name row optional = record { name = name; inner = record { 0 = row }; optional = optional; default = None }

-- a context tag in the place of a row's own, and one around it (X.690 8.14)
abbrev pub implicit : ℕ → ℕ → TypeRow
implicit number row = Tagged Context number false (record { 0 = row })

abbrev pub explicit : ℕ → ℕ → TypeRow
explicit number row = Tagged Context number true (record { 0 = row })
