-- One whole value of any type (X.690 8.1), as a table of types with one row.
use Rattle.std.specs.Prelude.{ℕ, List, [], ◌∷◌}
use Rattle.asn1_types.specs.declared.row.TypeRow.{TypeRow}
use Rattle.asn1_types.specs.declared.row.TypeRow.TheVariants.{Any}

abbrev pub any_value_rows : List TypeRow
any_value_rows = Any ∷ []

abbrev pub any_value_row : ℕ
any_value_row = 0
