-- Rows that stand before a row: a spelling goes from a row to such rows only.
use Rattle.std.specs.Prelude.{ℕ, ◌<◌, ◌≤◌, List, length}
use Rattle.std.specs.List.{AllByRecursion}
use Rattle.asn1_types.specs.Rows.{rows_of_parts}
use Rattle.asn1_types.specs.declared.row.Part.{Part}
use Rattle.asn1_types.specs.declared.row.TypeRow.{TypeRow}

-- row `inner` stands before row `of`, which is a row of the table or its end
pub record IsRowBelow (inner : ℕ) (of : ℕ) (rows : List TypeRow) : Type 0 where
  pub below : inner < of
  pub within : of ≤ length rows

-- the row of each part stands before row `of`, which is a row of the table or its end
pub record ArePartsBelow (parts : List Part) (of : ℕ) (rows : List TypeRow) : Type 0 where
  pub below : AllByRecursion (λ m. m < of) (rows_of_parts parts)
  pub within : of ≤ length rows
