-- What the readers of a row count on where they read a row that it names: the row stands below it, it stands in the table,
-- and the octets have places.
use Rattle.std.specs.Prelude.{ℕ, ◌+◌, ◌<◌, ◌≤◌, List}
use Rattle.std.specs.List.{AllByRecursion}
use Rattle.osi_base.specs.Limits.{past_places}
use Rattle.asn1_types.specs.declared.row.Part.{Part}
use Rattle.asn1_types.specs.Rows.{rows_of_parts}

pub record ReadsBelow (inner of rows place left : ℕ) : Type 0 where
  pub below : inner < of
  pub row : of ≤ rows
  pub whole : place + left < past_places

-- the same of each row that the parts name
pub record ReadsPartsBelow (parts : List Part) (of rows place left : ℕ) : Type 0 where
  pub below : AllByRecursion (λ m. m < of) (rows_of_parts parts)
  pub row : of ≤ rows
  pub whole : place + left < past_places
