-- What a table keeps beside its rows.
use Rattle.std.specs.Prelude.{◌≡◌, ℕ, ◌<◌, List, length, slice_index}
use Rattle.asn1_types.specs.declared.row.TypeRow.{TypeRow}
use Rattle.asn1_types.specs.Rows.{nesting}
use Rattle.asn1_types.specs.Table.{AreSoundRows}

pub record IsKept (rows : List TypeRow) (nestings : List ℕ) : Type 0 where
  pub sound : AreSoundRows rows
  pub len : length nestings ≡ length rows
  pub each : (n : ℕ) → n < length rows → slice_index nestings n ≡ nesting rows n
