-- The types of a table file.
use Rattle.std.proofs.Common.{List, [], ◌∷◌, ◌++◌, ℕ}
use Rattle.asn1_types.specs.declared.row.TypeRow.{TypeRow}
use Rattle.asn1_types.specs.declared.row.TypeRow.TheVariants as rows
use Rattle.table_file.specs.Contents.{Contents}
use Rattle.table_file.specs.Laws.{IsTableFile}
use Rattle.table_file.specs.Sound.{Along, HasRowForm, IsRow}
use Rattle.typed_modules.proofs.TypedRows.{IsTyped, AreTyped}

row_typed : (version : _) (row : TypeRow) → HasRowForm version row → IsTyped row
row_typed version rows.Boolean h = tt
row_typed version (rows.Integer low high) h = tt
row_typed version (rows.Enumerated items) h = tt
row_typed version rows.Null h = tt
row_typed version (rows.OctetString most) h = tt
row_typed version rows.BitString h = tt
row_typed version rows.ObjectId h = tt
row_typed version (rows.Text kind) h = tt
row_typed version (rows.Sequence parts) h = tt
row_typed version (rows.Set parts) h = tt
row_typed version (rows.SequenceOf inner) h = tt
row_typed version (rows.SetOf inner) h = tt
row_typed version (rows.Choice parts) h = tt
row_typed version (rows.Tagged class number explicit inner) h = tt
row_typed version rows.Any h = h

rows_typed : (version : _) (before all : List TypeRow) → Along (IsRow version) before all → AreTyped all
rows_typed version before [] h = tt
rows_typed version before (row ∷ all) h = (row_typed version row h.0.form, rows_typed version (before ++ row ∷ []) all h.1)

pub typed_file : (bytes : List ℕ) (c : Contents) → IsTableFile bytes c → AreTyped c.types
typed_file bytes c file = rows_typed file.version [] c.types file.sound.types
