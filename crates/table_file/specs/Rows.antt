-- The rows of types.
use Rattle.std.specs.Prelude.{ℕ, zero, suc, Bool, List, [], ◌∷◌, ◌++◌, Ok, Option, Some, None, option_map}
use Rattle.asn1_types.specs.declared.row.Class.{Class}
use Rattle.asn1_types.specs.declared.row.Part.{Part}
use Rattle.asn1_types.specs.declared.row.TypeId.{TypeId}
use Rattle.asn1_types.specs.declared.row.TypeRow.{TypeRow}
use Rattle.asn1_types.specs.declared.row.TypeRow.TheVariants as rows
use Rattle.asn1_types.specs.declared.refusal.RowRefusal.{RowRefusal}
use Rattle.asn1_types.specs.Numbered.{kind_numbered, class_numbered}
use Rattle.asn1_types.specs.Table.{refusal}
use Rattle.table_file.specs.declared.row_parts.Version.{Version}
use Rattle.table_file.specs.declared.row_parts.Version.TheVariants as versions
use Rattle.table_file.specs.declared.rows.Made.{Made}
use Rattle.table_file.specs.declared.rows.Made.TheVariants as makes
use Rattle.packed_codec.specs.Reading.{Spot}
use Rattle.table_file.specs.Reading.{Reading, ◌>>=◌, refuse}
use Rattle.table_file.specs.Fields.{octet_at, many_at, truth_at, integer_at}
use Rattle.table_file.specs.RowParts.{number_32, row_number_at, list_at, item_at, part_at}

abbrev pub RowReader : Type 0
RowReader = Spot → Reading (Option TypeRow × Spot)

unfoldable pub range_at : RowReader
range_at s = do
  low ← integer_at s
  high ← integer_at low.1
  Ok (Some (rows.Integer low.0 high.0), high.1)

unfoldable pub most_at : RowReader
most_at s = do
  z ← integer_at s
  Ok (option_map rows.OctetString (number_32 z.0), z.1)

unfoldable pub kind_at : RowReader
kind_at s = do
  z ← integer_at s
  Ok (option_map rows.Text (kind_numbered z.0), z.1)

abbrev pub tag_of : Option Class → Option ℕ → Bool → Option TypeId → Option TypeRow
tag_of (Some class) (Some number) explicit (Some inner) = Some (rows.Tagged class number explicit inner)
tag_of class number explicit inner = None

unfoldable pub tagged_at : RowReader
tagged_at s = do
  c ← integer_at s
  n ← integer_at c.1
  e ← truth_at n.1
  i ← row_number_at e.1
  Ok (tag_of (class_numbered c.0) (number_32 n.0) e.0 i.0, i.1)

unfoldable pub enumerated_at : RowReader
enumerated_at s = do
  items ← list_at item_at s
  Ok (option_map rows.Enumerated items.0, items.1)

unfoldable pub sequence_of_at : RowReader
sequence_of_at s = do
  i ← row_number_at s
  Ok (option_map rows.SequenceOf i.0, i.1)

-- a SET OF, which only version 2 has
unfoldable pub set_of_at : Version → ℕ → RowReader
set_of_at versions.One place s = refuse place
set_of_at versions.Two place s = do
  i ← row_number_at s
  Ok (option_map rows.SetOf i.0, i.1)

-- a type of parts, made by this
unfoldable pub of_parts_at : Version → (List Part → TypeRow) → RowReader
of_parts_at version made s = do
  ps ← list_at (part_at version) s
  Ok (option_map made ps.0, ps.1)

abbrev pub made_row : Made → List Part → TypeRow
made_row makes.Sequence ps = rows.Sequence ps
made_row makes.Set ps = rows.Set ps
made_row makes.Choice ps = rows.Choice ps

-- the row behind its number in the CHOICE of rows, which stands at a place
abbrev pub row_behind : Version → ℕ → ℕ → RowReader
row_behind version place zero s = Ok (Some rows.Boolean, s)
row_behind version place (suc zero) s = range_at s
row_behind version place (suc (suc zero)) s = enumerated_at s
row_behind version place (suc (suc (suc zero))) s = Ok (Some rows.Null, s)
row_behind version place (suc (suc (suc (suc zero)))) s = most_at s
row_behind version place (suc (suc (suc (suc (suc zero))))) s = Ok (Some rows.BitString, s)
row_behind version place (suc (suc (suc (suc (suc (suc zero)))))) s = Ok (Some rows.ObjectId, s)
row_behind version place (suc (suc (suc (suc (suc (suc (suc zero))))))) s = kind_at s
row_behind version place (suc (suc (suc (suc (suc (suc (suc (suc zero)))))))) s = of_parts_at version (made_row makes.Sequence) s
row_behind version place (suc (suc (suc (suc (suc (suc (suc (suc (suc zero))))))))) s = of_parts_at version (made_row makes.Set) s
row_behind version place (suc (suc (suc (suc (suc (suc (suc (suc (suc (suc zero)))))))))) s = sequence_of_at s
row_behind version place (suc (suc (suc (suc (suc (suc (suc (suc (suc (suc (suc zero))))))))))) s = of_parts_at version (made_row makes.Choice) s
row_behind version place (suc (suc (suc (suc (suc (suc (suc (suc (suc (suc (suc (suc zero)))))))))))) s = tagged_at s
row_behind version place (suc (suc (suc (suc (suc (suc (suc (suc (suc (suc (suc (suc (suc zero))))))))))))) s = set_of_at version place s
row_behind version place (suc (suc (suc (suc (suc (suc (suc (suc (suc (suc (suc (suc (suc (suc n)))))))))))))) s = refuse place

unfoldable pub row_at : Version → RowReader
row_at version s = do
  o ← octet_at s
  row_behind version s.place o.0 o.1

abbrev pub unless_refused : ℕ → List TypeRow → Option RowRefusal → Reading (List TypeRow)
unless_refused place all None = Ok all
unless_refused place all (Some e) = refuse place

-- the rows, and one more that began at a place, if it is sound behind them
abbrev pub added : ℕ → List TypeRow → Option TypeRow → Reading (List TypeRow)
added place before None = refuse place
added place before (Some row) = unless_refused place (before ++ row ∷ []) (refusal before row)

-- one row more, which is judged before the next is read
unfoldable pub adds : Version → List TypeRow → Spot → Reading (List TypeRow × Spot)
adds version before s = do
  r ← row_at version s
  all ← added s.place before r.0
  Ok (all, r.1)

abbrev pub rows_at : Version → Spot → Reading (List TypeRow × Spot)
rows_at version = many_at (λ n. adds version) []
