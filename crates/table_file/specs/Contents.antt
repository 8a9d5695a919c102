-- What tables hold.
use Rattle.std.specs.Prelude.{ℕ, List}
use Rattle.asn1_types.specs.declared.row.TypeRow.{TypeRow}
use Rattle.stub_tables.specs.declared.operation.Operation.{Operation}
use Rattle.stub_tables.specs.declared.operation.ErrorRow.{ErrorRow}
use Rattle.stub_tables.specs.declared.tables.Tables.{Tables}

pub record Contents : Type 0 where
  pub name : List ℕ
  pub name_oid : List ℕ
  pub types : List TypeRow
  pub operations : List Operation
  pub errors : List ErrorRow

abbrev pub contents_of : Tables → Contents
contents_of t = record { name = t.name; name_oid = t.name_oid; types = t.types; operations = t.operations; errors = t.errors }
