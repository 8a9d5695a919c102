-- What every table of a module keeps, so that what is written by it can be read by it: sound types, and
-- codes in the ranges in which codes are read.
use Rattle.std.specs.Prelude.{◌≡◌, Bool, true, ◌&&◌}
use Rattle.std.specs.List.{list_all}
use Rattle.osi_base.specs.Oid.{is_oid}
use Rattle.asn1_types.specs.Fits.{is_number, has_32_bits}
use Rattle.asn1_types.specs.Table.{AreSoundRows}
use Rattle.stub_tables.specs.declared.operation.Code.{Code}
use Rattle.stub_tables.specs.declared.operation.Code.TheVariants.{Local, Global}
use Rattle.stub_tables.specs.declared.operation.Operation.{Operation}
use Rattle.stub_tables.specs.declared.operation.ErrorRow.{ErrorRow}
use Rattle.stub_tables.specs.declared.tables.Tables.{Tables}

-- A local code has 64 bits, and a global one is an object identifier whose arcs have 32.
abbrev pub code_fits : Code → Bool
code_fits (Local number) = is_number number
code_fits (Global arcs) = is_oid arcs && list_all has_32_bits arcs

pub record IsReadable (tables : Tables) : Type 0 where
  pub types : AreSoundRows tables.types
  pub operations : list_all (λ (o : Operation). code_fits o.code) tables.operations ≡ true
  pub errors : list_all (λ (e : ErrorRow). code_fits e.code) tables.errors ≡ true
