-- Look-ups in the tables of a module.
use Rattle.std.specs.Prelude.{◌≡◌, ℕ, Option, Some, slice_get}
use Rattle.stub_tables.specs.declared.operation.Code.{Code}
use Rattle.stub_tables.specs.declared.operation.Operation.{Operation}
use Rattle.stub_tables.specs.declared.operation.ErrorRow.{ErrorRow}
use Rattle.stub_tables.specs.declared.tables.Tables.{Tables}
use Rattle.stub_tables.specs.Codes.{place_with}

abbrev pub operation_at : Tables → ℕ → Option Operation
operation_at tables place = slice_get tables.operations place

abbrev pub error_at : Tables → ℕ → Option ErrorRow
error_at tables place = slice_get tables.errors place

-- the place of the operation with the code
abbrev pub operation_with : Tables → Code → Option ℕ
operation_with tables code = place_with (λ o. o.code) code tables.operations

-- the place of the error with the code
abbrev pub error_with : Tables → Code → Option ℕ
error_with tables code = place_with (λ e. e.code) code tables.errors

-- Each operation is the one with its code, and so is each error.
pub record HasOwnCodes (tables : Tables) : Type 0 where
  pub operations : (place : ℕ) (o : Operation) → operation_at tables place ≡ Some o → operation_with tables o.code ≡ Some place
  pub errors : (place : ℕ) (e : ErrorRow) → error_at tables place ≡ Some e → error_with tables e.code ≡ Some place
