-- What an operation carries, where it does (X.880 8.2).
use Rattle.std.specs.Prelude.{ℕ, Bool, true, false, Option, Some, None, option_map}
use Rattle.stub_tables.specs.declared.operation.Operation.{Operation}
use Rattle.stub_tables.specs.declared.operation.ErrorRow.{ErrorRow}
use Rattle.stub_tables.specs.declared.operation.Use.{Use}
use Rattle.stub_tables.specs.declared.tables.Tables.{Tables}
use Rattle.stub_tables.specs.Codes.{is_error_of}
use Rattle.stub_tables.specs.Lookup.{operation_at, error_at}

abbrev pub use_if : Bool → Option Use → Option Use
use_if true carried = carried
use_if false carried = None

abbrev pub from_row : Option Operation → (Operation → Option Use) → Option Use
from_row None f = None
from_row (Some o) f = f o

abbrev pub argument_of : Tables → ℕ → Option Use
argument_of tables operation = from_row (operation_at tables operation) (λ o. Some o.argument)

-- an operation that returns none carries no result
abbrev pub result_of : Tables → ℕ → Option Use
result_of tables operation = from_row (operation_at tables operation) (λ o. use_if o.returns (Some o.result))

-- an error that isn't the operation's carries no parameter
abbrev pub parameter_of : Tables → ℕ → ℕ → Option Use
parameter_of tables operation error = from_row (operation_at tables operation) (λ o. use_if (is_error_of o error) (option_map (λ (e : ErrorRow). e.parameter) (error_at tables error)))
