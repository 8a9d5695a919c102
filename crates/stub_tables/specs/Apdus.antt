-- What stands first in octets (X.690 8.1), and what the operation or the error of an APDU carries
-- (X.880 8).
use Rattle.std.specs.Prelude.{◌≡◌, ℕ, List, false, Option, Some, None, Err}
use Rattle.std.specs.Option.{option_map}
use Rattle.osi_base.specs.Limits.{most_octets}
use Rattle.asn1_types.specs.Value.{any}
use Rattle.ber_spelling.specs.declared.fault.ReadFault.{ReadFault}
use Rattle.ber_spelling.specs.declared.fault.ReadFault.TheVariants.{NotSpelled, Short, TooDeep, TooLong}
use Rattle.ber_spelling.specs.Rules.{read_at}
use Rattle.ber_spelling.specs.Spelling.{Ber}
use Rattle.stub_tables.specs.declared.tables.Tables.{Tables}
use Rattle.stub_tables.specs.declared.operation.Code.{Code}
use Rattle.stub_tables.specs.declared.operation.Use.{Use}
use Rattle.stub_tables.specs.declared.operation.Operation.{Operation}
use Rattle.stub_tables.specs.declared.operation.ErrorRow.{ErrorRow}
use Rattle.stub_tables.specs.declared.apdu.Apdu.{Apdu}
use Rattle.stub_tables.specs.declared.apdu.Apdu.TheVariants.{Invoke, Result, Error, Reject}
use Rattle.stub_tables.specs.declared.apdu.Returned.{Returned}
use Rattle.stub_tables.specs.AnyValue.{any_value_rows, any_value_row}
use Rattle.stub_tables.specs.Lookup.{operation_at, operation_with, error_at, error_with}

-- ---- whole values

-- The octets are one whole value, whatever its type (X.690 8.1).
unfoldable pub IsWhole : List ℕ → Type 0
IsWhole text = Ber any_value_rows any_value_row (any text) text

-- They end before a value does.
unfoldable pub IsShort : List ℕ → Type 0
IsShort text = read_at any_value_rows any_value_row false most_octets text ≡ Err Short

abbrev pub place_of : ReadFault → Option ℕ
place_of (NotSpelled place kind) = Some place
place_of (TooDeep place) = Some place
place_of (TooLong place) = Some place
place_of _ = None

-- Their first field from the left that breaks the rules is at this place, however they go on.
unfoldable pub IsFaulty : List ℕ → ℕ → Type 0
IsFaulty text place = (fault : ReadFault) × (read_at any_value_rows any_value_row false most_octets text ≡ Err fault) × (place_of fault ≡ Some place)

-- ---- what an operation or an error carries

abbrev pub placed : {X : Type 0} → (ℕ → Option X) → Option ℕ → Option X
placed at None = None
placed at (Some place) = at place

-- the operation, and the error, with a code
abbrev pub operation_coded : Tables → Code → Option Operation
operation_coded tables code = placed (operation_at tables) (operation_with tables code)

abbrev pub error_coded : Tables → Code → Option ErrorRow
error_coded tables code = placed (error_at tables) (error_with tables code)

abbrev pub argument_of : Operation → Use
argument_of operation = operation.argument

abbrev pub result_of : Operation → Use
result_of operation = operation.result

abbrev pub parameter_of : ErrorRow → Use
parameter_of error = error.parameter

abbrev pub returned_use : Tables → Option Returned → Option Use
returned_use tables None = None
returned_use tables (Some r) = option_map result_of (operation_coded tables r.code)

-- how the value that an APDU carries is used, by the code of its operation or error
abbrev pub use_in : Tables → Apdu → Option Use
use_in tables (Invoke id linked code argument) = option_map argument_of (operation_coded tables code)
use_in tables (Result id returned) = returned_use tables returned
use_in tables (Error id code parameter) = option_map parameter_of (error_coded tables code)
use_in tables (Reject id problem) = None
