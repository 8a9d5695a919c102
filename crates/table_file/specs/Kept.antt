-- What is kept of the errors and operations so far: their names, and their codes.
use Rattle.std.specs.Prelude.{◌≡◌, ◌||◌, ℕ, List}
use Rattle.stub_tables.specs.declared.operation.Code.{Code}
use Rattle.stub_tables.specs.declared.operation.Operation.{Operation}
use Rattle.stub_tables.specs.declared.operation.ErrorRow.{ErrorRow}
use Rattle.table_file.specs.declared.names_and_codes.Codes.{Codes}
use Rattle.table_file.specs.declared.names_and_codes.Names.{Names}
use Rattle.table_file.specs.Known.{has_code, has_name}
use Rattle.table_file.specs.Sections.{error_named, error_coded, operation_named, operation_coded}

abbrev pub AreErrorNames : Names → List ErrorRow → Type 0
AreErrorNames names errors = (name : List ℕ) → has_name names name ≡ error_named errors name

abbrev pub AreErrorCodes : Codes → List ErrorRow → Type 0
AreErrorCodes codes errors = (code : Code) → has_code codes code ≡ error_coded errors code

abbrev pub AreNames : Names → List ErrorRow → List Operation → Type 0
AreNames names errors operations = (name : List ℕ) → has_name names name ≡ (error_named errors name || operation_named operations name)

abbrev pub AreOperationCodes : Codes → List Operation → Type 0
AreOperationCodes codes operations = (code : Code) → has_code codes code ≡ operation_coded operations code
