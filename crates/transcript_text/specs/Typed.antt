-- Values of operations and errors as texts: by the type where the value fits it, else by its form.
use Rattle.std.specs.Prelude.{ℕ, if◌then◌else◌, List, [], ◌++◌, Option, None, Some, codes}
use Rattle.asn1_types.specs.declared.row.TypeId.{TypeId}
use Rattle.asn1_types.specs.declared.row.TypeRow.{TypeRow}
use Rattle.asn1_types.specs.Fits.{fits}
use Rattle.asn1_types.specs.Value.{Value}
use Rattle.stub_tables.specs.declared.operation.ErrorRow.{ErrorRow}
use Rattle.stub_tables.specs.declared.operation.Operation.{Operation}
use Rattle.stub_tables.specs.declared.tables.Tables.{Tables}
use Rattle.stub_tables.specs.Lookup.{operation_at, error_at}
use Rattle.value_text.specs.Printed.{printed}
use Rattle.value_text.specs.Values.{value_text}

-- a value that fits no type and has no form of its own prints as `?`
abbrev pub by_type : List TypeRow → ℕ → Value → List ℕ
by_type rows n v = if fits rows n v then printed rows n v else value_text v

abbrev pub value_by : List TypeRow → Option TypeId → Value → List ℕ
value_by rows None v = value_text v
value_by rows (Some of) v = by_type rows of.0 v

-- behind other fields, or nothing
abbrev pub field_by : List TypeRow → Option TypeId → Option Value → List ℕ
field_by rows of None = []
field_by rows of (Some v) = codes " " ++ value_by rows of v

-- ---- the types of what operations and errors carry

abbrev pub argument_type_of : Option Operation → Option TypeId
argument_type_of None = None
argument_type_of (Some operation) = operation.argument.inner

abbrev pub argument_type : Tables → ℕ → Option TypeId
argument_type tables place = argument_type_of (operation_at tables place)

abbrev pub parameter_type_of : Option ErrorRow → Option TypeId
parameter_type_of None = None
parameter_type_of (Some error) = error.parameter.inner

abbrev pub parameter_type : Tables → ℕ → Option TypeId
parameter_type tables place = parameter_type_of (error_at tables place)
