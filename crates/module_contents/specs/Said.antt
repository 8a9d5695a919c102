-- The APDU that the fields of a head say, with the value that its octets carry. No public clause cites this module.
use Rattle.std.specs.Prelude.{ℤ, Option, Some, None, option_map}
use Rattle.osi_base.specs.declared.syntax.Syntax.{Syntax}
use Rattle.osi_base.specs.declared.layer_words.Problem.{Problem}
use Rattle.asn1_types.specs.declared.value.Val.{Val}
use Rattle.asn1_types.specs.declared.table.TypeTable.{TypeTable}
use Rattle.stub_tables.specs.declared.tables.Tables.{Tables}
use Rattle.stub_tables.specs.declared.operation.Code.{Code}
use Rattle.stub_tables.specs.declared.operation.Use.{Use}
use Rattle.stub_tables.specs.declared.apdu.Apdu.{Apdu}
use Rattle.stub_tables.specs.declared.apdu.Apdu.TheVariants as apdus
use Rattle.stub_tables.specs.Apdus.{argument_of, result_of, parameter_of, operation_coded, error_coded}
use Rattle.apdu_spelling.specs.declared.head.ApduHead.{ApduHead}
use Rattle.apdu_spelling.specs.declared.head.ApduKind.{ApduKind}
use Rattle.apdu_spelling.specs.declared.head.ApduKind.TheVariants.{Invoke, Result, Error, Reject}
use Rattle.end_rules.specs.Base.{Carried, Absent, Spelled, Unspelled}
use Rattle.end_wire.specs.Heads.{carried_at, value_or_lack, room_in}
use Rattle.module_contents.specs.declared.contents.Found.{Found}

-- the APDU that was read
abbrev pub apdu_in : Found → Apdu
apdu_in found = found.apdu

abbrev pub spelled_or : Option Val → Carried
spelled_or None = Unspelled
spelled_or (Some value) = Spelled value

-- the value that must be carried
abbrev pub value_needed : Carried → Option Val
value_needed Absent = None
value_needed (Spelled value) = Some value
value_needed Unspelled = None

-- what the octets behind a head carry, used so
abbrev pub carried_by : TypeTable → Syntax → Option Use → ApduHead → Carried
carried_by types syntax used head = carried_at syntax types (room_in syntax head.room) used head.rest

abbrev pub invoke_by : Tables → Syntax → ApduHead → Option ℤ → Option Code → Option Apdu
invoke_by tables syntax head (Some id) (Some code) =
    option_map (λ (v : Option Val). apdus.Invoke id head.linked code v)
    (value_or_lack (option_map argument_of (operation_coded tables code)) (carried_by tables.types syntax (option_map argument_of (operation_coded tables code)) head))
invoke_by tables syntax head id code = None

abbrev pub returned_by : ℤ → Code → Option Val → Option Apdu
returned_by id code None = None
returned_by id code (Some value) = Some (apdus.Result id (Some (record { code = code; value = value })))

abbrev pub result_by : Tables → Syntax → ApduHead → Option ℤ → Option Code → Option Apdu
result_by tables syntax head None code = None
result_by tables syntax head (Some id) None = Some (apdus.Result id None)
result_by tables syntax head (Some id) (Some code) =
    returned_by id code (value_needed (carried_by tables.types syntax (option_map result_of (operation_coded tables code)) head))

abbrev pub error_by : Tables → Syntax → ApduHead → Option ℤ → Option Code → Option Apdu
error_by tables syntax head (Some id) (Some code) =
    option_map (λ (v : Option Val). apdus.Error id code v)
    (value_or_lack (option_map parameter_of (error_coded tables code)) (carried_by tables.types syntax (option_map parameter_of (error_coded tables code)) head))
error_by tables syntax head id code = None

abbrev pub reject_by : Option ℤ → Option Problem → Option Apdu
reject_by id None = None
reject_by id (Some problem) = Some (apdus.Reject id problem)

abbrev pub apdu_by : Tables → Syntax → ApduHead → ApduKind → Option Apdu
apdu_by tables syntax head Invoke = invoke_by tables syntax head head.id head.code
apdu_by tables syntax head Result = result_by tables syntax head head.id head.code
apdu_by tables syntax head Error = error_by tables syntax head head.id head.code
apdu_by tables syntax head Reject = reject_by head.id head.problem
