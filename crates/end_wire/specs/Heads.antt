-- What octets say of an APDU, as a function (X.882 9): the head that they spell, with its value read by the tables of
-- the module; or the general problem of octets that spell none.
use Rattle.std.specs.Prelude.{ℕ, List, length, drop, true, false, nat_eq, if◌then◌else◌, Option, Some, None, option_map, Result, Ok, Err, min}
use Rattle.osi_base.specs.declared.syntax.Syntax.{Syntax}
use Rattle.osi_base.specs.declared.syntax.Syntax.TheVariants.{Ber, Der, Packed}
use Rattle.osi_base.specs.Limits.{most_octets}
use Rattle.asn1_types.specs.Value.{Value}
use Rattle.asn1_types.specs.declared.value.Val.{Val}
use Rattle.asn1_types.specs.declared.row.TypeId.{TypeId}
use Rattle.asn1_types.specs.declared.table.TypeTable.{TypeTable}
use Rattle.ber_spelling.specs.declared.fault.ReadFault.{ReadFault}
use Rattle.ber_spelling.specs.Rules as ber
use Rattle.packed_codec.specs.declared.fault.PackedFault.{PackedFault}
use Rattle.packed_codec.specs.Rules as packed
use Rattle.stub_tables.specs.declared.tables.Tables.{Tables}
use Rattle.stub_tables.specs.declared.operation.Use.{Use}
use Rattle.stub_tables.specs.declared.apdu.Apdu.{Apdu}
use Rattle.stub_tables.specs.declared.apdu.Apdu.TheVariants as apdus
use Rattle.stub_tables.specs.Uses.{may_lack}
use Rattle.stub_tables.specs.Apdus.{argument_of, result_of, parameter_of, operation_coded, error_coded}
use Rattle.apdu_spelling.specs.Heads as heads
use Rattle.apdu_spelling.specs.Rows.{head_rows, apdu_row, packed_apdu_row}
use Rattle.apdu_spelling.specs.Spellings.{room_behind}
use Rattle.apdu_codec.specs.declared.fault.HeadFault.{HeadFault}
use Rattle.apdu_codec.specs.declared.fault.HeadFault.TheVariants as fault
use Rattle.apdu_codec.specs.Pieces.{ber_head, packed_head}
use Rattle.apdu_codec.specs.Refusals.{refusal_of}
use Rattle.end_rules.specs.Base.{Carried, Absent, Spelled, Unspelled, HeardHead, General, BadReject, InvokeHead, ResultHead, ErrorHead, RejectHead}

-- ---- the head that octets spell

-- in BER and DER one that all of them spell
abbrev pub whole_head : ℕ → Result (Value × ℕ) ReadFault → Option heads.Head
whole_head end (Ok x) = if nat_eq x.1 end then ber_head x.0 else None
whole_head end (Err fault) = None

-- in the packed syntax the octets behind it are those of its value
abbrev pub front_head : List ℕ → Result (Value × ℕ) PackedFault → Option heads.Head
front_head text (Ok x) = packed_head x.0 (drop x.1 text)
front_head text (Err fault) = None

unfoldable pub spelled_head : Syntax → List ℕ → Option heads.Head
spelled_head Ber text = whole_head (length text) (ber.read_at head_rows apdu_row false most_octets text)
spelled_head Der text = whole_head (length text) (ber.read_at head_rows apdu_row true most_octets text)
spelled_head Packed text = front_head text (packed.read_at head_rows packed_apdu_row most_octets text)

-- ---- the value that it carries

abbrev pub whole_value : ℕ → Result (Value × ℕ) ReadFault → Carried
whole_value end (Ok x) = if nat_eq x.1 end then Spelled x.0 else Unspelled
whole_value end (Err fault) = Unspelled

abbrev pub packed_value : ℕ → Result (Value × ℕ) PackedFault → Carried
packed_value end (Ok x) = if nat_eq x.1 end then Spelled x.0 else Unspelled
packed_value end (Err fault) = Unspelled

-- the value of a row that all of the octets spell, within a limit
unfoldable pub value_at : Syntax → TypeTable → ℕ → ℕ → List ℕ → Carried
value_at Ber types limit of octets = whole_value (length octets) (ber.read_at types of false limit octets)
value_at Der types limit of octets = whole_value (length octets) (ber.read_at types of true limit octets)
value_at Packed types limit of octets = packed_value (length octets) (packed.read_at types of limit octets)

abbrev pub typed_at : Syntax → TypeTable → ℕ → Option TypeId → List ℕ → Carried
typed_at syntax types limit None octets = Unspelled
typed_at syntax types limit (Some of) octets = value_at syntax types limit of.0 octets

-- what is carried of this use; a code that names nothing carries nothing that is read
abbrev pub carried_at : Syntax → TypeTable → ℕ → Option Use → Option (List ℕ) → Carried
carried_at syntax types limit use_ None = Absent
carried_at syntax types limit None (Some octets) = Unspelled
carried_at syntax types limit (Some use_) (Some octets) = typed_at syntax types limit use_.inner octets

-- ---- what a head says

abbrev pub heard_result : Tables → Syntax → heads.Head → Option heads.ReturnedOctets → Carried
heard_result tables syntax h None = Absent
heard_result tables syntax h (Some o) =
    carried_at syntax tables.types (room_behind syntax h) (option_map result_of (operation_coded tables o.code)) (Some o.octets)

abbrev pub heard_head : Tables → Syntax → heads.Head → HeardHead
heard_head tables syntax (heads.invoke id linked code octets) =
    InvokeHead id linked code
    (carried_at syntax tables.types (room_behind syntax (heads.invoke id linked code octets)) (option_map argument_of (operation_coded tables code)) octets)
heard_head tables syntax (heads.result id outcome) =
    ResultHead id (option_map (λ (o : heads.ReturnedOctets). o.code) outcome) (heard_result tables syntax (heads.result id outcome) outcome)
heard_head tables syntax (heads.error id code octets) =
    ErrorHead id code
    (carried_at syntax tables.types (room_behind syntax (heads.error id code octets)) (option_map parameter_of (error_coded tables code)) octets)
heard_head tables syntax (heads.reject id problem) = RejectHead id problem

-- the general problem, or a reject that is none; want of memory is none of octets
abbrev pub refused : HeadFault → HeardHead
refused (fault.General number) = General number
refused fault.BadReject = BadReject
refused fault.NoMemory = BadReject

abbrev pub heard_or_refused : Tables → Syntax → List ℕ → Option heads.Head → HeardHead
heard_or_refused tables syntax text (Some h) = heard_head tables syntax h
heard_or_refused tables syntax text None = refused (refusal_of syntax text)

-- what octets say of an APDU
unfoldable pub head_at : Tables → Syntax → List ℕ → HeardHead
head_at tables syntax text = heard_or_refused tables syntax text (spelled_head syntax text)

-- ---- the APDU that a head says, where its value is one, or its lack allowed

abbrev pub value_or_lack : Option Use → Carried → Option (Option Val)
value_or_lack None Absent = None
value_or_lack (Some use_) Absent = if may_lack use_.inner use_.optional then Some None else None
value_or_lack use_ (Spelled value) = Some (Some value)
value_or_lack use_ Unspelled = None

abbrev pub apdu_of : Tables → HeardHead → Option Apdu
apdu_of tables (General number) = None
apdu_of tables BadReject = None
apdu_of tables (InvokeHead id linked code carried) =
    option_map (λ (v : Option Val). apdus.Invoke id linked code v) (value_or_lack (option_map argument_of (operation_coded tables code)) carried)
apdu_of tables (ResultHead id None Absent) = Some (apdus.Result id None)
apdu_of tables (ResultHead id None _) = None
apdu_of tables (ResultHead id (Some code) (Spelled value)) = Some (apdus.Result id (Some (record { code = code; value = value })))
apdu_of tables (ResultHead id (Some code) _) = None
apdu_of tables (ErrorHead id code carried) =
    option_map (λ (v : Option Val). apdus.Error id code v) (value_or_lack (option_map parameter_of (error_coded tables code)) carried)
apdu_of tables (RejectHead id problem) = Some (apdus.Reject id problem)

-- an APDU has at most 262,144 octets, in the packed syntax with those before its value
abbrev pub room_in : Syntax → ℕ → ℕ
room_in Ber room = most_octets
room_in Der room = most_octets
room_in Packed room = min room most_octets
