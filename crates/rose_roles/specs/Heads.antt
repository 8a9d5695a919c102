-- What a head says, with what the octets of its value carry.
use Rattle.std.specs.Prelude.{ℕ, ℤ, Bool, true, false, List, Option, Some, None}
use Rattle.std.specs.Option.{option_map}
use Rattle.osi_base.specs.declared.syntax.Syntax.{Syntax}
use Rattle.osi_base.specs.declared.layer_words.Problem.{Problem}
use Rattle.asn1_types.specs.declared.value.Val.{Val}
use Rattle.asn1_types.specs.declared.table.TypeTable.{TypeTable}
use Rattle.end_wire.specs.Heads.{room_in}
use Rattle.stub_tables.specs.declared.tables.Tables.{Tables}
use Rattle.stub_tables.specs.declared.operation.Code.{Code}
use Rattle.stub_tables.specs.declared.operation.Use.{Use}
use Rattle.stub_tables.specs.Lookup.{error_at}
use Rattle.stub_tables.specs.Apdus.{argument_of, result_of, parameter_of, operation_coded, error_coded}
use Rattle.apdu_spelling.specs.declared.head.ApduHead.{ApduHead}
use Rattle.apdu_spelling.specs.declared.head.ApduKind.{ApduKind}
use Rattle.apdu_spelling.specs.declared.head.ApduKind.TheVariants.{Invoke, Result, Error, Reject}
use Rattle.apdu_spelling.specs.Spellings.{CarriedAs}
use Rattle.end_wire.specs.end_rules.Base.{Carried, Absent, Spelled, Unspelled, HeardHead, BadReject, InvokeHead, ResultHead, ErrorHead, RejectHead}

-- The octets carry this: nothing, a value that they spell, or none that they spell.
abbrev pub Carries : Syntax → TypeTable → ℕ → Option Use → Option (List ℕ) → Carried → Type 0
Carries syntax types room used None Absent = Unit {0}
Carries syntax types room used None (Spelled value) = ⊥
Carries syntax types room used None Unspelled = ⊥
Carries syntax types room used (Some octets) Absent = ⊥
Carries syntax types room used (Some octets) (Spelled value) = CarriedAs syntax types (room_in syntax room) used (Some value) (Some octets)
Carries syntax types room used (Some octets) Unspelled = (value : Val) → CarriedAs syntax types (room_in syntax room) used (Some value) (Some octets) → ⊥

-- the type of what is carried: an argument's by the operation's code, a result's by the code beside it, a
-- parameter's by the error's code
abbrev pub coded : (Code → Option Use) → Option Code → Option Use
coded used None = None
coded used (Some code) = used code

-- that of the error at this place
abbrev pub parameter_at : Tables → ℕ → Option Use
parameter_at tables place = option_map parameter_of (error_at tables place)

abbrev pub parameter_placed : Tables → Option ℕ → Option Use
parameter_placed tables None = None
parameter_placed tables (Some place) = parameter_at tables place

abbrev pub use_by : Tables → ApduKind → Option Code → Option Use
use_by tables Invoke code = coded (λ c. option_map argument_of (operation_coded tables c)) code
use_by tables Result code = coded (λ c. option_map result_of (operation_coded tables c)) code
use_by tables Error code = coded (λ c. option_map parameter_of (error_coded tables c)) code
use_by tables Reject code = None

-- The octets behind a head carry this.
abbrev pub HeadCarries : Tables → Syntax → ApduHead → Carried → Type 0
HeadCarries tables syntax head carried = Carries syntax tables.types head.room (use_by tables head.kind head.code) head.rest carried

-- a head by its fields; one that lacks a field of its kind is none that octets spell
abbrev pub invoke_by : Option ℤ → Option ℤ → Option Code → Carried → HeardHead
invoke_by (Some id) linked (Some code) carried = InvokeHead id linked code carried
invoke_by _ linked _ carried = BadReject

abbrev pub result_by : Option ℤ → Option Code → Carried → HeardHead
result_by (Some id) code carried = ResultHead id code carried
result_by None code carried = BadReject

abbrev pub error_by : Option ℤ → Option Code → Carried → HeardHead
error_by (Some id) (Some code) carried = ErrorHead id code carried
error_by _ _ carried = BadReject

abbrev pub reject_by : Option ℤ → Option Problem → HeardHead
reject_by id (Some problem) = RejectHead id problem
reject_by id None = BadReject

abbrev pub head_by : ApduKind → ApduHead → Carried → HeardHead
head_by Invoke head carried = invoke_by head.id head.linked head.code carried
head_by Result head carried = result_by head.id head.code carried
head_by Error head carried = error_by head.id head.code carried
head_by Reject head carried = reject_by head.id head.problem

abbrev pub said_by : ApduHead → Carried → HeardHead
said_by head carried = head_by head.kind head carried

abbrev pub is_invocation : ApduKind → Bool
is_invocation Invoke = true
is_invocation _ = false
