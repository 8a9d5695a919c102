-- Calls, events and what came of them, as texts.
use Rattle.std.specs.Prelude.{ℕ, ℤ, nat_eq, if◌then◌else◌, List, [], ◌∷◌, ◌++◌, Option, None, Some, Result, Ok, Err, codes, decimal, flat_map}
use Rattle.std.specs.Fmt.{signed_decimal}
use Rattle.std.specs.Cmp.Lexicographic.{pointwise}
use Rattle.osi_base.specs.declared.layer_words.Side.{Side}
use Rattle.osi_base.specs.declared.layer_words.Proposal.{Proposal}
use Rattle.osi_base.specs.declared.syntax.Syntax.TheVariants.{Ber, Der, Packed}
use Rattle.osi_base.specs.Syntax.{name_of}
use Rattle.dialogue.specs.Sides.{other}
use Rattle.stub_tables.specs.declared.tables.Tables.{Tables}
use Rattle.stub_tables.specs.declared.operation.Operation.{Operation}
use Rattle.stub_tables.specs.declared.operation.ErrorRow.{ErrorRow}
use Rattle.stub_tables.specs.Lookup.{operation_at, error_at}
use Rattle.dialogue.specs.declared.call.Call.{Call}
use Rattle.dialogue.specs.declared.call.Call.TheVariants as calls
use Rattle.dialogue.specs.declared.call.CallRefusal.{CallRefusal}
use Rattle.dialogue.specs.Printed.{call_refusal_text}
use Rattle.dialogue.specs.declared.event.Event.{Event}
use Rattle.dialogue.specs.declared.event.Event.TheVariants as events
use Rattle.value_text.specs.Values.{oid_text}
use Rattle.script_lines.specs.Operations.{Operations}
use Rattle.script_lines.specs.Invoked.{operations_of, result_type}
use Rattle.transcript_text.specs.Words.{side_word}
use Rattle.transcript_text.specs.Typed.{field_by, argument_type, parameter_type}

abbrev pub operation_text : Option Operation → List ℕ
operation_text None = codes "?"
operation_text (Some operation) = operation.name

-- the name of the operation at this place
abbrev pub operation_name : Tables → ℕ → List ℕ
operation_name tables place = operation_text (operation_at tables place)

abbrev pub error_text : Option ErrorRow → List ℕ
error_text None = codes "?"
error_text (Some error) = error.name

-- the name of the error at this place
abbrev pub error_name : Tables → ℕ → List ℕ
error_name tables place = error_text (error_at tables place)

abbrev pub linked_field : Option ℤ → List ℕ
linked_field None = []
linked_field (Some id) = codes " linked " ++ signed_decimal id

-- ---- alterations

-- a transfer syntax by its word, or by its object identifier
abbrev pub syntax_text : List ℕ → List ℕ
syntax_text arcs =
    if pointwise nat_eq arcs (name_of Ber) then codes "ber"
    else if pointwise nat_eq arcs (name_of Der) then codes "der"
    else if pointwise nat_eq arcs (name_of Packed) then codes "packed"
    else oid_text arcs

abbrev pub syntax_field : List ℕ → List ℕ
syntax_field arcs = codes " " ++ syntax_text arcs

-- the abstract syntax of an addition, where it isn't the module's
abbrev pub as_field : Tables → List ℕ → List ℕ
as_field tables abstract_name = if pointwise nat_eq abstract_name tables.name_oid then [] else codes " as " ++ oid_text abstract_name

abbrev pub addition_text : Tables → Proposal → List ℕ
addition_text tables addition =
    codes " add " ++ decimal addition.id ++ as_field tables addition.abstract_name ++ flat_map syntax_field addition.transfers

abbrev pub number_field : ℕ → List ℕ
number_field n = codes " " ++ decimal n

abbrev pub deletions_text : List ℕ → List ℕ
deletions_text [] = []
deletions_text (id ∷ ids) = codes " delete" ++ flat_map number_field (id ∷ ids)

-- ---- calls

-- Values print by their types; that of an answer by the operation that the other end's invocation of its number named, of
-- which these are all.
abbrev pub call_text : Tables → List ℕ → Call → List ℕ
call_text tables named calls.Open = codes "open"
call_text tables named (calls.Invoke context operation argument linked) =
    codes "invoke " ++ decimal context ++ codes " " ++ operation_name tables operation ++ field_by tables.types (argument_type tables operation) argument ++ linked_field linked
call_text tables named (calls.Answer id result) = codes "answer " ++ signed_decimal id ++ field_by tables.types (result_type tables named id) result
call_text tables named (calls.Refuse id error parameter) =
    codes "refuse " ++ signed_decimal id ++ codes " " ++ error_name tables error ++ field_by tables.types (parameter_type tables error) parameter
call_text tables named (calls.Alter add delete) = codes "alter" ++ flat_map (addition_text tables) add ++ deletions_text delete
call_text tables named calls.Mark = codes "mark"
call_text tables named calls.Give = codes "give"
call_text tables named (calls.Please priority) = codes "please " ++ decimal priority
call_text tables named (calls.Resync n) = codes "resync " ++ decimal n
call_text tables named calls.Interrupt = codes "interrupt"
call_text tables named calls.Resume = codes "resume"
call_text tables named calls.Discard = codes "discard"
call_text tables named calls.Recover = codes "recover"
call_text tables named calls.Release = codes "release"
call_text tables named calls.Abort = codes "abort"

abbrev pub amount_text : Option ℕ → List ℕ
amount_text None = codes "all"
amount_text (Some most) = decimal most

abbrev pub carry_text : Side → Option ℕ → List ℕ
carry_text side most = codes "carry " ++ side_word side ++ codes " " ++ amount_text most

-- an event, behind others that named these operations
abbrev pub event_text : Tables → Operations → Event → List ℕ
event_text tables o (events.Call side call) = side_word side ++ codes " " ++ call_text tables (operations_of o (other side)) call
event_text tables o (events.Carry side most) = carry_text side most
event_text tables o events.Break = codes "break"

-- ---- answers

abbrev pub answer_text : Result (Option ℤ) CallRefusal → List ℕ
answer_text (Ok None) = codes "ok"
answer_text (Ok (Some id)) = codes "ok " ++ signed_decimal id
answer_text (Err refusal) = codes "refused " ++ call_refusal_text refusal
