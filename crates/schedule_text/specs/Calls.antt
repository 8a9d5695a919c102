-- Calls as fields.
use Rattle.std.specs.Prelude.{ℕ, ℤ, ◌^◌, true, false, if◌then◌else◌, List, Option, None, Some, option_and_then, position, Ok, Err, codes, bytes_eq}
use Rattle.stub_tables.specs.declared.operation.ErrorRow.{ErrorRow}
use Rattle.stub_tables.specs.declared.operation.Operation.{Operation}
use Rattle.stub_tables.specs.declared.operation.Use.{Use}
use Rattle.stub_tables.specs.declared.tables.Tables.{Tables}
use Rattle.stub_tables.specs.Lookup.{operation_at, error_at}
use Rattle.dialogue.specs.declared.call.Call.{Call}
use Rattle.dialogue.specs.declared.call.Call.TheVariants as calls
use Rattle.value_text.specs.Numbers.{kept_below}
use Rattle.script_lines.specs.declared.fault.ScriptKind.TheVariants.{UnknownWord, BadName, BadField}
use Rattle.script_lines.specs.Reading.{Reading, ◌>>=◌, or_kind}
use Rattle.script_lines.specs.Fields.{is_over, field_at, number_at, identifier_at, if_over}
use Rattle.script_lines.specs.Invoked.{result_type}
use Rattle.script_lines.specs.Values.{used_at, result_at}
use Rattle.schedule_text.specs.Alterations.{alter_at}

-- ---- names

-- of 32 bits
abbrev pub narrowed : Option ℕ → Option ℕ
narrowed place = option_and_then (kept_below (2 ^ 32)) place

-- the place of the first operation of this name
abbrev pub operation_named : Tables → List ℕ → Option ℕ
operation_named tables name = narrowed (position (λ operation. bytes_eq operation.name name) tables.operations)

-- the place of the first error of this name
abbrev pub error_named : Tables → List ℕ → Option ℕ
error_named tables name = narrowed (position (λ error. bytes_eq error.name name) tables.errors)

abbrev pub no_use : Use
no_use = record { inner = None; optional = false }

abbrev pub argument_of : Option Operation → Use
argument_of None = no_use
argument_of (Some operation) = operation.argument

abbrev pub parameter_of : Option ErrorRow → Use
parameter_of None = no_use
parameter_of (Some error) = error.parameter

-- ---- invoke CONTEXT NAME [VALUE] [linked ID]

abbrev pub linked_word : List ℕ → Reading (List ℕ)
linked_word text = field_at text >>= λ word. if bytes_eq word.0 (codes "linked") then Ok word.1 else Err BadField

abbrev pub linked_here : List ℕ → Reading (Option ℤ × List ℕ)
linked_here text = do
  rest ← linked_word text
  id ← identifier_at rest
  Ok (Some id.0, id.1)

abbrev pub linked_at : List ℕ → Reading (Option ℤ × List ℕ)
linked_at text = if is_over text then Ok (None, text) else linked_here text

unfoldable pub invoke_at : Tables → List ℕ → Reading Call
invoke_at tables text = do
  context ← number_at text
  name ← field_at context.1
  operation ← or_kind BadName (operation_named tables name.0)
  argument ← used_at tables.types (argument_of (operation_at tables operation)) true name.1
  linked ← linked_at argument.1
  if_over (calls.Invoke context.0 operation argument.0 linked.0) linked.1

-- ---- refuse ID NAME [VALUE]

unfoldable pub refuse_at : Tables → List ℕ → Reading Call
refuse_at tables text = do
  id ← identifier_at text
  name ← field_at id.1
  error ← or_kind BadName (error_named tables name.0)
  parameter ← used_at tables.types (parameter_of (error_at tables error)) false name.1
  if_over (calls.Refuse id.0 error parameter.0) parameter.1

-- ---- answer ID [VALUE]

unfoldable pub answer_at : Tables → List ℕ → List ℕ → Reading Call
answer_at tables invoked text = do
  id ← identifier_at text
  result ← result_at tables.types (result_type tables invoked id.0) id.1
  if_over (calls.Answer id.0 result.0) result.1

-- ---- please N, resync N

abbrev pub please_at : List ℕ → Reading Call
please_at text = number_at text >>= λ n. if_over (calls.Please n.0) n.1

abbrev pub resync_at : List ℕ → Reading Call
resync_at text = number_at text >>= λ n. if_over (calls.Resync n.0) n.1

-- ---- all calls

-- the calls that are one word
abbrev pub plain_call : List ℕ → Option Call
plain_call word =
    if bytes_eq word (codes "open") then Some calls.Open
    else if bytes_eq word (codes "mark") then Some calls.Mark
    else if bytes_eq word (codes "give") then Some calls.Give
    else if bytes_eq word (codes "interrupt") then Some calls.Interrupt
    else if bytes_eq word (codes "resume") then Some calls.Resume
    else if bytes_eq word (codes "discard") then Some calls.Discard
    else if bytes_eq word (codes "recover") then Some calls.Recover
    else if bytes_eq word (codes "release") then Some calls.Release
    else if bytes_eq word (codes "abort") then Some calls.Abort
    else None

abbrev pub long_call : Tables → List ℕ → List ℕ → List ℕ → Reading Call
long_call tables invoked word rest =
    if bytes_eq word (codes "invoke") then invoke_at tables rest
    else if bytes_eq word (codes "answer") then answer_at tables invoked rest
    else if bytes_eq word (codes "refuse") then refuse_at tables rest
    else if bytes_eq word (codes "alter") then alter_at tables rest
    else if bytes_eq word (codes "please") then please_at rest
    else if bytes_eq word (codes "resync") then resync_at rest
    else Err UnknownWord

abbrev pub plain_or_long : Tables → List ℕ → List ℕ → List ℕ → Option Call → Reading Call
plain_or_long tables invoked word rest (Some call) = if_over call rest
plain_or_long tables invoked word rest None = long_call tables invoked word rest

-- a call of which the word and what follows it are given, and what lines of the other end invoked before
abbrev pub call_of : Tables → List ℕ → List ℕ → List ℕ → Reading Call
call_of tables invoked word rest = plain_or_long tables invoked word rest (plain_call word)
