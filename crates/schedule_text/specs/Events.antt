-- Events as fields, and what the lines of a schedule say so far.
use Rattle.std.specs.Prelude.{ℕ, nat_le, Bool, ◌||◌, if◌then◌else◌, List, [], ◌∷◌, ◌++◌, length, Option, None, Some, option_map, Ok, Err, codes, bytes_eq}
use Rattle.osi_base.specs.declared.layer_words.Side.{Side}
use Rattle.osi_base.specs.declared.layer_words.Side.TheVariants.{A, B}
use Rattle.osi_base.specs.Limits.{event_most}
use Rattle.dialogue.specs.Sides.{other}
use Rattle.stub_tables.specs.declared.tables.Tables.{Tables}
use Rattle.dialogue.specs.declared.event.Event.{Event}
use Rattle.dialogue.specs.declared.event.Event.TheVariants as events
use Rattle.value_text.specs.Numbers.{number_of}
use Rattle.script_lines.specs.declared.fault.ScriptKind.TheVariants.{UnknownWord, BadNumber, TooMany}
use Rattle.script_lines.specs.Reading.{Reading, ◌>>=◌, or_kind}
use Rattle.script_lines.specs.Fields.{field_at, if_over}
use Rattle.script_lines.specs.Operations.{Operations}
use Rattle.script_lines.specs.Invoked.{no_operations, operations_of, named_in}
use Rattle.schedule_text.specs.declared.draft.Draft.{Draft}
use Rattle.schedule_text.specs.Settings.{start}
use Rattle.schedule_text.specs.Calls.{call_of}

-- ---- what was read

-- before any line
abbrev pub no_draft : Draft
no_draft = record { setting = start; events = []; invoked = no_operations }

abbrev pub named_by : Operations → Event → Operations
named_by o (events.Call side call) = named_in o side call
named_by o event = o

-- one event more
abbrev pub with_event : Draft → Event → Draft
with_event draft event = record draft { events = draft.events ++ event ∷ []; invoked = named_by draft.invoked event }

-- what lines of the other end invoked so far
abbrev pub peer_invoked : Draft → Side → List ℕ
peer_invoked draft side = operations_of draft.invoked (other side)

-- ---- fields

abbrev pub side_of : List ℕ → Option Side
side_of word = if bytes_eq word (codes "A") then Some A else if bytes_eq word (codes "B") then Some B else None

-- how many octets are carried at most: a number, or all
abbrev pub amount_of : List ℕ → Option (Option ℕ)
amount_of word = if bytes_eq word (codes "all") then Some None else option_map Some (number_of word)

-- behind the word `carry`
unfoldable pub carry_at : List ℕ → Reading Event
carry_at text = do
  letter ← field_at text
  side ← or_kind UnknownWord (side_of letter.0)
  amount ← field_at letter.1
  most ← or_kind BadNumber (amount_of amount.0)
  if_over (events.Carry side most) amount.1

-- behind a letter
unfoldable pub call_at : Tables → Draft → Side → List ℕ → Reading Event
call_at tables draft side text = do
  word ← field_at text
  call ← call_of tables (peer_invoked draft side) word.0 word.1
  Ok (events.Call side call)

-- an event begins with this word
abbrev pub is_event_word : List ℕ → Bool
is_event_word word =
    bytes_eq word (codes "A") || bytes_eq word (codes "B") || bytes_eq word (codes "carry") || bytes_eq word (codes "break")

abbrev pub letter_event : Tables → Draft → List ℕ → List ℕ → Reading Event
letter_event tables draft word rest = or_kind UnknownWord (side_of word) >>= λ side. call_at tables draft side rest

-- the event of a line, of which the first word and what follows it are given
abbrev pub event_of : Tables → Draft → List ℕ → List ℕ → Reading Event
event_of tables draft word rest =
    if bytes_eq word (codes "carry") then carry_at rest
    else if bytes_eq word (codes "break") then if_over events.Break rest
    else letter_event tables draft word rest

-- at most 20,000 events
abbrev pub event_line : Tables → Draft → List ℕ → List ℕ → Reading Draft
event_line tables draft word rest =
    if nat_le event_most (length draft.events) then Err TooMany
    else (event_of tables draft word rest >>= λ event. Ok (with_event draft event))
