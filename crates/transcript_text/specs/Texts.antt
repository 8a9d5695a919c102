-- Transcripts as texts.
use Rattle.std.specs.Prelude.{ℕ, ℤ, ◌+◌, List, [], ◌∷◌, ◌++◌, Option, Some, Result, Ok, Err, codes, decimal, flat_map}
use Rattle.osi_base.specs.declared.layer_words.Side.{Side}
use Rattle.osi_base.specs.declared.layer_words.Side.TheVariants.{A, B}
use Rattle.dialogue.specs.Sides.{other}
use Rattle.stub_tables.specs.declared.tables.Tables.{Tables}
use Rattle.dialogue.specs.declared.call.Call.{Call}
use Rattle.dialogue.specs.declared.call.Call.TheVariants.{Invoke}
use Rattle.dialogue.specs.declared.call.CallRefusal.{CallRefusal}
use Rattle.dialogue.specs.declared.config.Phase.{Phase}
use Rattle.dialogue.specs.declared.event.Entry.{Entry}
use Rattle.dialogue.specs.declared.event.Entry.TheVariants as entries
use Rattle.dialogue.specs.declared.event.Event.TheVariants as events
use Rattle.dialogue.specs.declared.event.Transcript.{Transcript}
use Rattle.dialogue.specs.declared.indication.Indication.{Indication}
use Rattle.value_text.specs.Values.{hex_octet}
use Rattle.script_lines.specs.Operations.{Operations}
use Rattle.script_lines.specs.Invoked.{no_operations, operations_of, named_in, accepted}
use Rattle.transcript_text.specs.declared.transcript.SoFar.{SoFar}
use Rattle.transcript_text.specs.Words.{side_word, mode_word, phase_word}
use Rattle.transcript_text.specs.Calls.{event_text, answer_text}
use Rattle.transcript_text.specs.Indications.{indication_text}

-- a line, with the line feed that ends it
abbrev pub line : List ℕ → List ℕ
line text = text ++ 10 ∷ []

abbrev pub octet_field : ℕ → List ℕ
octet_field octet = codes " " ++ hex_octet octet

-- the octets that a carry from this side moved
abbrev pub octets_line : Side → List ℕ → List ℕ
octets_line side octets = line (codes "  " ++ side_word side ++ codes ">" ++ side_word (other side) ++ flat_map octet_field octets)

-- an indication at this side, whose accepted invocations named these operations
abbrev pub indication_line : Tables → List ℕ → Side → Indication → List ℕ
indication_line tables own side indication = line (codes "  " ++ side_word side ++ codes ": " ++ indication_text tables own indication)

-- ---- which operations were named so far

-- by all calls, and by those that were accepted
abbrev pub nothing_yet : SoFar
nothing_yet = record { named = no_operations; taken = no_operations }

abbrev pub taken_with : Operations → Side → Call → Option ℤ → Operations
taken_with o side (Invoke context operation argument linked) (Some id) = accepted o side id operation
taken_with o side call id = o

abbrev pub taken_in : Operations → Side → Call → Result (Option ℤ) CallRefusal → Operations
taken_in o side call (Ok id) = taken_with o side call id
taken_in o side call (Err refusal) = o

abbrev pub behind : SoFar → Entry → SoFar
behind s (entries.Call side call answer) = record { named = named_in s.named side call; taken = taken_in s.taken side call answer }
behind s entry = s

-- ---- entries

-- an event with its number, and what came of it
abbrev pub entry_text : Tables → SoFar → ℕ → Entry → List ℕ
entry_text tables s number (entries.Call side call answer) =
    line (decimal number ++ codes " " ++ event_text tables s.named (events.Call side call)) ++ line (codes "  " ++ answer_text answer)
entry_text tables s number (entries.Carry side most carried) =
    line (decimal number ++ codes " " ++ event_text tables s.named (events.Carry side most))
    ++ octets_line side carried.octets ++ flat_map (indication_line tables (operations_of s.taken (other side)) (other side)) carried.shown
entry_text tables s number entries.Break = line (decimal number ++ codes " " ++ event_text tables s.named events.Break)

-- the entries, the first of which has this number
abbrev pub entries_text : Tables → SoFar → ℕ → List Entry → List ℕ
entries_text tables s number [] = []
entries_text tables s number (entry ∷ more) = entry_text tables s number entry ++ entries_text tables (behind s entry) (number + 1) more

-- the phase of an end, once the run is over
abbrev pub end_line : Side → Phase → List ℕ
end_line side phase = line (codes "end " ++ side_word side ++ codes " " ++ phase_word phase)

-- the text of a transcript
abbrev pub text_of : Tables → Transcript → List ℕ
text_of tables transcript =
    line (codes "mode " ++ mode_word transcript.mode) ++ entries_text tables nothing_yet 1 transcript.entries
    ++ end_line A transcript.a ++ end_line B transcript.b
