-- The reading of a file of a recorded dialogue from its first octet on, as a function.
use Rattle.std.specs.Prelude.{◌≡◌, ℕ, ◌+◌, Bool, true, false, List, [], ◌∷◌, ◌++◌, length, Option, Some, None, Result, Ok, Err, nat_lt, if◌then◌else◌}
use Rattle.osi_base.specs.Hexadecimal.{octet_of}
use Rattle.osi_base.specs.Limits.{text_most}
use Rattle.osi_base.specs.declared.layer_words.Side.{Side}
use Rattle.trace_file.specs.declared.fault.RecordingFault.{RecordingFault}
use Rattle.trace_file.specs.declared.fault.RecordingFault.TheVariants as faults
use Rattle.trace_file.specs.declared.fault.RecordingKind.TheVariants.{BadField, TooMany}
use Rattle.trace_file.specs.declared.reading.Recorded.{Recorded}
use Rattle.trace_file.specs.Lines.{lines_of, pieces_of, sender_of}

abbrev pub then_octet : Option ℕ → (ℕ → Option (List ℕ)) → Option (List ℕ)
then_octet None next = None
then_octet (Some octet) next = next octet

-- these octets, and behind them those of a field
unfoldable pub more_octets : List ℕ → List ℕ → Option (List ℕ)
more_octets octets [] = Some octets
more_octets octets (high ∷ []) = None
more_octets octets (high ∷ low ∷ rest) = then_octet (octet_of high low) (λ octet. more_octets (octets ++ octet ∷ []) rest)

abbrev pub added : Bool → List ℕ → Option (List ℕ)
added true octets = Some octets
added false octets = None

-- what a line tells
pub data LineRead : Type 0 where
  other : LineRead
  tells : Recorded → LineRead
  faulty : LineRead

abbrev pub read_told : Option Side → List ℕ → LineRead
read_told None octets = other
read_told (Some from) octets = tells (record { from = from; octets = octets })

abbrev pub begun : Option Side → (Side → LineRead) → LineRead
begun None next = other
begun (Some from) next = next from

abbrev pub gone_on : Option (List ℕ) → (List ℕ → LineRead) → LineRead
gone_on None next = faulty
gone_on (Some octets) next = next octets

-- The rest of a line in pieces, of which the empty ones are no fields: the direction was read or wasn't, and these octets.
unfoldable pub line_at : Option Side → List ℕ → List (List ℕ) → LineRead
line_at from octets [] = read_told from octets
line_at from octets ([] ∷ pieces) = line_at from octets pieces
line_at None octets ((d ∷ ds) ∷ pieces) = begun (sender_of (d ∷ ds)) (λ from. line_at (Some from) octets pieces)
line_at (Some from) octets ((d ∷ ds) ∷ pieces) = gone_on (more_octets octets (d ∷ ds)) (λ next. line_at (Some from) next pieces)

abbrev pub line_of : List ℕ → LineRead
line_of line = line_at None [] (pieces_of line)

-- what was told, and behind it what a line tells
abbrev pub put_behind : Option Recorded → List Recorded → List Recorded
put_behind None told = told
put_behind (Some one) told = told ++ one ∷ []

abbrev pub at_line : ℕ → LineRead → List Recorded → (List Recorded → Result (List Recorded) RecordingFault) → Result (List Recorded) RecordingFault
at_line number other told next = next told
at_line number (tells one) told next = next (put_behind (Some one) told)
at_line number faulty told next = Err (faults.At number BadField)

-- lines, of which the first has this number, behind what was told before
unfoldable pub lines_at : ℕ → List Recorded → List (List ℕ) → Result (List Recorded) RecordingFault
lines_at number told [] = Ok told
lines_at number told (line ∷ lines) = at_line number (line_of line) told (λ next. lines_at (number + 1) next lines)

unfoldable pub recording_of : List ℕ → Result (List Recorded) RecordingFault
recording_of text = if nat_lt text_most (length text) then Err (faults.At 1 TooMany) else lines_at 1 [] (lines_of text)

abbrev pub FailsWith : {A : Type 0} → RecordingFault → Result A RecordingFault → Type 0
FailsWith faults.NoMemory read = Unit {0}
FailsWith (faults.At line kind) read = read ≡ Err (faults.At line kind)

-- what a function returned is what reading gives, unless memory was refused
abbrev pub Gives : {A : Type 0} → Result A RecordingFault → Result A RecordingFault → Type 0
Gives (Ok x) read = read ≡ Ok x
Gives (Err e) read = FailsWith e read

-- what a function returned is what a line of this number tells, unless memory was refused
abbrev pub line_result : ℕ → LineRead → Result (Option Recorded) RecordingFault
line_result number other = Ok None
line_result number (tells one) = Ok (Some one)
line_result number faulty = Err (faults.At number BadField)

abbrev pub GivesLine : ℕ → Result (Option Recorded) RecordingFault → LineRead → Type 0
GivesLine number result read = Gives result (line_result number read)
