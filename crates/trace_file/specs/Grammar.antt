-- What a file of a recorded dialogue says, and its first fault, as relations over its lines and fields.
use Rattle.std.specs.Prelude.{◌≡◌, ℕ, ◌+◌, ◌*◌, ◌≤◌, ◌<◌, ◌⊎◌, List, [], ◌∷◌, ◌++◌, length, Option, Some, None}
use Rattle.osi_base.specs.Limits.{text_most}
use Rattle.osi_base.specs.declared.layer_words.Side.{Side}
use Rattle.trace_file.specs.declared.fault.RecordingFault.{RecordingFault}
use Rattle.trace_file.specs.declared.fault.RecordingFault.TheVariants as faults
use Rattle.trace_file.specs.declared.fault.RecordingKind.{RecordingKind}
use Rattle.trace_file.specs.declared.fault.RecordingKind.TheVariants.{BadField, TooMany}
use Rattle.trace_file.specs.declared.reading.Recorded.{Recorded}
use Rattle.trace_file.specs.Lines.{lines_of, fields_of, sender_of}

-- a hexadecimal digit, in upper or lower case, and its number
abbrev pub Digit : ℕ → ℕ → Type 0
Digit digit n = ((n < 10) × (digit ≡ 48 + n)) ⊎ ((10 ≤ n) × (n < 16) × ((digit ≡ 55 + n) ⊎ (digit ≡ 87 + n)))

-- two digits for each octet
abbrev pub Spells : List ℕ → List ℕ → Type 0
Spells [] octets = octets ≡ []
Spells (high ∷ []) octets = ⊥
Spells (high ∷ low ∷ digits) octets =
    (m n : ℕ) × (rest : List ℕ) × Digit high m × Digit low n × Spells digits rest × (octets ≡ (16 * m + n) ∷ rest)

-- fields, and the octets that they spell together
abbrev pub AllSpell : List (List ℕ) → List ℕ → Type 0
AllSpell [] octets = octets ≡ []
AllSpell (field ∷ fields) octets = (first rest : List ℕ) × Spells field first × AllSpell fields rest × (octets ≡ first ++ rest)

-- A line whose first field is a direction tells the octets of the others; any other line tells nothing.
abbrev pub TellsFrom : Option Side → List (List ℕ) → Option Recorded → Type 0
TellsFrom None fields told = told ≡ None
TellsFrom (Some from) fields told = (octets : List ℕ) × AllSpell fields octets × (told ≡ Some (record { from = from; octets = octets }))

abbrev pub Tells : List (List ℕ) → Option Recorded → Type 0
Tells [] told = told ≡ None
Tells (word ∷ fields) told = TellsFrom (sender_of word) fields told

abbrev pub put : Option Recorded → List Recorded → List Recorded
put None rest = rest
put (Some told) rest = told ∷ rest

-- what lines tell, one after the other
abbrev pub AllTell : List (List ℕ) → List Recorded → Type 0
AllTell [] told = told ≡ []
AllTell (line ∷ lines) told = (first : Option Recorded) × (rest : List Recorded) × Tells (fields_of line) first × AllTell lines rest × (told ≡ put first rest)

-- the file has at most 16,777,216 octets, and its lines tell this
pub record IsRecording (text : List ℕ) (told : List Recorded) : Type 0 where
  pub within : length text ≤ text_most
  pub tells : AllTell (lines_of text) told

-- ---- faults

-- behind fields that spell octets stands one that spells none
pub record IsFaultyField (fields : List (List ℕ)) : Type 0 where
  pub right : List (List ℕ)
  pub field : List ℕ
  pub others : List (List ℕ)
  pub octets : List ℕ
  pub parts : fields ≡ right ++ field ∷ others
  pub spell : AllSpell right octets
  pub wrong : (octets : List ℕ) → Spells field octets → ⊥

-- behind its direction
abbrev pub IsFaultyLine : List (List ℕ) → Type 0
IsFaultyLine [] = ⊥
IsFaultyLine (word ∷ fields) = (from : Side) × (sender_of word ≡ Some from) × IsFaultyField fields

-- the first faulty line, with those before it
pub record IsFaultyAt (lines : List (List ℕ)) (number : ℕ) : Type 0 where
  pub right : List (List ℕ)
  pub line : List ℕ
  pub others : List (List ℕ)
  pub told : List Recorded
  pub parts : lines ≡ right ++ line ∷ others
  pub tell : AllTell right told
  pub wrong : IsFaultyLine (fields_of line)
  pub counted : number ≡ length right + 1

-- The file is too long, which is so before all else and stands at line 1; or a line is the first faulty one.
abbrev pub IsFirstFault : List ℕ → ℕ → RecordingKind → Type 0
IsFirstFault text line TooMany = (text_most < length text) × (line ≡ 1)
IsFirstFault text line BadField = (length text ≤ text_most) × IsFaultyAt (lines_of text) line

-- what a call answers is the first fault, unless memory was refused
abbrev pub IsRefused : List ℕ → RecordingFault → Type 0
IsRefused text faults.NoMemory = Unit {0}
IsRefused text (faults.At line kind) = IsFirstFault text line kind
