-- The trace of a recorded dialogue.
use Rattle.std.specs.Prelude.{◌≡◌, ℕ, List, [], ◌∷◌, ◌++◌, length, drop, codes, flat_map}
use Rattle.osi_base.specs.declared.layer_words.Side.{Side}
use Rattle.osi_base.specs.declared.layer_words.Side.TheVariants.{A, B}
use Rattle.stub_tables.specs.declared.tables.Tables.{Tables}
use Rattle.trace_file.specs.declared.reading.Recorded.{Recorded}
use Rattle.trace_units.specs.Names.{direction_word}
use Rattle.trace_text.specs.Directions.{Shows}

-- what each end sent so far
pub record Sent : Type 0 where
  pub a : List ℕ
  pub b : List ℕ

abbrev pub nothing_sent : Sent
nothing_sent = record { a = []; b = [] }

abbrev pub sent_by : Side → Sent → List ℕ
sent_by A sent = sent.a
sent_by B sent = sent.b

abbrev pub sent_more : Side → List ℕ → Sent → Sent
sent_more A octets sent = record { a = sent.a ++ octets; b = sent.b }
sent_more B octets sent = record { a = sent.a; b = sent.b ++ octets }

-- a line of a trace
abbrev pub line_from : Side → List ℕ → List ℕ
line_from from text = direction_word from ++ codes " " ++ text ++ 10 ∷ []

-- what a direction shows with these octets, and didn't show without them
abbrev pub ShowsWith : Tables → Side → List ℕ → List ℕ → List ℕ → Type 0
ShowsWith tables from sent octets text =
    (before after : List (List ℕ)) × Shows tables sent before × Shows tables (sent ++ octets) after
    × (text ≡ flat_map (line_from from) (drop (length before) after))

-- The text of a trace, behind what was sent before: of each record what its direction shows with it. So a direction is
-- shown by its own octets alone, however they are cut, and each line as soon as its message is whole.
abbrev pub TraceBehind : Tables → Sent → List Recorded → List ℕ → Type 0
TraceBehind tables sent [] text = text ≡ []
TraceBehind tables sent (one ∷ told) text =
    (first rest : List ℕ) × ShowsWith tables one.from (sent_by one.from sent) one.octets first
    × TraceBehind tables (sent_more one.from one.octets sent) told rest × (text ≡ first ++ rest)

-- the text of the trace of a recorded dialogue
abbrev pub TraceTextOf : Tables → List Recorded → List ℕ → Type 0
TraceTextOf tables told text = TraceBehind tables nothing_sent told text
