-- Summaries of transcripts.
use Rattle.std.specs.Prelude.{ℕ, ℤ, ◌+◌, ◌-◌, ◌^◌, min, List, [], ◌∷◌, ◌++◌, length, Bool, true, false, Result, Ok, Err, Option, codes, decimal}
use Rattle.osi_base.specs.declared.layer_words.Side.{Side}
use Rattle.osi_base.specs.declared.layer_words.Side.TheVariants.{A, B}
use Rattle.dialogue.specs.declared.call.CallRefusal.{CallRefusal}
use Rattle.dialogue.specs.declared.config.Mode.{Mode}
use Rattle.dialogue.specs.declared.config.Mode.TheVariants.{Bare, Direct, Reliable}
use Rattle.dialogue.specs.declared.event.Entry.{Entry}
use Rattle.dialogue.specs.declared.event.Entry.TheVariants as entries
use Rattle.dialogue.specs.declared.event.Transcript.{Transcript}
use Rattle.dialogue.specs.declared.indication.Indication.{Indication}
use Rattle.dialogue.specs.declared.indication.Indication.TheVariants as shown
use Rattle.transcript_text.specs.declared.counts.Counts.{Counts}
use Rattle.transcript_text.specs.Texts.{line, end_line}

-- an outcome of an own invocation
abbrev pub is_outcome : Indication → Bool
is_outcome (shown.Result id value) = true
is_outcome (shown.Error id error parameter) = true
is_outcome (shown.Rejected id problem) = true
is_outcome indication = false

abbrev pub is_reject_sent : Indication → Bool
is_reject_sent (shown.RejectSent id problem) = true
is_reject_sent indication = false

-- what becomes of an APDU that was taken: it is shown, answered by a reject, or unreadable
abbrev pub is_value : Indication → Bool
is_value (shown.Invoked id operation linked argument) = true
is_value (shown.Result id value) = true
is_value (shown.Error id error parameter) = true
is_value (shown.Rejected id problem) = true
is_value (shown.RejectTaken id problem) = true
is_value (shown.RejectSent id problem) = true
is_value shown.BadReject = true
is_value indication = false

abbrev pub is_cut : Indication → Bool
is_cut (shown.Cut own id) = true
is_cut indication = false

-- the indications of a carry
abbrev pub shown_by : Entry → List Indication
shown_by (entries.Carry side most carried) = carried.shown
shown_by entry = []

abbrev pub from_side : Side → Side → ℕ → ℕ
from_side A A n = n
from_side B B n = n
from_side by side n = 0

-- how many octets a carry from this side moved
abbrev pub octets_from : Side → Entry → ℕ
octets_from by (entries.Carry side most carried) = from_side by side (length carried.octets)
octets_from by entry = 0

abbrev pub is_refused : Result (Option ℤ) CallRefusal → ℕ
is_refused (Ok id) = 0
is_refused (Err refusal) = 1

abbrev pub refused_in : Entry → ℕ
refused_in (entries.Call side call answer) = is_refused answer
refused_in entry = 0

-- in reliable mode each APDU comes as a transfer
abbrev pub if_reliable : Mode → ℕ → ℕ
if_reliable Bare n = 0
if_reliable Direct n = 0
if_reliable Reliable n = n

-- ---- all entries

-- a count of 64 bits stands still at its end
abbrev pub plus : ℕ → ℕ → ℕ
plus a b = min (a + b) (2 ^ 64 - 1)

abbrev pub none_counted : Counts
none_counted = record { events = 0; from_a = 0; from_b = 0; values = 0; outcomes = 0; rejects = 0; cut = 0; refused = 0 }

abbrev pub one_if : ℕ → Bool → ℕ
one_if n true = plus n 1
one_if n false = n

-- the counts with one indication more
abbrev pub with_one : Counts → Indication → Counts
with_one c i = record c {
  values = one_if c.values (is_value i);
  outcomes = one_if c.outcomes (is_outcome i);
  rejects = one_if c.rejects (is_reject_sent i);
  cut = one_if c.cut (is_cut i);
}

abbrev pub with_shown : Counts → List Indication → Counts
with_shown c [] = c
with_shown c (i ∷ is) = with_shown (with_one c i) is

-- the counts with one entry more, but for its indications
abbrev pub with_entry : Counts → Entry → Counts
with_entry c entry = record c {
  events = plus c.events 1;
  from_a = plus c.from_a (octets_from A entry);
  from_b = plus c.from_b (octets_from B entry);
  refused = plus c.refused (refused_in entry);
}

abbrev pub counted : Counts → Entry → Counts
counted c entry = with_shown (with_entry c entry) (shown_by entry)

abbrev pub counted_all : Counts → List Entry → Counts
counted_all c [] = c
counted_all c (entry ∷ entries) = counted_all (counted c entry) entries

-- ---- the text

abbrev pub number_line : List ℕ → ℕ → List ℕ
number_line name n = line (name ++ codes " " ++ decimal n)

abbrev pub counts_text : Mode → Counts → List ℕ
counts_text mode c =
    number_line (codes "events") c.events ++ number_line (codes "octets A>B") c.from_a ++ number_line (codes "octets B>A") c.from_b
    ++ number_line (codes "values") c.values ++ number_line (codes "outcomes") c.outcomes ++ number_line (codes "rejects") c.rejects
    ++ number_line (codes "cut") c.cut ++ number_line (codes "transfers") (if_reliable mode c.values) ++ number_line (codes "refused") c.refused

-- the summary of a transcript
abbrev pub summary_of : Transcript → List ℕ
summary_of t = counts_text t.mode (counted_all none_counted t.entries) ++ end_line A t.a ++ end_line B t.b
