-- Messages whose last octet came: what an end takes, and what each carry shows.
use Rattle.std.specs.Prelude.{◌≡◌, ℕ, ◌+◌, ◌-◌, nat_le, List, [], ◌∷◌, ◌++◌, length, Bool, true, false, if◌then◌else◌}
use Rattle.osi_base.specs.declared.layer_words.Side.{Side}
use Rattle.dialogue.specs.Sides.{other}
use Rattle.stub_tables.specs.declared.tables.Tables.{Tables}
use Rattle.dialogue.specs.declared.event.Carried.{Carried}
use Rattle.dialogue.specs.declared.event.Entry.{Entry}
use Rattle.dialogue.specs.declared.event.Entry.TheVariants as entries
use Rattle.end_rules.specs.Messages.{Message}
use Rattle.end_rules.specs.State.{passes_over}
use Rattle.end_rules.specs.History.{Step, called, sent, encoded, fed, took, answered, passed, fault, aborted, feed_end, gave, broke}
use Rattle.end_rules.specs.World.{World, Ends, is_side}
use Rattle.bare_end.specs.end_wire.Bare.{written}
use Rattle.bare_duo.specs.Shows.{shown_all}
use Rattle.bare_duo.specs.Worlds.{end_at}
use Rattle.run_laws.specs.Showing.{indications_at}
use Rattle.bare_duo.specs.Passing.{sent_by, taken_by}

-- how many octets an end gave out
abbrev pub given_by : ℕ → Step → ℕ
given_by all (gave n) = all + n
given_by all (called call reply) = all
given_by all (sent m) = all
given_by all (encoded context) = all
given_by all (fed octets) = all
given_by all (took m) = all
given_by all (answered to m) = all
given_by all passed = all
given_by all (fault layer place reason) = all
given_by all (aborted m) = all
given_by all feed_end = all
given_by all broke = all

abbrev pub octets_given : Side → World → ℕ
octets_given side [] = 0
octets_given side (m ∷ w) = if is_side side m.side then given_by (octets_given side w) m.step else octets_given side w

-- of these messages, written one behind the other, those whose last octet is among the first so many
abbrev pub whole_within : Tables → ℕ → List Message → List Message
whole_within tables octets [] = []
whole_within tables octets (m ∷ ms) =
    if nat_le (length (written tables m)) octets then m ∷ whole_within tables (octets - length (written tables m)) ms else []

-- An end that isn't over took each message of the other's whose last octet was given to it, and no other.
abbrev pub TakenWhenWhole : Tables → Ends → World → Type 0
TakenWhenWhole tables ends w =
    (side : Side) → passes_over (end_at ends (other side) w).body.link.phase ≡ false → taken_by (other side) w ≡ whole_within tables (octets_given side w) (sent_by side w)

-- ---- each carry

-- After so many octets that came from one end, a carry showed what the messages show whose last octet is in it, in their
-- order, and nothing else.
pub record ShowsItsMessages (tables : Tables) (sent_all : List Message) (came : ℕ) (carried : Carried) : Type 0 where
  pub new : List Message
  pub whole : whole_within tables (came + length carried.octets) sent_all ≡ whole_within tables came sent_all ++ new
  pub shown : carried.shown ≡ shown_all tables new

abbrev pub IfShows : Bool → Type 0 → Type 0
IfShows true P = P
IfShows false P = Unit {0}

-- So does each carry from one end, until the connection breaks; from then on nothing is shown.
abbrev pub CarriesShow : Tables → Side → List Message → ℕ → List Entry → Type 0
CarriesShow tables side sent_all came [] = Unit {0}
CarriesShow tables side sent_all came (entries.Call from call answer ∷ es) = CarriesShow tables side sent_all came es
CarriesShow tables side sent_all came (entries.Carry from most carried ∷ es) =
    IfShows (is_side side from) (ShowsItsMessages tables sent_all came carried)
    × CarriesShow tables side sent_all (if is_side side from then came + length carried.octets else came) es
CarriesShow tables side sent_all came (entries.Break ∷ es) = indications_at (other side) es ≡ []

abbrev pub EachCarryShows : Tables → List Entry → World → Type 0
EachCarryShows tables told w = (side : Side) → CarriesShow tables side (sent_by side w) 0 told
