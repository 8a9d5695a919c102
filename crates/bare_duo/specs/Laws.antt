-- The laws of every run of two ends in bare mode.
use Rattle.std.specs.Prelude.{◌≡◌, List, [], ◌∷◌, false}
use Rattle.osi_base.specs.declared.layer_words.Side.{Side}
use Rattle.stub_tables.specs.declared.tables.Tables.{Tables}
use Rattle.stub_tables.specs.Readable.{IsReadable}
use Rattle.dialogue.specs.declared.bare_setup.BareSetup.{BareSetup}
use Rattle.dialogue.specs.declared.event.Event.{Event}
use Rattle.dialogue.specs.declared.event.Entry.{Entry}
use Rattle.end_rules.specs.State.{passes_over}
use Rattle.end_rules.specs.Calling.{is_dead}
use Rattle.end_rules.specs.History.{Step, called, sent, encoded, fed, took, answered, passed, fault, aborted, feed_end, gave, broke}
use Rattle.end_rules.specs.World.{World, Ends}
use Rattle.bare_end.specs.end_wire.Bare.{Short, first_at}
use Rattle.bare_duo.specs.Worlds.{ends_of, end_at, Runs}
use Rattle.bare_duo.specs.Passing.{TakenAsSent, ShownAsTaken}
use Rattle.bare_duo.specs.Outcomes.{OneOutcome}
use Rattle.bare_duo.specs.Allowed.{TakesAllowed}
use Rattle.bare_duo.specs.Carrying.{TakenWhenWhole, EachCarryShows}

-- ---- no end aborts of itself, and nothing is rejected

-- no fault, and no answer to a taking, which in bare mode is a reject
abbrev pub IsCalm : Step → Type 0
IsCalm (fault layer place reason) = ⊥
IsCalm (answered to m) = ⊥
IsCalm (aborted m) = ⊥
IsCalm passed = ⊥
IsCalm (encoded context) = ⊥
IsCalm (called call reply) = Unit {0}
IsCalm (sent m) = Unit {0}
IsCalm (fed octets) = Unit {0}
IsCalm (took m) = Unit {0}
IsCalm feed_end = Unit {0}
IsCalm (gave n) = Unit {0}
IsCalm broke = Unit {0}

abbrev pub NothingWrong : World → Type 0
NothingWrong [] = Unit {0}
NothingWrong (m ∷ w) = IsCalm m.step × NothingWrong w

-- ---- nothing whole waits

abbrev pub NothingWholeWaits : Ends → World → Type 0
NothingWholeWaits ends w = (side : Side) → passes_over (end_at ends side w).body.link.phase ≡ false → first_at (end_at ends side w).line.rest ≡ Short

-- no end is dead
abbrev pub NobodyIsDead : Ends → World → Type 0
NobodyIsDead ends w = (side : Side) → is_dead (end_at ends side w).body.link.phase ≡ false

-- ---- what every run keeps

pub record KeepsLaws (tables : Tables) (ends : Ends) (told : List Entry) (w : World) : Type 0 where
  -- each message taken is the one sent in its place, with its pairs at the sending
  pub taken_as_sent : TakenAsSent ends w
  -- what is taken is allowed then
  pub takes_allowed : TakesAllowed tables ends w
  -- each invocation has one outcome at most, which is allowed to it
  pub one_outcome : OneOutcome tables told
  -- no end aborts of itself, and nothing is rejected
  pub nothing_wrong : NothingWrong w
  pub nobody_is_dead : NobodyIsDead ends w
  -- nothing whole waits: an end that isn't over took what came whole, and no more
  pub nothing_whole_waits : NothingWholeWaits ends w
  pub taken_when_whole : TakenWhenWhole tables ends w
  -- what is shown is what is taken shows, and each carry shows what comes whole in it
  pub shown_as_taken : ShownAsTaken tables told w
  pub carries_show : EachCarryShows tables told w

-- What every table of a module keeps is enough (`Tables::hold_readable` says that each does). As each beginning of a run is a
-- run, the laws hold before and after each event.
abbrev pub EveryRunKeepsLaws : Type 0
EveryRunKeepsLaws =
    (tables : Tables) (setup : BareSetup) (all : List Event) (told : List Entry) (w : World) → IsReadable tables → Runs (ends_of setup tables) [] all told w
    → KeepsLaws tables (ends_of setup tables) told w

-- ---- one run

-- From one world, events make the same entries and lead to the same world, whoever runs them.
abbrev pub OneRun : Type 0
OneRun =
    (tables : Tables) (setup : BareSetup) (w v x : World) (all : List Event) (told later : List Entry) → IsReadable tables
    → Runs (ends_of setup tables) w all told v → Runs (ends_of setup tables) w all later x → (told ≡ later) × (v ≡ x)
