-- What every run of two ends keeps, in every mode, told of its moments and its transcript. What it says of octets stands with the
-- octets of each mode.
use Rattle.std.specs.Prelude.{◌≡◌, List, [], ◌∷◌, true, false}
use Rattle.osi_base.specs.declared.layer_words.Side.{Side}
use Rattle.osi_base.specs.declared.layer_words.Side.TheVariants.{A, B}
use Rattle.stub_tables.specs.declared.tables.Tables.{Tables}
use Rattle.dialogue.specs.declared.event.Entry.{Entry}
use Rattle.end_rules.specs.Calling.{is_dead}
use Rattle.end_rules.specs.History.{Step, fault, aborted}
use Rattle.end_rules.specs.World.{World, Ends, body_at, holds_at}
use Rattle.run_laws.specs.Passing.{TakenAsSent}
use Rattle.run_laws.specs.Showing.{EachCarryShows}
use Rattle.run_laws.specs.Outcomes.{OneOutcome}
use Rattle.run_laws.specs.Transfers.{OneTransfer}

-- this holds at each moment
abbrev pub AtEachMoment : (World → Type 0) → World → Type 0
AtEachMoment Law [] = Law []
AtEachMoment Law (m ∷ w) = Law (m ∷ w) × AtEachMoment Law w

-- ---- no end aborts of itself

abbrev pub IsFaultless : Step → Type 0
IsFaultless (fault layer place reason) = ⊥
IsFaultless (aborted message) = ⊥
IsFaultless _ = Unit {0}

abbrev pub NothingFails : World → Type 0
NothingFails [] = Unit {0}
NothingFails (m ∷ w) = IsFaultless m.step × NothingFails w

-- no end is dead
abbrev pub NobodyIsDead : Ends → World → Type 0
NobodyIsDead ends w = (side : Side) → is_dead (body_at ends side w).link.phase ≡ false

-- ---- one holder of the turn: the minor token in direct mode, all tokens in reliable mode (X.225 7.16 to 7.19)

abbrev pub OneHolder : Ends → World → Type 0
OneHolder ends w = holds_at ends A w ≡ true → holds_at ends B w ≡ true → ⊥

-- ---- all of them

pub record KeepsLaws (tables : Tables) (ends : Ends) (told : List Entry) (w : World) : Type 0 where
  -- each message taken is the one sent in its place, each of its values read under its pair at the sending
  pub taken_as_sent : AtEachMoment (TakenAsSent ends) w
  -- each invocation has one outcome at most, which is allowed to it
  pub one_outcome : OneOutcome tables told
  -- each transfer arrives whole, at most once
  pub one_transfer : OneTransfer ends w
  -- no end aborts of itself
  pub nothing_fails : NothingFails w
  pub nobody_is_dead : NobodyIsDead ends w
  pub one_holder : AtEachMoment (OneHolder ends) w
  -- each carry shows what the messages show that are taken in it
  pub carries_show : EachCarryShows ends told w
