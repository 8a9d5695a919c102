-- Runs of two ends of direct mode whose lines are octets.
use Rattle.std.specs.Prelude.{◌≡◌, List, [], false}
use Rattle.dialogue.specs.declared.config.Config.{Config}
use Rattle.dialogue.specs.declared.event.Event.{Event}
use Rattle.dialogue.specs.declared.event.Entry.{Entry}
use Rattle.stub_tables.specs.declared.tables.Tables.{Tables}
use Rattle.end_rules.specs.World.{World, Ends}
use Rattle.end_model.specs.BothEnds.{Common}
use Rattle.end_laws.specs.Codecs.{Transfers, direct_ends}
use Rattle.association_worlds.specs.association_reading.Transfers.{transferred, arrived_at}
use Rattle.said_worlds.specs.Laws.{AreEnds}
use Rattle.run_laws.specs.Passing.{TakenInPlace}
use Rattle.run_laws.specs.Showing.{EachCarryShows}
use Rattle.run_laws.specs.Laws.{AtEachMoment, NothingFails, OneHolder}
use Rattle.association_runs.specs.Worlds.{ends_of, Runs}
use Rattle.association_runs.specs.OwnExchanges.{own_at}
use Rattle.association_runs.specs.Laws.{AreEvents, RunKeepsLaws}
use Rattle.outcome_laws.specs.Exchanges.{AreDistinct, outcomes_in}
use Rattle.outcome_laws.specs.Outcomes.{AreAllowed, AreAnswers}
use Rattle.osi_base.specs.declared.layer_words.Side.{Side}
use Rattle.dialogue.specs.Sides.{other}

-- transfers are spelled as in every association, though none comes in direct mode
abbrev pub transfers_of : Tables → Transfers
transfers_of tables = record { octets = transferred tables; arrived = arrived_at tables }

abbrev pub ends_meant : Tables → Config → Config → Common
ends_meant tables a b = direct_ends tables (transfers_of tables) a b

-- An initiator and a responder of direct mode with one module, whatever its name, without any type, and with configurations that
-- no end refuses.
pub record AreDirect (tables : Tables) (a b : Config) : Type 0 where
  pub ends : AreEnds tables a b
  pub responder : b.initiator ≡ false

abbrev pub EverInRuns : (Ends → World → Type 0) → Type 0
EverInRuns Law =
    (tables : Tables) (a b : Config) → AreDirect tables a b → (all : List Event) (told : List Entry) (w : World) → AreEvents all → Runs (ends_of tables a b) [] all told w → Law (ends_of tables a b) w

-- each message that is taken is the one that was sent in its place, at each moment
abbrev pub DirectRunsTakeInPlace : Type 0
DirectRunsTakeInPlace = EverInRuns (λ ends w. AtEachMoment (TakenInPlace ends) w)

-- each carry shows what the messages show that are taken in it
abbrev pub DirectRunsShowWhatIsTaken : Type 0
DirectRunsShowWhatIsTaken =
    (tables : Tables) (a b : Config) → AreDirect tables a b → (all : List Event) (told : List Entry) (w : World) → AreEvents all → Runs (ends_of tables a b) [] all told w →
    EachCarryShows (ends_of tables a b) told w

-- no end aborts of itself
abbrev pub DirectRunsNeverFail : Type 0
DirectRunsNeverFail = EverInRuns (λ ends w. NothingFails w)

-- at no moment do both ends hold the turn
abbrev pub DirectRunsHaveOneHolder : Type 0
DirectRunsHaveOneHolder = EverInRuns (λ ends w. AtEachMoment (OneHolder ends) w)

-- since its association began an end is told at most one outcome of each invocation, each of an own one, of a kind that its operation
-- allows
abbrev pub DirectRunsTellOneOutcome : Type 0
DirectRunsTellOneOutcome =
    EverInRuns (λ ends w. (side : Side) → AreDistinct (outcomes_in (own_at ends side w).shown) × AreAllowed ends.a.tables (own_at ends side w).asked (own_at ends side w).shown)

-- each outcome that an end is told is an APDU that the other end wrote
abbrev pub DirectRunsTellAnswers : Type 0
DirectRunsTellAnswers = EverInRuns (λ ends w. (side : Side) → AreAnswers ends.a.tables (own_at ends (other side) w).wrote (own_at ends side w).shown)

-- all of them: each message that is taken is the one that was sent in its place, each of its values read under the pair that the shared
-- set gave its identifier at its sending; of the whole transcript each invocation is told once and gets at most one outcome, which its
-- operation has and which the other end gave; nothing is transferred; no end aborts of itself, and none is dead; an end that isn't over
-- took each message whose last octet was given to it and no other, and less than a message is left of what came to it
abbrev pub DirectRunsKeepLaws : Type 0
DirectRunsKeepLaws =
    (tables : Tables) (a b : Config) → AreDirect tables a b → (all : List Event) (told : List Entry) (w : World) → AreEvents all → Runs (ends_of tables a b) [] all told w →
    RunKeepsLaws tables (ends_of tables a b) told w
