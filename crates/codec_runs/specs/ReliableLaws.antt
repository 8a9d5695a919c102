-- Runs of two ends of reliable mode whose lines are octets.
use Rattle.std.specs.Prelude.{◌≡◌, List, [], false}
use Rattle.dialogue.specs.declared.config.Config.{Config}
use Rattle.dialogue.specs.declared.config.Mode.TheVariants.{Reliable}
use Rattle.dialogue.specs.declared.event.Event.{Event}
use Rattle.dialogue.specs.declared.event.Entry.{Entry}
use Rattle.stub_tables.specs.declared.tables.Tables.{Tables}
use Rattle.end_rules.specs.World.{World, Ends}
use Rattle.said_worlds.specs.Laws.{AreEndsIn}
use Rattle.run_laws.specs.Passing.{TakenInPlace}
use Rattle.run_laws.specs.Showing.{EachCarryShows}
use Rattle.run_laws.specs.Laws.{AtEachMoment, NothingFails, OneHolder}
use Rattle.association_runs.specs.Worlds.{ends_of, Runs}
use Rattle.association_runs.specs.Arriving.{EachArrivesWhole}
use Rattle.association_runs.specs.TransferLogsAt.{transfer_log_at}
use Rattle.association_runs.specs.OwnExchanges.{own_at}
use Rattle.association_runs.specs.Laws.{AreEvents, RunKeepsLaws}
use Rattle.outcome_laws.specs.Exchanges.{AreDistinct, outcomes_in}
use Rattle.outcome_laws.specs.Outcomes.{AreAllowed, AreAnswers}
use Rattle.agreement.specs.Laws.{AreFalling}
use Rattle.osi_base.specs.declared.layer_words.Side.{Side}
use Rattle.dialogue.specs.Sides.{other}

-- An initiator and a responder of reliable mode with one module, whatever its name, without any type, and with configurations that
-- no end refuses.
pub record AreReliable (tables : Tables) (a b : Config) : Type 0 where
  pub ends : AreEndsIn Reliable tables a b
  pub responder : b.initiator ≡ false

abbrev pub EverInRuns : (Ends → World → Type 0) → Type 0
EverInRuns Law =
    (tables : Tables) (a b : Config) → AreReliable tables a b → (all : List Event) (told : List Entry) (w : World) → AreEvents all
    → Runs (ends_of tables a b) [] all told w → Law (ends_of tables a b) w

-- each message that is taken is the one that was sent in its place, at each moment
abbrev pub ReliableRunsTakeInPlace : Type 0
ReliableRunsTakeInPlace = EverInRuns (λ ends w. AtEachMoment (TakenInPlace ends) w)

-- each carry shows what the messages show that are taken in it
abbrev pub ReliableRunsShowWhatIsTaken : Type 0
ReliableRunsShowWhatIsTaken =
    (tables : Tables) (a b : Config) → AreReliable tables a b → (all : List Event) (told : List Entry) (w : World) → AreEvents all → Runs (ends_of tables a b) [] all told w →
    EachCarryShows (ends_of tables a b) told w

-- no end aborts of itself
abbrev pub ReliableRunsNeverFail : Type 0
ReliableRunsNeverFail = EverInRuns (λ ends w. NothingFails w)

-- what the end of a transfer brings is the item that the other end started as the activity of that number, as it was encoded last;
-- at each moment
abbrev pub ReliableRunsArriveWhole : Type 0
ReliableRunsArriveWhole = EverInRuns EachArrivesWhole

-- the numbers of the transfers that are handed up rise, since an end's association began
abbrev pub ReliableRunsArriveOnce : Type 0
ReliableRunsArriveOnce = EverInRuns (λ ends w. (side : Side) → AreFalling (transfer_log_at ends side w).arrived)

-- since its association began an end is told at most one outcome of each invocation, each of an own one, of a kind that its operation
-- allows
abbrev pub ReliableRunsTellOneOutcome : Type 0
ReliableRunsTellOneOutcome =
    EverInRuns (λ ends w. (side : Side) → AreDistinct (outcomes_in (own_at ends side w).shown) × AreAllowed ends.a.tables (own_at ends side w).asked (own_at ends side w).shown)

-- each outcome that an end is told is an APDU that the other end wrote
abbrev pub ReliableRunsTellAnswers : Type 0
ReliableRunsTellAnswers = EverInRuns (λ ends w. (side : Side) → AreAnswers ends.a.tables (own_at ends (other side) w).wrote (own_at ends side w).shown)

-- at no moment do both ends hold the turn
abbrev pub ReliableRunsHaveOneHolder : Type 0
ReliableRunsHaveOneHolder = EverInRuns (λ ends w. AtEachMoment (OneHolder ends) w)

-- all of them: each message that is taken is the one that was sent in its place, each of its values read under the pair that the shared
-- set gave its identifier at its sending; of the whole transcript each invocation is told once and gets at most one outcome, which its
-- operation has and which the other end gave; each transfer arrives whole, at most once; no end aborts of itself, and none is dead; an end
-- that isn't over took each message whose last octet was given to it, and no other, and less than a message is left
abbrev pub ReliableRunsKeepLaws : Type 0
ReliableRunsKeepLaws =
    (tables : Tables) (a b : Config) → AreReliable tables a b → (all : List Event) (told : List Entry) (w : World) → AreEvents all → Runs (ends_of tables a b) [] all told w →
    RunKeepsLaws tables (ends_of tables a b) told w
