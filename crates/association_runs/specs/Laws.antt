-- The laws of every run of two ends of direct or of reliable mode.
use Rattle.std.specs.Prelude.{◌≡◌, List, [], ◌∷◌, true, false}
use Rattle.end_model.specs.end_rules.State.{holds_turn}
use Rattle.stub_tables.specs.declared.tables.Tables.{Tables}
use Rattle.dialogue.specs.declared.config.Config.{Config}
use Rattle.dialogue.specs.declared.event.Event.{Event}
use Rattle.dialogue.specs.declared.event.Event.TheVariants as events
use Rattle.dialogue.specs.declared.event.Entry.{Entry}
use Rattle.end_model.specs.end_rules.World.{World, Ends, body_at, shared_at}
use Rattle.agreement.specs.Sets.{Role}
use Rattle.agreement.specs.Sets as roles
use Rattle.end_model.specs.end_rules.Base.{is_reliable}
use Rattle.end_model.specs.BothEnds as both_ends
use Rattle.end_model.specs.BothEnds.{Common, Two}
use Rattle.end_model.specs.Sharing.{side_of}
use Rattle.outcome_laws.specs.reliable_model.Ledgers.{Ledger, transfer_log_of, ReachedWithLedger}
use Rattle.outcome_laws.specs.Exchanges.{Exchanges, EndExchange, exchange_of, ReachedWithExchanges, outcomes_in, AreDistinct}
use Rattle.outcome_laws.specs.Outcomes.{AreAllowed, AreAnswers}
use Rattle.outcome_laws.specs.Links.{AreAllowedLinks, links_in}
use Rattle.association_worlds.specs.Laws.{IsMeant}
use Rattle.run_laws.specs.Passing.{TakenInPlace}
use Rattle.run_laws.specs.Showing.{EachCarryShows}
use Rattle.run_laws.specs.Laws.{KeepsLaws, AtEachMoment, NothingFails, OneHolder}
use Rattle.association_runs.specs.Sides.{ends_for}
use Rattle.association_runs.specs.OwnExchanges.{Own, own_at}
use Rattle.association_runs.specs.TransferLogsAt.{transfer_log_at}
use Rattle.association_runs.specs.Arriving.{EachArrivesWhole, TransfersAreWhole, ItemsAreKept}
use Rattle.association_worlds.specs.said_words.Calls.{IsCall, Speaks}
use Rattle.association_runs.specs.Worlds.{Runs}
use Rattle.association_runs.specs.Octets.{TakenWhenWhole, NothingWholeWaits}

-- the calls of a schedule are calls as their types have them
abbrev pub IsEvent : Event → Type 0
IsEvent (events.Call side call) = IsCall call
IsEvent _ = Unit {0}

abbrev pub AreEvents : List Event → Type 0
AreEvents [] = Unit {0}
AreEvents (event ∷ more) = IsEvent event × AreEvents more

-- What every run keeps. As each beginning of a run is a run, it holds before and after each event.
pub record RunKeepsLaws (tables : Tables) (ends : Ends) (told : List Entry) (w : World) : Type 0 where
  pub laws : KeepsLaws tables ends told w
  -- nothing whole waits: an end that isn't over took what came whole, and no more
  pub taken_when_whole : TakenWhenWhole ends w
  pub nothing_whole_waits : NothingWholeWaits ends w

-- an initiator and a responder
pub record AreSides (a b : Config) : Type 0 where
  pub first : a.initiator ≡ true
  pub second : b.initiator ≡ false

-- ---- what a run reaches

abbrev pub of_exchange : EndExchange → Own
of_exchange d = record { wrote = d.wrote; asked = d.asked; shown = d.shown }

-- A run reaches what its messages reach: both ends are as these leave them, and the shared set, the exchanges and the transfers that the
-- moments tell are theirs.
pub record ReachesMessages (common : Common) (w : World) : Type 0 where
  pub two : Two
  pub ledger : Ledger
  pub exchanges : Exchanges
  pub reached_exchanges : ReachedWithExchanges common two ledger exchanges
  pub speaks : Speaks common two ledger
  pub bodies : (role : Role) → body_at (ends_for common) (side_of role) w ≡ both_ends.body_at role two
  pub shared : shared_at (ends_for common) w ≡ ledger.shared
  pub exchange : (role : Role) → own_at (ends_for common) (side_of role) w ≡ of_exchange (exchange_of role exchanges)
  pub transfer_log : (role : Role) → transfer_log_at (ends_for common) (side_of role) w ≡ transfer_log_of role ledger.transfer_logs

-- this holds of every run of two ends of which each word that is taken means itself and that never fail
abbrev pub EverInRuns : (Common → World → Type 0) → Type 0
EverInRuns Law = (common : Common) → IsMeant common → (all : List Event) (told : List Entry) (w : World) → AreEvents all → Runs (ends_for common) [] all told w → Law common w

abbrev pub RunsReachMessages : Type 0
RunsReachMessages = EverInRuns ReachesMessages

-- each message that is taken is the one that was sent in its place, at each moment
abbrev pub RunsTakeInPlace : Type 0
RunsTakeInPlace = EverInRuns (λ common w. AtEachMoment (TakenInPlace (ends_for common)) w)

-- each carry shows what the messages show that are taken in it
abbrev pub RunsShowWhatIsTaken : Type 0
RunsShowWhatIsTaken =
    (common : Common) → IsMeant common → (all : List Event) (told : List Entry) (w : World) → AreEvents all → Runs (ends_for common) [] all told w → EachCarryShows (ends_for common) told w

-- no end aborts of itself
abbrev pub RunsNeverFail : Type 0
RunsNeverFail = EverInRuns (λ common w. NothingFails w)

-- at no moment do both ends hold the turn, where so it is of the messages
abbrev pub AreOneHolder : Common → Type 0
AreOneHolder common = (two : Two) (ledger : Ledger) → ReachedWithLedger common two ledger → holds_turn two.a ≡ true → holds_turn two.b ≡ true → ⊥

abbrev pub RunsHaveOneHolder : Type 0
RunsHaveOneHolder = EverInRuns (λ common w. AreOneHolder common → AtEachMoment (OneHolder (ends_for common)) w)

-- each transfer arrives whole, where so it is of the messages
abbrev pub RunsTransferWhole : Type 0
RunsTransferWhole = EverInRuns (λ common w. TransfersAreWhole common → ItemsAreKept common → EachArrivesWhole (ends_for common) w)

-- ---- outcomes, since the association of an end began

-- of no invocation an end is told two outcomes; each is one of an own invocation, of a kind that its operation allows; and an
-- invocation that is linked is linked to an own one, whose operation may have it linked (X.880 8.2 to 8.4)
pub record TellsOneOutcome (common : Common) (w : World) (role : Role) : Type 0 where
  pub once : AreDistinct (outcomes_in (own_at (ends_for common) (side_of role) w).shown)
  pub allowed : AreAllowed common.tables (own_at (ends_for common) (side_of role) w).asked (own_at (ends_for common) (side_of role) w).shown
  pub links : AreAllowedLinks common.tables (own_at (ends_for common) (side_of role) w).asked (links_in (own_at (ends_for common) (side_of role) w).shown)

abbrev pub RunsTellOneOutcome : Type 0
RunsTellOneOutcome = EverInRuns (λ common w. (role : Role) → TellsOneOutcome common w role)

-- each outcome that an end is told is an APDU that the other end wrote
abbrev pub TellsAnswers : Common → World → Type 0
TellsAnswers common w =
    (role : Role) → AreAnswers common.tables (own_at (ends_for common) (side_of (roles.other role)) w).wrote (own_at (ends_for common) (side_of role) w).shown

-- outside reliable mode nothing more is asked for that
abbrev pub RunsTellAnswers : Type 0
RunsTellAnswers = EverInRuns (λ common w. is_reliable common.mode ≡ false → TellsAnswers common w)

-- ---- one run

-- From one world, events make the same entries and lead to the same world, whoever runs them.
abbrev pub OneRun : Type 0
OneRun =
    (ends : Ends) (w v x : World) (all : List Event) (told later : List Entry) → Runs ends w all told v → Runs ends w all later x → (told ≡ later) × (v ≡ x)

-- ---- nothing whole waits

-- After each event, as each beginning of a run is a run, less than a message is left of what came to an end that isn't over.
abbrev pub RunsLeaveNothingWhole : Type 0
RunsLeaveNothingWhole = (ends : Ends) (all : List Event) (told : List Entry) (w : World) → Runs ends [] all told w → NothingWholeWaits ends w
