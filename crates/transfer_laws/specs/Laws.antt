-- The laws of two ends of reliable mode where APDUs and transfers are spelled by the codecs. Of the tables it is asked that they
-- are those of a module, and of the configurations that no end refuses them.
use Rattle.std.specs.Prelude.{◌≡◌, List, ◌∷◌, true, false, None, Some, Ok}
use Rattle.dialogue.specs.declared.config.Config.{Config}
use Rattle.dialogue.specs.declared.config.Mode.TheVariants.{Reliable}
use Rattle.dialogue.specs.declared.indication.Indication.{Indication}
use Rattle.stub_tables.specs.declared.tables.Tables.{Tables}
use Rattle.end_rules.specs.Base.{Fault, Item, Whole}
use Rattle.end_rules.specs.Cases.{calc, config_of}
use Rattle.end_rules.specs.Messages.{Message}
use Rattle.end_rules.specs.State.{Body, holds_turn}
use Rattle.osi_base.specs.SetPlaces.{pair_of}
use Rattle.end_rules.specs.Encodings.{item_of, IsOf, Encoding, IsNewest}
use Rattle.end_rules.specs.TakesActivities.{arrived_now}
use Rattle.end_rules.specs.Reacting.{Fails, react}
use Rattle.end_config.specs.Refusing.{config_refusal, early_refusal}
use Rattle.agreement.specs.Sets.{Role, other}
use Rattle.agreement.specs.Sets.Role.{Initiator}
use Rattle.agreement.specs.Laws.{AreFalling}
use Rattle.end_model.specs.Seen.{Free}
use Rattle.end_model.specs.BothEnds.{Common, base_at, Two, body_at, coming_to}
use Rattle.end_model.specs.DirectEnds.{RunOf}
use Rattle.association_reading.specs.Transfers.{association_spellings}
use Rattle.reliable_model.specs.Codecs.{Carries}
use Rattle.reliable_model.specs.Ledgers.{transfer_log_of, Ledger, ReachedWithLedger}
use Rattle.reliable_model.specs.ReliableEnds.{reliable_common}
use Rattle.reliable_model.specs.Transfers.{TakesTransferEnd, ArrivesWhole}
use Rattle.outcome_laws.specs.Exchanges.{Exchanges, exchange_of, ReachedWithExchanges}
use Rattle.outcome_laws.specs.Outcomes.{AreAnswers}
use Rattle.transfer_spelling.specs.Laws.{IsModule}

abbrev pub reliable_ends : Tables → Config → Config → Common
reliable_ends tables a b = reliable_common tables (association_spellings tables) a b

-- a configuration of reliable mode that no end refuses
pub record IsReliable (config : Config) : Type 0 where
  pub mode : config.mode ≡ Reliable
  pub accepted : config_refusal config ≡ None

-- The model has a codec with the spellings of these ends, and with it there is a run of whatever they reach.
abbrev pub ReliableEndsAreModelled : Type 0
ReliableEndsAreModelled =
    (tables : Tables) (a b : Config) → IsModule tables → IsReliable a → IsReliable b →
    (free : Free) × Carries free (base_at Initiator (reliable_ends tables a b)) ×
    ((two : Two) (ledger : Ledger) → ReachedWithLedger (reliable_ends tables a b) two ledger → RunOf free (reliable_ends tables a b) two)

-- of every two such ends this holds, whatever they reach
abbrev pub EverInEnds : (Common → Two → Ledger → Type 0) → Type 0
EverInEnds Law =
    (tables : Tables) (a b : Config) → IsModule tables → IsReliable a → IsReliable b →
    (two : Two) (ledger : Ledger) → ReachedWithLedger (reliable_ends tables a b) two ledger → Law (reliable_ends tables a b) two ledger

-- Neither aborts of itself: whatever comes next to an end is taken or passed over.
abbrev pub ReliableEndsTake : Type 0
ReliableEndsTake =
    EverInEnds (λ common two ledger.
    (role : Role) (message : Message) (left : List Message) (fault : Fault) (body : Body) (aborts : List Message) (shown : List Indication) →
    coming_to role two ≡ message ∷ left → react (base_at role common) (body_at role two) message ≡ Fails fault body aborts shown → ⊥)

-- One holder: at no moment do both ends hold the turn.
abbrev pub ReliableEndsHaveOneHolder : Type 0
ReliableEndsHaveOneHolder = EverInEnds (λ common two ledger. holds_turn two.a ≡ true → holds_turn two.b ≡ true → ⊥)

-- What the end of a transfer brings is the item that the other end encoded last, for the activity of that number.
abbrev pub ReliableEndsArriveWhole : Type 0
ReliableEndsArriveWhole = EverInEnds (λ common two ledger. (role : Role) → TakesTransferEnd common two role → ArrivesWhole common two ledger role)

-- What was encoded last for an activity is the item that was started as that activity.
abbrev pub ReliableEndsKeepItems : Type 0
ReliableEndsKeepItems =
    EverInEnds (λ common two ledger.
    (role : Role) (encoding : Encoding) → IsNewest encoding (transfer_log_of role ledger.transfer_logs).encoded
    → IsOf encoding.apdu (item_of encoding.activity (transfer_log_of role ledger.transfer_logs).started))

-- The numbers of the transfers that are handed up rise.
abbrev pub ReliableEndsArriveOnce : Type 0
ReliableEndsArriveOnce = EverInEnds (λ common two ledger. (role : Role) → AreFalling (transfer_log_of role ledger.transfer_logs).arrived)

-- Taken as sent: what arrives has the pair that the taker's own set gives its context, which is the pair that the shared set gave
-- it as the other end encoded the item.
abbrev pub ReliableEndsTakeAsSent : Type 0
ReliableEndsTakeAsSent =
    EverInEnds (λ common two ledger.
    (role : Role) (item : Item) → TakesTransferEnd common two role → arrived_now (base_at role common) (body_at role two) ≡ Ok (Whole item) →
    (pair_of (body_at role two).sets.held item.id ≡ Some item.pair) ×
    IsNewest (record { activity = (body_at role two).receiving.last; id = item.id; pair = pair_of (body_at role two).sets.held item.id; apdu = item.apdu })
    (transfer_log_of (other role) ledger.transfer_logs).encoded)

-- Each outcome that an end is told is an APDU that the other end wrote.
abbrev pub ReliableEndsTellAnswers : Type 0
ReliableEndsTellAnswers =
    (tables : Tables) (a b : Config) → IsModule tables → IsReliable a → IsReliable b →
    (two : Two) (ledger : Ledger) (exchanges : Exchanges) → ReachedWithExchanges (reliable_ends tables a b) two ledger exchanges →
    (role : Role) → AreAnswers tables (exchange_of (other role) exchanges).wrote (exchange_of role exchanges).shown

-- These premises are met: by a module of two operations, with a context that each end may have in reliable mode. That the CP of the
-- initiator's configuration isn't too long isn't computed here.
abbrev pub PremisesAreMet : Type 0
PremisesAreMet = IsModule calc × IsReliable (config_of false Reliable) × (early_refusal (config_of true Reliable) ≡ None)
