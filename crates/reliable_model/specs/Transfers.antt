-- Transfers between two ends of reliable mode: they arrive whole and at most once, and are taken as sent (X.228 7).
use Rattle.std.specs.Prelude.{◌≡◌, ℕ, List, ◌∷◌, false, Some, Ok}
use Rattle.end_model.specs.dialogue.declared.config.Config.{Config}
use Rattle.end_model.specs.dialogue.declared.indication.Indication.{Indication}
use Rattle.stub_tables.specs.declared.tables.Tables.{Tables}
use Rattle.end_model.specs.end_rules.Base.{Spellings, Item, Whole}
use Rattle.osi_base.specs.SetPlaces.{pair_of}
use Rattle.end_model.specs.end_rules.Encodings.{item_of, IsOf, Encoding, IsNewest}
use Rattle.end_model.specs.end_rules.Messages.{Message, Session, OfActivities, End}
use Rattle.end_model.specs.end_rules.State.{Body}
use Rattle.end_model.specs.end_rules.TakesActivities.{arrived_now}
use Rattle.end_model.specs.end_rules.Reacting.{Takes, react}
use Rattle.agreement.specs.Sets.{Role, other}
use Rattle.agreement.specs.Sets.Role.{Initiator}
use Rattle.agreement.specs.Laws.{AreFalling}
use Rattle.end_model.specs.Seen.{Free}
use Rattle.end_model.specs.BothEnds.{Common, base_at, Two, body_at, coming_to}
use Rattle.reliable_model.specs.Codecs.{Carries}
use Rattle.reliable_model.specs.Ledgers.{transfer_log_of, Ledger, ReachedWithLedger}
use Rattle.reliable_model.specs.ReliableEnds.{reliable_common, IsFit}

-- of every two ends of reliable mode this holds, whatever they reach
abbrev pub EverReliable : (Common → Two → Ledger → Type 0) → Type 0
EverReliable Law =
    (free : Free) (tables : Tables) (spellings : Spellings) (a b : Config) → Carries free (base_at Initiator (reliable_common tables spellings a b)) →
    IsFit (reliable_common tables spellings a b) → (two : Two) (ledger : Ledger) → ReachedWithLedger (reliable_common tables spellings a b) two ledger →
    Law (reliable_common tables spellings a b) two ledger

-- the end of this role takes the end of a transfer whose number wasn't handed up
pub record TakesTransferEnd (common : Common) (two : Two) (role : Role) : Type 0 where
  pub number : ℕ
  pub left : List Message
  pub body : Body
  pub answers : List Message
  pub shown : List Indication
  pub comes : coming_to role two ≡ Session (OfActivities (End number)) ∷ left
  pub taken : react (base_at role common) (body_at role two) (Session (OfActivities (End number))) ≡ Takes body answers shown
  pub is_new : (body_at role two).receiving.was_handed ≡ false

-- What arrives is the item that the other end encoded last, for the activity of that number, on its context.
pub record ArrivesWhole (common : Common) (two : Two) (ledger : Ledger) (role : Role) : Type 0 where
  pub item : Item
  pub arrived : arrived_now (base_at role common) (body_at role two) ≡ Ok (Whole item)
  pub encoded : IsNewest (record { activity = (body_at role two).receiving.last; id = item.id; pair = Some item.pair; apdu = item.apdu }) (transfer_log_of (other role) ledger.transfer_logs).encoded

abbrev pub ReliableArriveWhole : Type 0
ReliableArriveWhole = EverReliable (λ common two ledger. (role : Role) → TakesTransferEnd common two role → ArrivesWhole common two ledger role)

-- Taken as sent: what arrives has the pair that the taker's own set gives its context, and that is the pair that the
-- shared set gave it as the other end encoded the item.
abbrev pub ReliableAsSent : Type 0
ReliableAsSent =
    EverReliable (λ common two ledger. (role : Role) (item : Item) → TakesTransferEnd common two role →
    arrived_now (base_at role common) (body_at role two) ≡ Ok (Whole item) →
    (pair_of (body_at role two).sets.held item.id ≡ Some item.pair) ×
    IsNewest (record { activity = (body_at role two).receiving.last; id = item.id; pair = pair_of (body_at role two).sets.held item.id; apdu = item.apdu })
    (transfer_log_of (other role) ledger.transfer_logs).encoded)

-- what was encoded last for an activity is the item that was started as that activity
abbrev pub ReliableItems : Type 0
ReliableItems =
    EverReliable (λ common two ledger. (role : Role) (encoding : Encoding) → IsNewest encoding (transfer_log_of role ledger.transfer_logs).encoded →
    IsOf encoding.apdu (item_of encoding.activity (transfer_log_of role ledger.transfer_logs).started))

-- the numbers of the transfers that are handed up rise
abbrev pub ReliableArriveOnce : Type 0
ReliableArriveOnce = EverReliable (λ common two ledger. (role : Role) → AreFalling (transfer_log_of role ledger.transfer_logs).arrived)
