-- What the end of a transfer brings, at each moment at which it is taken: the item that the other end started as the activity of that
-- number, as it was encoded last (X.228 7.3; the numbers are this project's own rule).
use Rattle.std.specs.Prelude.{◌≡◌, [], ◌∷◌, Bool, true, false, Some, Ok}
use Rattle.osi_base.specs.declared.layer_words.Side.{Side}
use Rattle.end_model.specs.end_rules.Encodings.{item_of, IsOf, Encoding, IsNewest}
use Rattle.dialogue.specs.Sides.{other}
use Rattle.end_model.specs.end_rules.Base.{Item, Whole}
use Rattle.end_model.specs.end_rules.Messages.{Session, OfActivities, End}
use Rattle.end_model.specs.end_rules.TakesActivities.{arrived_now}
use Rattle.end_model.specs.end_rules.History.{Step, took}
use Rattle.end_model.specs.end_rules.World.{World, Ends, base_at, body_at}
use Rattle.agreement.specs.Sets.{Role}
use Rattle.end_model.specs.BothEnds.{Common, Two}
use Rattle.outcome_laws.specs.reliable_model.Ledgers.{Ledger, ReachedWithLedger, transfer_log_of}
use Rattle.outcome_laws.specs.reliable_model.Transfers as transfers
use Rattle.outcome_laws.specs.reliable_model.Transfers.{ArrivesWhole}
use Rattle.association_runs.specs.TransferLogsAt.{transfer_log_at}

pub record IsWhole (ends : Ends) (side : Side) (w : World) : Type 0 where
  pub item : Item
  pub arrived : arrived_now (base_at ends side) (body_at ends side w) ≡ Ok (Whole item)
  pub encoded : IsNewest (record { activity = (body_at ends side w).receiving.last; id = item.id; pair = Some item.pair; apdu = item.apdu }) (transfer_log_at ends (other side) w).encoded
  pub started : IsOf item.apdu (item_of (body_at ends side w).receiving.last (transfer_log_at ends (other side) w).started)

-- where its number wasn't handed up before
abbrev pub UnlessHanded : Bool → Type 0 → Type 0
UnlessHanded true P = Unit {0}
UnlessHanded false P = P

abbrev pub ArrivesThen : Ends → Side → World → Step → Type 0
ArrivesThen ends side w (took (Session (OfActivities (End number)))) = UnlessHanded (body_at ends side w).receiving.was_handed (IsWhole ends side w)
ArrivesThen ends side w _ = Unit {0}

abbrev pub EachArrivesWhole : Ends → World → Type 0
EachArrivesWhole ends [] = Unit {0}
EachArrivesWhole ends (m ∷ w) = ArrivesThen ends m.side w m.step × EachArrivesWhole ends w

-- so it is of the messages
abbrev pub TransfersAreWhole : Common → Type 0
TransfersAreWhole common = (two : Two) (ledger : Ledger) → ReachedWithLedger common two ledger → (role : Role) → transfers.TakesTransferEnd common two role → ArrivesWhole common two ledger role

abbrev pub ItemsAreKept : Common → Type 0
ItemsAreKept common =
    (two : Two) (ledger : Ledger) → ReachedWithLedger common two ledger → (role : Role) (encoding : Encoding) → IsNewest encoding (transfer_log_of role ledger.transfer_logs).encoded →
    IsOf encoding.apdu (item_of encoding.activity (transfer_log_of role ledger.transfer_logs).started)
