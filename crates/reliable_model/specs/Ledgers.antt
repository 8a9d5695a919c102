-- What two ends reach, in every mode: by calls, by what they do by themselves, by takings and by breaks; with a
-- ledger: what they share, and the transfer log of each, which is what it started, encoded and was handed up.
use Rattle.std.specs.Prelude.{◌≡◌, ℕ, ℤ, List, [], ◌∷◌, ◌++◌, Bool, ◌||◌, if◌then◌else◌, Option, Some, Ok}
use Rattle.osi_base.specs.declared.layer_words.SetItem.{SetItem}
use Rattle.end_model.specs.dialogue.declared.call.Call.{Call}
use Rattle.end_model.specs.dialogue.declared.indication.Indication.{Indication}
use Rattle.end_model.specs.end_rules.Base.{Base, Fault}
use Rattle.osi_base.specs.SetPlaces.{pair_of}
use Rattle.end_model.specs.end_rules.Encodings.{next_queued, Encoding, encoding_of}
use Rattle.end_model.specs.end_rules.Messages.{Message, Session, OfAssociation, OfActivities, Connect, Start, End}
use Rattle.end_model.specs.end_rules.State.{Body, Queued}
use Rattle.end_model.specs.end_rules.Connecting.{is_refused, recovers_in}
use Rattle.end_model.specs.end_rules.Calling.{can_call}
use Rattle.end_model.specs.end_rules.Requesting.{due_of}
use Rattle.end_model.specs.end_rules.ByItself.{OwnAct, SendsNow, EncodesOn, next_own}
use Rattle.end_model.specs.end_rules.Reacting.{Passes, Takes, Fails, react}
use Rattle.end_model.specs.end_rules.History.{after_step, step_of}
use Rattle.end_model.specs.end_rules.World.{Shared, shared_first}
use Rattle.agreement.specs.Sets.{Role}
use Rattle.agreement.specs.Sets.Role.{Initiator, Responder}
use Rattle.end_model.specs.Requests.{after_called}
use Rattle.end_model.specs.BothEnds.{Common, base_at, Two, two_new, body_at, coming_to, stepped, both_broke}
use Rattle.end_model.specs.Sharing.{side_of, shared_all_sent, shared_all_answered}

-- the messages that an end sends by itself in this step
abbrev pub own_messages : OwnAct → List Message
own_messages (SendsNow message) = message ∷ []
own_messages (EncodesOn context) = []

-- Of one end, the newest first: the items that it started, the k-th in its activity k; what it encoded; and the activities of
-- the other whose transfers were handed up to it since its association began.
pub record TransferLog : Type 0 where
  pub started : List Queued
  pub encoded : List Encoding
  pub arrived : List ℕ

pub record TransferLogs : Type 0 where
  pub a : TransferLog
  pub b : TransferLog

pub record Ledger : Type 0 where
  pub shared : Shared
  pub transfer_logs : TransferLogs

abbrev pub no_transfer_log : TransferLog
no_transfer_log = record { started = []; encoded = []; arrived = [] }

abbrev pub first_ledger : Common → Ledger
first_ledger common = record { shared = shared_first (base_at Initiator common); transfer_logs = record { a = no_transfer_log; b = no_transfer_log } }

abbrev pub transfer_log_of : Role → TransferLogs → TransferLog
transfer_log_of Initiator transfer_logs = transfer_logs.a
transfer_log_of Responder transfer_logs = transfer_logs.b

abbrev pub on_transfer_log : Role → (TransferLog → TransferLog) → TransferLogs → TransferLogs
on_transfer_log Initiator change transfer_logs = record transfer_logs { a = change transfer_logs.a }
on_transfer_log Responder change transfer_logs = record transfer_logs { b = change transfer_logs.b }

-- ---- what each step adds

abbrev pub started_by : Body → OwnAct → List Queued
started_by body (SendsNow (Session (OfActivities (Start activity)))) = next_queued body.sending.queue
started_by body own = []

abbrev pub encoded_by : Body → List SetItem → OwnAct → List Encoding
encoded_by body set (EncodesOn context) = encoding_of body.sending.started context (pair_of set context) body.sending.current
encoded_by body set (SendsNow message) = []

-- a CN that is accepted, and recovers nothing, begins an association anew
abbrev pub anew : Bool → Bool → List ℕ → List ℕ
anew refused recovers arrived = if refused || recovers then arrived else []

abbrev pub items_anew : Bool → Bool → List Queued → List Queued
items_anew refused recovers items = if refused || recovers then items else []

abbrev pub arrived_at_end : Body → List ℕ
arrived_at_end body = if body.receiving.was_handed then [] else body.receiving.last ∷ []

abbrev pub arrived_by : Base → Body → Message → List ℕ → List ℕ
arrived_by base body (Session (OfActivities (End number))) arrived = arrived_at_end body ++ arrived
arrived_by base body (Session (OfAssociation (Connect session presentation values))) arrived =
    anew (is_refused base body session presentation values) (recovers_in base values) arrived
arrived_by base body message arrived = arrived

abbrev pub items_by : Base → Body → Message → List Queued → List Queued
items_by base body (Session (OfAssociation (Connect session presentation values))) items =
    items_anew (is_refused base body session presentation values) (recovers_in base values) items
items_by base body message items = items

-- ---- the ledger after a step

abbrev pub after_sending : Common → Role → List Message → Ledger → Ledger
after_sending common role sent ledger = record ledger { shared = shared_all_sent common.mode (side_of role) sent ledger.shared }

abbrev pub longer_transfer_log : List Queued → List Encoding → TransferLog → TransferLog
longer_transfer_log items encodings transfer_log = record transfer_log { started = items ++ transfer_log.started; encoded = encodings ++ transfer_log.encoded }

abbrev pub after_acting : Common → Role → List Message → List Queued → List Encoding → Ledger → Ledger
after_acting common role sent items encodings ledger =
    record {
      shared = shared_all_sent common.mode (side_of role) sent ledger.shared;
      transfer_logs = on_transfer_log role (longer_transfer_log items encodings) ledger.transfer_logs;
    }

abbrev pub after_own : Common → Role → Body → OwnAct → Ledger → Ledger
after_own common role body own ledger =
    after_acting common role (own_messages own) (started_by body own) (encoded_by body ledger.shared.set own) ledger

abbrev pub transfer_log_taken : Base → Body → Message → TransferLog → TransferLog
transfer_log_taken base body message transfer_log =
    record transfer_log { started = items_by base body message transfer_log.started; arrived = arrived_by base body message transfer_log.arrived }

abbrev pub after_taking : Common → Role → Body → Message → List Message → Ledger → Ledger
after_taking common role body message answers ledger =
    record {
      shared = shared_all_answered (base_at role common) message answers ledger.shared;
      transfer_logs = on_transfer_log role (transfer_log_taken (base_at role common) body message) ledger.transfer_logs;
    }

-- ---- what is reached

pub data ReachedWithLedger (common : Common) : Two → Ledger → Type 0 where
  begins : ReachedWithLedger common (two_new common) (first_ledger common)
  calls : (two : Two) (ledger : Ledger) (role : Role) (call : Call) (answer : Option ℤ) → ReachedWithLedger common two ledger
      → can_call (base_at role common) (body_at role two) call ≡ Ok answer
      → ReachedWithLedger common (stepped role (after_called common.mode (base_at role common) (body_at role two) call answer)
      (coming_to role two) (due_of (base_at role common) (body_at role two) call (Ok answer)) two)
      (after_sending common role (due_of (base_at role common) (body_at role two) call (Ok answer)) ledger)
  acts : (two : Two) (ledger : Ledger) (role : Role) (own : OwnAct) → ReachedWithLedger common two ledger
      → next_own (base_at role common) (body_at role two) ≡ Some own
      → ReachedWithLedger common (stepped role (after_step (base_at role common) (body_at role two) (step_of own)) (coming_to role two) (own_messages own) two)
      (after_own common role (body_at role two) own ledger)
  takes : (two : Two) (ledger : Ledger) (role : Role) (message : Message) (left : List Message) (body : Body) (answers : List Message) (shown : List Indication) → ReachedWithLedger common two ledger
      → coming_to role two ≡ message ∷ left → react (base_at role common) (body_at role two) message ≡ Takes body answers shown
      → ReachedWithLedger common (stepped role body left answers two) (after_taking common role (body_at role two) message answers ledger)
  passes : (two : Two) (ledger : Ledger) (role : Role) (message : Message) (left : List Message) → ReachedWithLedger common two ledger
      → coming_to role two ≡ message ∷ left → react (base_at role common) (body_at role two) message ≡ Passes
      → ReachedWithLedger common (stepped role (body_at role two) left [] two) ledger
  fails : (two : Two) (ledger : Ledger) (role : Role) (message : Message) (left : List Message)
      (fault : Fault) (body : Body) (aborts : List Message) (shown : List Indication) → ReachedWithLedger common two ledger
      → coming_to role two ≡ message ∷ left → react (base_at role common) (body_at role two) message ≡ Fails fault body aborts shown
      → ReachedWithLedger common (stepped role body left aborts two) (after_sending common role aborts ledger)
  breaks : (two : Two) (ledger : Ledger) → ReachedWithLedger common two ledger → ReachedWithLedger common (both_broke common two) ledger
