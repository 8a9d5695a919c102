-- Two ends of every mode, with what each handed in and which outcomes it was told (X.880 8, 9).
use Rattle.std.specs.Prelude.{◌≡◌, ℕ, ℤ, List, [], ◌∷◌, ◌++◌, Bool, false, ◌||◌, if◌then◌else◌, Option, Some, Ok}
use Rattle.std.specs.Ordering.{int_eq}
use Rattle.std.specs.List.{list_any}
use Rattle.stub_tables.specs.declared.tables.Tables.{Tables}
use Rattle.stub_tables.specs.declared.apdu.Apdu.{Apdu}
use Rattle.stub_tables.specs.declared.apdu.Apdu.TheVariants as apdus
use Rattle.dialogue.specs.declared.call.Call.{Call}
use Rattle.dialogue.specs.declared.call.Call.TheVariants as the_calls
use Rattle.dialogue.specs.declared.indication.Indication.{Indication}
use Rattle.dialogue.specs.declared.indication.Indication.TheVariants as indications
use Rattle.end_model.specs.end_rules.Base.{Base, Fault}
use Rattle.end_model.specs.end_rules.Messages.{Message, Session, OfAssociation, Connect}
use Rattle.end_model.specs.end_rules.State.{Body}
use Rattle.end_model.specs.end_rules.Connecting.{is_refused, recovers_in}
use Rattle.end_model.specs.end_rules.Calling.{can_call}
use Rattle.end_model.specs.end_rules.Requesting.{due_of}
use Rattle.end_model.specs.end_rules.ByItself.{OwnAct, next_own}
use Rattle.end_model.specs.end_rules.Reacting.{Passes, Takes, Fails, react}
use Rattle.end_model.specs.end_rules.History.{after_step, step_of}
use Rattle.agreement.specs.Sets.{Role}
use Rattle.agreement.specs.Sets.Role.{Initiator, Responder}
use Rattle.end_model.specs.Acting.{apdus_of}
use Rattle.end_model.specs.Requests.{after_called}
use Rattle.end_model.specs.BothEnds.{Common, base_at, Two, two_new, body_at, coming_to, stepped, both_broke}
use Rattle.reliable_model.specs.Ledgers.{Ledger, first_ledger, own_messages, after_sending, after_own, after_taking, ReachedWithLedger}

-- ---- outcomes that are told

abbrev pub outcome_in : Indication → List ℤ
outcome_in (indications.Result id value) = id ∷ []
outcome_in (indications.Error id error value) = id ∷ []
outcome_in (indications.Rejected id problem) = id ∷ []
outcome_in indication = []

abbrev pub outcomes_in : List Indication → List ℤ
outcomes_in [] = []
outcomes_in (indication ∷ shown) = outcome_in indication ++ outcomes_in shown

-- the rejects that were sent
abbrev pub reject_in : Indication → List Apdu
reject_in (indications.RejectSent id problem) = apdus.Reject id problem ∷ []
reject_in indication = []

abbrev pub rejects_in : List Indication → List Apdu
rejects_in [] = []
rejects_in (indication ∷ shown) = reject_in indication ++ rejects_in shown

-- ---- exchanges

-- an own invocation with its operation
pub record Asked : Type 0 where
  pub id : ℤ
  pub operation : ℕ

-- Of one end: the APDUs that it wrote, handed in by a call or rejects, the newest first; since its association began its own
-- invocations, the newest first, and what takings showed, the oldest first; and what was sent to it on this connection, and
-- what it took or passed over of that, the oldest first.
pub record EndExchange : Type 0 where
  pub wrote : List Apdu
  pub asked : List Asked
  pub shown : List Indication
  pub mail : List Message
  pub met : List Message

pub record Exchanges : Type 0 where
  pub a : EndExchange
  pub b : EndExchange

abbrev pub nothing_exchanged : EndExchange
nothing_exchanged = record { wrote = []; asked = []; shown = []; mail = []; met = [] }

abbrev pub exchange_of : Role → Exchanges → EndExchange
exchange_of Initiator exchanges = exchanges.a
exchange_of Responder exchanges = exchanges.b

abbrev pub on_exchange : Role → (EndExchange → EndExchange) → (EndExchange → EndExchange) → Exchanges → Exchanges
on_exchange Initiator own others exchanges = record { a = own exchanges.a; b = others exchanges.b }
on_exchange Responder own others exchanges = record { a = others exchanges.a; b = own exchanges.b }

-- the invocation of an accepted call
abbrev pub asked_by : Call → Option ℤ → List Asked
asked_by (the_calls.Invoke context operation argument linked) (Some id) = record { id = id; operation = operation } ∷ []
asked_by call answer = []

-- an opening that is accepted begins anew
abbrev pub kept_unless : {X : Type 0} → Bool → Bool → List X → List X
kept_unless refused recovers xs = if refused || recovers then xs else []

abbrev pub still_after : {X : Type 0} → Base → Body → Message → List X → List X
still_after base body (Session (OfAssociation (Connect session presentation values))) xs =
    kept_unless (is_refused base body session presentation values) (recovers_in base values) xs
still_after base body message xs = xs

abbrev pub calls_so : List Apdu → List Asked → EndExchange → EndExchange
calls_so apdus asked exchange = record exchange { wrote = apdus ++ exchange.wrote; asked = asked ++ exchange.asked }

abbrev pub takes_so : Base → Body → Message → List Indication → EndExchange → EndExchange
takes_so base body message shown exchange =
    record exchange {
      wrote = rejects_in shown ++ exchange.wrote;
      asked = still_after base body message exchange.asked;
      shown = still_after base body message exchange.shown ++ shown;
      met = exchange.met ++ message ∷ [];
    }

abbrev pub meets : Message → EndExchange → EndExchange
meets message exchange = record exchange { met = exchange.met ++ message ∷ [] }

abbrev pub gets : List Message → EndExchange → EndExchange
gets sent exchange = record exchange { mail = exchange.mail ++ sent }

-- a break loses what is on its way
abbrev pub loses : EndExchange → EndExchange
loses exchange = record exchange { mail = []; met = [] }

abbrev pub stays : EndExchange → EndExchange
stays exchange = exchange

-- What two ends reach, as `ReachedWithLedger` has it, with their exchanges.
pub data ReachedWithExchanges (common : Common) : Two → Ledger → Exchanges → Type 0 where
  begins : ReachedWithExchanges common (two_new common) (first_ledger common) (record { a = nothing_exchanged; b = nothing_exchanged })
  calls : (two : Two) (ledger : Ledger) (exchanges : Exchanges) (role : Role) (call : Call) (answer : Option ℤ) → ReachedWithExchanges common two ledger exchanges
      → can_call (base_at role common) (body_at role two) call ≡ Ok answer
      → ReachedWithExchanges common (stepped role (after_called common.mode (base_at role common) (body_at role two) call answer)
      (coming_to role two) (due_of (base_at role common) (body_at role two) call (Ok answer)) two)
      (after_sending common role (due_of (base_at role common) (body_at role two) call (Ok answer)) ledger)
      (on_exchange role (calls_so (apdus_of (base_at role common) (body_at role two) call answer) (asked_by call answer))
      (gets (due_of (base_at role common) (body_at role two) call (Ok answer))) exchanges)
  acts : (two : Two) (ledger : Ledger) (exchanges : Exchanges) (role : Role) (own : OwnAct) → ReachedWithExchanges common two ledger exchanges
      → next_own (base_at role common) (body_at role two) ≡ Some own
      → ReachedWithExchanges common (stepped role (after_step (base_at role common) (body_at role two) (step_of own)) (coming_to role two) (own_messages own) two)
      (after_own common role (body_at role two) own ledger)
      (on_exchange role stays (gets (own_messages own)) exchanges)
  takes : (two : Two) (ledger : Ledger) (exchanges : Exchanges) (role : Role) (message : Message) (left : List Message)
      (body : Body) (answers : List Message) (shown : List Indication)
      → ReachedWithExchanges common two ledger exchanges
      → coming_to role two ≡ message ∷ left → react (base_at role common) (body_at role two) message ≡ Takes body answers shown
      → ReachedWithExchanges common (stepped role body left answers two) (after_taking common role (body_at role two) message answers ledger)
      (on_exchange role (takes_so (base_at role common) (body_at role two) message shown) (gets answers) exchanges)
  passes : (two : Two) (ledger : Ledger) (exchanges : Exchanges) (role : Role) (message : Message) (left : List Message) → ReachedWithExchanges common two ledger exchanges
      → coming_to role two ≡ message ∷ left → react (base_at role common) (body_at role two) message ≡ Passes
      → ReachedWithExchanges common (stepped role (body_at role two) left [] two) ledger (on_exchange role (meets message) stays exchanges)
  fails : (two : Two) (ledger : Ledger) (exchanges : Exchanges) (role : Role) (message : Message) (left : List Message)
      (fault : Fault) (body : Body) (aborts : List Message) (shown : List Indication)
      → ReachedWithExchanges common two ledger exchanges
      → coming_to role two ≡ message ∷ left → react (base_at role common) (body_at role two) message ≡ Fails fault body aborts shown
      → ReachedWithExchanges common (stepped role body left aborts two) (after_sending common role aborts ledger) (on_exchange role (meets message) (gets aborts) exchanges)
  breaks : (two : Two) (ledger : Ledger) (exchanges : Exchanges) → ReachedWithExchanges common two ledger exchanges
      → ReachedWithExchanges common (both_broke common two) ledger (on_exchange Initiator loses loses exchanges)

-- ---- laws, of every mode, with no premise

abbrev pub EverExchanges : (Tables → Two → Ledger → Exchanges → Type 0) → Type 0
EverExchanges Law =
    (common : Common) (two : Two) (ledger : Ledger) (exchanges : Exchanges) → ReachedWithExchanges common two ledger exchanges → Law common.tables two ledger exchanges

-- it is what two ends reach, and all that they reach
abbrev pub ExchangesAreReached : Type 0
ExchangesAreReached = (common : Common) (two : Two) (ledger : Ledger) (exchanges : Exchanges) → ReachedWithExchanges common two ledger exchanges → ReachedWithLedger common two ledger

pub record HasExchanges (common : Common) (two : Two) (ledger : Ledger) : Type 0 where
  pub exchanges : Exchanges
  pub reached_exchanges : ReachedWithExchanges common two ledger exchanges

abbrev pub AllHaveExchanges : Type 0
AllHaveExchanges = (common : Common) (two : Two) (ledger : Ledger) → ReachedWithLedger common two ledger → HasExchanges common two ledger

-- no identifier comes twice
abbrev pub AreDistinct : List ℤ → Type 0
AreDistinct [] = Unit {0}
AreDistinct (id ∷ ids) = (list_any (int_eq id) ids ≡ false) × AreDistinct ids

-- each message that was sent to an end on this connection was taken or passed over in its place, or is on its way
abbrev pub EachMetOrComing : Type 0
EachMetOrComing =
    EverExchanges (λ tables two ledger exchanges. (role : Role) → (exchange_of role exchanges).mail ≡ (exchange_of role exchanges).met ++ coming_to role two)
