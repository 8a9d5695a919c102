-- For the level of octets: what may happen next keeps a run, and what a taking gives.
use Rattle.std.proofs.Common.{◌≡◌, true, false, List, [], ◌∷◌, ◌++◌, subst, ◌⊎◌, inl, inr}
use Rattle.std.specs.Prelude.{Some}
use Rattle.agreement.specs.Sets.{Role, other}
use Rattle.agreement.specs.Sets.Role.{Initiator, Responder}
use Rattle.agreement.specs.Messages.{Apdu, Value, ModelSetup, Message, Act, Choice}
use Rattle.agreement.specs.Messages.Apdu.{Invoke, Outcome, Reject}
use Rattle.agreement.specs.State.{State}
use Rattle.agreement.specs.State.Phase.{Over}
use Rattle.agreement.specs.Acts.{MayAct}
use Rattle.agreement.specs.Takings.{is_purged, IsChoice, MayTake, taken, value_of}
use Rattle.agreement.specs.Worlds.{Step, World, state_of, flight_to, ComesNext, IsRun}
use Rattle.agreement.specs.Worlds.Step.{Acts, Takes, Passes}
use Rattle.agreement.specs.Worlds.Moment.{By, Break}
use Rattle.agreement.specs.Laws.{TakenAsSent, NoAbortOfItself, ContextsStay, ContextsAreKnown, HoldsTurn, OneHolder, InitiatorLeads, OneOutcome, OneOperation, OneInvocation, TheOthersOwn, handed_by, all_handed, IsAmong, IsHandedIn, AnsweredOnce, AcceptedNamesOpen, ArriveWhole, ItemsOfActivities, ArriveOnce, InvokedOnce, AlterationsAreFew}
use Rattle.agreement.proofs.Carried.{SendsOnly, carried, comes-as}
use Rattle.agreement.proofs.StaysWorlds.{all-stay}
use Rattle.agreement.proofs.Known.{contexts-known}
use Rattle.agreement.proofs.Outcomes.{one-outcome, accepted-names_open}
use Rattle.agreement.proofs.Operations.{one-operation, one-invocation}
use Rattle.agreement.proofs.Items.{opens-unmade, all-items}
use Rattle.agreement.proofs.Answered.{answered-once}
use Rattle.agreement.proofs.Few.{alterations-few}
use Rattle.agreement.proofs.Mail.{SamePair, TakesItsPair, by-mode}
use Rattle.agreement.proofs.AtOnce.{bare-at, direct-at}
use Rattle.agreement.proofs.ByTransfers.{reliable-at, all-no_abort, all-as_sent, all-holder, initiator-leads, all-once, others-own, arrive-whole, invoked-once}

-- every taking is of the pair that the shared set gave at the sending
pub takes-its_pair : (setup : ModelSetup) → TakesItsPair setup
takes-its_pair =
    by-mode TakesItsPair
    (λ base world role message choice run. (bare-at base world role message choice run).pair)
    (λ base world role message choice run. (direct-at base world role message choice run).pair)
    (λ base world role message choice run. (reliable-at base world role message choice run).pair)

-- an act that may be done
pub acts : (setup : ModelSetup) (world : World) (role : Role) (act : Act) → IsRun setup world → MayAct setup role (state_of setup role world) act → IsRun setup (By role (Acts act) ∷ world)
acts setup world role act run may = (may, run)

-- what a taking gives: the run goes on, the message may be taken, and the pair of its value under the
-- taker's set is the one that the shared set gave at its sending
pub record Taking (setup : ModelSetup) (world : World) (role : Role) (message : Message) (choice : Choice) : Type 0 where
  pub run : IsRun setup (By role (Takes message choice) ∷ world)
  pub may : MayTake setup role (state_of setup role world) message
  pub pair : SamePair (state_of setup role world) (flight_to setup role world) message

-- a taking of what comes next, also of the acceptance of an opening or a recovery
pub takes : (setup : ModelSetup) (world : World) (role : Role) (message : Message) (choice : Choice) → IsRun setup world → ComesNext message (flight_to setup role world) → ((state_of setup role world).phase ≡ Over → ⊥) → is_purged role (state_of setup role world).awaits message ≡ false → IsChoice setup (state_of setup role world) message choice → Taking setup world role message choice
takes setup world role message choice run comes alive kept chosen =
    let goes_on : IsRun setup (By role (Takes message choice) ∷ world) = (record { comes = comes; is_alive = alive; is_kept = kept; is_choice = chosen }, run) in
    record { run = goes_on; may = all-no_abort setup world role message choice goes_on; pair = takes-its_pair setup world role message choice goes_on }

-- a passing over of what comes next
pub passes : (setup : ModelSetup) (world : World) (role : Role) (message : Message) → IsRun setup world → ComesNext message (flight_to setup role world) → ((state_of setup role world).phase ≡ Over) ⊎ (is_purged role (state_of setup role world).awaits message ≡ true) → IsRun setup (By role (Passes message) ∷ world)
passes setup world role message run comes passed = (record { comes = comes; is_passed = passed }, run)

-- a break, at any moment
pub breaks : (setup : ModelSetup) (world : World) → IsRun setup world → IsRun setup (Break ∷ world)
breaks setup world run = (tt, run)

-- all laws of a setup
pub record Laws (setup : ModelSetup) : Type 0 where
  pub as_sent : TakenAsSent setup
  pub no_abort : NoAbortOfItself setup
  pub contexts_stay : ContextsStay setup
  pub contexts_known : ContextsAreKnown setup
  pub one_holder : OneHolder setup
  pub initiator_leads : InitiatorLeads setup
  pub one_outcome : OneOutcome setup
  pub one_operation : OneOperation setup
  pub one_invocation : OneInvocation setup
  pub others_own : TheOthersOwn setup
  pub answered_once : AnsweredOnce setup
  pub names_open : AcceptedNamesOpen setup
  pub whole : ArriveWhole setup
  pub items : ItemsOfActivities setup
  pub once : ArriveOnce setup
  pub invoked_once : InvokedOnce setup
  pub alterations_few : AlterationsAreFew setup

pub laws : (setup : ModelSetup) → Laws setup
laws setup =
    record {
      as_sent = all-as_sent setup;
      no_abort = all-no_abort setup;
      contexts_stay = all-stay all-no_abort setup;
      contexts_known = contexts-known setup (all-no_abort setup);
      one_holder = all-holder setup;
      initiator_leads = initiator-leads setup;
      one_outcome = one-outcome setup;
      one_operation = one-operation setup (others-own setup) (opens-unmade all-no_abort setup);
      one_invocation = one-invocation setup (others-own setup) (opens-unmade all-no_abort setup);
      others_own = others-own setup;
      answered_once = answered-once setup (invoked-once setup);
      names_open = accepted-names_open setup;
      whole = arrive-whole setup;
      items = all-items all-no_abort setup;
      once = all-once setup;
      invoked_once = invoked-once setup;
      alterations_few = alterations-few setup;
    }

-- what each message satisfied when it was sent, what comes next satisfies; the property may depend on the sender
pub comes-so : (setup : ModelSetup) (P : Role → Message → Type 0) → SendsOnly setup (λ role s. P role s.message) → (world : World) (role : Role) (message : Message) → IsRun setup world → ComesNext message (flight_to setup role world) → P (other role) message
comes-so setup P sends world role message run comes =
    comes-as (P (other role)) message (flight_to setup role world) comes (carried setup (λ role s. P role s.message) sends world run role)

-- a finer history, in which the taking of a message and the sending of its answer are two moments: whoever holds the
-- turn between them holds it before or after, so the other end doesn't
pub one-holder_between : (setup : ModelSetup) (world : World) (role : Role) (message : Message) (choice : Choice) (z : State) → IsRun setup (By role (Takes message choice) ∷ world) → (HoldsTurn z → HoldsTurn (state_of setup role world) ⊎ HoldsTurn (taken setup role (state_of setup role world) message choice)) → HoldsTurn z → HoldsTurn (state_of setup (other role) world) → ⊥
one-holder_between setup world Initiator message choice z run between h k = go (between h)
  where
    go : HoldsTurn (state_of setup Initiator world) ⊎ HoldsTurn (taken setup Initiator (state_of setup Initiator world) message choice) → ⊥
    go (inl b) = all-holder setup world run.1 b k
    go (inr a) = all-holder setup (By Initiator (Takes message choice) ∷ world) run a k
one-holder_between setup world Responder message choice z run between h k = go (between h)
  where
    go : HoldsTurn (state_of setup Responder world) ⊎ HoldsTurn (taken setup Responder (state_of setup Responder world) message choice) → ⊥
    go (inl b) = all-holder setup world run.1 k b
    go (inr a) = all-holder setup (By Responder (Takes message choice) ∷ world) run k a

-- what holds of all that an end handed in holds of the invocations and outcomes that are handed up at the other
abbrev pub AllHanded : (Apdu → Type 0) → List Apdu → Type 0
AllHanded P [] = Unit {0}
AllHanded P (apdu ∷ handed) = P apdu × AllHanded P handed

abbrev pub HandsOnly : ModelSetup → (Role → Apdu → Type 0) → Type 0
HandsOnly setup P = (world : World) (role : Role) (step : Step) → IsRun setup (By role step ∷ world) → AllHanded (P role) (handed_by step)

handed-append : (P : Apdu → Type 0) (new handed : List Apdu) → AllHanded P new → AllHanded P handed → AllHanded P (new ++ handed)
handed-append P [] handed h k = k
handed-append P (a ∷ new) handed h k = (h.0, handed-append P new handed h.1 k)

pub all-handed_so : (setup : ModelSetup) (P : Role → Apdu → Type 0) → HandsOnly setup P → (world : World) → IsRun setup world → (role : Role) → AllHanded (P role) (all_handed role world)
all-handed_so setup P f [] h role = tt
all-handed_so setup P f (Break ∷ world) h role = all-handed_so setup P f world h.1 role
all-handed_so setup P f (By Initiator step ∷ world) h Initiator = handed-append (P Initiator) (handed_by step) (all_handed Initiator world) (f world Initiator step h) (all-handed_so setup P f world h.1 Initiator)
all-handed_so setup P f (By Responder step ∷ world) h Responder = handed-append (P Responder) (handed_by step) (all_handed Responder world) (f world Responder step h) (all-handed_so setup P f world h.1 Responder)
all-handed_so setup P f (By Initiator step ∷ world) h Responder = all-handed_so setup P f world h.1 Responder
all-handed_so setup P f (By Responder step ∷ world) h Initiator = all-handed_so setup P f world h.1 Initiator

among-so : (P : Apdu → Type 0) (apdu : Apdu) (handed : List Apdu) → IsAmong apdu handed → AllHanded P handed → P apdu
among-so P apdu [] i h = absurd i
among-so P apdu (a ∷ handed) (inl e) h = subst P e h.0
among-so P apdu (a ∷ handed) (inr i) h = among-so P apdu handed i h.1

abbrev pub IsNoReject : Apdu → Type 0
IsNoReject (Reject number problem) = ⊥
IsNoReject apdu = Unit {0}

pub handed-up_so : (setup : ModelSetup) (P : Role → Apdu → Type 0) → HandsOnly setup P → (world : World) (role : Role) (message : Message) (choice : Choice) (value : Value) → IsRun setup (By role (Takes message choice) ∷ world) → value_of setup (state_of setup role world) message ≡ Some value → IsNoReject value.apdu → P (other role) value.apdu
handed-up_so setup P f world role message choice value run e n = go value.apdu n (others-own setup world role message choice value run e)
  where
    all : AllHanded (P (other role)) (all_handed (other role) world)
    all = all-handed_so setup P f world run.1 (other role)

    go : (a : Apdu) → IsNoReject a → IsHandedIn (all_handed (other role) world) a → P (other role) a
    go (Invoke number operation link argument) n i = among-so (P (other role)) (Invoke number operation link argument) (all_handed (other role) world) i all
    go (Outcome number content) n i = among-so (P (other role)) (Outcome number content) (all_handed (other role) world) i all
    go (Reject number problem) n i = absurd n
