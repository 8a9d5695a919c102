-- What each message on its way satisfied when it was sent, what comes next satisfies.
use Rattle.std.proofs.Common.{◌≡◌, List, [], ◌∷◌, ◌++◌, subst, true}
use Rattle.agreement.specs.Sets.{Role, other, IsRising, AreKnown, IsKnownSet, ContextSet}
use Rattle.agreement.specs.Sets.Role.{Initiator, Responder}
use Rattle.agreement.specs.Messages.{Value, Mode, ModelSetup, Message, Act, Choice}
use Rattle.agreement.specs.Messages.Mode.{Bare, Direct, Reliable}
use Rattle.agreement.specs.Messages.Act.{Connects, Recovers, SaysValue, Queues, Drops, Alters, Marks, GivesTurn, Pleads, Restarts, Starts, Encodes, Sends, EndsActivity, Interrupts, Discards, Resumes, Releases, Aborts, Withdraws, TransportFails}
use Rattle.agreement.specs.Messages.Choice.{Nothing, Accepting, Refusing, Results}
use Rattle.agreement.specs.Messages.Message.{Connect, Recover, Accept, Data, Alter, AlterAnswer, Mark, Restart, End, Interrupt, Discard, Give, Release}
use Rattle.agreement.specs.State.{State}
use Rattle.agreement.specs.Acts.{MayAct, sent_by}
use Rattle.agreement.specs.Takings.{IsChoice, answer_to, mark_answer, give_answer}
use Rattle.agreement.specs.Worlds.{Step, World, Sending, sendings, state_of, shared_at, flight_to, taken_off, sent_by_step, ComesNext, IsRun}
use Rattle.agreement.specs.Worlds.Step.{Acts, Takes, Passes}
use Rattle.agreement.specs.Worlds.Moment.{By, Break}

-- all that is on its way satisfies P, a property of a message with the shared set just before its sending
abbrev pub AllSent : (Sending → Type 0) → List Sending → Type 0
AllSent P [] = Unit {0}
AllSent P (s ∷ flight) = P s × AllSent P flight

pub sent-append : (P : Sending → Type 0) (f g : List Sending) → AllSent P f → AllSent P g → AllSent P (f ++ g)
sent-append P [] g h k = k
sent-append P (s ∷ f) g h k = (h.0, sent-append P f g h.1 k)

sent-off : (P : Sending → Type 0) (step : Step) (flight : List Sending) → AllSent P flight → AllSent P (taken_off step flight)
sent-off P (Acts act) flight h = h
sent-off P (Takes m choice) [] h = tt
sent-off P (Takes m choice) (s ∷ flight) h = h.1
sent-off P (Passes m) [] h = tt
sent-off P (Passes m) (s ∷ flight) h = h.1

-- each step of a run sends only what satisfies P, which may depend on the sender
abbrev pub SendsOnly : ModelSetup → (Role → Sending → Type 0) → Type 0
SendsOnly setup P = (world : World) (role : Role) (step : Step) → IsRun setup (By role step ∷ world) → AllSent (P role) (sent_by_step setup role world step)

pub carried : (setup : ModelSetup) (P : Role → Sending → Type 0) → SendsOnly setup P → (world : World) → IsRun setup world → (role : Role) → AllSent (P (other role)) (flight_to setup role world)
carried setup P f [] h role = tt
carried setup P f (Break ∷ world) h role = tt
carried setup P f (By Initiator step ∷ world) h Initiator = sent-off (P Responder) step (flight_to setup Initiator world) (carried setup P f world h.1 Initiator)
carried setup P f (By Responder step ∷ world) h Responder = sent-off (P Initiator) step (flight_to setup Responder world) (carried setup P f world h.1 Responder)
carried setup P f (By Responder step ∷ world) h Initiator =
    sent-append (P Responder) (flight_to setup Initiator world) (sent_by_step setup Responder world step) (carried setup P f world h.1 Initiator) (f world Responder step h)
carried setup P f (By Initiator step ∷ world) h Responder =
    sent-append (P Initiator) (flight_to setup Responder world) (sent_by_step setup Initiator world step) (carried setup P f world h.1 Responder) (f world Initiator step h)

-- what comes next was sent so
pub comes-as : (P : Message → Type 0) (m : Message) (flight : List Sending) → ComesNext m flight → AllSent (λ s. P s.message) flight → P m
comes-as P m [] c h = absurd c
comes-as P m (s ∷ flight) c h = subst P c h.0

-- what the acceptance of contexts and the answer to an alteration were when they were sent
abbrev pub WasSent : ModelSetup → Message → Type 0
WasSent setup (Accept set) = IsRising set × IsKnownSet setup.knows set
WasSent setup (AlterAnswer results) = AreKnown setup.knows results
WasSent setup message = Unit {0}

acts-sent : (setup : ModelSetup) (x : State) (act : Act) (at : ContextSet) → AllSent (λ s. WasSent setup s.message) (sendings at (sent_by setup x act))
acts-sent setup x Connects at = (tt, tt)
acts-sent setup x Recovers at = (tt, tt)
acts-sent setup x (SaysValue value) at = (tt, tt)
acts-sent setup x (Queues context apdu) at = tt
acts-sent setup x Drops at = tt
acts-sent setup x (Alters items) at = (tt, tt)
acts-sent setup x Marks at = (tt, tt)
acts-sent setup x GivesTurn at = (tt, tt)
acts-sent setup x (Pleads priority) at = (tt, tt)
acts-sent setup x (Restarts number) at = (tt, tt)
acts-sent setup x Starts at = (tt, tt)
acts-sent setup x (Encodes context) at = tt
acts-sent setup x (Sends octets) at = (tt, tt)
acts-sent setup x EndsActivity at = (tt, tt)
acts-sent setup x Interrupts at = (tt, tt)
acts-sent setup x Discards at = (tt, tt)
acts-sent setup x Resumes at = (tt, tt)
acts-sent setup x Releases at = (tt, tt)
acts-sent setup x Aborts at = (tt, tt)
acts-sent setup x Withdraws at = tt
acts-sent setup x TransportFails at = tt

answers-sent : (setup : ModelSetup) (x : State) (m : Message) (choice : Choice) (at : ContextSet) → IsChoice setup x m choice → AllSent (λ s. WasSent setup s.message) (sendings at (answer_to setup x m choice))
answers-sent setup x Connect (Accepting set) at c = ((c.is_set, c.is_known), tt)
answers-sent setup x Connect Refusing at c = (tt, tt)
answers-sent setup x Connect Nothing at c = tt
answers-sent setup x Connect (Results results) at c = tt
answers-sent setup x Recover (Accepting set) at c = ((c.is_set, c.is_known), tt)
answers-sent setup x Recover Refusing at c = (tt, tt)
answers-sent setup x Recover Nothing at c = tt
answers-sent setup x Recover (Results results) at c = tt
answers-sent setup x (Alter items) (Results results) at c = (c.is_known, tt)
answers-sent setup x (Alter items) (Accepting set) at c = tt
answers-sent setup x (Alter items) Refusing at c = tt
answers-sent setup x (Alter items) Nothing at c = tt
answers-sent setup x (Mark number) choice at c = go setup.mode
  where
    go : (m : Mode) → AllSent (λ s. WasSent setup s.message) (sendings at (mark_answer m number))
    go Bare = tt
    go Direct = tt
    go Reliable = (tt, tt)
answers-sent setup x (Restart number list) choice at c = (tt, tt)
answers-sent setup x (End number) choice at c = (tt, tt)
answers-sent setup x Interrupt choice at c = (tt, tt)
answers-sent setup x Discard choice at c = (tt, tt)
answers-sent setup x Give choice at c = go setup.mode
  where
    go : (m : Mode) → AllSent (λ s. WasSent setup s.message) (sendings at (give_answer m))
    go Bare = tt
    go Direct = tt
    go Reliable = (tt, tt)
answers-sent setup x Release choice at c = (tt, tt)
answers-sent setup x m choice at c = tt

step-sent : (setup : ModelSetup) → SendsOnly setup (λ role s. WasSent setup s.message)
step-sent setup world role (Acts act) h = acts-sent setup (state_of setup role world) act (shared_at setup world).set
step-sent setup world role (Takes m choice) h = answers-sent setup (state_of setup role world) m choice (shared_at setup world).set h.0.is_choice
step-sent setup world role (Passes m) h = tt

pub was-sent : (setup : ModelSetup) (world : World) (role : Role) (m : Message) → IsRun setup world → ComesNext m (flight_to setup role world) → WasSent setup m
was-sent setup world role m h c = comes-as (WasSent setup) m (flight_to setup role world) c (carried setup (λ role s. WasSent setup s.message) (step-sent setup) world h role)

-- values are sent by saying them alone, so each that comes may be written
abbrev pub IsWritten : ModelSetup → Message → Type 0
IsWritten setup (Data value) = setup.codec.may_write value ≡ true
IsWritten setup message = Unit {0}

acts-written : (setup : ModelSetup) (role : Role) (x : State) (act : Act) (at : ContextSet) → MayAct setup role x act → AllSent (λ s. IsWritten setup s.message) (sendings at (sent_by setup x act))
acts-written setup role x Connects at h = (tt, tt)
acts-written setup role x Recovers at h = (tt, tt)
acts-written setup role x (SaysValue value) at h = (h.is_writable, tt)
acts-written setup role x (Queues context apdu) at h = tt
acts-written setup role x Drops at h = tt
acts-written setup role x (Alters items) at h = (tt, tt)
acts-written setup role x Marks at h = (tt, tt)
acts-written setup role x GivesTurn at h = (tt, tt)
acts-written setup role x (Pleads priority) at h = (tt, tt)
acts-written setup role x (Restarts number) at h = (tt, tt)
acts-written setup role x Starts at h = (tt, tt)
acts-written setup role x (Encodes context) at h = tt
acts-written setup role x (Sends octets) at h = (tt, tt)
acts-written setup role x EndsActivity at h = (tt, tt)
acts-written setup role x Interrupts at h = (tt, tt)
acts-written setup role x Discards at h = (tt, tt)
acts-written setup role x Resumes at h = (tt, tt)
acts-written setup role x Releases at h = (tt, tt)
acts-written setup role x Aborts at h = (tt, tt)
acts-written setup role x Withdraws at h = tt
acts-written setup role x TransportFails at h = tt

answers-written : (setup : ModelSetup) (x : State) (m : Message) (choice : Choice) (at : ContextSet) → AllSent (λ s. IsWritten setup s.message) (sendings at (answer_to setup x m choice))
answers-written setup x Connect (Accepting set) at = (tt, tt)
answers-written setup x Connect Refusing at = (tt, tt)
answers-written setup x Connect Nothing at = tt
answers-written setup x Connect (Results results) at = tt
answers-written setup x Recover (Accepting set) at = (tt, tt)
answers-written setup x Recover Refusing at = (tt, tt)
answers-written setup x Recover Nothing at = tt
answers-written setup x Recover (Results results) at = tt
answers-written setup x (Alter items) (Results results) at = (tt, tt)
answers-written setup x (Alter items) (Accepting set) at = tt
answers-written setup x (Alter items) Refusing at = tt
answers-written setup x (Alter items) Nothing at = tt
answers-written setup x (Mark number) choice at = go setup.mode
  where
    go : (m : Mode) → AllSent (λ s. IsWritten setup s.message) (sendings at (mark_answer m number))
    go Bare = tt
    go Direct = tt
    go Reliable = (tt, tt)
answers-written setup x (Restart number list) choice at = (tt, tt)
answers-written setup x (End number) choice at = (tt, tt)
answers-written setup x Interrupt choice at = (tt, tt)
answers-written setup x Discard choice at = (tt, tt)
answers-written setup x Give choice at = go setup.mode
  where
    go : (m : Mode) → AllSent (λ s. IsWritten setup s.message) (sendings at (give_answer m))
    go Bare = tt
    go Direct = tt
    go Reliable = (tt, tt)
answers-written setup x Release choice at = (tt, tt)
answers-written setup x m choice at = tt

step-written : (setup : ModelSetup) → SendsOnly setup (λ role s. IsWritten setup s.message)
step-written setup world role (Acts act) h = acts-written setup role (state_of setup role world) act (shared_at setup world).set h.0
step-written setup world role (Takes m choice) h = answers-written setup (state_of setup role world) m choice (shared_at setup world).set
step-written setup world role (Passes m) h = tt

pub comes-written : (setup : ModelSetup) (world : World) (role : Role) (value : Value) → IsRun setup world → ComesNext (Data value) (flight_to setup role world) → setup.codec.may_write value ≡ true
comes-written setup world role value h c =
    comes-as (IsWritten setup) (Data value) (flight_to setup role world) c (carried setup (λ role s. IsWritten setup s.message) (step-written setup) world h role)
