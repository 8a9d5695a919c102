-- Outside reliable mode each outcome that an end is told is one that the other end wrote.
use Rattle.std.proofs.Common.{◌≡◌, refl, true, false, inl, sym, ap, subst, ℕ, List, [], ◌∷◌, ◌++◌}
use Rattle.std.specs.Prelude.{ℤ, Bool, not, ◌&&◌, ◌||◌, Option, Some, None, Ok, is_some, if◌then◌else◌}
use Rattle.asn1_types.specs.declared.value.Val.{Val}
use Rattle.osi_base.specs.declared.layer_words.SetItem.{SetItem}
use Rattle.osi_base.specs.declared.layer_words.Layer.{Layer}
use Rattle.osi_base.specs.declared.layer_words.Layer.TheVariants as layers
use Rattle.osi_base.specs.declared.session_word.SessionConnect.{SessionConnect}
use Rattle.osi_base.specs.declared.presentation_word.PresentationConnect.{PresentationConnect}
use Rattle.end_model.specs.end_rules.Members.{IsIn}
use Rattle.stub_tables.specs.declared.tables.Tables.{Tables}
use Rattle.stub_tables.specs.declared.operation.Operation.{Operation}
use Rattle.stub_tables.specs.declared.apdu.Apdu.{Apdu}
use Rattle.stub_tables.specs.Lookup.{operation_at, error_at}
use Rattle.dialogue.specs.declared.config.Mode.{Mode}
use Rattle.dialogue.specs.declared.config.Mode.TheVariants.{Bare, Direct, Reliable}
use Rattle.dialogue.specs.declared.call.Call.{Call}
use Rattle.dialogue.specs.declared.call.Call.TheVariants as the_calls
use Rattle.dialogue.specs.declared.call.CallRefusal.TheVariants as refusals
use Rattle.dialogue.specs.declared.indication.Indication.{Indication}
use Rattle.end_model.specs.end_rules.Base.{Base, Fault, is_bare, is_direct, is_reliable}
use Rattle.end_model.specs.end_rules.Messages.{DataValue, Message, Transport, Session, Word, OfAssociation, OfData, OfMarks, OfActivities, TransportUnit, ConnectionRequest, ConnectionConfirm, DisconnectRequest, TransportError}
use Rattle.end_model.specs.end_rules.Messages.{AssociationWord, Connect, Accept, Refuse, Finish, Disconnect, Abort, AbortAccept, DataWord, Values, AlterContext, AlterContextAck, unit_of}
use Rattle.end_model.specs.end_rules.Messages.{MarkWord, Mark, MarkAck, Restart, RestartAck, Give, Please, GiveConfirm, GiveAck}
use Rattle.end_model.specs.end_rules.State.{Body, OpenCall, is_carrying, is_joined, is_up, is_free, is_empty, opened_with, passes_over}
use Rattle.end_model.specs.end_rules.Writing.{refuse_message, provider_refusal, give_message, please_message, user_abort}
use Rattle.end_model.specs.end_rules.Faults.{abort_of, transport_fault}
use Rattle.end_model.specs.end_rules.Purging.{is_purged, is_transport_purged}
use Rattle.end_model.specs.end_rules.Connecting.{has_acse, set_for, results_for, context_named, the_one, lacks_request, rejecting_information, transfer_rejection, is_refused, refusal_message, acceptance_message, answer_to_connect}
use Rattle.end_model.specs.end_rules.Invoking.{carrier_in}
use Rattle.end_model.specs.end_rules.Calling.{can_call}
use Rattle.end_model.specs.end_rules.Requesting.{sent_at_once, due_invoke, due_outcome, result_in, error_for, due_of}
use Rattle.end_model.specs.end_rules.ByItself.{OwnAct, next_in, next_own}
use Rattle.end_model.specs.end_rules.TakesTransport.{is_size, answer_to_request, transport_unit_fault, answers_to_transport, shown_of_transport}
use Rattle.end_model.specs.end_rules.TakesAssociation.{answers_to_association, shown_of_association}
use Rattle.end_model.specs.end_rules.TakesData.{values_taken, shown_of_data}
use Rattle.end_model.specs.end_rules.TakesMarks.{mark_answer, answers_to_mark, shown_of_mark}
use Rattle.end_model.specs.end_rules.Reacting.{Reaction, Passes, Takes, Fails, fails, answers_to_word, shown_of_word, contexts_of_word, fault_above, word_fault, on_word, react_to_word, on_transport, react_to_session, react_alive, react}
use Rattle.agreement.specs.Sets.{Role, other}
use Rattle.agreement.specs.Sets.Role.{Initiator, Responder}
use Rattle.end_model.specs.Acting.{as_list, invoked_as, apdus_of}
use Rattle.end_model.specs.BothEnds.{Common, base_at, Two, coming_to}
use Rattle.end_model.proofs.Ladder.{called, passed}
use Rattle.reliable_model.specs.Ledgers.{Ledger}
use Rattle.outcome_laws.specs.Exchanges.{rejects_in, still_after, Exchanges, exchange_of, ReachedWithExchanges, begins, calls, acts, takes, passes, fails as aborts_of_itself, breaks}
use Rattle.outcome_laws.specs.Outcomes.{AreAnswers, OutcomesAreAnswers}
use Rattle.outcome_laws.proofs.Words.{association-none, marks-none, settled-none, transport-none}
use Rattle.outcome_laws.proofs.Once.{keeps, still-keeps}
use Rattle.outcome_laws.proofs.Writers.{within-more, Carries, AllCarry, all-on, all-append, answers-on, answers-append, quiet, TakenWell, values-taken}

-- ---- what is sent for a message that is taken

abbrev WordWell : Base → Body → Word → List Apdu → List Apdu → Type 0
WordWell base body word own peer = TakenWell base.tables own peer (answers_to_word base body word) (shown_of_word base body word)

refusal-carries : (base : Base) (body : Body) (session : SessionConnect) (presentation : PresentationConnect) (values : List DataValue) (own : List Apdu) → Carries own (refusal_message base body session presentation values)
refusal-carries base body session presentation values own = go (is_some presentation.default_context || not (has_acse (set_for base presentation)))
  where
    go : (b : Bool) → Carries own (if b then provider_refusal else refuse_message (set_for base presentation) (results_for base presentation) (context_named (the_one values)) (if lacks_request base (set_for base presentation) values then [] else rejecting_information base session (set_for base presentation) (transfer_rejection base body values)))
    go true = tt
    go false = tt

connect-carries : (base : Base) (body : Body) (session : SessionConnect) (presentation : PresentationConnect) (values : List DataValue) (own : List Apdu) → AllCarry own (answer_to_connect base body session presentation values)
connect-carries base body session presentation values own = go (is_refused base body session presentation values)
  where
    go : (b : Bool) → AllCarry own (if b then refusal_message base body session presentation values ∷ [] else acceptance_message base session presentation values ∷ [])
    go true = (refusal-carries base body session presentation values own, tt)
    go false = (tt, tt)

association-carries : (base : Base) (body : Body) (word : AssociationWord) (own : List Apdu) → AllCarry own (answers_to_association base body word)
association-carries base body (Connect session presentation values) own = connect-carries base body session presentation values own
association-carries base body (Accept session presentation values) own = tt
association-carries base body (Refuse transport reason presentation values) own = tt
association-carries base body (Finish transport values) own = (tt, tt)
association-carries base body (Disconnect values) own = tt
association-carries base body (Abort transport user) own = tt
association-carries base body AbortAccept own = tt

values-well : (base : Base) (body : Body) (values : List DataValue) (own peer : List Apdu) → is_reliable base.mode ≡ false → Carries peer (Session (OfData (Values values))) → TakenWell base.tables own peer (values_taken base body values).answers (values_taken base body values).shown
values-well base body values own peer e h = rw e (values-taken base body values own peer e h)

data-well : (base : Base) (body : Body) (word : DataWord) (own peer : List Apdu) → is_reliable base.mode ≡ false → Carries peer (Session (OfData word)) → WordWell base body (OfData word) own peer
data-well base body (Values values) own peer e h = values-well base body values own peer e h
data-well base body (AlterContext add delete) own peer e h = record { sends = (tt, tt); shows = (tt, tt) }
data-well base body (AlterContextAck answers) own peer e h =
    record { sends = tt; shows = quiet base.tables peer (shown_of_data base body (AlterContextAck answers)) (settled-none body.sets.own answers) }

mark-answer-carries : (mode : Mode) (number : ℕ) (own : List Apdu) → AllCarry own (mark_answer mode number)
mark-answer-carries Reliable number own = (tt, tt)
mark-answer-carries Direct number own = tt
mark-answer-carries Bare number own = tt

marks-carry : (base : Base) (body : Body) (word : MarkWord) (own : List Apdu) → AllCarry own (answers_to_mark base body word)
marks-carry base body (Mark number) own = mark-answer-carries base.mode number own
marks-carry base body (MarkAck number) own = tt
marks-carry base body (Restart number list) own = (tt, tt)
marks-carry base body (RestartAck number list) own = tt
marks-carry base body (Give tokens) own = tt
marks-carry base body (Please tokens values) own = tt
marks-carry base body GiveConfirm own = (tt, tt)
marks-carry base body GiveAck own = tt

word-well : (base : Base) (body : Body) (word : Word) (own peer : List Apdu) → is_reliable base.mode ≡ false → Carries peer (Session word) → WordWell base body word own peer
word-well base body (OfAssociation word) own peer e h =
    record {
      sends = association-carries base body word (rejects_in (shown_of_association base body word) ++ own);
      shows = quiet base.tables peer (shown_of_association base body word) (association-none base body word);
    }
word-well base body (OfData word) own peer e h = data-well base body word own peer e h
word-well base body (OfMarks word) own peer e h =
    record {
      sends = marks-carry base body word (rejects_in (shown_of_mark base body word) ++ own);
      shows = quiet base.tables peer (shown_of_mark base body word) (marks-none base body word);
    }
word-well base body (OfActivities word) own peer e h = absurd h

-- ---- what an end does with a message

abbrev ReactsWell : Tables → List Apdu → List Apdu → Reaction → Type 0
ReactsWell tables own peer Passes = Unit {0}
ReactsWell tables own peer (Takes body answers shown) = TakenWell tables own peer answers shown
ReactsWell tables own peer (Fails fault body aborts shown) = AllCarry own aborts

either : (tables : Tables) (own peer : List Apdu) (b : Bool) (x y : Reaction) → ReactsWell tables own peer x → ReactsWell tables own peer y → ReactsWell tables own peer (if b then x else y)
either tables own peer true x y h k = h
either tables own peer false x y h k = k

aborts-carry : (connected : Bool) (accepted : List SetItem) (layer : Layer) (reason : ℕ) (own : List Apdu) → AllCarry own (abort_of connected accepted layer reason)
aborts-carry true accepted layers.Transport reason own = (tt, tt)
aborts-carry false accepted layers.Transport reason own = tt
aborts-carry connected accepted layers.Session reason own = (tt, tt)
aborts-carry connected accepted layers.Presentation reason own = (tt, tt)
aborts-carry connected accepted layers.Acse reason own = (tt, tt)
aborts-carry connected accepted layers.Rtse reason own = (tt, tt)
aborts-carry connected accepted layers.Rose reason own = tt

fails-well : (tables : Tables) (own peer : List Apdu) (body : Body) (accepted : List SetItem) (fault : Fault) → ReactsWell tables own peer (fails body accepted fault)
fails-well tables own peer body accepted fault = aborts-carry (is_carrying body.link.stage) accepted fault.layer fault.reason own

on-word : (base : Base) (body : Body) (word : Word) (fault : Option Fault) (own peer : List Apdu) → is_reliable base.mode ≡ false → Carries peer (Session word) → ReactsWell base.tables own peer (on_word base body word fault)
on-word base body word (Some fault) own peer e h = fails-well base.tables own peer body (contexts_of_word base body word) fault
on-word base body word None own peer e h = word-well base body word own peer e h

request-carries : (source : ℕ) (size : Option ℕ) (b : Bool) (own : List Apdu) → Carries own (answer_to_request source size b)
request-carries source size true own = tt
request-carries source size false own = tt

transport-carries : (base : Base) (body : Body) (unit : TransportUnit) (own : List Apdu) → AllCarry own (answers_to_transport base body unit)
transport-carries base body (ConnectionRequest source size calling called) own = (request-carries source size (is_size size) own, tt)
transport-carries base body (ConnectionConfirm destination size) own = (tt, tt)
transport-carries base body (DisconnectRequest destination) own = tt
transport-carries base body TransportError own = tt

on-transport : (base : Base) (body : Body) (unit : TransportUnit) (fault : Option Fault) (own peer : List Apdu) → ReactsWell base.tables own peer (on_transport base body unit fault)
on-transport base body unit (Some fault) own peer = fails-well base.tables own peer body body.link.accepted fault
on-transport base body unit None own peer =
    record {
      sends = transport-carries base body unit (rejects_in (shown_of_transport unit) ++ own);
      shows = quiet base.tables peer (shown_of_transport unit) (transport-none unit);
    }

to-word : (base : Base) (body : Body) (word : Word) (own peer : List Apdu) → is_reliable base.mode ≡ false → Carries peer (Session word) → ReactsWell base.tables own peer (react_to_word base body word)
to-word base body word own peer e h =
    either base.tables own peer (not (is_joined body.link.stage || is_carrying body.link.stage)) (fails body body.link.accepted transport_fault) _ (fails-well base.tables own peer body body.link.accepted transport_fault)
    (either base.tables own peer (is_purged base.initiator body.link.awaits (unit_of word)) Passes (on_word base body word (word_fault base body word)) tt (on-word base body word (word_fault base body word) own peer e h))

to-session : (b : Bool) (base : Base) (body : Body) (word : Word) (own peer : List Apdu) → is_reliable base.mode ≡ false → Carries peer (Session word) → ReactsWell base.tables own peer (react_to_session b base body word)
to-session true base body word own peer e h = on-word base body word (fault_above base body word) own peer e h
to-session false base body word own peer e h = to-word base body word own peer e h

alive : (base : Base) (body : Body) (message : Message) (own peer : List Apdu) → is_reliable base.mode ≡ false → Carries peer message → ReactsWell base.tables own peer (react_alive base body message)
alive base body (Transport unit) own peer e h =
    either base.tables own peer (is_transport_purged body.link.awaits) Passes (on_transport base body unit (transport_unit_fault base body unit)) tt (on-transport base body unit (transport_unit_fault base body unit) own peer)
alive base body (Session word) own peer e h = to-session (is_bare base.mode) base body word own peer e h

reacts-well : (base : Base) (body : Body) (message : Message) (own peer : List Apdu) → is_reliable base.mode ≡ false → Carries peer message → ReactsWell base.tables own peer (react base body message)
reacts-well base body message own peer e h =
    either base.tables own peer (passes_over body.link.phase) Passes (react_alive base body message) tt (alive base body message own peer e h)

-- ---- what a call sends

at-once : (mode : Mode) (body : Body) (id : Option ℕ) (apdu : Apdu) (own : List Apdu) → IsIn apdu own → AllCarry own (sent_at_once mode body id apdu)
at-once Reliable body id apdu own h = tt
at-once Direct body None apdu own h = tt
at-once Bare body None apdu own h = tt
at-once Direct body (Some id) apdu own h = ((record { apdu = apdu; is_it = refl; within = h }, tt), tt)
at-once Bare body (Some id) apdu own h = ((record { apdu = apdu; is_it = refl; within = h }, tt), tt)

invoke-carries : (base : Base) (body : Body) (context : ℕ) (id : ℤ) (linked : Option ℤ) (o : Option Operation) (argument : Option Val) (own : List Apdu) → AllCarry (invoked_as id linked argument o ++ own) (due_invoke base body context id linked o argument)
invoke-carries base body context id linked None argument own = tt
invoke-carries base body context id linked (Some operation) argument own = at-once base.mode body (Some context) _ _ (inl refl)

outcome-carries : (base : Base) (body : Body) (o : Option OpenCall) (apdu : Option Apdu) (own : List Apdu) → AllCarry (as_list apdu ++ own) (due_outcome base body o apdu)
outcome-carries base body (Some o) (Some apdu) own = at-once base.mode body (carrier_in base body o.context) apdu (apdu ∷ own) (inl refl)
outcome-carries base body (Some o) None own = tt
outcome-carries base body None apdu own = tt

give-carries : (mode : Mode) (own : List Apdu) → Carries own (give_message mode)
give-carries Reliable own = tt
give-carries Direct own = tt
give-carries Bare own = tt

please-carries : (body : Body) (mode : Mode) (priority : ℕ) (own : List Apdu) → Carries own (please_message body mode priority)
please-carries body Reliable priority own = tt
please-carries body Direct priority own = tt
please-carries body Bare priority own = tt

abort-carries : (b : Bool) (accepted : List SetItem) (own : List Apdu) → AllCarry own (if b then user_abort accepted 0 [] ∷ [] else [])
abort-carries true accepted own = (tt, tt)
abort-carries false accepted own = tt

-- interrupts, discards and resumptions are of reliable mode
no-mode : (mode : Mode) → is_reliable mode ≡ false → is_direct mode ≡ false → (is_bare mode && true) ≡ false → ⊥
no-mode Reliable e d b = cc
no-mode Direct e d b = cc
no-mode Bare e d b = cc

due-carries : (base : Base) (body : Body) (call : Call) (answer : Option ℤ) (own : List Apdu) → is_reliable base.mode ≡ false → can_call base body call ≡ Ok answer → AllCarry (apdus_of base body call answer ++ own) (due_of base body call (Ok answer))
due-carries base body (the_calls.Invoke context operation argument linked) (Some id) own e h = invoke-carries base body context id linked (operation_at base.tables operation) argument own
due-carries base body (the_calls.Invoke context operation argument linked) None own e h = tt
due-carries base body (the_calls.Answer id result) answer own e h = outcome-carries base body (opened_with false id body.calls.opens) (result_in base body id result) own
due-carries base body (the_calls.Refuse id error parameter) answer own e h = outcome-carries base body (opened_with false id body.calls.opens) (error_for id parameter (error_at base.tables error)) own
due-carries base body the_calls.Open answer own e h = (tt, tt)
due-carries base body the_calls.Recover answer own e h = (tt, tt)
due-carries base body (the_calls.Alter add delete) answer own e h = (tt, tt)
due-carries base body the_calls.Mark answer own e h = (tt, tt)
due-carries base body the_calls.Give answer own e h = (give-carries base.mode own, tt)
due-carries base body (the_calls.Please priority) answer own e h = (please-carries body base.mode priority own, tt)
due-carries base body (the_calls.Resync n) answer own e h = (tt, tt)
due-carries base body the_calls.Interrupt answer own e h =
    let c = called base body the_calls.Interrupt answer h in
    absurd (no-mode base.mode e (passed (is_direct base.mode) refusals.NotNegotiated _ answer c.rows).holds c.in_mode)
due-carries base body the_calls.Discard answer own e h =
    let c = called base body the_calls.Discard answer h in
    absurd (no-mode base.mode e (passed (is_direct base.mode) refusals.NotNegotiated _ answer c.rows).holds c.in_mode)
due-carries base body the_calls.Resume answer own e h =
    let c = called base body the_calls.Resume answer h in
    absurd (no-mode base.mode e (passed (is_direct base.mode) refusals.NotNegotiated _ answer c.rows).holds c.in_mode)
due-carries base body the_calls.Release answer own e h = (tt, tt)
due-carries base body the_calls.Abort answer own e h = abort-carries (is_carrying body.link.stage) body.link.accepted own

-- outside reliable mode nothing is sent by itself
none-own : (base : Base) (body : Body) (own : OwnAct) → is_reliable base.mode ≡ false → next_own base body ≡ Some own → ⊥
none-own base body own e h =
    let none : next_own base body ≡ None = ap (λ (b : Bool). if b && is_up body.link.phase && body.link.turn && is_free body.link.awaits && is_empty body.sets.own then next_in base body body.sending.current else None) e in
    cc

-- ---- two ends

-- of the end with this mail coming and this shown, whose peer wrote this
record Stands (tables : Tables) (wrote : List Apdu) (coming : List Message) (shown : List Indication) : Type 0 where
  carried : AllCarry wrote coming
  answers : AreAnswers tables wrote shown

-- the peer wrote and sent more
more-comes : (tables : Tables) (wrote more : List Apdu) (coming sent : List Message) (shown : List Indication) → Stands tables wrote coming shown → AllCarry (more ++ wrote) sent → Stands tables (more ++ wrote) (coming ++ sent) shown
more-comes tables wrote more coming sent shown h k =
    record {
      carried = all-append (more ++ wrote) coming sent (all-on wrote (more ++ wrote) coming (within-more more wrote) h.carried) k;
      answers = answers-on tables wrote (more ++ wrote) shown (within-more more wrote) h.answers;
    }

-- the first that came was taken or passed over
rest-comes : (tables : Tables) (wrote : List Apdu) (coming left : List Message) (message : Message) (shown : List Indication) → coming ≡ message ∷ left → Stands tables wrote coming shown → Stands tables wrote left shown
rest-comes tables wrote coming left message shown e h =
    let all : AllCarry wrote (message ∷ left) = subst (AllCarry wrote) e h.carried in
    record { carried = all.1; answers = h.answers }

first-carries : (tables : Tables) (wrote : List Apdu) (coming left : List Message) (message : Message) (shown : List Indication) → coming ≡ message ∷ left → Stands tables wrote coming shown → Carries wrote message
first-carries tables wrote coming left message shown e h =
    let all : AllCarry wrote (message ∷ left) = subst (AllCarry wrote) e h.carried in
    all.0

-- what was shown since the association began
pub still-answers : (tables : Tables) (wrote : List Apdu) (base : Base) (body : Body) (message : Message) (shown : List Indication) → AreAnswers tables wrote shown → AreAnswers tables wrote (still_after base body message shown)
still-answers tables wrote base body message shown h =
    subst (AreAnswers tables wrote) (sym (still-keeps base body message shown)) (go (keeps base body message))
  where
    go : (b : Bool) → AreAnswers tables wrote (if b then shown else [])
    go true = h
    go false = tt

taken-so : (base : Base) (body : Body) (message : Message) (left : List Message) (later : Body) (answers : List Message) (before shown : List Indication) (own peer : List Apdu) (coming : List Message) → is_reliable base.mode ≡ false → coming ≡ message ∷ left → react base body message ≡ Takes later answers shown → Stands base.tables peer coming before → TakenWell base.tables own peer answers shown × Stands base.tables peer left (still_after base body message before ++ shown)
taken-so base body message left later answers before shown own peer coming e c h k =
    let well : TakenWell base.tables own peer answers shown = subst (ReactsWell base.tables own peer) h (reacts-well base body message own peer e (first-carries base.tables peer coming left message before c k)) in (
      well,
      record {
        carried = (rest-comes base.tables peer coming left message before c k).carried;
        answers = answers-append base.tables peer (still_after base body message before) shown (still-answers base.tables peer base body message before k.answers) well.shows;
      },
    )

aborts-so : (base : Base) (body : Body) (message : Message) (left : List Message) (fault : Fault) (later : Body) (aborts : List Message) (before shown : List Indication) (own peer : List Apdu) (coming : List Message) → is_reliable base.mode ≡ false → coming ≡ message ∷ left → react base body message ≡ Fails fault later aborts shown → Stands base.tables peer coming before → AllCarry own aborts
aborts-so base body message left fault later aborts before shown own peer coming e c h k =
    subst (ReactsWell base.tables own peer) h (reacts-well base body message own peer e (first-carries base.tables peer coming left message before c k))

abbrev StandsAt : Common → Two → Exchanges → Role → Type 0
StandsAt common two exchanges role = Stands common.tables (exchange_of (other role) exchanges).wrote (coming_to role two) (exchange_of role exchanges).shown

stands : (common : Common) (two : Two) (ledger : Ledger) (exchanges : Exchanges) → is_reliable common.mode ≡ false → ReachedWithExchanges common two ledger exchanges → (role : Role) → StandsAt common two exchanges role
stands common two ledger exchanges e begins Initiator = record { carried = tt; answers = tt }
stands common two ledger exchanges e begins Responder = record { carried = tt; answers = tt }
stands common two ledger exchanges e (calls x l d Initiator call answer reached h) Initiator = stands common x l d e reached Initiator
stands common two ledger exchanges e (calls x l d Responder call answer reached h) Responder = stands common x l d e reached Responder
stands common two ledger exchanges e (calls x l d Initiator call answer reached h) Responder =
    more-comes common.tables d.a.wrote (apdus_of (base_at Initiator common) x.a call answer) x.to_b _ d.b.shown (stands common x l d e reached Responder) (due-carries (base_at Initiator common) x.a call answer d.a.wrote e h)
stands common two ledger exchanges e (calls x l d Responder call answer reached h) Initiator =
    more-comes common.tables d.b.wrote (apdus_of (base_at Responder common) x.b call answer) x.to_a _ d.a.shown (stands common x l d e reached Initiator) (due-carries (base_at Responder common) x.b call answer d.b.wrote e h)
stands common two ledger exchanges e (acts x l d Initiator own reached h) role = absurd (none-own (base_at Initiator common) x.a own e h)
stands common two ledger exchanges e (acts x l d Responder own reached h) role = absurd (none-own (base_at Responder common) x.b own e h)
stands common two ledger exchanges e (takes x l d Initiator message left body answers shown reached comes h) Initiator =
    (taken-so (base_at Initiator common) x.a message left body answers d.a.shown shown d.a.wrote d.b.wrote x.to_a e comes h (stands common x l d e reached Initiator)).1
stands common two ledger exchanges e (takes x l d Responder message left body answers shown reached comes h) Responder =
    (taken-so (base_at Responder common) x.b message left body answers d.b.shown shown d.b.wrote d.a.wrote x.to_b e comes h (stands common x l d e reached Responder)).1
stands common two ledger exchanges e (takes x l d Initiator message left body answers shown reached comes h) Responder =
    more-comes common.tables d.a.wrote (rejects_in shown) x.to_b answers d.b.shown (stands common x l d e reached Responder)
    (taken-so (base_at Initiator common) x.a message left body answers d.a.shown shown d.a.wrote d.b.wrote x.to_a e comes h (stands common x l d e reached Initiator)).0.sends
stands common two ledger exchanges e (takes x l d Responder message left body answers shown reached comes h) Initiator =
    more-comes common.tables d.b.wrote (rejects_in shown) x.to_a answers d.a.shown (stands common x l d e reached Initiator)
    (taken-so (base_at Responder common) x.b message left body answers d.b.shown shown d.b.wrote d.a.wrote x.to_b e comes h (stands common x l d e reached Responder)).0.sends
stands common two ledger exchanges e (passes x l d Initiator message left reached comes h) Initiator = rest-comes common.tables d.b.wrote x.to_a left message d.a.shown comes (stands common x l d e reached Initiator)
stands common two ledger exchanges e (passes x l d Responder message left reached comes h) Responder = rest-comes common.tables d.a.wrote x.to_b left message d.b.shown comes (stands common x l d e reached Responder)
stands common two ledger exchanges e (passes x l d Initiator message left reached comes h) Responder = more-comes common.tables d.a.wrote [] x.to_b [] d.b.shown (stands common x l d e reached Responder) tt
stands common two ledger exchanges e (passes x l d Responder message left reached comes h) Initiator = more-comes common.tables d.b.wrote [] x.to_a [] d.a.shown (stands common x l d e reached Initiator) tt
stands common two ledger exchanges e (aborts_of_itself x l d Initiator message left fault body aborts shown reached comes h) Initiator = rest-comes common.tables d.b.wrote x.to_a left message d.a.shown comes (stands common x l d e reached Initiator)
stands common two ledger exchanges e (aborts_of_itself x l d Responder message left fault body aborts shown reached comes h) Responder = rest-comes common.tables d.a.wrote x.to_b left message d.b.shown comes (stands common x l d e reached Responder)
stands common two ledger exchanges e (aborts_of_itself x l d Initiator message left fault body aborts shown reached comes h) Responder =
    more-comes common.tables d.a.wrote [] x.to_b aborts d.b.shown (stands common x l d e reached Responder)
    (aborts-so (base_at Initiator common) x.a message left fault body aborts d.a.shown shown d.a.wrote d.b.wrote x.to_a e comes h (stands common x l d e reached Initiator))
stands common two ledger exchanges e (aborts_of_itself x l d Responder message left fault body aborts shown reached comes h) Initiator =
    more-comes common.tables d.b.wrote [] x.to_a aborts d.a.shown (stands common x l d e reached Initiator)
    (aborts-so (base_at Responder common) x.b message left fault body aborts d.b.shown shown d.b.wrote d.a.wrote x.to_b e comes h (stands common x l d e reached Responder))
stands common two ledger exchanges e (breaks x l d reached) Initiator = record { carried = tt; answers = (stands common x l d e reached Initiator).answers }
stands common two ledger exchanges e (breaks x l d reached) Responder = record { carried = tt; answers = (stands common x l d e reached Responder).answers }

pub outcomes-are-answers : OutcomesAreAnswers
outcomes-are-answers common two ledger exchanges e reached role = (stands common two ledger exchanges e reached role).answers
