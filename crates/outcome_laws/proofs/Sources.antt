-- All that an end queues, transfers and encodes it wrote.
use Rattle.std.proofs.Common.{inl, inr, ◌≡◌, refl, true, false, ◌∙◌, sym, ap, subst, ℕ, List, [], ◌∷◌, ◌++◌}
use Rattle.std.proofs.lemmas.List.{append_assoc}
use Rattle.std.specs.Prelude.{ℤ, Bool, not, ◌||◌, Option, Some, None, Ok, if◌then◌else◌, ◌⊎◌}
use Rattle.asn1_types.specs.declared.value.Val.{Val}
use Rattle.osi_base.specs.declared.layer_words.Answers.{Answers}
use Rattle.osi_base.specs.declared.session_word.SessionConnect.{SessionConnect}
use Rattle.osi_base.specs.declared.presentation_word.PresentationConnect.{PresentationConnect}
use Rattle.stub_tables.specs.declared.apdu.Apdu.{Apdu}
use Rattle.stub_tables.specs.declared.operation.Operation.{Operation}
use Rattle.stub_tables.specs.Lookup.{operation_at, error_at}
use Rattle.dialogue.specs.declared.config.Mode.{Mode}
use Rattle.dialogue.specs.declared.config.Mode.TheVariants.{Bare, Direct, Reliable}
use Rattle.dialogue.specs.declared.call.Call.{Call}
use Rattle.dialogue.specs.declared.call.Call.TheVariants as the_calls
use Rattle.dialogue.specs.declared.indication.Indication.{Indication}
use Rattle.end_model.specs.end_rules.Base.{Base, Fault, HeardHead, is_bare, is_reliable}
use Rattle.end_model.specs.end_rules.Sets.{Alteration}
use Rattle.end_model.specs.end_rules.Messages.{DataValue, Message, Transport, Session, Word, OfAssociation, OfData, OfMarks, OfActivities, TransportUnit, ConnectionRequest, ConnectionConfirm, DisconnectRequest, TransportError, unit_of}
use Rattle.end_model.specs.end_rules.Messages.{AssociationWord, Connect, Accept, Refuse, Finish, Disconnect, Abort, AbortAccept, DataWord, Values, AlterContext, AlterContextAck}
use Rattle.end_model.specs.end_rules.Messages.{MarkWord, Mark, MarkAck, Restart, RestartAck, Give, Please, GiveConfirm, GiveAck, ActivityWord, Start, Resume, End, EndAck, Interrupt, InterruptAck, Discard, DiscardAck}
use Rattle.end_model.specs.end_rules.State.{Body, OpenCall, Queued, Transfer, Sending, on_current, opened_with, cut_all, is_carrying, is_joined, passes_over}
use Rattle.end_model.specs.end_rules.Purging.{is_purged, is_transport_purged}
use Rattle.end_model.specs.end_rules.Invoking.{carrier_in}
use Rattle.end_model.specs.end_rules.Hearing.{Rejecting, hear, queued, sent_on, with_reject, take_head, head_of, take_values}
use Rattle.end_model.specs.end_rules.Connecting.{is_refused, recovers_in, refused_connect, accepted_connect, begun_with}
use Rattle.end_model.specs.end_rules.Faults.{transport_fault}
use Rattle.end_model.specs.end_rules.TakesTransport.{transport_unit_fault, after_transport, shown_of_transport}
use Rattle.end_model.specs.end_rules.TakesAssociation.{after_association, shown_of_association}
use Rattle.end_model.specs.end_rules.TakesData.{with_parts, values_taken, settled, shown_of_data}
use Rattle.end_model.specs.end_rules.TakesMarks.{marked_in, confirmed_in, with_turn, after_mark, shown_of_mark}
use Rattle.end_model.specs.end_rules.TakesActivities.{received, handed_up, shown_of_activity}
use Rattle.end_model.specs.end_rules.Requesting.{handed_in, invoking, after_invoke, answering, after_outcome, result_in, error_for, after_accepted, due_of, begun, mark_sent, values_sent, after_sent_association, after_sent_data, after_sent_mark, after_sent_activity, after_sent_transport, after_sent}
use Rattle.end_model.specs.end_rules.ByItself.{OwnAct, SendsNow, EncodesOn}
use Rattle.end_model.specs.end_rules.Reacting.{Reaction, Passes, Takes, Fails, fails, after_word, shown_of_word, fault_above, word_fault, on_word, on_transport, react_to_session, react_alive, react}
use Rattle.end_model.specs.end_rules.History.{after_step, step_of, after_broke, off_line}
use Rattle.osi_base.specs.declared.layer_words.SetItem.{SetItem}
use Rattle.osi_base.specs.SetPlaces.{pair_of}
use Rattle.end_model.specs.end_rules.Encodings.{Encoding, encoding_of}
use Rattle.end_model.specs.end_rules.Members.{IsIn}
use Rattle.agreement.specs.Sets.{Role}
use Rattle.agreement.specs.Sets.Role.{Initiator, Responder}
use Rattle.end_model.specs.Rows.{at}
use Rattle.end_model.specs.Acting.{as_list, invoked_as, apdus_of}
use Rattle.end_model.specs.Requests.{sent_all, after_called}
use Rattle.end_model.specs.BothEnds.{Common, base_at, Two, body_at}
use Rattle.reliable_model.specs.Ledgers.{encoded_by, transfer_log_of, Ledger}
use Rattle.outcome_laws.specs.Exchanges.{rejects_in, Exchanges, exchange_of, ReachedWithExchanges, begins, calls, acts, takes, passes, fails as aborts_of_itself, breaks}
use Rattle.outcome_laws.proofs.Shown.{in-later}
use Rattle.outcome_laws.proofs.Writers.{Within, within-more, in-first, in-either, rejects-append}

abbrev pub AllIn : List Apdu → List Queued → Type 0
AllIn wrote [] = Unit {0}
AllIn wrote (item ∷ items) = IsIn item.apdu wrote × AllIn wrote items

abbrev pub CurrentIn : List Apdu → Option Transfer → Type 0
CurrentIn wrote None = Unit {0}
CurrentIn wrote (Some transfer) = IsIn transfer.item.apdu wrote

pub record Sourced (wrote : List Apdu) (sending : Sending) : Type 0 where
  pub waiting : AllIn wrote sending.queue
  pub going : CurrentIn wrote sending.current

abbrev pub EncodedIn : List Apdu → List Encoding → Type 0
EncodedIn wrote [] = Unit {0}
EncodedIn wrote (e ∷ es) = IsIn e.apdu wrote × EncodedIn wrote es

-- ---- more is written

all-in-on : (xs ys : List Apdu) (items : List Queued) → Within xs ys → AllIn xs items → AllIn ys items
all-in-on xs ys [] w h = tt
all-in-on xs ys (item ∷ items) w h = (w item.apdu h.0, all-in-on xs ys items w h.1)

current-on : (xs ys : List Apdu) (current : Option Transfer) → Within xs ys → CurrentIn xs current → CurrentIn ys current
current-on xs ys None w h = tt
current-on xs ys (Some transfer) w h = w transfer.item.apdu h

sourced-on : (xs ys : List Apdu) (sending : Sending) → Within xs ys → Sourced xs sending → Sourced ys sending
sourced-on xs ys sending w h = record { waiting = all-in-on xs ys sending.queue w h.waiting; going = current-on xs ys sending.current w h.going }

sourced-more : (more wrote : List Apdu) (sending : Sending) → Sourced wrote sending → Sourced (more ++ wrote) sending
sourced-more more wrote sending h = sourced-on wrote (more ++ wrote) sending (within-more more wrote) h

encoded-more : (more wrote : List Apdu) (es : List Encoding) → EncodedIn wrote es → EncodedIn (more ++ wrote) es
encoded-more more wrote [] h = tt
encoded-more more wrote (e ∷ es) h = (in-later more wrote e.apdu h.0, encoded-more more wrote es h.1)

-- ---- changes of the current transfer and of the queue

kept-current : (wrote : List Apdu) (change : Transfer → Transfer) → ((t : Transfer) → (change t).item ≡ t.item) → (sending : Sending) → Sourced wrote sending → Sourced wrote (on_current change sending)
kept-current wrote change f sending h = go sending.current h.going
  where
    go : (c : Option Transfer) → CurrentIn wrote c → Sourced wrote (on_current change (record { started = sending.started; current = c; queue = sending.queue }))
    go None k = record { waiting = h.waiting; going = tt }
    go (Some t) k = record { waiting = h.waiting; going = subst (λ (x : Queued). IsIn x.apdu wrote) (sym (f t)) k }

started-current : (wrote : List Apdu) (sending : Sending) → Sourced wrote sending → Sourced wrote (begun sending)
started-current wrote sending h = go sending.queue h.waiting
  where
    go : (q : List Queued) → AllIn wrote q → Sourced wrote (begun (record { started = sending.started; current = sending.current; queue = q }))
    go [] k = record { waiting = tt; going = tt }
    go (item ∷ items) k = record { waiting = k.1; going = k.0 }

all-in-snoc : (wrote : List Apdu) (items : List Queued) (item : Queued) → AllIn wrote items → IsIn item.apdu wrote → AllIn wrote (items ++ item ∷ [])
all-in-snoc wrote [] item h k = (k, tt)
all-in-snoc wrote (x ∷ items) item h k = (h.0, all-in-snoc wrote items item h.1 k)

no-current : (wrote : List Apdu) (sending : Sending) → Sourced wrote sending → Sourced wrote (record sending { current = None })
no-current wrote sending h = record { waiting = h.waiting; going = tt }

-- ---- what is sent

values-sourced : (mode : Mode) (values : List DataValue) (body : Body) (wrote : List Apdu) → Sourced wrote body.sending → Sourced wrote (values_sent mode values body).sending
values-sourced Reliable values body wrote h = kept-current wrote _ (λ t. refl) body.sending h
values-sourced Direct values body wrote h = h
values-sourced Bare values body wrote h = h

mark-sourced : (mode : Mode) (number : ℕ) (body : Body) (wrote : List Apdu) → Sourced wrote body.sending → Sourced wrote (mark_sent mode number body).sending
mark-sourced Reliable number body wrote h = kept-current wrote _ (λ t. refl) body.sending h
mark-sourced Direct number body wrote h = h
mark-sourced Bare number body wrote h = h

association-sent : (body : Body) (word : AssociationWord) (wrote : List Apdu) → Sourced wrote body.sending → Sourced wrote (after_sent_association body word).sending
association-sent body (Connect session presentation values) wrote h = h
association-sent body (Accept session presentation values) wrote h = h
association-sent body (Refuse transport reason presentation values) wrote h = h
association-sent body (Finish transport values) wrote h = h
association-sent body (Disconnect values) wrote h = h
association-sent body (Abort transport user) wrote h = h
association-sent body AbortAccept wrote h = h

data-sent : (mode : Mode) (body : Body) (word : DataWord) (wrote : List Apdu) → Sourced wrote body.sending → Sourced wrote (after_sent_data mode body word).sending
data-sent mode body (Values values) wrote h = values-sourced mode values body wrote h
data-sent mode body (AlterContext add delete) wrote h = h
data-sent mode body (AlterContextAck answers) wrote h = h

marks-sent : (mode : Mode) (body : Body) (word : MarkWord) (wrote : List Apdu) → Sourced wrote body.sending → Sourced wrote (after_sent_mark mode body word).sending
marks-sent mode body (Mark number) wrote h = mark-sourced mode number body wrote h
marks-sent mode body (MarkAck number) wrote h = h
marks-sent mode body (Restart number list) wrote h = h
marks-sent mode body (RestartAck number list) wrote h = h
marks-sent mode body (Give tokens) wrote h = h
marks-sent mode body (Please tokens values) wrote h = h
marks-sent mode body GiveConfirm wrote h = h
marks-sent mode body GiveAck wrote h = h

activities-sent : (body : Body) (word : ActivityWord) (wrote : List Apdu) → Sourced wrote body.sending → Sourced wrote (after_sent_activity body word).sending
activities-sent body (Start activity) wrote h = started-current wrote body.sending h
activities-sent body (Resume activity mark) wrote h = kept-current wrote _ (λ t. refl) body.sending h
activities-sent body (End number) wrote h = kept-current wrote _ (λ t. refl) body.sending h
activities-sent body (EndAck number) wrote h = h
activities-sent body (Interrupt reason) wrote h = h
activities-sent body InterruptAck wrote h = h
activities-sent body (Discard reason) wrote h = kept-current wrote _ (λ t. refl) body.sending h
activities-sent body DiscardAck wrote h = h

transport-sent : (body : Body) (unit : TransportUnit) (wrote : List Apdu) → Sourced wrote body.sending → Sourced wrote (after_sent_transport body unit).sending
transport-sent body (ConnectionRequest source size calling called) wrote h = h
transport-sent body (ConnectionConfirm destination size) wrote h = h
transport-sent body (DisconnectRequest destination) wrote h = h
transport-sent body TransportError wrote h = h

message-sent : (mode : Mode) (body : Body) (message : Message) (wrote : List Apdu) → Sourced wrote body.sending → Sourced wrote (after_sent mode body message).sending
message-sent mode body (Transport unit) wrote h = transport-sent body unit wrote h
message-sent mode body (Session (OfAssociation word)) wrote h = association-sent body word wrote h
message-sent mode body (Session (OfData word)) wrote h = data-sent mode body word wrote h
message-sent mode body (Session (OfMarks word)) wrote h = marks-sent mode body word wrote h
message-sent mode body (Session (OfActivities word)) wrote h = activities-sent body word wrote h

all-sent : (mode : Mode) (body : Body) (messages : List Message) (wrote : List Apdu) → Sourced wrote body.sending → Sourced wrote (sent_all mode body messages).sending
all-sent mode body [] wrote h = h
all-sent mode body (message ∷ messages) wrote h = all-sent mode (after_sent mode body message) messages wrote (message-sent mode body message wrote h)

-- ---- calls

handed : (mode : Mode) (context : ℕ) (apdu : Apdu) (body : Body) (wrote : List Apdu) → Sourced wrote body.sending → Sourced (apdu ∷ wrote) (handed_in mode context apdu body).sending
handed Reliable context apdu body wrote h =
    let more : Sourced (apdu ∷ wrote) body.sending = sourced-more (apdu ∷ []) wrote body.sending h in
    record { waiting = all-in-snoc (apdu ∷ wrote) body.sending.queue (record { context = context; apdu = apdu }) more.waiting (inl refl); going = more.going }
handed Direct context apdu body wrote h = sourced-more (apdu ∷ []) wrote body.sending h
handed Bare context apdu body wrote h = sourced-more (apdu ∷ []) wrote body.sending h

invoked : (base : Base) (body : Body) (context place : ℕ) (id : ℤ) (linked : Option ℤ) (o : Option Operation) (argument : Option Val) (wrote : List Apdu) → Sourced wrote body.sending → Sourced (invoked_as id linked argument o ++ wrote) (after_invoke base body context place id linked o argument).sending
invoked base body context place id linked None argument wrote h = h
invoked base body context place id linked (Some operation) argument wrote h = handed base.mode context _ (invoking base context place id linked body) wrote h

answered : (base : Base) (body : Body) (id : ℤ) (o : Option OpenCall) (apdu : Option Apdu) (wrote : List Apdu) → Sourced wrote body.sending → Sourced (as_list apdu ++ wrote) (after_outcome base body id o apdu).sending
answered base body id (Some o) (Some apdu) wrote h = handed base.mode o.context apdu (answering id body) wrote h
answered base body id (Some o) None wrote h = h
answered base body id None apdu wrote h = sourced-more (as_list apdu) wrote body.sending h

accepted : (base : Base) (body : Body) (call : Call) (answer : Option ℤ) (wrote : List Apdu) → Sourced wrote body.sending → Sourced (apdus_of base body call answer ++ wrote) (after_accepted base body call answer).sending
accepted base body (the_calls.Invoke context operation argument linked) (Some id) wrote h = invoked base body context operation id linked (operation_at base.tables operation) argument wrote h
accepted base body (the_calls.Invoke context operation argument linked) None wrote h = h
accepted base body (the_calls.Answer id result) answer wrote h = answered base body id (opened_with false id body.calls.opens) (result_in base body id result) wrote h
accepted base body (the_calls.Refuse id error parameter) answer wrote h = answered base body id (opened_with false id body.calls.opens) (error_for id parameter (error_at base.tables error)) wrote h
accepted base body the_calls.Open answer wrote h = h
accepted base body the_calls.Recover answer wrote h = h
accepted base body the_calls.Abort answer wrote h = h
accepted base body (the_calls.Alter add delete) answer wrote h = h
accepted base body the_calls.Mark answer wrote h = h
accepted base body the_calls.Give answer wrote h = h
accepted base body (the_calls.Please priority) answer wrote h = h
accepted base body (the_calls.Resync n) answer wrote h = h
accepted base body the_calls.Interrupt answer wrote h = h
accepted base body the_calls.Resume answer wrote h = h
accepted base body the_calls.Discard answer wrote h = h
accepted base body the_calls.Release answer wrote h = h

called-so : (mode : Mode) (base : Base) (body : Body) (call : Call) (answer : Option ℤ) (wrote : List Apdu) → Sourced wrote body.sending → Sourced (apdus_of (at mode base) body call answer ++ wrote) (after_called mode base body call answer).sending
called-so mode base body call answer wrote h =
    all-sent mode (after_accepted (at mode base) body call answer) (due_of (at mode base) body call (Ok answer)) (apdus_of (at mode base) body call answer ++ wrote) (accepted (at mode base) body call answer wrote h)

-- ---- own acts and breaks

acted-so : (base : Base) (body : Body) (own : OwnAct) (wrote : List Apdu) → Sourced wrote body.sending → Sourced wrote (after_step base body (step_of own)).sending
acted-so base body (SendsNow message) wrote h = message-sent base.mode body message wrote h
acted-so base body (EncodesOn context) wrote h = kept-current wrote _ (λ t. refl) body.sending h

encoded-so : (body : Body) (set : List SetItem) (own : OwnAct) (wrote : List Apdu) (es : List Encoding) → Sourced wrote body.sending → EncodedIn wrote es → EncodedIn wrote (encoded_by body set own ++ es)
encoded-so body set (SendsNow message) wrote es h k = k
encoded-so body set (EncodesOn context) wrote es h k = go body.sending.current h.going
  where
    go : (c : Option Transfer) → CurrentIn wrote c → EncodedIn wrote (encoding_of body.sending.started context (pair_of set context) c ++ es)
    go None i = k
    go (Some t) i = (i, k)

broke-so : (base : Base) (body : Body) (wrote : List Apdu) → Sourced wrote body.sending → Sourced wrote (after_broke base body).sending
broke-so base body wrote h = go (is_reliable base.mode)
  where
    off : Sourced wrote (off_line base body).sending
    off = kept-current wrote _ (λ t. refl) body.sending h

    go : (b : Bool) → Sourced wrote (if b then off_line base body else cut_all (off_line base body)).sending
    go true = off
    go false = off

-- ---- takings

reject-so : (base : Base) (body : Body) (context : ℕ) (r : Option Rejecting) (wrote : List Apdu) → Sourced wrote body.sending → Sourced (rejects_in (with_reject base body context r).shown ++ wrote) (with_reject base body context r).body.sending
reject-so base body context None wrote h = h
reject-so base body context (Some r) wrote h = go (is_reliable base.mode) (carrier_in base body context)
  where
    go : (b : Bool) (c : Option ℕ) → Sourced (rejects_in (if b then queued body context r else sent_on body r c).shown ++ wrote) (if b then queued body context r else sent_on body r c).body.sending
    go true c = handed Reliable context _ body wrote h
    go false None = h
    go false (Some id) = sourced-more (_ ∷ []) wrote body.sending h

head-so : (base : Base) (body : Body) (context : ℕ) (head : HeardHead) (wrote : List Apdu) → Sourced wrote body.sending → Sourced (rejects_in (take_head base body context head).shown ++ wrote) (take_head base body context head).body.sending
head-so base body context head wrote h =
    let heard = hear base body.calls context head in
    let with_it = with_reject base (record body { calls = heard.calls }) context heard.reject in
    let same : rejects_in heard.shown ++ (rejects_in with_it.shown ++ wrote) ≡ rejects_in (heard.shown ++ with_it.shown) ++ wrote =
    sym (append_assoc (rejects_in heard.shown) (rejects_in with_it.shown) wrote) ∙ ap (λ is. is ++ wrote) (sym (rejects-append heard.shown with_it.shown)) in
    subst (λ (w : List Apdu). Sourced w with_it.body.sending) same
    (sourced-more (rejects_in heard.shown) (rejects_in with_it.shown ++ wrote) with_it.body.sending (reject-so base (record body { calls = heard.calls }) context heard.reject wrote h))

-- the later ones in front of the earlier ones, or behind them
swapped : (first second wrote : List Apdu) → Within (second ++ (first ++ wrote)) (first ++ (second ++ wrote))
swapped first second wrote x h = go (in-either second (first ++ wrote) x h)
  where
    back : IsIn x first ⊎ IsIn x wrote → IsIn x (first ++ (second ++ wrote))
    back (inl k) = in-first first (second ++ wrote) x k
    back (inr k) = in-later first (second ++ wrote) x (in-later second wrote x k)

    go : IsIn x second ⊎ IsIn x (first ++ wrote) → IsIn x (first ++ (second ++ wrote))
    go (inl k) = in-later first (second ++ wrote) x (in-first second wrote x k)
    go (inr k) = back (in-either first wrote x k)

values-so : (base : Base) (body : Body) (values : List DataValue) (wrote : List Apdu) → Sourced wrote body.sending → Sourced (rejects_in (take_values base body values).shown ++ wrote) (take_values base body values).body.sending
values-so base body [] wrote h = h
values-so base body (value ∷ values) wrote h =
    let first = take_head base body value.id (head_of base value) in
    let more = take_values base first.body values in
    let later : Sourced (rejects_in more.shown ++ (rejects_in first.shown ++ wrote)) more.body.sending = values-so base first.body values (rejects_in first.shown ++ wrote) (head-so base body value.id (head_of base value) wrote h) in
    let same : rejects_in first.shown ++ (rejects_in more.shown ++ wrote) ≡ rejects_in (first.shown ++ more.shown) ++ wrote =
    sym (append_assoc (rejects_in first.shown) (rejects_in more.shown) wrote) ∙ ap (λ is. is ++ wrote) (sym (rejects-append first.shown more.shown)) in
    subst (λ (w : List Apdu). Sourced w more.body.sending) same
    (sourced-on (rejects_in more.shown ++ (rejects_in first.shown ++ wrote)) (rejects_in first.shown ++ (rejects_in more.shown ++ wrote)) more.body.sending (swapped (rejects_in first.shown) (rejects_in more.shown) wrote) later)

abbrev WordSo : Base → Body → Word → List Apdu → Type 0
WordSo base body word wrote = Sourced (rejects_in (shown_of_word base body word) ++ wrote) (after_word base body word).sending

connect-so : (base : Base) (body : Body) (session : SessionConnect) (presentation : PresentationConnect) (values : List DataValue) (wrote : List Apdu) → Sourced wrote body.sending → Sourced wrote (after_association base body (Connect session presentation values)).sending
connect-so base body session presentation values wrote h = go (is_refused base body session presentation values)
  where
    joins : (v : Bool) → Sourced wrote (if v then body else begun_with base session).sending
    joins true = h
    joins false = record { waiting = tt; going = tt }

    go : (r : Bool) → Sourced wrote (if r then refused_connect body else accepted_connect base body session presentation values).sending
    go true = h
    go false = joins (recovers_in base values)

association-so : (base : Base) (body : Body) (word : AssociationWord) (wrote : List Apdu) → Sourced wrote body.sending → Sourced wrote (after_association base body word).sending
association-so base body (Connect session presentation values) wrote h = connect-so base body session presentation values wrote h
association-so base body (Accept session presentation values) wrote h = h
association-so base body (Refuse transport reason presentation values) wrote h = h
association-so base body (Finish transport values) wrote h = h
association-so base body (Disconnect values) wrote h = h
association-so base body (Abort transport user) wrote h = h
association-so base body AbortAccept wrote h = h

parts-so : (values : List DataValue) (body : Body) → (with_parts values body).sending ≡ body.sending
parts-so [] body = refl
parts-so (value ∷ values) body = parts-so values _

taken-values-so : (base : Base) (body : Body) (values : List DataValue) (wrote : List Apdu) → Sourced wrote body.sending → Sourced (rejects_in (values_taken base body values).shown ++ wrote) (values_taken base body values).body.sending
taken-values-so base body values wrote h = go (is_reliable base.mode) refl
  where
    go : (b : Bool) → is_reliable base.mode ≡ b → Sourced (rejects_in (values_taken base body values).shown ++ wrote) (values_taken base body values).body.sending
    go true e = rw e (subst (Sourced wrote) (sym (parts-so values body)) h)
    go false e = rw e (values-so base body values wrote h)

settled-so : (own : List Alteration) (answers : Answers) (body : Body) → (settled own answers body).sending ≡ body.sending
settled-so [] answers body = refl
settled-so (a ∷ own) answers body = refl

data-so : (base : Base) (body : Body) (word : DataWord) (wrote : List Apdu) → Sourced wrote body.sending → WordSo base body (OfData word) wrote
data-so base body (Values values) wrote h = taken-values-so base body values wrote h
data-so base body (AlterContext add delete) wrote h = h
data-so base body (AlterContextAck answers) wrote h =
    sourced-more (rejects_in (shown_of_data base body (AlterContextAck answers))) wrote _ (subst (Sourced wrote) (sym (settled-so body.sets.own answers body)) h)

marked-so : (mode : Mode) (n : ℕ) (body : Body) (wrote : List Apdu) → Sourced wrote body.sending → Sourced wrote (marked_in mode n body).sending
marked-so Reliable n body wrote h = h
marked-so Direct n body wrote h = h
marked-so Bare n body wrote h = h

confirmed-so : (mode : Mode) (n : ℕ) (body : Body) (wrote : List Apdu) → Sourced wrote body.sending → Sourced wrote (confirmed_in mode n body).sending
confirmed-so Reliable n body wrote h = kept-current wrote _ (λ t. refl) body.sending h
confirmed-so Direct n body wrote h = h
confirmed-so Bare n body wrote h = h

turn-so : (tokens : Option ℕ) (body : Body) (wrote : List Apdu) → Sourced wrote body.sending → Sourced wrote (with_turn tokens body).sending
turn-so None body wrote h = h
turn-so (Some tokens) body wrote h = h

marks-so : (base : Base) (body : Body) (word : MarkWord) (wrote : List Apdu) → Sourced wrote body.sending → Sourced wrote (after_mark base body word).sending
marks-so base body (Mark number) wrote h = marked-so base.mode number body wrote h
marks-so base body (MarkAck number) wrote h = confirmed-so base.mode number body wrote h
marks-so base body (Restart number list) wrote h = h
marks-so base body (RestartAck number list) wrote h = h
marks-so base body (Give tokens) wrote h = turn-so tokens body wrote h
marks-so base body (Please tokens values) wrote h = h
marks-so base body GiveConfirm wrote h = h
marks-so base body GiveAck wrote h = h

activities-so : (base : Base) (body : Body) (word : ActivityWord) (wrote : List Apdu) → Sourced wrote body.sending → WordSo base body (OfActivities word) wrote
activities-so base body (Start activity) wrote h = h
activities-so base body (Resume activity mark) wrote h = h
activities-so base body (End number) wrote h = values-so base (received (λ r. record r { was_handed = true; active = false }) body) (handed_up base body) wrote h
activities-so base body (EndAck number) wrote h = no-current wrote body.sending h
activities-so base body (Interrupt reason) wrote h = h
activities-so base body InterruptAck wrote h =
    sourced-more (rejects_in (shown_of_activity base body InterruptAck)) wrote _ (kept-current wrote _ (λ t. refl) body.sending h)
activities-so base body (Discard reason) wrote h = h
activities-so base body DiscardAck wrote h = sourced-more (rejects_in (shown_of_activity base body DiscardAck)) wrote _ (no-current wrote body.sending h)

word-so : (base : Base) (body : Body) (word : Word) (wrote : List Apdu) → Sourced wrote body.sending → WordSo base body word wrote
word-so base body (OfAssociation word) wrote h = sourced-more (rejects_in (shown_of_association base body word)) wrote _ (association-so base body word wrote h)
word-so base body (OfData word) wrote h = data-so base body word wrote h
word-so base body (OfMarks word) wrote h = sourced-more (rejects_in (shown_of_mark base body word)) wrote _ (marks-so base body word wrote h)
word-so base body (OfActivities word) wrote h = activities-so base body word wrote h

abbrev ReactsSo : List Apdu → Reaction → Type 0
ReactsSo wrote Passes = Unit {0}
ReactsSo wrote (Takes body answers shown) = Sourced (rejects_in shown ++ wrote) body.sending
ReactsSo wrote (Fails fault body aborts shown) = Sourced wrote body.sending

either : (wrote : List Apdu) (b : Bool) (x y : Reaction) → ReactsSo wrote x → ReactsSo wrote y → ReactsSo wrote (if b then x else y)
either wrote true x y h k = h
either wrote false x y h k = k

on-word : (base : Base) (body : Body) (word : Word) (fault : Option Fault) (wrote : List Apdu) → Sourced wrote body.sending → ReactsSo wrote (on_word base body word fault)
on-word base body word (Some fault) wrote h = h
on-word base body word None wrote h = word-so base body word wrote h

transport-so : (base : Base) (body : Body) (unit : TransportUnit) (wrote : List Apdu) → Sourced wrote body.sending → Sourced (rejects_in (shown_of_transport unit) ++ wrote) (after_transport base body unit).sending
transport-so base body (ConnectionRequest source size calling called) wrote h = h
transport-so base body (ConnectionConfirm destination size) wrote h = h
transport-so base body (DisconnectRequest destination) wrote h = h
transport-so base body TransportError wrote h = h

on-transport : (base : Base) (body : Body) (unit : TransportUnit) (fault : Option Fault) (wrote : List Apdu) → Sourced wrote body.sending → ReactsSo wrote (on_transport base body unit fault)
on-transport base body unit (Some fault) wrote h = h
on-transport base body unit None wrote h = transport-so base body unit wrote h

to-session : (b : Bool) (base : Base) (body : Body) (word : Word) (wrote : List Apdu) → Sourced wrote body.sending → ReactsSo wrote (react_to_session b base body word)
to-session true base body word wrote h = on-word base body word (fault_above base body word) wrote h
to-session false base body word wrote h =
    either wrote (not (is_joined body.link.stage || is_carrying body.link.stage)) (fails body body.link.accepted transport_fault) _ h
    (either wrote (is_purged base.initiator body.link.awaits (unit_of word)) Passes (on_word base body word (word_fault base body word)) tt (on-word base body word (word_fault base body word) wrote h))

alive : (base : Base) (body : Body) (message : Message) (wrote : List Apdu) → Sourced wrote body.sending → ReactsSo wrote (react_alive base body message)
alive base body (Transport unit) wrote h =
    either wrote (is_transport_purged body.link.awaits) Passes (on_transport base body unit (transport_unit_fault base body unit)) tt (on-transport base body unit (transport_unit_fault base body unit) wrote h)
alive base body (Session word) wrote h = to-session (is_bare base.mode) base body word wrote h

reacts-so : (base : Base) (body : Body) (message : Message) (wrote : List Apdu) → Sourced wrote body.sending → ReactsSo wrote (react base body message)
reacts-so base body message wrote h = either wrote (passes_over body.link.phase) Passes (react_alive base body message) tt (alive base body message wrote h)

taken-so : (base : Base) (body : Body) (message : Message) (later : Body) (answers : List Message) (shown : List Indication) (wrote : List Apdu) → react base body message ≡ Takes later answers shown → Sourced wrote body.sending → Sourced (rejects_in shown ++ wrote) later.sending
taken-so base body message later answers shown wrote h k = subst (ReactsSo wrote) h (reacts-so base body message wrote k)

failed-so : (base : Base) (body : Body) (message : Message) (fault : Fault) (later : Body) (aborts : List Message) (shown : List Indication) (wrote : List Apdu) → react base body message ≡ Fails fault later aborts shown → Sourced wrote body.sending → Sourced wrote later.sending
failed-so base body message fault later aborts shown wrote h k = subst (ReactsSo wrote) h (reacts-so base body message wrote k)

-- ---- two ends

pub record Source (wrote : List Apdu) (body : Body) (encoded : List Encoding) : Type 0 where
  pub sends : Sourced wrote body.sending
  pub encodes : EncodedIn wrote encoded

pub source : (common : Common) (two : Two) (ledger : Ledger) (exchanges : Exchanges) → ReachedWithExchanges common two ledger exchanges → (role : Role) → Source (exchange_of role exchanges).wrote (body_at role two) (transfer_log_of role ledger.transfer_logs).encoded
source common two ledger exchanges begins Initiator = record { sends = record { waiting = tt; going = tt }; encodes = tt }
source common two ledger exchanges begins Responder = record { sends = record { waiting = tt; going = tt }; encodes = tt }
source common two ledger exchanges (calls x l d Initiator call answer reached h) Initiator =
    let s = source common x l d reached Initiator in
    record { sends = called-so common.mode (base_at Initiator common) x.a call answer d.a.wrote s.sends; encodes = encoded-more (apdus_of (base_at Initiator common) x.a call answer) d.a.wrote (transfer_log_of Initiator l.transfer_logs).encoded s.encodes }
source common two ledger exchanges (calls x l d Responder call answer reached h) Initiator = source common x l d reached Initiator
source common two ledger exchanges (acts x l d Initiator own reached h) Initiator =
    let s = source common x l d reached Initiator in
    record { sends = acted-so (base_at Initiator common) x.a own d.a.wrote s.sends; encodes = encoded-so x.a l.shared.set own d.a.wrote (transfer_log_of Initiator l.transfer_logs).encoded s.sends s.encodes }
source common two ledger exchanges (acts x l d Responder own reached h) Initiator = source common x l d reached Initiator
source common two ledger exchanges (takes x l d Initiator message left body answers shown reached comes h) Initiator =
    let s = source common x l d reached Initiator in
    record { sends = taken-so (base_at Initiator common) x.a message body answers shown d.a.wrote h s.sends; encodes = encoded-more (rejects_in shown) d.a.wrote (transfer_log_of Initiator l.transfer_logs).encoded s.encodes }
source common two ledger exchanges (takes x l d Responder message left body answers shown reached comes h) Initiator = source common x l d reached Initiator
source common two ledger exchanges (passes x l d Initiator message left reached comes h) Initiator = source common x l d reached Initiator
source common two ledger exchanges (passes x l d Responder message left reached comes h) Initiator = source common x l d reached Initiator
source common two ledger exchanges (aborts_of_itself x l d Initiator message left fault body aborts shown reached comes h) Initiator =
    let s = source common x l d reached Initiator in
    record { sends = failed-so (base_at Initiator common) x.a message fault body aborts shown d.a.wrote h s.sends; encodes = s.encodes }
source common two ledger exchanges (aborts_of_itself x l d Responder message left fault body aborts shown reached comes h) Initiator = source common x l d reached Initiator
source common two ledger exchanges (breaks x l d reached) Initiator =
    let s = source common x l d reached Initiator in
    record { sends = broke-so (base_at Initiator common) x.a d.a.wrote s.sends; encodes = s.encodes }
source common two ledger exchanges (calls x l d Responder call answer reached h) Responder =
    let s = source common x l d reached Responder in
    record { sends = called-so common.mode (base_at Responder common) x.b call answer d.b.wrote s.sends; encodes = encoded-more (apdus_of (base_at Responder common) x.b call answer) d.b.wrote (transfer_log_of Responder l.transfer_logs).encoded s.encodes }
source common two ledger exchanges (calls x l d Initiator call answer reached h) Responder = source common x l d reached Responder
source common two ledger exchanges (acts x l d Responder own reached h) Responder =
    let s = source common x l d reached Responder in
    record { sends = acted-so (base_at Responder common) x.b own d.b.wrote s.sends; encodes = encoded-so x.b l.shared.set own d.b.wrote (transfer_log_of Responder l.transfer_logs).encoded s.sends s.encodes }
source common two ledger exchanges (acts x l d Initiator own reached h) Responder = source common x l d reached Responder
source common two ledger exchanges (takes x l d Responder message left body answers shown reached comes h) Responder =
    let s = source common x l d reached Responder in
    record { sends = taken-so (base_at Responder common) x.b message body answers shown d.b.wrote h s.sends; encodes = encoded-more (rejects_in shown) d.b.wrote (transfer_log_of Responder l.transfer_logs).encoded s.encodes }
source common two ledger exchanges (takes x l d Initiator message left body answers shown reached comes h) Responder = source common x l d reached Responder
source common two ledger exchanges (passes x l d Initiator message left reached comes h) Responder = source common x l d reached Responder
source common two ledger exchanges (passes x l d Responder message left reached comes h) Responder = source common x l d reached Responder
source common two ledger exchanges (aborts_of_itself x l d Responder message left fault body aborts shown reached comes h) Responder =
    let s = source common x l d reached Responder in
    record { sends = failed-so (base_at Responder common) x.b message fault body aborts shown d.b.wrote h s.sends; encodes = s.encodes }
source common two ledger exchanges (aborts_of_itself x l d Initiator message left fault body aborts shown reached comes h) Responder = source common x l d reached Responder
source common two ledger exchanges (breaks x l d reached) Responder =
    let s = source common x l d reached Responder in
    record { sends = broke-so (base_at Responder common) x.b d.b.wrote s.sends; encodes = s.encodes }
