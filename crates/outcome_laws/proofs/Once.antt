-- One outcome: whatever two ends reach, what is open wasn't told, and nothing was told twice.
use Rattle.std.proofs.Common.{◌≡◌, refl, ◌∙◌, sym, subst, ℕ, suc, List, [], ◌∷◌, ◌++◌}
use Rattle.std.specs.Prelude.{ℤ, pos, Bool, true, false, ◌||◌, Option, Some, None, Ok, if◌then◌else◌}
use Rattle.asn1_types.specs.declared.value.Val.{Val}
use Rattle.stub_tables.specs.declared.apdu.Apdu.{Apdu}
use Rattle.stub_tables.specs.declared.operation.Operation.{Operation}
use Rattle.stub_tables.specs.Lookup.{operation_at, error_at}
use Rattle.dialogue.specs.declared.config.Mode.{Mode}
use Rattle.dialogue.specs.declared.config.Mode.TheVariants.{Bare, Direct, Reliable}
use Rattle.dialogue.specs.declared.call.Call.{Call}
use Rattle.dialogue.specs.declared.call.Call.TheVariants as the_calls
use Rattle.dialogue.specs.declared.call.CallRefusal.TheVariants as refusals
use Rattle.dialogue.specs.declared.indication.Indication.{Indication}
use Rattle.end_model.specs.end_rules.Base.{Base, Fault, is_reliable}
use Rattle.end_model.specs.end_rules.Messages.{DataValue, Message, Transport, Session, Word, OfAssociation, OfData, OfMarks, OfActivities, TransportUnit, ConnectionRequest, ConnectionConfirm, DisconnectRequest, TransportError}
use Rattle.end_model.specs.end_rules.Messages.{AssociationWord, Connect, Accept, Refuse, Finish, Disconnect, Abort, AbortAccept, DataWord, Values, AlterContext, AlterContextAck}
use Rattle.end_model.specs.end_rules.Messages.{MarkWord, Mark, MarkAck, Restart, RestartAck, Give, Please, GiveConfirm, GiveAck, ActivityWord, Start, Resume, End, EndAck, Interrupt, InterruptAck, Discard, DiscardAck}
use Rattle.end_model.specs.end_rules.State.{Body, OpenCall, Calls, opened_with, cut_all}
use Rattle.end_model.specs.end_rules.Invoking.{next_id, can_invoke_operation, is_stopped}
use Rattle.end_model.specs.end_rules.Connecting.{is_refused, recovers_in}
use Rattle.end_model.specs.end_rules.Calling.{can_call}
use Rattle.end_model.specs.end_rules.Requesting.{handed_in, invoking, after_invoke, answering, after_outcome, result_in, error_for, after_accepted, due_of, mark_sent, values_sent, after_sent_association, after_sent_data, after_sent_mark, after_sent_activity, after_sent_word, after_sent_transport, after_sent}
use Rattle.end_model.specs.end_rules.ByItself.{OwnAct, SendsNow, EncodesOn}
use Rattle.end_model.specs.end_rules.Reacting.{Takes, Fails, react}
use Rattle.end_model.specs.end_rules.History.{after_step, step_of, after_broke, off_line}
use Rattle.agreement.specs.Sets.{Role}
use Rattle.agreement.specs.Sets.Role.{Initiator, Responder}
use Rattle.end_model.specs.Rows.{at}
use Rattle.end_model.specs.Requests.{sent_all, after_called}
use Rattle.end_model.specs.BothEnds.{Common, base_at, Two, body_at}
use Rattle.end_model.proofs.Ladder.{called, passed}
use Rattle.end_model.proofs.InvokeRungs.{invokable}
use Rattle.end_model.proofs.HandingRows.{next-is}
use Rattle.reliable_model.specs.Ledgers.{Ledger}
use Rattle.outcome_laws.specs.Exchanges.{Asked, asked_by, Exchanges, exchange_of, still_after, ReachedWithExchanges, begins, calls, acts, takes, passes, fails, breaks}
use Rattle.outcome_laws.specs.Outcomes.{OneOutcome, OutcomesAreAllowed}
use Rattle.outcome_laws.proofs.Open.{Once, once-new, once-cut, once-close, once-asked, once-own}
use Rattle.outcome_laws.proofs.Words.{ReactsOnce, reacts-once}

-- ---- what is sent opens and closes nothing

association-sent : (body : Body) (word : AssociationWord) → (after_sent_association body word).calls ≡ body.calls
association-sent body (Connect session presentation values) = refl
association-sent body (Accept session presentation values) = refl
association-sent body (Refuse transport reason presentation values) = refl
association-sent body (Finish transport values) = refl
association-sent body (Disconnect values) = refl
association-sent body (Abort transport user) = refl
association-sent body AbortAccept = refl

values-sent : (mode : Mode) (values : List DataValue) (body : Body) → (values_sent mode values body).calls ≡ body.calls
values-sent Reliable values body = refl
values-sent Direct values body = refl
values-sent Bare values body = refl

data-sent : (mode : Mode) (body : Body) (word : DataWord) → (after_sent_data mode body word).calls ≡ body.calls
data-sent mode body (Values values) = values-sent mode values body
data-sent mode body (AlterContext add delete) = refl
data-sent mode body (AlterContextAck answers) = refl

mark-sent : (mode : Mode) (number : ℕ) (body : Body) → (mark_sent mode number body).calls ≡ body.calls
mark-sent Reliable number body = refl
mark-sent Direct number body = refl
mark-sent Bare number body = refl

marks-sent : (mode : Mode) (body : Body) (word : MarkWord) → (after_sent_mark mode body word).calls ≡ body.calls
marks-sent mode body (Mark number) = mark-sent mode number body
marks-sent mode body (MarkAck number) = refl
marks-sent mode body (Restart number list) = refl
marks-sent mode body (RestartAck number list) = refl
marks-sent mode body (Give tokens) = refl
marks-sent mode body (Please tokens values) = refl
marks-sent mode body GiveConfirm = refl
marks-sent mode body GiveAck = refl

activities-sent : (body : Body) (word : ActivityWord) → (after_sent_activity body word).calls ≡ body.calls
activities-sent body (Start activity) = refl
activities-sent body (Resume activity mark) = refl
activities-sent body (End number) = refl
activities-sent body (EndAck number) = refl
activities-sent body (Interrupt reason) = refl
activities-sent body InterruptAck = refl
activities-sent body (Discard reason) = refl
activities-sent body DiscardAck = refl

word-sent : (mode : Mode) (body : Body) (word : Word) → (after_sent_word mode body word).calls ≡ body.calls
word-sent mode body (OfAssociation word) = association-sent body word
word-sent mode body (OfData word) = data-sent mode body word
word-sent mode body (OfMarks word) = marks-sent mode body word
word-sent mode body (OfActivities word) = activities-sent body word

transport-sent : (body : Body) (unit : TransportUnit) → (after_sent_transport body unit).calls ≡ body.calls
transport-sent body (ConnectionRequest source size calling called) = refl
transport-sent body (ConnectionConfirm destination size) = refl
transport-sent body (DisconnectRequest destination) = refl
transport-sent body TransportError = refl

message-sent : (mode : Mode) (body : Body) (message : Message) → (after_sent mode body message).calls ≡ body.calls
message-sent mode body (Transport unit) = transport-sent body unit
message-sent mode body (Session word) = word-sent mode body word

all-sent : (mode : Mode) (body : Body) (messages : List Message) → (sent_all mode body messages).calls ≡ body.calls
all-sent mode body [] = refl
all-sent mode body (message ∷ messages) = all-sent mode (after_sent mode body message) messages ∙ message-sent mode body message

-- ---- calls

handed-kept : (mode : Mode) (context : ℕ) (apdu : Apdu) (body : Body) → (handed_in mode context apdu body).calls ≡ body.calls
handed-kept Reliable context apdu body = refl
handed-kept Direct context apdu body = refl
handed-kept Bare context apdu body = refl

invoked : (base : Base) (body : Body) (context place : ℕ) (id : ℤ) (linked : Option ℤ) (o : Option Operation) (argument : Option Val) (asked : List Asked) (told : List Indication) → id ≡ pos (suc body.calls.made) → Once base.tables asked body.calls told → Once base.tables (record { id = id; operation = place } ∷ asked) (after_invoke base body context place id linked o argument).calls told
invoked base body context place id linked None argument asked told e h = once-asked base.tables asked (record { id = id; operation = place } ∷ []) body.calls told h
invoked base body context place id linked (Some operation) argument asked told e h =
    subst (λ (c : Calls). Once base.tables (record { id = id; operation = place } ∷ asked) c told) (sym (handed-kept base.mode context _ (invoking base context place id linked body)))
    (once-own base.tables base (record { own = true; id = id; operation = place; context = context; parent = linked }) asked body.calls told refl e h)

answered : (base : Base) (body : Body) (id : ℤ) (o : Option OpenCall) (apdu : Option Apdu) (asked : List Asked) (told : List Indication) → Once base.tables asked body.calls told → Once base.tables asked (after_outcome base body id o apdu).calls told
answered base body id (Some o) (Some apdu) asked told h =
    subst (λ (c : Calls). Once base.tables asked c told) (sym (handed-kept base.mode o.context apdu (answering id body))) (once-close base.tables false id asked body.calls told h)
answered base body id (Some o) None asked told h = h
answered base body id None apdu asked told h = h

-- an accepted Invoke is given the next number
next-given : (base : Base) (body : Body) (context place : ℕ) (argument : Option Val) (linked : Option ℤ) (id : ℤ) → can_call base body (the_calls.Invoke context place argument linked) ≡ Ok (Some id) → id ≡ pos (suc body.calls.made)
next-given base body context place argument linked id h =
    let c = called base body (the_calls.Invoke context place argument linked) (Some id) h in
    let s = passed (is_stopped base body) refusals.Waiting (can_invoke_operation base body context place (operation_at base.tables place) argument linked) (Some id) c.rows in
    let i = invokable base body context place (operation_at base.tables place) argument linked (Some id) s.later in
    let e : id ≡ next_id body = cc (i.sends.next) in
    e ∙ next-is body i.sends.numbers

accepted-once : (base : Base) (body : Body) (call : Call) (answer : Option ℤ) (asked : List Asked) (told : List Indication) → can_call base body call ≡ Ok answer → Once base.tables asked body.calls told → Once base.tables (asked_by call answer ++ asked) (after_accepted base body call answer).calls told
accepted-once base body (the_calls.Invoke context operation argument linked) (Some id) asked told h k =
    invoked base body context operation id linked (operation_at base.tables operation) argument asked told (next-given base body context operation argument linked id h) k
accepted-once base body (the_calls.Invoke context operation argument linked) None asked told h k = k
accepted-once base body (the_calls.Answer id result) answer asked told h k = answered base body id (opened_with false id body.calls.opens) (result_in base body id result) asked told k
accepted-once base body (the_calls.Refuse id error parameter) answer asked told h k = answered base body id (opened_with false id body.calls.opens) (error_for id parameter (error_at base.tables error)) asked told k
accepted-once base body the_calls.Open answer asked told h k = k
accepted-once base body the_calls.Recover answer asked told h k = k
accepted-once base body the_calls.Abort answer asked told h k = once-cut base.tables asked body.calls told k
accepted-once base body (the_calls.Alter add delete) answer asked told h k = k
accepted-once base body the_calls.Mark answer asked told h k = k
accepted-once base body the_calls.Give answer asked told h k = k
accepted-once base body (the_calls.Please priority) answer asked told h k = k
accepted-once base body (the_calls.Resync n) answer asked told h k = k
accepted-once base body the_calls.Interrupt answer asked told h k = k
accepted-once base body the_calls.Resume answer asked told h k = k
accepted-once base body the_calls.Discard answer asked told h k = k
accepted-once base body the_calls.Release answer asked told h k = k

called-once : (mode : Mode) (base : Base) (body : Body) (call : Call) (answer : Option ℤ) (asked : List Asked) (told : List Indication) → can_call (at mode base) body call ≡ Ok answer → Once base.tables asked body.calls told → Once base.tables (asked_by call answer ++ asked) (after_called mode base body call answer).calls told
called-once mode base body call answer asked told h k =
    subst (λ (c : Calls). Once base.tables (asked_by call answer ++ asked) c told) (sym (all-sent mode (after_accepted (at mode base) body call answer) (due_of (at mode base) body call (Ok answer))))
    (accepted-once (at mode base) body call answer asked told h k)

-- ---- own acts and breaks

acted-once : (base : Base) (body : Body) (own : OwnAct) (asked : List Asked) (told : List Indication) → Once base.tables asked body.calls told → Once base.tables asked (after_step base body (step_of own)).calls told
acted-once base body (SendsNow message) asked told h = subst (λ (c : Calls). Once base.tables asked c told) (sym (message-sent base.mode body message)) h
acted-once base body (EncodesOn context) asked told h = h

broke-once : (base : Base) (body : Body) (asked : List Asked) (told : List Indication) → Once base.tables asked body.calls told → Once base.tables asked (after_broke base body).calls told
broke-once base body asked told h = go (is_reliable base.mode)
  where
    go : (b : Bool) → Once base.tables asked (if b then off_line base body else cut_all (off_line base body)).calls told
    go true = h
    go false = once-cut base.tables asked body.calls told h

-- ---- takings

taken-once : (base : Base) (body : Body) (message : Message) (later : Body) (answers : List Message) (asked : List Asked) (told shown : List Indication) → react base body message ≡ Takes later answers shown → Once base.tables asked body.calls told → Once base.tables (still_after base body message asked) later.calls (still_after base body message told ++ shown)
taken-once base body message later answers asked told shown h k = subst (ReactsOnce base body message asked told) h (reacts-once base body message asked told k)

failed-once : (base : Base) (body : Body) (message : Message) (fault : Fault) (later : Body) (aborts : List Message) (asked : List Asked) (told shown : List Indication) → react base body message ≡ Fails fault later aborts shown → Once base.tables asked body.calls told → Once base.tables asked later.calls told
failed-once base body message fault later aborts asked told shown h k = subst (ReactsOnce base body message asked told) h (reacts-once base body message asked told k)

-- ---- two ends

-- what was told stays, or begins anew, with what was shown
abbrev pub keeps : Base → Body → Message → Bool
keeps base body (Session (OfAssociation (Connect session presentation values))) = is_refused base body session presentation values || recovers_in base values
keeps base body message = true

pub still-keeps : {X : Type 0} (base : Base) (body : Body) (message : Message) (xs : List X) → still_after base body message xs ≡ (if keeps base body message then xs else [])
still-keeps base body (Transport unit) xs = refl
still-keeps base body (Session (OfData word)) xs = refl
still-keeps base body (Session (OfMarks word)) xs = refl
still-keeps base body (Session (OfActivities word)) xs = refl
still-keeps base body (Session (OfAssociation (Accept session presentation values))) xs = refl
still-keeps base body (Session (OfAssociation (Refuse transport reason presentation values))) xs = refl
still-keeps base body (Session (OfAssociation (Finish transport values))) xs = refl
still-keeps base body (Session (OfAssociation (Disconnect values))) xs = refl
still-keeps base body (Session (OfAssociation (Abort transport user))) xs = refl
still-keeps base body (Session (OfAssociation AbortAccept)) xs = refl
still-keeps base body (Session (OfAssociation (Connect session presentation values))) xs = refl

pub once : (common : Common) (two : Two) (ledger : Ledger) (exchanges : Exchanges) → ReachedWithExchanges common two ledger exchanges → (role : Role) → Once common.tables (exchange_of role exchanges).asked (body_at role two).calls (exchange_of role exchanges).shown
once common two ledger exchanges begins Initiator = once-new common.tables
once common two ledger exchanges begins Responder = once-new common.tables
once common two ledger exchanges (calls x l d Initiator call answer reached h) Initiator = called-once common.mode (base_at Initiator common) x.a call answer d.a.asked d.a.shown h (once common x l d reached Initiator)
once common two ledger exchanges (calls x l d Responder call answer reached h) Responder = called-once common.mode (base_at Responder common) x.b call answer d.b.asked d.b.shown h (once common x l d reached Responder)
once common two ledger exchanges (calls x l d Initiator call answer reached h) Responder = once common x l d reached Responder
once common two ledger exchanges (calls x l d Responder call answer reached h) Initiator = once common x l d reached Initiator
once common two ledger exchanges (acts x l d Initiator own reached h) Initiator = acted-once (base_at Initiator common) x.a own d.a.asked d.a.shown (once common x l d reached Initiator)
once common two ledger exchanges (acts x l d Responder own reached h) Responder = acted-once (base_at Responder common) x.b own d.b.asked d.b.shown (once common x l d reached Responder)
once common two ledger exchanges (acts x l d Initiator own reached h) Responder = once common x l d reached Responder
once common two ledger exchanges (acts x l d Responder own reached h) Initiator = once common x l d reached Initiator
once common two ledger exchanges (takes x l d Initiator message left body answers shown reached comes h) Initiator = taken-once (base_at Initiator common) x.a message body answers d.a.asked d.a.shown shown h (once common x l d reached Initiator)
once common two ledger exchanges (takes x l d Responder message left body answers shown reached comes h) Responder = taken-once (base_at Responder common) x.b message body answers d.b.asked d.b.shown shown h (once common x l d reached Responder)
once common two ledger exchanges (takes x l d Initiator message left body answers shown reached comes h) Responder = once common x l d reached Responder
once common two ledger exchanges (takes x l d Responder message left body answers shown reached comes h) Initiator = once common x l d reached Initiator
once common two ledger exchanges (passes x l d Initiator message left reached comes h) Initiator = once common x l d reached Initiator
once common two ledger exchanges (passes x l d Initiator message left reached comes h) Responder = once common x l d reached Responder
once common two ledger exchanges (passes x l d Responder message left reached comes h) Initiator = once common x l d reached Initiator
once common two ledger exchanges (passes x l d Responder message left reached comes h) Responder = once common x l d reached Responder
once common two ledger exchanges (fails x l d Initiator message left fault body aborts shown reached comes h) Initiator = failed-once (base_at Initiator common) x.a message fault body aborts d.a.asked d.a.shown shown h (once common x l d reached Initiator)
once common two ledger exchanges (fails x l d Responder message left fault body aborts shown reached comes h) Responder = failed-once (base_at Responder common) x.b message fault body aborts d.b.asked d.b.shown shown h (once common x l d reached Responder)
once common two ledger exchanges (fails x l d Initiator message left fault body aborts shown reached comes h) Responder = once common x l d reached Responder
once common two ledger exchanges (fails x l d Responder message left fault body aborts shown reached comes h) Initiator = once common x l d reached Initiator
once common two ledger exchanges (breaks x l d reached) Initiator = broke-once (base_at Initiator common) x.a d.a.asked d.a.shown (once common x l d reached Initiator)
once common two ledger exchanges (breaks x l d reached) Responder = broke-once (base_at Responder common) x.b d.b.asked d.b.shown (once common x l d reached Responder)

pub one-outcome : OneOutcome
one-outcome common two ledger exchanges reached role = (once common two ledger exchanges reached role).distinct

pub outcomes-are-allowed : OutcomesAreAllowed
outcomes-are-allowed common two ledger exchanges reached role = (once common two ledger exchanges reached role).allowed
