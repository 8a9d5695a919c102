-- What an end of reliable mode hands in joins its queue, in the order of its numbers, and so do rejects; what calls, takings and its own acts
-- make of the queue.
use Rattle.std.proofs.Common.{◌≡◌, refl, true, false, ◌∙◌, sym, ap, subst, ℕ, suc, List, [], ◌∷◌, ◌++◌, inl}
use Rattle.std.specs.Prelude.{ℤ, pos, Bool, Option, Some, None, Ok, if◌then◌else◌}
use Rattle.std.proofs.lemmas.List.{append-nil, append_assoc}
use Rattle.asn1_types.specs.declared.value.Val.{Val}
use Rattle.osi_base.specs.declared.layer_words.Answers.{Answers}
use Rattle.stub_tables.specs.declared.tables.Tables.{Tables}
use Rattle.stub_tables.specs.declared.operation.Operation.{Operation}
use Rattle.stub_tables.specs.declared.apdu.Apdu.{Apdu}
use Rattle.stub_tables.specs.declared.apdu.Apdu.TheVariants as apdus
use Rattle.stub_tables.specs.Lookup.{operation_at, error_at}
use Rattle.stub_tables.proofs.OwnCodes.{own_codes}
use Rattle.dialogue.specs.declared.config.Mode.TheVariants.{Reliable}
use Rattle.dialogue.specs.declared.call.Call.{Call}
use Rattle.dialogue.specs.declared.call.Call.TheVariants as the_calls
use Rattle.dialogue.specs.declared.call.CallRefusal.TheVariants as refusals
use Rattle.end_rules.specs.Base.{Base}
use Rattle.end_rules.specs.Sets.{Alteration}
use Rattle.end_rules.specs.Messages.{DataValue, Session, Word, OfAssociation, OfData, OfMarks, OfActivities, TransportUnit, ConnectionRequest, ConnectionConfirm, DisconnectRequest, TransportError}
use Rattle.end_rules.specs.Messages.{Connect, Accept, Refuse, Finish, Disconnect, Abort, AbortAccept, Values, AlterContext, AlterContextAck, Mark, MarkAck, Restart, RestartAck, Give, Please, GiveConfirm, GiveAck}
use Rattle.end_rules.specs.Messages.{Start, Resume, End, EndAck, Interrupt, InterruptAck, Discard, DiscardAck}
use Rattle.end_rules.specs.State.{Body, Calls, OpenCall, Octets, Queued, opened_with, is_carrying}
use Rattle.end_rules.specs.Faults.{over}
use Rattle.end_rules.specs.Writing.{user_abort}
use Rattle.end_rules.specs.Invoking.{invoke_apdu, is_stopped, can_invoke_operation, next_id}
use Rattle.end_rules.specs.Hearing.{Rejecting, hear, head_of, reject_apdu, with_reject, take_head, take_values}
use Rattle.end_rules.specs.Calling.{can_call}
use Rattle.end_rules.specs.Requesting.{due_invoke, due_outcome, after_invoke, after_outcome, result_in, error_for, operation_opened}
use Rattle.end_rules.specs.TakesTransport.{after_transport}
use Rattle.end_rules.specs.TakesData.{part_in, with_parts, settled}
use Rattle.end_rules.specs.TakesActivities.{handed_up, received, invocation_in, cut_invocation}
use Rattle.end_rules.specs.Reacting.{after_word}
use Rattle.end_model.specs.Rows.{at}
use Rattle.end_model.specs.Requests.{sent_all, after_called}
use Rattle.end_model.proofs.Ladder.{called, passed}
use Rattle.end_model.proofs.InvokeRungs.{invokable}
use Rattle.end_model.proofs.HandingRows.{next-is}
use Rattle.outcome_laws.specs.Exchanges.{Asked, asked_by}
use Rattle.run_laws.specs.Outcomes.{Invocation, ToldOutcome, returned, failed, invoked_by, answered_by}
use Rattle.association_runs.proofs.Noted.{in-behind, IsOurs, ours-on, AreMade, made-on}
use Rattle.run_lemmas.proofs.Numbers.{apdu_invokes, IsGood, good-next, good-none}
use Rattle.run_lemmas.proofs.Handing.{result-kind, result-ours, error-kind, error-ours, opened-made, hear-made}
use Rattle.run_lemmas.proofs.Openings.{IsConnect}
use Rattle.run_lemmas.proofs.Calling.{asks-none}

-- ---- items that an end handed in, and rejects of its own

abbrev pub QueueOurs : Tables → List Invocation → List ToldOutcome → List Queued → Type 0
QueueOurs tables made given [] = Unit {0}
QueueOurs tables made given (item ∷ items) = IsOurs tables made given item.apdu × QueueOurs tables made given items

pub queue-on : (tables : Tables) (made more : List Invocation) (given later : List ToldOutcome) (items : List Queued) → QueueOurs tables made given items → QueueOurs tables (made ++ more) (given ++ later) items
queue-on tables made more given later [] h = tt
queue-on tables made more given later (item ∷ items) h = (ours-on tables made more given later item.apdu h.0, queue-on tables made more given later items h.1)

pub queue-append : (tables : Tables) (made : List Invocation) (given : List ToldOutcome) (xs ys : List Queued) → QueueOurs tables made given xs → QueueOurs tables made given ys → QueueOurs tables made given (xs ++ ys)
queue-append tables made given [] ys h k = k
queue-append tables made given (x ∷ xs) ys h k = (h.0, queue-append tables made given xs ys h.1 k)

-- the identifiers of the invocations that wait
abbrev pub queue_invokes : List Queued → List ℤ
queue_invokes [] = []
queue_invokes (item ∷ items) = apdu_invokes item.apdu ++ queue_invokes items

pub invokes-append : (xs ys : List Queued) → queue_invokes (xs ++ ys) ≡ queue_invokes xs ++ queue_invokes ys
invokes-append [] ys = refl
invokes-append (x ∷ xs) ys = ap (λ (l : List ℤ). apdu_invokes x.apdu ++ l) (invokes-append xs ys) ∙ sym (append_assoc (apdu_invokes x.apdu) (queue_invokes xs) (queue_invokes ys))

-- rejects alone
abbrev IsReject : Apdu → Type 0
IsReject (apdus.Reject id problem) = Unit {0}
IsReject apdu = ⊥

abbrev pub AreRejects : List Queued → Type 0
AreRejects [] = Unit {0}
AreRejects (item ∷ items) = IsReject item.apdu × AreRejects items

rejects-append : (xs ys : List Queued) → AreRejects xs → AreRejects ys → AreRejects (xs ++ ys)
rejects-append [] ys h k = k
rejects-append (x ∷ xs) ys h k = (h.0, rejects-append xs ys h.1 k)

pub rejects-ours : (tables : Tables) (made : List Invocation) (given : List ToldOutcome) (items : List Queued) → AreRejects items → QueueOurs tables made given items
rejects-ours tables made given [] h = tt
rejects-ours tables made given (item ∷ items) h = (one item.apdu h.0, rejects-ours tables made given items h.1)
  where
    one : (apdu : Apdu) → IsReject apdu → IsOurs tables made given apdu
    one (apdus.Reject id problem) h = tt
    one apdu h = absurd h

pub rejects-invoke : (items : List Queued) → AreRejects items → queue_invokes items ≡ []
rejects-invoke [] h = refl
rejects-invoke (item ∷ items) h = ap (λ (l : List ℤ). l ++ queue_invokes items) (one item.apdu h.0) ∙ rejects-invoke items h.1
  where
    one : (apdu : Apdu) → IsReject apdu → apdu_invokes apdu ≡ []
    one (apdus.Reject id problem) h = refl
    one apdu h = absurd h

-- ---- calls

-- what a call adds to the queue, and which numbers it gives
pub record CallQueues (base : Base) (body : Body) (call : Call) (answer : Option ℤ) : Type 0 where
  pub more : List Queued
  pub queue : (after_called Reliable base body call answer).sending.queue ≡ body.sending.queue ++ more
  pub ours : (made : List Invocation) (given : List ToldOutcome) → QueueOurs base.tables (made ++ invoked_by call (Ok answer)) (given ++ answered_by call (Ok answer)) more
  pub numbers : (xs : List ℤ) → IsGood body.calls.made xs → IsGood (after_called Reliable base body call answer).calls.made (xs ++ queue_invokes more)
  pub asks : (made : List Invocation) (asked : List Asked) → AreMade base.tables made asked → AreMade base.tables (made ++ invoked_by call (Ok answer)) (asked_by call answer ++ asked)

module _ (base : Base) (body : Body) where
  -- one that hands nothing in
  queues-none : (call : Call) (answer : Option ℤ) → asked_by call answer ≡ [] → (after_called Reliable base body call answer).sending.queue ≡ body.sending.queue → (after_called Reliable base body call answer).calls.made ≡ body.calls.made → CallQueues base body call answer
  queues-none call answer e q m = record {
    more = [];
    queue = q ∙ sym (append-nil body.sending.queue);
    ours = λ made given. tt;
    numbers = λ xs g. subst (λ (k : ℕ). IsGood k (xs ++ [])) (sym m) (good-none body.calls.made xs g);
    asks = λ made asked x. asks-none base.tables call answer e made asked x;
  }

  abbrev invoking : ℕ → ℕ → ℤ → Option ℤ → Option Val → Option Operation → Body
  invoking context place id link argument o = sent_all Reliable (after_invoke (at Reliable base) body context place id link o argument) (due_invoke (at Reliable base) body context id link o argument)

  abbrev outcome_of : ℤ → Option OpenCall → Option Apdu → Body
  outcome_of id o x = sent_all Reliable (after_outcome (at Reliable base) body id o x) (due_outcome (at Reliable base) body o x)

  -- the outcome that joins the queue
  abbrev outcome_items : Option OpenCall → Option Apdu → List Queued
  outcome_items (Some o) (Some apdu) = record { context = o.context; apdu = apdu } ∷ []
  outcome_items o x = []

  outcome-queue : (id : ℤ) (o : Option OpenCall) (x : Option Apdu) → (outcome_of id o x).sending.queue ≡ body.sending.queue ++ outcome_items o x
  outcome-queue id None None = sym (append-nil body.sending.queue)
  outcome-queue id None (Some apdu) = sym (append-nil body.sending.queue)
  outcome-queue id (Some o) None = sym (append-nil body.sending.queue)
  outcome-queue id (Some o) (Some apdu) = refl

  outcome-made : (id : ℤ) (o : Option OpenCall) (x : Option Apdu) → (outcome_of id o x).calls.made ≡ body.calls.made
  outcome-made id None None = refl
  outcome-made id None (Some apdu) = refl
  outcome-made id (Some o) None = refl
  outcome-made id (Some o) (Some apdu) = refl

  outcome-ours : (made : List Invocation) (given : List ToldOutcome) (o : Option OpenCall) (x : Option Apdu) → ((apdu : Apdu) → x ≡ Some apdu → IsOurs base.tables made given apdu) → QueueOurs base.tables made given (outcome_items o x)
  outcome-ours made given None None f = tt
  outcome-ours made given None (Some apdu) f = tt
  outcome-ours made given (Some o) None f = tt
  outcome-ours made given (Some o) (Some apdu) f = (f apdu refl, tt)

  outcome-none : (o : Option OpenCall) (x : Option Apdu) → ((apdu : Apdu) → x ≡ Some apdu → apdu_invokes apdu ≡ []) → queue_invokes (outcome_items o x) ≡ []
  outcome-none None None f = refl
  outcome-none None (Some apdu) f = refl
  outcome-none (Some o) None f = refl
  outcome-none (Some o) (Some apdu) f = append-nil (apdu_invokes apdu) ∙ f apdu refl

  -- an outcome has no number of an invocation
  outcome-numbers : (id : ℤ) (o : Option OpenCall) (x : Option Apdu) → ((apdu : Apdu) → x ≡ Some apdu → apdu_invokes apdu ≡ []) → (xs : List ℤ) → IsGood body.calls.made xs → IsGood (outcome_of id o x).calls.made (xs ++ queue_invokes (outcome_items o x))
  outcome-numbers id o x f xs g =
      subst (λ (l : List ℤ). IsGood (outcome_of id o x).calls.made (xs ++ l)) (sym (outcome-none o x f))
      (subst (λ (k : ℕ). IsGood k (xs ++ [])) (sym (outcome-made id o x)) (good-none body.calls.made xs g))

  abort-same : (c : Bool) → ((sent_all Reliable (over body) (if c then user_abort body.link.accepted 0 [] ∷ [] else [])).sending.queue ≡ body.sending.queue) × ((sent_all Reliable (over body) (if c then user_abort body.link.accepted 0 [] ∷ [] else [])).calls.made ≡ body.calls.made)
  abort-same true = (refl, refl)
  abort-same false = (refl, refl)

  pub call-queues : (call : Call) (answer : Option ℤ) → can_call (at Reliable base) body call ≡ Ok answer → CallQueues base body call answer
  call-queues the_calls.Open answer can = queues-none the_calls.Open answer refl refl refl
  call-queues (the_calls.Invoke context operation argument link) None can = queues-none (the_calls.Invoke context operation argument link) None refl refl refl
  call-queues (the_calls.Invoke context operation argument link) (Some id) can =
      let c = called (at Reliable base) body (the_calls.Invoke context operation argument link) (Some id) can in
      let s = passed (is_stopped (at Reliable base) body) refusals.Waiting (can_invoke_operation (at Reliable base) body context operation (operation_at base.tables operation) argument link) (Some id) c.rows in
      let i = invokable (at Reliable base) body context operation (operation_at base.tables operation) argument link (Some id) s.later in
      let number : id ≡ next_id body = cc (i.sends.next) in
      let new : Invocation = record { id = id; operation = operation; argument = argument; linked = link } in
      let item : Queued = record { context = context; apdu = invoke_apdu i.operation id link argument } in
      record {
        more = item ∷ [];
        queue = subst (λ (o : Option Operation). (invoking context operation id link argument o).sending.queue ≡ body.sending.queue ++ item ∷ []) (sym i.is_it) refl;
        ours = λ made given. (record { place = operation; is_its = (own_codes base.tables).operations operation i.operation i.is_it; is_made = in-behind made (new ∷ []) new (inl refl) }, tt);
        numbers = λ xs g.
            let next : id ≡ pos (suc body.calls.made) = number ∙ next-is body i.sends.numbers in
            let counts : (invoking context operation id link argument (operation_at base.tables operation)).calls.made ≡ suc body.calls.made =
            subst (λ (o : Option Operation). (invoking context operation id link argument o).calls.made ≡ suc body.calls.made) (sym i.is_it)
            (opened-made (at Reliable base) (record { own = true; id = id; operation = operation; context = context; parent = link }) (record body.calls { made = suc body.calls.made })) in
            subst (λ (k : ℕ). IsGood k (xs ++ id ∷ [])) (sym counts) (subst (λ (n : ℤ). IsGood (suc body.calls.made) (xs ++ n ∷ [])) (sym next) (good-next body.calls.made xs g));
        asks = λ made asked x. (record { invocation = new; is_made = in-behind made (new ∷ []) new (inl refl); same_id = refl; same_operation = refl; row = i.operation; is_there = i.is_it }, made-on base.tables made (new ∷ []) asked x);
      }
  call-queues (the_calls.Answer id result) answer can =
      let o = opened_with false id body.calls.opens in
      let x = result_in (at Reliable base) body id result in
      record {
        more = outcome_items o x;
        queue = outcome-queue id o x;
        ours = λ made given. outcome-ours (made ++ []) (given ++ returned id result ∷ []) o x (λ apdu e. result-ours base.tables id result (operation_opened (at Reliable base) o) (made ++ []) given apdu e);
        numbers = outcome-numbers id o x (λ apdu e. result-kind id result (operation_opened (at Reliable base) o) apdu e);
        asks = λ made asked y. made-on base.tables made [] asked y;
      }
  call-queues (the_calls.Refuse id error parameter) answer can =
      let o = opened_with false id body.calls.opens in
      let x = error_for id parameter (error_at base.tables error) in
      record {
        more = outcome_items o x;
        queue = outcome-queue id o x;
        ours = λ made given. outcome-ours (made ++ []) (given ++ failed id error parameter ∷ []) o x (λ apdu e. error-ours base.tables id error parameter (error_at base.tables error) (made ++ []) given apdu refl e);
        numbers = outcome-numbers id o x (λ apdu e. error-kind id parameter (error_at base.tables error) apdu e);
        asks = λ made asked y. made-on base.tables made [] asked y;
      }
  call-queues (the_calls.Alter add delete) answer can = queues-none (the_calls.Alter add delete) answer refl refl refl
  call-queues the_calls.Mark answer can = queues-none the_calls.Mark answer refl refl refl
  call-queues the_calls.Give answer can = queues-none the_calls.Give answer refl refl refl
  call-queues (the_calls.Please priority) answer can = queues-none (the_calls.Please priority) answer refl refl refl
  call-queues (the_calls.Resync n) answer can = queues-none (the_calls.Resync n) answer refl refl refl
  call-queues the_calls.Interrupt answer can = queues-none the_calls.Interrupt answer refl refl refl
  call-queues the_calls.Resume answer can = queues-none the_calls.Resume answer refl refl refl
  call-queues the_calls.Discard answer can = queues-none the_calls.Discard answer refl refl refl
  call-queues the_calls.Recover answer can = queues-none the_calls.Recover answer refl refl refl
  call-queues the_calls.Release answer can = queues-none the_calls.Release answer refl refl refl
  call-queues the_calls.Abort answer can = let s = abort-same (is_carrying body.link.stage) in queues-none the_calls.Abort answer refl s.0 s.1

-- ---- takings

-- a taking adds rejects alone, and gives no number
pub record Queues (body later : Body) : Type 0 where
  pub more : List Queued
  pub rejects : AreRejects more
  pub queue : later.sending.queue ≡ body.sending.queue ++ more
  pub made : later.calls.made ≡ body.calls.made

queues-same : (body later : Body) → later.sending.queue ≡ body.sending.queue → later.calls.made ≡ body.calls.made → Queues body later
queues-same body later q m = record { more = []; rejects = tt; queue = q ∙ sym (append-nil body.sending.queue); made = m }

then-queues : (x y z : Body) → Queues x y → Queues y z → Queues x z
then-queues x y z f g = record {
  more = f.more ++ g.more;
  rejects = rejects-append f.more g.more f.rejects g.rejects;
  queue = g.queue ∙ ap (λ (l : List Queued). l ++ g.more) f.queue ∙ append_assoc x.sending.queue f.more g.more;
  made = g.made ∙ f.made;
}

reject-queues : (base : Base) (body : Body) (calls : Calls) (context : ℕ) (r : Option Rejecting) → calls.made ≡ body.calls.made → Queues body (with_reject (at Reliable base) (record body { calls = calls }) context r).body
reject-queues base body calls context None m = queues-same body _ refl m
reject-queues base body calls context (Some r) m = record { more = record { context = context; apdu = reject_apdu r } ∷ []; rejects = (tt, tt); queue = refl; made = m }

values-queue : (base : Base) (values : List DataValue) (body : Body) → Queues body (take_values (at Reliable base) body values).body
values-queue base [] body = queues-same body body refl refl
values-queue base (value ∷ values) body =
    let head = head_of (at Reliable base) value in
    let heard = hear (at Reliable base) body.calls value.id head in
    let one : Body = (take_head (at Reliable base) body value.id head).body in
    then-queues body one (take_values (at Reliable base) one values).body (reject-queues base body heard.calls value.id heard.reject (hear-made (at Reliable base) body.calls value.id head)) (values-queue base values one)

parts-queue : (values : List DataValue) (body : Body) → Queues body (with_parts values body)
parts-queue [] body = queues-same body body refl refl
parts-queue (value ∷ values) body =
    let one : Body = record body { receiving = record body.receiving { pieces = Octets (part_in value.content) ∷ body.receiving.pieces } } in
    then-queues body one (with_parts values one) (queues-same body one refl refl) (parts-queue values one)

settled-queue : (own : List Alteration) (answers : Answers) (body : Body) → Queues body (settled own answers body)
settled-queue [] answers body = queues-same body body refl refl
settled-queue (a ∷ own) answers body = queues-same body _ refl refl

cut-made : (id : Option ℤ) (calls : Calls) → (cut_invocation id calls).made ≡ calls.made
cut-made None calls = refl
cut-made (Some id) calls = refl

pub unit-queues : (base : Base) (body : Body) (unit : TransportUnit) → Queues body (after_transport base body unit)
unit-queues base body (ConnectionRequest source size calling other_) = queues-same body _ refl refl
unit-queues base body (ConnectionConfirm destination size) = queues-same body _ refl refl
unit-queues base body (DisconnectRequest destination) = queues-same body _ refl refl
unit-queues base body TransportError = queues-same body _ refl refl

pub word-queues : (base : Base) (body : Body) (word : Word) → (IsConnect (Session word) → ⊥) → Queues body (after_word (at Reliable base) body word)
word-queues base body (OfAssociation (Connect session presentation values)) n = absurd (n tt)
word-queues base body (OfAssociation (Accept session presentation values)) n = queues-same body _ refl refl
word-queues base body (OfAssociation (Refuse transport reason presentation values)) n = queues-same body _ refl refl
word-queues base body (OfAssociation (Finish transport values)) n = queues-same body _ refl refl
word-queues base body (OfAssociation (Disconnect values)) n = queues-same body _ refl refl
word-queues base body (OfAssociation (Abort transport user)) n = queues-same body _ refl refl
word-queues base body (OfAssociation AbortAccept) n = queues-same body _ refl refl
word-queues base body (OfData (Values values)) n = parts-queue values body
word-queues base body (OfData (AlterContext add delete)) n = queues-same body _ refl refl
word-queues base body (OfData (AlterContextAck answers)) n = settled-queue body.sets.own answers body
word-queues base body (OfMarks (Mark number)) n = queues-same body _ refl refl
word-queues base body (OfMarks (MarkAck number)) n = queues-same body _ refl refl
word-queues base body (OfMarks (Restart number list)) n = queues-same body _ refl refl
word-queues base body (OfMarks (RestartAck number list)) n = queues-same body _ refl refl
word-queues base body (OfMarks (Give None)) n = queues-same body _ refl refl
word-queues base body (OfMarks (Give (Some tokens))) n = queues-same body _ refl refl
word-queues base body (OfMarks (Please tokens values)) n = queues-same body body refl refl
word-queues base body (OfMarks GiveConfirm) n = queues-same body _ refl refl
word-queues base body (OfMarks GiveAck) n = queues-same body _ refl refl
word-queues base body (OfActivities (Start activity)) n = queues-same body _ refl refl
word-queues base body (OfActivities (Resume activity mark)) n = queues-same body _ refl refl
word-queues base body (OfActivities (End number)) n =
    let ended : Body = received (λ r. record r { was_handed = true; active = false }) body in
    let q = values-queue base (handed_up (at Reliable base) body) ended in
    record { more = q.more; rejects = q.rejects; queue = q.queue; made = q.made }
word-queues base body (OfActivities (EndAck number)) n = queues-same body _ refl refl
word-queues base body (OfActivities (Interrupt reason)) n = queues-same body _ refl refl
word-queues base body (OfActivities InterruptAck) n = queues-same body _ refl refl
word-queues base body (OfActivities (Discard reason)) n = queues-same body _ refl refl
word-queues base body (OfActivities DiscardAck) n = queues-same body _ refl (cut-made (invocation_in body.sending.current) body.calls)
