-- What an end of direct mode sends are invocations and outcomes that it handed in, and rejects; the numbers of its invocations; and what
-- it does before its association stands.
use Rattle.std.proofs.Common.{◌≡◌, refl, true, false, ◌∙◌, sym, ap, subst, ℕ, suc, List, [], ◌∷◌, ◌++◌, inl}
use Rattle.std.specs.Prelude.{ℤ, pos, Bool, not, ◌&&◌, ◌||◌, Option, Some, None, Ok, is_some, if◌then◌else◌}
use Rattle.std.proofs.lemmas.List.{append-nil, append_assoc}
use Rattle.asn1_types.specs.declared.value.Val.{Val}
use Rattle.osi_base.specs.declared.layer_words.Answers.{Answers}
use Rattle.osi_base.specs.declared.session_word.SessionConnect.{SessionConnect}
use Rattle.osi_base.specs.declared.presentation_word.PresentationConnect.{PresentationConnect}
use Rattle.stub_tables.specs.declared.tables.Tables.{Tables}
use Rattle.stub_tables.specs.declared.operation.Operation.{Operation}
use Rattle.stub_tables.specs.declared.apdu.Apdu.{Apdu}
use Rattle.stub_tables.specs.declared.apdu.Apdu.TheVariants as apdus
use Rattle.stub_tables.specs.Lookup.{operation_at, error_at}
use Rattle.stub_tables.proofs.OwnCodes.{own_codes}
use Rattle.dialogue.specs.declared.config.Config.{Config}
use Rattle.dialogue.specs.declared.config.Mode.TheVariants.{Direct}
use Rattle.dialogue.specs.declared.call.Call.{Call}
use Rattle.dialogue.specs.declared.call.Call.TheVariants as the_calls
use Rattle.dialogue.specs.declared.call.CallRefusal.TheVariants as refusals
use Rattle.dialogue.specs.declared.indication.Indication.{Indication}
use Rattle.end_rules.specs.Base.{Base, Spellings, Item}
use Rattle.end_rules.specs.Sets.{Alteration}
use Rattle.end_rules.specs.Messages.{ValueContent, Remote, DataValue, Message, Transport, Session, Word, OfAssociation, OfData, OfMarks, OfActivities, TransportUnit, ConnectionRequest, ConnectionConfirm, DisconnectRequest, TransportError, unit_of, value_of_item}
use Rattle.end_rules.specs.Messages.{Connect, Accept, Refuse, Finish, Disconnect, Abort, AbortAccept, Values, AlterContext, AlterContextAck, Mark, MarkAck, Restart, RestartAck, Give, Please, GiveConfirm, GiveAck}
use Rattle.end_rules.specs.State.{Body, OpenCall, is_up, is_unused, is_broken, is_carrying, opened_with}
use Rattle.end_rules.specs.Writing.{provider_refusal, refuse_message, user_abort}
use Rattle.end_rules.specs.Faults.{transport_fault, over}
use Rattle.end_rules.specs.Connecting.{is_refused, refusal_message, acceptance_message, has_acse, set_for, results_for, context_named, the_one, lacks_request, rejecting_information, transfer_rejection, refused_connect, accepted_connect}
use Rattle.end_rules.specs.Invoking.{carrier_in, invoke_apdu, is_stopped, can_invoke_operation, next_id}
use Rattle.end_rules.specs.Hearing.{Rejecting, Heard, hear, head_of_apdu, sent_on, with_reject}
use Rattle.end_rules.specs.Calling.{can_call}
use Rattle.end_rules.specs.Requesting.{due_of, due_invoke, due_outcome, after_invoke, after_outcome, answering, sent_at_once, result_in, error_for, operation_opened}
use Rattle.end_rules.specs.TakesTransport.{after_transport, answers_to_transport, transport_unit_fault, may_request, is_waiting, shown_of_transport}
use Rattle.end_rules.specs.TakesAssociation.{shown_of_association}
use Rattle.end_rules.specs.TakesData.{settled, shown_settled}
use Rattle.end_rules.specs.InPlace.{is_in_place}
use Rattle.end_rules.specs.Reacting.{after_word, answers_to_word, shown_of_word}
use Rattle.end_rules.specs.History.{after_broke}
use Rattle.agreement.specs.Sets.{Role, is_initiator}
use Rattle.agreement.specs.Sets.Role.{Initiator, Responder}
use Rattle.end_model.specs.Rows.{at}
use Rattle.end_model.specs.Requests.{sent_all, after_called}
use Rattle.end_model.specs.BothEnds.{Common, base_at}
use Rattle.end_model.specs.DirectEnds.{direct_common}
use Rattle.end_model.proofs.Ladder.{called, passed}
use Rattle.end_model.proofs.InvokeRungs.{invokable}
use Rattle.end_model.proofs.HandingRows.{next-is}
use Rattle.outcome_laws.specs.Exchanges.{Asked, asked_by}
use Rattle.said_words.specs.Words.{IsWord, IsUnit}
use Rattle.said_words.proofs.TransferEnds.{is_early}
use Rattle.run_laws.specs.Outcomes.{Invocation, ToldOutcome, returned, failed, invoked_by, answered_by}
use Rattle.association_runs.proofs.Telling.{invoked_ids, ids-append, plain-ids}
use Rattle.run_lemmas.proofs.Numbers.{apdu_invokes, IsGood, good-next, good-none}
use Rattle.run_lemmas.proofs.Handing.{result-kind, result-ours, error-kind, error-ours, opened-made, hear-made, IsOneOf, hear-ids}
use Rattle.association_runs.proofs.Noted.{in-behind, IsOurs, HoldsOurs, HoldOurs, hold-on, AreMade, made-on, ArePlain, association-plain, marks-plain, reject-plain}
use Rattle.run_lemmas.proofs.Tests.{clash, and-left, and-right, no-fault-so}
use Rattle.run_lemmas.proofs.Phases.{up-late, idle-early, refused-late, was-early, broken-early}
use Rattle.run_lemmas.proofs.Openings.{IsConnect}
use Rattle.run_lemmas.proofs.Calling.{asks-none}

-- ---- messages whose values the end handed in

abbrev pub Holds : Tables → List Invocation → List ToldOutcome → Message → Type 0
Holds tables made given (Session (OfData (Values values))) = HoldOurs tables made given values
Holds tables made given (Session (OfActivities word)) = ⊥
Holds tables made given message = Unit {0}

abbrev pub AllHold : Tables → List Invocation → List ToldOutcome → List Message → Type 0
AllHold tables made given [] = Unit {0}
AllHold tables made given (m ∷ ms) = Holds tables made given m × AllHold tables made given ms

one-on : (tables : Tables) (made more : List Invocation) (given later : List ToldOutcome) (m : Message) → Holds tables made given m → Holds tables (made ++ more) (given ++ later) m
one-on tables made more given later (Session (OfData (Values values))) h = hold-on tables made more given later values h
one-on tables made more given later (Session (OfData (AlterContext add delete))) h = tt
one-on tables made more given later (Session (OfData (AlterContextAck answers))) h = tt
one-on tables made more given later (Session (OfAssociation word)) h = tt
one-on tables made more given later (Session (OfMarks word)) h = tt
one-on tables made more given later (Session (OfActivities word)) h = absurd h
one-on tables made more given later (Transport unit) h = tt

pub all-on : (tables : Tables) (made more : List Invocation) (given later : List ToldOutcome) (ms : List Message) → AllHold tables made given ms → AllHold tables (made ++ more) (given ++ later) ms
all-on tables made more given later [] h = tt
all-on tables made more given later (m ∷ ms) h = (one-on tables made more given later m h.0, all-on tables made more given later ms h.1)

pub hold-append : (tables : Tables) (made : List Invocation) (given : List ToldOutcome) (xs ys : List Message) → AllHold tables made given xs → AllHold tables made given ys → AllHold tables made given (xs ++ ys)
hold-append tables made given [] ys h k = k
hold-append tables made given (x ∷ xs) ys h k = (h.0, hold-append tables made given xs ys h.1 k)

-- ---- rejects alone

abbrev IsRejectAlone : ValueContent → Type 0
IsRejectAlone (Remote (apdus.Reject id problem)) = Unit {0}
IsRejectAlone content = ⊥

abbrev AreRejects : List DataValue → Type 0
AreRejects [] = Unit {0}
AreRejects (value ∷ values) = IsRejectAlone value.content × AreRejects values

abbrev pub Rejects : Message → Type 0
Rejects (Session (OfData (Values values))) = AreRejects values
Rejects (Session (OfActivities word)) = ⊥
Rejects message = Unit {0}

abbrev pub AllRejects : List Message → Type 0
AllRejects [] = Unit {0}
AllRejects (m ∷ ms) = Rejects m × AllRejects ms

-- ---- numbers of invocations

abbrev content_invokes : ValueContent → List ℤ
content_invokes (Remote apdu) = apdu_invokes apdu
content_invokes content = []

abbrev values_invoke : List DataValue → List ℤ
values_invoke [] = []
values_invoke (value ∷ values) = content_invokes value.content ++ values_invoke values

abbrev pub message_invokes : Message → List ℤ
message_invokes (Session (OfData (Values values))) = values_invoke values
message_invokes message = []

abbrev pub all_invokes : List Message → List ℤ
all_invokes [] = []
all_invokes (m ∷ ms) = message_invokes m ++ all_invokes ms

pub invokes-append : (xs ys : List Message) → all_invokes (xs ++ ys) ≡ all_invokes xs ++ all_invokes ys
invokes-append [] ys = refl
invokes-append (x ∷ xs) ys = ap (λ (l : List ℤ). message_invokes x ++ l) (invokes-append xs ys) ∙ sym (append_assoc (message_invokes x) (all_invokes xs) (all_invokes ys))

rejects-none : (values : List DataValue) → AreRejects values → values_invoke values ≡ []
rejects-none [] h = refl
rejects-none (value ∷ values) h = ap (λ (l : List ℤ). l ++ values_invoke values) (one-none value.content h.0) ∙ rejects-none values h.1
  where
    one-none : (c : ValueContent) → IsRejectAlone c → content_invokes c ≡ []
    one-none (Remote (apdus.Reject id problem)) h = refl
    one-none c h = absurd h

reject-none : (m : Message) → Rejects m → message_invokes m ≡ []
reject-none (Session (OfData (Values values))) h = rejects-none values h
reject-none (Session (OfData (AlterContext add delete))) h = refl
reject-none (Session (OfData (AlterContextAck answers))) h = refl
reject-none (Session (OfAssociation word)) h = refl
reject-none (Session (OfMarks word)) h = refl
reject-none (Session (OfActivities word)) h = refl
reject-none (Transport unit) h = refl

pub all-rejects_none : (ms : List Message) → AllRejects ms → all_invokes ms ≡ []
all-rejects_none [] h = refl
all-rejects_none (m ∷ ms) h = ap (λ (l : List ℤ). l ++ all_invokes ms) (reject-none m h.0) ∙ all-rejects_none ms h.1

rejects-hold : (tables : Tables) (made : List Invocation) (given : List ToldOutcome) (values : List DataValue) → AreRejects values → HoldOurs tables made given values
rejects-hold tables made given [] h = tt
rejects-hold tables made given (value ∷ values) h = (one value.content h.0, rejects-hold tables made given values h.1)
  where
    one : (c : ValueContent) → IsRejectAlone c → HoldsOurs tables made given c
    one (Remote (apdus.Reject id problem)) h = record { apdu = apdus.Reject id problem; is_it = refl; is_ours = tt }
    one c h = absurd h

reject-holds : (tables : Tables) (made : List Invocation) (given : List ToldOutcome) (m : Message) → Rejects m → Holds tables made given m
reject-holds tables made given (Session (OfData (Values values))) h = rejects-hold tables made given values h
reject-holds tables made given (Session (OfData (AlterContext add delete))) h = tt
reject-holds tables made given (Session (OfData (AlterContextAck answers))) h = tt
reject-holds tables made given (Session (OfAssociation word)) h = tt
reject-holds tables made given (Session (OfMarks word)) h = tt
reject-holds tables made given (Session (OfActivities word)) h = absurd h
reject-holds tables made given (Transport unit) h = tt

pub all-rejects_hold : (tables : Tables) (made : List Invocation) (given : List ToldOutcome) (ms : List Message) → AllRejects ms → AllHold tables made given ms
all-rejects_hold tables made given [] h = tt
all-rejects_hold tables made given (m ∷ ms) h = (reject-holds tables made given m h.0, all-rejects_hold tables made given ms h.1)

-- ---- calls

-- what a call hands in, which numbers it gives, and where it leads
pub record CallHands (base : Base) (body : Body) (call : Call) (answer : Option ℤ) : Type 0 where
  pub holds : (made : List Invocation) (given : List ToldOutcome) → AllHold base.tables (made ++ invoked_by call (Ok answer)) (given ++ answered_by call (Ok answer)) (due_of (at Direct base) body call (Ok answer))
  pub numbers : (xs : List ℤ) → IsGood body.calls.made xs → IsGood (after_called Direct base body call answer).calls.made (xs ++ all_invokes (due_of (at Direct base) body call (Ok answer)))
  pub early : is_early (after_called Direct base body call answer).link.phase ≡ true → (is_early body.link.phase ≡ true) × ((after_called Direct base body call answer).calls.made ≡ body.calls.made)
  pub asks : (made : List Invocation) (asked : List Asked) → AreMade base.tables made asked → AreMade base.tables (made ++ invoked_by call (Ok answer)) (asked_by call answer ++ asked)

module _ (base : Base) (body : Body) where
  -- one that hands nothing in
  hands-none : (call : Call) (answer : Option ℤ) → ((made : List Invocation) (given : List ToldOutcome) → AllHold base.tables made given (due_of (at Direct base) body call (Ok answer))) → asked_by call answer ≡ [] → all_invokes (due_of (at Direct base) body call (Ok answer)) ≡ [] →
      (after_called Direct base body call answer).calls.made ≡ body.calls.made → (is_early (after_called Direct base body call answer).link.phase ≡ true → is_early body.link.phase ≡ true) → CallHands base body call answer
  hands-none call answer holds e n m early = record {
    holds = λ made given. holds (made ++ invoked_by call (Ok answer)) (given ++ answered_by call (Ok answer));
    numbers = λ xs g. subst (λ (l : List ℤ). IsGood (after_called Direct base body call answer).calls.made (xs ++ l)) (sym n) (subst (λ (k : ℕ). IsGood k (xs ++ [])) (sym m) (good-none body.calls.made xs g));
    early = λ h. (early h, m);
    asks = λ made asked x. asks-none base.tables call answer e made asked x;
  }

  late : (call : Call) (answer : Option ℤ) → is_up body.link.phase ≡ true → is_early body.link.phase ≡ true → is_early body.link.phase ≡ true
  late call answer up h = h

  invoke-holds : (context place : ℕ) (id : ℤ) (linked : Option ℤ) (o : Option Operation) (argument : Option Val) (made : List Invocation) (given : List ToldOutcome) → operation_at base.tables place ≡ o →
      AllHold base.tables (made ++ record { id = id; operation = place; argument = argument; linked = linked } ∷ []) (given ++ []) (due_invoke (at Direct base) body context id linked o argument)
  invoke-holds context place id linked None argument made given e = tt
  invoke-holds context place id linked (Some row) argument made given e =
      let new : Invocation = record { id = id; operation = place; argument = argument; linked = linked } in
      ((record { apdu = invoke_apdu row id linked argument; is_it = refl; is_ours = record { place = place; is_its = (own_codes base.tables).operations place row e; is_made = in-behind made (new ∷ []) new (inl refl) } }, tt), tt)

  invoke-numbers : (context place : ℕ) (id : ℤ) (linked : Option ℤ) (o : Option Operation) (argument : Option Val) → (row : Operation) → o ≡ Some row → id ≡ pos (suc body.calls.made) → (xs : List ℤ) → IsGood body.calls.made xs →
      IsGood (sent_all Direct (after_invoke (at Direct base) body context place id linked o argument) (due_invoke (at Direct base) body context id linked o argument)).calls.made (xs ++ all_invokes (due_invoke (at Direct base) body context id linked o argument))
  invoke-numbers context place id linked None argument row e n xs g = absurd cc
  invoke-numbers context place id linked (Some op) argument row e n xs g =
      subst (λ (k : ℕ). IsGood k (xs ++ id ∷ [])) (sym (opened-made (at Direct base) (record { own = true; id = id; operation = place; context = context; parent = linked }) (record body.calls { made = suc body.calls.made })))
      (subst (λ (i : ℤ). IsGood (suc body.calls.made) (xs ++ i ∷ [])) (sym n) (good-next body.calls.made xs g))

  invoke-phase : (context place : ℕ) (id : ℤ) (linked : Option ℤ) (o : Option Operation) (argument : Option Val) → (sent_all Direct (after_invoke (at Direct base) body context place id linked o argument) (due_invoke (at Direct base) body context id linked o argument)).link.phase ≡ body.link.phase
  invoke-phase context place id linked None argument = refl
  invoke-phase context place id linked (Some op) argument = refl

  outcome-holds : (made : List Invocation) (given : List ToldOutcome) (o : Option OpenCall) (x : Option Apdu) → ((apdu : Apdu) → x ≡ Some apdu → IsOurs base.tables made given apdu) → AllHold base.tables made given (due_outcome (at Direct base) body o x)
  outcome-holds made given None None f = tt
  outcome-holds made given None (Some apdu) f = tt
  outcome-holds made given (Some o) None f = tt
  outcome-holds made given (Some o) (Some apdu) f = go (carrier_in (at Direct base) body o.context)
    where
      go : (c : Option ℕ) → AllHold base.tables made given (sent_at_once Direct body c apdu)
      go None = tt
      go (Some k) = ((record { apdu = apdu; is_it = refl; is_ours = f apdu refl }, tt), tt)

  outcome-numbers : (o : Option OpenCall) (x : Option Apdu) → ((apdu : Apdu) → x ≡ Some apdu → apdu_invokes apdu ≡ []) → all_invokes (due_outcome (at Direct base) body o x) ≡ []
  outcome-numbers None None f = refl
  outcome-numbers None (Some apdu) f = refl
  outcome-numbers (Some o) None f = refl
  outcome-numbers (Some o) (Some apdu) f = go (carrier_in (at Direct base) body o.context)
    where
      go : (c : Option ℕ) → all_invokes (sent_at_once Direct body c apdu) ≡ []
      go None = refl
      go (Some k) = append-nil (apdu_invokes apdu ++ []) ∙ append-nil (apdu_invokes apdu) ∙ f apdu refl

  outcome-made : (id : ℤ) (o : Option OpenCall) (x : Option Apdu) → (sent_all Direct (after_outcome (at Direct base) body id o x) (due_outcome (at Direct base) body o x)).calls.made ≡ body.calls.made
  outcome-made id None None = refl
  outcome-made id None (Some apdu) = refl
  outcome-made id (Some o) None = refl
  outcome-made id (Some o) (Some apdu) = go (carrier_in (at Direct base) body o.context)
    where
      go : (c : Option ℕ) → (sent_all Direct (answering id body) (sent_at_once Direct body c apdu)).calls.made ≡ body.calls.made
      go None = refl
      go (Some k) = refl

  outcome-phase : (id : ℤ) (o : Option OpenCall) (x : Option Apdu) → (sent_all Direct (after_outcome (at Direct base) body id o x) (due_outcome (at Direct base) body o x)).link.phase ≡ body.link.phase
  outcome-phase id None None = refl
  outcome-phase id None (Some apdu) = refl
  outcome-phase id (Some o) None = refl
  outcome-phase id (Some o) (Some apdu) = go (carrier_in (at Direct base) body o.context)
    where
      go : (c : Option ℕ) → (sent_all Direct (answering id body) (sent_at_once Direct body c apdu)).link.phase ≡ body.link.phase
      go None = refl
      go (Some k) = refl

  abort-none : (c : Bool) → ((made : List Invocation) (given : List ToldOutcome) → AllHold base.tables made given (if c then user_abort body.link.accepted 0 [] ∷ [] else [])) × (all_invokes (if c then user_abort body.link.accepted 0 [] ∷ [] else []) ≡ []) × ((sent_all Direct (over body) (if c then user_abort body.link.accepted 0 [] ∷ [] else [])).calls.made ≡ body.calls.made) × (is_early (sent_all Direct (over body) (if c then user_abort body.link.accepted 0 [] ∷ [] else [])).link.phase ≡ false)
  abort-none true = (λ made given. (tt, tt), refl, refl, refl)
  abort-none false = (λ made given. tt, refl, refl, refl)

  pub call-hands : (call : Call) (answer : Option ℤ) → can_call (at Direct base) body call ≡ Ok answer → CallHands base body call answer
  call-hands the_calls.Open answer can = hands-none the_calls.Open answer (λ made given. (tt, tt)) refl refl refl (λ h. idle-early body.link.phase (called (at Direct base) body the_calls.Open answer can).in_phase)
  call-hands (the_calls.Invoke context operation argument linked) None can = hands-none (the_calls.Invoke context operation argument linked) None (λ made given. tt) refl refl refl (λ h. h)
  call-hands (the_calls.Invoke context operation argument linked) (Some id) can =
      let c = called (at Direct base) body (the_calls.Invoke context operation argument linked) (Some id) can in
      let s = passed (is_stopped (at Direct base) body) refusals.Waiting (can_invoke_operation (at Direct base) body context operation (operation_at base.tables operation) argument linked) (Some id) c.rows in
      let i = invokable (at Direct base) body context operation (operation_at base.tables operation) argument linked (Some id) s.later in
      let e : id ≡ next_id body = cc (i.sends.next) in
      let phase = invoke-phase context operation id linked (operation_at base.tables operation) argument in
      record {
        holds = λ made given. invoke-holds context operation id linked (operation_at base.tables operation) argument made given refl;
        numbers = invoke-numbers context operation id linked (operation_at base.tables operation) argument i.operation i.is_it (e ∙ next-is body i.sends.numbers);
        early = λ h. absurd (clash (is_early body.link.phase) (ap is_early (sym phase) ∙ h) (up-late body.link.phase c.in_phase));
        asks = λ made asked x.
            let new : Invocation = record { id = id; operation = operation; argument = argument; linked = linked } in
            (record { invocation = new; is_made = in-behind made (new ∷ []) new (inl refl); same_id = refl; same_operation = refl; row = i.operation; is_there = i.is_it }, made-on base.tables made (new ∷ []) asked x);
      }
  call-hands (the_calls.Answer id result) answer can =
      let o = opened_with false id body.calls.opens in
      let x = result_in (at Direct base) body id result in
      let up = up-late body.link.phase (called (at Direct base) body (the_calls.Answer id result) answer can).in_phase in
      record {
        holds = λ made given. outcome-holds (made ++ []) (given ++ returned id result ∷ []) o x (λ apdu e. result-ours base.tables id result (operation_opened (at Direct base) o) (made ++ []) given apdu e);
        numbers = λ xs g.
            subst (λ (l : List ℤ). IsGood (after_called Direct base body (the_calls.Answer id result) answer).calls.made (xs ++ l)) (sym (outcome-numbers o x (λ apdu e. result-kind id result (operation_opened (at Direct base) o) apdu e)))
            (subst (λ (k : ℕ). IsGood k (xs ++ [])) (sym (outcome-made id o x)) (good-none body.calls.made xs g));
        early = λ h. absurd (clash (is_early body.link.phase) (ap is_early (sym (outcome-phase id o x)) ∙ h) up);
        asks = λ made asked y. made-on base.tables made [] asked y;
      }
  call-hands (the_calls.Refuse id error parameter) answer can =
      let o = opened_with false id body.calls.opens in
      let x = error_for id parameter (error_at base.tables error) in
      let up = up-late body.link.phase (called (at Direct base) body (the_calls.Refuse id error parameter) answer can).in_phase in
      record {
        holds = λ made given. outcome-holds (made ++ []) (given ++ failed id error parameter ∷ []) o x (λ apdu e. error-ours base.tables id error parameter (error_at base.tables error) (made ++ []) given apdu refl e);
        numbers = λ xs g.
            subst (λ (l : List ℤ). IsGood (after_called Direct base body (the_calls.Refuse id error parameter) answer).calls.made (xs ++ l)) (sym (outcome-numbers o x (λ apdu e. error-kind id parameter (error_at base.tables error) apdu e)))
            (subst (λ (k : ℕ). IsGood k (xs ++ [])) (sym (outcome-made id o x)) (good-none body.calls.made xs g));
        early = λ h. absurd (clash (is_early body.link.phase) (ap is_early (sym (outcome-phase id o x)) ∙ h) up);
        asks = λ made asked y. made-on base.tables made [] asked y;
      }
  call-hands (the_calls.Alter add delete) answer can = hands-none (the_calls.Alter add delete) answer (λ made given. (tt, tt)) refl refl refl (λ h. h)
  call-hands the_calls.Mark answer can = hands-none the_calls.Mark answer (λ made given. (tt, tt)) refl refl refl (λ h. h)
  call-hands the_calls.Give answer can = hands-none the_calls.Give answer (λ made given. (tt, tt)) refl refl refl (λ h. h)
  call-hands (the_calls.Please priority) answer can = hands-none (the_calls.Please priority) answer (λ made given. (tt, tt)) refl refl refl (λ h. h)
  call-hands (the_calls.Resync n) answer can = hands-none (the_calls.Resync n) answer (λ made given. (tt, tt)) refl refl refl (λ h. h)
  call-hands the_calls.Interrupt answer can = let r = (called (at Direct base) body the_calls.Interrupt answer can).rows in absurd cc
  call-hands the_calls.Resume answer can = let r = (called (at Direct base) body the_calls.Resume answer can).rows in absurd cc
  call-hands the_calls.Discard answer can = let r = (called (at Direct base) body the_calls.Discard answer can).rows in absurd cc
  call-hands the_calls.Recover answer can = hands-none the_calls.Recover answer (λ made given. (tt, tt)) refl refl refl (λ h. absurd cc)
  call-hands the_calls.Release answer can = hands-none the_calls.Release answer (λ made given. (tt, tt)) refl refl refl (λ h. absurd cc)
  call-hands the_calls.Abort answer can =
      let n = abort-none (is_carrying body.link.stage) in
      hands-none the_calls.Abort answer n.0 refl n.1 n.2 (λ h. absurd (clash (is_early (sent_all Direct (over body) (if is_carrying body.link.stage then user_abort body.link.accepted 0 [] ∷ [] else [])).link.phase) h n.3))

-- ---- takings

-- what a taking answers and shows, the count of own invocations, and where it leads
pub record TakeHands (body later : Body) (message : Message) (answers : List Message) (shown : List Indication) : Type 0 where
  pub rejects : AllRejects answers
  pub ids : IsOneOf (invoked_ids shown) (message_invokes message)
  pub counted : (IsConnect message → body.calls.made ≡ 0) → later.calls.made ≡ body.calls.made
  pub early : is_early later.link.phase ≡ true → (is_early body.link.phase ≡ true) × ArePlain shown

quiet : (body later : Body) (message : Message) (answers : List Message) (shown : List Indication) → AllRejects answers → ArePlain shown → later.calls.made ≡ body.calls.made → (is_early later.link.phase ≡ true → is_early body.link.phase ≡ true) → TakeHands body later message answers shown
quiet body later message answers shown r p m e = record { rejects = r; ids = inl (plain-ids shown p); counted = λ f. m; early = λ h. (e h, p) }

module _ (tables : Tables) (spellings : Spellings) (a b : Config) where
  abbrev common : Common
  common = direct_common tables spellings a b

  abbrev base : Role → Base
  base role = base_at role common

  abbrev WordHands : Role → Body → Word → Type 0
  WordHands role body word = TakeHands body (after_word (base role) body word) (Session word) (answers_to_word (base role) body word) (shown_of_word (base role) body word)

  module _ (role : Role) (body : Body) where
    connect-hands : (session : SessionConnect) (presentation : PresentationConnect) (values : List DataValue) → WordHands role body (OfAssociation (Connect session presentation values))
    connect-hands session presentation values = go (is_refused (base role) body session presentation values)
      where
        shown : List Indication
        shown = shown_of_association (base role) body (Connect session presentation values)

        plain : ArePlain (shown_of_association (base role) body (Connect session presentation values))
        plain = association-plain (base role) body (Connect session presentation values)

        refusals-only : (p : Bool) → AllRejects ((if p then provider_refusal
            else refuse_message (set_for (base role) presentation) (results_for (base role) presentation) (context_named (the_one values)) (if lacks_request (base role) (set_for (base role) presentation) values then [] else rejecting_information (base role) session (set_for (base role) presentation) (transfer_rejection (base role) body values))) ∷ [])
        refusals-only true = (tt, tt)
        refusals-only false = (tt, tt)

        go : (r : Bool) → TakeHands body (if r then refused_connect body else accepted_connect (base role) body session presentation values) (Session (OfAssociation (Connect session presentation values)))
            (if r then refusal_message (base role) body session presentation values ∷ [] else acceptance_message (base role) session presentation values ∷ []) (shown_of_association (base role) body (Connect session presentation values))
        go true = quiet body _ _ _ _ (refusals-only (is_some presentation.default_context || not (has_acse (set_for (base role) presentation)))) plain refl (λ h. absurd (clash _ h (refused-late (is_broken body.link.phase))))
        go false = record { rejects = (tt, tt); ids = inl (plain-ids _ plain); counted = λ f. sym (f tt); early = λ h. absurd cc }

    data-hands : (item : Item) → is_up body.link.phase ≡ true → WordHands role body (OfData (Values (value_of_item item ∷ [])))
    data-hands item up = by-reject (hear (base role) body.calls item.id (head_of_apdu item.apdu)).reject
      where
        heard : Heard
        heard = hear (base role) body.calls item.id (head_of_apdu item.apdu)

        later : Body
        later = record body { calls = (hear (base role) body.calls item.id (head_of_apdu item.apdu)).calls }

        ids-so : (xs ys : List Indication) → invoked_ids ys ≡ [] → invoked_ids ((xs ++ ys) ++ []) ≡ invoked_ids xs
        ids-so xs ys e = ids-append (xs ++ ys) [] ∙ append-nil (invoked_ids (xs ++ ys)) ∙ ids-append xs ys ∙ ap (λ (l : List ℤ). invoked_ids xs ++ l) e ∙ append-nil (invoked_ids xs)

        told-ids : (ys : List Indication) → ArePlain ys → IsOneOf (invoked_ids ((heard.shown ++ ys) ++ [])) (apdu_invokes item.apdu ++ [])
        told-ids ys p =
            subst (λ (l : List ℤ). IsOneOf l (apdu_invokes item.apdu ++ [])) (sym (ids-so heard.shown ys (plain-ids ys p)))
            (subst (IsOneOf (invoked_ids heard.shown)) (sym (append-nil (apdu_invokes item.apdu))) (hear-ids (base role) body.calls item.id item.apdu))

        made : heard.calls.made ≡ body.calls.made
        made = hear-made (base role) body.calls item.id (head_of_apdu item.apdu)

        by-carrier : (r : Rejecting) (c : Option ℕ) → ArePlain (sent_on later r c).shown → TakeHands body (sent_on later r c).body (Session (OfData (Values (value_of_item item ∷ [])))) ((sent_on later r c).answers ++ []) ((heard.shown ++ (sent_on later r c).shown) ++ [])
        by-carrier r None p = record { rejects = tt; ids = told-ids [] p; counted = λ f. made; early = λ h. absurd (clash (is_early body.link.phase) h (up-late body.link.phase up)) }
        by-carrier r (Some k) p = record { rejects = ((tt, tt), tt); ids = told-ids _ p; counted = λ f. made; early = λ h. absurd (clash (is_early body.link.phase) h (up-late body.link.phase up)) }

        by-reject : (r : Option Rejecting) → TakeHands body (with_reject (base role) later item.id r).body (Session (OfData (Values (value_of_item item ∷ [])))) ((with_reject (base role) later item.id r).answers ++ []) ((heard.shown ++ (with_reject (base role) later item.id r).shown) ++ [])
        by-reject None = record { rejects = tt; ids = told-ids [] tt; counted = λ f. made; early = λ h. absurd (clash (is_early body.link.phase) h (up-late body.link.phase up)) }
        by-reject (Some r) = by-carrier r (carrier_in (base role) later item.id) (reject-plain (base role) later item.id (Some r))

    settled-hands : (own : List Alteration) (answers : Answers) → TakeHands body (settled own answers body) (Session (OfData (AlterContextAck answers))) [] (shown_settled own answers)
    settled-hands [] answers = quiet body body _ [] [] tt tt refl (λ h. h)
    settled-hands (x ∷ own) answers = quiet body _ _ [] _ tt (tt, tt) refl (λ h. h)

    pub word-hands : (word : Word) → IsWord (base Initiator) (base Responder) word → is_in_place (base role) body (unit_of word) ≡ true → WordHands role body word
    word-hands (OfAssociation (Connect session presentation values)) i in_place = connect-hands session presentation values
    word-hands (OfAssociation (Accept session presentation values)) i in_place = quiet body _ _ _ _ tt (association-plain (base role) body (Accept session presentation values)) refl (λ h. absurd cc)
    word-hands (OfAssociation (Refuse transport reason presentation values)) i in_place = absurd i
    word-hands (OfAssociation (Finish transport values)) i in_place = quiet body _ _ _ _ (tt, tt) (association-plain (base role) body (Finish transport values)) refl (λ h. absurd cc)
    word-hands (OfAssociation (Disconnect values)) i in_place = quiet body _ _ _ _ tt (association-plain (base role) body (Disconnect values)) refl (λ h. absurd cc)
    word-hands (OfAssociation (Abort transport user)) i in_place = quiet body _ _ _ _ tt (association-plain (base role) body (Abort transport user)) refl (λ h. absurd cc)
    word-hands (OfAssociation AbortAccept) i in_place = absurd i
    word-hands (OfData (Values values)) i in_place = subst (λ vs. WordHands role body (OfData (Values vs))) (sym i.is_one) (data-hands i.item (and-left (is_up body.link.phase) true in_place))
    word-hands (OfData (AlterContext add delete)) i in_place = quiet body _ _ _ _ (tt, tt) (tt, tt) refl (λ h. h)
    word-hands (OfData (AlterContextAck answers)) i in_place = settled-hands body.sets.own answers
    word-hands (OfMarks (Mark n)) i in_place = quiet body _ _ _ _ tt (marks-plain (base role) body (Mark n)) refl (λ h. h)
    word-hands (OfMarks (MarkAck n)) i in_place = absurd i
    word-hands (OfMarks (Restart n list)) i in_place = quiet body _ _ _ _ (tt, tt) (marks-plain (base role) body (Restart n list)) refl (λ h. h)
    word-hands (OfMarks (RestartAck n list)) i in_place = quiet body _ _ _ _ tt (marks-plain (base role) body (RestartAck n list)) refl (λ h. h)
    word-hands (OfMarks (Give None)) i in_place = quiet body _ _ _ _ tt (marks-plain (base role) body (Give None)) refl (λ h. h)
    word-hands (OfMarks (Give (Some tokens))) i in_place = quiet body _ _ _ _ tt (marks-plain (base role) body (Give (Some tokens))) refl (λ h. h)
    word-hands (OfMarks (Please tokens values)) i in_place = quiet body _ _ _ _ tt (marks-plain (base role) body (Please tokens values)) refl (λ h. h)
    word-hands (OfMarks GiveConfirm) i in_place = absurd i
    word-hands (OfMarks GiveAck) i in_place = absurd i
    word-hands (OfActivities word) i in_place = absurd i

    pub unit-hands : (unit : TransportUnit) → IsUnit (base Initiator) unit → transport_unit_fault (base role) body unit ≡ None → TakeHands body (after_transport (base role) body unit) (Transport unit) (answers_to_transport (base role) body unit) (shown_of_transport unit)
    unit-hands (ConnectionRequest source size calling other_) i fine =
        let may : may_request (base role) body ≡ true = no-fault-so (may_request (base role) body) transport_fault fine in
        let waits : is_waiting body.link.phase ≡ true = and-right (not (is_initiator role) && is_unused body.link.stage) (is_waiting body.link.phase) may in
        subst (λ u. TakeHands body (after_transport (base role) body u) (Transport u) (answers_to_transport (base role) body u) (shown_of_transport u)) (sym i)
        (quiet body _ _ _ _ (tt, tt) tt refl (was-early body.link.phase true waits))
    unit-hands (ConnectionConfirm destination size) i fine = quiet body _ _ _ _ (tt, tt) tt refl (λ h. h)
    unit-hands (DisconnectRequest destination) i fine = absurd i
    unit-hands TransportError i fine = absurd i

  -- a break keeps the count
  pub broke-early : (role : Role) (body : Body) → is_early (after_broke (base role) body).link.phase ≡ true → (is_early body.link.phase ≡ true) × ((after_broke (base role) body).calls.made ≡ body.calls.made)
  broke-early role body h = (broken-early Direct body.link.phase h, refl)
