-- What two ends of direct mode reach: data are on contexts of the module's, as the set that both share had it when they were sent.
use Rattle.std.proofs.Common.{◌≡◌, refl, true, false, ◌∙◌, sym, ap, subst, ℕ, suc, ◌≤◌, List, [], ◌∷◌, ◌++◌, ◌⊎◌, inl, inr}
use Rattle.std.specs.Prelude.{ℤ, Bool, not, ◌&&◌, ◌||◌, Option, Some, None, Ok, is_some, nat_eq, nat_le, if◌then◌else◌}
use Rattle.osi_base.specs.declared.syntax.Pair.{Pair}
use Rattle.osi_base.specs.declared.layer_words.SetItem.{SetItem}
use Rattle.osi_base.specs.declared.layer_words.Answers.{Answers}
use Rattle.asn1_types.specs.declared.value.Val.{Val}
use Rattle.stub_tables.specs.declared.tables.Tables.{Tables}
use Rattle.stub_tables.specs.declared.apdu.Apdu.{Apdu}
use Rattle.stub_tables.specs.declared.operation.Operation.{Operation}
use Rattle.stub_tables.specs.Lookup.{operation_at, error_at}
use Rattle.dialogue.specs.declared.config.Config.{Config}
use Rattle.dialogue.specs.declared.config.Mode.TheVariants.{Direct}
use Rattle.dialogue.specs.declared.config.Phase.{Phase}
use Rattle.dialogue.specs.declared.config.Phase.TheVariants.{Idle, Opening, Over}
use Rattle.dialogue.specs.declared.call.Call.{Call}
use Rattle.dialogue.specs.declared.call.Call.TheVariants as the_calls
use Rattle.dialogue.specs.declared.call.CallRefusal.TheVariants as refusals
use Rattle.dialogue.specs.declared.indication.Indication.{Indication}
use Rattle.end_rules.specs.Base.{Base, Spellings, Fault, Item}
use Rattle.end_rules.specs.Sets.{Alteration, is_fixed, below, next_number}
use Rattle.osi_base.specs.SetPlaces.{pair_of}
use Rattle.end_rules.specs.State.{Body, Sets, Calls, OpenCall, NoAnswer, opened_with, is_up, is_carrying, is_joined, passes_over}
use Rattle.end_rules.specs.Messages.{Message, Transport, Session, TransportUnit, ConnectionRequest, ConnectionConfirm, DisconnectRequest, TransportError, DataValue, Accepting, value_of_item}
use Rattle.end_rules.specs.Messages.{Word, OfAssociation, OfData, OfMarks, OfActivities, Connect, Accept, Refuse, Finish, Disconnect, Abort, AbortAccept, Values, AlterContext, AlterContextAck, Mark, MarkAck, Restart, RestartAck, Give, Please, GiveConfirm, GiveAck, unit_of}
use Rattle.end_rules.specs.Writing.{acse_pair, session_connect, presentation_connect, connect_values, user_abort, proposals}
use Rattle.end_rules.specs.Hearing.{Rejecting, with_reject, sent_on, hear, head_of_apdu}
use Rattle.end_rules.specs.Invoking.{carrier_in, is_stopped}
use Rattle.end_rules.specs.Faults.{fault_if, or_fault, over, transport_fault, unexpected_ppdu, invalid_ppdu}
use Rattle.end_rules.specs.Purging.{is_purged}
use Rattle.end_rules.specs.Units.{has_marks, has_restarts, has_token, has_typed_data, has_version_two, has_units, needed_units, selected_with}
use Rattle.end_rules.specs.Policy.{opening_policy, is_taken, is_faulty_proposal}
use Rattle.end_rules.specs.Connecting.{refused_connect, accepted_connect, refusal_message, acceptance_message, after_accept}
use Rattle.end_rules.specs.Calling.{can_call, is_phase_for}
use Rattle.end_rules.specs.Requesting.{due_of, due_invoke, due_outcome, after_invoke, after_outcome, answering, sent_at_once, result_in, error_for}
use Rattle.end_rules.specs.TakesTransport.{after_transport, answers_to_transport, phase_asked, is_size, answer_to_request}
use Rattle.end_rules.specs.TakesData.{alteration, settled}
use Rattle.end_rules.specs.InPlace.{is_in_place, is_opening, is_peers, awaits_release, awaits_restart}
use Rattle.end_rules.specs.Reacting.{Passes, Takes, react, fails as failing, on_word, word_fault, fault_above, after_word, answers_to_word}
use Rattle.end_rules.specs.History.{after_broke, broken_phase}
use Rattle.end_rules.specs.World.{Shared, shared_sent}
use Rattle.osi_base.specs.declared.layer_words.Side.{Side}
use Rattle.osi_base.specs.declared.presentation_word.PresentationAccept.{PresentationAccept}
use Rattle.osi_base.specs.Limits.{most_marks}
use Rattle.agreement.specs.Sets.{Role, is_initiator}
use Rattle.agreement.specs.Sets.Role.{Initiator, Responder}
use Rattle.end_model.specs.Seen.{Free}
use Rattle.end_model.specs.Acting.{ReadsBack}
use Rattle.end_model.specs.Requests.{sent_all, after_called}
use Rattle.end_model.specs.BothEnds.{Common, base_at, Two, body_at, coming_to, stepped, WritesAll}
use Rattle.end_model.specs.DirectEnds.{direct_common, ProposesRightly}
use Rattle.end_model.specs.Sharing.{side_of, shared_all_sent, shared_all_answered, SetsSent, sets_to, sets_stepped, before, none_sent, Shares}
use Rattle.end_model.specs.Sharing as sharing
use Rattle.end_model.proofs.Ladder.{passed, called}
use Rattle.end_model.proofs.InvokeRungs.{invokable}
use Rattle.end_model.proofs.DirectLaws.{direct-as_sent}
use Rattle.end_model.proofs.DirectMachine as machine
use Rattle.reliable_model.specs.Ledgers.{Ledger, ReachedWithLedger, begins, calls, acts, takes, passes, fails, breaks}
use Rattle.reliable_model.proofs.FirmSteps.{in-place, nothing-above}
use Rattle.reliable_model.proofs.Phases.{only-open, only-abort, over-calls}
use Rattle.reliable_model.proofs.Opening.{First}
use Rattle.reliable_model.proofs.Fixed.{IsIdentifier, AreIdentifiers, listed-identifiers, answers-taken, AllContexts, none-contexts, added-contexts, answered-contexts, module-taken, is_others, module-or_others}
use Rattle.reliable_model.proofs.Firm.{IsLoose, OwnSpares, OpensLoose, on-module_loose, opened-loose, closed-loose, found-loose}
use Rattle.reliable_model.proofs.OnWay.{took-unit, SharedHas, AnswersHave, all-answered_has}
use Rattle.said_words.proofs.Lists.{few-identifiers}
use Rattle.said_words.specs.Calls.{IsCall, AreCalls}
use Rattle.said_words.specs.Words.{the_connect, the_acceptance, IsWord, IsUnit, IsMessage, AreMessages}
use Rattle.said_words.proofs.First.{first_accepted, first-pair, none-refused}
use Rattle.said_words.proofs.Sharing.{no-own, sets-there}
use Rattle.said_words.proofs.Worlds.{coming-said, called-said, all-said}
use Rattle.said_takings.specs.Laws.{IsTaken, DirectTakesRightly}
use Rattle.said_takings.proofs.Loose.{IsKept, MarksKept, newest-kept, marks-more, below-kept, answered-kept, settled-kept, spared, spares-append, opened-rising, carrier-loose, apdu-loose}

clash : (x : Bool) → x ≡ true → x ≡ false → ⊥
clash x h i = cc

and-left : (a b : Bool) → (a && b) ≡ true → a ≡ true
and-left true b h = refl
and-left false b h = cc

and-right : (a b : Bool) → (a && b) ≡ true → b ≡ true
and-right true b h = h
and-right false b h = cc

not-there : false ≡ true → ⊥
not-there e = cc

no-fault : (b : Bool) (fault : Fault) → fault_if b fault ≡ None → b ≡ false
no-fault true fault h = cc
no-fault false fault h = refl

none-second : (x y : Option Fault) → or_fault x y ≡ None → y ≡ None
none-second None y h = h
none-second (Some fault) y h = cc

-- nothing went over an association yet
record Young (body : Body) : Type 0 where
  phase : (body.link.phase ≡ Idle) ⊎ (body.link.phase ≡ Opening)
  calm : body.link.awaits ≡ NoAnswer
  opens : body.calls.opens ≡ []

not-up : (body : Body) → Young body → is_up body.link.phase ≡ false
not-up body y = go y.phase
  where
    go : (body.link.phase ≡ Idle) ⊎ (body.link.phase ≡ Opening) → is_up body.link.phase ≡ false
    go (inl e) = ap is_up e
    go (inr e) = ap is_up e

-- what is on its way goes on loose contexts
abbrev AllLoose : List ℕ → List SetItem → List DataValue → Type 0
AllLoose name first [] = Unit {0}
AllLoose name first (value ∷ values) = IsLoose name first value.id × AllLoose name first values

abbrev LooseIn : List ℕ → List SetItem → Message → Type 0
LooseIn name first (Session (OfData (Values values))) = AllLoose name first values
LooseIn name first message = Unit {0}

abbrev AreLoose : List ℕ → List SetItem → List Message → Type 0
AreLoose name first [] = Unit {0}
AreLoose name first (message ∷ messages) = LooseIn name first message × AreLoose name first messages

abbrev AllPlain : (ℕ → Pair → Type 0) → List (List SetItem) → Type 0
AllPlain P [] = Unit {0}
AllPlain P (set ∷ sets) = AllContexts P set × AllPlain P sets

plain-append : (P : ℕ → Pair → Type 0) (xs ys : List (List SetItem)) → AllPlain P xs → AllPlain P ys → AllPlain P (xs ++ ys)
plain-append P [] ys h k = k
plain-append P (x ∷ xs) ys h k = (h.0, plain-append P xs ys h.1 k)

plain-before : (P : ℕ → Pair → Type 0) (shared : Shared) (messages : List Message) → SharedHas P shared → AllPlain P (before shared messages)
plain-before P shared [] h = tt
plain-before P shared (m ∷ ms) h = (h.set, plain-before P shared ms h)

-- a mark saves the shared set
sent-has : (P : ℕ → Pair → Type 0) (side : Side) (message : Message) (shared : Shared) → (a b : Base) → IsMessage (record a { mode = Direct }) b message → SharedHas P shared → SharedHas P (shared_sent Direct side message shared)
sent-has P side (Transport unit) shared a b i h = h
sent-has P side (Session (OfAssociation word)) shared a b i h = h
sent-has P side (Session (OfData word)) shared a b i h = h
sent-has P side (Session (OfMarks (Mark number))) shared a b i h = record { set = h.set; inter = h.inter; saved = (h.set, h.saved); of_a = h.of_a; of_b = h.of_b }
sent-has P side (Session (OfMarks (MarkAck number))) shared a b i h = h
sent-has P side (Session (OfMarks (Restart number list))) shared a b i h = h
sent-has P side (Session (OfMarks (RestartAck number list))) shared a b i h = h
sent-has P side (Session (OfMarks (Give tokens))) shared a b i h = h
sent-has P side (Session (OfMarks (Please tokens values))) shared a b i h = h
sent-has P side (Session (OfMarks GiveConfirm)) shared a b i h = h
sent-has P side (Session (OfMarks GiveAck)) shared a b i h = h
sent-has P side (Session (OfActivities word)) shared a b i h = absurd i

all-sent_has : (P : ℕ → Pair → Type 0) (side : Side) (messages : List Message) (shared : Shared) → (a b : Base) → AreMessages (record a { mode = Direct }) b messages → SharedHas P shared → SharedHas P (shared_all_sent Direct side messages shared)
all-sent_has P side [] shared a b i h = h
all-sent_has P side (message ∷ messages) shared a b i h = all-sent_has P side messages (shared_sent Direct side message shared) a b i.1 (sent-has P side message shared a b i.0 h)

module _ (free : Free) (tables : Tables) (spellings : Spellings) (a b : Config) where
  abbrev common : Common
  common = direct_common tables spellings a b

  abbrev base : Role → Base
  base role = base_at role common

  abbrev first : List SetItem
  first = first_accepted common

  abbrev IsPlain : ℕ → Pair → Type 0
  IsPlain k pair = IsIdentifier k × ((pair.abstract_name ≡ tables.name_oid) ⊎ (pair_of first k ≡ Some pair))

  record Sure (body : Body) : Type 0 where
    held : IsKept first body.sets.held
    own : OwnSpares first body.sets.own
    opens : OpensLoose tables.name_oid first body.calls.opens
    saved : MarksKept first body.saved

  data Firmly (body : Body) : Type 0 where
    IsYoung : Young body → Firmly body
    IsSure : Sure body → Firmly body
    IsOver : body.link.phase ≡ Over → Firmly body

  record Does (later : Body) (sent : List Message) : Type 0 where
    firm : Firmly later
    loose : AreLoose tables.name_oid first sent

  abort-over : (body : Body) (c : Bool) → (sent_all Direct (over body) (if c then user_abort body.link.accepted 0 [] ∷ [] else [])).link.phase ≡ Over
  abort-over body true = refl
  abort-over body false = refl

  abort-loose : (body : Body) (c : Bool) → AreLoose tables.name_oid first (if c then user_abort body.link.accepted 0 [] ∷ [] else [])
  abort-loose body true = (tt, tt)
  abort-loose body false = tt

  -- the same but for what is said of it anew
  same-sure : (body later : Body) → later.sets ≡ body.sets → later.calls ≡ body.calls → later.saved ≡ body.saved → Sure body → Sure later
  same-sure body later s c m h =
      record {
        held = subst (λ (x : Sets). IsKept first x.held) (sym s) h.held;
        own = subst (λ (x : Sets). OwnSpares first x.own) (sym s) h.own;
        opens = subst (λ (x : Calls). OpensLoose tables.name_oid first x.opens) (sym c) h.opens;
        saved = subst (MarksKept first) (sym m) h.saved;
      }

  with-opens : (body : Body) (others : Calls) → OpensLoose tables.name_oid first others.opens → Sure body → Sure (record body { calls = others })
  with-opens body others l s = record { held = s.held; own = s.own; opens = l; saved = s.saved }

  module _ (writes : WritesAll free) (back : ReadsBack (base Initiator)) (right : ProposesRightly common) (ids : AreIdentifiers (proposals (base Initiator))) where
    -- ---- what is first accepted

    abbrev IsAccepted : ℕ → Pair → Type 0
    IsAccepted k pair = IsIdentifier k × (is_taken (base Responder) true pair.abstract_name ≡ true)

    first-taken : AllContexts IsAccepted first
    first-taken =
        added-contexts IsAccepted (base Responder) true (λ k pair i t. (i, t)) (proposals (base Initiator)) (opening_policy (base Responder) (proposals (base Initiator))) [] ids
        (answers-taken (base Responder) true 0 (proposals (base Initiator))) (none-contexts IsAccepted)

    first-plain : AllContexts IsPlain first
    first-plain = record { rising = first-taken.rising; each = λ k pair there. ((first-taken.each k pair there).0, inr there) }

    first-kept : IsKept first first
    first-kept = record { keeps = λ k e. refl; rising = opened-rising (proposals (base Initiator)) (opening_policy (base Responder) (proposals (base Initiator))) }

    -- ---- calls

    abbrev CallDoes : Role → Body → Call → Option ℤ → Type 0
    CallDoes role body call answer = Does (after_called Direct (base role) body call answer) (due_of (base role) body call (Ok answer))

    young-called : (role : Role) (body : Body) (call : Call) (answer : Option ℤ) → Young body → can_call (base role) body call ≡ Ok answer → CallDoes role body call answer
    young-called role body call answer y can = go y.phase
      where
        in-phase : (phase : Phase) → body.link.phase ≡ phase → is_phase_for call phase ≡ true
        in-phase phase e = ap (is_phase_for call) (sym e) ∙ (called (base role) body call answer can).in_phase

        go : (body.link.phase ≡ Idle) ⊎ (body.link.phase ≡ Opening) → CallDoes role body call answer
        go (inl e) =
            subst (λ c. CallDoes role body c answer) (sym (only-open call (in-phase Idle e)))
            (record { firm = IsYoung (record { phase = inr refl; calm = y.calm; opens = y.opens }); loose = (tt, tt) })
        go (inr e) =
            subst (λ c. CallDoes role body c answer) (sym (only-abort First call (in-phase Opening e)))
            (record { firm = IsOver (abort-over body (is_carrying body.link.stage)); loose = abort-loose body (is_carrying body.link.stage) })

    invoke-does : (role : Role) (body : Body) (context place : ℕ) (id : ℤ) (linked : Option ℤ) (o : Option Operation) (argument : Option Val) → IsLoose tables.name_oid first context → Sure body →
        Does (sent_all Direct (after_invoke (base role) body context place id linked o argument) (due_invoke (base role) body context id linked o argument)) (due_invoke (base role) body context id linked o argument)
    invoke-does role body context place id linked None argument l s = record { firm = IsSure s; loose = tt }
    invoke-does role body context place id linked (Some operation) argument l s =
        record { firm = IsSure (with-opens body _ (opened-loose tables.name_oid first (base role) _ (record body.calls { made = suc body.calls.made }) s.opens l) s); loose = ((l, tt), tt) }

    outcome-does : (role : Role) (body : Body) (id : ℤ) (o : Option OpenCall) (x : Option Apdu) → opened_with false id body.calls.opens ≡ o → Sure body →
        Does (sent_all Direct (after_outcome (base role) body id o x) (due_outcome (base role) body o x)) (due_outcome (base role) body o x)
    outcome-does role body id None None e s = record { firm = IsSure s; loose = tt }
    outcome-does role body id None (Some apdu) e s = record { firm = IsSure s; loose = tt }
    outcome-does role body id (Some o) None e s = record { firm = IsSure s; loose = tt }
    outcome-does role body id (Some o) (Some apdu) e s = go (carrier_in (base role) body o.context) refl
      where
        closes : Sure (answering id body)
        closes = with-opens body _ (closed-loose tables.name_oid first false id body.calls.opens s.opens) s

        go : (c : Option ℕ) → carrier_in (base role) body o.context ≡ c → Does (sent_all Direct (answering id body) (sent_at_once Direct body c apdu)) (sent_at_once Direct body c apdu)
        go None f = record { firm = IsSure closes; loose = tt }
        go (Some k) f = record { firm = IsSure closes; loose = ((carrier-loose tables.name_oid first body.sets.held body.sets.own o.context k s.held (found-loose tables.name_oid first false id body.calls.opens o s.opens e) f, tt), tt) }

    sure-called : (role : Role) (body : Body) (call : Call) (answer : Option ℤ) → Sure body → can_call (base role) body call ≡ Ok answer → CallDoes role body call answer
    sure-called role body the_calls.Open answer s can = record { firm = IsSure (same-sure body _ refl refl refl s); loose = (tt, tt) }
    sure-called role body (the_calls.Invoke context operation argument linked) None s can = record { firm = IsSure s; loose = tt }
    sure-called role body (the_calls.Invoke context operation argument linked) (Some id) s can =
        let p = passed (is_stopped (base role) body) refusals.Waiting _ (Some id) (called (base role) body (the_calls.Invoke context operation argument linked) (Some id) can).rows in
        let i = invokable (base role) body context operation (operation_at tables operation) argument linked (Some id) p.later in
        invoke-does role body context operation id linked (operation_at tables operation) argument (on-module_loose (base role) first body context s.held.keeps i.on_module) s
    sure-called role body (the_calls.Answer id result) answer s can = outcome-does role body id (opened_with false id body.calls.opens) (result_in (base role) body id result) refl s
    sure-called role body (the_calls.Refuse id error parameter) answer s can = outcome-does role body id (opened_with false id body.calls.opens) (error_for id parameter (error_at tables error)) refl s
    sure-called role body (the_calls.Alter add delete) answer s can =
        record {
          firm = IsSure (record { held = s.held; own = spares-append first body.sets.own (alteration add delete) s.own (spared (base role) first body (alteration add delete) answer (called (base role) body (the_calls.Alter add delete) answer can).rows s.held.keeps); opens = s.opens; saved = s.saved });
          loose = (tt, tt);
        }
    sure-called role body the_calls.Mark answer s can =
        record { firm = IsSure (record { held = s.held; own = s.own; opens = s.opens; saved = marks-more first (record { number = next_number body.saved; set = body.sets.held }) body.saved s.held s.saved }); loose = (tt, tt) }
    sure-called role body the_calls.Give answer s can = record { firm = IsSure (same-sure body _ refl refl refl s); loose = (tt, tt) }
    sure-called role body (the_calls.Please priority) answer s can = record { firm = IsSure s; loose = (tt, tt) }
    sure-called role body (the_calls.Resync n) answer s can = record { firm = IsSure (same-sure body _ refl refl refl s); loose = (tt, tt) }
    sure-called role body the_calls.Interrupt answer s can = let r = (called (base role) body the_calls.Interrupt answer can).rows in cc
    sure-called role body the_calls.Resume answer s can = let r = (called (base role) body the_calls.Resume answer can).rows in cc
    sure-called role body the_calls.Discard answer s can = let r = (called (base role) body the_calls.Discard answer can).rows in cc
    sure-called role body the_calls.Recover answer s can = record { firm = IsSure (same-sure body _ refl refl refl s); loose = (tt, tt) }
    sure-called role body the_calls.Release answer s can = record { firm = IsSure (same-sure body _ refl refl refl s); loose = (tt, tt) }
    sure-called role body the_calls.Abort answer s can = record { firm = IsOver (abort-over body (is_carrying body.link.stage)); loose = abort-loose body (is_carrying body.link.stage) }

    called-does : (role : Role) (body : Body) (call : Call) (answer : Option ℤ) → Firmly body → can_call (base role) body call ≡ Ok answer → CallDoes role body call answer
    called-does role body call answer (IsYoung y) can = young-called role body call answer y can
    called-does role body call answer (IsSure s) can = sure-called role body call answer s can
    called-does role body call answer (IsOver e) can = absurd (over-calls (base role) body call answer e can)

    -- ---- words that are taken

    abbrev WordDoes : Role → Body → Word → Type 0
    WordDoes role body word = Does (after_word (base role) body word) (answers_to_word (base role) body word)

    abbrev InPlace : Role → Body → Word → Type 0
    InPlace role body word = is_in_place (base role) body (unit_of word) ≡ true

    -- before an association stands only these come
    abbrev IsEarly : Word → Type 0
    IsEarly (OfAssociation (Connect session presentation values)) = Unit {0}
    IsEarly (OfAssociation (Accept session presentation values)) = Unit {0}
    IsEarly (OfAssociation (Abort transport user)) = Unit {0}
    IsEarly word = ⊥

    early : (role : Role) (body : Body) (word : Word) → IsWord (base Initiator) (base Responder) word → InPlace role body word → Young body → IsEarly word
    early role body (OfAssociation (Connect session presentation values)) i in_place y = tt
    early role body (OfAssociation (Accept session presentation values)) i in_place y = tt
    early role body (OfAssociation (Refuse transport reason presentation values)) i in_place y = absurd i
    early role body (OfAssociation (Finish transport values)) i in_place y =
        absurd (clash (is_up body.link.phase) (and-right (not (is_initiator role)) (is_up body.link.phase) (and-left (not (is_initiator role) && is_up body.link.phase) true in_place)) (not-up body y))
    early role body (OfAssociation (Disconnect values)) i in_place y = absurd (clash (awaits_release body.link.awaits) in_place (ap awaits_release y.calm))
    early role body (OfAssociation (Abort transport user)) i in_place y = tt
    early role body (OfAssociation AbortAccept) i in_place y = absurd i
    early role body (OfData (Values values)) i in_place y = absurd (clash (is_up body.link.phase) (and-left (is_up body.link.phase) true in_place) (not-up body y))
    early role body (OfData (AlterContext add delete)) i in_place y = absurd (clash (is_up body.link.phase) (and-left (is_up body.link.phase) (has_typed_data body.link.selected) in_place) (not-up body y))
    early role body (OfData (AlterContextAck answers)) i in_place y = absurd (clash (is_up body.link.phase) (and-left (is_up body.link.phase) (has_typed_data body.link.selected) in_place) (not-up body y))
    early role body (OfMarks (Mark n)) i in_place y =
        absurd (clash (is_up body.link.phase)
        (and-left (is_up body.link.phase) (not body.link.turn) (and-left (is_peers body) (has_marks body.link.selected) (and-left (is_peers body && has_marks body.link.selected) true (and-left _ (nat_eq n (next_number body.saved)) (and-left _ (nat_le n most_marks) in_place)))))
        (not-up body y))
    early role body (OfMarks (MarkAck n)) i in_place y = absurd i
    early role body (OfMarks (Restart n list)) i in_place y =
        absurd (clash (is_up body.link.phase)
        (and-left (is_up body.link.phase) (has_restarts body.link.selected) (and-left (is_up body.link.phase && has_restarts body.link.selected) (nat_le 1 n) (and-left _ (nat_le n (next_number body.saved)) in_place)))
        (not-up body y))
    early role body (OfMarks (RestartAck n list)) i in_place y = let none : is_in_place (base role) body (unit_of (OfMarks (RestartAck n list))) ≡ false = ap (λ w. awaits_restart w n) y.calm in absurd (clash _ in_place none)
    early role body (OfMarks (Give None)) i in_place y = absurd (not-there (ap is_some i))
    early role body (OfMarks (Give (Some tokens))) i in_place y =
        absurd (clash (is_up body.link.phase) (and-left (is_up body.link.phase) (not body.link.turn) (and-right (has_marks body.link.selected) (is_peers body) in_place)) (not-up body y))
    early role body (OfMarks (Please None values)) i in_place y = absurd (not-there (ap is_some i.0))
    early role body (OfMarks (Please (Some tokens) values)) i in_place y = absurd (clash (is_up body.link.phase) (and-left (is_up body.link.phase) (has_token (base role) body) in_place) (not-up body y))
    early role body (OfMarks GiveConfirm) i in_place y = absurd i
    early role body (OfMarks GiveAck) i in_place y = absurd i
    early role body (OfActivities word) i in_place y = absurd i

    opened-sure : (later : Body) → later.sets.held ≡ first → later.sets.own ≡ [] → OpensLoose tables.name_oid first later.calls.opens → later.saved ≡ record { number = 0; set = first } ∷ [] → Sure later
    opened-sure later h o l sv =
        record { held = subst (IsKept first) (sym h) first-kept; own = subst (OwnSpares first) (sym o) tt; opens = l; saved = subst (MarksKept first) (sym sv) (refl, first-kept) }

    connects : (role : Role) (body : Body) → (not (is_initiator role) && is_joined body.link.stage) ≡ true → WordDoes role body (OfAssociation (the_connect (base Initiator) false))
    connects Initiator body h = cc
    connects Responder body h =
        subst (λ r. Does (if r then refused_connect body else accepted_connect (base Responder) body (session_connect (base Initiator)) (presentation_connect (base Initiator)) (connect_values (base Initiator) false))
        (if r then refusal_message (base Responder) body (session_connect (base Initiator)) (presentation_connect (base Initiator)) (connect_values (base Initiator) false) ∷ [] else acceptance_message (base Responder) (session_connect (base Initiator)) (presentation_connect (base Initiator)) (connect_values (base Initiator) false) ∷ []))
        (sym (none-refused tables spellings a b body right ids))
        (record { firm = IsSure (opened-sure _ refl refl tt refl); loose = (tt, tt) })

    abbrev AcceptDoes : Role → Body → Message → Type 0
    AcceptDoes role body (Session (OfAssociation (Accept session presentation values))) = Firmly (after_accept (base role) body session presentation values)
    AcceptDoes role body message = Unit {0}

    accepts : (role : Role) (body : Body) → is_initiator role ≡ true → OpensLoose tables.name_oid first body.calls.opens → AcceptDoes role body (the_acceptance (base Initiator) (base Responder) false)
    accepts Initiator body h l = IsSure (opened-sure _ refl refl l refl)
    accepts Responder body h l = cc

    accepted-does : (role : Role) (body : Body) (session : Accepting) (presentation : PresentationAccept) (values : List DataValue) → IsWord (base Initiator) (base Responder) (OfAssociation (Accept session presentation values)) → InPlace role body (OfAssociation (Accept session presentation values)) → OpensLoose tables.name_oid first body.calls.opens → WordDoes role body (OfAssociation (Accept session presentation values))
    accepted-does role body session presentation values i in_place l =
        record {
          firm =
              subst (AcceptDoes role body) (sym i.1)
              (accepts role body (and-left (is_initiator role) (is_carrying body.link.stage) (and-left (is_initiator role && is_carrying body.link.stage) (is_opening body.link.phase) (and-left _ (has_version_two session.version) (and-left _ (has_units (needed_units Direct) (selected_with Direct session.requirements)) in_place)))) l);
          loose = tt;
        }

    rejecting : (role : Role) (body : Body) (context : ℕ) (r : Option Rejecting) → IsLoose tables.name_oid first context → Sure body → Does (with_reject (base role) body context r).body ((with_reject (base role) body context r).answers ++ [])
    rejecting role body context None l s = record { firm = IsSure s; loose = tt }
    rejecting role body context (Some r) l s = go (carrier_in (base role) body context) refl
      where
        go : (c : Option ℕ) → carrier_in (base role) body context ≡ c → Does (sent_on body r c).body ((sent_on body r c).answers ++ [])
        go None e = record { firm = IsSure s; loose = tt }
        go (Some k) e = record { firm = IsSure s; loose = ((carrier-loose tables.name_oid first body.sets.held body.sets.own context k s.held l e, tt), tt) }

    data-taken : (role : Role) (body : Body) (item : Item) → IsLoose tables.name_oid first item.id → Sure body → WordDoes role body (OfData (Values (value_of_item item ∷ [])))
    data-taken role body item l s =
        let heard = hear (base role) body.calls item.id (head_of_apdu item.apdu) in
        let r = rejecting role (record body { calls = heard.calls }) item.id heard.reject l (with-opens body heard.calls (apdu-loose tables.name_oid first (base role) body.calls s.opens item.id item.apdu l) s) in
        record { firm = r.firm; loose = r.loose }

    settled-firm : (body : Body) (own : List Alteration) (answers : Answers) → body.sets.own ≡ own → Sure body → Firmly (settled own answers body)
    settled-firm body [] answers e s = IsSure s
    settled-firm body (x ∷ own) answers e s =
        let o : OwnSpares first (x ∷ own) = subst (OwnSpares first) e s.own in
        IsSure (record { held = settled-kept first x own answers body.sets.held o s.held; own = o.1; opens = s.opens; saved = s.saved })

    restarted-firm : (role : Role) (body : Body) (n : ℕ) → 1 ≤ n → Sure body → (later : Body) → later ≡ after_word (base role) body (OfMarks (Restart n None)) → Firmly later
    restarted-firm role body n low s later e =
        let m = below-kept first n body.saved low s.saved in
        subst Firmly (sym e) (IsSure (record { held = newest-kept first (below n body.saved) m; own = tt; opens = tt; saved = m }))

    sure-word : (role : Role) (body : Body) (word : Word) → IsWord (base Initiator) (base Responder) word → LooseIn tables.name_oid first (Session word) → InPlace role body word → fault_above (base role) body word ≡ None → Sure body → WordDoes role body word
    sure-word role body (OfAssociation (Connect session presentation values)) i l in_place above s = subst (λ w. WordDoes role body (OfAssociation w)) (sym i.1) (connects role body in_place)
    sure-word role body (OfAssociation (Accept session presentation values)) i l in_place above s = accepted-does role body session presentation values i in_place s.opens
    sure-word role body (OfAssociation (Refuse transport reason presentation values)) i l in_place above s = absurd i
    sure-word role body (OfAssociation (Finish transport values)) i l in_place above s = record { firm = IsOver refl; loose = (tt, tt) }
    sure-word role body (OfAssociation (Disconnect values)) i l in_place above s = record { firm = IsOver refl; loose = tt }
    sure-word role body (OfAssociation (Abort transport user)) i l in_place above s = record { firm = IsOver refl; loose = tt }
    sure-word role body (OfAssociation AbortAccept) i l in_place above s = absurd i
    sure-word role body (OfData (Values values)) i l in_place above s =
        let m : AllLoose tables.name_oid first (value_of_item i.item ∷ []) = subst (AllLoose tables.name_oid first) i.is_one l in
        subst (λ vs. WordDoes role body (OfData (Values vs))) (sym i.is_one) (data-taken role body i.item m.0 s)
    sure-word role body (OfData (AlterContext add delete)) i l in_place above s =
        let proposes : is_faulty_proposal (not (is_initiator role)) body.sets.held add ≡ false =
        no-fault (is_faulty_proposal (not (is_initiator role)) body.sets.held add) invalid_ppdu
        (none-second (fault_if (not body.link.manages || false) unexpected_ppdu) (fault_if (is_faulty_proposal (not (is_initiator role)) body.sets.held add) invalid_ppdu) above) in
        record { firm = IsSure (record { held = answered-kept (base role) first body (alteration add delete) proposes s.held; own = s.own; opens = s.opens; saved = s.saved }); loose = (tt, tt) }
    sure-word role body (OfData (AlterContextAck answers)) i l in_place above s = record { firm = settled-firm body body.sets.own answers refl s; loose = tt }
    sure-word role body (OfMarks (Mark n)) i l in_place above s =
        record { firm = IsSure (record { held = s.held; own = s.own; opens = s.opens; saved = marks-more first (record { number = n; set = body.sets.held }) body.saved s.held s.saved }); loose = tt }
    sure-word role body (OfMarks (MarkAck n)) i l in_place above s = absurd i
    sure-word role body (OfMarks (Restart n list)) i l in_place above s = record { firm = restarted-firm role body n i.low s _ refl; loose = (tt, tt) }
    sure-word role body (OfMarks (RestartAck n list)) i l in_place above s = record { firm = restarted-firm role body n i.low s _ refl; loose = tt }
    sure-word role body (OfMarks (Give None)) i l in_place above s = record { firm = IsSure s; loose = tt }
    sure-word role body (OfMarks (Give (Some tokens))) i l in_place above s = record { firm = IsSure (same-sure body _ refl refl refl s); loose = tt }
    sure-word role body (OfMarks (Please tokens values)) i l in_place above s = record { firm = IsSure s; loose = tt }
    sure-word role body (OfMarks GiveConfirm) i l in_place above s = absurd i
    sure-word role body (OfMarks GiveAck) i l in_place above s = absurd i
    sure-word role body (OfActivities word) i l in_place above s = absurd i

    young-word : (role : Role) (body : Body) (word : Word) → IsWord (base Initiator) (base Responder) word → InPlace role body word → IsEarly word → Young body → WordDoes role body word
    young-word role body (OfAssociation (Connect session presentation values)) i in_place e y = subst (λ w. WordDoes role body (OfAssociation w)) (sym i.1) (connects role body in_place)
    young-word role body (OfAssociation (Accept session presentation values)) i in_place e y = accepted-does role body session presentation values i in_place (subst (OpensLoose tables.name_oid first) (sym y.opens) tt)
    young-word role body (OfAssociation (Abort transport user)) i in_place e y = record { firm = IsOver refl; loose = tt }
    young-word role body word i in_place e y = absurd e

    -- ---- units of the transport

    unit-does : (role : Role) (body : Body) (unit : TransportUnit) → IsUnit (base Initiator) unit → Firmly body → passes_over body.link.phase ≡ false → Does (after_transport (base role) body unit) (answers_to_transport (base role) body unit)
    unit-does role body (ConnectionRequest source size calling other_) i f alive = subst (λ u. Does (after_transport (base role) body u) (answers_to_transport (base role) body u)) (sym i) (record { firm = asked f; loose = (tt, tt) })
      where
        asked : Firmly body → Firmly (after_transport (base role) body (ConnectionRequest 1 (Some 10) a.calling a.called))
        asked (IsYoung y) = IsYoung (record { phase = inr (opens y.phase); calm = y.calm; opens = y.opens })
          where
            opens : (body.link.phase ≡ Idle) ⊎ (body.link.phase ≡ Opening) → phase_asked body.link.phase true ≡ Opening
            opens (inl e) = ap (λ p. phase_asked p true) e
            opens (inr e) = ap (λ p. phase_asked p true) e
        asked (IsSure s) = IsSure (same-sure body _ refl refl refl s)
        asked (IsOver e) = absurd (clash (passes_over body.link.phase) (ap passes_over e) alive)
    unit-does role body (ConnectionConfirm destination size) i f alive = record { firm = confirmed f; loose = (tt, tt) }
      where
        confirmed : Firmly body → Firmly (after_transport (base role) body (ConnectionConfirm destination size))
        confirmed (IsYoung y) = IsYoung (record { phase = y.phase; calm = y.calm; opens = y.opens })
        confirmed (IsSure s) = IsSure (same-sure body _ refl refl refl s)
        confirmed (IsOver e) = IsOver e
    unit-does role body (DisconnectRequest destination) i f alive = absurd i
    unit-does role body TransportError i f alive = absurd i

    -- ---- takings

    record Took (role : Role) (body : Body) (word : Word) (later : Body) (answers : List Message) : Type 0 where
      alive : passes_over body.link.phase ≡ false
      fine : word_fault (base role) body word ≡ None
      later_is : after_word (base role) body word ≡ later
      answers_are : answers_to_word (base role) body word ≡ answers

    took : (role : Role) (body : Body) (word : Word) (later : Body) (answers : List Message) (shown : List Indication) → react (base role) body (Session word) ≡ Takes later answers shown → Took role body word later answers
    took role body word later answers shown h = go (passes_over body.link.phase) refl (is_joined body.link.stage || is_carrying body.link.stage) (is_purged (is_initiator role) body.link.awaits (unit_of word)) (word_fault (base role) body word) refl h
      where
        go : (p : Bool) → passes_over body.link.phase ≡ p → (q u : Bool) (f : Option Fault) → word_fault (base role) body word ≡ f → (if p then Passes else (if not q then failing body body.link.accepted transport_fault else (if u then Passes else on_word (base role) body word f))) ≡ Takes later answers shown → Took role body word later answers
        go true e q u f g h = cc
        go false e false u f g h = cc
        go false e true true f g h = cc
        go false e true false (Some fault) g h = cc
        go false e true false None g h =
            let x : after_word (base role) body word ≡ later = cc in
            let y : answers_to_word (base role) body word ≡ answers = cc in
            record { alive = e; fine = g; later_is = x; answers_are = y }

    word-does : (role : Role) (body : Body) (word : Word) → IsWord (base Initiator) (base Responder) word → LooseIn tables.name_oid first (Session word) → word_fault (base role) body word ≡ None → passes_over body.link.phase ≡ false → Firmly body → WordDoes role body word
    word-does role body word i l fine alive (IsYoung y) = let p = in-place (base role) body word fine in young-word role body word i p (early role body word i p y) y
    word-does role body word i l fine alive (IsSure s) = sure-word role body word i l (in-place (base role) body word fine) (nothing-above (base role) body word fine) s
    word-does role body word i l fine alive (IsOver e) = absurd (clash (passes_over body.link.phase) (ap passes_over e) alive)

    -- what is answered leaves the shared set plain
    word-has : (role : Role) (body : Body) (word : Word) → IsWord (base Initiator) (base Responder) word → InPlace role body word → AnswersHave IsPlain (Session word) (answers_to_word (base role) body word)
    word-has role body (OfAssociation (Connect session presentation values)) i in_place = subst (λ w. AnswersHave IsPlain (Session (OfAssociation w)) (answers_to_word (base role) body (OfAssociation w))) (sym i.1) (go role in_place)
      where
        go : (r : Role) → (not (is_initiator r) && is_joined body.link.stage) ≡ true → AnswersHave IsPlain (Session (OfAssociation (the_connect (base Initiator) false))) (answers_to_word (base r) body (OfAssociation (the_connect (base Initiator) false)))
        go Initiator h = cc
        go Responder h =
            subst (λ q. AnswersHave IsPlain (Session (OfAssociation (the_connect (base Initiator) false))) (if q then refusal_message (base Responder) body (session_connect (base Initiator)) (presentation_connect (base Initiator)) (connect_values (base Initiator) false) ∷ [] else acceptance_message (base Responder) (session_connect (base Initiator)) (presentation_connect (base Initiator)) (connect_values (base Initiator) false) ∷ []))
            (sym (none-refused tables spellings a b body right ids)) (first-plain, tt)
    word-has role body (OfAssociation (Accept session presentation values)) i in_place = tt
    word-has role body (OfAssociation (Refuse transport reason presentation values)) i in_place = tt
    word-has role body (OfAssociation (Finish transport values)) i in_place = (tt, tt)
    word-has role body (OfAssociation (Disconnect values)) i in_place = tt
    word-has role body (OfAssociation (Abort transport user)) i in_place = tt
    word-has role body (OfAssociation AbortAccept) i in_place = tt
    word-has role body (OfData (Values values)) i in_place = subst (λ vs. AnswersHave IsPlain (Session (OfData (Values vs))) (answers_to_word (base role) body (OfData (Values vs)))) (sym i.is_one) (rejects (hear (base role) body.calls i.item.id (head_of_apdu i.item.apdu)).reject)
      where
        later : Body
        later = record body { calls = (hear (base role) body.calls i.item.id (head_of_apdu i.item.apdu)).calls }

        rejects : (r : Option Rejecting) → AnswersHave IsPlain (Session (OfData (Values (value_of_item i.item ∷ [])))) ((with_reject (base role) (record body { calls = (hear (base role) body.calls i.item.id (head_of_apdu i.item.apdu)).calls }) i.item.id r).answers ++ [])
        rejects None = tt
        rejects (Some r) = go (carrier_in (base role) body i.item.id)
          where
            go : (c : Option ℕ) → AnswersHave IsPlain (Session (OfData (Values (value_of_item i.item ∷ [])))) ((sent_on (record body { calls = (hear (base role) body.calls i.item.id (head_of_apdu i.item.apdu)).calls }) r c).answers ++ [])
            go None = tt
            go (Some k) = (tt, tt)
    word-has role body (OfData (AlterContext add delete)) i in_place =
        ((λ set all. answered-contexts IsPlain (base role) body (alteration add delete) (λ k pair j t. (j, inl (module-taken (base role) pair.abstract_name t))) set (few-identifiers add i.added) all), tt)
    word-has role body (OfData (AlterContextAck answers)) i in_place = tt
    word-has role body (OfMarks (Mark n)) i in_place = tt
    word-has role body (OfMarks (MarkAck n)) i in_place = tt
    word-has role body (OfMarks (Restart n list)) i in_place = (tt, tt)
    word-has role body (OfMarks (RestartAck n list)) i in_place = tt
    word-has role body (OfMarks (Give tokens)) i in_place = tt
    word-has role body (OfMarks (Please tokens values)) i in_place = tt
    word-has role body (OfMarks GiveConfirm) i in_place = absurd i
    word-has role body (OfMarks GiveAck) i in_place = absurd i
    word-has role body (OfActivities word) i in_place = absurd i

    unit-has : (role : Role) (body : Body) (unit : TransportUnit) → AnswersHave IsPlain (Transport unit) (answers_to_transport (base role) body unit)
    unit-has role body (ConnectionRequest source size calling other_) = go (is_size size)
      where
        go : (s : Bool) → AnswersHave IsPlain (Transport (ConnectionRequest source size calling other_)) (answer_to_request source size s ∷ [])
        go true = (tt, tt)
        go false = (tt, tt)
    unit-has role body (ConnectionConfirm destination size) = (tt, tt)
    unit-has role body (DisconnectRequest destination) = tt
    unit-has role body TransportError = tt

    record Taken (message : Message) (later : Body) (answers : List Message) : Type 0 where
      does : Does later answers
      has : AnswersHave IsPlain message answers

    taken : (role : Role) (body : Body) (message : Message) (later : Body) (answers : List Message) (shown : List Indication) → IsMessage (base Initiator) (base Responder) message → LooseIn tables.name_oid first message → Firmly body → react (base role) body message ≡ Takes later answers shown → Taken message later answers
    taken role body (Transport unit) later answers shown i l f h =
        let t = took-unit (base role) body unit later answers shown h in
        let d = unit-does role body unit i f t.alive in
        subst (λ z. Taken (Transport unit) z answers) (sym t.later_is) (subst (Taken (Transport unit) (after_transport (base role) body unit)) (sym t.answers_are) (record { does = d; has = unit-has role body unit }))
    taken role body (Session word) later answers shown i l f h =
        let t = took role body word later answers shown h in
        let d = word-does role body word i l t.fine t.alive f in
        subst (λ z. Taken (Session word) z answers) t.later_is (subst (Taken (Session word) (after_word (base role) body word)) t.answers_are (record { does = d; has = word-has role body word i (in-place (base role) body word t.fine) }))

    -- ---- breaks

    broke-firm : (role : Role) (body : Body) → Firmly body → Firmly (after_broke (base role) body)
    broke-firm role body (IsYoung y) = go y.phase
      where
        go : (body.link.phase ≡ Idle) ⊎ (body.link.phase ≡ Opening) → Firmly (after_broke (base role) body)
        go (inl e) = IsYoung (record { phase = inl (ap (broken_phase Direct) e); calm = refl; opens = refl })
        go (inr e) = IsOver (ap (broken_phase Direct) e)
    broke-firm role body (IsSure s) = IsSure (record { held = s.held; own = s.own; opens = tt; saved = s.saved })
    broke-firm role body (IsOver e) = IsOver (ap (broken_phase Direct) e)

    -- ---- two ends

    record Placed (two : Two) (shared : Shared) (sets : SetsSent) : Type 0 where
      of_a : Firmly two.a
      of_b : Firmly two.b
      to_a : AreLoose tables.name_oid first two.to_a
      to_b : AreLoose tables.name_oid first two.to_b
      shared_has : SharedHas IsPlain shared
      sets_a : AllPlain IsPlain sets.to_a
      sets_b : AllPlain IsPlain sets.to_b

    loose-append : (xs ys : List Message) → AreLoose tables.name_oid first xs → AreLoose tables.name_oid first ys → AreLoose tables.name_oid first (xs ++ ys)
    loose-append [] ys h k = k
    loose-append (x ∷ xs) ys h k = (h.0, loose-append xs ys h.1 k)

    firm-at : (role : Role) (two : Two) (shared : Shared) (sets : SetsSent) → Placed two shared sets → Firmly (body_at role two)
    firm-at Initiator two shared sets p = p.of_a
    firm-at Responder two shared sets p = p.of_b

    coming-loose : (role : Role) (two : Two) (shared : Shared) (sets : SetsSent) → Placed two shared sets → AreLoose tables.name_oid first (coming_to role two)
    coming-loose Initiator two shared sets p = p.to_a
    coming-loose Responder two shared sets p = p.to_b

    sets-plain : (role : Role) (two : Two) (shared : Shared) (sets : SetsSent) → Placed two shared sets → AllPlain IsPlain (sets_to role sets)
    sets-plain Initiator two shared sets p = p.sets_a
    sets-plain Responder two shared sets p = p.sets_b

    step : (role : Role) (two : Two) (shared new : Shared) (sets : SetsSent) (later : Body) (left sent : List Message) (rest : List (List SetItem)) → Placed two shared sets → Firmly later → AreLoose tables.name_oid first left → AreLoose tables.name_oid first sent → AllPlain IsPlain rest → SharedHas IsPlain new → Placed (stepped role later left sent two) new (sets_stepped role rest (before shared sent) sets)
    step Initiator two shared new sets later left sent rest p f l m r h =
        record { of_a = f; of_b = p.of_b; to_a = l; to_b = loose-append two.to_b sent p.to_b m; shared_has = h; sets_a = r; sets_b = plain-append IsPlain sets.to_b (before shared sent) p.sets_b (plain-before IsPlain shared sent p.shared_has) }
    step Responder two shared new sets later left sent rest p f l m r h =
        record { of_a = p.of_a; of_b = f; to_a = loose-append two.to_a sent p.to_a m; to_b = l; shared_has = h; sets_a = plain-append IsPlain sets.to_a (before shared sent) p.sets_a (plain-before IsPlain shared sent p.shared_has); sets_b = r }

    record PlacedIn (two : Two) (ledger : Ledger) : Type 0 where
      sets : SetsSent
      shares : Shares common two ledger.shared sets
      placed : Placed two ledger.shared sets

    abbrev kept : (two : Two) (shared : Shared) (sets : SetsSent) → Shares common two shared sets → machine.Kept free tables spellings a b two shared sets
    kept = machine.all-kept free tables spellings a b writes back right

    sent-said : (role : Role) (two : Two) (ledger : Ledger) (call : Call) (answer : Option ℤ) (g : ReachedWithLedger common two ledger) → IsCall call → AreCalls common two ledger g → can_call (base role) (body_at role two) call ≡ Ok answer → AreMessages (base Initiator) (base Responder) (due_of (base role) (body_at role two) call (Ok answer))
    sent-said role two ledger call answer g i c h = called-said free tables spellings a b writes back right ids role two ledger call answer g i c h

    all-placed : (two : Two) (ledger : Ledger) (g : ReachedWithLedger common two ledger) → AreCalls common two ledger g → PlacedIn two ledger
    all-placed two ledger begins c =
        record {
          sets = none_sent;
          shares = sharing.begins;
          placed =
              record {
                of_a = IsYoung (record { phase = inl refl; calm = refl; opens = refl });
                of_b = IsYoung (record { phase = inl refl; calm = refl; opens = refl });
                to_a = tt;
                to_b = tt;
                shared_has = record { set = none-contexts IsPlain; inter = none-contexts IsPlain; saved = tt; of_a = tt; of_b = tt };
                sets_a = tt;
                sets_b = tt;
              };
        }
    all-placed two ledger (calls x l role call answer g h) c =
        let o = all-placed x l g c.1 in
        let p = o.placed in
        let d = called-does role (body_at role x) call answer (firm-at role x l.shared o.sets p) h in
        record {
          sets = _;
          shares = sharing.calls x l.shared o.sets role call answer o.shares h;
          placed =
              step role x l.shared (shared_all_sent Direct (side_of role) (due_of (base role) (body_at role x) call (Ok answer)) l.shared) o.sets (after_called Direct (base role) (body_at role x) call answer) (coming_to role x) (due_of (base role) (body_at role x) call (Ok answer)) (sets_to role o.sets) p
              d.firm (coming-loose role x l.shared o.sets p) d.loose (sets-plain role x l.shared o.sets p)
              (all-sent_has IsPlain (side_of role) (due_of (base role) (body_at role x) call (Ok answer)) l.shared (base Initiator) (base Responder) (sent-said role x l call answer g c.0 c.1 h) p.shared_has);
        }
    all-placed two ledger (acts x l role own g h) c = let none : None ≡ Some own = sym (no-own free tables spellings a b role (body_at role x)) ∙ h in absurd cc
    all-placed two ledger (takes x l role message left body answers shown g e h) c =
        let o = all-placed x l g c in
        let p = o.placed in
        let n = sets-there free tables spellings a b x l.shared o.sets role message left (kept x l.shared o.sets o.shares) e in
        let s : AreMessages (base Initiator) (base Responder) (message ∷ left) = subst (AreMessages (base Initiator) (base Responder)) e (coming-said free tables spellings a b writes back right ids role x (all-said free tables spellings a b writes back right ids x l g c)) in
        let m : AreLoose tables.name_oid first (message ∷ left) = subst (AreLoose tables.name_oid first) e (coming-loose role x l.shared o.sets p) in
        let t = taken role (body_at role x) message body answers shown s.0 m.0 (firm-at role x l.shared o.sets p) h in
        let r : AllPlain IsPlain (n.first ∷ n.rest) = subst (AllPlain IsPlain) n.is_it (sets-plain role x l.shared o.sets p) in
        record {
          sets = _;
          shares = sharing.takes x l.shared o.sets role message left n.first n.rest body answers shown o.shares e n.is_it h;
          placed =
              step role x l.shared (shared_all_answered (base role) message answers l.shared) o.sets body left answers n.rest p t.does.firm m.1 t.does.loose r.1
              (all-answered_has IsPlain (base role) message answers l.shared t.has p.shared_has);
        }
    all-placed two ledger (passes x l role message left g e h) c =
        let o = all-placed x l g c in
        let p = o.placed in
        let n = sets-there free tables spellings a b x l.shared o.sets role message left (kept x l.shared o.sets o.shares) e in
        let m : AreLoose tables.name_oid first (message ∷ left) = subst (AreLoose tables.name_oid first) e (coming-loose role x l.shared o.sets p) in
        let r : AllPlain IsPlain (n.first ∷ n.rest) = subst (AllPlain IsPlain) n.is_it (sets-plain role x l.shared o.sets p) in
        record {
          sets = _;
          shares = sharing.passes x l.shared o.sets role message left n.first n.rest o.shares e n.is_it h;
          placed = step role x l.shared l.shared o.sets (body_at role x) left [] n.rest p (firm-at role x l.shared o.sets p) m.1 tt r.1 p.shared_has;
        }
    all-placed two ledger (fails x l role message left fault body aborts shown g e h) c =
        let o = all-placed x l g c in
        let k = kept x l.shared o.sets o.shares in
        let n = sets-there free tables spellings a b x l.shared o.sets role message left k e in
        absurd (machine.never-fails free tables spellings a b x l.shared o.sets role message left n.rest fault body aborts shown
        (machine.handles free tables spellings a b x l.shared o.sets role message left n.first n.rest writes right k e n.is_it) h)
    all-placed two ledger (breaks x l g) c =
        let o = all-placed x l g c in
        let p = o.placed in
        record {
          sets = none_sent;
          shares = sharing.breaks x l.shared o.sets o.shares;
          placed = record { of_a = broke-firm Initiator x.a p.of_a; of_b = broke-firm Responder x.b p.of_b; to_a = tt; to_b = tt; shared_has = p.shared_has; sets_a = tt; sets_b = tt };
        }

    -- ---- what is taken

    on-acse : (role : Role) (body : Body) (word : Word) → IsWord (base Initiator) (base Responder) word → (IsEarly word → ⊥) → InPlace role body word → passes_over body.link.phase ≡ false → Firmly body → pair_of body.sets.held 1 ≡ Some acse_pair
    on-acse role body word i late in_place alive (IsYoung y) = absurd (late (early role body word i in_place y))
    on-acse role body word i late in_place alive (IsSure s) =
        let f = first-pair tables spellings a b right ids in s.held.keeps 1 (ap is_fixed f) ∙ f
    on-acse role body word i late in_place alive (IsOver e) = absurd (clash (passes_over body.link.phase) (ap passes_over e) alive)

    one-named : (k : ℕ) (pair : Pair) → IsLoose tables.name_oid first k → IsPlain k pair → pair.abstract_name ≡ tables.name_oid
    one-named k pair l (i, inl n) = n
    one-named k pair l (i, inr there) = module-or_others (base Responder) pair (first-taken.each k pair there).1 (ap (is_others tables.name_oid) (sym there) ∙ l)

    taken-rightly : (two : Two) (ledger : Ledger) (g : ReachedWithLedger common two ledger) → AreCalls common two ledger g → (role : Role) (word : Word) (left : List Message) (body : Body) (answers : List Message) (shown : List Indication) → coming_to role two ≡ Session word ∷ left → react (base role) (body_at role two) (Session word) ≡ Takes body answers shown → IsTaken (base role) (body_at role two) word
    taken-rightly two ledger g c role word left body answers shown e h = go word e h
      where
        p : Placed two ledger.shared (all-placed two ledger g c).sets
        p = (all-placed two ledger g c).placed

        comes : (w : Word) → coming_to role two ≡ Session w ∷ left → IsWord (base Initiator) (base Responder) w
        comes w e = (subst (AreMessages (base Initiator) (base Responder)) e (coming-said free tables spellings a b writes back right ids role two (all-said free tables spellings a b writes back right ids two ledger g c))).0

        there : (w : Word) → coming_to role two ≡ Session w ∷ left → react (base role) (body_at role two) (Session w) ≡ Takes body answers shown → (IsEarly w → ⊥) → pair_of (body_at role two).sets.held 1 ≡ Some acse_pair
        there w e h late =
            let t = took role (body_at role two) w body answers shown h in
            on-acse role (body_at role two) w (comes w e) late (in-place (base role) (body_at role two) w t.fine) t.alive (firm-at role two ledger.shared (all-placed two ledger g c).sets p)

        go : (w : Word) → coming_to role two ≡ Session w ∷ left → react (base role) (body_at role two) (Session w) ≡ Takes body answers shown → IsTaken (base role) (body_at role two) w
        go (OfData (Values values)) e h = λ item is.
            let e_one : coming_to role two ≡ Session (OfData (Values (value_of_item item ∷ []))) ∷ left = e ∙ ap (λ vs. Session (OfData (Values vs)) ∷ left) is in
            let h_one : react (base role) (body_at role two) (Session (OfData (Values (value_of_item item ∷ [])))) ≡ Takes body answers shown = subst (λ vs. react (base role) (body_at role two) (Session (OfData (Values vs))) ≡ Takes body answers shown) is h in
            let n = sets-there free tables spellings a b two ledger.shared (all-placed two ledger g c).sets role (Session (OfData (Values (value_of_item item ∷ [])))) left (kept two ledger.shared (all-placed two ledger g c).sets (all-placed two ledger g c).shares) e_one in
            let s = direct-as_sent free tables spellings a b writes back right two ledger.shared (all-placed two ledger g c).sets role (value_of_item item) left n.first n.rest body answers shown (all-placed two ledger g c).shares e_one n.is_it h_one in
            let m : AreLoose tables.name_oid first (Session (OfData (Values (value_of_item item ∷ []))) ∷ left) = subst (AreLoose tables.name_oid first) e_one (coming-loose role two ledger.shared (all-placed two ledger g c).sets p) in
            let r : AllPlain IsPlain (n.first ∷ n.rest) = subst (AllPlain IsPlain) n.is_it (sets-plain role two ledger.shared (all-placed two ledger g c).sets p) in
            record { there = s.0; named = one-named item.id item.pair m.0.0 (r.0.each item.id item.pair s.1) }
        go (OfAssociation (Finish transport values)) e h = there (OfAssociation (Finish transport values)) e h (λ x. x)
        go (OfAssociation (Disconnect values)) e h = there (OfAssociation (Disconnect values)) e h (λ x. x)
        go (OfData (AlterContext add delete)) e h = tt
        go (OfData (AlterContextAck answers_)) e h = tt
        go (OfAssociation (Connect session presentation values)) e h = tt
        go (OfAssociation (Accept session presentation values)) e h = tt
        go (OfAssociation (Refuse transport reason presentation values)) e h = tt
        go (OfAssociation (Abort transport user)) e h = tt
        go (OfAssociation AbortAccept) e h = tt
        go (OfMarks w) e h = tt
        go (OfActivities w) e h = tt

    pub word-in_place : (role : Role) (body : Body) (word : Word) (later : Body) (answers : List Message) (shown : List Indication) → react (base role) body (Session word) ≡ Takes later answers shown → is_in_place (base role) body (unit_of word) ≡ true
    word-in_place role body word later answers shown h = in-place (base role) body word (took role body word later answers shown h).fine

pub direct-takes_rightly : DirectTakesRightly
direct-takes_rightly free tables spellings a b writes back right contexts two ledger s role word left body answers shown e h =
    taken-rightly free tables spellings a b writes back right (listed-identifiers (proposals (base_at Initiator (direct_common tables spellings a b))) contexts) two ledger s.goes s.calls role word left body answers shown e h
