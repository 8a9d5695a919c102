-- One of two ends of reliable mode: what it keeps so that all that it sends is of the rules.
use Rattle.std.proofs.Common.{◌≡◌, refl, true, false, ◌∙◌, sym, ap, subst, arith, ℕ, suc, pos, ◌+◌, ◌*◌, ◌≤◌, List, [], ◌∷◌, take, drop, length, ◌⊎◌, inl, inr}
use Rattle.std.specs.Prelude.{ℤ, Bool, not, ◌&&◌, Option, Some, None, Ok, is_some, nat_eq, nat_lt, if◌then◌else◌}
use Rattle.std.proofs.lemmas.Bool.Decides.{nat_tests}
use Rattle.std.proofs.lemmas.List.{length-append}
use Rattle.osi_base.specs.declared.syntax.Pair.{Pair}
use Rattle.osi_base.specs.declared.layer_words.SetItem.{SetItem}
use Rattle.osi_base.specs.declared.layer_words.Answers.{Answers}
use Rattle.osi_base.specs.declared.acse_word.Acse.TheVariants as acse
use Rattle.osi_base.specs.Limits.{most_marks, last_serial}
use Rattle.asn1_types.specs.declared.value.Val.{Val}
use Rattle.stub_tables.specs.declared.tables.Tables.{Tables}
use Rattle.stub_tables.specs.declared.apdu.Apdu.{Apdu}
use Rattle.stub_tables.specs.declared.operation.Operation.{Operation}
use Rattle.stub_tables.specs.Lookup.{operation_at, error_at}
use Rattle.dialogue.specs.declared.config.Config.{Config}
use Rattle.dialogue.specs.declared.config.Mode.TheVariants.{Reliable}
use Rattle.dialogue.specs.declared.config.Phase.{Phase}
use Rattle.dialogue.specs.declared.config.Phase.TheVariants.{Idle, Opening, Up, Releasing, Broken, Recovering, Over, Dead}
use Rattle.dialogue.specs.declared.call.Call.{Call}
use Rattle.dialogue.specs.declared.call.Call.TheVariants as the_calls
use Rattle.dialogue.specs.declared.call.CallRefusal.TheVariants as refusals
use Rattle.end_model.specs.end_rules.Base.{Base, Spellings, Fault}
use Rattle.end_model.specs.end_rules.Sets.{Alteration, is_fixed}
use Rattle.osi_base.specs.SetPlaces.{pair_of}
use Rattle.end_model.specs.end_rules.State.{Body, Link, Calls, Sending, OpenCall, Queued, Transfer, Encoded, Suspended, NoAnswer, opened_with, is_up, is_broken, is_carrying, is_joined, is_current, is_suspended, is_free, passes_over, on_current, highest, pieces_of, confirmed_of, joined}
use Rattle.end_model.specs.end_rules.Messages.{Message, Session, TransportUnit, ConnectionRequest, ConnectionConfirm, DisconnectRequest, TransportError, ValueContent, DataValue, Association, Part, Plea, UserValues}
use Rattle.end_model.specs.end_rules.Messages.{Word, OfAssociation, OfData, OfMarks, OfActivities, AssociationWord, Connect, Accept, Refuse, Finish, Disconnect, Abort, AbortAccept, Values, AlterContext, AlterContextAck, Mark, MarkAck, Restart, RestartAck, Give, Please, GiveConfirm, GiveAck}
use Rattle.end_model.specs.end_rules.Messages.{Start, Resume, End, EndAck, Interrupt, InterruptAck, Discard, DiscardAck, unit_of}
use Rattle.end_model.specs.end_rules.Writing.{acse_pair, acse_context, rtse_context, rtse_value, session_connect, presentation_connect, connect_values, connection_data, connect_message, is_recovering, user_abort, proposals}
use Rattle.end_model.specs.end_rules.Faults.{fault_if, transport_fault}
use Rattle.end_model.specs.end_rules.Units.{has_marks, has_activities, has_typed_data, has_version_two, has_units, needed_units, selected_with}
use Rattle.end_model.specs.end_rules.Connecting.{refused_connect, accepted_connect, refusal_message, acceptance_message, after_accept, has_association, same_octets, recovers_in}
use Rattle.end_model.specs.end_rules.Calling.{can_call, is_phase_for, is_idle}
use Rattle.end_model.specs.end_rules.Requesting.{due_of, due_invoke, due_outcome, after_invoke, after_outcome, begun, result_in, error_for}
use Rattle.end_model.specs.end_rules.ByItself.{OwnAct, next_own, next_in, next_start, left_of, part_size}
use Rattle.end_model.specs.end_rules.Invoking.{carrier_in}
use Rattle.end_model.specs.end_rules.Hearing.{Rejecting, hear, head_of, with_reject, take_head, take_values}
use Rattle.end_model.specs.end_rules.TakesTransport.{transport_unit_fault, after_transport, answers_to_transport, phase_asked, is_waiting}
use Rattle.end_model.specs.end_rules.TakesData.{alteration, settled}
use Rattle.end_model.specs.end_rules.TakesActivities.{received, handed_up}
use Rattle.end_model.specs.end_rules.TakesMarks.{priority_in}
use Rattle.end_model.specs.end_rules.InPlace.{is_in_place, is_opening, awaits_release, awaits_interrupt, awaits_discard}
use Rattle.end_model.specs.end_rules.Reacting.{after_word, answers_to_word, word_fault}
use Rattle.end_model.specs.end_rules.History.{after_broke, broken_phase, after_step, step_of}
use Rattle.agreement.specs.Sets.{Role, is_initiator}
use Rattle.agreement.specs.Sets.Role.{Initiator, Responder}
use Rattle.end_model.specs.Seen.{Free}
use Rattle.end_model.specs.Rows.{at}
use Rattle.end_model.specs.Requests.{sent_all, after_called}
use Rattle.end_model.specs.BothEnds.{Common, base_at}
use Rattle.end_model.specs.DirectEnds.{ProposesRightly}
use Rattle.end_model.proofs.Ladder.{passed, called, not-true}
use Rattle.end_model.proofs.Fitting.{same-itself}
use Rattle.end_model.proofs.OwnActs.{leading}
use Rattle.reliable_model.specs.Codecs.{IsTransferable, SpellsTransfers}
use Rattle.reliable_model.specs.Ledgers.{own_messages}
use Rattle.reliable_model.specs.ReliableEnds.{reliable_common}
use Rattle.reliable_model.specs.Transferring.{IsBeginning, OnEncoded, IsCurrent, OnCurrent, IsSending}
use Rattle.reliable_model.proofs.Fixed.{AreIdentifiers}
use Rattle.reliable_model.proofs.Firm.{Keeps, OwnSpares, OpensLoose, QueueLoose, CurrentKeeps, PiecesKeep, Firm, current-pieces}
use Rattle.reliable_model.proofs.FirmSteps as steps
use Rattle.reliable_model.proofs.FirmSteps.{in-place, linked, called-firm, own-firm, word-firm, broke-firm, ArrivesIn}
use Rattle.reliable_model.proofs.OwnRows.{Kind, StartsNext, EncodesIt, MarksIt, EndsIt, GivesPart, Sends_, kind}
use Rattle.reliable_model.proofs.Transferring.{highest-spaced, within, current-is}
use Rattle.reliable_model.proofs.Phases.{only-open, only-abort, over-calls, own-up, aborted-over}
use Rattle.reliable_model.proofs.Opening.{First}
use Rattle.reliable_model.proofs.Calling as calling
use Rattle.reliable_model.proofs.Words.{OwnWord, OwnAssociation}
use Rattle.said_words.specs.Calls.{IsCall}
use Rattle.said_words.specs.Words.{rtse_pair, transfer_value, IsPart, the_connect, the_acceptance, the_finish, the_disconnect, IsReliableWord, IsUnit, IsMessage, AreMessages, IsMarkNumber}
use Rattle.said_words.proofs.Answers.{answers-so}
use Rattle.said_words.proofs.Alters.{alterable-so}
use Rattle.said_words.proofs.First.{first_accepted}
use Rattle.said_words.proofs.TransferFirst.{acse-pair, rtse-pair, on-acse, on-rtse, never-refused}

clash : (x : Bool) → x ≡ true → x ≡ false → ⊥
clash x h i = cc

and-left : (a b : Bool) → (a && b) ≡ true → a ≡ true
and-left true b h = refl
and-left false b h = cc

and-right : (a b : Bool) → (a && b) ≡ true → b ≡ true
and-right true b h = h
and-right false b h = cc

both : (a b : Bool) → a ≡ true → b ≡ true → (a && b) ≡ true
both true b e f = f
both false b e f = cc

no-fault_not : (b : Bool) (fault : Fault) → fault_if (not b) fault ≡ None → b ≡ true
no-fault_not true fault h = refl
no-fault_not false fault h = cc

-- ---- phases

-- no association stood yet
abbrev pub is_early : Phase → Bool
is_early Idle = true
is_early Opening = true
is_early _ = false

idle-early : (p : Phase) → is_idle p ≡ true → is_early p ≡ true
idle-early Idle h = refl
idle-early p h = cc

broken-late : (p : Phase) → is_broken p ≡ true → is_early p ≡ false
broken-late Broken h = refl
broken-late p h = cc

up-late : (p : Phase) → is_up p ≡ true → is_early p ≡ false
up-late Up h = refl
up-late p h = cc

still-late : (p : Phase) → is_early p ≡ false → is_early (broken_phase Reliable p) ≡ false
still-late Idle h = cc
still-late Opening h = cc
still-late Up h = refl
still-late Releasing h = refl
still-late Broken h = refl
still-late Recovering h = refl
still-late Over h = refl
still-late Dead h = refl

asked-late : (p : Phase) → is_waiting p ≡ true → is_early p ≡ false → is_early (phase_asked p true) ≡ false
asked-late Broken w h = refl
asked-late Idle w h = cc
asked-late p w h = cc

-- ---- activities are numbered from 1 on

abbrev HasStarted : Option Transfer → ℕ → Type 0
HasStarted None started = Unit {0}
HasStarted (Some t) started = 1 ≤ started

pub record IsStarted (sending : Sending) : Type 0 where
  pub high : sending.started ≤ last_serial
  pub low : HasStarted sending.current sending.started

same-started : (sending later : Sending) → later.started ≡ sending.started → later.current ≡ sending.current → IsStarted sending → IsStarted later
same-started sending later n c s =
    record {
      high = subst (λ (k : ℕ). k ≤ last_serial) (sym n) s.high;
      low = subst (λ (x : Option Transfer). HasStarted x later.started) (sym c) (subst (HasStarted sending.current) (sym n) s.low);
    }

changed-started : (change : Transfer → Transfer) (sending : Sending) → IsStarted sending → IsStarted (on_current change sending)
changed-started change sending s = go sending.current s.low
  where
    go : (c : Option Transfer) → HasStarted c sending.started → IsStarted (on_current change (record sending { current = c }))
    go None h = record { high = s.high; low = tt }
    go (Some t) h = record { high = s.high; low = h }

begun-started : (started : ℕ) (current : Option Transfer) (queue : List Queued) → suc started ≤ last_serial → IsStarted (begun (record { started = started; current = current; queue = queue }))
begun-started started current [] h = record { high = h; low = tt }
begun-started started current (item ∷ items) h = record { high = h; low = omega arith }

-- ---- marks of a transfer are few

few-marks : (base : Base) (c : Option Transfer) → SpellsTransfers base → OnCurrent base c → highest (pieces_of c) ≤ 256
few-marks base None spells h = omega arith
few-marks base (Some t) spells h = go t.encoded h.encoded
  where
    go : (e : Option Encoded) → OnEncoded base t.item.apdu t.pieces e → highest t.pieces ≤ 256
    go None none = subst (λ ps. highest ps ≤ 256) (sym none) (omega arith)
    go (Some e) b =
        let limit : length e.octets ≤ 262400 = within base t.item.apdu t.pieces e spells h.item b in
        let spaced : highest t.pieces * 1024 ≤ length (joined t.pieces) = highest-spaced t.pieces h.spaced in
        let all : length (joined t.pieces) + length b.left ≡ length e.octets = sym (length-append (joined t.pieces) b.left) ∙ ap length b.begins in
        omega arith

-- ---- what the end of a transfer leaves alone

pub record Leaves (body later : Body) : Type 0 where
  pub link : later.link ≡ body.link
  pub started : later.sending.started ≡ body.sending.started
  pub current : later.sending.current ≡ body.sending.current

left-alone : (x y z : Body) → Leaves x y → Leaves y z → Leaves x z
left-alone x y z h k = record { link = k.link ∙ h.link; started = k.started ∙ h.started; current = k.current ∙ h.current }

rejecting-leaves : (base : Base) (body : Body) (calls : Calls) (context : ℕ) (r : Option Rejecting) → Leaves body (with_reject (at Reliable base) (record body { calls = calls }) context r).body
rejecting-leaves base body calls context None = record { link = refl; started = refl; current = refl }
rejecting-leaves base body calls context (Some r) = record { link = refl; started = refl; current = refl }

values-leave : (base : Base) (values : List DataValue) (body : Body) → Leaves body (take_values (at Reliable base) body values).body
values-leave base [] body = record { link = refl; started = refl; current = refl }
values-leave base (value ∷ values) body =
    let heard = hear (at Reliable base) body.calls value.id (head_of (at Reliable base) value) in
    let one : Body = (take_head (at Reliable base) body value.id (head_of (at Reliable base) value)).body in
    left-alone body one (take_values (at Reliable base) one values).body (rejecting-leaves base body heard.calls value.id heard.reject) (values-leave base values one)

settled-leaves : (body : Body) (own : List Alteration) (answers : Answers) → Leaves body (settled own answers body)
settled-leaves body [] answers = record { link = refl; started = refl; current = refl }
settled-leaves body (x ∷ own) answers = record { link = refl; started = refl; current = refl }

module _ (free : Free) (tables : Tables) (spellings : Spellings) (a b : Config) where
  abbrev common : Common
  common = reliable_common tables spellings a b

  abbrev base : Role → Base
  base role = base_at role common

  abbrev first : List SetItem
  first = first_accepted common

  abbrev AreSaid : List Message → Type 0
  AreSaid messages = AreMessages (base Initiator) (base Responder) messages

  -- a responder keeps the references of the association
  abbrev IsNamed : Role → Body → Type 0
  IsNamed Initiator body = Unit {0}
  IsNamed Responder body = (body.link.reference ≡ Some a.reference) × (body.link.common ≡ Some a.common)

  -- nothing went over an association yet
  pub record Young (body : Body) : Type 0 where
    pub phase : (body.link.phase ≡ Idle) ⊎ (body.link.phase ≡ Opening)
    pub accepted : body.link.accepted ≡ []
    pub calm : body.link.awaits ≡ NoAnswer
    pub opens : body.calls.opens ≡ []
    pub sending : body.sending ≡ record { started = 0; current = None; queue = [] }
    pub came : body.receiving.pieces ≡ []

  -- an association stood
  pub record Stood (role : Role) (body : Body) : Type 0 where
    pub late : is_early body.link.phase ≡ false
    pub accepted : body.link.accepted ≡ first
    pub named : IsNamed role body
    pub started : IsStarted body.sending
    pub firm : Firm tables.name_oid first body

  pub data Rooted (role : Role) (body : Body) : Type 0 where
    IsYoung : Young body → Rooted role body
    IsStood : Stood role body → Rooted role body
    IsOver : body.link.phase ≡ Over → Rooted role body

  pub record RootedAndSaid (role : Role) (later : Body) (sent : List Message) : Type 0 where
    pub rooted : Rooted role later
    pub said : AreSaid sent

  young-early : (body : Body) → Young body → is_early body.link.phase ≡ true
  young-early body y = go y.phase
    where
      go : (body.link.phase ≡ Idle) ⊎ (body.link.phase ≡ Opening) → is_early body.link.phase ≡ true
      go (inl e) = ap is_early e
      go (inr e) = ap is_early e

  not-up : (body : Body) → Young body → is_up body.link.phase ≡ true → ⊥
  not-up body y h = clash (is_early body.link.phase) (young-early body y) (up-late body.link.phase h)

  not-over : {R : Type 0} (body : Body) → body.link.phase ≡ Over → passes_over body.link.phase ≡ false → R
  not-over body e alive = absurd (clash (passes_over body.link.phase) (ap passes_over e) alive)

  named-still : (role : Role) (body later : Body) → later.link.reference ≡ body.link.reference → later.link.common ≡ body.link.common → IsNamed role body → IsNamed role later
  named-still Initiator body later r c n = tt
  named-still Responder body later r c n = (r ∙ n.0, c ∙ n.1)

  still : (role : Role) (body later : Body) → Stood role body → later.link.accepted ≡ body.link.accepted → later.link.reference ≡ body.link.reference → later.link.common ≡ body.link.common → is_early later.link.phase ≡ false → IsStarted later.sending → Firm tables.name_oid first later → Rooted role later
  still role body later s x r c e n f = IsStood (record { late = e; accepted = x ∙ s.accepted; named = named-still role body later r c s.named; started = n; firm = f })

  linked-still : (role : Role) (body later : Body) → Stood role body → later.link ≡ body.link → IsStarted later.sending → Firm tables.name_oid first later → Rooted role later
  linked-still role body later s l n f =
      still role body later s (ap (λ (x : Link). x.accepted) l) (ap (λ (x : Link). x.reference) l) (ap (λ (x : Link). x.common) l) (ap (λ (x : Link). is_early x.phase) l ∙ s.late) n f

  left-still : (role : Role) (body later : Body) → Stood role body → Leaves body later → Firm tables.name_oid first later → Rooted role later
  left-still role body later s l f = linked-still role body later s l.link (same-started body.sending later.sending l.started l.current s.started) f

  -- ---- aborts and releases

  abort-said : (accepted : List SetItem) → acse_context accepted ≡ 1 → (c : Bool) → AreSaid (if c then user_abort accepted 0 [] ∷ [] else [])
  abort-said accepted e true = (ap (λ k. Abort (Some 3) (UserValues (record { id = k; pair = Some acse_pair; content = Association (acse.Abort 0 []) [] } ∷ []))) e, tt)
  abort-said accepted e false = tt

  disconnect-said : (accepted : List SetItem) → acse_context accepted ≡ 1 → Disconnect (record { id = acse_context accepted; pair = Some acse_pair; content = Association (acse.ReleaseResponse (pos 0)) [] } ∷ []) ≡ the_disconnect
  disconnect-said accepted e = ap (λ k. Disconnect (record { id = k; pair = Some acse_pair; content = Association (acse.ReleaseResponse (pos 0)) [] } ∷ [])) e

  finish-said : (accepted : List SetItem) → acse_context accepted ≡ 1 → Finish (Some 1) (record { id = acse_context accepted; pair = Some acse_pair; content = Association (acse.ReleaseRequest (pos 0)) [] } ∷ []) ≡ the_finish
  finish-said accepted e = ap (λ k. Finish (Some 1) (record { id = k; pair = Some acse_pair; content = Association (acse.ReleaseRequest (pos 0)) [] } ∷ [])) e

  -- ---- what is presumed

  module _ (spells : SpellsTransfers (base Initiator)) (right : ProposesRightly common) (ids : AreIdentifiers (proposals (base Initiator))) (window : nat_eq a.window 0 ≡ false) where
    on-one : (role : Role) (body : Body) → Stood role body → acse_context body.link.accepted ≡ 1
    on-one role body s = ap acse_context s.accepted ∙ on-acse tables spellings a b right ids

    on-none : (body : Body) → Young body → acse_context body.link.accepted ≡ 1
    on-none body y = ap acse_context y.accepted

    pub held-acse : (role : Role) (body : Body) → Stood role body → pair_of body.sets.held 1 ≡ Some acse_pair
    held-acse role body s = let f = acse-pair tables spellings a b right ids in s.firm.held 1 (ap is_fixed f) ∙ f

    pub held-rtse : (role : Role) (body : Body) → Stood role body → pair_of body.sets.held 3 ≡ Some rtse_pair
    held-rtse role body s = let f = rtse-pair tables spellings a b right ids in s.firm.held 3 (ap is_fixed f) ∙ f

    -- a value on the context of reliable transfer
    on-three : (role : Role) (body : Body) (content : ValueContent) → Stood role body → rtse_value body content ≡ transfer_value content
    on-three role body content s =
        let put : ℕ → Option Pair → DataValue = λ k p. record { id = k; pair = p; content = content } in
        ap (λ (k : ℕ). put k (pair_of body.sets.held k)) (ap rtse_context s.accepted ∙ on-rtse tables spellings a b right ids) ∙ ap (put 3) (held-rtse role body s)

    -- ---- calls

    abbrev CallSays : Role → Body → Call → Option ℤ → Type 0
    CallSays role body call answer = RootedAndSaid role (after_called Reliable (base role) body call answer) (due_of (base role) body call (Ok answer))

    aborts : (role : Role) (body : Body) (answer : Option ℤ) → acse_context body.link.accepted ≡ 1 → CallSays role body the_calls.Abort answer
    aborts role body answer e = record { rooted = IsOver (aborted-over body (is_carrying body.link.stage)); said = abort-said body.link.accepted e (is_carrying body.link.stage) }

    young-called : (role : Role) (body : Body) (call : Call) (answer : Option ℤ) → Young body → can_call (base role) body call ≡ Ok answer → CallSays role body call answer
    young-called role body call answer y can = go y.phase
      where
        in-phase : (phase : Phase) → body.link.phase ≡ phase → is_phase_for call phase ≡ true
        in-phase phase e = ap (is_phase_for call) (sym e) ∙ (called (base role) body call answer can).in_phase

        opens : (r : Role) → (true && not (is_initiator r)) ≡ false → CallSays r body the_calls.Open answer
        opens Initiator h = record { rooted = IsYoung (record { phase = inr refl; accepted = y.accepted; calm = y.calm; opens = y.opens; sending = y.sending; came = y.came }); said = (refl, tt) }
        opens Responder h = cc

        go : (body.link.phase ≡ Idle) ⊎ (body.link.phase ≡ Opening) → CallSays role body call answer
        go (inl e) =
            let o : call ≡ the_calls.Open = only-open call (in-phase Idle e) in
            let c = subst (λ x. can_call (base role) body x ≡ Ok answer) o can in
            subst (λ c. CallSays role body c answer) (sym o) (opens role (called (base role) body the_calls.Open answer c).initiates)
        go (inr e) = subst (λ c. CallSays role body c answer) (sym (only-abort First call (in-phase Opening e))) (aborts role body answer (on-none body y))

    invoke-says : (role : Role) (body : Body) (context place : ℕ) (id : ℤ) (link : Option ℤ) (o : Option Operation) (argument : Option Val) → Stood role body
        → Firm tables.name_oid first (sent_all Reliable (after_invoke (base role) body context place id link o argument) (due_invoke (base role) body context id link o argument))
        → RootedAndSaid role (sent_all Reliable (after_invoke (base role) body context place id link o argument) (due_invoke (base role) body context id link o argument)) (due_invoke (base role) body context id link o argument)
    invoke-says role body context place id link None argument s f = record { rooted = IsStood s; said = tt }
    invoke-says role body context place id link (Some operation) argument s f = record { rooted = left-still role body _ s (record { link = refl; started = refl; current = refl }) f; said = tt }

    outcome-says : (role : Role) (body : Body) (id : ℤ) (o : Option OpenCall) (x : Option Apdu) → Stood role body
        → Firm tables.name_oid first (sent_all Reliable (after_outcome (base role) body id o x) (due_outcome (base role) body o x))
        → RootedAndSaid role (sent_all Reliable (after_outcome (base role) body id o x) (due_outcome (base role) body o x)) (due_outcome (base role) body o x)
    outcome-says role body id None None s f = record { rooted = IsStood s; said = tt }
    outcome-says role body id None (Some apdu) s f = record { rooted = IsStood s; said = tt }
    outcome-says role body id (Some o) None s f = record { rooted = IsStood s; said = tt }
    outcome-says role body id (Some o) (Some apdu) s f = record { rooted = left-still role body _ s (record { link = refl; started = refl; current = refl }) f; said = tt }

    -- the mark from which an activity is resumed
    resumes : (role : Role) (body : Body) → IsSending (base role) body.sending → Stood role body → confirmed_of body.sending.current ≤ most_marks
    resumes role body sending s =
        let p = current-pieces tables.name_oid first body.sending.current s.firm.current in
        let low : confirmed_of body.sending.current ≤ highest (pieces_of body.sending.current) = p.1 in
        let few : highest (pieces_of body.sending.current) ≤ 256 = few-marks (base role) body.sending.current (calling.spells-at free tables spellings a b role spells) sending.current in
        omega arith

    suspended-started : (c : Option Transfer) (started : ℕ) → is_current is_suspended c ≡ true → HasStarted c started → 1 ≤ started
    suspended-started None started h n = cc
    suspended-started (Some t) started h n = n

    stood-called : (role : Role) (body : Body) (call : Call) (answer : Option ℤ) → IsSending (base role) body.sending → IsCall call → Stood role body → can_call (base role) body call ≡ Ok answer → CallSays role body call answer
    stood-called role body call answer sending i s can = go call i can (called-firm first (base role) body call answer s.firm can)
      where
        go : (call : Call) → IsCall call → can_call (base role) body call ≡ Ok answer → Firm tables.name_oid first (after_called Reliable (base role) body call answer) → CallSays role body call answer
        go the_calls.Open i can f = absurd (clash (is_early body.link.phase) (idle-early body.link.phase (called (base role) body the_calls.Open answer can).in_phase) s.late)
        go (the_calls.Invoke context operation argument link) i can f = invokes answer can f
          where
            invokes : (answer : Option ℤ) → can_call (base role) body (the_calls.Invoke context operation argument link) ≡ Ok answer → Firm tables.name_oid first (after_called Reliable (base role) body (the_calls.Invoke context operation argument link) answer) → CallSays role body (the_calls.Invoke context operation argument link) answer
            invokes None can f = record { rooted = IsStood s; said = tt }
            invokes (Some id) can f = invoke-says role body context operation id link (operation_at tables operation) argument s f
        go (the_calls.Answer id result) i can f = outcome-says role body id (opened_with false id body.calls.opens) (result_in (base role) body id result) s f
        go (the_calls.Refuse id error parameter) i can f = outcome-says role body id (opened_with false id body.calls.opens) (error_for id parameter (error_at tables error)) s f
        go (the_calls.Alter add delete) i can f =
            let x = steps.alterable (base role) body (alteration add delete) answer (called (base role) body (the_calls.Alter add delete) answer can).rows in
            let y = alterable-so (base role) body (alteration add delete) i x.good x.unrefused in
            record { rooted = left-still role body _ s (record { link = refl; started = refl; current = refl }) f; said = (y.is, tt) }
        go the_calls.Mark i can f = let r = (called (base role) body the_calls.Mark answer can).rows in cc
        go the_calls.Give i can f = record { rooted = still role body _ s refl refl refl s.late s.started f; said = (tt, tt) }
        go (the_calls.Please priority) i can f =
            record { rooted = IsStood s; said = ((refl, record { priority = priority; is_one = ap (λ (v : DataValue). v ∷ []) (on-three role body (Plea priority) s); few = i }), tt) }
        go (the_calls.Resync n) i can f = let r = (called (base role) body (the_calls.Resync n) answer can).rows in cc
        go the_calls.Interrupt i can f = record { rooted = still role body _ s refl refl refl s.late s.started f; said = (refl, tt) }
        go the_calls.Resume i can f =
            let rows = (called (base role) body the_calls.Resume answer can).rows in
            let x = passed (not (is_free body.link.awaits)) refusals.Waiting _ answer rows in
            let y = passed (not (is_current is_suspended body.sending.current)) refusals.NotSuspended _ answer x.later in
            let t = not-true (is_current is_suspended body.sending.current) y.holds in
            record {
              rooted = linked-still role body _ s refl (changed-started _ body.sending s.started) f;
              said = (((suspended-started body.sending.current body.sending.started t s.started.low, s.started.high), resumes role body sending s), tt);
            }
        go the_calls.Discard i can f = record { rooted = still role body _ s refl refl refl s.late (changed-started _ body.sending s.started) f; said = (refl, tt) }
        go the_calls.Recover i can f = recovers role (called (base role) body the_calls.Recover answer can).initiates s f
          where
            recovers : (r : Role) → (true && not (is_initiator r)) ≡ false → Stood r body → Firm tables.name_oid first (after_called Reliable (base r) body the_calls.Recover answer) → CallSays r body the_calls.Recover answer
            recovers Initiator h s f = record { rooted = still Initiator body _ s refl refl refl refl s.started f; said = (refl, tt) }
            recovers Responder h s f = cc
        go the_calls.Release i can f = record { rooted = still role body _ s refl refl refl refl s.started f; said = (finish-said body.link.accepted (on-one role body s), tt) }
        go the_calls.Abort i can f = aborts role body answer (on-one role body s)

    pub called-says : (role : Role) (body : Body) (call : Call) (answer : Option ℤ) → IsSending (base role) body.sending → IsCall call → Rooted role body → can_call (base role) body call ≡ Ok answer → CallSays role body call answer
    called-says role body call answer sending i (IsYoung y) can = young-called role body call answer y can
    called-says role body call answer sending i (IsStood s) can = stood-called role body call answer sending i s can
    called-says role body call answer sending i (IsOver e) can = absurd (over-calls (base role) body call answer e can)

    -- ---- what an end does by itself

    abbrev OwnSays : Role → Body → OwnAct → Type 0
    OwnSays role body own = RootedAndSaid role (after_step (base role) body (step_of own)) (own_messages own)

    -- the next activity has a number
    starts-low : (role : Role) (body : Body) (own : OwnAct) (item : Queued) (items : List Queued) → body.sending.current ≡ None → body.sending.queue ≡ item ∷ items → next_in (base role) body body.sending.current ≡ Some own → suc body.sending.started ≤ last_serial
    starts-low role body own item items e q next =
        let none : next_start (base role) body body.sending.queue ≡ Some own = subst (λ c. next_in (base role) body c ≡ Some own) e next in
        let there : next_start (base role) body (item ∷ items) ≡ Some own = subst (λ qs. next_start (base role) body qs ≡ Some own) q none in
        go _ (is_some (carrier_in (base role) body item.context)) (nat_lt body.sending.started last_serial) refl there
      where
        less : (n : ℕ) → nat_lt n 999999 ≡ true → suc n ≤ 999999
        less n h = grind (arith, nat_tests)

        go : (act : OwnAct) (x y : Bool) → nat_lt body.sending.started last_serial ≡ y → (if x && y then Some act else None) ≡ Some own → suc body.sending.started ≤ last_serial
        go act true true e h = less body.sending.started e
        go act true false e h = cc
        go act false y e h = cc

    current-few : (role : Role) (body : Body) (t : Transfer) → IsSending (base role) body.sending → body.sending.current ≡ Some t → IsMarkNumber (suc (highest t.pieces))
    current-few role body t sending e =
        let few : highest t.pieces ≤ 256 = few-marks (base role) (Some t) (calling.spells-at free tables spellings a b role spells) (subst (OnCurrent (base role)) e sending.current) in
        (omega arith, omega arith)

    part-said : (role : Role) (body : Body) (t : Transfer) (e : Encoded) (size : ℕ) → IsSending (base role) body.sending → Sends_ body t e → Stood role body → IsPart (base Initiator) (rtse_value body (Part (take size (left_of t e))) ∷ [])
    part-said role body t e size sending x s =
        let c : IsCurrent (base role) t = current-is (base role) body.sending t sending x.is_it in
        let g : IsBeginning (base role) t.item.apdu t.pieces e = subst (OnEncoded (base role) t.item.apdu t.pieces) x.encoded c.encoded in
        record {
          item = e.item;
          transferable = calling.transferable-at free tables spellings a b role e.item.apdu (subst (IsTransferable (base role)) (sym g.same) c.item);
          placed = g.placed;
          from = length (joined t.pieces);
          size = size;
          is_one =
              ap (λ (v : DataValue). v ∷ []) (on-three role body (Part (take size (left_of t e))) s) ∙
              ap (λ (os : List ℕ). transfer_value (Part (take size (drop (length (joined t.pieces)) os))) ∷ []) g.octets;
        }

    stood-own : (role : Role) (body : Body) (own : OwnAct) → IsSending (base role) body.sending → Stood role body → next_own (base role) body ≡ Some own → OwnSays role body own
    stood-own role body own sending s next = go (kind (base role) body own body.sending.current refl l) (own-firm first (base role) body own s.firm next)
      where
        l : next_in (base role) body body.sending.current ≡ Some own
        l = (leading (base role) body own next).next

        to : (o : OwnAct) → own ≡ o → Firm tables.name_oid first (after_step (base role) body (step_of own)) → (Firm tables.name_oid first (after_step (base role) body (step_of o)) → OwnSays role body o) → OwnSays role body own
        to o is f h = subst (OwnSays role body) (sym is) (h (subst (λ (x : OwnAct). Firm tables.name_oid first (after_step (base role) body (step_of x))) is f))

        go : Kind body own → Firm tables.name_oid first (after_step (base role) body (step_of own)) → OwnSays role body own
        go (StartsNext item items e q is) f =
            let low = starts-low role body own item items e q l in
            to _ is f (λ f. record { rooted = linked-still role body _ s refl (begun-started body.sending.started body.sending.current body.sending.queue low) f; said = ((omega arith, low), tt) })
        go (EncodesIt t context e d is) f = to _ is f (λ f. record { rooted = linked-still role body _ s refl (changed-started _ body.sending s.started) f; said = tt })
        go (MarksIt t e x ends more is) f =
            to _ is f (λ f. record { rooted = linked-still role body _ s refl (changed-started _ body.sending s.started) f; said = (current-few role body t sending x.is_it, tt) })
        go (EndsIt t e x none is) f =
            to _ is f (λ f. record { rooted = linked-still role body _ s refl (changed-started _ body.sending s.started) f; said = (current-few role body t sending x.is_it, tt) })
        go (GivesPart t e x more is) f =
            to _ is f
            (λ f. record { rooted = linked-still role body _ s refl (changed-started _ body.sending s.started) f; said = (part-said role body t e (part_size e.checkpoint (length (left_of t e))) sending x s, tt) })

    pub own-says : (role : Role) (body : Body) (own : OwnAct) → IsSending (base role) body.sending → Rooted role body → next_own (base role) body ≡ Some own → OwnSays role body own
    own-says role body own sending (IsYoung y) next = absurd (not-up body y (ap is_up (own-up (base role) body own next)))
    own-says role body own sending (IsStood s) next = stood-own role body own sending s next
    own-says role body own sending (IsOver e) next = let up : Over ≡ Up = sym e ∙ own-up (base role) body own next in absurd cc

    -- ---- breaks

    pub broke-rooted : (role : Role) (body : Body) → Rooted role body → Rooted role (after_broke (base role) body)
    broke-rooted role body (IsYoung y) = go y.phase
      where
        go : (body.link.phase ≡ Idle) ⊎ (body.link.phase ≡ Opening) → Rooted role (after_broke (base role) body)
        go (inl e) =
            IsYoung (record {
              phase = inl (ap (broken_phase Reliable) e);
              accepted = y.accepted;
              calm = refl;
              opens = y.opens;
              sending = ap (on_current (λ (t : Transfer). record t { progress = Suspended })) y.sending;
              came = y.came;
            })
        go (inr e) = IsOver (ap (broken_phase Reliable) e)
    broke-rooted role body (IsStood s) =
        still role body _ s refl refl refl (still-late body.link.phase s.late) (changed-started _ body.sending s.started) (broke-firm first (base role) body s.firm)
    broke-rooted role body (IsOver e) = IsOver (ap (broken_phase Reliable) e)

    -- ---- units of the transport

    abbrev UnitSays : Role → Body → TransportUnit → Type 0
    UnitSays role body unit = RootedAndSaid role (after_transport (base role) body unit) (answers_to_transport (base role) body unit)

    confirms : (role : Role) (body : Body) (destination : ℕ) (size : Option ℕ) → transport_unit_fault (base role) body (ConnectionConfirm destination size) ≡ None → IsMessage (base Initiator) (base Responder) (connect_message (base role) (is_recovering body.link.phase))
    confirms Initiator body destination size f = (is_recovering body.link.phase, refl)
    confirms Responder body destination size f = cc

    pub unit-says : (role : Role) (body : Body) (unit : TransportUnit) → IsUnit (base Initiator) unit → transport_unit_fault (base role) body unit ≡ None → passes_over body.link.phase ≡ false → Rooted role body → UnitSays role body unit
    unit-says role body (ConnectionRequest source size calling other_) i fine alive r = subst (UnitSays role body) (sym i) (asked r)
      where
        opens : (body.link.phase ≡ Idle) ⊎ (body.link.phase ≡ Opening) → phase_asked body.link.phase true ≡ Opening
        opens (inl e) = ap (λ p. phase_asked p true) e
        opens (inr e) = ap (λ p. phase_asked p true) e

        waits : is_waiting body.link.phase ≡ true
        waits = and-right _ (is_waiting body.link.phase) (no-fault_not _ transport_fault fine)

        asked : Rooted role body → UnitSays role body (ConnectionRequest 1 (Some 10) a.calling a.called)
        asked (IsYoung y) = record { rooted = IsYoung (record { phase = inr (opens y.phase); accepted = y.accepted; calm = y.calm; opens = y.opens; sending = y.sending; came = y.came }); said = (refl, tt) }
        asked (IsStood s) =
            record { rooted = still role body _ s refl refl refl (asked-late body.link.phase waits s.late) s.started (linked first (base role) body _ refl refl refl refl s.firm); said = (refl, tt) }
        asked (IsOver e) = not-over body e alive
    unit-says role body (ConnectionConfirm destination size) i fine alive r = record { rooted = confirmed r; said = (confirms role body destination size fine, tt) }
      where
        confirmed : Rooted role body → Rooted role (after_transport (base role) body (ConnectionConfirm destination size))
        confirmed (IsYoung y) = IsYoung (record { phase = y.phase; accepted = y.accepted; calm = y.calm; opens = y.opens; sending = y.sending; came = y.came })
        confirmed (IsStood s) = still role body _ s refl refl refl s.late s.started (linked first (base role) body _ refl refl refl refl s.firm)
        confirmed (IsOver e) = IsOver e
    unit-says role body (DisconnectRequest destination) i fine alive r = absurd i
    unit-says role body TransportError i fine alive r = absurd i

    -- ---- words

    abbrev WordSays : Role → Body → Word → Type 0
    WordSays role body word = RootedAndSaid role (after_word (base role) body word) (answers_to_word (base role) body word)

    abbrev InPlace : Role → Body → Word → Type 0
    InPlace role body word = is_in_place (base role) body (unit_of word) ≡ true

    -- a recovery comes to an end that is broken
    abbrev pub Meets : Body → Word → Type 0
    Meets body (OfAssociation (Connect session presentation values)) = recovers_in (base Responder) values ≡ true → is_broken body.link.phase ≡ true
    Meets body word = Unit {0}

    -- a fresh end with these sets
    fresh-firm : (later : Body) → later.sets.held ≡ first → later.sets.inter ≡ first → later.sets.own ≡ [] → later.calls.opens ≡ [] → later.sending ≡ record { started = 0; current = None; queue = [] } → later.receiving.pieces ≡ [] → Firm tables.name_oid first later
    fresh-firm later h i o c n p =
        record {
          held = subst (Keeps first) (sym h) (λ k e. refl);
          inter = subst (Keeps first) (sym i) (λ k e. refl);
          own = subst (OwnSpares first) (sym o) tt;
          opens = subst (OpensLoose tables.name_oid first) (sym c) tt;
          queue = subst (λ (x : Sending). QueueLoose tables.name_oid first x.queue) (sym n) tt;
          current = subst (λ (x : Sending). CurrentKeeps tables.name_oid first x.current) (sym n) tt;
          came = subst (PiecesKeep first) (sym p) tt;
        }

    fresh-started : (sending : Sending) → sending ≡ record { started = 0; current = None; queue = [] } → IsStarted sending
    fresh-started sending e = subst IsStarted (sym e) (record { high = omega arith; low = tt })

    -- the association is known
    known : (body : Body) (recovers : Bool) → (recovers_in (base Responder) (connect_values (base Initiator) recovers) ≡ true → is_broken body.link.phase ≡ true) → passes_over body.link.phase ≡ false → Rooted Responder body → has_association body (connection_data (base Initiator) recovers) ≡ true
    known body false meets alive r = refl
    known body true meets alive (IsYoung y) = absurd (clash (is_early body.link.phase) (young-early body y) (broken-late body.link.phase (meets refl)))
    known body true meets alive (IsOver e) = not-over body e alive
    known body true meets alive (IsStood s) =
        both (is_broken body.link.phase && same_octets body.link.reference a.reference) (same_octets body.link.common a.common)
        (both (is_broken body.link.phase) (same_octets body.link.reference a.reference) (meets refl) (ap (λ x. same_octets x a.reference) s.named.0 ∙ same-itself a.reference))
        (ap (λ x. same_octets x a.common) s.named.1 ∙ same-itself a.common)

    joined-rooted : (body : Body) (recovers : Bool) → (recovers_in (base Responder) (connect_values (base Initiator) recovers) ≡ true → is_broken body.link.phase ≡ true) → passes_over body.link.phase ≡ false → Rooted Responder body →
        Rooted Responder (accepted_connect (base Responder) body (session_connect (base Initiator)) (presentation_connect (base Initiator)) (connect_values (base Initiator) recovers))
    joined-rooted body false meets alive r =
        IsStood (record { late = refl; accepted = refl; named = (refl, refl); started = fresh-started _ refl; firm = fresh-firm _ refl refl refl refl refl refl })
    joined-rooted body true meets alive (IsYoung y) = absurd (clash (is_early body.link.phase) (young-early body y) (broken-late body.link.phase (meets refl)))
    joined-rooted body true meets alive (IsOver e) = not-over body e alive
    joined-rooted body true meets alive (IsStood s) =
        IsStood (record {
          late = refl;
          accepted = refl;
          named = s.named;
          started = s.started;
          firm = record { held = λ k e. refl; inter = λ k e. refl; own = tt; opens = s.firm.opens; queue = s.firm.queue; current = s.firm.current; came = s.firm.came };
        })

    connects : (role : Role) (body : Body) (recovers : Bool) → (not (is_initiator role) && is_joined body.link.stage) ≡ true → (recovers_in (base Responder) (connect_values (base Initiator) recovers) ≡ true → is_broken body.link.phase ≡ true) → passes_over body.link.phase ≡ false → Rooted role body → WordSays role body (OfAssociation (the_connect (base Initiator) recovers))
    connects Initiator body recovers h meets alive r = cc
    connects Responder body recovers h meets alive r =
        subst (λ q. RootedAndSaid Responder (if q then refused_connect body else accepted_connect (base Responder) body (session_connect (base Initiator)) (presentation_connect (base Initiator)) (connect_values (base Initiator) recovers))
        (if q then refusal_message (base Responder) body (session_connect (base Initiator)) (presentation_connect (base Initiator)) (connect_values (base Initiator) recovers) ∷ [] else acceptance_message (base Responder) (session_connect (base Initiator)) (presentation_connect (base Initiator)) (connect_values (base Initiator) recovers) ∷ []))
        (sym (never-refused tables spellings a b right ids body recovers window (known body recovers meets alive r)))
        (record { rooted = joined-rooted body recovers meets alive r; said = ((recovers, refl), tt) })

    abbrev AcceptSays : Role → Body → Message → Type 0
    AcceptSays role body (Session (OfAssociation (Accept session presentation values))) = Rooted role (after_accept (base role) body session presentation values)
    AcceptSays role body message = Unit {0}

    accepts : (role : Role) (body : Body) (recovers : Bool) → is_initiator role ≡ true → passes_over body.link.phase ≡ false → Rooted role body → AcceptSays role body (the_acceptance (base Initiator) (base Responder) recovers)
    accepts Responder body recovers h alive r = cc
    accepts Initiator body recovers h alive (IsYoung y) = IsStood (record { late = refl; accepted = refl; named = tt; started = fresh-started _ y.sending; firm = fresh-firm _ refl refl refl y.opens y.sending y.came })
    accepts Initiator body recovers h alive (IsStood s) =
        IsStood (record {
          late = refl;
          accepted = refl;
          named = tt;
          started = s.started;
          firm = record { held = λ k e. refl; inter = λ k e. refl; own = tt; opens = s.firm.opens; queue = s.firm.queue; current = s.firm.current; came = s.firm.came };
        })
    accepts Initiator body recovers h alive (IsOver e) = not-over body e alive

    -- the words of an association that stands
    abbrev pub IsLater : Word → Type 0
    IsLater (OfAssociation (Connect session presentation values)) = ⊥
    IsLater (OfAssociation (Accept session presentation values)) = ⊥
    IsLater word = Unit {0}

    own-of : (word : Word) → IsReliableWord (base Initiator) (base Responder) word → IsLater word → OwnWord word
    own-of (OfAssociation (Connect session presentation values)) i l = absurd l
    own-of (OfAssociation (Accept session presentation values)) i l = absurd l
    own-of (OfAssociation (Refuse transport reason presentation values)) i l = absurd i
    own-of (OfAssociation (Finish transport values)) i l = subst OwnAssociation (sym i) refl
    own-of (OfAssociation (Disconnect values)) i l = subst OwnAssociation (sym i) refl
    own-of (OfAssociation (Abort transport user)) i l = tt
    own-of (OfAssociation AbortAccept) i l = absurd i
    own-of (OfData word) i l = tt
    own-of (OfMarks (Mark n)) i l = tt
    own-of (OfMarks (MarkAck n)) i l = tt
    own-of (OfMarks (Restart n list)) i l = absurd i
    own-of (OfMarks (RestartAck n list)) i l = absurd i
    own-of (OfMarks (Give tokens)) i l = absurd i
    own-of (OfMarks (Please None values)) i l = let none : is_some {T = ℕ} None ≡ true = ap is_some i.0 in absurd cc
    own-of (OfMarks (Please (Some tokens) values)) i l = record { priority = i.1.priority; is_it = ap priority_in i.1.is_one }
    own-of (OfMarks GiveConfirm) i l = tt
    own-of (OfMarks GiveAck) i l = tt
    own-of (OfActivities word) i l = tt

    ends-still : (role : Role) (body : Body) (number : ℕ) → Stood role body → Firm tables.name_oid first (after_word (base role) body (OfActivities (End number))) → Rooted role (after_word (base role) body (OfActivities (End number)))
    ends-still role body number s f =
        let l = values-leave (base role) (handed_up (base role) body) (received (λ r. record r { was_handed = true; active = false }) body) in
        left-still role body _ s (record { link = l.link; started = l.started; current = l.current }) f

    stood-word : (role : Role) (body : Body) (word : Word) → IsReliableWord (base Initiator) (base Responder) word → IsLater word → Firm tables.name_oid first (after_word (base role) body word) → Stood role body → WordSays role body word
    stood-word role body (OfAssociation (Connect session presentation values)) i l f s = absurd l
    stood-word role body (OfAssociation (Accept session presentation values)) i l f s = absurd l
    stood-word role body (OfAssociation (Refuse transport reason presentation values)) i l f s = absurd i
    stood-word role body (OfAssociation (Finish transport values)) i l f s = record { rooted = IsOver refl; said = (disconnect-said body.link.accepted (on-one role body s), tt) }
    stood-word role body (OfAssociation (Disconnect values)) i l f s = record { rooted = IsOver refl; said = tt }
    stood-word role body (OfAssociation (Abort transport user)) i l f s = record { rooted = IsOver refl; said = tt }
    stood-word role body (OfAssociation AbortAccept) i l f s = absurd i
    stood-word role body (OfData (Values values)) i l f s =
        subst (λ (vs : List DataValue). WordSays role body (OfData (Values vs))) (sym i.is_one)
        (record { rooted = left-still role body _ s (record { link = refl; started = refl; current = refl }) (subst (λ (vs : List DataValue). Firm tables.name_oid first (after_word (base role) body (OfData (Values vs)))) i.is_one f); said = tt })
    stood-word role body (OfData (AlterContext add delete)) i l f s =
        record { rooted = left-still role body _ s (record { link = refl; started = refl; current = refl }) f; said = (answers-so (base role) body (alteration add delete) i, tt) }
    stood-word role body (OfData (AlterContextAck answers)) i l f s = record { rooted = left-still role body _ s (settled-leaves body body.sets.own answers) f; said = tt }
    stood-word role body (OfMarks (Mark n)) i l f s = record { rooted = left-still role body _ s (record { link = refl; started = refl; current = refl }) f; said = (i, tt) }
    stood-word role body (OfMarks (MarkAck n)) i l f s = record { rooted = linked-still role body _ s refl (changed-started _ body.sending s.started) f; said = tt }
    stood-word role body (OfMarks (Restart n list)) i l f s = absurd i
    stood-word role body (OfMarks (RestartAck n list)) i l f s = absurd i
    stood-word role body (OfMarks (Give tokens)) i l f s = absurd i
    stood-word role body (OfMarks (Please tokens values)) i l f s = record { rooted = IsStood s; said = tt }
    stood-word role body (OfMarks GiveConfirm) i l f s = record { rooted = still role body _ s refl refl refl s.late s.started f; said = (tt, tt) }
    stood-word role body (OfMarks GiveAck) i l f s = record { rooted = still role body _ s refl refl refl s.late s.started f; said = tt }
    stood-word role body (OfActivities (Start activity)) i l f s = record { rooted = left-still role body _ s (record { link = refl; started = refl; current = refl }) f; said = tt }
    stood-word role body (OfActivities (Resume activity mark)) i l f s = record { rooted = left-still role body _ s (record { link = refl; started = refl; current = refl }) f; said = tt }
    stood-word role body (OfActivities (End number)) i l f s = record { rooted = ends-still role body number s f; said = (i, tt) }
    stood-word role body (OfActivities (EndAck number)) i l f s = record { rooted = linked-still role body _ s refl (record { high = s.started.high; low = tt }) f; said = tt }
    stood-word role body (OfActivities (Interrupt reason)) i l f s = record { rooted = left-still role body _ s (record { link = refl; started = refl; current = refl }) f; said = (tt, tt) }
    stood-word role body (OfActivities InterruptAck) i l f s = record { rooted = still role body _ s refl refl refl s.late (changed-started _ body.sending s.started) f; said = tt }
    stood-word role body (OfActivities (Discard reason)) i l f s = record { rooted = left-still role body _ s (record { link = refl; started = refl; current = refl }) f; said = (tt, tt) }
    stood-word role body (OfActivities DiscardAck) i l f s = record { rooted = still role body _ s refl refl refl s.late (record { high = s.started.high; low = tt }) f; said = tt }

    -- before an association stands these words alone are in their place
    abbrev pub IsEarly : Word → Type 0
    IsEarly (OfAssociation (Abort transport user)) = Unit {0}
    IsEarly word = ⊥

    early : (role : Role) (body : Body) (word : Word) → IsReliableWord (base Initiator) (base Responder) word → IsLater word → InPlace role body word → Young body → IsEarly word
    early role body (OfAssociation (Connect session presentation values)) i l p y = absurd l
    early role body (OfAssociation (Accept session presentation values)) i l p y = absurd l
    early role body (OfAssociation (Refuse transport reason presentation values)) i l p y = absurd i
    early role body (OfAssociation (Finish transport values)) i l p y =
        absurd (not-up body y (and-right (not (is_initiator role)) (is_up body.link.phase) (and-left (not (is_initiator role) && is_up body.link.phase) (not body.link.turn && not body.receiving.active) p)))
    early role body (OfAssociation (Disconnect values)) i l p y = absurd (clash (awaits_release body.link.awaits) p (ap awaits_release y.calm))
    early role body (OfAssociation (Abort transport user)) i l p y = tt
    early role body (OfAssociation AbortAccept) i l p y = absurd i
    early role body (OfData (Values values)) i l p y = absurd (not-up body y (and-left (is_up body.link.phase) (not body.link.turn && body.receiving.active) p))
    early role body (OfData (AlterContext add delete)) i l p y = absurd (not-up body y (and-left (is_up body.link.phase) (has_typed_data body.link.selected) p))
    early role body (OfData (AlterContextAck answers)) i l p y = absurd (not-up body y (and-left (is_up body.link.phase) (has_typed_data body.link.selected) p))
    early role body (OfMarks (Mark n)) i l p y =
        absurd (not-up body y (and-left (is_up body.link.phase) (not body.link.turn) (and-left _ (has_marks body.link.selected) (and-left _ body.receiving.active (and-left _ _ (and-left _ _ p))))))
    early role body (OfMarks (MarkAck n)) i l p y = absurd (not-up body y (and-left (is_up body.link.phase) (has_marks body.link.selected) (and-left _ _ p)))
    early role body (OfMarks (Restart n list)) i l p y = absurd i
    early role body (OfMarks (RestartAck n list)) i l p y = absurd i
    early role body (OfMarks (Give tokens)) i l p y = absurd i
    early role body (OfMarks (Please None values)) i l p y = let none : is_some {T = ℕ} None ≡ true = ap is_some i.0 in absurd cc
    early role body (OfMarks (Please (Some tokens) values)) i l p y = absurd (not-up body y (and-left (is_up body.link.phase) true p))
    early role body (OfMarks GiveConfirm) i l p y = absurd (not-up body y (and-left (is_up body.link.phase) (not body.link.turn) (and-left _ (not body.receiving.active) p)))
    early role body (OfMarks GiveAck) i l p y = absurd (not-up body y (and-left (is_up body.link.phase) body.link.gave p))
    early role body (OfActivities (Start activity)) i l p y =
        absurd (not-up body y (and-left (is_up body.link.phase) (not body.link.turn) (and-left _ (has_activities body.link.selected) (and-left _ (not body.receiving.active) (and-left _ _ p)))))
    early role body (OfActivities (Resume activity mark)) i l p y =
        absurd (not-up body y (and-left (is_up body.link.phase) (not body.link.turn) (and-left _ (has_activities body.link.selected) (and-left _ (not body.receiving.active) (and-left _ _ p)))))
    early role body (OfActivities (End number)) i l p y = absurd (not-up body y (and-left (is_up body.link.phase) body.receiving.active (and-left _ _ p)))
    early role body (OfActivities (EndAck number)) i l p y = absurd (not-up body y (and-left (is_up body.link.phase) _ (and-left _ _ p)))
    early role body (OfActivities (Interrupt reason)) i l p y = absurd (not-up body y (and-left (is_up body.link.phase) body.receiving.active p))
    early role body (OfActivities InterruptAck) i l p y = let none : is_in_place (base role) body (unit_of (OfActivities InterruptAck)) ≡ false = ap awaits_interrupt y.calm in absurd (clash _ p none)
    early role body (OfActivities (Discard reason)) i l p y = absurd (not-up body y (and-left (is_up body.link.phase) body.receiving.active p))
    early role body (OfActivities DiscardAck) i l p y = let none : is_in_place (base role) body (unit_of (OfActivities DiscardAck)) ≡ false = ap awaits_discard y.calm in absurd (clash _ p none)

    young-word : (role : Role) (body : Body) (word : Word) → IsEarly word → WordSays role body word
    young-word role body (OfAssociation (Abort transport user)) e = record { rooted = IsOver refl; said = tt }
    young-word role body word e = absurd e

    later-says : (role : Role) (body : Body) (word : Word) → IsReliableWord (base Initiator) (base Responder) word → IsLater word → word_fault (base role) body word ≡ None → (Firm tables.name_oid first body → ArrivesIn first (base role) body word) → passes_over body.link.phase ≡ false → Rooted role body → WordSays role body word
    later-says role body word i l fine arrives alive (IsYoung y) = young-word role body word (early role body word i l (in-place (base role) body word fine) y)
    later-says role body word i l fine arrives alive (IsStood s) = stood-word role body word i l (word-firm first (base role) body word (own-of word i l) fine (arrives s.firm) s.firm) s
    later-says role body word i l fine arrives alive (IsOver e) = not-over body e alive

    pub word-says : (role : Role) (body : Body) (word : Word) → IsReliableWord (base Initiator) (base Responder) word → Meets body word → word_fault (base role) body word ≡ None → (Firm tables.name_oid first body → ArrivesIn first (base role) body word) → passes_over body.link.phase ≡ false → Rooted role body → WordSays role body word
    word-says role body (OfAssociation (Connect session presentation values)) i meets fine arrives alive r =
        subst (λ (w : AssociationWord). WordSays role body (OfAssociation w)) (sym i.1)
        (connects role body i.0 (in-place (base role) body (OfAssociation (Connect session presentation values)) fine) (subst (λ (w : AssociationWord). Meets body (OfAssociation w)) i.1 meets) alive r)
    word-says role body (OfAssociation (Accept session presentation values)) i meets fine arrives alive r =
        record {
          rooted =
              subst (AcceptSays role body) (sym i.1)
              (accepts role body i.0
              (and-left (is_initiator role) (is_carrying body.link.stage) (and-left (is_initiator role && is_carrying body.link.stage) (is_opening body.link.phase) (and-left _ (has_version_two session.version) (and-left _ (has_units (needed_units Reliable) (selected_with Reliable session.requirements)) (in-place (base role) body (OfAssociation (Accept session presentation values)) fine)))))
              alive r);
          said = tt;
        }
    word-says role body (OfAssociation (Refuse transport reason presentation values)) i meets fine arrives alive r = absurd i
    word-says role body (OfAssociation (Finish transport values)) i meets fine arrives alive r = later-says role body (OfAssociation (Finish transport values)) i tt fine arrives alive r
    word-says role body (OfAssociation (Disconnect values)) i meets fine arrives alive r = later-says role body (OfAssociation (Disconnect values)) i tt fine arrives alive r
    word-says role body (OfAssociation (Abort transport user)) i meets fine arrives alive r = later-says role body (OfAssociation (Abort transport user)) i tt fine arrives alive r
    word-says role body (OfAssociation AbortAccept) i meets fine arrives alive r = absurd i
    word-says role body (OfData word) i meets fine arrives alive r = later-says role body (OfData word) i tt fine arrives alive r
    word-says role body (OfMarks word) i meets fine arrives alive r = later-says role body (OfMarks word) i tt fine arrives alive r
    word-says role body (OfActivities word) i meets fine arrives alive r = later-says role body (OfActivities word) i tt fine arrives alive r

    -- ---- what is taken stands on the contexts of the association

    pub stands : (role : Role) (body : Body) (word : Word) → IsReliableWord (base Initiator) (base Responder) word → IsLater word → (IsEarly word → ⊥) → InPlace role body word → passes_over body.link.phase ≡ false → Rooted role body → Stood role body
    stands role body word i l late p alive (IsYoung y) = absurd (late (early role body word i l p y))
    stands role body word i l late p alive (IsStood s) = s
    stands role body word i l late p alive (IsOver e) = not-over body e alive
