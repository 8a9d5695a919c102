-- What two ends of direct mode reach: all on its way is of the rules, and each end keeps what makes it so.
use Rattle.std.proofs.Common.{◌≡◌, refl, true, false, ◌∙◌, sym, ap, subst, arith, ℕ, pos, ◌+◌, ◌≤◌, List, [], ◌∷◌, ◌++◌, length, ◌⊎◌, inl, inr}
use Rattle.std.specs.Prelude.{ℤ, Bool, not, ◌&&◌, ◌||◌, Option, Some, None, Ok, is_some, nat_le, nat_lt, nat_eq, if◌then◌else◌}
use Rattle.std.proofs.lemmas.Bool.Decides.{nat_tests}
use Rattle.osi_base.specs.declared.layer_words.SetItem.{SetItem}
use Rattle.osi_base.specs.declared.layer_words.Answers.{Answers}
use Rattle.osi_base.specs.declared.acse_word.Acse.TheVariants as acse
use Rattle.osi_base.specs.Limits.{most_marks}
use Rattle.asn1_types.specs.declared.value.Val.{Val}
use Rattle.stub_tables.specs.declared.tables.Tables.{Tables}
use Rattle.stub_tables.specs.declared.apdu.Apdu.{Apdu}
use Rattle.stub_tables.specs.declared.operation.Operation.{Operation}
use Rattle.stub_tables.specs.Lookup.{operation_at, error_at}
use Rattle.dialogue.specs.declared.config.Config.{Config}
use Rattle.dialogue.specs.declared.config.Mode.TheVariants.{Direct}
use Rattle.dialogue.specs.declared.config.Phase.{Phase}
use Rattle.dialogue.specs.declared.config.Phase.TheVariants.{Idle, Opening, Up, Releasing, Over}
use Rattle.dialogue.specs.declared.call.Call.{Call}
use Rattle.dialogue.specs.declared.call.Call.TheVariants as the_calls
use Rattle.dialogue.specs.declared.call.CallRefusal.TheVariants as refusals
use Rattle.dialogue.specs.declared.indication.Indication.{Indication}
use Rattle.end_model.specs.end_rules.Base.{Base, Spellings, Fault, Item}
use Rattle.end_model.specs.end_rules.Sets.{Alteration, count_added, next_number, below, newest, listed}
use Rattle.end_model.specs.end_rules.State.{Body, Calls, OpenCall, NoAnswer, Carrying, opened_with, is_up, is_carrying, is_joined, is_asked, is_unused, is_empty, is_free, passes_over}
use Rattle.end_model.specs.end_rules.Messages.{Message, Transport, Session, TransportUnit, ConnectionRequest, ConnectionConfirm, DisconnectRequest, TransportError, Association, UserValues, value_of_item}
use Rattle.end_model.specs.end_rules.Messages.{Word, OfAssociation, OfData, OfMarks, OfActivities, Connect, Accept, Refuse, Finish, Disconnect, Abort, AbortAccept, Values, AlterContext, AlterContextAck, Mark, MarkAck, Restart, RestartAck, Give, Please, GiveConfirm, GiveAck, unit_of}
use Rattle.end_model.specs.end_rules.Writing.{acse_pair, acse_context, session_connect, presentation_connect, connect_values, connect_message, is_recovering, user_abort, proposals}
use Rattle.end_model.specs.end_rules.Hearing.{Rejecting, reject_apdu, with_reject, sent_on, hear, head_of_apdu}
use Rattle.end_model.specs.end_rules.Invoking.{carrier_in}
use Rattle.end_model.specs.end_rules.Faults.{fault_if, over, transport_fault}
use Rattle.end_model.specs.end_rules.Units.{has_marks, has_restarts, has_token, has_typed_data, has_version_two, has_units, needed_units, selected_with}
use Rattle.end_model.specs.end_rules.Policy.{policy}
use Rattle.end_model.specs.end_rules.Connecting.{refused_connect, accepted_connect, refusal_message, acceptance_message, after_accept}
use Rattle.end_model.specs.end_rules.Calling.{can_call, is_phase_for, is_idle}
use Rattle.end_model.specs.end_rules.Requesting.{due_of, due_invoke, due_outcome, after_invoke, after_outcome, answering, sent_at_once, result_in, error_for}
use Rattle.end_model.specs.end_rules.TakesTransport.{transport_unit_fault, after_transport, answers_to_transport, phase_asked, is_waiting, is_size}
use Rattle.end_model.specs.end_rules.TakesMarks.{restored_set}
use Rattle.end_model.specs.end_rules.TakesData.{alteration, settled}
use Rattle.end_model.specs.end_rules.InPlace.{is_in_place, is_opening, is_peers, awaits_restart}
use Rattle.end_model.specs.end_rules.Purging.{is_purged, is_transport_purged}
use Rattle.end_model.specs.end_rules.Reacting.{Passes, Takes, react, fails as failing, on_word, on_transport, word_fault, after_word, answers_to_word}
use Rattle.end_model.specs.end_rules.History.{after_broke, broken_phase}
use Rattle.agreement.specs.Sets.{Role, is_initiator}
use Rattle.agreement.specs.Sets.Role.{Initiator, Responder}
use Rattle.end_model.specs.Seen.{Free}
use Rattle.end_model.specs.Acting.{IsSoundBody, ReadsBack}
use Rattle.end_model.specs.Requests.{sent_all, after_called}
use Rattle.end_model.specs.BothEnds.{Common, base_at, Two, body_at, coming_to, stepped, WritesAll}
use Rattle.end_model.specs.DirectEnds.{direct_common, ProposesRightly}
use Rattle.end_model.proofs.Ladder.{passed, called, not-true}
use Rattle.end_model.proofs.DirectMachine as machine
use Rattle.reliable_model.specs.Codecs.{IsTransferable}
use Rattle.reliable_model.specs.Ledgers.{Ledger, ReachedWithLedger, begins, calls, acts, takes, passes, fails, breaks}
use Rattle.reliable_model.proofs.Fixed.{AreIdentifiers, listed-identifiers}
use Rattle.reliable_model.proofs.FirmSteps.{in-place}
use Rattle.reliable_model.proofs.Phases.{only-open, only-abort, over-calls}
use Rattle.reliable_model.proofs.Opening.{First}
use Rattle.said_words.specs.Calls.{IsCall, AreCalls}
use Rattle.said_words.specs.Words.{IsRestart, the_connect, the_acceptance, the_disconnect, IsWord, IsUnit, IsMessage, AreMessages}
use Rattle.said_words.specs.Laws.{DirectSaysWords}
use Rattle.said_words.proofs.Lists.{AreListed, IsHeld, AreMarks, AreAsked, altered-listed, altered-few, policy-few, count-append, asked-append, few-identifiers, next-low, next-high, newest-held, below-marks, marks-more, listed-restored, listed-few}
use Rattle.said_words.proofs.Answers.{answers-so}
use Rattle.said_words.proofs.Heard.{IsRight, heard-right}
use Rattle.said_words.proofs.First.{first_accepted, first-context, none-refused, first-held}
use Rattle.said_words.proofs.Alters.{alterable}
use Rattle.said_words.proofs.Handed.{data-said, invoke-said, answer-said, refuse-said, of-initiator, carrier-there}
use Rattle.said_words.proofs.Sharing.{no-own, shared-in, kept-in, sets-there}

not-there : false ≡ true → ⊥
not-there e = cc

clash : (x : Bool) → x ≡ true → x ≡ false → ⊥
clash x h i = cc

and-left : (a b : Bool) → (a && b) ≡ true → a ≡ true
and-left true b h = refl
and-left false b h = cc

and-right : (a b : Bool) → (a && b) ≡ true → b ≡ true
and-right true b h = h
and-right false b h = cc

no-fault_not : (b : Bool) (fault : Fault) → fault_if (not b) fault ≡ None → b ≡ true
no-fault_not true fault h = refl
no-fault_not false fault h = cc

le-so : (a b : ℕ) → nat_le a b ≡ true → a ≤ b
le-so a b h = grind (arith, nat_tests)

not-above : (a b : ℕ) → nat_lt a b ≡ false → b ≤ a
not-above a b h = grind (arith, nat_tests)

module _ (free : Free) (tables : Tables) (spellings : Spellings) (a b : Config) where
  abbrev common : Common
  common = direct_common tables spellings a b

  abbrev base : Role → Base
  base role = base_at role common

  abbrev first : List SetItem
  first = first_accepted common

  abbrev AreSaid : List Message → Type 0
  AreSaid messages = AreMessages (base Initiator) (base Responder) messages

  -- ---- one end

  -- nothing went over an association yet
  pub record Young (body : Body) : Type 0 where
    phase : (body.link.phase ≡ Idle) ⊎ (body.link.phase ≡ Opening)
    accepted : body.link.accepted ≡ []
    calm : body.link.awaits ≡ NoAnswer

  -- the association stands
  pub record Stood (body : Body) : Type 0 where
    phase : (body.link.phase ≡ Up) ⊎ (body.link.phase ≡ Releasing)
    stage : body.link.stage ≡ Carrying
    accepted : body.link.accepted ≡ first
    listed : AreListed body.sets.held
    room : length body.sets.held + count_added body.sets.own ≤ 64
    own : AreAsked body.sets.own
    saved : AreMarks body.saved

  pub data Rooted (body : Body) : Type 0 where
    IsYoung : Young body → Rooted body
    IsStood : Stood body → Rooted body
    IsOver : body.link.phase ≡ Over → Rooted body

  record RootedAndSaid (later : Body) (sent : List Message) : Type 0 where
    rooted : Rooted later
    said : AreSaid sent

  not-up : (body : Body) → Young body → is_up body.link.phase ≡ false
  not-up body y = go y.phase
    where
      go : (body.link.phase ≡ Idle) ⊎ (body.link.phase ≡ Opening) → is_up body.link.phase ≡ false
      go (inl e) = ap is_up e
      go (inr e) = ap is_up e

  -- a phase in which the test fails, of an association that stands
  stood-test : (test : Phase → Bool) (body : Body) → test Up ≡ false → test Releasing ≡ false → Stood body → test body.link.phase ≡ false
  stood-test test body up releasing s = go s.phase
    where
      go : (body.link.phase ≡ Up) ⊎ (body.link.phase ≡ Releasing) → test body.link.phase ≡ false
      go (inl e) = ap test e ∙ up
      go (inr e) = ap test e ∙ releasing

  held-few : (body : Body) → Stood body → length body.sets.held ≤ 64
  held-few body s = let r : length body.sets.held + count_added body.sets.own ≤ 64 = s.room in omega arith

  is-held : (body : Body) → Stood body → IsHeld body.sets.held
  is-held body s = record { listed = s.listed; few = held-few body s }

  -- the same but for its invocations
  with-calls : (body : Body) (others : Calls) → Stood body → Stood (record body { calls = others })
  with-calls body others s = record { phase = s.phase; stage = s.stage; accepted = s.accepted; listed = s.listed; room = s.room; own = s.own; saved = s.saved }

  -- ---- values of association control

  abort-said : (accepted : List SetItem) → acse_context accepted ≡ 1 → (c : Bool) → AreSaid (if c then user_abort accepted 0 [] ∷ [] else [])
  abort-said accepted e true = (ap (λ k. Abort (Some 3) (UserValues (record { id = k; pair = Some acse_pair; content = Association (acse.Abort 0 []) [] } ∷ []))) e, tt)
  abort-said accepted e false = tt

  abort-over : (body : Body) (accepted : List SetItem) (c : Bool) → (sent_all Direct (over body) (if c then user_abort accepted 0 [] ∷ [] else [])).link.phase ≡ Over
  abort-over body accepted true = refl
  abort-over body accepted false = refl

  -- ---- what is presumed

  module _ (writes : WritesAll free) (back : ReadsBack (base Initiator)) (right : ProposesRightly common) (ids : AreIdentifiers (proposals (base Initiator))) where
    on-one : (body : Body) → Stood body → acse_context body.link.accepted ≡ 1
    on-one body s = ap acse_context s.accepted ∙ first-context tables spellings a b right ids

    on-none : (body : Body) → Young body → acse_context body.link.accepted ≡ 1
    on-none body y = ap acse_context y.accepted

    -- ---- calls

    abbrev CallSays : Role → Body → Call → Option ℤ → Type 0
    CallSays role body call answer = RootedAndSaid (after_called Direct (base role) body call answer) (due_of (base role) body call (Ok answer))

    young-called : (role : Role) (body : Body) (call : Call) (answer : Option ℤ) → Young body → can_call (base role) body call ≡ Ok answer → CallSays role body call answer
    young-called role body call answer y can = go y.phase
      where
        in-phase : (phase : Phase) → body.link.phase ≡ phase → is_phase_for call phase ≡ true
        in-phase phase e = ap (is_phase_for call) (sym e) ∙ (called (base role) body call answer can).in_phase

        opens : (r : Role) → (true && not (is_initiator r)) ≡ false → CallSays r body the_calls.Open answer
        opens Initiator h = record { rooted = IsYoung (record { phase = inr refl; accepted = y.accepted; calm = y.calm }); said = (refl, tt) }
        opens Responder h = cc

        go : (body.link.phase ≡ Idle) ⊎ (body.link.phase ≡ Opening) → CallSays role body call answer
        go (inl e) =
            let o : call ≡ the_calls.Open = only-open call (in-phase Idle e) in
            let c = subst (λ x. can_call (base role) body x ≡ Ok answer) o can in
            subst (λ c. CallSays role body c answer) (sym o) (opens role (called (base role) body the_calls.Open answer c).initiates)
        go (inr e) =
            subst (λ c. CallSays role body c answer) (sym (only-abort First call (in-phase Opening e)))
            (record { rooted = IsOver (abort-over body body.link.accepted (is_carrying body.link.stage)); said = abort-said body.link.accepted (on-none body y) (is_carrying body.link.stage) })

    invoke-rooted : (role : Role) (body : Body) (context place : ℕ) (id : ℤ) (linked : Option ℤ) (o : Option Operation) (argument : Option Val) → Stood body → Rooted (sent_all Direct (after_invoke (base role) body context place id linked o argument) (due_invoke (base role) body context id linked o argument))
    invoke-rooted role body context place id linked None argument s = IsStood s
    invoke-rooted role body context place id linked (Some operation) argument s = IsStood (with-calls body _ s)

    outcome-rooted : (role : Role) (body : Body) (id : ℤ) (o : Option OpenCall) (x : Option Apdu) → Stood body → Rooted (sent_all Direct (after_outcome (base role) body id o x) (due_outcome (base role) body o x))
    outcome-rooted role body id None None s = IsStood s
    outcome-rooted role body id None (Some apdu) s = IsStood s
    outcome-rooted role body id (Some o) None s = IsStood s
    outcome-rooted role body id (Some o) (Some apdu) s = go (carrier_in (base role) body o.context)
      where
        go : (c : Option ℕ) → Rooted (sent_all Direct (answering id body) (sent_at_once Direct body c apdu))
        go None = IsStood (with-calls body _ s)
        go (Some k) = IsStood (with-calls body _ s)

    restores : (body : Body) (n : ℕ) → 1 ≤ n → n ≤ 65537 → Stood body → IsRestart n (Some (listed (restored_set body n)))
    restores body n low high s =
        let h = newest-held (below n body.saved) (below-marks n body.saved low s.saved) in
        let f : length (newest (below n body.saved)) ≤ 64 = h.few in
        let l = listed-few (newest (below n body.saved)) in
        record { low = low; high = high; items = listed (restored_set body n); is_list = refl; are = listed-restored (restored_set body n) h.listed; count = omega arith }

    stood-called : (role : Role) (body : Body) (call : Call) (answer : Option ℤ) → IsSoundBody Direct (base role) body → IsCall call → Stood body → can_call (base role) body call ≡ Ok answer → CallSays role body call answer
    stood-called role body the_calls.Open answer sound i s can = absurd (clash (is_idle body.link.phase) (called (base role) body the_calls.Open answer can).in_phase (stood-test is_idle body refl refl s))
    stood-called role body (the_calls.Invoke context operation argument linked) None sound i s can = record { rooted = IsStood s; said = tt }
    stood-called role body (the_calls.Invoke context operation argument linked) (Some id) sound i s can =
        record { rooted = invoke-rooted role body context operation id linked (operation_at tables operation) argument s; said = invoke-said free tables spellings a b writes back role body context operation argument linked (Some id) s.listed sound can }
    stood-called role body (the_calls.Answer id result) answer sound i s can =
        record { rooted = outcome-rooted role body id (opened_with false id body.calls.opens) (result_in (base role) body id result) s; said = answer-said free tables spellings a b writes back role body id result answer s.listed sound can }
    stood-called role body (the_calls.Refuse id error parameter) answer sound i s can =
        record { rooted = outcome-rooted role body id (opened_with false id body.calls.opens) (error_for id parameter (error_at tables error)) s; said = refuse-said free tables spellings a b writes back role body id error parameter answer s.listed sound can }
    stood-called role body (the_calls.Alter add delete) answer sound i s can =
        let x = alterable (base role) body (alteration add delete) answer i (called (base role) body (the_calls.Alter add delete) answer can).rows in
        let c = count-append body.sets.own (alteration add delete) in
        let r : length body.sets.held + count_added body.sets.own + length add ≤ 64 = x.room in
        record {
          rooted = IsStood (record { phase = s.phase; stage = s.stage; accepted = s.accepted; listed = s.listed; room = omega arith; own = asked-append body.sets.own (alteration add delete) s.own x.added; saved = s.saved });
          said = (x.is, tt);
        }
    stood-called role body the_calls.Mark answer sound i s can =
        let rows = (called (base role) body the_calls.Mark answer can).rows in
        let x = passed (not (has_marks body.link.selected)) refusals.NotNegotiated _ answer rows in
        let y = passed (not (is_free body.link.awaits)) refusals.Waiting _ answer x.later in
        let z = passed (not body.link.turn) refusals.NoTurn _ answer y.later in
        let u = passed (not (is_empty body.sets.own)) refusals.AlterPending _ answer z.later in
        let v = passed (nat_lt most_marks (next_number body.saved)) refusals.MarksFull _ answer u.later in
        let n = not-above most_marks (next_number body.saved) v.holds in
        record {
          rooted = IsStood (record { phase = s.phase; stage = s.stage; accepted = s.accepted; listed = s.listed; room = s.room; own = s.own; saved = marks-more (record { number = next_number body.saved; set = body.sets.held }) body.saved n (is-held body s) s.saved });
          said = ((next-low body.saved s.saved, n), tt);
        }
    stood-called role body the_calls.Give answer sound i s can =
        record { rooted = IsStood (record { phase = s.phase; stage = s.stage; accepted = s.accepted; listed = s.listed; room = s.room; own = s.own; saved = s.saved }); said = (refl, tt) }
    stood-called role body (the_calls.Please priority) answer sound i s can = record { rooted = IsStood s; said = ((refl, refl), tt) }
    stood-called role body (the_calls.Resync n) answer sound i s can =
        let rows = (called (base role) body (the_calls.Resync n) answer can).rows in
        let x = passed (not (has_restarts body.link.selected)) refusals.NotNegotiated _ answer rows in
        let y = passed (not (is_free body.link.awaits)) refusals.Waiting _ answer x.later in
        let z = passed (not (nat_le 1 n && nat_le n (next_number body.saved))) (refusals.NoSuchMark n) _ answer y.later in
        let t = not-true (nat_le 1 n && nat_le n (next_number body.saved)) z.holds in
        let low = le-so 1 n (and-left (nat_le 1 n) (nat_le n (next_number body.saved)) t) in
        let high = le-so n (next_number body.saved) (and-right (nat_le 1 n) (nat_le n (next_number body.saved)) t) in
        let top = next-high body.saved s.saved in
        record {
          rooted = IsStood (record { phase = s.phase; stage = s.stage; accepted = s.accepted; listed = s.listed; room = s.room; own = s.own; saved = s.saved });
          said = (restores body n low (omega arith) s, tt);
        }
    stood-called role body the_calls.Interrupt answer sound i s can = let r = (called (base role) body the_calls.Interrupt answer can).rows in cc
    stood-called role body the_calls.Resume answer sound i s can = let r = (called (base role) body the_calls.Resume answer can).rows in cc
    stood-called role body the_calls.Discard answer sound i s can = let r = (called (base role) body the_calls.Discard answer can).rows in cc
    stood-called role body the_calls.Recover answer sound i s can = absurd (clash (is_phase_for the_calls.Recover body.link.phase) (called (base role) body the_calls.Recover answer can).in_phase (stood-test (is_phase_for the_calls.Recover) body refl refl s))
    stood-called role body the_calls.Release answer sound i s can =
        record {
          rooted = IsStood (record { phase = inr refl; stage = s.stage; accepted = s.accepted; listed = s.listed; room = s.room; own = s.own; saved = s.saved });
          said = (ap (λ k. Finish (Some 1) (record { id = k; pair = Some acse_pair; content = Association (acse.ReleaseRequest (pos 0)) [] } ∷ [])) (on-one body s), tt);
        }
    stood-called role body the_calls.Abort answer sound i s can =
        record { rooted = IsOver (abort-over body body.link.accepted (is_carrying body.link.stage)); said = abort-said body.link.accepted (on-one body s) (is_carrying body.link.stage) }

    called-says : (role : Role) (body : Body) (call : Call) (answer : Option ℤ) → IsSoundBody Direct (base role) body → IsCall call → Rooted body → can_call (base role) body call ≡ Ok answer → CallSays role body call answer
    called-says role body call answer sound i (IsYoung y) can = young-called role body call answer y can
    called-says role body call answer sound i (IsStood s) can = stood-called role body call answer sound i s can
    called-says role body call answer sound i (IsOver e) can = absurd (over-calls (base role) body call answer e can)

    -- ---- words that are taken

    abbrev WordSays : Role → Body → Word → Type 0
    WordSays role body word = RootedAndSaid (after_word (base role) body word) (answers_to_word (base role) body word)

    abbrev InPlace : Role → Body → Word → Type 0
    InPlace role body word = is_in_place (base role) body (unit_of word) ≡ true

    disconnect-said : (accepted : List SetItem) → acse_context accepted ≡ 1 → Disconnect (record { id = acse_context accepted; pair = Some acse_pair; content = Association (acse.ReleaseResponse (pos 0)) [] } ∷ []) ≡ the_disconnect
    disconnect-said accepted e = ap (λ k. Disconnect (record { id = k; pair = Some acse_pair; content = Association (acse.ReleaseResponse (pos 0)) [] } ∷ [])) e

    -- the reject that data bring
    rejecting : (role : Role) (body : Body) (context : ℕ) (r : Option Rejecting) → IsRight (base role) r → Stood body → RootedAndSaid (with_reject (base role) body context r).body ((with_reject (base role) body context r).answers ++ [])
    rejecting role body context None i s = record { rooted = IsStood s; said = tt }
    rejecting role body context (Some r) i s = go (carrier_in (base role) body context) refl
      where
        go : (c : Option ℕ) → carrier_in (base role) body context ≡ c → RootedAndSaid (sent_on body r c).body ((sent_on body r c).answers ++ [])
        go None e = record { rooted = IsStood s; said = tt }
        go (Some k) e = record { rooted = IsStood s; said = (data-said free tables spellings a b role body k (reject_apdu r) (carrier-there free tables spellings a b role body context k e) s.listed i, tt) }

    data-taken : (role : Role) (body : Body) (item : Item) → IsTransferable (base Initiator) item.apdu → Stood body → WordSays role body (OfData (Values (value_of_item item ∷ [])))
    data-taken role body item t s =
        let heard = hear (base role) body.calls item.id (head_of_apdu item.apdu) in
        let r = rejecting role (record body { calls = heard.calls }) item.id heard.reject (heard-right (base role) body.calls item.id item.apdu (of-initiator free tables spellings a b role item.apdu t).proper) (with-calls body heard.calls s) in
        record { rooted = r.rooted; said = r.said }

    settled-rooted : (body : Body) (own : List Alteration) (answers : Answers) → body.sets.own ≡ own → Stood body → Rooted (settled own answers body)
    settled-rooted body [] answers e s = IsStood s
    settled-rooted body (x ∷ own) answers e s =
        let asked : AreAsked (x ∷ own) = subst AreAsked e s.own in
        let r : length body.sets.held + count_added (x ∷ own) ≤ 64 = subst (λ o. length body.sets.held + count_added o ≤ 64) e s.room in
        let f = altered-few x answers body.sets.held in
        IsStood (record { phase = s.phase; stage = s.stage; accepted = s.accepted; listed = altered-listed x answers body.sets.held asked.0 s.listed; room = omega arith; own = asked.1; saved = s.saved })

    restarted-so : (role : Role) (body : Body) (n : ℕ) → 1 ≤ n → Stood body → (later : Body) → later ≡ after_word (base role) body (OfMarks (Restart n None)) → Rooted later
    restarted-so role body n low s later e =
        let h = newest-held (below n body.saved) (below-marks n body.saved low s.saved) in
        let f : length (newest (below n body.saved)) ≤ 64 = h.few in
        subst Rooted (sym e) (IsStood (record { phase = s.phase; stage = s.stage; accepted = s.accepted; listed = h.listed; room = omega arith; own = tt; saved = below-marks n body.saved low s.saved }))

    stood-word : (role : Role) (body : Body) (word : Word) → IsWord (base Initiator) (base Responder) word → InPlace role body word → Stood body → WordSays role body word
    stood-word role body (OfAssociation (Connect session presentation values)) i in_place s =
        absurd (clash (is_joined body.link.stage) (and-right (not (is_initiator role)) (is_joined body.link.stage) in_place) (ap is_joined s.stage))
    stood-word role body (OfAssociation (Accept session presentation values)) i in_place s =
        absurd (clash (is_opening body.link.phase) (and-right (is_initiator role && is_carrying body.link.stage) (is_opening body.link.phase) (and-left _ (has_version_two session.version) (and-left _ (has_units (needed_units Direct) (selected_with Direct session.requirements)) in_place)))
        (stood-test is_opening body refl refl s))
    stood-word role body (OfAssociation (Refuse transport reason presentation values)) i in_place s = absurd i
    stood-word role body (OfAssociation (Finish transport values)) i in_place s = record { rooted = IsOver refl; said = (disconnect-said body.link.accepted (on-one body s), tt) }
    stood-word role body (OfAssociation (Disconnect values)) i in_place s = record { rooted = IsOver refl; said = tt }
    stood-word role body (OfAssociation (Abort transport user)) i in_place s = record { rooted = IsOver refl; said = tt }
    stood-word role body (OfAssociation AbortAccept) i in_place s = absurd i
    stood-word role body (OfData (Values values)) i in_place s = subst (λ vs. WordSays role body (OfData (Values vs))) (sym i.is_one) (data-taken role body i.item i.transferable s)
    stood-word role body (OfData (AlterContext add delete)) i in_place s =
        record {
          rooted = IsStood (record { phase = s.phase; stage = s.stage; accepted = s.accepted; listed = altered-listed (alteration add delete) (policy (base role) body (alteration add delete)) body.sets.held (few-identifiers add i.added) s.listed; room = policy-few (base role) body (alteration add delete) s.room; own = s.own; saved = s.saved });
          said = (answers-so (base role) body (alteration add delete) i, tt);
        }
    stood-word role body (OfData (AlterContextAck answers)) i in_place s = record { rooted = settled-rooted body body.sets.own answers refl s; said = tt }
    stood-word role body (OfMarks (Mark n)) i in_place s =
        record {
          rooted = IsStood (record { phase = s.phase; stage = s.stage; accepted = s.accepted; listed = s.listed; room = s.room; own = s.own; saved = marks-more (record { number = n; set = body.sets.held }) body.saved i.1 (is-held body s) s.saved });
          said = tt;
        }
    stood-word role body (OfMarks (MarkAck n)) i in_place s = absurd i
    stood-word role body (OfMarks (Restart n list)) i in_place s = record { rooted = restarted-so role body n i.low s _ refl; said = (restores body n i.low i.high s, tt) }
    stood-word role body (OfMarks (RestartAck n list)) i in_place s = record { rooted = restarted-so role body n i.low s _ refl; said = tt }
    stood-word role body (OfMarks (Give None)) i in_place s = record { rooted = IsStood s; said = tt }
    stood-word role body (OfMarks (Give (Some tokens))) i in_place s =
        record { rooted = IsStood (record { phase = s.phase; stage = s.stage; accepted = s.accepted; listed = s.listed; room = s.room; own = s.own; saved = s.saved }); said = tt }
    stood-word role body (OfMarks (Please tokens values)) i in_place s = record { rooted = IsStood s; said = tt }
    stood-word role body (OfMarks GiveConfirm) i in_place s = absurd i
    stood-word role body (OfMarks GiveAck) i in_place s = absurd i
    stood-word role body (OfActivities word) i in_place s = absurd i

    -- before the association stands only what opens or ends it is in its place
    abbrev AcceptSays : Role → Body → Message → Type 0
    AcceptSays role body (Session (OfAssociation (Accept session presentation values))) = Rooted (after_accept (base role) body session presentation values)
    AcceptSays role body message = Unit {0}

    opened-stood : (role : Role) → (later : Body) → (later.link.phase ≡ Up) → later.link.stage ≡ Carrying → later.link.accepted ≡ first → later.sets.held ≡ first → later.sets.own ≡ [] → later.saved ≡ record { number = 0; set = first } ∷ [] → Stood later
    opened-stood role later p st ac h o sv =
        let f = first-held tables spellings a b ids in
        let few : length first ≤ 64 = f.few in
        record {
          phase = inl p;
          stage = st;
          accepted = ac;
          listed = subst AreListed (sym h) f.listed;
          room = subst (λ (x : List SetItem). length x + count_added later.sets.own ≤ 64) (sym h) (subst (λ (o : List Alteration). length first + count_added o ≤ 64) (sym o) (omega arith));
          own = subst AreAsked (sym o) tt;
          saved = subst AreMarks (sym sv) (refl, f);
        }

    connects : (role : Role) (body : Body) → (not (is_initiator role) && is_joined body.link.stage) ≡ true → WordSays role body (OfAssociation (the_connect (base Initiator) false))
    connects Initiator body h = cc
    connects Responder body h =
        subst (λ r. RootedAndSaid (if r then refused_connect body else accepted_connect (base Responder) body (session_connect (base Initiator)) (presentation_connect (base Initiator)) (connect_values (base Initiator) false))
        (if r then refusal_message (base Responder) body (session_connect (base Initiator)) (presentation_connect (base Initiator)) (connect_values (base Initiator) false) ∷ [] else acceptance_message (base Responder) (session_connect (base Initiator)) (presentation_connect (base Initiator)) (connect_values (base Initiator) false) ∷ []))
        (sym (none-refused tables spellings a b body right ids))
        (record { rooted = IsStood (opened-stood Responder _ refl refl refl refl refl refl); said = ((false, refl), tt) })

    accepts : (role : Role) (body : Body) → is_initiator role ≡ true → AcceptSays role body (the_acceptance (base Initiator) (base Responder) false)
    accepts Initiator body h = IsStood (opened-stood Initiator _ refl refl refl refl refl refl)
    accepts Responder body h = cc

    young-word : (role : Role) (body : Body) (word : Word) → IsWord (base Initiator) (base Responder) word → InPlace role body word → Young body → WordSays role body word
    young-word role body (OfAssociation (Connect session presentation values)) i in_place y = subst (λ w. WordSays role body (OfAssociation w)) (sym i.1) (connects role body in_place)
    young-word role body (OfAssociation (Accept session presentation values)) i in_place y =
        record {
          rooted =
              subst (AcceptSays role body) (sym i.1)
              (accepts role body (and-left (is_initiator role) (is_carrying body.link.stage) (and-left (is_initiator role && is_carrying body.link.stage) (is_opening body.link.phase) (and-left _ (has_version_two session.version) (and-left _ (has_units (needed_units Direct) (selected_with Direct session.requirements)) in_place)))));
          said = tt;
        }
    young-word role body (OfAssociation (Refuse transport reason presentation values)) i in_place y = absurd i
    young-word role body (OfAssociation (Finish transport values)) i in_place y = record { rooted = IsOver refl; said = (disconnect-said body.link.accepted (on-none body y), tt) }
    young-word role body (OfAssociation (Disconnect values)) i in_place y = record { rooted = IsOver refl; said = tt }
    young-word role body (OfAssociation (Abort transport user)) i in_place y = record { rooted = IsOver refl; said = tt }
    young-word role body (OfAssociation AbortAccept) i in_place y = absurd i
    young-word role body (OfData (Values values)) i in_place y = absurd (clash (is_up body.link.phase) (and-left (is_up body.link.phase) true in_place) (not-up body y))
    young-word role body (OfData (AlterContext add delete)) i in_place y = absurd (clash (is_up body.link.phase) (and-left (is_up body.link.phase) (has_typed_data body.link.selected) in_place) (not-up body y))
    young-word role body (OfData (AlterContextAck answers)) i in_place y = absurd (clash (is_up body.link.phase) (and-left (is_up body.link.phase) (has_typed_data body.link.selected) in_place) (not-up body y))
    young-word role body (OfMarks (Mark n)) i in_place y =
        absurd (clash (is_up body.link.phase)
        (and-left (is_up body.link.phase) (not body.link.turn) (and-left (is_peers body) (has_marks body.link.selected) (and-left (is_peers body && has_marks body.link.selected) true (and-left _ (nat_eq n (next_number body.saved)) (and-left _ (nat_le n most_marks) in_place)))))
        (not-up body y))
    young-word role body (OfMarks (MarkAck n)) i in_place y = absurd i
    young-word role body (OfMarks (Restart n list)) i in_place y =
        absurd (clash (is_up body.link.phase)
        (and-left (is_up body.link.phase) (has_restarts body.link.selected) (and-left (is_up body.link.phase && has_restarts body.link.selected) (nat_le 1 n) (and-left _ (nat_le n (next_number body.saved)) in_place)))
        (not-up body y))
    young-word role body (OfMarks (RestartAck n list)) i in_place y = let none : is_in_place (base role) body (unit_of (OfMarks (RestartAck n list))) ≡ false = ap (λ w. awaits_restart w n) y.calm in absurd (clash _ in_place none)
    young-word role body (OfMarks (Give None)) i in_place y = cc
    young-word role body (OfMarks (Give (Some tokens))) i in_place y =
        absurd (clash (is_up body.link.phase) (and-left (is_up body.link.phase) (not body.link.turn) (and-right (has_marks body.link.selected) (is_peers body) in_place)) (not-up body y))
    young-word role body (OfMarks (Please None values)) i in_place y = absurd (not-there (ap is_some i.0))
    young-word role body (OfMarks (Please (Some tokens) values)) i in_place y = absurd (clash (is_up body.link.phase) (and-left (is_up body.link.phase) (has_token (base role) body) in_place) (not-up body y))
    young-word role body (OfMarks GiveConfirm) i in_place y = absurd i
    young-word role body (OfMarks GiveAck) i in_place y = absurd i
    young-word role body (OfActivities word) i in_place y = absurd i

    -- ---- units of the transport

    abbrev UnitSays : Role → Body → TransportUnit → Type 0
    UnitSays role body unit = RootedAndSaid (after_transport (base role) body unit) (answers_to_transport (base role) body unit)

    young-unit : (role : Role) (body : Body) (unit : TransportUnit) → IsUnit (base Initiator) unit → transport_unit_fault (base role) body unit ≡ None → Young body → UnitSays role body unit
    young-unit role body (ConnectionRequest source size calling other_) i fine y =
        subst (UnitSays role body) (sym i) (record { rooted = IsYoung (record { phase = inr (opens y.phase); accepted = y.accepted; calm = y.calm }); said = (refl, tt) })
      where
        opens : (body.link.phase ≡ Idle) ⊎ (body.link.phase ≡ Opening) → phase_asked body.link.phase true ≡ Opening
        opens (inl e) = ap (λ p. phase_asked p true) e
        opens (inr e) = ap (λ p. phase_asked p true) e
    young-unit role body (ConnectionConfirm destination size) i fine y =
        record { rooted = IsYoung (record { phase = y.phase; accepted = y.accepted; calm = y.calm }); said = (confirmed role fine, tt) }
      where
        fresh : (body.link.phase ≡ Idle) ⊎ (body.link.phase ≡ Opening) → is_recovering body.link.phase ≡ false
        fresh (inl e) = ap is_recovering e
        fresh (inr e) = ap is_recovering e

        confirmed : (r : Role) → transport_unit_fault (base r) body (ConnectionConfirm destination size) ≡ None → IsMessage (base Initiator) (base Responder) (connect_message (base r) (is_recovering body.link.phase))
        confirmed Initiator f = subst (λ x. IsMessage (base Initiator) (base Responder) (connect_message (base Initiator) x)) (sym (fresh y.phase)) (false, refl)
        confirmed Responder f = cc
    young-unit role body (DisconnectRequest destination) i fine y = absurd i
    young-unit role body TransportError i fine y = absurd i

    stood-unit : (role : Role) (body : Body) (unit : TransportUnit) → IsUnit (base Initiator) unit → transport_unit_fault (base role) body unit ≡ None → Stood body → UnitSays role body unit
    stood-unit role body (ConnectionRequest source size calling other_) i fine s =
        absurd (clash (is_waiting body.link.phase) (and-right (not (is_initiator role) && is_unused body.link.stage) (is_waiting body.link.phase) (no-fault_not _ transport_fault fine)) (stood-test is_waiting body refl refl s))
    stood-unit role body (ConnectionConfirm destination size) i fine s =
        absurd (clash (is_asked body.link.stage) (and-right (is_initiator role) (is_asked body.link.stage) (and-left (is_initiator role && is_asked body.link.stage) (is_size size) (no-fault_not _ transport_fault fine))) (ap is_asked s.stage))
    stood-unit role body (DisconnectRequest destination) i fine s = absurd i
    stood-unit role body TransportError i fine s = absurd i

    -- ---- takings

    over-takes : {R : Type 0} (body : Body) → body.link.phase ≡ Over → passes_over body.link.phase ≡ false → R
    over-takes body e alive = absurd (clash (passes_over body.link.phase) (ap passes_over e) alive)

    word-says : (role : Role) (body : Body) (word : Word) → IsWord (base Initiator) (base Responder) word → word_fault (base role) body word ≡ None → passes_over body.link.phase ≡ false → Rooted body → WordSays role body word
    word-says role body word i fine alive (IsYoung y) = young-word role body word i (in-place (base role) body word fine) y
    word-says role body word i fine alive (IsStood s) = stood-word role body word i (in-place (base role) body word fine) s
    word-says role body word i fine alive (IsOver e) = over-takes body e alive

    unit-says : (role : Role) (body : Body) (unit : TransportUnit) → IsUnit (base Initiator) unit → transport_unit_fault (base role) body unit ≡ None → passes_over body.link.phase ≡ false → Rooted body → UnitSays role body unit
    unit-says role body unit i fine alive (IsYoung y) = young-unit role body unit i fine y
    unit-says role body unit i fine alive (IsStood s) = stood-unit role body unit i fine s
    unit-says role body unit i fine alive (IsOver e) = over-takes body e alive

    taken-says : (role : Role) (body : Body) (message : Message) (later : Body) (answers : List Message) (shown : List Indication) → IsMessage (base Initiator) (base Responder) message → Rooted body → react (base role) body message ≡ Takes later answers shown → RootedAndSaid later answers
    taken-says role body (Transport unit) later answers shown i r h = go (passes_over body.link.phase) refl (is_transport_purged body.link.awaits) (transport_unit_fault (base role) body unit) refl h
      where
        go : (p : Bool) → passes_over body.link.phase ≡ p → (q : Bool) (f : Option Fault) → transport_unit_fault (base role) body unit ≡ f → (if p then Passes else (if q then Passes else on_transport (base role) body unit f)) ≡ Takes later answers shown → RootedAndSaid later answers
        go true e q f g h = cc
        go false e true f g h = cc
        go false e false (Some fault) g h = cc
        go false e false None g h =
            let x : after_transport (base role) body unit ≡ later = cc in
            let y : answers_to_transport (base role) body unit ≡ answers = cc in
            subst (λ z. RootedAndSaid z answers) x (subst (RootedAndSaid (after_transport (base role) body unit)) y (unit-says role body unit i g e r))
    taken-says role body (Session word) later answers shown i r h = go (passes_over body.link.phase) refl (is_joined body.link.stage || is_carrying body.link.stage) (is_purged (is_initiator role) body.link.awaits (unit_of word)) (word_fault (base role) body word) refl h
      where
        go : (p : Bool) → passes_over body.link.phase ≡ p → (q u : Bool) (f : Option Fault) → word_fault (base role) body word ≡ f → (if p then Passes else (if not q then failing body body.link.accepted transport_fault else (if u then Passes else on_word (base role) body word f))) ≡ Takes later answers shown → RootedAndSaid later answers
        go true e q u f g h = cc
        go false e false u f g h = cc
        go false e true true f g h = cc
        go false e true false (Some fault) g h = cc
        go false e true false None g h =
            let x : after_word (base role) body word ≡ later = cc in
            let y : answers_to_word (base role) body word ≡ answers = cc in
            subst (λ z. RootedAndSaid z answers) x (subst (RootedAndSaid (after_word (base role) body word)) y (word-says role body word i g e r))

    -- ---- breaks

    broke-rooted : (role : Role) (body : Body) → Rooted body → Rooted (after_broke (base role) body)
    broke-rooted role body (IsYoung y) = go y.phase
      where
        go : (body.link.phase ≡ Idle) ⊎ (body.link.phase ≡ Opening) → Rooted (after_broke (base role) body)
        go (inl e) = IsYoung (record { phase = inl (ap (broken_phase Direct) e); accepted = y.accepted; calm = refl })
        go (inr e) = IsOver (ap (broken_phase Direct) e)
    broke-rooted role body (IsStood s) = go s.phase
      where
        go : (body.link.phase ≡ Up) ⊎ (body.link.phase ≡ Releasing) → Rooted (after_broke (base role) body)
        go (inl e) = IsOver (ap (broken_phase Direct) e)
        go (inr e) = IsOver (ap (broken_phase Direct) e)
    broke-rooted role body (IsOver e) = IsOver (ap (broken_phase Direct) e)

    -- ---- two ends

    pub record Said (two : Two) : Type 0 where
      pub of_a : Rooted two.a
      pub of_b : Rooted two.b
      pub to_a : AreSaid two.to_a
      pub to_b : AreSaid two.to_b

    said-append : (xs ys : List Message) → AreSaid xs → AreSaid ys → AreSaid (xs ++ ys)
    said-append [] ys h k = k
    said-append (x ∷ xs) ys h k = (h.0, said-append xs ys h.1 k)

    rooted-at : (role : Role) (two : Two) → Said two → Rooted (body_at role two)
    rooted-at Initiator two s = s.of_a
    rooted-at Responder two s = s.of_b

    pub coming-said : (role : Role) (two : Two) → Said two → AreSaid (coming_to role two)
    coming-said Initiator two s = s.to_a
    coming-said Responder two s = s.to_b

    stepped-said : (role : Role) (two : Two) (later : Body) (left sent : List Message) → Said two → Rooted later → AreSaid left → AreSaid sent → Said (stepped role later left sent two)
    stepped-said Initiator two later left sent s r l m = record { of_a = r; of_b = s.of_b; to_a = l; to_b = said-append two.to_b sent s.to_b m }
    stepped-said Responder two later left sent s r l m = record { of_a = s.of_a; of_b = r; to_a = said-append two.to_a sent s.to_a m; to_b = l }

    sound-at : (role : Role) (two : Two) (ledger : Ledger) → ReachedWithLedger common two ledger → IsSoundBody Direct (base role) (body_at role two)
    sound-at Initiator two ledger g = (kept-in free tables spellings a b writes back right two ledger g).sound_a
    sound-at Responder two ledger g = (kept-in free tables spellings a b writes back right two ledger g).sound_b

    pub all-said : (two : Two) (ledger : Ledger) (g : ReachedWithLedger common two ledger) → AreCalls common two ledger g → Said two
    all-said two ledger begins c =
        record { of_a = IsYoung (record { phase = inl refl; accepted = refl; calm = refl }); of_b = IsYoung (record { phase = inl refl; accepted = refl; calm = refl }); to_a = tt; to_b = tt }
    all-said two ledger (calls x l role call answer g h) c =
        let s = all-said x l g c.1 in
        let m = called-says role (body_at role x) call answer (sound-at role x l g) c.0 (rooted-at role x s) h in
        stepped-said role x (after_called Direct (base role) (body_at role x) call answer) (coming_to role x) (due_of (base role) (body_at role x) call (Ok answer)) s m.rooted (coming-said role x s) m.said
    all-said two ledger (acts x l role own g h) c = let none : None ≡ Some own = sym (no-own free tables spellings a b role (body_at role x)) ∙ h in absurd cc
    all-said two ledger (takes x l role message left body answers shown g e h) c =
        let s = all-said x l g c in
        let n : AreSaid (message ∷ left) = subst AreSaid e (coming-said role x s) in
        let m = taken-says role (body_at role x) message body answers shown n.0 (rooted-at role x s) h in
        stepped-said role x body left answers s m.rooted n.1 m.said
    all-said two ledger (passes x l role message left g e h) c =
        let s = all-said x l g c in
        let n : AreSaid (message ∷ left) = subst AreSaid e (coming-said role x s) in
        stepped-said role x (body_at role x) left [] s (rooted-at role x s) n.1 tt
    all-said two ledger (fails x l role message left fault body aborts shown g e h) c =
        let s = shared-in free tables spellings a b writes back right x l g in
        let k = kept-in free tables spellings a b writes back right x l g in
        let n = sets-there free tables spellings a b x l.shared s.sets role message left k e in
        absurd (machine.never-fails free tables spellings a b x l.shared s.sets role message left n.rest fault body aborts shown
        (machine.handles free tables spellings a b x l.shared s.sets role message left n.first n.rest writes right k e n.is_it) h)
    all-said two ledger (breaks x l g) c =
        let s = all-said x l g c in record { of_a = broke-rooted Initiator x.a s.of_a; of_b = broke-rooted Responder x.b s.of_b; to_a = tt; to_b = tt }

    -- what a call sends there
    pub called-said : (role : Role) (two : Two) (ledger : Ledger) (call : Call) (answer : Option ℤ) (g : ReachedWithLedger common two ledger) → IsCall call → AreCalls common two ledger g → can_call (base role) (body_at role two) call ≡ Ok answer → AreSaid (due_of (base role) (body_at role two) call (Ok answer))
    called-said role two ledger call answer g i c h = (called-says role (body_at role two) call answer (sound-at role two ledger g) i (rooted-at role two (all-said two ledger g c)) h).said

pub direct-says : DirectSaysWords
direct-says free tables spellings a b writes back right contexts two ledger s role =
    coming-said free tables spellings a b writes back right (listed-identifiers (proposals (base_at Initiator (direct_common tables spellings a b))) contexts) role two
    (all-said free tables spellings a b writes back right (listed-identifiers (proposals (base_at Initiator (direct_common tables spellings a b))) contexts) two ledger s.goes s.calls)
