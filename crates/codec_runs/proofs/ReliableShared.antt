-- In reliable mode the shared set keeps the contexts of the association from its opening on, in what it is, in the inter-activity set,
-- and in what marks saved of the activities in progress; so each value stands with the pair that the set gives its context at its sending.
use Rattle.std.proofs.Common.{◌≡◌, refl, true, false, ◌∙◌, sym, ap, subst, arith, ℕ, zero, suc, ◌≤◌, List, [], ◌∷◌, ◌++◌, ◌⊎◌, inl, inr}
use Rattle.std.specs.Prelude.{ℤ, Bool, not, ◌&&◌, ◌||◌, Option, Some, None, Ok, nat_eq, if◌then◌else◌}
use Rattle.osi_base.specs.declared.syntax.Pair.{Pair}
use Rattle.osi_base.specs.declared.layer_words.SetItem.{SetItem}
use Rattle.osi_base.specs.declared.layer_words.Answers.{Answers}
use Rattle.osi_base.specs.declared.session_word.SessionConnect.{SessionConnect}
use Rattle.osi_base.specs.declared.presentation_word.PresentationConnect.{PresentationConnect}
use Rattle.osi_base.specs.declared.presentation_word.PresentationAccept.{PresentationAccept}
use Rattle.asn1_types.specs.declared.value.Val.{Val}
use Rattle.stub_tables.specs.declared.tables.Tables.{Tables}
use Rattle.stub_tables.specs.declared.apdu.Apdu.{Apdu}
use Rattle.stub_tables.specs.declared.operation.Operation.{Operation}
use Rattle.stub_tables.specs.Lookup.{operation_at, error_at}
use Rattle.dialogue.specs.declared.config.Config.{Config}
use Rattle.dialogue.specs.declared.config.Mode.TheVariants.{Reliable}
use Rattle.dialogue.specs.declared.config.Phase.{Phase}
use Rattle.dialogue.specs.declared.config.Phase.TheVariants as phases
use Rattle.dialogue.specs.declared.call.Call.{Call}
use Rattle.dialogue.specs.declared.call.Call.TheVariants as the_calls
use Rattle.dialogue.specs.declared.indication.Indication.{Indication}
use Rattle.end_rules.specs.Base.{Base, Spellings}
use Rattle.end_rules.specs.Sets.{Alteration, Saved, is_fixed, altered, below, newest}
use Rattle.osi_base.specs.SetPlaces.{pair_of}
use Rattle.end_rules.specs.Policy.{policy, is_faulty_proposal}
use Rattle.end_rules.specs.Messages.{Message, Transport, Session, TransportUnit, ConnectionRequest, ConnectionConfirm, DisconnectRequest, TransportError, DataValue, Word, OfAssociation, OfData, OfMarks, OfActivities, AssociationWord}
use Rattle.end_rules.specs.Messages.{Connect, Accept, Refuse, Finish, Disconnect, Abort, AbortAccept, Values, AlterContext, AlterContextAck, Mark, MarkAck, Restart, RestartAck, Give, Please, GiveConfirm, GiveAck, Accepting}
use Rattle.end_rules.specs.Messages.{Start, Resume, End, EndAck, Interrupt, InterruptAck, Discard, DiscardAck, Information}
use Rattle.end_rules.specs.State.{Body, Calls, OpenCall, Octets, Marked, Suspended, Ending, Transfer, Sending, opened_with, from_mark, up_to, highest, pieces_of, confirmed_of, on_current, on_transfer, is_carrying, is_broken, passes_over}
use Rattle.end_rules.specs.Faults.{fault_if, over, unexpected_ppdu, invalid_ppdu}
use Rattle.end_rules.specs.Writing.{acse_pair, acse_context, rtse_context, proposals, provider_refusal, refuse_message, user_abort, session_connect, presentation_connect, connect_values}
use Rattle.end_rules.specs.Connecting.{is_refused, has_acse, set_for, results_for, recovers_in, refused_connect, accepted_connect, acceptance_message}
use Rattle.end_rules.specs.Hearing.{Rejecting, with_reject, hear, head_of, take_head, take_values}
use Rattle.end_rules.specs.Calling.{can_call, is_phase_for}
use Rattle.end_rules.specs.Requesting.{due_of, due_invoke, due_outcome, after_invoke, after_outcome, result_in, error_for, resumed}
use Rattle.end_rules.specs.ByItself.{OwnAct, next_own, item_on, encoded_as}
use Rattle.end_rules.specs.TakesTransport.{after_transport, answers_to_transport}
use Rattle.end_rules.specs.TakesData.{alteration, settled}
use Rattle.end_rules.specs.TakesActivities.{handed_up, received}
use Rattle.end_rules.specs.Reacting.{Passes, Takes, react, fault_above, word_fault, after_word, answers_to_word}
use Rattle.end_rules.specs.History.{after_step, step_of, after_broke, broken_phase}
use Rattle.end_rules.specs.World.{Shared, shared_first, saved_of, saving}
use Rattle.agreement.specs.Sets.{Role, other, is_initiator}
use Rattle.agreement.specs.Sets.Role.{Initiator, Responder}
use Rattle.end_model.specs.Seen.{Free}
use Rattle.end_model.specs.Rows.{at}
use Rattle.end_model.specs.Requests.{sent_all, after_called}
use Rattle.end_model.specs.BothEnds.{Common, base_at, Two, body_at, coming_to, stepped, two_new, both_broke}
use Rattle.end_model.specs.Sharing.{side_of, shared_all_sent, shared_all_answered}
use Rattle.end_model.proofs.Ladder.{called}
use Rattle.end_model.proofs.OwnActs.{leading}
use Rattle.reliable_model.specs.Ledgers.{Ledger, own_messages}
use Rattle.reliable_model.specs.ReliableEnds.{reliable_common}
use Rattle.reliable_model.proofs.Fixed.{AreIdentifiers}
use Rattle.reliable_model.proofs.Firm.{Keeps, current-pieces}
use Rattle.reliable_model.proofs.FirmSteps.{in-place, nothing-above}
use Rattle.reliable_model.proofs.OwnRows.{Kind, StartsNext, EncodesIt, MarksIt, EndsIt, GivesPart, kind}
use Rattle.reliable_model.proofs.OnWay.{took-word, took-unit}
use Rattle.reliable_model.proofs.Words.{AreOwn, Side as StandingSide, Stands as Lives, IsOver as Ceased}
use Rattle.reliable_model.proofs.Opening.{First, Again}
use Rattle.reliable_model.proofs.Phases.{only-open, only-abort, over-calls, own-up}
use Rattle.reliable_model.proofs.Machine as machine
use Rattle.reliable_model.proofs.Machine.{Resting, Calling, Confirming, Connecting, Accepting as AcceptsHere, Refusing, Deaf, Gone, Standing}
use Rattle.said_words.specs.Words.{the_connect, IsMessage, IsUnit, IsReliableWord}
use Rattle.said_words.proofs.First.{first_accepted}
use Rattle.said_words.proofs.TransferFirst.{acse-pair, rtse-pair, on-acse, on-rtse}
use Rattle.said_words.proofs.TransferEnds as said_ends
use Rattle.said_words.proofs.TransferEnds.{is_early, IsYoung, IsStood, IsOver}
use Rattle.run_lemmas.proofs.Tests.{clash, no-fault, none-second}
use Rattle.run_lemmas.proofs.Phases.{idle-early, asked-early}
use Rattle.run_lemmas.proofs.Openings.{IsAcceptance, HasAcceptance, acceptance-in, none-one, Few, nobody, one}
use Rattle.codec_runs.proofs.ReliableSaved.{MarksKeep, no-marks, fewer-marks, mark-more, mark-back, highest-from, marks_in, changed-marks, changed-there, begun-marks, Keeping, own-saved, peer-saved, saving-keeps, set-saved, altered-keeps, IsRight, AllRight}

-- the words of an association that stands
abbrev IsLater : Word → Type 0
IsLater (OfAssociation (Connect session presentation values)) = ⊥
IsLater (OfAssociation (Accept session presentation values)) = ⊥
IsLater word = Unit {0}

-- ---- what the end of a transfer leaves alone

reject-current : (base : Base) (body : Body) (calls : Calls) (context : ℕ) (r : Option Rejecting) → (with_reject (at Reliable base) (record body { calls = calls }) context r).body.sending.current ≡ body.sending.current
reject-current base body calls context None = refl
reject-current base body calls context (Some r) = refl

value-current : (base : Base) (values : List DataValue) (body : Body) → (take_values (at Reliable base) body values).body.sending.current ≡ body.sending.current
value-current base [] body = refl
value-current base (value ∷ values) body =
    let heard = hear (at Reliable base) body.calls value.id (head_of (at Reliable base) value) in
    value-current base values (take_head (at Reliable base) body value.id (head_of (at Reliable base) value)).body ∙ reject-current base body heard.calls value.id heard.reject

settled-current : (body : Body) (own : List Alteration) (answers : Answers) → (settled own answers body).sending.current ≡ body.sending.current
settled-current body [] answers = refl
settled-current body (x ∷ own) answers = refl

module _ (free : Free) (tables : Tables) (spellings : Spellings) (a b : Config) where
  abbrev common : Common
  common = reliable_common tables spellings a b

  abbrev base : Role → Base
  base role = base_at role common

  abbrev pub first : List SetItem
  first = first_accepted common

  abbrev Rooted : Role → Body → Type 0
  Rooted = said_ends.Rooted free tables spellings a b

  abbrev Stood : Role → Body → Type 0
  Stood = said_ends.Stood free tables spellings a b

  -- ---- an end, and the shared set

  -- no association stood yet, or none stands any more
  abbrev pub IsFresh : Body → Type 0
  IsFresh body = (is_early body.link.phase ≡ true) ⊎ (body.link.phase ≡ phases.Over)

  pub record Stands (role : Role) (body : Body) (shared : Shared) : Type 0 where
    pub keeping : Keeping first shared
    pub marks : MarksKeep first (marks_in body) (saved_of (side_of role) shared)

  abbrev pub Held : Role → Body → Shared → Type 0
  Held role body shared = IsFresh body ⊎ Stands role body shared

  -- an end of which an association stood
  standing : (role : Role) (body : Body) (shared : Shared) → Stood role body → (body.link.phase ≡ phases.Over → ⊥) → Held role body shared → Stands role body shared
  standing role body shared s alive (inl (inl e)) = absurd (clash (is_early body.link.phase) e s.late)
  standing role body shared s alive (inl (inr e)) = absurd (alive e)
  standing role body shared s alive (inr h) = h

  not-over : (body : Body) → passes_over body.link.phase ≡ false → body.link.phase ≡ phases.Over → ⊥
  not-over body alive e = clash (passes_over body.link.phase) (ap passes_over e) alive

  -- what a step of one end leaves and sends, from the shared set before to the one afterwards
  pub record Does (role : Role) (body later : Body) (sent : List Message) (peer : Body) (shared new : Shared) : Type 0 where
    pub own : Held role later new
    pub keeps : Keeping first shared → Keeping first new
    pub others : Held (other role) peer shared → Held (other role) peer new
    pub accepts : HasAcceptance sent → Keeping first new
    pub right : AllRight shared.set sent
    pub few : Few sent

  -- the other end, where its marks stay
  others-on : (role : Role) (peer : Body) (shared new : Shared) → (Keeping first shared → Keeping first new) → saved_of (side_of (other role)) new ≡ saved_of (side_of (other role)) shared → Held (other role) peer shared → Held (other role) peer new
  others-on role peer shared new f e (inl h) = inl h
  others-on role peer shared new f e (inr h) = inr (record { keeping = f h.keeping; marks = subst (MarksKeep first (marks_in peer)) (sym e) h.marks })

  -- ---- two ends

  pub record Fixed (two : Two) (shared : Shared) : Type 0 where
    pub held : (role : Role) → Held role (body_at role two) shared
    pub accepted : (role : Role) → HasAcceptance (coming_to role two) → Keeping first shared

  module _ (q : machine.Presumed free tables spellings a b) (ids : AreIdentifiers (proposals (base Initiator))) (window : nat_eq a.window 0 ≡ false) where
    -- ---- values of the association and of reliable transfer stand with the pairs of the shared set

    one-pair : {x y : Option Pair} → x ≡ y → ◌≡◌ {A = List (Option Pair)} (x ∷ []) (y ∷ [])
    one-pair e = ap (λ (p : Option Pair). p ∷ []) e

    pub association-pair : (role : Role) (body : Body) (shared : Shared) → Stood role body → Keeping first shared → pair_of shared.set (acse_context body.link.accepted) ≡ Some acse_pair
    association-pair role body shared s k =
        let f = acse-pair tables spellings a b q.fit.proposes ids in
        ap (pair_of shared.set) (ap acse_context s.accepted ∙ on-acse tables spellings a b q.fit.proposes ids) ∙ k.set 1 (ap is_fixed f) ∙ f

    pub transfer-pair : (role : Role) (body : Body) (shared : Shared) → Stood role body → Keeping first shared → pair_of shared.set (rtse_context body.link.accepted) ≡ pair_of body.sets.held (rtse_context body.link.accepted)
    transfer-pair role body shared s k =
        let f = rtse-pair tables spellings a b q.fit.proposes ids in
        let three : rtse_context body.link.accepted ≡ 3 = ap rtse_context s.accepted ∙ on-rtse tables spellings a b q.fit.proposes ids in
        ap (pair_of shared.set) three ∙ k.set 3 (ap is_fixed f) ∙ sym (s.firm.held 3 (ap is_fixed f)) ∙ ap (pair_of body.sets.held) (sym three)

    module _ (role : Role) (body peer : Body) (shared : Shared) where
      -- a step that leaves the shared set
      stays : (later : Body) (sent : List Message) → Held role later shared → (HasAcceptance sent → ⊥) → AllRight shared.set sent → Few sent → Does role body later sent peer shared shared
      stays later sent h none right few = record { own = h; keeps = λ k. k; others = λ k. k; accepts = λ x. absurd (none x); right = right; few = few }

      stays-none : (later : Body) → Held role later shared → Does role body later [] peer shared shared
      stays-none later h = stays later [] h (λ x. x) tt nobody

      stays-one : (later : Body) (m : Message) → Held role later shared → (IsAcceptance m → ⊥) → IsRight shared.set m → Does role body later (m ∷ []) peer shared shared
      stays-one later m h none right = stays later (m ∷ []) h (none-one m none) (right, tt) (one m)

      -- no more marks
      still : (later : Body) → marks_in later ≡ marks_in body → Stands role body shared → Held role later shared
      still later e h = inr (record { keeping = h.keeping; marks = subst (λ (n : ℕ). MarksKeep first n (saved_of (side_of role) shared)) (sym e) h.marks })

      -- a step that changes the sets, and leaves the marks
      changes : (later : Body) (m : Message) (set inter : List SetItem) → (Keeping first shared → Keeps first set) → (Keeping first shared → Keeps first inter) → marks_in later ≡ marks_in body → Stands role body shared → (IsAcceptance m → ⊥) → IsRight shared.set m → Does role body later (m ∷ []) peer shared (record shared { set = set; inter = inter })
      changes later m set inter f g e h none right =
          let keeps : Keeping first shared → Keeping first (record shared { set = set; inter = inter }) = λ k. record { set = f k; inter = g k } in
          record {
            own =
                inr (record {
                  keeping = keeps h.keeping;
                  marks =
                      subst (MarksKeep first (marks_in later)) (sym (set-saved role set inter shared))
                      (subst (λ (n : ℕ). MarksKeep first n (saved_of (side_of role) shared)) (sym e) h.marks);
                });
            keeps = keeps;
            others = others-on role peer shared (record shared { set = set; inter = inter }) keeps (set-saved (other role) set inter shared);
            accepts = λ x. absurd (none-one m none x);
            right = (right, tt);
            few = one m;
          }

      -- a step that changes the own marks and the sets
      saves : (later : Body) (m : Message) (marks : List Saved) (set inter : List SetItem) → (Keeping first shared → Keeps first set) → (Keeping first shared → Keeps first inter) → Keeping first shared → MarksKeep first (marks_in later) marks → (IsAcceptance m → ⊥) → IsRight shared.set m →
          Does role body later (m ∷ []) peer shared (saving (side_of role) marks (record shared { set = set; inter = inter }))
      saves later m marks set inter f g k h none right =
          let keeps : Keeping first shared → Keeping first (saving (side_of role) marks (record shared { set = set; inter = inter })) =
          λ x. saving-keeps first role marks (record shared { set = set; inter = inter }) (record { set = f x; inter = g x }) in
          record {
            own = inr (record { keeping = keeps k; marks = subst (MarksKeep first (marks_in later)) (sym (own-saved role marks (record shared { set = set; inter = inter }))) h });
            keeps = keeps;
            others = others-on role peer shared (saving (side_of role) marks (record shared { set = set; inter = inter })) keeps (peer-saved role marks (record shared { set = set; inter = inter }) ∙ set-saved (other role) set inter shared);
            accepts = λ x. absurd (none-one m none x);
            right = (right, tt);
            few = one m;
          }

      -- ---- calls

      abbrev CallDoes : Call → Option ℤ → Type 0
      CallDoes call answer = Does role body (after_called Reliable (base role) body call answer) (due_of (base role) body call (Ok answer)) peer shared (shared_all_sent Reliable (side_of role) (due_of (base role) body call (Ok answer)) shared)

      abort-does : (c : Bool) → Does role body (sent_all Reliable (over body) (if c then user_abort body.link.accepted 0 [] ∷ [] else [])) (if c then user_abort body.link.accepted 0 [] ∷ [] else []) peer shared (shared_all_sent Reliable (side_of role) (if c then user_abort body.link.accepted 0 [] ∷ [] else []) shared)
      abort-does true = stays-one _ _ (inl (inr refl)) (λ x. x) refl
      abort-does false = stays-none _ (inl (inr refl))

      young-does : (call : Call) (answer : Option ℤ) → (body.link.phase ≡ phases.Idle) ⊎ (body.link.phase ≡ phases.Opening) → can_call (base role) body call ≡ Ok answer → CallDoes call answer
      young-does call answer (inl e) can =
          let o : call ≡ the_calls.Open = only-open call (ap (is_phase_for call) (sym e) ∙ (called (base role) body call answer can).in_phase) in
          subst (λ (c : Call). CallDoes c answer) (sym o) (stays-one _ _ (inl (inl refl)) (λ x. x) refl)
      young-does call answer (inr e) can =
          let o : call ≡ the_calls.Abort = only-abort First call (ap (is_phase_for call) (sym e) ∙ (called (base role) body call answer can).in_phase) in
          subst (λ (c : Call). CallDoes c answer) (sym o) (abort-does (is_carrying body.link.stage))

      invoke-does : (context place : ℕ) (id : ℤ) (link : Option ℤ) (o : Option Operation) (argument : Option Val) → Stands role body shared →
          Does role body (sent_all Reliable (after_invoke (base role) body context place id link o argument) (due_invoke (base role) body context id link o argument)) (due_invoke (base role) body context id link o argument) peer shared (shared_all_sent Reliable (side_of role) (due_invoke (base role) body context id link o argument) shared)
      invoke-does context place id link None argument h = stays-none body (inr h)
      invoke-does context place id link (Some operation) argument h = stays-none _ (still _ refl h)

      outcome-does : (id : ℤ) (o : Option OpenCall) (x : Option Apdu) → Stands role body shared →
          Does role body (sent_all Reliable (after_outcome (base role) body id o x) (due_outcome (base role) body o x)) (due_outcome (base role) body o x) peer shared (shared_all_sent Reliable (side_of role) (due_outcome (base role) body o x) shared)
      outcome-does id None None h = stays-none body (inr h)
      outcome-does id None (Some apdu) h = stays-none body (inr h)
      outcome-does id (Some o) None h = stays-none body (inr h)
      outcome-does id (Some o) (Some apdu) h = stays-none _ (still _ refl h)

      -- the marks back to the confirmed one
      resume-does : (c : Option Transfer) → body.sending.current ≡ c → confirmed_of c ≤ highest (pieces_of c) → Stands role body shared →
          Does role body (sent_all Reliable body (Session (OfActivities (Resume body.sending.started (confirmed_of c))) ∷ [])) (Session (OfActivities (Resume body.sending.started (confirmed_of c))) ∷ []) peer shared (shared_all_sent Reliable (side_of role) (Session (OfActivities (Resume body.sending.started (confirmed_of c))) ∷ []) shared)
      resume-does None e high h = saves _ _ [] shared.set shared.set (λ k. k.set) (λ k. k.set) h.keeping (no-marks first _ [] (ap (λ (x : Option Transfer). highest (pieces_of (on_current resumed (record body.sending { current = x })).current)) e)) (λ x. x) refl
      resume-does (Some t) e high h = go t.confirmed refl high
        where
          top : MarksKeep first (highest t.pieces) (saved_of (side_of role) shared)
          top = subst (λ (x : Option Transfer). MarksKeep first (highest (pieces_of x)) (saved_of (side_of role) shared)) e h.marks

          go : (n : ℕ) → t.confirmed ≡ n → n ≤ highest t.pieces →
              Does role body (sent_all Reliable body (Session (OfActivities (Resume body.sending.started n)) ∷ [])) (Session (OfActivities (Resume body.sending.started n)) ∷ []) peer shared (shared_all_sent Reliable (side_of role) (Session (OfActivities (Resume body.sending.started n)) ∷ []) shared)
          go zero f m =
              let none : marks_in (on_transfer resumed body) ≡ 0 = changed-there resumed body t e ∙ ap (λ (k : ℕ). highest (up_to k t.pieces)) f in
              saves _ _ [] shared.set shared.set (λ k. k.set) (λ k. k.set) h.keeping (no-marks first _ [] none) (λ x. x) refl
          go (suc n) f m =
              let few : marks_in (on_transfer resumed body) ≡ highest (from_mark (suc n) t.pieces) = changed-there resumed body t e ∙ ap (λ (k : ℕ). highest (up_to k t.pieces)) f in
              let back : MarksKeep first (suc n) (below (suc (suc n)) (saved_of (side_of role) shared)) = mark-back first (highest t.pieces) (suc n) (saved_of (side_of role) shared) m top in
              let kept : Keeps first (newest (below (suc (suc n)) (saved_of (side_of role) shared))) = top (suc n) (omega arith) m in
              saves _ _ (below (suc (suc n)) (saved_of (side_of role) shared)) (newest (below (suc (suc n)) (saved_of (side_of role) shared))) shared.set (λ k. kept) (λ k. k.set) h.keeping
              (fewer-marks first (suc n) _ (below (suc (suc n)) (saved_of (side_of role) shared)) (subst (λ (k : ℕ). k ≤ suc n) (sym few) (highest-from (suc n) t.pieces)) back) (λ x. x) refl

      stood-does : (call : Call) (answer : Option ℤ) → Stood role body → Stands role body shared → can_call (base role) body call ≡ Ok answer → CallDoes call answer
      stood-does the_calls.Open answer s h can = absurd (clash (is_early body.link.phase) (idle-early body.link.phase (called (base role) body the_calls.Open answer can).in_phase) s.late)
      stood-does (the_calls.Invoke context operation argument link) None s h can = stays-none body (inr h)
      stood-does (the_calls.Invoke context operation argument link) (Some id) s h can = invoke-does context operation id link (operation_at tables operation) argument h
      stood-does (the_calls.Answer id result) answer s h can = outcome-does id (opened_with false id body.calls.opens) (result_in (base role) body id result) h
      stood-does (the_calls.Refuse id error parameter) answer s h can = outcome-does id (opened_with false id body.calls.opens) (error_for id parameter (error_at tables error)) h
      stood-does (the_calls.Alter add delete) answer s h can = stays-one _ _ (still _ refl h) (λ x. x) refl
      stood-does the_calls.Mark answer s h can = let r = (called (base role) body the_calls.Mark answer can).rows in absurd cc
      stood-does the_calls.Give answer s h can = stays-one _ _ (still _ refl h) (λ x. x) refl
      stood-does (the_calls.Please priority) answer s h can = stays-one _ _ (inr h) (λ x. x) (one-pair (transfer-pair role body shared s h.keeping))
      stood-does (the_calls.Resync n) answer s h can = let r = (called (base role) body (the_calls.Resync n) answer can).rows in absurd cc
      stood-does the_calls.Interrupt answer s h can = stays-one _ _ (still _ refl h) (λ x. x) refl
      stood-does the_calls.Resume answer s h can = resume-does body.sending.current refl (current-pieces tables.name_oid first body.sending.current s.firm.current).1 h
      stood-does the_calls.Discard answer s h can = stays-one _ _ (still _ (changed-marks (λ (t : Transfer). record t { confirmed = 0 }) body (λ t. refl)) h) (λ x. x) refl
      stood-does the_calls.Recover answer s h can = stays-one _ _ (still _ refl h) (λ x. x) refl
      stood-does the_calls.Release answer s h can = stays-one _ _ (still _ refl h) (λ x. x) (one-pair (association-pair role body shared s h.keeping))
      stood-does the_calls.Abort answer s h can = abort-does (is_carrying body.link.stage)

      pub call-does : (call : Call) (answer : Option ℤ) → Rooted role body → Held role body shared → can_call (base role) body call ≡ Ok answer → CallDoes call answer
      call-does call answer (IsYoung y) h can = young-does call answer y.phase can
      call-does call answer (IsStood s) h can = stood-does call answer s (standing role body shared s (λ e. over-calls (base role) body call answer e can) h) can
      call-does call answer (IsOver e) h can = absurd (over-calls (base role) body call answer e can)

      -- ---- what an end does by itself

      abbrev OwnDoes : OwnAct → Type 0
      OwnDoes own = Does role body (after_step (base role) body (step_of own)) (own_messages own) peer shared (shared_all_sent Reliable (side_of role) (own_messages own) shared)

      own-stands : (own : OwnAct) → Stood role body → Stands role body shared → Kind body own → OwnDoes own
      own-stands own s h (StartsNext item items e q is) =
          subst OwnDoes (sym is) (saves _ _ [] shared.set shared.set (λ k. k.set) (λ k. k.set) h.keeping (no-marks first _ [] (begun-marks body.sending)) (λ x. x) refl)
      own-stands own s h (EncodesIt t context e d is) =
          subst OwnDoes (sym is) (stays-none _ (still _ (changed-marks (λ (u : Transfer). record u { encoded = encoded_as (base role) body (item_on context u.item (pair_of body.sets.held context)) }) body (λ u. refl)) h))
      own-stands own s h (MarksIt t e x ends more is) =
          let top : MarksKeep first (highest t.pieces) (saved_of (side_of role) shared) = subst (λ (x : Option Transfer). MarksKeep first (highest (pieces_of x)) (saved_of (side_of role) shared)) x.is_it h.marks in
          let marks : List Saved = record { number = suc (highest t.pieces); set = shared.set } ∷ saved_of (side_of role) shared in
          let now : MarksKeep first (suc (highest t.pieces)) marks = mark-more first (highest t.pieces) shared.set (saved_of (side_of role) shared) h.keeping.set top in
          subst OwnDoes (sym is)
          (saves _ _ marks shared.set shared.inter (λ k. k.set) (λ k. k.inter) h.keeping
          (subst (λ (n : ℕ). MarksKeep first n marks) (sym (changed-there (λ (u : Transfer). record u { pieces = Marked (suc (highest t.pieces)) body.sets.held ∷ u.pieces }) body t x.is_it)) now) (λ x. x) refl)
      own-stands own s h (EndsIt t e x none is) =
          subst OwnDoes (sym is) (stays-one _ _ (still _ (changed-marks (λ (u : Transfer). record u { progress = Ending }) body (λ u. refl)) h) (λ x. x) refl)
      own-stands own s h (GivesPart t e x more is) =
          subst OwnDoes (sym is) (stays-one _ _ (still _ (changed-marks (λ (u : Transfer). record u { pieces = Octets _ ∷ u.pieces }) body (λ u. refl)) h) (λ x. x) (one-pair (transfer-pair role body shared s h.keeping)))

      pub own-does : (own : OwnAct) → Rooted role body → Held role body shared → next_own (base role) body ≡ Some own → OwnDoes own
      own-does own r h next = go r
        where
          up : body.link.phase ≡ phases.Up
          up = own-up (base role) body own next

          over-up : body.link.phase ≡ phases.Over → ⊥
          over-up e = let x : phases.Over ≡ phases.Up = sym e ∙ up in cc

          young-up : (body.link.phase ≡ phases.Idle) ⊎ (body.link.phase ≡ phases.Opening) → ⊥
          young-up (inl e) = let x : phases.Idle ≡ phases.Up = sym e ∙ up in cc
          young-up (inr e) = let x : phases.Opening ≡ phases.Up = sym e ∙ up in cc

          go : Rooted role body → OwnDoes own
          go (IsYoung y) = absurd (young-up y.phase)
          go (IsStood s) = own-stands own s (standing role body shared s over-up h) (kind (base role) body own body.sending.current refl (leading (base role) body own next).next)
          go (IsOver e) = absurd (over-up e)

      -- ---- units of the transport

      abbrev UnitDoes : TransportUnit → Type 0
      UnitDoes unit = Does role body (after_transport (base role) body unit) (answers_to_transport (base role) body unit) peer shared (shared_all_answered (base role) (Transport unit) (answers_to_transport (base role) body unit) shared)

      pub unit-does : (unit : TransportUnit) → IsUnit (base Initiator) unit → passes_over body.link.phase ≡ false → Held role body shared → UnitDoes unit
      unit-does (ConnectionRequest source size calling other_) i alive h = subst UnitDoes (sym i) (stays-one _ _ (asked h) (λ x. x) refl)
        where
          asked : Held role body shared → Held role (after_transport (base role) body (ConnectionRequest 1 (Some 10) a.calling a.called)) shared
          asked (inl (inl e)) = inl (inl (asked-early body.link.phase e))
          asked (inl (inr e)) = absurd (not-over body alive e)
          asked (inr h) = still _ refl h
      unit-does (ConnectionConfirm destination size) i alive h = stays-one _ _ (confirmed h) (λ x. x) refl
        where
          confirmed : Held role body shared → Held role (after_transport (base role) body (ConnectionConfirm destination size)) shared
          confirmed (inl e) = inl e
          confirmed (inr h) = still _ refl h
      unit-does (DisconnectRequest destination) i alive h = absurd i
      unit-does TransportError i alive h = absurd i

      -- ---- words

      abbrev WordDoes : Word → Type 0
      WordDoes word = Does role body (after_word (base role) body word) (answers_to_word (base role) body word) peer shared (shared_all_answered (base role) (Session word) (answers_to_word (base role) body word) shared)

      -- nothing is answered
      silent : (later : Body) → marks_in later ≡ marks_in body → Stands role body shared → Does role body later [] peer shared shared
      silent later e h = stays-none later (still later e h)

      -- of an association that stands
      word-stands : (word : Word) → IsReliableWord (base Initiator) (base Responder) word → IsLater word → fault_above (base role) body word ≡ None → Stood role body → Stands role body shared → WordDoes word
      word-stands (OfAssociation (Connect session presentation values)) i l above s h = absurd l
      word-stands (OfAssociation (Accept session presentation values)) i l above s h = absurd l
      word-stands (OfAssociation (Refuse transport reason presentation values)) i l above s h = absurd i
      word-stands (OfAssociation (Finish transport values)) i l above s h = stays-one _ _ (inl (inr refl)) (λ x. x) (one-pair (association-pair role body shared s h.keeping))
      word-stands (OfAssociation (Disconnect values)) i l above s h = stays-none _ (inl (inr refl))
      word-stands (OfAssociation (Abort transport user)) i l above s h = stays-none _ (inl (inr refl))
      word-stands (OfAssociation AbortAccept) i l above s h = absurd i
      word-stands (OfData (Values values)) i l above s h = subst (λ (vs : List DataValue). WordDoes (OfData (Values vs))) (sym i.is_one) (silent _ refl h)
      word-stands (OfData (AlterContext add delete)) i l above s h =
          let proposes : is_faulty_proposal (not (is_initiator role)) body.sets.held add ≡ false =
          no-fault (is_faulty_proposal (not (is_initiator role)) body.sets.held add) invalid_ppdu
          (none-second (fault_if (not body.link.manages || true && body.link.turn) unexpected_ppdu) (fault_if (is_faulty_proposal (not (is_initiator role)) body.sets.held add) invalid_ppdu) above) in
          changes _ _ (altered (alteration add delete) (policy (base role) body (alteration add delete)) shared.set) shared.inter
          (λ k. altered-keeps first (base role) body (alteration add delete) proposes s.firm.held shared.set k.set) (λ k. k.inter) refl h (λ x. x) refl
      word-stands (OfData (AlterContextAck answers)) i l above s h =
          silent _ (ap (λ (c : Option Transfer). highest (pieces_of c)) (settled-current body body.sets.own answers)) h
      word-stands (OfMarks (Mark n)) i l above s h = stays-one _ _ (still _ refl h) (λ x. x) refl
      word-stands (OfMarks (MarkAck n)) i l above s h = silent _ (changed-marks (λ (t : Transfer). record t { confirmed = n }) body (λ t. refl)) h
      word-stands (OfMarks (Restart n list)) i l above s h = absurd i
      word-stands (OfMarks (RestartAck n list)) i l above s h = absurd i
      word-stands (OfMarks (Give tokens)) i l above s h = absurd i
      word-stands (OfMarks (Please tokens values)) i l above s h = silent _ refl h
      word-stands (OfMarks GiveConfirm) i l above s h = stays-one _ _ (still _ refl h) (λ x. x) refl
      word-stands (OfMarks GiveAck) i l above s h = silent _ refl h
      word-stands (OfActivities (Start activity)) i l above s h = silent _ refl h
      word-stands (OfActivities (Resume activity mark)) i l above s h = silent _ refl h
      word-stands (OfActivities (End n)) i l above s h =
          changes _ _ shared.inter shared.inter (λ k. k.inter) (λ k. k.inter)
          (ap (λ (c : Option Transfer). highest (pieces_of c)) (value-current (base role) (handed_up (base role) body) (received (λ r. record r { was_handed = true; active = false }) body))) h (λ x. x) refl
      word-stands (OfActivities (EndAck n)) i l above s h = stays-none _ (inr (record { keeping = h.keeping; marks = no-marks first _ (saved_of (side_of role) shared) refl }))
      word-stands (OfActivities (Interrupt reason)) i l above s h = changes _ _ shared.inter shared.inter (λ k. k.inter) (λ k. k.inter) refl h (λ x. x) refl
      word-stands (OfActivities InterruptAck) i l above s h = silent _ (changed-marks (λ (t : Transfer). record t { progress = Suspended }) body (λ t. refl)) h
      word-stands (OfActivities (Discard reason)) i l above s h = changes _ _ shared.inter shared.inter (λ k. k.inter) (λ k. k.inter) refl h (λ x. x) refl
      word-stands (OfActivities DiscardAck) i l above s h = stays-none _ (inr (record { keeping = h.keeping; marks = no-marks first _ (saved_of (side_of role) shared) refl }))

      -- ---- openings and recoveries

      -- an end that comes to stand, with its marks
      joins-held : (later : Body) (new : Shared) → later.sending ≡ body.sending → saved_of (side_of role) new ≡ saved_of (side_of role) shared → Keeping first new → passes_over body.link.phase ≡ false → Rooted role body → Held role body shared → Held role later new
      joins-held later new s e k alive (IsYoung y) h = inr (record { keeping = k; marks = no-marks first _ (saved_of (side_of role) new) (ap (λ (x : Sending). highest (pieces_of x.current)) (s ∙ y.sending)) })
      joins-held later new s e k alive (IsOver q) h = absurd (not-over body alive q)
      joins-held later new s e k alive (IsStood x) h =
          let st = standing role body shared x (not-over body alive) h in
          inr (record {
            keeping = k;
            marks =
                subst (MarksKeep first (marks_in later)) (sym e)
                (subst (λ (z : Sending). MarksKeep first (highest (pieces_of z.current)) (saved_of (side_of role) shared)) (sym s) st.marks);
          })

      refused-held : passes_over body.link.phase ≡ false → Rooted role body → Held role body shared → Held role (refused_connect body) shared
      refused-held alive (IsYoung y) h = go y.phase
        where
          go : (body.link.phase ≡ phases.Idle) ⊎ (body.link.phase ≡ phases.Opening) → Held role (refused_connect body) shared
          go (inl e) = inl (inr (ap (λ (p : Phase). if is_broken p then phases.Broken else phases.Over) e))
          go (inr e) = inl (inr (ap (λ (p : Phase). if is_broken p then phases.Broken else phases.Over) e))
      refused-held alive (IsOver q) h = absurd (not-over body alive q)
      refused-held alive (IsStood x) h = still _ refl (standing role body shared x (not-over body alive) h)

      accepted-does : (session : Accepting) (presentation : PresentationAccept) (values : List DataValue) → passes_over body.link.phase ≡ false → Rooted role body → Held role body shared → Keeping first shared → WordDoes (OfAssociation (Accept session presentation values))
      accepted-does session presentation values alive r h k = stays-none _ (joins-held _ shared refl refl k alive r h)

    -- the responder answers a CN
    module _ (body peer : Body) (shared : Shared) (alive : passes_over body.link.phase ≡ false) (r : Rooted Responder body) (h : Held Responder body shared) where
      abbrev accepted_so : Bool → Body
      accepted_so recovers = accepted_connect (base Responder) body (session_connect (base Initiator)) (presentation_connect (base Initiator)) (connect_values (base Initiator) recovers)

      abbrev answer_so : Bool → Message
      answer_so recovers = acceptance_message (base Responder) (session_connect (base Initiator)) (presentation_connect (base Initiator)) (connect_values (base Initiator) recovers)

      abbrev refusal_so : Bool → List ℕ → List Information → Message
      refusal_so p context user = if p then provider_refusal else refuse_message (set_for (base Responder) (presentation_connect (base Initiator))) (results_for (base Responder) (presentation_connect (base Initiator))) context user

      abbrev connect_so : Bool → Message
      connect_so recovers = Session (OfAssociation (the_connect (base Initiator) recovers))

      accepts-so : (recovers : Bool) → (recovers ≡ false → IsFresh peer) → Does Responder body (accepted_so recovers) (answer_so recovers ∷ []) peer shared (shared_all_answered (base Responder) (connect_so recovers) (answer_so recovers ∷ []) shared)
      accepts-so true fresh = record {
        own = joins-held Responder body peer shared (accepted_so true) _ refl refl (record { set = λ k e. refl; inter = λ k e. refl }) alive r h;
        keeps = λ k. record { set = λ k e. refl; inter = λ k e. refl };
        others = others-on Responder peer shared _ (λ k. record { set = λ k e. refl; inter = λ k e. refl }) refl;
        accepts = λ x. record { set = λ k e. refl; inter = λ k e. refl };
        right = (refl, tt);
        few = one (answer_so true);
      }
      accepts-so false fresh = record {
        own = inr (record { keeping = record { set = λ k e. refl; inter = λ k e. refl }; marks = no-marks first _ [] refl });
        keeps = λ k. record { set = λ k e. refl; inter = λ k e. refl };
        others = λ x. inl (fresh refl);
        accepts = λ x. record { set = λ k e. refl; inter = λ k e. refl };
        right = (refl, tt);
        few = one (answer_so false);
      }

      answered-does : (recovers : Bool) → (recovers ≡ false → IsFresh peer) → (context : List ℕ) (user : List Information) (c p : Bool) →
          Does Responder body (if c then refused_connect body else accepted_so recovers) (if c then refusal_so p context user ∷ [] else answer_so recovers ∷ []) peer shared
          (shared_all_answered (base Responder) (connect_so recovers) (if c then refusal_so p context user ∷ [] else answer_so recovers ∷ []) shared)
      answered-does recovers fresh context user true true = stays-one Responder body peer shared (refused_connect body) (refusal_so true context user) (refused-held Responder body peer shared alive r h) (λ x. x) refl
      answered-does recovers fresh context user true false = stays-one Responder body peer shared (refused_connect body) (refusal_so false context user) (refused-held Responder body peer shared alive r h) (λ x. x) refl
      answered-does recovers fresh context user false p = accepts-so recovers fresh

      connected-does : (recovers : Bool) → (recovers ≡ false → IsFresh peer) → WordDoes Responder body peer shared (OfAssociation (the_connect (base Initiator) recovers))
      connected-does recovers fresh =
          answered-does recovers fresh _ _ (is_refused (base Responder) body (session_connect (base Initiator)) (presentation_connect (base Initiator)) (connect_values (base Initiator) recovers)) (not (has_acse (set_for (base Responder) (presentation_connect (base Initiator)))))

    -- ---- what comes next

    -- an opening that recovers nothing comes from an end without an association
    module _ (two : Two) (session : SessionConnect) (presentation : PresentationConnect) (values : List DataValue) (left : List Message) (later : Body) (answers : List Message) (shown : List Indication) where
      abbrev cn : Message
      cn = Session (OfAssociation (Connect session presentation values))

      none : two.to_b ≡ cn ∷ left → two.to_b ≡ [] → ⊥
      none e n = let same : [] ≡ cn ∷ left = sym n ∙ e in cc

      a_unit : (unit : TransportUnit) (more : List Message) → two.to_b ≡ cn ∷ left → two.to_b ≡ Transport unit ∷ more → ⊥
      a_unit unit more e n = let same : Transport unit ∷ more ≡ cn ∷ left = sym n ∙ e in cc

      over-takes : two.b.link.phase ≡ phases.Over → react (base Responder) two.b cn ≡ Takes later answers shown → ⊥
      over-takes q r = let no_take : Passes ≡ Takes later answers shown = sym (machine.over-passes free tables spellings a b Responder two.b cn q) ∙ r in cc

      again : (more : List Message) → two.to_b ≡ cn ∷ left → two.to_b ≡ machine.cn free tables spellings a b Again ∷ more → recovers_in (base Responder) values ≡ false → ⊥
      again more e n f =
          let same : machine.cn free tables spellings a b Again ∷ more ≡ cn ∷ left = sym n ∙ e in
          let v : connect_values (base Initiator) true ≡ values = cc in
          let back : recovers_in (base Responder) (connect_values (base Initiator) true) ≡ true = refl in
          clash (recovers_in (base Responder) values) (ap (recovers_in (base Responder)) (sym v) ∙ back) f

      by-side : two.to_b ≡ cn ∷ left → react (base Responder) two.b cn ≡ Takes later answers shown → StandingSide two.b two.to_b → ⊥
      by-side e r (Lives live own) = (subst AreOwn e own).0
      by-side e r (Ceased q) = over-takes q r

      connect-fresh : two.to_b ≡ cn ∷ left → react (base Responder) two.b cn ≡ Takes later answers shown → recovers_in (base Responder) values ≡ false → machine.Opened free tables spellings a b two.a two.b two.to_a two.to_b → IsFresh two.a
      connect-fresh e r f (Resting way p q c n) = absurd (none e n)
      connect-fresh e r f (Calling way p q c n) = absurd (a_unit _ [] e n)
      connect-fresh e r f (Confirming way p q c n) = absurd (none e n)
      connect-fresh e r f (Connecting First p q c n) = inl (ap is_early p.phase_is)
      connect-fresh e r f (Connecting Again p q c n) = absurd (again [] e n f)
      connect-fresh e r f (AcceptsHere way p word accept more c own s) = absurd (by-side e r s)
      connect-fresh e r f (Refusing way p (inl q) word refusal c) = absurd (over-takes q r)
      connect-fresh e r f (Refusing way p (inr q) word refusal c) = absurd (none e q.1)
      connect-fresh e r f (Deaf way q d) = absurd (over-takes q r)
      connect-fresh e r f (Gone p l) = inr p
      connect-fresh e r f (Standing s t) = absurd (by-side e r t)

    -- ---- a taking

    stood-at : (role : Role) (body : Body) (word : Word) → IsReliableWord (base Initiator) (base Responder) word → said_ends.IsLater free tables spellings a b q.fit.spells q.fit.proposes ids window word → (said_ends.IsEarly free tables spellings a b q.fit.spells q.fit.proposes ids window word → ⊥) →
        word_fault (base role) body word ≡ None → passes_over body.link.phase ≡ false → Rooted role body → Stood role body
    stood-at role body word i l late fine alive r = said_ends.stands free tables spellings a b q.fit.spells q.fit.proposes ids window role body word i l late (in-place (base role) body word fine) alive r

    module _ (role : Role) (body peer : Body) (shared : Shared) (alive : passes_over body.link.phase ≡ false) (r : Rooted role body) (h : Held role body shared) where
      later-does : (word : Word) → IsReliableWord (base Initiator) (base Responder) word → IsLater word → word_fault (base role) body word ≡ None → Stood role body → WordDoes role body peer shared word
      later-does word i l fine s = word-stands role body peer shared word i l (nothing-above (base role) body word fine) s (standing role body shared s (not-over body alive) h)

      word-does : (word : Word) → IsReliableWord (base Initiator) (base Responder) word → word_fault (base role) body word ≡ None → (IsAcceptance (Session word) → Keeping first shared) →
          ((recovers : Bool) → word ≡ OfAssociation (the_connect (base Initiator) recovers) → role ≡ Responder → recovers ≡ false → IsFresh peer) → WordDoes role body peer shared word
      word-does (OfAssociation (Connect session presentation values)) i fine accepted fresh = go role refl body alive r h fine
        where
          go : (x : Role) → role ≡ x → (y : Body) → passes_over y.link.phase ≡ false → Rooted x y → Held x y shared → word_fault (base x) y (OfAssociation (Connect session presentation values)) ≡ None → WordDoes x y peer shared (OfAssociation (Connect session presentation values))
          go Initiator e y alive r h fine = let p = in-place (base Initiator) y (OfAssociation (Connect session presentation values)) fine in absurd cc
          go Responder e y alive r h fine = subst (λ (w : AssociationWord). WordDoes Responder y peer shared (OfAssociation w)) (sym i.1) (connected-does y peer shared alive r h i.0 (fresh i.0 (ap (λ (w : AssociationWord). OfAssociation w) i.1) e))
      word-does (OfAssociation (Accept session presentation values)) i fine accepted fresh = accepted-does role body peer shared session presentation values alive r h (accepted tt)
      word-does (OfAssociation (Refuse transport reason presentation values)) i fine accepted fresh = absurd i
      word-does (OfAssociation (Finish transport values)) i fine accepted fresh = later-does (OfAssociation (Finish transport values)) i tt fine (stood-at role body (OfAssociation (Finish transport values)) i tt (λ e. e) fine alive r)
      word-does (OfAssociation (Disconnect values)) i fine accepted fresh = later-does (OfAssociation (Disconnect values)) i tt fine (stood-at role body (OfAssociation (Disconnect values)) i tt (λ e. e) fine alive r)
      word-does (OfAssociation (Abort transport user)) i fine accepted fresh = stays-none role body peer shared _ (inl (inr refl))
      word-does (OfAssociation AbortAccept) i fine accepted fresh = absurd i
      word-does (OfData word) i fine accepted fresh = later-does (OfData word) i tt fine (stood-at role body (OfData word) i tt (λ e. e) fine alive r)
      word-does (OfMarks word) i fine accepted fresh = later-does (OfMarks word) i tt fine (stood-at role body (OfMarks word) i tt (λ e. e) fine alive r)
      word-does (OfActivities word) i fine accepted fresh = later-does (OfActivities word) i tt fine (stood-at role body (OfActivities word) i tt (λ e. e) fine alive r)

    -- what an end takes next, of two ends that reached something
    fresh-peer : (role : Role) (two : Two) (ledger : Ledger) (word : Word) (left : List Message) (later : Body) (answers : List Message) (shown : List Indication) → machine.Kept free tables spellings a b two ledger → coming_to role two ≡ Session word ∷ left → react (base role) (body_at role two) (Session word) ≡ Takes later answers shown →
        (recovers : Bool) → word ≡ OfAssociation (the_connect (base Initiator) recovers) → role ≡ Responder → recovers ≡ false → IsFresh (body_at (other role) two)
    fresh-peer Initiator two ledger word left later answers shown k e r recovers w x f = absurd cc
    fresh-peer Responder two ledger word left later answers shown k e r recovers w x f =
        let asked : word ≡ OfAssociation (the_connect (base Initiator) false) = w ∙ ap (λ (c : Bool). OfAssociation (the_connect (base Initiator) c)) f in
        connect-fresh two (session_connect (base Initiator)) (presentation_connect (base Initiator)) (connect_values (base Initiator) false) left later answers shown (e ∙ ap (λ (y : Word). Session y ∷ left) asked)
        (subst (λ (y : Word). react (base Responder) two.b (Session y) ≡ Takes later answers shown) asked r) refl k.opened

    pub took-does : (role : Role) (two : Two) (ledger : Ledger) (shared : Shared) (message : Message) (left : List Message) (later : Body) (answers : List Message) (shown : List Indication) → machine.Kept free tables spellings a b two ledger → IsMessage (base Initiator) (base Responder) message → Rooted role (body_at role two) → Held role (body_at role two) shared → (IsAcceptance message → Keeping first shared) →
        coming_to role two ≡ message ∷ left → react (base role) (body_at role two) message ≡ Takes later answers shown → Does role (body_at role two) later answers (body_at (other role) two) shared (shared_all_answered (base role) message answers shared)
    took-does role two ledger shared (Transport unit) left later answers shown k i r h accepted e x =
        let body : Body = body_at role two in
        let peer : Body = body_at (other role) two in
        let t = took-unit (base role) body unit later answers shown x in
        subst (λ (z : Body). Does role body z answers peer shared (shared_all_answered (base role) (Transport unit) answers shared)) (sym t.later_is)
        (subst (λ (ms : List Message). Does role body (after_transport (base role) body unit) ms peer shared (shared_all_answered (base role) (Transport unit) ms shared)) (sym t.answers_are) (unit-does role body peer shared unit i t.alive h))
    took-does role two ledger shared (Session word) left later answers shown k i r h accepted e x =
        let body : Body = body_at role two in
        let peer : Body = body_at (other role) two in
        let t = took-word (base role) body word later answers shown x in
        subst (λ (z : Body). Does role body z answers peer shared (shared_all_answered (base role) (Session word) answers shared)) (sym t.later_is)
        (subst (λ (ms : List Message). Does role body (after_word (base role) body word) ms peer shared (shared_all_answered (base role) (Session word) ms shared)) (sym t.answers_are)
        (word-does role body peer shared t.alive r h word i t.fine accepted (fresh-peer role two ledger word left later answers shown k e x)))

    -- ---- two ends

    more-accepted : (coming sent : List Message) (shared new : Shared) → (HasAcceptance coming → Keeping first shared) → (Keeping first shared → Keeping first new) → (HasAcceptance sent → Keeping first new) → HasAcceptance (coming ++ sent) → Keeping first new
    more-accepted coming sent shared new f g k h = go (acceptance-in coming sent h)
      where
        go : HasAcceptance coming ⊎ HasAcceptance sent → Keeping first new
        go (inl x) = g (f x)
        go (inr x) = k x

    pub fixed-step : (role : Role) (two : Two) (later : Body) (left sent : List Message) (shared new : Shared) → Fixed two shared → Does role (body_at role two) later sent (body_at (other role) two) shared new → (HasAcceptance left → HasAcceptance (coming_to role two)) → Fixed (stepped role later left sent two) new
    fixed-step Initiator two later left sent shared new x d f = record { held = held-so; accepted = accepted-so }
      where
        held-so : (r : Role) → Held r (body_at r (stepped Initiator later left sent two)) new
        held-so Initiator = d.own
        held-so Responder = d.others (x.held Responder)

        accepted-so : (r : Role) → HasAcceptance (coming_to r (stepped Initiator later left sent two)) → Keeping first new
        accepted-so Initiator h = d.keeps (x.accepted Initiator (f h))
        accepted-so Responder h = more-accepted two.to_b sent shared new (x.accepted Responder) d.keeps d.accepts h
    fixed-step Responder two later left sent shared new x d f = record { held = held-so; accepted = accepted-so }
      where
        held-so : (r : Role) → Held r (body_at r (stepped Responder later left sent two)) new
        held-so Responder = d.own
        held-so Initiator = d.others (x.held Initiator)

        accepted-so : (r : Role) → HasAcceptance (coming_to r (stepped Responder later left sent two)) → Keeping first new
        accepted-so Responder h = d.keeps (x.accepted Responder (f h))
        accepted-so Initiator h = more-accepted two.to_a sent shared new (x.accepted Initiator) d.keeps d.accepts h

    pub fixed-passed : (role : Role) (two : Two) (left : List Message) (shared : Shared) → Fixed two shared → (HasAcceptance left → HasAcceptance (coming_to role two)) → Fixed (stepped role (body_at role two) left [] two) shared
    fixed-passed role two left shared x f = fixed-step role two (body_at role two) left [] shared shared x (stays-none role (body_at role two) (body_at (other role) two) shared (body_at role two) (x.held role)) f

    broke-held : (role : Role) (body : Body) (shared : Shared) → Held role body shared → Held role (after_broke (base role) body) shared
    broke-held role body shared (inl e) = inl (fresh e)
      where
        early : (p : Phase) → is_early p ≡ true → (is_early (broken_phase Reliable p) ≡ true) ⊎ (broken_phase Reliable p ≡ phases.Over)
        early phases.Idle h = inl refl
        early phases.Opening h = inr refl
        early p h = absurd cc

        fresh : IsFresh body → IsFresh (after_broke (base role) body)
        fresh (inl e) = early body.link.phase e
        fresh (inr e) = inr (ap (broken_phase Reliable) e)
    broke-held role body shared (inr h) =
        inr (record { keeping = h.keeping; marks = subst (λ (n : ℕ). MarksKeep first n (saved_of (side_of role) shared)) (sym (changed-marks (λ (t : Transfer). record t { progress = Suspended }) body (λ t. refl))) h.marks })

    pub fixed-broke : (two : Two) (shared : Shared) → Fixed two shared → Fixed (both_broke common two) shared
    fixed-broke two shared x = record { held = held-so; accepted = accepted-so }
      where
        held-so : (r : Role) → Held r (body_at r (both_broke common two)) shared
        held-so Initiator = broke-held Initiator two.a shared (x.held Initiator)
        held-so Responder = broke-held Responder two.b shared (x.held Responder)

        accepted-so : (r : Role) → HasAcceptance (coming_to r (both_broke common two)) → Keeping first shared
        accepted-so Initiator h = absurd h
        accepted-so Responder h = absurd h

    pub fixed-first : Fixed (two_new common) (shared_first (base Initiator))
    fixed-first = record { held = held-so; accepted = accepted-so }
      where
        held-so : (r : Role) → Held r (body_at r (two_new common)) (shared_first (base Initiator))
        held-so Initiator = inl (inl refl)
        held-so Responder = inl (inl refl)

        accepted-so : (r : Role) → HasAcceptance (coming_to r (two_new common)) → Keeping first (shared_first (base Initiator))
        accepted-so Initiator h = absurd h
        accepted-so Responder h = absurd h
