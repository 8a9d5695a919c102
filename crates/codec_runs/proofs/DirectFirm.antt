-- What an end of direct mode and the shared set keep of association control while the association stands; and what the messages are
-- that are sent meanwhile.
use Rattle.std.proofs.Common.{◌≡◌, refl, true, false, ◌∙◌, sym, ap, subst, arith, ℕ, ◌≤◌, List, [], ◌∷◌, ◌++◌, inl, inr}
use Rattle.std.specs.Prelude.{ℤ, Bool, not, ◌&&◌, ◌||◌, Option, Some, None, Ok, is_some, nat_eq, nat_lt, if◌then◌else◌}
use Rattle.std.proofs.lemmas.Bool.Decides.{nat_tests}
use Rattle.osi_base.specs.declared.layer_words.Side.{Side}
use Rattle.osi_base.specs.declared.layer_words.SetItem.{SetItem}
use Rattle.osi_base.specs.declared.presentation_word.PresentationAccept.{PresentationAccept}
use Rattle.osi_base.specs.declared.layer_words.Answers.{Answers}
use Rattle.asn1_types.specs.declared.value.Val.{Val}
use Rattle.stub_tables.specs.declared.tables.Tables.{Tables}
use Rattle.stub_tables.specs.declared.apdu.Apdu.{Apdu}
use Rattle.stub_tables.specs.declared.operation.Operation.{Operation}
use Rattle.stub_tables.specs.Lookup.{operation_at, error_at}
use Rattle.dialogue.specs.declared.config.Config.{Config}
use Rattle.dialogue.specs.declared.config.Mode.TheVariants.{Direct}
use Rattle.dialogue.specs.declared.config.Phase.{Phase}
use Rattle.dialogue.specs.declared.config.Phase.TheVariants as phases
use Rattle.dialogue.specs.declared.call.Call.{Call}
use Rattle.dialogue.specs.declared.call.Call.TheVariants as the_calls
use Rattle.end_rules.specs.Base.{Base, Spellings, Item}
use Rattle.end_rules.specs.Sets.{Alteration, Saved, is_among, named_ids, proposed_ids, is_fixed, altered, listed, below, newest, next_number}
use Rattle.osi_base.specs.SetPlaces.{pair_of}
use Rattle.end_rules.specs.Policy.{policy, is_faulty_proposal}
use Rattle.end_rules.specs.Messages.{Message, Transport, Session, TransportUnit, ConnectionRequest, ConnectionConfirm, DisconnectRequest, TransportError, DataValue, Accepting, value_of_item}
use Rattle.end_rules.specs.Messages.{Word, OfAssociation, OfData, OfMarks, OfActivities, Connect, Accept, Refuse, Finish, Disconnect, Abort, AbortAccept, Values, AlterContext, AlterContextAck, Mark, MarkAck, Restart, RestartAck, Give, Please, GiveConfirm, GiveAck, unit_of}
use Rattle.end_rules.specs.State.{Body, Sets, OpenCall, opened_with, is_up, is_carrying, is_joined}
use Rattle.end_rules.specs.Writing.{acse_pair, session_connect, presentation_connect, connect_values, user_abort, disconnect_message, proposals}
use Rattle.end_rules.specs.Hearing.{Rejecting, Heard, with_reject, sent_on, hear, head_of_apdu}
use Rattle.end_rules.specs.Invoking.{carrier_in}
use Rattle.end_rules.specs.Faults.{fault_if, over, unexpected_ppdu, invalid_ppdu}
use Rattle.end_rules.specs.Units.{has_typed_data, has_version_two, has_units, needed_units, selected_with}
use Rattle.end_rules.specs.Connecting.{refused_connect, accepted_connect, refusal_message, acceptance_message, after_accept}
use Rattle.end_rules.specs.Calling.{can_call}
use Rattle.end_rules.specs.Requesting.{due_of, due_invoke, due_outcome, after_invoke, after_outcome, answering, sent_at_once, result_in, error_for}
use Rattle.end_rules.specs.TakesTransport.{after_transport, answers_to_transport, phase_asked}
use Rattle.end_rules.specs.TakesData.{alteration, settled}
use Rattle.end_rules.specs.TakesMarks.{restored_set}
use Rattle.end_rules.specs.InPlace.{is_in_place, is_opening}
use Rattle.end_rules.specs.Reacting.{fault_above, after_word, answers_to_word}
use Rattle.end_rules.specs.History.{after_broke, broken_phase}
use Rattle.end_rules.specs.World.{Shared}
use Rattle.agreement.specs.Sets.{Role, is_initiator}
use Rattle.agreement.specs.Sets.Role.{Initiator, Responder}
use Rattle.end_model.specs.Rows.{at}
use Rattle.end_model.specs.Requests.{sent_all, after_called}
use Rattle.end_model.specs.BothEnds.{Common, base_at}
use Rattle.end_model.specs.DirectEnds.{direct_common, ProposesRightly}
use Rattle.end_model.specs.Sharing.{shared_all_sent, shared_all_answered}
use Rattle.end_model.proofs.Ladder.{called}
use Rattle.reliable_model.proofs.Fixed.{AreIdentifiers, others-altered, unnamed-unharmed, fixed-unharmed, unproposed, among-first, among-second}
use Rattle.reliable_model.proofs.Firm.{Keeps}
use Rattle.said_words.specs.Words.{the_connect, the_acceptance, IsWord, IsUnit}
use Rattle.said_words.proofs.First.{first_accepted, first-pair, none-refused}
use Rattle.said_takings.proofs.Loose.{spared}
use Rattle.run_lemmas.proofs.Tests.{clash, and-left, and-right, no-fault, none-second}
use Rattle.run_lemmas.proofs.Openings.{IsAcceptance, HasAcceptance, none-one, Few, nobody, one}

-- ---- association control has its pair, and so in all that marks saved, the oldest of them under number 0

abbrev pub HasAcse : List SetItem → Type 0
HasAcse set = pair_of set 1 ≡ Some acse_pair

abbrev pub MarksHave : List Saved → Type 0
MarksHave [] = ⊥
MarksHave (mark ∷ []) = (mark.number ≡ 0) × HasAcse mark.set
MarksHave (mark ∷ more ∷ marks) = HasAcse mark.set × MarksHave (more ∷ marks)

newest-has : (marks : List Saved) → MarksHave marks → HasAcse (newest marks)
newest-has [] h = absurd h
newest-has (mark ∷ []) h = h.1
newest-has (mark ∷ more ∷ marks) h = h.0

marks-more : (mark : Saved) (marks : List Saved) → HasAcse mark.set → MarksHave marks → MarksHave (mark ∷ marks)
marks-more mark [] s h = absurd h
marks-more mark (more ∷ marks) s h = (s, h)

below-has : (n : ℕ) (marks : List Saved) → 1 ≤ n → MarksHave marks → MarksHave (below n marks)
below-has n [] low h = absurd h
below-has n (mark ∷ []) low h = go (nat_lt mark.number n) (least mark.number n h.0 low)
  where
    least : (m n : ℕ) → m ≡ 0 → 1 ≤ n → nat_lt m n ≡ true
    least m n e l = grind (arith, nat_tests)

    go : (b : Bool) → b ≡ true → MarksHave (if b then mark ∷ [] else [])
    go true e = h
    go false e = cc
below-has n (mark ∷ more ∷ marks) low h = go (below-has n (more ∷ marks) low h.1) (nat_lt mark.number n)
  where
    go : MarksHave (below n (more ∷ marks)) → (b : Bool) → MarksHave (if b then mark ∷ more ∷ marks else below n (more ∷ marks))
    go later true = h
    go later false = later

-- own alterations spare it
abbrev pub Spares : List Alteration → Type 0
Spares [] = Unit {0}
Spares (a ∷ own) = (is_among 1 (named_ids a) ≡ false) × Spares own

spares-append : (own : List Alteration) (a : Alteration) → Spares own → is_among 1 (named_ids a) ≡ false → Spares (own ++ a ∷ [])
spares-append [] a h n = (n, tt)
spares-append (x ∷ own) a h n = (h.0, spares-append own a h.1 n)

-- an end of which this holds, and a shared set
pub record Firm (body : Body) : Type 0 where
  pub held : HasAcse body.sets.held
  pub own : Spares body.sets.own
  pub saved : MarksHave body.saved

pub record IsFirm (shared : Shared) : Type 0 where
  pub set : HasAcse shared.set
  pub saved : MarksHave shared.saved

same-firm : (body later : Body) → later.sets ≡ body.sets → later.saved ≡ body.saved → Firm body → Firm later
same-firm body later s m h =
    record {
      held = subst (λ (x : Sets). HasAcse x.held) (sym s) h.held;
      own = subst (λ (x : Sets). Spares x.own) (sym s) h.own;
      saved = subst MarksHave (sym m) h.saved;
    }

-- ---- alterations

answered-has : (base : Base) (body : Body) (a : Alteration) → is_faulty_proposal (not base.initiator) body.sets.held a.add ≡ false → HasAcse body.sets.held → (set : List SetItem) → HasAcse set → HasAcse (altered a (policy base body a) set)
answered-has base body a proposes h set k =
    let fixed : is_fixed (pair_of body.sets.held 1) ≡ true = ap is_fixed h in
    others-altered a (policy base body a) set 1 (unproposed (not base.initiator) body.sets.held 1 a.add proposes (ap is_some h)) (fixed-unharmed body 1 a.delete fixed) ∙ k

settled-has : (a : Alteration) (own : List Alteration) (answers : Answers) (set : List SetItem) → Spares (a ∷ own) → HasAcse set → HasAcse (altered a answers set)
settled-has a own answers set o h =
    others-altered a answers set 1 (among-first 1 (proposed_ids a.add) a.delete o.0) (unnamed-unharmed 1 a.delete answers.deleted (among-second 1 (proposed_ids a.add) a.delete o.0)) ∙ h

-- it alone
abbrev acse_set : List SetItem
acse_set = record { id = 1; pair = acse_pair } ∷ []

keeps-acse : (held : List SetItem) → HasAcse held → Keeps acse_set held
keeps-acse held h k e = go (nat_eq 1 k) refl e
  where
    same : (k : ℕ) → nat_eq 1 k ≡ true → 1 ≡ k
    same k e = grind (arith, nat_tests)

    go : (b : Bool) → nat_eq 1 k ≡ b → is_fixed (if b then Some acse_pair else None) ≡ true → pair_of held k ≡ (if b then Some acse_pair else None)
    go true n f = subst (λ (j : ℕ). pair_of held j ≡ Some acse_pair) (same k n) h
    go false n f = cc

-- ---- phases

-- the association stands
abbrev pub is_standing : Phase → Bool
is_standing phases.Up = true
is_standing phases.Releasing = true
is_standing phase = false

pub up-stands : (phase : Phase) → is_up phase ≡ true → is_standing phase ≡ true
up-stands phases.Up h = refl
up-stands phase h = cc

asked-falls : (phase : Phase) → is_standing (phase_asked phase true) ≡ false
asked-falls phases.Broken = refl
asked-falls phase = refl

pub broken-falls : (phase : Phase) → is_standing (broken_phase Direct phase) ≡ false
broken-falls phases.Idle = refl
broken-falls phases.Over = refl
broken-falls phases.Dead = refl
broken-falls phases.Opening = refl
broken-falls phases.Up = refl
broken-falls phases.Releasing = refl
broken-falls phases.Broken = refl
broken-falls phases.Recovering = refl

-- ---- messages

-- releases and their answers, whose values go on association control
abbrev pub OnRelease : Message → Type 0 → Type 0
OnRelease (Session (OfAssociation (Finish transport values))) P = P
OnRelease (Session (OfAssociation (Disconnect values))) P = P
OnRelease message P = Unit {0}

abbrev pub AllReleased : Type 0 → List Message → Type 0
AllReleased P [] = Unit {0}
AllReleased P (m ∷ ms) = OnRelease m P × AllReleased P ms

-- ---- what stands

abbrev pub Stands : Body → Shared → Type 0
Stands body shared = is_standing body.link.phase ≡ true → Firm body × IsFirm shared

-- what a step of an end leaves and sends, from the shared set before to the one afterwards
pub record Does (body later : Body) (sent : List Message) (shared new : Shared) : Type 0 where
  pub stands : Stands body shared → Stands later new
  pub firm : Stands body shared → IsFirm shared → IsFirm new
  pub accepts : HasAcceptance sent → IsFirm new
  pub released : Stands body shared → AllReleased (HasAcse shared.set) sent
  pub few : Few sent

-- ---- calls

abbrev CallDoes : Base → Side → Body → Shared → Call → Option ℤ → Type 0
CallDoes base side body shared call answer =
    Does body (after_called Direct base body call answer) (due_of (at Direct base) body call (Ok answer)) shared (shared_all_sent Direct side (due_of (at Direct base) body call (Ok answer)) shared)

module _ (base : Base) (side : Side) (body : Body) (shared : Shared) where
  -- one that changes neither sets nor marks
  still : (later : Body) (sent : List Message) → is_standing body.link.phase ≡ true → later.sets ≡ body.sets → later.saved ≡ body.saved → (HasAcceptance sent → ⊥) → (HasAcse shared.set → AllReleased (HasAcse shared.set) sent) → Few sent → Does body later sent shared shared
  still later sent up s m none released few =
      record {
        stands = λ h e. (same-firm body later s m (h up).0, (h up).1);
        firm = λ h f. f;
        accepts = λ a. absurd (none a);
        released = λ h. released (h up).1.set;
        few = few;
      }

  -- one that leaves no association
  falls : (later : Body) (sent : List Message) → is_standing later.link.phase ≡ false → (HasAcceptance sent → ⊥) → AllReleased (HasAcse shared.set) sent → Few sent → Does body later sent shared shared
  falls later sent down none released few =
      record {
        stands = λ h e. absurd (clash (is_standing later.link.phase) e down);
        firm = λ h f. f;
        accepts = λ a. absurd (none a);
        released = λ h. released;
        few = few;
      }

  still-one : (later : Body) (m : Message) → is_standing body.link.phase ≡ true → later.sets ≡ body.sets → later.saved ≡ body.saved → (IsAcceptance m → ⊥) → (HasAcse shared.set → OnRelease m (HasAcse shared.set)) → Does body later (m ∷ []) shared shared
  still-one later m up s k none released = still later (m ∷ []) up s k (none-one m none) (λ h. (released h, tt)) (one m)

  falls-one : (later : Body) (m : Message) → is_standing later.link.phase ≡ false → (IsAcceptance m → ⊥) → OnRelease m (HasAcse shared.set) → Does body later (m ∷ []) shared shared
  falls-one later m down none released = falls later (m ∷ []) down (none-one m none) (released, tt) (one m)

  invoke-does : (context place : ℕ) (id : ℤ) (linked : Option ℤ) (o : Option Operation) (argument : Option Val) → is_standing body.link.phase ≡ true →
      Does body (sent_all Direct (after_invoke (at Direct base) body context place id linked o argument) (due_invoke (at Direct base) body context id linked o argument)) (due_invoke (at Direct base) body context id linked o argument) shared (shared_all_sent Direct side (due_invoke (at Direct base) body context id linked o argument) shared)
  invoke-does context place id linked None argument up = still body [] up refl refl (λ a. a) (λ h. tt) nobody
  invoke-does context place id linked (Some operation) argument up = still-one _ _ up refl refl (λ a. a) (λ h. tt)

  outcome-does : (id : ℤ) (o : Option OpenCall) (x : Option Apdu) → is_standing body.link.phase ≡ true →
      Does body (sent_all Direct (after_outcome (at Direct base) body id o x) (due_outcome (at Direct base) body o x)) (due_outcome (at Direct base) body o x) shared (shared_all_sent Direct side (due_outcome (at Direct base) body o x) shared)
  outcome-does id None None up = still body [] up refl refl (λ a. a) (λ h. tt) nobody
  outcome-does id None (Some apdu) up = still body [] up refl refl (λ a. a) (λ h. tt) nobody
  outcome-does id (Some o) None up = still body [] up refl refl (λ a. a) (λ h. tt) nobody
  outcome-does id (Some o) (Some apdu) up = go (carrier_in (at Direct base) body o.context)
    where
      go : (c : Option ℕ) → Does body (sent_all Direct (answering id body) (sent_at_once Direct body c apdu)) (sent_at_once Direct body c apdu) shared (shared_all_sent Direct side (sent_at_once Direct body c apdu) shared)
      go None = still (answering id body) [] up refl refl (λ a. a) (λ h. tt) nobody
      go (Some k) = still-one _ _ up refl refl (λ a. a) (λ h. tt)

  abort-does : (c : Bool) → Does body (sent_all Direct (over body) (if c then user_abort body.link.accepted 0 [] ∷ [] else [])) (if c then user_abort body.link.accepted 0 [] ∷ [] else []) shared (shared_all_sent Direct side (if c then user_abort body.link.accepted 0 [] ∷ [] else []) shared)
  abort-does true = falls-one _ _ refl (λ a. a) tt
  abort-does false = falls _ _ refl (λ a. a) tt nobody

  pub call-does : (call : Call) (answer : Option ℤ) → can_call (at Direct base) body call ≡ Ok answer → CallDoes base side body shared call answer
  call-does call answer can = go call answer can
    where
      go : (call : Call) (answer : Option ℤ) → can_call (at Direct base) body call ≡ Ok answer → CallDoes base side body shared call answer
      go the_calls.Open answer can = falls-one _ _ refl (λ a. a) tt
      go (the_calls.Invoke context operation argument linked) None can = still body [] (up-stands body.link.phase (called (at Direct base) body (the_calls.Invoke context operation argument linked) None can).in_phase) refl refl (λ a. a) (λ h. tt) nobody
      go (the_calls.Invoke context operation argument linked) (Some id) can =
          invoke-does context operation id linked (operation_at base.tables operation) argument (up-stands body.link.phase (called (at Direct base) body (the_calls.Invoke context operation argument linked) (Some id) can).in_phase)
      go (the_calls.Answer id result) answer can =
          outcome-does id (opened_with false id body.calls.opens) (result_in (at Direct base) body id result) (up-stands body.link.phase (called (at Direct base) body (the_calls.Answer id result) answer can).in_phase)
      go (the_calls.Refuse id error parameter) answer can =
          outcome-does id (opened_with false id body.calls.opens) (error_for id parameter (error_at base.tables error)) (up-stands body.link.phase (called (at Direct base) body (the_calls.Refuse id error parameter) answer can).in_phase)
      go (the_calls.Alter add delete) answer can =
          let c = called (at Direct base) body (the_calls.Alter add delete) answer can in
          let up = up-stands body.link.phase c.in_phase in
          record {
            stands = λ h e. (
              record { held = (h up).0.held; own = spares-append body.sets.own (alteration add delete) (h up).0.own (spared base acse_set body (alteration add delete) answer c.rows (keeps-acse body.sets.held (h up).0.held) 1 refl); saved = (h up).0.saved },
              (h up).1,
            );
            firm = λ h f. f;
            accepts = λ a. absurd (none-one (Session (OfData (AlterContext add delete))) (λ a. a) a);
            released = λ h. (tt, tt);
            few = one (Session (OfData (AlterContext add delete)));
          }
      go the_calls.Mark answer can =
          let up = up-stands body.link.phase (called (at Direct base) body the_calls.Mark answer can).in_phase in
          record {
            stands = λ h e. (
              record { held = (h up).0.held; own = (h up).0.own; saved = marks-more (record { number = next_number body.saved; set = body.sets.held }) body.saved (h up).0.held (h up).0.saved },
              record { set = (h up).1.set; saved = marks-more (record { number = next_number body.saved; set = shared.set }) shared.saved (h up).1.set (h up).1.saved },
            );
            firm = λ h f. record { set = f.set; saved = marks-more (record { number = next_number body.saved; set = shared.set }) shared.saved f.set f.saved };
            accepts = λ a. absurd (none-one (Session (OfMarks (Mark (next_number body.saved)))) (λ a. a) a);
            released = λ h. (tt, tt);
            few = one (Session (OfMarks (Mark (next_number body.saved))));
          }
      go the_calls.Give answer can = still-one _ _ (up-stands body.link.phase (called (at Direct base) body the_calls.Give answer can).in_phase) refl refl (λ a. a) (λ h. tt)
      go (the_calls.Please priority) answer can = still-one _ _ (up-stands body.link.phase (called (at Direct base) body (the_calls.Please priority) answer can).in_phase) refl refl (λ a. a) (λ h. tt)
      go (the_calls.Resync n) answer can = still-one _ _ (up-stands body.link.phase (called (at Direct base) body (the_calls.Resync n) answer can).in_phase) refl refl (λ a. a) (λ h. tt)
      go the_calls.Interrupt answer can = let r = (called (at Direct base) body the_calls.Interrupt answer can).rows in absurd cc
      go the_calls.Resume answer can = let r = (called (at Direct base) body the_calls.Resume answer can).rows in absurd cc
      go the_calls.Discard answer can = let r = (called (at Direct base) body the_calls.Discard answer can).rows in absurd cc
      go the_calls.Recover answer can = falls-one _ _ refl (λ a. a) tt
      go the_calls.Release answer can = still-one _ _ (up-stands body.link.phase (called (at Direct base) body the_calls.Release answer can).in_phase) refl refl (λ a. a) (λ h. h)
      go the_calls.Abort answer can = abort-does (is_carrying body.link.stage)

-- ---- words that are taken

module _ (tables : Tables) (spellings : Spellings) (a b : Config) where
  abbrev common : Common
  common = direct_common tables spellings a b

  abbrev base : Role → Base
  base role = base_at role common

  abbrev WordDoes : Role → Body → Shared → Word → Type 0
  WordDoes role body shared word = Does body (after_word (base role) body word) (answers_to_word (base role) body word) shared (shared_all_answered (base role) (Session word) (answers_to_word (base role) body word) shared)

  abbrev UnitDoes : Role → Body → Shared → TransportUnit → Type 0
  UnitDoes role body shared unit = Does body (after_transport (base role) body unit) (answers_to_transport (base role) body unit) shared (shared_all_answered (base role) (Transport unit) (answers_to_transport (base role) body unit) shared)

  module _ (right : ProposesRightly common) (ids : AreIdentifiers (proposals (base Initiator))) (body : Body) (shared : Shared) where
    first-has : HasAcse (first_accepted common)
    first-has = first-pair tables spellings a b right ids

    -- nothing is answered
    silent : (later : Body) → (Stands body shared → is_standing later.link.phase ≡ true → Firm later × IsFirm shared) → Does body later [] shared shared
    silent later f = record { stands = f; firm = λ h s. s; accepts = λ a. absurd a; released = λ h. tt; few = nobody }

    -- sets and marks stay
    stays : (later : Body) → later.link.phase ≡ body.link.phase → later.sets ≡ body.sets → later.saved ≡ body.saved → Does body later [] shared shared
    stays later p s m = silent later (λ h e. let up : is_standing body.link.phase ≡ true = ap is_standing (sym p) ∙ e in (same-firm body later s m (h up).0, (h up).1))

    ends : (later : Body) → is_standing later.link.phase ≡ false → Does body later [] shared shared
    ends later down = silent later (λ h e. absurd (clash (is_standing later.link.phase) e down))

    connects : (role : Role) → (not (is_initiator role) && is_joined body.link.stage) ≡ true → WordDoes role body shared (OfAssociation (the_connect (base Initiator) false))
    connects Initiator h = cc
    connects Responder h =
        subst (λ r. Does body (if r then refused_connect body else accepted_connect (base Responder) body (session_connect (base Initiator)) (presentation_connect (base Initiator)) (connect_values (base Initiator) false))
        (if r then refusal_message (base Responder) body (session_connect (base Initiator)) (presentation_connect (base Initiator)) (connect_values (base Initiator) false) ∷ [] else acceptance_message (base Responder) (session_connect (base Initiator)) (presentation_connect (base Initiator)) (connect_values (base Initiator) false) ∷ []) shared
        (shared_all_answered (base Responder) (Session (OfAssociation (the_connect (base Initiator) false))) (if r then refusal_message (base Responder) body (session_connect (base Initiator)) (presentation_connect (base Initiator)) (connect_values (base Initiator) false) ∷ [] else acceptance_message (base Responder) (session_connect (base Initiator)) (presentation_connect (base Initiator)) (connect_values (base Initiator) false) ∷ []) shared))
        (sym (none-refused tables spellings a b body right ids))
        (record {
          stands = λ h e. (record { held = first-has; own = tt; saved = (refl, first-has) }, record { set = first-has; saved = (refl, first-has) });
          firm = λ h f. record { set = first-has; saved = (refl, first-has) };
          accepts = λ x. record { set = first-has; saved = (refl, first-has) };
          released = λ h. (tt, tt);
          few = one _;
        })

    -- where it comes, the shared set has them already
    abbrev AcceptDoes : Role → Message → Type 0
    AcceptDoes role (Session (OfAssociation (Accept session presentation values))) = IsFirm shared → Does body (after_accept (base role) body session presentation values) [] shared shared
    AcceptDoes role message = Unit {0}

    accepts-so : (role : Role) → is_initiator role ≡ true → AcceptDoes role (the_acceptance (base Initiator) (base Responder) false)
    accepts-so Initiator h = λ f. silent _ (λ g e. (record { held = first-has; own = tt; saved = (refl, first-has) }, f))
    accepts-so Responder h = cc

    accepted-does : (role : Role) (session : Accepting) (presentation : PresentationAccept) (values : List DataValue) → IsWord (base Initiator) (base Responder) (OfAssociation (Accept session presentation values)) → is_in_place (base role) body (unit_of (OfAssociation (Accept session presentation values))) ≡ true → IsFirm shared → WordDoes role body shared (OfAssociation (Accept session presentation values))
    accepted-does role session presentation values i in_place f =
        subst (AcceptDoes role) (sym i.1)
        (accepts-so role (and-left (is_initiator role) (is_carrying body.link.stage) (and-left (is_initiator role && is_carrying body.link.stage) (is_opening body.link.phase) (and-left _ (has_version_two session.version) (and-left _ (has_units (needed_units Direct) (selected_with Direct session.requirements)) in_place))))) f

    -- one message that is no acceptance
    no-accept : (m : Message) → (IsAcceptance m → ⊥) → HasAcceptance (m ∷ []) → ⊥
    no-accept m f (inl h) = f h
    no-accept m f (inr h) = h

    data-does : (role : Role) (item : Item) → WordDoes role body shared (OfData (Values (value_of_item item ∷ [])))
    data-does role item = by-reject heard.reject
      where
        heard : Heard
        heard = hear (base role) body.calls item.id (head_of_apdu item.apdu)

        later : Body
        later = record body { calls = heard.calls }

        keeps : (sent : List Message) (new : Shared) → new ≡ shared → (HasAcceptance sent → ⊥) → AllReleased (HasAcse shared.set) sent → Few sent → (x : Body) → x.link.phase ≡ body.link.phase → x.sets ≡ body.sets → x.saved ≡ body.saved → Does body x sent shared new
        keeps sent new n none released few x p s m =
            record {
              stands = λ h e. let up : is_standing body.link.phase ≡ true = ap is_standing (sym p) ∙ e in (same-firm body x s m (h up).0, subst IsFirm (sym n) (h up).1);
              firm = λ h f. subst IsFirm (sym n) f;
              accepts = λ a. absurd (none a);
              released = λ h. released;
              few = few;
            }

        one-kept : (m : Message) (x : Body) → x.link.phase ≡ body.link.phase → x.sets ≡ body.sets → x.saved ≡ body.saved → (IsAcceptance m → ⊥) → OnRelease m (HasAcse shared.set) → Does body x (m ∷ []) shared shared
        one-kept m x p s k none released = keeps (m ∷ []) shared refl (no-accept m none) (released, tt) (one m) x p s k

        by-carrier : (r : Rejecting) (c : Option ℕ) → Does body (sent_on later r c).body ((sent_on later r c).answers ++ []) shared (shared_all_answered (base role) (Session (OfData (Values (value_of_item item ∷ [])))) ((sent_on later r c).answers ++ []) shared)
        by-carrier r None = keeps [] shared refl (λ a. a) tt nobody later refl refl refl
        by-carrier r (Some k) = one-kept _ later refl refl refl (λ a. a) tt

        by-reject : (r : Option Rejecting) → Does body (with_reject (base role) later item.id r).body ((with_reject (base role) later item.id r).answers ++ []) shared (shared_all_answered (base role) (Session (OfData (Values (value_of_item item ∷ [])))) ((with_reject (base role) later item.id r).answers ++ []) shared)
        by-reject None = keeps [] shared refl (λ a. a) tt nobody later refl refl refl
        by-reject (Some r) = by-carrier r (carrier_in (base role) later item.id)

    settled-does : (own : List Alteration) (answers : Answers) → body.sets.own ≡ own → Does body (settled own answers body) [] shared shared
    settled-does [] answers e = stays body refl refl refl
    settled-does (x ∷ own) answers e =
        silent _ (λ h up. let f = (h up).0 in let o : Spares (x ∷ own) = subst Spares e f.own in (record { held = settled-has x own answers body.sets.held o f.held; own = o.1; saved = f.saved }, (h up).1))

    pub word-does : (role : Role) (word : Word) → IsWord (base Initiator) (base Responder) word → is_in_place (base role) body (unit_of word) ≡ true → fault_above (base role) body word ≡ None → (IsAcceptance (Session word) → IsFirm shared) → WordDoes role body shared word
    word-does role (OfAssociation (Connect session presentation values)) i in_place above f = subst (λ w. WordDoes role body shared (OfAssociation w)) (sym i.1) (connects role in_place)
    word-does role (OfAssociation (Accept session presentation values)) i in_place above f = accepted-does role session presentation values i in_place (f tt)
    word-does role (OfAssociation (Refuse transport reason presentation values)) i in_place above f = absurd i
    word-does role (OfAssociation (Finish transport values)) i in_place above f =
        let up : is_up body.link.phase ≡ true = and-right (not (is_initiator role)) (is_up body.link.phase) (and-left (not (is_initiator role) && is_up body.link.phase) true in_place) in
        record {
          stands = λ h e. absurd (clash (is_standing phases.Over) e refl);
          firm = λ h s. s;
          accepts = λ x. absurd (no-accept (disconnect_message body) (λ y. y) x);
          released = λ h. ((h (up-stands body.link.phase up)).1.set, tt);
          few = one (disconnect_message body);
        }
    word-does role (OfAssociation (Disconnect values)) i in_place above f = ends _ refl
    word-does role (OfAssociation (Abort transport user)) i in_place above f = ends _ refl
    word-does role (OfAssociation AbortAccept) i in_place above f = absurd i
    word-does role (OfData (Values values)) i in_place above f = subst (λ vs. WordDoes role body shared (OfData (Values vs))) (sym i.is_one) (data-does role i.item)
    word-does role (OfData (AlterContext add delete)) i in_place above f =
        let proposes : is_faulty_proposal (not (is_initiator role)) body.sets.held add ≡ false =
        no-fault (is_faulty_proposal (not (is_initiator role)) body.sets.held add) invalid_ppdu
        (none-second (fault_if (not body.link.manages || false) unexpected_ppdu) (fault_if (is_faulty_proposal (not (is_initiator role)) body.sets.held add) invalid_ppdu) above) in
        let up : is_standing body.link.phase ≡ true = up-stands body.link.phase (and-left (is_up body.link.phase) (has_typed_data body.link.selected) in_place) in
        record {
          stands = λ h e. (
            record { held = answered-has (base role) body (alteration add delete) proposes (h up).0.held body.sets.held (h up).0.held; own = (h up).0.own; saved = (h up).0.saved },
            record { set = answered-has (base role) body (alteration add delete) proposes (h up).0.held shared.set (h up).1.set; saved = (h up).1.saved },
          );
          firm = λ h s. record { set = answered-has (base role) body (alteration add delete) proposes (h up).0.held shared.set s.set; saved = s.saved };
          accepts = λ x. absurd (no-accept (Session (OfData (AlterContextAck (policy (base role) body (alteration add delete))))) (λ y. y) x);
          released = λ h. (tt, tt);
          few = one (Session (OfData (AlterContextAck (policy (base role) body (alteration add delete)))));
        }
    word-does role (OfData (AlterContextAck answers)) i in_place above f = settled-does body.sets.own answers refl
    word-does role (OfMarks (Mark n)) i in_place above f =
        silent _ (λ h e. (record { held = (h e).0.held; own = (h e).0.own; saved = marks-more (record { number = n; set = body.sets.held }) body.saved (h e).0.held (h e).0.saved }, (h e).1))
    word-does role (OfMarks (MarkAck n)) i in_place above f = absurd i
    word-does role (OfMarks (Restart n list)) i in_place above f =
        record {
          stands = λ h e.
              let m = below-has n body.saved i.low (h e).0.saved in
              let s = below-has n shared.saved i.low (h e).1.saved in
              (record { held = newest-has (below n body.saved) m; own = tt; saved = m }, record { set = newest-has (below n shared.saved) s; saved = s });
          firm = λ h x. let s = below-has n shared.saved i.low x.saved in record { set = newest-has (below n shared.saved) s; saved = s };
          accepts = λ x. absurd (no-accept (Session (OfMarks (RestartAck n (Some (listed (restored_set body n)))))) (λ y. y) x);
          released = λ h. (tt, tt);
          few = one (Session (OfMarks (RestartAck n (Some (listed (restored_set body n))))));
        }
    word-does role (OfMarks (RestartAck n list)) i in_place above f =
        silent _ (λ h e. let m = below-has n body.saved i.low (h e).0.saved in (record { held = newest-has (below n body.saved) m; own = tt; saved = m }, (h e).1))
    word-does role (OfMarks (Give None)) i in_place above f = stays _ refl refl refl
    word-does role (OfMarks (Give (Some tokens))) i in_place above f = stays _ refl refl refl
    word-does role (OfMarks (Please tokens values)) i in_place above f = stays _ refl refl refl
    word-does role (OfMarks GiveConfirm) i in_place above f = absurd i
    word-does role (OfMarks GiveAck) i in_place above f = absurd i
    word-does role (OfActivities word) i in_place above f = absurd i

    -- ---- units of the transport

    one-sent : (later : Body) (m : Message) → (IsAcceptance m → ⊥) → OnRelease m (HasAcse shared.set) → (Stands body shared → is_standing later.link.phase ≡ true → Firm later × IsFirm shared) → Does body later (m ∷ []) shared shared
    one-sent later m none released f = record { stands = f; firm = λ h s. s; accepts = λ x. absurd (no-accept m none x); released = λ h. (released, tt); few = one m }

    pub unit-does : (role : Role) (unit : TransportUnit) → IsUnit (base Initiator) unit → UnitDoes role body shared unit
    unit-does role (ConnectionRequest source size calling other_) i =
        subst (UnitDoes role body shared) (sym i) (one-sent _ _ (λ y. y) tt (λ h e. absurd (clash (is_standing (phase_asked body.link.phase true)) e (asked-falls body.link.phase))))
    unit-does role (ConnectionConfirm destination size) i = one-sent _ _ (λ y. y) tt (λ h e. (same-firm body _ refl refl (h e).0, (h e).1))
    unit-does role (DisconnectRequest destination) i = absurd i
    unit-does role TransportError i = absurd i

  -- a break leaves no association
  pub broke-falls : (role : Role) (body : Body) (shared : Shared) → Stands (after_broke (base role) body) shared
  broke-falls role body shared e = absurd (clash (is_standing (broken_phase Direct body.link.phase)) e (broken-falls body.link.phase))
