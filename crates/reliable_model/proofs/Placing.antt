-- What two ends of reliable mode encode is on contexts of the module: no fixed context is ever asked for, and each other one of
-- the shared set has the module's abstract syntax. With that, what they reach has a run.
use Rattle.std.proofs.Common.{◌≡◌, refl, true, false, ◌∙◌, sym, ap, subst, ℕ, List, [], ◌∷◌, ◌⊎◌, inl, inr}
use Rattle.std.specs.Prelude.{ℤ, Bool, not, ◌||◌, Option, Some, None, Result, Ok, is_some, if◌then◌else◌}
use Rattle.osi_base.specs.declared.syntax.Pair.{Pair}
use Rattle.osi_base.specs.declared.layer_words.SetItem.{SetItem}
use Rattle.stub_tables.specs.declared.tables.Tables.{Tables}
use Rattle.end_model.specs.dialogue.declared.config.Config.{Config}
use Rattle.end_model.specs.dialogue.declared.config.Mode.TheVariants.{Reliable}
use Rattle.end_model.specs.dialogue.declared.config.Phase.{Phase}
use Rattle.end_model.specs.dialogue.declared.config.Phase.TheVariants.{Idle, Opening, Up, Releasing, Broken, Over}
use Rattle.end_model.specs.dialogue.declared.call.Call.{Call}
use Rattle.end_model.specs.dialogue.declared.indication.Indication.{Indication}
use Rattle.end_model.specs.end_rules.Base.{Base, Spellings, Fault, Item, Arrived, Whole}
use Rattle.end_model.specs.end_rules.Sets.{Alteration, carrier, accepted_set, may_send, lowest_with, has_abstract}
use Rattle.osi_base.specs.SetPlaces.{pair_of}
use Rattle.end_model.specs.end_rules.Messages.{Message, Transport, Session, TransportUnit, ConnectionRequest, ConnectionConfirm, DisconnectRequest, TransportError}
use Rattle.end_model.specs.end_rules.Messages.{Word, OfAssociation, OfData, OfMarks, OfActivities, Accept, Refuse, Finish, Disconnect, Abort}
use Rattle.end_model.specs.end_rules.Messages.{Values, AlterContext, AlterContextAck, Mark, MarkAck, Please, GiveConfirm, GiveAck}
use Rattle.end_model.specs.end_rules.Messages.{Start, Resume, End, EndAck, Interrupt, InterruptAck, Discard, DiscardAck}
use Rattle.end_model.specs.end_rules.State.{Body, Sets, Calls, Receiving, new_body, Joined, Carrying, Transfer, Sending, is_carrying, is_broken, passes_over, on_current, Suspended}
use Rattle.end_model.specs.end_rules.Writing.{proposals, provider_refusal, refuse_message}
use Rattle.end_model.specs.end_rules.Policy.{opening_policy, is_taken}
use Rattle.end_model.specs.end_rules.Connecting.{is_refused, recovers_in, has_acse, set_for, results_for, acceptance_message, begun_with, accepted_connect, refused_connect}
use Rattle.end_model.specs.end_rules.Calling.{can_call, is_phase_for}
use Rattle.end_model.specs.end_rules.Requesting.{due_of}
use Rattle.end_model.specs.end_rules.ByItself.{OwnAct, SendsNow, EncodesOn, next_own}
use Rattle.end_model.specs.end_rules.TakesTransport.{is_size, phase_asked, after_transport, answers_to_transport}
use Rattle.end_model.specs.end_rules.TakesData.{alteration}
use Rattle.end_model.specs.end_rules.Messages.{Information}
use Rattle.end_model.specs.end_rules.Reacting.{Passes, Takes, react, after_word, answers_to_word}
use Rattle.end_model.specs.end_rules.History.{after_step, step_of, after_broke, broken_phase}
use Rattle.agreement.specs.Sets.{Role, IsRising, lookup}
use Rattle.agreement.specs.Sets.Role.{Initiator, Responder}
use Rattle.agreement.specs.State as states
use Rattle.agreement.specs.Acts.{Leads, IsUnencoded}
use Rattle.agreement.specs.Messages as model
use Rattle.agreement.specs.Worlds.{state_of, shared_at}
use Rattle.end_model.specs.Seen.{Free, set_seen, encoded_seen, transfer_seen, seen}
use Rattle.end_model.specs.Rows.{at}
use Rattle.end_model.specs.Requests.{after_called}
use Rattle.end_model.specs.BothEnds.{Common, base_at, Two, two_new, body_at, coming_to, stepped}
use Rattle.end_model.specs.Sharing.{side_of}
use Rattle.end_model.proofs.Ladder.{called}
use Rattle.end_model.proofs.Held.{found-pair}
use Rattle.end_model.proofs.Fitting.{one-name}
use Rattle.end_model.proofs.DirectLaws.{found-back}
use Rattle.end_model.proofs.DirectOpening.{At}
use Rattle.end_model.proofs.OwnActs.{encoding-so, leading, running-seen}
use Rattle.reliable_model.specs.Codecs.{IsContextOf, Carries}
use Rattle.reliable_model.specs.Ledgers.{Ledger, first_ledger, ReachedWithLedger, begins, calls, acts, takes, passes, fails, breaks, own_messages, after_sending, after_own, after_taking}
use Rattle.reliable_model.specs.OwnRows.{EncodesInPlace}
use Rattle.reliable_model.specs.Transfers.{TakesTransferEnd}
use Rattle.reliable_model.specs.ReliableEnds.{reliable_common, IsFit}
use Rattle.reliable_model.proofs.Contexts.{lowest-found}
use Rattle.reliable_model.proofs.Fixed.{IsIdentifier, AreIdentifiers, listed-identifiers, answers-taken, AllContexts, none-contexts}
use Rattle.reliable_model.proofs.Fixed.{added-contexts, answered-contexts, module-taken, is_others, module-or_others}
use Rattle.reliable_model.proofs.Firm.{Keeps, IsLoose, PiecesKeep, OwnSpares, OpensLoose, QueueLoose, TransferKeeps, CurrentKeeps, Firm, module-loose, context_of}
use Rattle.reliable_model.proofs.FirmSteps.{linked, called-firm, own-firm, word-firm, broke-firm, ArrivesIn}
use Rattle.reliable_model.proofs.Leading.{leads-shared}
use Rattle.reliable_model.proofs.Words.{OwnWord, AreOwn, Live, Side as Standing_side, Stands, IsOver}
use Rattle.reliable_model.proofs.Phases.{only-open, only-abort, over-calls, own-up, aborted-over, OnlyAborts}
use Rattle.reliable_model.proofs.Opening as opening
use Rattle.reliable_model.proofs.Opening.{Way, First, Again, joins}
use Rattle.reliable_model.proofs.Machine as machine
use Rattle.reliable_model.proofs.Machine.{Resting, Calling, Confirming, Connecting, Accepting, Refusing, Deaf, Gone, Standing}
use Rattle.reliable_model.proofs.Machine.{DeafRest, DeafAsked, DeafCarrying, LeftIdle, LeftJoined, LeftBroken}
use Rattle.reliable_model.proofs.Arriving as arriving
use Rattle.reliable_model.proofs.OnWay.{took-word, took-unit, Ranged, AllRanged, ranged-append, called-ranged, own-ranged, answered-ranged, unit-ranged}
use Rattle.reliable_model.proofs.OnWay.{SharedHas, AnswersHave, all-sent_has, all-answered_has}

-- ---- two ends

module _ (free : Free) (tables : Tables) (spellings : Spellings) (a b : Config) where
  abbrev common : Common
  common = reliable_common tables spellings a b

  abbrev base : Role → Base
  base role = base_at role common

  -- the contexts that each opening and each recovery accepts
  abbrev first : List SetItem
  first = accepted_set (proposals (base Initiator)) (opening_policy (base Responder) (proposals (base Initiator)))

  abbrev IsPlain : ℕ → Pair → Type 0
  IsPlain k pair = IsIdentifier k × ((pair.abstract_name ≡ tables.name_oid) ⊎ (pair_of first k ≡ Some pair))

  -- nothing went over an association yet
  record IsYoung (body : Body) : Type 0 where
    phase : (body.link.phase ≡ Idle) ⊎ (body.link.phase ≡ Opening)
    opens : body.calls.opens ≡ []
    sending : body.sending ≡ record { started = 0; current = None; queue = [] }
    came : body.receiving.pieces ≡ []

  data Rooted (body : Body) : Type 0 where
    Young : IsYoung body → Rooted body
    Stood : Firm tables.name_oid first body → Rooted body
    Ended : body.link.phase ≡ Over → Rooted body

  record Placed (two : Two) (ledger : Ledger) : Type 0 where
    rooted_a : Rooted two.a
    rooted_b : Rooted two.b
    to_a : AllRanged two.to_a
    to_b : AllRanged two.to_b
    shared : SharedHas IsPlain ledger.shared

  abbrev at_role : (role : Role) (two : Two) (ledger : Ledger) → Placed two ledger → Rooted (body_at role two)
  at_role Initiator two ledger p = p.rooted_a
  at_role Responder two ledger p = p.rooted_b

  -- a step of one end
  placed-step : (role : Role) (two : Two) (ledger new : Ledger) (later : Body) (left sent : List Message) → Placed two ledger → Rooted later → AllRanged left → AllRanged sent → SharedHas IsPlain new.shared → Placed (stepped role later left sent two) new
  placed-step Initiator two ledger new later left sent p r l s h = record { rooted_a = r; rooted_b = p.rooted_b; to_a = l; to_b = ranged-append two.to_b sent p.to_b s; shared = h }
  placed-step Responder two ledger new later left sent p r l s h = record { rooted_a = p.rooted_a; rooted_b = r; to_a = ranged-append two.to_a sent p.to_a s; to_b = l; shared = h }

  coming-ranged : (role : Role) (two : Two) (ledger : Ledger) → Placed two ledger → AllRanged (coming_to role two)
  coming-ranged Initiator two ledger p = p.to_a
  coming-ranged Responder two ledger p = p.to_b

  -- what is presumed
  record Sets_ : Type 0 where
    identifiers : AreIdentifiers (proposals (base Initiator))

  -- ---- what is first accepted

  abbrev IsTaken : ℕ → Pair → Type 0
  IsTaken k pair = IsIdentifier k × (is_taken (base Responder) true pair.abstract_name ≡ true)

  first-taken : Sets_ → AllContexts IsTaken first
  first-taken s =
      added-contexts IsTaken (base Responder) true (λ k pair i t. (i, t)) (proposals (base Initiator)) (opening_policy (base Responder) (proposals (base Initiator))) [] s.identifiers
      (answers-taken (base Responder) true 0 (proposals (base Initiator))) (none-contexts IsTaken)

  first-plain : Sets_ → AllContexts IsPlain first
  first-plain s = let t = first-taken s in record { rising = t.rising; each = λ k pair there. ((t.each k pair there).0, inr there) }

  first-keeps : Keeps first first
  first-keeps k e = refl

  -- ---- calls, acts and breaks

  phase-of : (body : Body) (p q : Phase) → body.link.phase ≡ p → body.link.phase ≡ q → p ≡ q
  phase-of body p q e f = sym e ∙ f

  young-called : (role : Role) (body : Body) (call : Call) (answer : Option ℤ) → IsYoung body → can_call (base role) body call ≡ Ok answer → Rooted (after_called Reliable (base role) body call answer)
  young-called role body call answer y h = go y.phase
    where
      in-phase : (phase : Phase) → body.link.phase ≡ phase → is_phase_for call phase ≡ true
      in-phase phase e = ap (is_phase_for call) (sym e) ∙ (called (base role) body call answer h).in_phase

      go : (body.link.phase ≡ Idle) ⊎ (body.link.phase ≡ Opening) → Rooted (after_called Reliable (base role) body call answer)
      go (inl e) =
          subst (λ c. Rooted (after_called Reliable (base role) body c answer)) (sym (only-open call (in-phase Idle e)))
          (Young (record { phase = inr refl; opens = y.opens; sending = y.sending; came = y.came }))
      go (inr e) =
          subst (λ c. Rooted (after_called Reliable (base role) body c answer)) (sym (only-abort First call (in-phase Opening e)))
          (Ended (aborted-over body (is_carrying body.link.stage)))

  called-rooted : Sets_ → (role : Role) (body : Body) (call : Call) (answer : Option ℤ) → Rooted body → can_call (base role) body call ≡ Ok answer → Rooted (after_called Reliable (base role) body call answer)
  called-rooted s role body call answer (Young y) h = young-called role body call answer y h
  called-rooted s role body call answer (Stood f) h = Stood (called-firm first (base role) body call answer f h)
  called-rooted s role body call answer (Ended e) h = absurd (over-calls (base role) body call answer e h)

  own-rooted : Sets_ → (role : Role) (body : Body) (own : OwnAct) → Rooted body → next_own (base role) body ≡ Some own → Rooted (after_step (base role) body (step_of own))
  own-rooted s role body own (Young y) h = absurd (go y.phase)
    where
      up : body.link.phase ≡ Up
      up = own-up (base role) body own h

      idle : Idle ≡ Up → ⊥
      idle e = cc

      opens : Opening ≡ Up → ⊥
      opens e = cc

      go : (body.link.phase ≡ Idle) ⊎ (body.link.phase ≡ Opening) → ⊥
      go (inl e) = idle (sym e ∙ up)
      go (inr e) = opens (sym e ∙ up)
  own-rooted s role body own (Stood f) h = Stood (own-firm first (base role) body own f h)
  own-rooted s role body own (Ended e) h = absurd (over-up (sym e ∙ own-up (base role) body own h))
    where
      over-up : Over ≡ Up → ⊥
      over-up e = cc

  broke-rooted : Sets_ → (role : Role) (body : Body) → Rooted body → Rooted (after_broke (base role) body)
  broke-rooted s role body (Young y) = go y.phase
    where
      go : (body.link.phase ≡ Idle) ⊎ (body.link.phase ≡ Opening) → Rooted (after_broke (base role) body)
      go (inl e) =
          Young (record {
            phase = inl (ap (broken_phase Reliable) e);
            opens = y.opens;
            sending = ap (on_current (λ (t : Transfer). record t { progress = Suspended })) y.sending;
            came = y.came;
          })
      go (inr e) = Ended (ap (broken_phase Reliable) e)
  broke-rooted s role body (Stood f) = Stood (broke-firm first (base role) body f)
  broke-rooted s role body (Ended e) = Ended (ap (broken_phase Reliable) e)

  -- ---- what comes next

  abbrev EndsIt_ : Word → Type 0
  EndsIt_ (OfAssociation (Refuse transport reason presentation values)) = Unit {0}
  EndsIt_ (OfAssociation (Abort transport user)) = Unit {0}
  EndsIt_ word = ⊥

  data Next (role : Role) (body : Body) (message : Message) : Type 0 where
    OfUnit : (unit : TransportUnit) → message ≡ Transport unit → Next role body message
    OfOwn : (word : Word) → message ≡ Session word → OwnWord word → Live body → Next role body message
    OfAccept : (word : Word) → message ≡ Session word → opening.IsAccept free tables spellings a b word → role ≡ Initiator → Next role body message
    OfEnd : (word : Word) → message ≡ Session word → EndsIt_ word → Next role body message
    OfConnect : (way : Way) → message ≡ opening.cn free tables spellings a b way → At (opening.joins way) Joined body → role ≡ Responder → Next role body message
    OfOver : body.link.phase ≡ Over → Next role body message

  abbrev NextOf : Role → Body → List Message → Type 0
  NextOf role body [] = Unit {0}
  NextOf role body (message ∷ left) = Next role body message

  refusal-ends : (word : Word) → opening.IsRefusal free tables spellings a b word → EndsIt_ word
  refusal-ends word r = subst EndsIt_ (sym r.is_it) tt

  own-next : (role : Role) (body : Body) (coming : List Message) → Live body → AreOwn coming → NextOf role body coming
  own-next role body [] live own = tt
  own-next role body (Transport unit ∷ left) live own = absurd own
  own-next role body (Session word ∷ left) live own = OfOwn word refl own.0 live

  over-next : (role : Role) (body : Body) (coming : List Message) → body.link.phase ≡ Over → NextOf role body coming
  over-next role body [] e = tt
  over-next role body (message ∷ left) e = OfOver e

  side-next : (role : Role) (body : Body) (coming : List Message) → Standing_side body coming → NextOf role body coming
  side-next role body coming (Stands live own) = own-next role body coming live own
  side-next role body coming (IsOver e) = over-next role body coming e

  only-next : (role : Role) (body : Body) (coming : List Message) → OnlyAborts coming → NextOf role body coming
  only-next role body [] h = tt
  only-next role body (Session (OfAssociation (Abort transport user)) ∷ left) h = OfEnd (OfAssociation (Abort transport user)) refl tt
  only-next role body coming h = absurd h

  next-a : (two : Two) (ledger : Ledger) → machine.Kept free tables spellings a b two ledger → NextOf Initiator two.a two.to_a
  next-a two ledger k = go k.opened
    where
      none : two.to_a ≡ [] → NextOf Initiator two.a two.to_a
      none e = subst (NextOf Initiator two.a) (sym e) tt

      one : (message : Message) (left : List Message) → two.to_a ≡ message ∷ left → Next Initiator two.a message → NextOf Initiator two.a two.to_a
      one message left e n = subst (NextOf Initiator two.a) (sym e) n

      deaf : (way : Way) → machine.Deafened free tables spellings a b way two.a two.to_a → NextOf Initiator two.a two.to_a
      deaf way (DeafRest at e) = none e
      deaf way (DeafAsked at (inl e)) = none e
      deaf way (DeafAsked at (inr e)) = one _ [] e (OfUnit _ refl)
      deaf way (DeafCarrying at e) = none e

      go : machine.Opened free tables spellings a b two.a two.b two.to_a two.to_b → NextOf Initiator two.a two.to_a
      go (Resting way x y e f) = none e
      go (Calling way x y e f) = none e
      go (Confirming way x y e f) = one _ [] e (OfUnit _ refl)
      go (Connecting way x y e f) = none e
      go (Accepting way x word accept more e own s) = one (Session word) more e (OfAccept word refl accept refl)
      go (Refusing way x y word refusal e) = one (Session word) [] e (OfEnd word refl (refusal-ends word refusal))
      go (Deaf way q d) = deaf way d
      go (Gone q l) = over-next Initiator two.a two.to_a q
      go (Standing s t) = side-next Initiator two.a two.to_a s

  next-b : (two : Two) (ledger : Ledger) → machine.Kept free tables spellings a b two ledger → NextOf Responder two.b two.to_b
  next-b two ledger k = go k.opened
    where
      none : two.to_b ≡ [] → NextOf Responder two.b two.to_b
      none e = subst (NextOf Responder two.b) (sym e) tt

      one : (message : Message) (left : List Message) → two.to_b ≡ message ∷ left → Next Responder two.b message → NextOf Responder two.b two.to_b
      one message left e n = subst (NextOf Responder two.b) (sym e) n

      left : machine.Left free tables spellings a b two.b two.to_b → NextOf Responder two.b two.to_b
      left (LeftIdle way at (inl e)) = none e
      left (LeftIdle way at (inr e)) = one _ [] e (OfUnit _ refl)
      left (LeftJoined way at (inl e)) = none e
      left (LeftJoined way at (inr w)) = one _ w.0 w.1 (OfConnect way refl at refl)
      left (LeftBroken at h) = only-next Responder two.b two.to_b h

      refusing : (two.b.link.phase ≡ Over) ⊎ (At Broken Carrying two.b × (two.to_b ≡ [])) → NextOf Responder two.b two.to_b
      refusing (inl q) = over-next Responder two.b two.to_b q
      refusing (inr q) = none q.1

      go : machine.Opened free tables spellings a b two.a two.b two.to_a two.to_b → NextOf Responder two.b two.to_b
      go (Resting way x y e f) = none f
      go (Calling way x y e f) = one _ [] f (OfUnit _ refl)
      go (Confirming way x y e f) = none f
      go (Connecting way x y e f) = one _ [] f (OfConnect way refl y refl)
      go (Accepting way x word accept more e own s) = side-next Responder two.b two.to_b s
      go (Refusing way x y word refusal e) = refusing y
      go (Deaf way q d) = over-next Responder two.b two.to_b q
      go (Gone q l) = left l
      go (Standing s t) = side-next Responder two.b two.to_b t

  next-of : (role : Role) (two : Two) (ledger : Ledger) (message : Message) (left : List Message) → machine.Kept free tables spellings a b two ledger → coming_to role two ≡ message ∷ left → Next role (body_at role two) message
  next-of Initiator two ledger message left k e = subst (NextOf Initiator two.a) e (next-a two ledger k)
  next-of Responder two ledger message left k e = subst (NextOf Responder two.b) e (next-b two ledger k)

  -- ---- takings

  live-phase : {R : Type 0} (body : Body) (p : Phase) → Live body → body.link.phase ≡ p → (p ≡ Up → ⊥) → (p ≡ Releasing → ⊥) → R
  live-phase body p live e f g = absurd (go live.phase)
    where
      go : (body.link.phase ≡ Up) ⊎ (body.link.phase ≡ Releasing) → ⊥
      go (inl u) = f (sym e ∙ u)
      go (inr r) = g (sym e ∙ r)

  firm-of_live : (body : Body) → Live body → Rooted body → Firm tables.name_oid first body
  firm-of_live body live (Stood f) = f
  firm-of_live body live (Ended e) = live-phase body Over live e (λ x. cc) (λ x. cc)
  firm-of_live body live (Young y) = go y.phase
    where
      go : (body.link.phase ≡ Idle) ⊎ (body.link.phase ≡ Opening) → Firm tables.name_oid first body
      go (inl e) = live-phase body Idle live e (λ x. cc) (λ x. cc)
      go (inr e) = live-phase body Opening live e (λ x. cc) (λ x. cc)

  firm-of_broken : (body : Body) → body.link.phase ≡ Broken → Rooted body → Firm tables.name_oid first body
  firm-of_broken body b_ (Stood f) = f
  firm-of_broken body b_ (Ended e) = let x : Over ≡ Broken = sym e ∙ b_ in cc
  firm-of_broken body b_ (Young y) = go y.phase
    where
      go : (body.link.phase ≡ Idle) ⊎ (body.link.phase ≡ Opening) → Firm tables.name_oid first body
      go (inl e) = let x : Idle ≡ Broken = sym e ∙ b_ in cc
      go (inr e) = let x : Opening ≡ Broken = sym e ∙ b_ in cc

  unit-rooted : Sets_ → (role : Role) (body : Body) (unit : TransportUnit) → passes_over body.link.phase ≡ false → Rooted body → Rooted (after_transport (base role) body unit)
  unit-rooted s role body unit alive (Ended e) = let x : true ≡ false = sym (ap passes_over e) ∙ alive in cc
  unit-rooted s role body (ConnectionRequest source size calling other_) alive (Stood f) = Stood (linked first (base role) body _ refl refl refl refl f)
  unit-rooted s role body (ConnectionConfirm destination size) alive (Stood f) = Stood (linked first (base role) body _ refl refl refl refl f)
  unit-rooted s role body (DisconnectRequest destination) alive (Stood f) = Ended refl
  unit-rooted s role body TransportError alive (Stood f) = Stood f
  unit-rooted s role body (ConnectionRequest source size calling other_) alive (Young y) = go y.phase (is_size size) refl
    where
      go : (body.link.phase ≡ Idle) ⊎ (body.link.phase ≡ Opening) → (s : Bool) → is_size size ≡ s → Rooted (after_transport (base role) body (ConnectionRequest source size calling other_))
      go (inl e) true d = Young (record { phase = inr (ap (phase_asked body.link.phase) d ∙ ap (λ p. phase_asked p true) e); opens = y.opens; sending = y.sending; came = y.came })
      go (inl e) false d = Ended (ap (phase_asked body.link.phase) d ∙ ap (λ p. phase_asked p false) e)
      go (inr e) true d = Young (record { phase = inr (ap (phase_asked body.link.phase) d ∙ ap (λ p. phase_asked p true) e); opens = y.opens; sending = y.sending; came = y.came })
      go (inr e) false d = Ended (ap (phase_asked body.link.phase) d ∙ ap (λ p. phase_asked p false) e)
  unit-rooted s role body (ConnectionConfirm destination size) alive (Young y) = Young (record { phase = y.phase; opens = y.opens; sending = y.sending; came = y.came })
  unit-rooted s role body (DisconnectRequest destination) alive (Young y) = Ended refl
  unit-rooted s role body TransportError alive (Young y) = Young y

  unit-has : (role : Role) (body : Body) (unit : TransportUnit) → AnswersHave IsPlain (Transport unit) (answers_to_transport (base role) body unit)
  unit-has role body (ConnectionRequest source size calling other_) = (tt, tt)
  unit-has role body (ConnectionConfirm destination size) = (tt, tt)
  unit-has role body (DisconnectRequest destination) = tt
  unit-has role body TransportError = tt

  -- an end of either role, with what it took
  record Taken_ (message : Message) (later : Body) (answers : List Message) : Type 0 where
    rooted : Rooted later
    ranged : AllRanged answers
    has : AnswersHave IsPlain message answers

  own-has : (role : Role) (body : Body) (word : Word) → OwnWord word → Ranged (Session word) → AnswersHave IsPlain (Session word) (answers_to_word (base role) body word)
  own-has role body (OfAssociation (Finish transport values)) own r = (tt, tt)
  own-has role body (OfAssociation (Disconnect values)) own r = tt
  own-has role body (OfAssociation (Abort transport user)) own r = tt
  own-has role body (OfData (Values values)) own r = tt
  own-has role body (OfData (AlterContext add delete)) own r = (
    λ set h.
        answered-contexts IsPlain (base role) body (alteration add delete) (λ k pair i t. (i, inl (module-taken (base role) pair.abstract_name t))) set r h,
    tt,
  )
  own-has role body (OfData (AlterContextAck answers)) own r = tt
  own-has role body (OfMarks (Mark number)) own r = (tt, tt)
  own-has role body (OfMarks (MarkAck number)) own r = tt
  own-has role body (OfMarks (Please (Some tokens) values)) own r = tt
  own-has role body (OfMarks GiveConfirm) own r = (tt, tt)
  own-has role body (OfMarks GiveAck) own r = tt
  own-has role body (OfActivities (Start activity)) own r = tt
  own-has role body (OfActivities (Resume activity mark)) own r = tt
  own-has role body (OfActivities (End number)) own r = (tt, tt)
  own-has role body (OfActivities (EndAck number)) own r = tt
  own-has role body (OfActivities (Interrupt reason)) own r = (tt, tt)
  own-has role body (OfActivities InterruptAck) own r = tt
  own-has role body (OfActivities (Discard reason)) own r = (tt, tt)
  own-has role body (OfActivities DiscardAck) own r = tt
  own-has role body word own r = absurd own

  one-arrived : (item : Item) (arrived : Arrived) → ◌≡◌ {A = Result Arrived Fault} (Ok (Whole item)) (Ok arrived) → Whole item ≡ arrived
  one-arrived item arrived e = cc

  arrives-in : (s : Sets_) → Carries free (base Initiator) → IsFit common → (role : Role) (two : Two) (ledger : Ledger) (word : Word) (left : List Message) (later : Body) (answers : List Message) (shown : List Indication) → machine.Kept free tables spellings a b two ledger → Firm tables.name_oid first (body_at role two) →
      coming_to role two ≡ Session word ∷ left → react (base role) (body_at role two) (Session word) ≡ Takes later answers shown → ArrivesIn first (base role) (body_at role two) word
  arrives-in s carries fit role two ledger word left later answers shown k f comes taken = go word comes taken
    where
      go : (word : Word) → coming_to role two ≡ Session word ∷ left → react (base role) (body_at role two) (Session word) ≡ Takes later answers shown → ArrivesIn first (base role) (body_at role two) word
      go (OfActivities (End number)) comes taken =
          λ new arrived e.
          let x : TakesTransferEnd common two role = record { number = number; left = left; body = later; answers = answers; shown = shown; comes = comes; taken = taken; is_new = new } in
          let w = arriving.whole-at free tables spellings a b two ledger role carries fit k x in
          let loose : IsLoose tables.name_oid first w.item.id = module-loose tables.name_oid first (body_at role two).sets.held w.item.id w.item.pair f.held w.there w.placed.named in
          subst (λ y. IsLoose tables.name_oid first (context_of y)) (one-arrived w.item arrived (sym w.arrived ∙ e)) loose
      go (OfActivities (Start activity)) comes taken = tt
      go (OfActivities (Resume activity mark)) comes taken = tt
      go (OfActivities (EndAck number)) comes taken = tt
      go (OfActivities (Interrupt reason)) comes taken = tt
      go (OfActivities InterruptAck) comes taken = tt
      go (OfActivities (Discard reason)) comes taken = tt
      go (OfActivities DiscardAck) comes taken = tt
      go (OfAssociation x) comes taken = tt
      go (OfData x) comes taken = tt
      go (OfMarks x) comes taken = tt

  own-taken : (s : Sets_) → Carries free (base Initiator) → IsFit common → (role : Role) (two : Two) (ledger : Ledger) (word : Word) (left : List Message) (later : Body) (answers : List Message) (shown : List Indication) → machine.Kept free tables spellings a b two ledger → Placed two ledger →
      coming_to role two ≡ Session word ∷ left → react (base role) (body_at role two) (Session word) ≡ Takes later answers shown → OwnWord word → Live (body_at role two) → Taken_ (Session word) later answers
  own-taken s carries fit role two ledger word left later answers shown k p comes taken own live =
      let body : Body = body_at role two in
      let t = took-word (base role) body word later answers shown taken in
      let f = firm-of_live body live (at_role role two ledger p) in
      let g : Firm tables.name_oid first (after_word (base role) body word) = word-firm first (base role) body word own t.fine (arrives-in s carries fit role two ledger word left later answers shown k f comes taken) f in
      let r : AllRanged (Session word ∷ left) = subst AllRanged comes (coming-ranged role two ledger p) in
      record {
        rooted = Stood (subst (Firm tables.name_oid first) (sym t.later_is) g);
        ranged = subst AllRanged (sym t.answers_are) (answered-ranged (base role) body word);
        has = subst (AnswersHave IsPlain (Session word)) (sym t.answers_are) (own-has role body word own r.0);
      }

  -- the initiator takes an acceptance
  young-firm : (body later : Body) → IsYoung body → later.sets ≡ record { held = first; inter = first; own = [] } → later.calls ≡ body.calls → later.sending ≡ body.sending → later.receiving ≡ body.receiving → Firm tables.name_oid first later
  young-firm body later y e c o r =
      record {
        held = subst (λ (x : Sets). Keeps first x.held) (sym e) first-keeps;
        inter = subst (λ (x : Sets). Keeps first x.inter) (sym e) first-keeps;
        own = subst (λ (x : Sets). OwnSpares first x.own) (sym e) tt;
        opens = subst (OpensLoose tables.name_oid first) (sym (ap (λ (x : Calls). x.opens) c ∙ y.opens)) tt;
        queue = subst (λ (x : Sending). QueueLoose tables.name_oid first x.queue) (sym (o ∙ y.sending)) tt;
        current = subst (λ (x : Sending). CurrentKeeps tables.name_oid first x.current) (sym (o ∙ y.sending)) tt;
        came = subst (PiecesKeep first) (sym (ap (λ (x : Receiving). x.pieces) r ∙ y.came)) tt;
      }

  joined-firm : (body later : Body) → Firm tables.name_oid first body → later.sets ≡ record { held = first; inter = first; own = [] } → later.calls ≡ body.calls → later.sending ≡ body.sending → later.receiving ≡ body.receiving → Firm tables.name_oid first later
  joined-firm body later f e c o r =
      record {
        held = subst (λ (x : Sets). Keeps first x.held) (sym e) first-keeps;
        inter = subst (λ (x : Sets). Keeps first x.inter) (sym e) first-keeps;
        own = subst (λ (x : Sets). OwnSpares first x.own) (sym e) tt;
        opens = subst (λ (x : Calls). OpensLoose tables.name_oid first x.opens) (sym c) f.opens;
        queue = subst (λ (x : Sending). QueueLoose tables.name_oid first x.queue) (sym o) f.queue;
        current = subst (λ (x : Sending). CurrentKeeps tables.name_oid first x.current) (sym o) f.current;
        came = subst (λ (x : Receiving). PiecesKeep first x.pieces) (sym r) f.came;
      }

  joins-rooted : (body later : Body) → Rooted body → (body.link.phase ≡ Over → ⊥) → later.sets ≡ record { held = first; inter = first; own = [] } → later.calls ≡ body.calls → later.sending ≡ body.sending → later.receiving ≡ body.receiving → Rooted later
  joins-rooted body later (Young y) alive e c o r = Stood (young-firm body later y e c o r)
  joins-rooted body later (Stood f) alive e c o r = Stood (joined-firm body later f e c o r)
  joins-rooted body later (Ended g) alive e c o r = absurd (alive g)

  not-over : (body : Body) → passes_over body.link.phase ≡ false → body.link.phase ≡ Over → ⊥
  not-over body alive e = let x : true ≡ false = sym (ap passes_over e) ∙ alive in cc

  accept-taken : (body : Body) (word : Word) (later : Body) (answers : List Message) (shown : List Indication) → Rooted body → react (base Initiator) body (Session word) ≡ Takes later answers shown → opening.IsAccept free tables spellings a b word → Taken_ (Session word) later answers
  accept-taken body word later answers shown r taken x =
      let t = took-word (base Initiator) body word later answers shown taken in
      let accept : Word = OfAssociation (Accept x.session x.presentation x.values) in
      let after : later ≡ after_word (base Initiator) body accept = t.later_is ∙ ap (after_word (base Initiator) body) x.is_it in
      let none : answers ≡ [] = t.answers_are ∙ ap (answers_to_word (base Initiator) body) x.is_it in
      let set : accepted_set (proposals (base Initiator)) x.presentation.results ≡ first = ap (accepted_set (proposals (base Initiator))) x.results in
      let put : List SetItem → Sets = λ h. record { held = h; inter = h; own = [] } in
      record {
        rooted = subst Rooted (sym after) (joins-rooted body (after_word (base Initiator) body accept) r (not-over body t.alive) (ap put set) refl refl refl);
        ranged = subst AllRanged (sym none) tt;
        has = subst (AnswersHave IsPlain (Session word)) (sym none) tt;
      }

  ends-so : (role : Role) (body : Body) (word : Word) → EndsIt_ word → ((after_word (base role) body word).link.phase ≡ Over) × (answers_to_word (base role) body word ≡ [])
  ends-so role body (OfAssociation (Refuse transport reason presentation values)) h = (refl, refl)
  ends-so role body (OfAssociation (Abort transport user)) h = (refl, refl)
  ends-so role body word h = absurd h

  end-taken : (role : Role) (body : Body) (word : Word) (later : Body) (answers : List Message) (shown : List Indication) → react (base role) body (Session word) ≡ Takes later answers shown → EndsIt_ word → Taken_ (Session word) later answers
  end-taken role body word later answers shown taken h =
      let t = took-word (base role) body word later answers shown taken in
      let e = ends-so role body word h in
      let none : answers ≡ [] = t.answers_are ∙ e.1 in
      record {
        rooted = Ended (ap (λ (x : Body). x.link.phase) t.later_is ∙ e.0);
        ranged = subst AllRanged (sym none) tt;
        has = subst (AnswersHave IsPlain (Session word)) (sym none) tt;
      }

  -- the responder takes a CN
  refused-rooted : (s : Sets_) (body : Body) → Rooted body → Rooted (refused_connect body)
  refused-rooted s body (Stood f) = Stood (linked first (base Responder) body _ refl refl refl refl f)
  refused-rooted s body (Ended e) = Ended (ap (λ p. if is_broken p then Broken else Over) e)
  refused-rooted s body (Young y) = go y.phase
    where
      go : (body.link.phase ≡ Idle) ⊎ (body.link.phase ≡ Opening) → Rooted (refused_connect body)
      go (inl e) = Ended (ap (λ p. if is_broken p then Broken else Over) e)
      go (inr e) = Ended (ap (λ p. if is_broken p then Broken else Over) e)

  recovering-firm : (way : Way) (body : Body) → At (joins way) Joined body → Rooted body → recovers_in (base Responder) (opening.values free tables spellings a b way) ≡ true → Firm tables.name_oid first body
  recovering-firm First body at r e = cc
  recovering-firm Again body at r e = firm-of_broken body at.phase_is r

  connected-firm : (way : Way) (body : Body) → At (joins way) Joined body → Rooted body → Firm tables.name_oid first (accepted_connect (base Responder) body (opening.session free tables spellings a b) (opening.presentation free tables spellings a b) (opening.values free tables spellings a b way))
  connected-firm way body at r = go (recovers_in (base Responder) (opening.values free tables spellings a b way)) refl
    where
      go : (c : Bool) → recovers_in (base Responder) (opening.values free tables spellings a b way) ≡ c → Firm tables.name_oid first (accepted_connect (base Responder) body (opening.session free tables spellings a b) (opening.presentation free tables spellings a b) (opening.values free tables spellings a b way))
      go true e =
          let f = recovering-firm way body at r e in
          let calls_are = ap (λ (c : Bool). (if c then body else begun_with (base Responder) (opening.session free tables spellings a b)).calls) e in
          let sending_is = ap (λ (c : Bool). (if c then body else begun_with (base Responder) (opening.session free tables spellings a b)).sending) e in
          let receiving_is = ap (λ (c : Bool). (if c then body else begun_with (base Responder) (opening.session free tables spellings a b)).receiving) e in
          joined-firm body _ f refl calls_are sending_is receiving_is
      go false e =
          let calls_are = ap (λ (c : Bool). (if c then body else begun_with (base Responder) (opening.session free tables spellings a b)).calls) e in
          let sending_is = ap (λ (c : Bool). (if c then body else begun_with (base Responder) (opening.session free tables spellings a b)).sending) e in
          let receiving_is = ap (λ (c : Bool). (if c then body else begun_with (base Responder) (opening.session free tables spellings a b)).receiving) e in
          young-firm (new_body (base Responder)) _ (record { phase = inl refl; opens = refl; sending = refl; came = refl }) refl calls_are sending_is receiving_is

  connect-taken : (s : Sets_) (way : Way) (body : Body) (later : Body) (answers : List Message) (shown : List Indication) → Rooted body → react (base Responder) body (opening.cn free tables spellings a b way) ≡ Takes later answers shown → At (joins way) Joined body → Taken_ (opening.cn free tables spellings a b way) later answers
  connect-taken s way body later answers shown r taken at =
      let word : Word = opening.cn_word free tables spellings a b way in
      let t = took-word (base Responder) body word later answers shown taken in
      record {
        rooted = subst Rooted (sym t.later_is) (after-so (is_refused (base Responder) body (opening.session free tables spellings a b) (opening.presentation free tables spellings a b) (opening.values free tables spellings a b way)));
        ranged = subst AllRanged (sym t.answers_are) (answered-ranged (base Responder) body word);
        has =
            subst (AnswersHave IsPlain (Session word)) (sym t.answers_are)
            (answers-so _ _ (is_refused (base Responder) body (opening.session free tables spellings a b) (opening.presentation free tables spellings a b) (opening.values free tables spellings a b way))
            (is_some (opening.presentation free tables spellings a b).default_context || not (has_acse (set_for (base Responder) (opening.presentation free tables spellings a b)))));
      }
    where
      after-so : (c : Bool) → Rooted (if c then refused_connect body else accepted_connect (base Responder) body (opening.session free tables spellings a b) (opening.presentation free tables spellings a b) (opening.values free tables spellings a b way))
      after-so true = refused-rooted s body r
      after-so false = Stood (connected-firm way body at r)

      answers-so : (context : List ℕ) (user : List Information) (c p : Bool) → AnswersHave IsPlain (opening.cn free tables spellings a b way) (if c then (if p then provider_refusal else refuse_message (set_for (base Responder) (opening.presentation free tables spellings a b)) (results_for (base Responder) (opening.presentation free tables spellings a b)) context user) ∷ [] else acceptance_message (base Responder) (opening.session free tables spellings a b) (opening.presentation free tables spellings a b) (opening.values free tables spellings a b way) ∷ [])
      answers-so context user true true = (tt, tt)
      answers-so context user true false = (tt, tt)
      answers-so context user false p = (first-plain s, tt)

  over-passes : {R : Type 0} (role : Role) (body : Body) (message : Message) (later : Body) (answers : List Message) (shown : List Indication) → body.link.phase ≡ Over → react (base role) body message ≡ Takes later answers shown → R
  over-passes role body message later answers shown e h =
      let x : Passes ≡ Takes later answers shown = sym (machine.over-passes free tables spellings a b role body message e) ∙ h in absurd (cc)

  unit-taken : Sets_ → (role : Role) (body : Body) (unit : TransportUnit) (later : Body) (answers : List Message) (shown : List Indication) → Rooted body → react (base role) body (Transport unit) ≡ Takes later answers shown → Taken_ (Transport unit) later answers
  unit-taken s role body unit later answers shown r taken =
      let t = took-unit (base role) body unit later answers shown taken in
      record {
        rooted = subst Rooted (sym t.later_is) (unit-rooted s role body unit t.alive r);
        ranged = subst AllRanged (sym t.answers_are) (unit-ranged (base role) body unit);
        has = subst (AnswersHave IsPlain (Transport unit)) (sym t.answers_are) (unit-has role body unit);
      }

  taken-so : (s : Sets_) → Carries free (base Initiator) → IsFit common → (role : Role) (two : Two) (ledger : Ledger) (message : Message) (left : List Message) (later : Body) (answers : List Message) (shown : List Indication) → machine.Kept free tables spellings a b two ledger → Placed two ledger →
      coming_to role two ≡ message ∷ left → react (base role) (body_at role two) message ≡ Takes later answers shown → Taken_ message later answers
  taken-so s carries fit role two ledger message left later answers shown k p comes taken = go (next-of role two ledger message left k comes)
    where
      to : (m : Message) → message ≡ m → react (base role) (body_at role two) m ≡ Takes later answers shown
      to m e = subst (λ x. react (base role) (body_at role two) x ≡ Takes later answers shown) e taken

      accepting : (r : Role) → r ≡ Initiator → (body : Body) (word : Word) → Rooted body → react (base r) body (Session word) ≡ Takes later answers shown → opening.IsAccept free tables spellings a b word → Taken_ (Session word) later answers
      accepting Initiator e body word rooted h x = accept-taken body word later answers shown rooted h x
      accepting Responder e body word rooted h x = cc

      connecting : (r : Role) → r ≡ Responder → (body : Body) (way : Way) → Rooted body → react (base r) body (opening.cn free tables spellings a b way) ≡ Takes later answers shown → At (joins way) Joined body → Taken_ (opening.cn free tables spellings a b way) later answers
      connecting Responder e body way rooted h at = connect-taken s way body later answers shown rooted h at
      connecting Initiator e body way rooted h at = cc

      go : Next role (body_at role two) message → Taken_ message later answers
      go (OfUnit unit e) = subst (λ m. Taken_ m later answers) (sym e) (unit-taken s role (body_at role two) unit later answers shown (at_role role two ledger p) (to (Transport unit) e))
      go (OfOwn word e own live) =
          subst (λ m. Taken_ m later answers) (sym e)
          (own-taken s carries fit role two ledger word left later answers shown k p (comes ∙ ap (λ m. m ∷ left) e) (to (Session word) e) own live)
      go (OfAccept word e x r) = subst (λ m. Taken_ m later answers) (sym e) (accepting role r (body_at role two) word (at_role role two ledger p) (to (Session word) e) x)
      go (OfEnd word e h) = subst (λ m. Taken_ m later answers) (sym e) (end-taken role (body_at role two) word later answers shown (to (Session word) e) h)
      go (OfConnect way e at r) =
          subst (λ m. Taken_ m later answers) (sym e) (connecting role r (body_at role two) way (at_role role two ledger p) (to (opening.cn free tables spellings a b way) e) at)
      go (OfOver e) = over-passes role (body_at role two) message later answers shown e taken

  -- ---- what is encoded

  one-pair : (x y : Pair) → Some x ≡ Some y → x ≡ y
  one-pair x y e = cc

  is-context : {k : ℕ} {pair : Pair} → IsIdentifier k → pair.abstract_name ≡ tables.name_oid → IsContextOf tables.name_oid k pair
  is-context i n = record { low = i.low; high = i.high; named = n }

  -- the carrier of a loose identifier is one of the module
  carrier-named : Sets_ → (held : List SetItem) (own : List Alteration) (c context : ℕ) (pair : Pair) → IsRising (set_seen held) → IsLoose tables.name_oid first c → IsPlain context pair → pair_of held context ≡ Some pair →
      carrier tables.name_oid held own c ≡ Some context → pair.abstract_name ≡ tables.name_oid
  carrier-named s held own c context pair rising loose plain there h = by-plain plain.1 (may_send held own c) h
    where
      lowest : lowest_with tables.name_oid own held ≡ Some context → pair.abstract_name ≡ tables.name_oid
      lowest e = one-name pair.abstract_name tables.name_oid (ap (has_abstract tables.name_oid) (sym there) ∙ lowest-found tables.name_oid own context held rising e)

      itself : c ≡ context → pair_of first context ≡ Some pair → pair.abstract_name ≡ tables.name_oid
      itself e at_first =
          let others : is_others tables.name_oid (pair_of first context) ≡ false = subst (IsLoose tables.name_oid first) e loose in
          module-or_others (base Responder) pair ((first-taken s).each context pair at_first).1 (ap (is_others tables.name_oid) (sym at_first) ∙ others)

      by-plain : (pair.abstract_name ≡ tables.name_oid) ⊎ (pair_of first context ≡ Some pair) → (m : Bool) → (if m then Some c else lowest_with tables.name_oid own held) ≡ Some context → pair.abstract_name ≡ tables.name_oid
      by-plain (inl n) m h = n
      by-plain (inr at_first) true h = let e : c ≡ context = cc in itself e at_first
      by-plain (inr at_first) false h = lowest h

  -- who encodes holds the shared set
  shared-as_held : (two : Two) (ledger : Ledger) (role : Role) (context : ℕ) → machine.Kept free tables spellings a b two ledger → next_own (base role) (body_at role two) ≡ Some (EncodesOn context) → set_seen ledger.shared.set ≡ set_seen (body_at role two).sets.held
  shared-as_held two ledger role context k h =
      let body : Body = body_at role two in
      let setup : model.ModelSetup = opening.setup free tables spellings a b in
      let l = leading (base role) body (EncodesOn context) h in
      let x = encoding-so (base role) body context body.sending.current refl l.next in
      let state : state_of setup role k.world ≡ seen (base role) body = state-so role in
      let current : (seen (base role) body).outgoing.transfer ≡ transfer_seen (base role) (Some x.transfer) = ap (transfer_seen (base role)) x.is_it in
      let due : IsUnencoded (seen (base role) body).outgoing.transfer = subst IsUnencoded (sym current) (running-seen x.transfer.progress x.runs, ap (encoded_seen (base role)) x.is_due) in
      let same : (shared_at setup k.world).set ≡ (state_of setup role k.world).sets.held =
      leads-shared setup k.world role k.joint.ends.run (subst Leads (sym state) l.leads_so) (subst (λ (z : states.State). IsUnencoded z.outgoing.transfer) (sym state) due) in
      k.joint.same.set ∙ same ∙ ap (λ (z : states.State). z.sets.held) state
    where
      state-so : (r : Role) → state_of (opening.setup free tables spellings a b) r k.world ≡ seen (base r) (body_at r two)
      state-so Initiator = k.joint.ends.own.state
      state-so Responder = k.joint.ends.others.state

  encodes-placed : Sets_ → (two : Two) (ledger : Ledger) (role : Role) (context : ℕ) → machine.Kept free tables spellings a b two ledger → Placed two ledger → next_own (base role) (body_at role two) ≡ Some (EncodesOn context) → EncodesInPlace (base role) (body_at role two) (EncodesOn context)
  encodes-placed s two ledger role context k p h pair there =
      let body : Body = body_at role two in
      let l = leading (base role) body (EncodesOn context) h in
      let x = encoding-so (base role) body context body.sending.current refl l.next in
      let same : set_seen ledger.shared.set ≡ set_seen body.sets.held = shared-as_held two ledger role context k h in
      let found : pair_of ledger.shared.set context ≡ Some pair = found-back ledger.shared.set context pair (ap (λ set. lookup set context) same ∙ found-pair body.sets.held context pair there) in
      let plain : IsPlain context pair = p.shared.set.each context pair found in
      let rising : IsRising (set_seen body.sets.held) = subst IsRising same p.shared.set.rising in
      let f : Firm tables.name_oid first body = up-firm body (own-up (base role) body (EncodesOn context) h) (at_role role two ledger p) in
      let t : TransferKeeps tables.name_oid first x.transfer = subst (CurrentKeeps tables.name_oid first) x.is_it f.current in
      is-context plain.0 (carrier-named s body.sets.held body.sets.own x.transfer.item.context context pair rising t.loose plain there x.carrier)
    where
      up-firm : (body : Body) → body.link.phase ≡ Up → Rooted body → Firm tables.name_oid first body
      up-firm body e (Stood f) = f
      up-firm body e (Ended q) = let z : Over ≡ Up = sym q ∙ e in cc
      up-firm body e (Young y) = go y.phase
        where
          go : (body.link.phase ≡ Idle) ⊎ (body.link.phase ≡ Opening) → Firm tables.name_oid first body
          go (inl q) = let z : Idle ≡ Up = sym q ∙ e in cc
          go (inr q) = let z : Opening ≡ Up = sym q ∙ e in cc

  own-placed : Sets_ → (two : Two) (ledger : Ledger) (role : Role) (own : OwnAct) → machine.Kept free tables spellings a b two ledger → Placed two ledger → next_own (base role) (body_at role two) ≡ Some own → EncodesInPlace (base role) (body_at role two) own
  own-placed s two ledger role (EncodesOn context) k p h = encodes-placed s two ledger role context k p h
  own-placed s two ledger role (SendsNow message) k p h = tt

  -- ---- all that is reached

  record Both (two : Two) (ledger : Ledger) : Type 0 where
    kept : machine.Kept free tables spellings a b two ledger
    placed : Placed two ledger

  new-placed : Placed (two_new common) (first_ledger common)
  new-placed =
      record {
        rooted_a = Young (record { phase = inl refl; opens = refl; sending = refl; came = refl });
        rooted_b = Young (record { phase = inl refl; opens = refl; sending = refl; came = refl });
        to_a = tt;
        to_b = tt;
        shared = record { set = none-contexts IsPlain; inter = none-contexts IsPlain; saved = tt; of_a = tt; of_b = tt };
      }

  all-both : Sets_ → machine.Presumed free tables spellings a b → (two : Two) (ledger : Ledger) → ReachedWithLedger common two ledger → Both two ledger
  all-both s q two ledger begins = record { kept = machine.new-kept free tables spellings a b; placed = new-placed }
  all-both s q two ledger (calls x l role call answer reached h) =
      let o = all-both s q x l reached in
      record {
        kept = machine.called-kept free tables spellings a b x l role call answer q o.kept h;
        placed =
            placed-step role x l (after_sending common role (due_of (base role) (body_at role x) call (Ok answer)) l) (after_called Reliable (base role) (body_at role x) call answer) (coming_to role x) (due_of (base role) (body_at role x) call (Ok answer)) o.placed
            (called-rooted s role (body_at role x) call answer (at_role role x l o.placed) h) (coming-ranged role x l o.placed) (called-ranged (base role) (body_at role x) call answer h)
            (all-sent_has IsPlain (side_of role) (due_of (base role) (body_at role x) call (Ok answer)) l.shared o.placed.shared);
      }
  all-both s q two ledger (acts x l role own reached h) =
      let o = all-both s q x l reached in
      record {
        kept = machine.own-kept free tables spellings a b x l role own q o.kept h (own-placed s x l role own o.kept o.placed h);
        placed =
            placed-step role x l (after_own common role (body_at role x) own l) (after_step (base role) (body_at role x) (step_of own)) (coming_to role x) (own_messages own) o.placed
            (own-rooted s role (body_at role x) own (at_role role x l o.placed) h) (coming-ranged role x l o.placed) (own-ranged (base role) (body_at role x) own h)
            (all-sent_has IsPlain (side_of role) (own_messages own) l.shared o.placed.shared);
      }
  all-both s q two ledger (takes x l role message left body answers shown reached comes h) =
      let o = all-both s q x l reached in
      let t = taken-so s q.carries q.fit role x l message left body answers shown o.kept o.placed comes h in
      record {
        kept = machine.took-kept free tables spellings a b x l role message left body answers shown (machine.handles free tables spellings a b x l role message left q o.kept comes) h;
        placed =
            placed-step role x l (after_taking common role (body_at role x) message answers l) body left answers o.placed t.rooted ((subst AllRanged comes (coming-ranged role x l o.placed)).1) t.ranged
            (all-answered_has IsPlain (base role) message answers l.shared t.has o.placed.shared);
      }
  all-both s q two ledger (passes x l role message left reached comes h) =
      let o = all-both s q x l reached in
      record {
        kept = machine.passed-kept free tables spellings a b x l role message left (machine.handles free tables spellings a b x l role message left q o.kept comes) h;
        placed = placed-step role x l l (body_at role x) left [] o.placed (at_role role x l o.placed) ((subst AllRanged comes (coming-ranged role x l o.placed)).1) tt o.placed.shared;
      }
  all-both s q two ledger (fails x l role message left fault body aborts shown reached comes h) =
      let o = all-both s q x l reached in
      absurd (machine.never-fails free tables spellings a b x l role message left fault body aborts shown (machine.handles free tables spellings a b x l role message left q o.kept comes) h)
  all-both s q two ledger (breaks x l reached) =
      let o = all-both s q x l reached in
      record {
        kept = machine.breaks-all free tables spellings a b x l o.kept;
        placed = record { rooted_a = broke-rooted s Initiator x.a o.placed.rooted_a; rooted_b = broke-rooted s Responder x.b o.placed.rooted_b; to_a = tt; to_b = tt; shared = o.placed.shared };
      }

  pub all-kept : machine.Presumed free tables spellings a b → (two : Two) (ledger : Ledger) → ReachedWithLedger common two ledger → machine.Kept free tables spellings a b two ledger
  all-kept q two ledger reached =
      (all-both (record { identifiers = listed-identifiers (proposals (base Initiator)) q.fit.identifiers }) q two ledger reached).kept
