-- What a call does, and that its messages may be written.
use Rattle.std.proofs.Common.{◌≡◌, ℕ, ◌≤◌, Bool, true, false, not, ◌||◌, ◌&&◌, if◌then◌else◌, nat_eq, nat_lt, List, [], ◌∷◌, ◌++◌, length, map, Option, Some, None, refl, sym, ap, subst, ◌∙◌, arith, length-append}
use Rattle.std.proofs.lemmas.List.{append-nil}
use Rattle.std.proofs.lemmas.Grind.{flat_map-append}
use Rattle.std.proofs.lemmas.Bool.Decides.{nat_tests}
use Rattle.std.specs.Prelude.{ℤ, MatchBool, Result, Ok, Err, IfOk}
use Rattle.std.specs.List.{flat_map}
use Rattle.asn1_types.specs.declared.value.Val.{Val}
use Rattle.stub_tables.specs.declared.apdu.Apdu.{Apdu}
use Rattle.stub_tables.specs.declared.operation.Operation.{Operation}
use Rattle.stub_tables.specs.Lookup.{operation_at, error_at}
use Rattle.tpkt.specs.Wire.{parameter}
use Rattle.tpkt.specs.Written.{selector_parameter, HasRoom}
use Rattle.dialogue.specs.declared.config.Config.{Config}
use Rattle.dialogue.specs.declared.config.Mode.{Mode}
use Rattle.dialogue.specs.declared.config.Mode.TheVariants.{Bare, Direct, Reliable}
use Rattle.dialogue.specs.declared.config.Phase.{Phase}
use Rattle.dialogue.specs.declared.config.Phase.TheVariants.{Over, Dead}
use Rattle.dialogue.specs.declared.config.ConfigRefusal.{ConfigRefusal}
use Rattle.dialogue.specs.declared.config.ConfigRefusal.TheVariants as config_refusals
use Rattle.dialogue.specs.declared.call.Call.{Call}
use Rattle.dialogue.specs.declared.call.Call.TheVariants as the_calls
use Rattle.dialogue.specs.declared.call.CallRefusal.{CallRefusal}
use Rattle.dialogue.specs.declared.call.CallRefusal.TheVariants as refusals
use Rattle.dialogue.specs.Config as values
use Rattle.end_config.specs.Refusing.{config_refusal, early_refusal, late_refusal, or_refusal, context_refusal, bad_context}
use Rattle.end_rules.specs.Base.{Base, is_bare}
use Rattle.end_rules.specs.Messages.{Message}
use Rattle.end_rules.specs.State.{Body, OpenCall, opened_with, is_carrying, passes_over}
use Rattle.end_rules.specs.Invoking.{Reply, carrier_in, invoke_apdu, is_memory}
use Rattle.end_rules.specs.Calling.{is_dead, is_initiators, is_phase_for, is_of_bare_mode, can_by_rows, can_call}
use Rattle.end_rules.specs.Writing.{give_message, please_message, user_abort}
use Rattle.end_rules.specs.Requesting.{sent_at_once, due_invoke, due_outcome, result_in, error_for, due_of_accepted, due_of, after_refused, after_call}
use Rattle.end_rules.specs.History.{Step, called, sent, after_steps, call_steps, ByItself}
use Rattle.association_writing.specs.association_wire.Written.{request_ends}
use Rattle.association_line.specs.Line.{End, after, after_all}
use Rattle.association_line.specs.Feeding.{OwnAfter, BeginsByItself}
use Rattle.association_requests.specs.declared.accepted_call.AcceptedCall as call_outcomes
use Rattle.association_requests.specs.Called.{sent_by, CalledAs}
use Rattle.association_end.specs.View.{EndView, base, Stepped}
use Rattle.association_end.specs.Called.{Answered, nothing_made, made, BeganCall, DiedCalled}
use Rattle.association_end.specs.Progress.{Keeps, DidOwn, BeganOwn, AnswersCall}
use Rattle.association_end.specs.Sound.{IsSoundEnd}
use Rattle.association_end.specs.Changed.{AcceptedSo, RefusedSo, wants_memory, ChangedBy}
use Rattle.association_end.specs.OneMessage.{AllMayStand, with_body, sending}
use Rattle.association_end.proofs.Histories.{body_after, same_base, stands_on, stepped_on, after_all-append}
use Rattle.association_end.proofs.Sounds.{up_some, sound_body, sound_same}
use Rattle.association_end.proofs.Sent.{waiting_with, sent_line}
use Rattle.association_end.proofs.ReactionSent.{kept_same, kept_body}

-- ---- the CR of a configuration that isn't refused has room for its selectors

none-second : (a b : Option ConfigRefusal) → or_refusal a b ≡ None → b ≡ None
none-second None b e = e
none-second (Some r) b e = cc

none-first : (a b : Option ConfigRefusal) → or_refusal a b ≡ None → a ≡ None
none-first None b e = refl
none-first (Some r) b e = cc

no-refusal : (k : Bool) (r : ConfigRefusal) (x : Option ConfigRefusal) → (if k then Some r else x) ≡ None → k ≡ false
no-refusal true r x e = cc
no-refusal false r x e = refl

or-left : (a b : Bool) → (a || b) ≡ false → a ≡ false
or-left true b e = e
or-left false b e = refl

or-right : (a b : Bool) → (a || b) ≡ false → b ≡ false
or-right true b e = cc
or-right false b e = e

not-more : (n k : ℕ) → nat_lt n k ≡ false → k ≤ n
not-more n k e = grind (arith, nat_tests)

few : (octets : List ℕ) → values.is_bad_selector octets ≡ false → length octets ≤ 16
few octets h = not-more 16 (length octets) (or-right (nat_eq (length octets) 0) (nat_lt 16 (length octets)) h)

selector-fits : (code : ℕ) (octets : List ℕ) → length octets ≤ 16 → length (flat_map parameter (selector_parameter code octets)) ≤ 18
selector-fits code [] h = omega arith
selector-fits code (x ∷ xs) h = let n = length-append (code ∷ length (x ∷ xs) ∷ x ∷ xs) [] in omega arith

request-fits : (ours theirs : List ℕ) → length ours ≤ 16 → length theirs ≤ 16 → HasRoom (request_ends 1 (Some 10) ours theirs)
request-fits ours theirs p q =
    let xs : List ℕ = flat_map parameter (selector_parameter 193 ours) in
    let ys : List ℕ = flat_map parameter (selector_parameter 194 theirs) in
    let a : length xs ≤ 18 = selector-fits 193 ours p in
    let b : length ys ≤ 18 = selector-fits 194 theirs q in
    let joined : flat_map parameter (selector_parameter 193 ours ++ selector_parameter 194 theirs) ≡ xs ++ ys = flat_map-append parameter (selector_parameter 193 ours) (selector_parameter 194 theirs) in
    let n = length-append xs ys in
    let short : length (flat_map parameter (selector_parameter 193 ours ++ selector_parameter 194 theirs)) ≤ 36 = subst (λ zs. length zs ≤ 36) (sym joined) (omega (arith, a, b, n)) in
    omega (arith, short)

pub request_stands : (config : Config) → config_refusal config ≡ None → HasRoom (request_ends 1 (Some 10) config.calling config.called)
request_stands config h =
    let early = none-first (early_refusal config) (late_refusal config) h in
    let rest = none-second (context_refusal (bad_context config.mode [] config.contexts) (length config.contexts)) (values.bare_config_refusal config) early in
    let selectors = no-refusal (values.is_bad_selector config.calling || values.is_bad_selector config.called) config_refusals.BadSelector _ rest in
    request-fits config.calling config.called (few config.calling (or-left (values.is_bad_selector config.calling) (values.is_bad_selector config.called) selectors))
    (few config.called (or-right (values.is_bad_selector config.calling) (values.is_bad_selector config.called) selectors))

-- ---- what a call makes due may be written

at_once_stands : (mode : Mode) (body : Body) (on : Option ℕ) (apdu : Apdu) → AllMayStand (sent_at_once mode body on apdu)
at_once_stands Reliable body on apdu = tt
at_once_stands Direct body None apdu = tt
at_once_stands Bare body None apdu = tt
at_once_stands Direct body (Some id) apdu = (tt, tt)
at_once_stands Bare body (Some id) apdu = (tt, tt)

invoke_stands : (b : Base) (body : Body) (context : ℕ) (id : ℤ) (linked : Option ℤ) (operation : Option Operation) (argument : Option Val) → AllMayStand (due_invoke b body context id linked operation argument)
invoke_stands b body context id linked None argument = tt
invoke_stands b body context id linked (Some operation) argument = at_once_stands b.mode body (Some context) (invoke_apdu operation id linked argument)

outcome_stands : (b : Base) (body : Body) (o : Option OpenCall) (apdu : Option Apdu) → AllMayStand (due_outcome b body o apdu)
outcome_stands b body None apdu = tt
outcome_stands b body (Some o) None = tt
outcome_stands b body (Some o) (Some apdu) = at_once_stands b.mode body (carrier_in b body o.context) apdu

give_stands : (mode : Mode) → AllMayStand (give_message mode ∷ [])
give_stands Reliable = (tt, tt)
give_stands Direct = (tt, tt)
give_stands Bare = (tt, tt)

please_stands : (body : Body) (mode : Mode) (priority : ℕ) → AllMayStand (please_message body mode priority ∷ [])
please_stands body Reliable priority = (tt, tt)
please_stands body Direct priority = (tt, tt)
please_stands body Bare priority = (tt, tt)

abort_stands : (body : Body) (k : Bool) → AllMayStand (if k then user_abort body.link.accepted 0 [] ∷ [] else [])
abort_stands body true = (tt, tt)
abort_stands body false = tt

module _ (b : Base) (body : Body) (room : HasRoom (request_ends 1 (Some 10) b.config.calling b.config.called)) where
  accepted_stands : (call : Call) (answer : Option ℤ) → AllMayStand (due_of_accepted b body call answer)
  accepted_stands the_calls.Open answer = (room, tt)
  accepted_stands (the_calls.Invoke context operation argument linked) (Some id) = invoke_stands b body context id linked (operation_at b.tables operation) argument
  accepted_stands (the_calls.Invoke context operation argument linked) None = tt
  accepted_stands (the_calls.Answer id result) answer = outcome_stands b body (opened_with false id body.calls.opens) (result_in b body id result)
  accepted_stands (the_calls.Refuse id error parameter) answer = outcome_stands b body (opened_with false id body.calls.opens) (error_for id parameter (error_at b.tables error))
  accepted_stands (the_calls.Alter add delete) answer = (tt, tt)
  accepted_stands the_calls.Mark answer = (tt, tt)
  accepted_stands the_calls.Give answer = give_stands b.mode
  accepted_stands (the_calls.Please priority) answer = please_stands body b.mode priority
  accepted_stands (the_calls.Resync n) answer = (tt, tt)
  accepted_stands the_calls.Interrupt answer = (tt, tt)
  accepted_stands the_calls.Resume answer = (tt, tt)
  accepted_stands the_calls.Discard answer = (tt, tt)
  accepted_stands the_calls.Recover answer = (room, tt)
  accepted_stands the_calls.Release answer = (tt, tt)
  accepted_stands the_calls.Abort answer = abort_stands body (is_carrying body.link.stage)

  pub due_stands : (call : Call) (reply : Reply) → AllMayStand (due_of b body call reply)
  due_stands call (Ok answer) = accepted_stands call answer
  due_stands call (Err refusal) = tt

-- as the code comes by it
pub called_stands : (old : EndView) (new : EndView) (call : Call) (c : call_outcomes.AcceptedCall) → config_refusal old.config ≡ None → AcceptedSo old new call c → AllMayStand (sent_by c)
called_stands old new call c h a = subst AllMayStand (sym a.due) (due_stands (base old) old.end.body (request_stands old.config h) call (Ok c.answer))

-- ---- a call that was accepted

module _ (old changed now : EndView) (call : Call) (c : call_outcomes.AcceptedCall) (a : AcceptedSo old changed call c) (s : now ≡ sending (sent_by c) changed) where
  abbrev b : Base
  b = base old

  abbrev steps : List Step
  steps = call_steps b old.end.body call

  abbrev due : List Message
  due = sent_by c

  due_is : due ≡ due_of b old.end.body call (can_call b old.end.body call)
  due_is = a.due ∙ ap (due_of b old.end.body call) (sym a.answer)

  now_is : now ≡ sending due (with_body (after_steps b old.end.body steps) old)
  now_is = s ∙ ap (sending due) a.new_is

  line_is : (after_all b old.end steps).line ≡ waiting_with b due old.end.line
  line_is =
      sent_line b (after b old.end (called call (can_call b old.end.body call))) (due_of b old.end.body call (can_call b old.end.body call))
      ∙ ap (λ (xs : List Message). waiting_with b xs old.end.line) (sym due_is)

  end_is : record { body = after_steps b old.end.body steps; line = waiting_with b due old.end.line } ≡ after_all b old.end steps
  end_is = λ i. record { body = sym (body_after b old.end steps) i; line = sym line_is i }

  pub call_made : Stepped old now steps
  call_made = record {
    tables = ap (λ (e : EndView). e.tables) now_is;
    config = ap (λ (e : EndView). e.config) now_is;
    end = ap (λ (e : EndView). e.end) now_is ∙ end_is;
  }

  -- what is so of the body that the call leaves
  led_back : (P : Base → Body → Type 0) → P (base now) now.end.body → P b (after_all b old.end steps).body
  led_back P p = subst (λ (e : End). P b e.body) call_made.end (subst (λ (x : Base). P x now.end.body) (same_base old now steps call_made) p)

  pub answered : (new : EndView) → DidOwn now new → Answered old new call (Ok c.answer)
  answered new d =
      let all : Stepped old new (steps ++ d.own) = stepped_on old now new steps d.own call_made d.made in
      record {
        reply_is = sym a.answer;
        steps = steps ++ d.own;
        makes = record {
          own = d.own;
          all = refl;
          by_itself = subst (λ (r : Reply). OwnAfter b r (after_all b old.end steps).body d.own) (sym a.answer) (led_back (λ (x : Base) (body : Body). ByItself x body d.own) d.by_itself);
        };
        made = all;
        stands = stands_on old new (steps ++ d.own) all;
      }

  pub began_own : (new : EndView) → BeganOwn now new → BeganCall old new call
  began_own new d = record {
    tables = d.tables ∙ call_made.tables;
    config = d.config ∙ call_made.config;
    steps = steps ++ d.own;
    begins = made d.own (led_back (λ (x : Base) (body : Body). BeginsByItself x body d.own) d.begins);
    due = d.due ∙ ap (λ (e : End). e.line.waiting)
        (ap (λ (x : Base). after_all x now.end d.own) (same_base old now steps call_made) ∙ ap (λ (e : End). after_all b e d.own) call_made.end ∙ sym (after_all-append b old.end steps d.own));
  }

-- ---- refusals, and want of memory

pub began_nothing : (old new : EndView) (call : Call) → Keeps old new → BeganCall old new call
began_nothing old new call k = record { tables = k.tables; config = k.config; steps = []; begins = nothing_made; due = k.waiting }

refused_body : (body : Body) (refusal : CallRefusal) → is_memory (Err refusal) ≡ false → after_refused body refusal ≡ body
refused_body body refusals.NoMemory e = cc
refused_body body refusal e = refl

pub refused : (old new : EndView) (call : Call) (refusal : CallRefusal) → is_memory (Err refusal) ≡ false → RefusedSo old new call refusal → Answered old new call (Err refusal)
refused old new call refusal m r =
    let b : Base = base old in
    let steps : List Step = call_steps b old.end.body call ++ [] in
    let steps_are : called call (Err refusal) ∷ [] ≡ steps
    = ap (λ (reply : Reply). called call reply ∷ map sent (due_of b old.end.body call reply)) (sym r.answer) ∙ sym (append-nil (call_steps b old.end.body call)) in
    let body_is : old.end.body ≡ after_call b old.end.body call (Err refusal) = sym (refused_body old.end.body refusal m) in
    let made_so : Stepped old new steps = record {
      tables = ap (λ (e : EndView). e.tables) r.same;
      config = ap (λ (e : EndView). e.config) r.same;
      end = ap (λ (e : EndView). e.end) r.same ∙ ap (λ (x : Body). record old.end { body = x }) body_is ∙ ap (after_all b old.end) steps_are;
    } in
    record {
      reply_is = sym r.answer;
      steps = steps;
      makes = record { own = []; all = refl; by_itself = subst (λ (reply : Reply). OwnAfter b reply (after_all b old.end (call_steps b old.end.body call)).body []) (sym r.answer) refl };
      made = made_so;
      stands = stands_on old new steps made_so;
    }

pub refused_answers : (old new : EndView) (call : Call) (refusal : CallRefusal) → ChangedBy old new call (Err refusal) → AnswersCall old new call (Err refusal)
refused_answers old new call refusals.NoMemory k = began_nothing old new call k
refused_answers old new call refusal r = refused old new call refusal refl r

-- and then the end is dead
pub died_called : (old now new : EndView) (call : Call) → BeganCall old now call → new.tables ≡ now.tables → new.config ≡ now.config → new.end.line.waiting ≡ now.end.line.waiting → new.end.body.link.phase ≡ Dead → DiedCalled old new call
died_called old now new call g t c w p = record {
  began = record {
    tables = t ∙ g.tables;
    config = c ∙ g.config;
    steps = g.steps;
    begins = g.begins;
    due = w ∙ g.due;
  };
  phase = p;
}

-- ---- a call that is accepted is made by an end that isn't over

chosen : (k : Bool) (r : CallRefusal) (x : Reply) (answer : Option ℤ) → (if k then Err r else x) ≡ Ok answer → (k ≡ false) × (x ≡ Ok answer)
chosen true r x answer e = absurd cc
chosen false r x answer e = (refl, e)

over_refused : (call : Call) → is_phase_for call Over ≡ false
over_refused the_calls.Open = refl
over_refused the_calls.Recover = refl
over_refused the_calls.Abort = refl
over_refused call = refl

phase_up : (call : Call) (phase : Phase) → is_dead phase ≡ false → not (is_phase_for call phase) ≡ false → passes_over phase ≡ false
phase_up call Over d p = sym (ap not (over_refused call)) ∙ p
phase_up call Dead d p = d
phase_up call phase d p = refl

module _ (b : Base) (body : Body) (call : Call) where
  abbrev by_mode : Reply
  by_mode = if is_bare b.mode && not (is_of_bare_mode call) then Err refusals.NotNegotiated else can_by_rows b body call

  abbrev by_phase : Reply
  by_phase = if not (is_phase_for call body.link.phase) then Err (refusals.WrongPhase body.link.phase) else by_mode

  abbrev by_side : Reply
  by_side = if is_initiators call && not b.initiator then Err refusals.NotInitiator else by_phase

  pub accepted_up : (answer : Option ℤ) → can_call b body call ≡ Ok answer → passes_over body.link.phase ≡ false
  accepted_up answer e =
      let alive = chosen (is_dead body.link.phase) refusals.Dead by_side answer e in
      let mine = chosen (is_initiators call && not b.initiator) refusals.NotInitiator by_phase answer alive.1 in
      let timely = chosen (not (is_phase_for call body.link.phase)) (refusals.WrongPhase body.link.phase) by_mode answer mine.1 in
      phase_up call body.link.phase alive.0 timely.0

-- ---- what a call changes

pub changed_so : (e : EndView) (body : Body) (call : Call) (r : Result call_outcomes.AcceptedCall CallRefusal) → CalledAs (base e) e.end.body body call r → ChangedBy e (with_body body e) call r
changed_so e body call (Ok c) a = record { answer = a.answer; due = a.due; new_is = ap (λ (x : Body). with_body x e) a.body }
changed_so e body call (Err refusals.NoMemory) a = record { tables = refl; config = refl; waiting = refl }
changed_so e body call (Err refusal) a = record { answer = a.answer; same = ap (λ (x : Body). with_body x e) a.body }

pub changed_sound : (e : EndView) (body : Body) (call : Call) (r : Result call_outcomes.AcceptedCall CallRefusal) → IsSoundEnd e → wants_memory r ≡ false → CalledAs (base e) e.end.body body call r → IsSoundEnd (with_body body e)
changed_sound e body call (Ok c) s w a = sound_body e body s (up_some e s (accepted_up (base e) e.end.body call c.answer a.answer))
changed_sound e body call (Err refusals.NoMemory) s w a = absurd cc
changed_sound e body call (Err refusal) s w a = sound_same e body s (ap (λ (x : Body). x.link.phase) a.body)

-- where memory was refused
pub memory_changed : (old new : EndView) (call : Call) (r : Result call_outcomes.AcceptedCall CallRefusal) → wants_memory r ≡ true → Keeps old new → ChangedBy old new call r
memory_changed old new call (Ok c) w k = absurd cc
memory_changed old new call (Err refusals.NoMemory) w k = k
memory_changed old new call (Err refusal) w k = absurd cc

pub changed_room : (old new : EndView) (call : Call) (r : Result call_outcomes.AcceptedCall CallRefusal) → config_refusal old.config ≡ None → ChangedBy old new call r → IfOk r (λ c. AllMayStand (sent_by c))
changed_room old new call (Ok c) h a = called_stands old new call c h a
changed_room old new call (Err refusal) h a = tt

-- a message that couldn't be put behind what waits
pub kept_changed : (old changed new : EndView) (call : Call) (c : call_outcomes.AcceptedCall) → AcceptedSo old changed call c → new ≡ changed → BeganCall old new call
kept_changed old changed new call c a n =
    began_nothing old new call (kept_body old changed new (after_steps (base old) old.end.body (call_steps (base old) old.end.body call)) a.new_is (kept_same changed new n))

-- ---- where memory was refused the end is dead

pub dead_so : (k : Bool) (P Q D R : Type 0) → k ≡ true → (P → D) → MatchBool k P Q → MatchBool k D R
dead_so true P Q D R e f h = f h
dead_so false P Q D R e f h = absurd cc

pub alive_so : (k : Bool) (P Q D : Type 0) → k ≡ false → MatchBool k P Q → MatchBool k D Q
alive_so true P Q D e h = absurd cc
alive_so false P Q D e h = h
