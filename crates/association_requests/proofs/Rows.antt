-- A call does what its rows say.
use Rattle.std.proofs.Common.{◌≡◌, ℤ, false, List, ◌∷◌, map, Option, Result, Ok, Err, refl, sym, ap, ◌∙◌}
use Rattle.dialogue.specs.declared.call.Call.{Call}
use Rattle.dialogue.specs.declared.call.Call.TheVariants as the_calls
use Rattle.dialogue.specs.declared.call.CallRefusal.{CallRefusal}
use Rattle.dialogue.specs.declared.call.CallRefusal.TheVariants.{NoMemory}
use Rattle.end_rules.specs.Base.{Base}
use Rattle.end_rules.specs.Messages.{Message}
use Rattle.end_rules.specs.State.{Body}
use Rattle.end_rules.specs.Invoking.{Reply}
use Rattle.end_rules.specs.Calling.{is_of_bare_mode, can_by_rows, can_call}
use Rattle.end_rules.specs.Requesting.{due_of, after_accepted, due_of_accepted}
use Rattle.end_rules.specs.History.{called, sent, after_steps, call_steps}
use Rattle.association_hearing.specs.association_calls.Replies.{Replies}
use Rattle.association_requests.specs.declared.accepted_call.AcceptedCall.{AcceptedCall}
use Rattle.association_requests.specs.Called.{sent_by, CalledAs, MadeAs, MadeOrLeft, IsDue}

-- ---- a call whose first rows were asked

pub refused_first : (base : Base) (old : Body) (call : Call) (refusal : CallRefusal) → can_call base old call ≡ Err refusal → CalledAs base old old call (Err refusal)
refused_first base old call NoMemory h = tt
refused_first base old call refusal h = record { answer = h; body = refl }

-- the steps of a call that is answered so
steps_so : (base : Base) (old : Body) (call : Call) (reply : Reply) → can_call base old call ≡ reply
    → after_steps base old (call_steps base old call) ≡ after_steps base old (called call reply ∷ map sent (due_of base old call reply))
steps_so base old call reply e = ap (λ (r : Reply). after_steps base old (called call r ∷ map sent (due_of base old call r))) e

pub by_rows : (base : Base) (old new : Body) (call : Call) (r : Result AcceptedCall CallRefusal) → can_call base old call ≡ can_by_rows base old call
    → MadeOrLeft (can_by_rows base old call) base old new call r → CalledAs base old new call r
by_rows base old new call (Ok made) e h =
    record { answer = e ∙ h.answer; due = h.due; body = h.body ∙ sym (steps_so base old call (Ok made.answer) (e ∙ h.answer)) }
by_rows base old new call (Err NoMemory) e h = tt
by_rows base old new call (Err refusal) e h = record { answer = e ∙ h.answer; body = h.body }

-- ---- a call that isn't one of remote operations

pub refused_due : (can : Reply) (base : Base) (old : Body) (call : Call) (due : List Message) (refusal : CallRefusal) → IsDue can due (Err refusal) → MadeOrLeft can base old old call (Err refusal)
refused_due can base old call due NoMemory h = tt
refused_due can base old call due refusal h = record { answer = h; body = refl }

pub made_so : (can : Reply) (base : Base) (old mid new : Body) (call : Call) (made : AcceptedCall) → ((answer : Option ℤ) → IsDue can (due_of_accepted base old call answer) (Ok made))
    → ((answer : Option ℤ) → mid ≡ after_accepted base old call answer) → new ≡ after_steps base mid (map sent (sent_by made)) → MadeAs can base old new call made
made_so can base old mid new call made due begun sending =
    let d = due made.answer in
    let b = begun made.answer in
    let s : sent_by made ≡ due_of_accepted base old call made.answer = d.1 in
    record { answer = d.0; due = s; body = sending ∙ (λ i. after_steps base (b i) (map sent (s i))) }

-- what else such a call changes at once is nothing
pub unchanged : (base : Base) (old : Body) (call : Call) (answer : Option ℤ) → is_of_bare_mode call ≡ false
    → (call ≡ the_calls.Open → ⊥) → (call ≡ the_calls.Recover → ⊥) → (call ≡ the_calls.Abort → ⊥) → old ≡ after_accepted base old call answer
unchanged base old the_calls.Open answer h a b c = absurd (a refl)
unchanged base old the_calls.Recover answer h a b c = absurd (b refl)
unchanged base old the_calls.Abort answer h a b c = absurd (c refl)
unchanged base old (the_calls.Invoke context operation argument linked) answer h a b c = absurd cc
unchanged base old (the_calls.Answer id result) answer h a b c = absurd cc
unchanged base old (the_calls.Refuse id error parameter) answer h a b c = absurd cc
unchanged base old (the_calls.Alter add delete) answer h a b c = refl
unchanged base old the_calls.Mark answer h a b c = refl
unchanged base old the_calls.Give answer h a b c = refl
unchanged base old (the_calls.Please priority) answer h a b c = refl
unchanged base old (the_calls.Resync n) answer h a b c = refl
unchanged base old the_calls.Interrupt answer h a b c = refl
unchanged base old the_calls.Resume answer h a b c = refl
unchanged base old the_calls.Discard answer h a b c = refl
unchanged base old the_calls.Release answer h a b c = refl

-- ---- rows

pub refused_by : (can : Reply) (due : List Message) (refusal : CallRefusal) → Replies can (Err refusal) → IsDue can due (Err refusal)
refused_by can due NoMemory h = tt
refused_by can due refusal h = h

pub refused_is : (can : Reply) (due : List Message) (refusal : CallRefusal) → can ≡ Err refusal → IsDue can due (Err refusal)
refused_is can due NoMemory h = tt
refused_is can due refusal h = h
