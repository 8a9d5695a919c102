-- What a call changes before its message is sent. No public clause cites this module.
use Rattle.std.specs.Prelude.{◌≡◌, Bool, true, false, Result, Ok, Err}
use Rattle.dialogue.specs.declared.call.Call.{Call}
use Rattle.dialogue.specs.declared.call.CallRefusal.{CallRefusal}
use Rattle.dialogue.specs.declared.call.CallRefusal.TheVariants.{NoMemory}
use Rattle.end_rules.specs.Calling.{can_call}
use Rattle.end_rules.specs.Requesting.{due_of}
use Rattle.end_rules.specs.History.{after_steps, call_steps}
use Rattle.association_requests.specs.declared.accepted_call.AcceptedCall.{AcceptedCall}
use Rattle.association_requests.specs.Called.{sent_by}
use Rattle.association_end.specs.View.{EndView, base}
use Rattle.association_end.specs.Progress.{Keeps}
use Rattle.association_end.specs.OneMessage.{with_body}

pub record AcceptedSo (old new : EndView) (call : Call) (called : AcceptedCall) : Type 0 where
  pub answer : can_call (base old) old.end.body call ≡ Ok called.answer
  pub due : sent_by called ≡ due_of (base old) old.end.body call (Ok called.answer)
  pub new_is : new ≡ with_body (after_steps (base old) old.end.body (call_steps (base old) old.end.body call)) old

pub record RefusedSo (old new : EndView) (call : Call) (refusal : CallRefusal) : Type 0 where
  pub answer : can_call (base old) old.end.body call ≡ Err refusal
  pub same : new ≡ old

-- memory was refused
abbrev pub wants_memory : Result AcceptedCall CallRefusal → Bool
wants_memory (Ok called) = false
wants_memory (Err NoMemory) = true
wants_memory (Err refusal) = false

abbrev pub ChangedBy : EndView → EndView → Call → Result AcceptedCall CallRefusal → Type 0
ChangedBy old new call (Ok called) = AcceptedSo old new call called
ChangedBy old new call (Err NoMemory) = Keeps old new
ChangedBy old new call (Err refusal) = RefusedSo old new call refusal
