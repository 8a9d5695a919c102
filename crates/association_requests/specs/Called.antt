-- What a call did, as the rules have it.
use Rattle.std.specs.Prelude.{◌≡◌, ℤ, List, map, Option, option_map, Result, Ok, Err}
use Rattle.dialogue.specs.declared.call.Call.{Call}
use Rattle.dialogue.specs.declared.call.CallRefusal.{CallRefusal}
use Rattle.dialogue.specs.declared.call.CallRefusal.TheVariants.{NoMemory}
use Rattle.end_rules.specs.Base.{Base}
use Rattle.end_rules.specs.Messages.{Message}
use Rattle.end_rules.specs.State.{Body}
use Rattle.end_rules.specs.Invoking.{Reply}
use Rattle.end_rules.specs.Calling.{can_call}
use Rattle.end_rules.specs.Requesting.{due_of, after_accepted, due_of_accepted}
use Rattle.end_rules.specs.History.{sent, after_steps, call_steps}
use Rattle.association_words.specs.Seen.{seen_message}
use Rattle.association_hearing.specs.association_sends.Due.{listed}
use Rattle.association_requests.specs.declared.accepted_call.AcceptedCall.{AcceptedCall}

-- what was sent
abbrev pub sent_by : AcceptedCall → List Message
sent_by called = listed (option_map seen_message called.message)

-- ---- a call of an end

-- the answer, the message that is sent and the body afterwards are those of the rules
pub record AcceptedAs (base : Base) (old new : Body) (call : Call) (called : AcceptedCall) : Type 0 where
  pub answer : can_call base old call ≡ Ok called.answer
  pub due : sent_by called ≡ due_of base old call (Ok called.answer)
  pub body : new ≡ after_steps base old (call_steps base old call)

-- the refusal is that of the rules, and nothing changed
pub record RefusedAs (base : Base) (old new : Body) (call : Call) (refusal : CallRefusal) : Type 0 where
  pub answer : can_call base old call ≡ Err refusal
  pub body : new ≡ old

-- it was accepted or refused as the rules have it, or memory was refused
abbrev pub CalledAs : Base → Body → Body → Call → Result AcceptedCall CallRefusal → Type 0
CalledAs base old new call (Ok called) = AcceptedAs base old new call called
CalledAs base old new call (Err NoMemory) = Unit {0}
CalledAs base old new call (Err refusal) = RefusedAs base old new call refusal

-- ---- what a call does once these rows decide

-- the body once the call was answered so, and its messages were sent
abbrev pub after_made : Base → Body → Call → Option ℤ → Body
after_made base old call answer = after_steps base (after_accepted base old call answer) (map sent (due_of_accepted base old call answer))

pub record MadeAs (can : Reply) (base : Base) (old new : Body) (call : Call) (called : AcceptedCall) : Type 0 where
  pub answer : can ≡ Ok called.answer
  pub due : sent_by called ≡ due_of_accepted base old call called.answer
  pub body : new ≡ after_made base old call called.answer

pub record LeftAs (can : Reply) (old new : Body) (refusal : CallRefusal) : Type 0 where
  pub answer : can ≡ Err refusal
  pub body : new ≡ old

-- a call made as its rows say, or refused by them, which leaves all as it was; or memory was refused
abbrev pub MadeOrLeft : Reply → Base → Body → Body → Call → Result AcceptedCall CallRefusal → Type 0
MadeOrLeft can base old new call (Ok called) = MadeAs can base old new call called
MadeOrLeft can base old new call (Err NoMemory) = Unit {0}
MadeOrLeft can base old new call (Err refusal) = LeftAs can old new refusal

-- the answer of these rows with these messages, or their refusal, or memory was refused
abbrev pub IsDue : Reply → List Message → Result AcceptedCall CallRefusal → Type 0
IsDue can due (Ok called) = (can ≡ Ok called.answer) × (sent_by called ≡ due)
IsDue can due (Err NoMemory) = Unit {0}
IsDue can due (Err refusal) = can ≡ Err refusal
