-- Histories: the steps of one end, newest first, and what they say of it. What it holds are its body and its line:
-- the octets that wait to be given out, and what came and isn't reacted to yet.
use Rattle.std.specs.Prelude.{◌≡◌, ℕ, List, [], ◌∷◌, map, false, if◌then◌else◌, Some, None}
use Rattle.osi_base.specs.declared.layer_words.Layer.{Layer}
use Rattle.dialogue.specs.declared.call.Call.{Call}
use Rattle.dialogue.specs.declared.config.Mode.{Mode}
use Rattle.dialogue.specs.declared.config.Mode.TheVariants.{Bare, Direct, Reliable}
use Rattle.dialogue.specs.declared.config.Phase.{Phase}
use Rattle.dialogue.specs.declared.config.Phase.TheVariants.{Idle, Opening, Broken, Over, Dead}
use Rattle.end_rules.specs.Base.{Base, is_reliable}
use Rattle.end_rules.specs.Messages.{Message, Transport, Session}
use Rattle.end_rules.specs.State.{Body, Unused, NoAnswer, Suspended, Transfer, cut_all, new_body, on_transfer}
use Rattle.end_rules.specs.Invoking.{Reply}
use Rattle.end_rules.specs.Calling.{can_call}
use Rattle.end_rules.specs.Faults.{over}
use Rattle.end_rules.specs.TakesTransport.{after_transport}
use Rattle.end_rules.specs.Requesting.{after_call, due_of, after_sent}
use Rattle.end_rules.specs.ByItself.{OwnAct, SendsNow, EncodesOn, next_own, encoding}
use Rattle.end_rules.specs.Reacting.{after_word}

pub data Step : Type 0 where
  -- a call was answered
  called : Call → Reply → Step
  -- a request was sent, by a call or by the end itself
  sent : Message → Step
  -- the item of the current transfer was encoded on this context
  encoded : ℕ → Step
  -- octets came
  fed : List ℕ → Step
  -- a message was taken
  took : Message → Step
  -- the answer to a message that was taken was sent
  answered : (to : Message) → (answer : Message) → Step
  -- a message was passed over while an own request was unanswered
  passed : Step
  -- a fault, with its layer, place and reason, and the abort that was sent for it
  fault : Layer → ℕ → ℕ → Step
  aborted : Message → Step
  -- all that came was reacted to
  feed_end : Step
  -- so many octets were given out
  gave : ℕ → Step
  -- the connection broke
  broke : Step

abbrev pub History : Type 0
History = List Step

-- ---- the body

-- a taking with what it answers
abbrev pub after_taken : Base → Body → Message → Body
after_taken base body (Transport unit) = after_transport base body unit
after_taken base body (Session word) = after_word base body word

-- the phase after a break (this project's own rule)
abbrev pub broken_phase : Mode → Phase → Phase
broken_phase mode Idle = Idle
broken_phase mode Over = Over
broken_phase mode Dead = Dead
broken_phase mode Opening = Over
broken_phase Reliable phase = Broken
broken_phase Direct phase = Over
broken_phase Bare phase = Over

-- nothing went over the next connection, and nothing is awaited; a transfer in progress is suspended
abbrev pub off_line : Base → Body → Body
off_line base body =
    record (on_transfer (λ (t : Transfer). record t { progress = Suspended }) body) {
      link = record body.link { phase = broken_phase base.mode body.link.phase; stage = Unused; gave = false; awaits = NoAnswer };
      receiving = record body.receiving { active = false };
    }

-- out of reliable mode the open invocations are cut
abbrev pub after_broke : Base → Body → Body
after_broke base body = if is_reliable base.mode then off_line base body else cut_all (off_line base body)

abbrev pub after_step : Base → Body → Step → Body
after_step base body (called call reply) = after_call base body call reply
after_step base body (sent message) = after_sent base.mode body message
after_step base body (encoded context) = encoding base context body
after_step base body (fed octets) = body
after_step base body (took message) = after_taken base body message
after_step base body (answered to answer) = body
after_step base body passed = body
after_step base body (fault layer place reason) = over body
after_step base body (aborted message) = body
after_step base body feed_end = body
after_step base body (gave n) = body
after_step base body broke = after_broke base body

-- what a history says of the body of an end
abbrev pub body_of : Base → History → Body
body_of base [] = new_body base
body_of base (x ∷ h) = after_step base (body_of base h) x

-- ---- the steps of a call, and those that an end makes by itself

abbrev pub step_of : OwnAct → Step
step_of (SendsNow message) = sent message
step_of (EncodesOn context) = encoded context

abbrev pub after_steps : Base → Body → List Step → Body
after_steps base body [] = body
after_steps base body (x ∷ xs) = after_steps base (after_step base body x) xs

-- From the body, an end makes these steps by itself: each the next, until there is none.
pub data ByItself (base : Base) : Body → List Step → Type 0 where
  rests : {body : Body} → next_own base body ≡ None → ByItself base body []
  goes : {body : Body} {steps : List Step} (act : OwnAct) → next_own base body ≡ Some act
      → ByItself base (after_step base body (step_of act)) steps → ByItself base body (step_of act ∷ steps)

-- the answer, and the messages that the call makes due
abbrev pub call_steps : Base → Body → Call → List Step
call_steps base body call =
    let reply = can_call base body call in called call reply ∷ map sent (due_of base body call reply)
