-- What an end of an association does: with octets that come, however they are cut; at a call; and by itself after both.
use Rattle.std.specs.Prelude.{◌≡◌, ℕ, List, [], ◌∷◌, ◌++◌, map, true, false, Option, Some, None, Result, Ok, Err}
use Rattle.dialogue.specs.declared.call.Call.{Call}
use Rattle.dialogue.specs.declared.indication.Indication.{Indication}
use Rattle.association_reading.specs.end_rules.Base.{Base, Fault}
use Rattle.association_reading.specs.end_rules.Messages.{Message, Transport, Session, Word}
use Rattle.association_reading.specs.end_rules.State.{Body, passes_over}
use Rattle.association_reading.specs.end_rules.Invoking.{Reply}
use Rattle.association_reading.specs.end_rules.Calling.{can_call}
use Rattle.association_reading.specs.end_rules.ByItself.{OwnAct, next_own}
use Rattle.association_reading.specs.end_rules.Reacting.{Passes, Takes, Fails}
use Rattle.association_reading.specs.end_rules.History.{Step, fed, took, answered, passed, fault, aborted, feed_end, step_of, ByItself, call_steps, after_step}
use Rattle.association_reading.specs.Front.{Front, Short, OfTransport, OfSession, Faulty, Intake, first_in}
use Rattle.association_reading.specs.Meaning.{meaning}
use Rattle.association_reading.specs.Reacting.{react_to}
use Rattle.association_line.specs.Line.{End, after, after_all}

-- ---- what stands first, as a message under the sets of the end

abbrev pub word_in : Result Word Fault → Option Message
word_in (Ok word) = Some (Session word)
word_in (Err f) = None

abbrev pub message_in : Base → Body → Front → Option Message
message_in base body Short = None
message_in base body (OfTransport unit) = Some (Transport unit)
message_in base body (OfSession unit start) = word_in (meaning base body unit start)
message_in base body (Faulty layer at) = None

-- ---- steps

-- a message that is taken, and the answers to it
abbrev pub taking : Message → List Message → List Step
taking message answers = took message ∷ map (answered message) answers

-- a fault, and the abort that is sent for it, if any is
abbrev pub failing : Fault → List Message → List Step
failing f aborts = fault f.layer f.place f.reason ∷ map aborted aborts

-- ---- reading

-- From the end, reacting to what came makes these steps, and shows these indications.
pub data Reads (base : Base) : End → List Step → List Indication → Type 0 where
  -- An end that is over passes over what comes.
  is_over : {end : End} → passes_over end.body.link.phase ≡ true → Reads base end [] []
  -- Less than a message waits for more.
  waits : {end : End} (intake : Intake) → passes_over end.body.link.phase ≡ false → end.line.came ≡ Some intake
      → first_in intake ≡ Short → Reads base end [] []
  -- A message that can't settle an own unanswered request is passed over.
  passes : {end : End} {steps : List Step} {shown : List Indication} (intake : Intake)
      → passes_over end.body.link.phase ≡ false → end.line.came ≡ Some intake
      → react_to base end.body (first_in intake) ≡ Some Passes
      → Reads base (after base end passed) steps shown
      → Reads base end (passed ∷ steps) shown
  -- A message is taken, and answered at once.
  takes : {end : End} {steps : List Step} {shown : List Indication} (intake : Intake) (message : Message) (body : Body) (answers : List Message) (told : List Indication)
      → passes_over end.body.link.phase ≡ false → end.line.came ≡ Some intake
      → message_in base end.body (first_in intake) ≡ Some message
      → react_to base end.body (first_in intake) ≡ Some (Takes body answers told)
      → Reads base (after_all base end (taking message answers)) steps shown
      → Reads base end (taking message answers ++ steps) (told ++ shown)
  -- A fault ends the association.
  fails : {end : End} (intake : Intake) (f : Fault) (body : Body) (aborts : List Message) (told : List Indication)
      → passes_over end.body.link.phase ≡ false → end.line.came ≡ Some intake
      → react_to base end.body (first_in intake) ≡ Some (Fails f body aborts told)
      → Reads base end (failing f aborts) told

-- ---- feeds and calls

-- Feeding these octets makes these steps, and shows these indications: what came is reacted to, and then the end does all
-- that it does by itself.
pub record Feeds (base : Base) (end : End) (octets : List ℕ) (steps : List Step) (shown : List Indication) : Type 0 where
  pub reading : List Step
  pub own : List Step
  pub all : steps ≡ fed octets ∷ (reading ++ feed_end ∷ own)
  pub reads : Reads base (after base end (fed octets)) reading shown
  pub by_itself : ByItself base (after_all base (after base end (fed octets)) reading).body own

-- after an accepted call the end does all that it does by itself, after a refused one nothing
abbrev pub OwnAfter : Base → Reply → Body → List Step → Type 0
OwnAfter base (Ok answer) body own = ByItself base body own
OwnAfter base (Err refusal) body own = own ≡ []

-- A call makes these steps: its answer and what is due for it, and what the end then does by itself.
pub record Makes (base : Base) (end : End) (call : Call) (steps : List Step) : Type 0 where
  pub own : List Step
  pub all : steps ≡ call_steps base end.body call ++ own
  pub by_itself : OwnAfter base (can_call base end.body call) (after_all base end (call_steps base end.body call)).body own

-- ---- beginnings: what was done where memory was refused in between

-- From the body, an end begins to do this by itself.
pub data BeginsByItself (base : Base) : Body → List Step → Type 0 where
  nothing_done : {body : Body} → BeginsByItself base body []
  one_done : {body : Body} {steps : List Step} (act : OwnAct) → next_own base body ≡ Some act
      → BeginsByItself base (after_step base body (step_of act)) steps → BeginsByItself base body (step_of act ∷ steps)

-- From the end, reacting to what came begins with these steps.
pub data Begins (base : Base) : End → List Step → Type 0 where
  nothing_read : {end : End} → Begins base end []
  one_passed : {end : End} {steps : List Step} (intake : Intake)
      → passes_over end.body.link.phase ≡ false → end.line.came ≡ Some intake
      → react_to base end.body (first_in intake) ≡ Some Passes
      → Begins base (after base end passed) steps → Begins base end (passed ∷ steps)
  one_taken : {end : End} {steps : List Step} (intake : Intake) (message : Message) (body : Body) (answers : List Message) (told : List Indication)
      → passes_over end.body.link.phase ≡ false → end.line.came ≡ Some intake
      → message_in base end.body (first_in intake) ≡ Some message
      → react_to base end.body (first_in intake) ≡ Some (Takes body answers told)
      → Begins base (after_all base end (taking message answers)) steps → Begins base end (taking message answers ++ steps)
  one_failed : {end : End} {steps : List Step} (intake : Intake) (f : Fault) (body : Body) (aborts : List Message) (told : List Indication)
      → passes_over end.body.link.phase ≡ false → end.line.came ≡ Some intake
      → react_to base end.body (first_in intake) ≡ Some (Fails f body aborts told)
      → Begins base (after_all base end (failing f aborts)) steps → Begins base end (failing f aborts ++ steps)
  all_read : {end : End} {steps : List Step} → Reads base end [] [] → BeginsByItself base end.body steps → Begins base end (feed_end ∷ steps)
