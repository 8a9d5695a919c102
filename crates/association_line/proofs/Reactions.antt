-- What the rules say of a reaction: the body that is left, and that what is answered is no CR.
use Rattle.std.proofs.Common.{◌≡◌, ℕ, Bool, true, false, not, ◌||◌, List, Option, Some, None, Result, Ok, Err, refl, ap, subst, if◌then◌else◌}
use Rattle.osi_base.specs.declared.session_word.SessionWord.{SessionWord}
use Rattle.osi_base.specs.declared.layer_words.SetItem.{SetItem}
use Rattle.dialogue.specs.declared.indication.Indication.{Indication}
use Rattle.association_reading.specs.end_rules.Base.{Base, Fault, is_bare}
use Rattle.association_reading.specs.end_rules.Messages.{Message, Transport, Session, TransportUnit, Word, unit_of}
use Rattle.association_reading.specs.end_rules.State.{Body, is_joined, is_carrying, passes_over}
use Rattle.association_reading.specs.end_rules.Purging.{is_purged, is_transport_purged}
use Rattle.association_reading.specs.end_rules.InPlace.{is_in_place}
use Rattle.association_reading.specs.end_rules.Faults.{over, abort_of, transport_fault, session_fault}
use Rattle.association_reading.specs.end_rules.TakesTransport.{transport_unit_fault}
use Rattle.association_reading.specs.end_rules.Reacting.{Reaction, Passes, Takes, Fails, fails, word_fault, fault_above, contexts_of_word, on_word, on_transport, react_to_session, react_alive, react}
use Rattle.association_reading.specs.end_rules.History.{after_taken}
use Rattle.association_reading.specs.Front.{Front, Short, OfTransport, OfSession, Faulty}
use Rattle.association_reading.specs.Meaning.{meaning}
use Rattle.association_reading.specs.Reacting.{react_to, has_connection, react_to_unit, on_meaning, contexts_of_unit, grammar_fault}
use Rattle.association_line.specs.Feeding.{message_in, word_in}
use Rattle.association_line.specs.Reactions.{AreAnswers, IsTaken, IsFailed, ReactionsAreSteps}
use Rattle.association_line.proofs.Answers.{either, of_transport, of_word, of_aborts}

-- ---- a message

pub record TakenRight (base : Base) (body : Body) (message : Message) (left : Body) (answers : List Message) : Type 0 where
  pub body_is : left ≡ after_taken base body message
  pub answers_are : AreAnswers answers

abbrev pub IsRight : Base → Body → Message → Reaction → Type 0
IsRight base body message Passes = Unit {0}
IsRight base body message (Takes left answers shown) = TakenRight base body message left answers
IsRight base body message (Fails fault left aborts shown) = IsFailed body left aborts

failed : (body : Body) (accepted : List SetItem) (fault : Fault) → IsFailed body (over body) (abort_of (is_carrying body.link.stage) accepted fault.layer fault.reason)
failed body accepted fault = record { body_is = refl; aborts_are = of_aborts (is_carrying body.link.stage) accepted fault.layer fault.reason }

transport_right : (base : Base) (body : Body) (unit : TransportUnit) (fault : Option Fault) → IsRight base body (Transport unit) (on_transport base body unit fault)
transport_right base body unit (Some fault) = failed body body.link.accepted fault
transport_right base body unit None = record { body_is = refl; answers_are = of_transport base body unit }

word_right : (base : Base) (body : Body) (word : Word) (fault : Option Fault) → IsRight base body (Session word) (on_word base body word fault)
word_right base body word (Some fault) = failed body (contexts_of_word base body word) fault
word_right base body word None = record { body_is = refl; answers_are = of_word base body word }

session_right : (base : Base) (body : Body) (word : Word) (bare : Bool) → IsRight base body (Session word) (react_to_session bare base body word)
session_right base body word true = word_right base body word (fault_above base body word)
session_right base body word false =
    either (IsRight base body (Session word)) (not (is_joined body.link.stage || is_carrying body.link.stage)) (fails body body.link.accepted transport_fault)
    (if is_purged base.initiator body.link.awaits (unit_of word) then Passes else on_word base body word (word_fault base body word))
    (failed body body.link.accepted transport_fault)
    (either (IsRight base body (Session word)) (is_purged base.initiator body.link.awaits (unit_of word)) Passes (on_word base body word (word_fault base body word))
    tt (word_right base body word (word_fault base body word)))

alive_right : (base : Base) (body : Body) (message : Message) → IsRight base body message (react_alive base body message)
alive_right base body (Transport unit) =
    either (IsRight base body (Transport unit)) (is_transport_purged body.link.awaits) Passes (on_transport base body unit (transport_unit_fault base body unit))
    tt (transport_right base body unit (transport_unit_fault base body unit))
alive_right base body (Session word) = session_right base body word (is_bare base.mode)

pub react_right : (base : Base) (body : Body) (message : Message) → IsRight base body message (react base body message)
react_right base body message = either (IsRight base body message) (passes_over body.link.phase) Passes (react_alive base body message) tt (alive_right base body message)

-- ---- what stands first

abbrev pub IsFrontRight : Base → Body → Front → Option Reaction → Type 0
IsFrontRight base body front None = Unit {0}
IsFrontRight base body front (Some Passes) = Unit {0}
IsFrontRight base body front (Some (Takes left answers shown)) = IsTaken base body front left answers
IsFrontRight base body front (Some (Fails fault left aborts shown)) = IsFailed body left aborts

of_message : (base : Base) (body : Body) (front : Front) (message : Message) (r : Reaction) → message_in base body front ≡ Some message → IsRight base body message r → IsFrontRight base body front (Some r)
of_message base body front message Passes e p = tt
of_message base body front message (Takes left answers shown) e p = record { message = message; is = e; body_is = p.body_is; answers_are = p.answers_are }
of_message base body front message (Fails fault left aborts shown) e p = p

abbrev FrontRight : Base → Body → Front → Reaction → Type 0
FrontRight base body front r = IsFrontRight base body front (Some r)

meaning_right : (base : Base) (body : Body) (unit : SessionWord) (start : ℕ) (read : Result Word Fault) → meaning base body unit start ≡ read → FrontRight base body (OfSession unit start) (on_meaning base body unit read)
meaning_right base body unit start (Ok word) e =
    of_message base body (OfSession unit start) (Session word) (react base body (Session word)) (ap word_in e) (react_right base body (Session word))
meaning_right base body unit start (Err fault) e = failed body (contexts_of_unit base body unit) fault

unit_right : (base : Base) (body : Body) (unit : SessionWord) (start : ℕ) → FrontRight base body (OfSession unit start) (react_to_unit base body unit start)
unit_right base body unit start =
    either (FrontRight base body (OfSession unit start)) (not (has_connection body)) (fails body body.link.accepted transport_fault)
    (if is_purged base.initiator body.link.awaits unit then Passes
    else (if not (is_in_place base body unit) then fails body body.link.accepted session_fault
    else on_meaning base body unit (meaning base body unit start)))
    (failed body body.link.accepted transport_fault)
    (either (FrontRight base body (OfSession unit start)) (is_purged base.initiator body.link.awaits unit) Passes
    (if not (is_in_place base body unit) then fails body body.link.accepted session_fault else on_meaning base body unit (meaning base body unit start))
    tt
    (either (FrontRight base body (OfSession unit start)) (not (is_in_place base body unit)) (fails body body.link.accepted session_fault) (on_meaning base body unit (meaning base body unit start))
    (failed body body.link.accepted session_fault)
    (meaning_right base body unit start (meaning base body unit start) refl)))

pub front_right : (base : Base) (body : Body) (front : Front) → IsFrontRight base body front (react_to base body front)
front_right base body Short = tt
front_right base body (OfTransport unit) = of_message base body (OfTransport unit) (Transport unit) (react base body (Transport unit)) refl (react_right base body (Transport unit))
front_right base body (OfSession unit start) =
    either (FrontRight base body (OfSession unit start)) (passes_over body.link.phase) Passes (react_to_unit base body unit start) tt (unit_right base body unit start)
front_right base body (Faulty layer at) =
    either (FrontRight base body (Faulty layer at)) (passes_over body.link.phase) Passes (fails body body.link.accepted (grammar_fault body layer at))
    tt (failed body body.link.accepted (grammar_fault body layer at))

-- as a law
taken_right : (base : Base) (body : Body) (front : Front) (left : Body) (answers : List Message) (shown : List Indication) → react_to base body front ≡ Some (Takes left answers shown) → IsTaken base body front left answers
taken_right base body front left answers shown e = subst (IsFrontRight base body front) e (front_right base body front)

failed_right : (base : Base) (body : Body) (front : Front) (fault : Fault) (left : Body) (aborts : List Message) (shown : List Indication) → react_to base body front ≡ Some (Fails fault left aborts shown) → IsFailed body left aborts
failed_right base body front fault left aborts shown e = subst (IsFrontRight base body front) e (front_right base body front)

pub reactions_are_steps : ReactionsAreSteps
reactions_are_steps = record { takings = taken_right; faults = failed_right }
