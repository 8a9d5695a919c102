-- A reaction to what stands first is a step of a history: what is taken is the message that stands there, with the body that
-- its taking leaves; what is answered or sent for a fault is never a CR.
use Rattle.std.specs.Prelude.{◌≡◌, List, [], ◌∷◌, Some}
use Rattle.dialogue.specs.declared.indication.Indication.{Indication}
use Rattle.association_reading.specs.end_rules.Base.{Base, Fault}
use Rattle.association_reading.specs.end_rules.Messages.{Message, Transport, Session, TransportUnit, ConnectionRequest, ConnectionConfirm, DisconnectRequest, TransportError}
use Rattle.association_reading.specs.end_rules.State.{Body}
use Rattle.association_reading.specs.end_rules.Faults.{over}
use Rattle.association_reading.specs.end_rules.Reacting.{Takes, Fails}
use Rattle.association_reading.specs.end_rules.History.{after_taken}
use Rattle.association_reading.specs.Front.{Front}
use Rattle.association_reading.specs.Reacting.{react_to}
use Rattle.association_line.specs.Feeding.{message_in}

abbrev pub IsNoRequest : TransportUnit → Type 0
IsNoRequest (ConnectionRequest source size calling selector) = ⊥
IsNoRequest (ConnectionConfirm destination size) = Unit {0}
IsNoRequest (DisconnectRequest destination) = Unit {0}
IsNoRequest TransportError = Unit {0}

abbrev pub IsAnswer : Message → Type 0
IsAnswer (Transport unit) = IsNoRequest unit
IsAnswer (Session word) = Unit {0}

abbrev pub AreAnswers : List Message → Type 0
AreAnswers [] = Unit {0}
AreAnswers (message ∷ messages) = IsAnswer message × AreAnswers messages

pub record IsTaken (base : Base) (body : Body) (front : Front) (left : Body) (answers : List Message) : Type 0 where
  pub message : Message
  pub is : message_in base body front ≡ Some message
  pub body_is : left ≡ after_taken base body message
  pub answers_are : AreAnswers answers

pub record IsFailed (body left : Body) (aborts : List Message) : Type 0 where
  pub body_is : left ≡ over body
  pub aborts_are : AreAnswers aborts

pub record ReactionsAreSteps : Type 0 where
  pub takings : (base : Base) (body : Body) (front : Front) (left : Body) (answers : List Message) (shown : List Indication) →
      react_to base body front ≡ Some (Takes left answers shown) → IsTaken base body front left answers
  pub faults : (base : Base) (body : Body) (front : Front) (fault : Fault) (left : Body) (aborts : List Message) (shown : List Indication) →
      react_to base body front ≡ Some (Fails fault left aborts shown) → IsFailed body left aborts
