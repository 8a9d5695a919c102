-- What a taking leaves is what its message does to the end; and a refused call changes nothing.
use Rattle.std.proofs.Common.{◌≡◌, refl, subst, true, false, None}
use Rattle.std.specs.Prelude.{Bool, not, ◌||◌, if◌then◌else◌, Option, Some, List}
use Rattle.dialogue.specs.declared.indication.Indication.{Indication}
use Rattle.end_model.specs.end_rules.Base.{Base, Fault, is_bare}
use Rattle.end_model.specs.end_rules.Messages.{Message, Transport, Session, Word, TransportUnit, unit_of}
use Rattle.end_model.specs.end_rules.State.{Body, passes_over, is_joined, is_carrying}
use Rattle.end_model.specs.end_rules.Purging.{is_purged, is_transport_purged}
use Rattle.end_model.specs.end_rules.Faults.{transport_fault}
use Rattle.end_model.specs.end_rules.TakesTransport.{transport_unit_fault}
use Rattle.end_model.specs.end_rules.Reacting.{Reaction, Passes, Takes, Fails, fails, fault_above, word_fault, on_word, react_to_word, on_transport, react_to_session, react_alive, react}
use Rattle.end_model.specs.end_rules.History.{after_taken}

-- the body of a taking is this
abbrev Leaves : Body → Reaction → Type 0
Leaves later Passes = Unit {0}
Leaves later (Takes body answers shown) = body ≡ later
Leaves later (Fails fault body aborts shown) = Unit {0}

either : (later : Body) (b : Bool) (x y : Reaction) → Leaves later x → Leaves later y → Leaves later (if b then x else y)
either later true x y h k = h
either later false x y h k = k

on-word-leaves : (base : Base) (body : Body) (word : Word) (fault : Option Fault) → Leaves (after_taken base body (Session word)) (on_word base body word fault)
on-word-leaves base body word (Some fault) = tt
on-word-leaves base body word None = refl

to-word-leaves : (base : Base) (body : Body) (word : Word) → Leaves (after_taken base body (Session word)) (react_to_word base body word)
to-word-leaves base body word =
    either (after_taken base body (Session word)) (not (is_joined body.link.stage || is_carrying body.link.stage)) (fails body body.link.accepted transport_fault) _ tt
    (either (after_taken base body (Session word)) (is_purged base.initiator body.link.awaits (unit_of word)) Passes (on_word base body word (word_fault base body word)) tt (on-word-leaves base body word (word_fault base body word)))

to-session-leaves : (b : Bool) (base : Base) (body : Body) (word : Word) → Leaves (after_taken base body (Session word)) (react_to_session b base body word)
to-session-leaves true base body word = on-word-leaves base body word (fault_above base body word)
to-session-leaves false base body word = to-word-leaves base body word

on-transport-leaves : (base : Base) (body : Body) (unit : TransportUnit) (fault : Option Fault) → Leaves (after_taken base body (Transport unit)) (on_transport base body unit fault)
on-transport-leaves base body unit (Some fault) = tt
on-transport-leaves base body unit None = refl

alive-leaves : (base : Base) (body : Body) (message : Message) → Leaves (after_taken base body message) (react_alive base body message)
alive-leaves base body (Transport unit) =
    either (after_taken base body (Transport unit)) (is_transport_purged body.link.awaits) Passes (on_transport base body unit (transport_unit_fault base body unit)) tt (on-transport-leaves base body unit (transport_unit_fault base body unit))
alive-leaves base body (Session word) = to-session-leaves (is_bare base.mode) base body word

all-leaves : (base : Base) (body : Body) (message : Message) → Leaves (after_taken base body message) (react base body message)
all-leaves base body message = either (after_taken base body message) (passes_over body.link.phase) Passes (react_alive base body message) tt (alive-leaves base body message)

pub taken-leaves : (base : Base) (body : Body) (message : Message) (later : Body) (answers : List Message) (shown : List Indication) → react base body message ≡ Takes later answers shown → later ≡ after_taken base body message
taken-leaves base body message later answers shown h = subst (Leaves (after_taken base body message)) h (all-leaves base body message)
