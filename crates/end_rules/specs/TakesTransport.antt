-- The transport connection: CR, CC, DR and ER (X.224 6.5, 13; sizes as in this project's profile).
use Rattle.std.specs.Prelude.{ℕ, ◌^◌, List, [], ◌∷◌, Bool, true, false, not, ◌&&◌, nat_le, Option, Some, None}
use Rattle.dialogue.specs.declared.config.Phase.{Phase}
use Rattle.dialogue.specs.declared.config.Phase.TheVariants.{Idle, Opening, Broken, Over}
use Rattle.dialogue.specs.declared.indication.Indication.{Indication}
use Rattle.dialogue.specs.declared.indication.Indication.TheVariants as indications
use Rattle.end_rules.specs.Base.{Base, Fault}
use Rattle.end_rules.specs.Messages.{TransportUnit, ConnectionRequest, ConnectionConfirm, DisconnectRequest, TransportError, Message, Transport}
use Rattle.end_rules.specs.State.{Body, Stage, Asked, Joined, Carrying, is_unused, is_asked}
use Rattle.end_rules.specs.Writing.{connect_message, is_recovering}
use Rattle.end_rules.specs.Faults.{transport_fault, fault_if}

-- 128 to 8,192 octets, or none named
abbrev pub is_size : Option ℕ → Bool
is_size None = true
is_size (Some code) = nat_le 7 code && nat_le code 13

-- how many octets a DT has at most: what was agreed, or without it what a responder and an initiator use
abbrev pub octets_of_size : ℕ → Option ℕ → ℕ
octets_of_size default None = default
octets_of_size default (Some code) = 2 ^ code

-- a responder that has no association yet, or whose association is broken
abbrev pub is_waiting : Phase → Bool
is_waiting Idle = true
is_waiting Broken = true
is_waiting _ = false

abbrev pub may_request : Base → Body → Bool
may_request base body = not base.initiator && is_unused body.link.stage && is_waiting body.link.phase

abbrev pub may_respond : Base → Body → Bool
may_respond base body = base.initiator && is_asked body.link.stage

-- what is out of place, an ER always
abbrev pub transport_unit_fault : Base → Body → TransportUnit → Option Fault
transport_unit_fault base body (ConnectionRequest source size calling called) = fault_if (not (may_request base body)) transport_fault
transport_unit_fault base body (ConnectionConfirm destination size) = fault_if (not (may_respond base body && is_size size)) transport_fault
transport_unit_fault base body (DisconnectRequest destination) = fault_if (not (may_respond base body)) transport_fault
transport_unit_fault base body TransportError = Some transport_fault

-- a CR with another size is refused by a DR
abbrev pub phase_asked : Phase → Bool → Phase
phase_asked Broken accepted = Broken
phase_asked phase true = Opening
phase_asked phase false = Over

abbrev pub stage_asked : Bool → Stage
stage_asked true = Joined
stage_asked false = Asked

abbrev pub at_stage : Stage → Phase → Body → Body
at_stage stage phase body = record body { link = record body.link { stage = stage; phase = phase } }

abbrev pub after_transport : Base → Body → TransportUnit → Body
after_transport base body (ConnectionRequest source size calling called) =
    at_stage (stage_asked (is_size size)) (phase_asked body.link.phase (is_size size)) body
after_transport base body (ConnectionConfirm destination size) = at_stage Carrying body.link.phase body
after_transport base body (DisconnectRequest destination) = at_stage body.link.stage Over body
after_transport base body TransportError = body

abbrev pub answer_to_request : ℕ → Option ℕ → Bool → Message
answer_to_request source size true = Transport (ConnectionConfirm source size)
answer_to_request source size false = Transport (DisconnectRequest source)

-- a CC brings the CN, which opens or recovers
abbrev pub answers_to_transport : Base → Body → TransportUnit → List Message
answers_to_transport base body (ConnectionRequest source size calling called) = answer_to_request source size (is_size size) ∷ []
answers_to_transport base body (ConnectionConfirm destination size) = connect_message base (is_recovering body.link.phase) ∷ []
answers_to_transport base body _ = []

abbrev pub shown_of_transport : TransportUnit → List Indication
shown_of_transport (DisconnectRequest destination) = indications.AssociationRefused ∷ []
shown_of_transport _ = []
