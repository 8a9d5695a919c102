-- The transport connection of an initiator, and own aborts, as acts of the model.
use Rattle.std.specs.Prelude.{◌≡◌, ℕ, ℤ, List, false, Option, None, Ok}
use Rattle.osi_base.specs.declared.layer_words.Proposal.{Proposal}
use Rattle.dialogue.specs.declared.config.Mode.{Mode}
use Rattle.dialogue.specs.declared.config.Mode.TheVariants.{Direct, Reliable}
use Rattle.dialogue.specs.declared.config.Phase.TheVariants.{Opening, Recovering}
use Rattle.dialogue.specs.declared.call.Call.TheVariants as the_calls
use Rattle.end_rules.specs.Base.{Base}
use Rattle.end_rules.specs.State.{Body, Carrying, is_carrying}
use Rattle.end_rules.specs.Messages.{ConnectionConfirm, DisconnectRequest}
use Rattle.end_rules.specs.Calling.{can_call}
use Rattle.end_rules.specs.Requesting.{due_of}
use Rattle.end_rules.specs.TakesTransport.{transport_unit_fault, after_transport}
use Rattle.end_rules.specs.TakesTransport.{answers_to_transport}
use Rattle.agreement.specs.Messages.Act.{Connects, Recovers, TransportFails, Aborts, Withdraws}
use Rattle.end_model.specs.Seen.{Free}
use Rattle.end_model.specs.Rows.{at}
use Rattle.end_model.specs.Acting.{ActsAs}
use Rattle.end_model.specs.Requests.{after_called}

-- the modes with an association
abbrev pub IsAssociated : Mode → Type 0
IsAssociated Direct = Unit {0}
IsAssociated Reliable = Unit {0}
IsAssociated mode = ⊥

pub record ConnectionsAct : Type 0 where
  -- a CC brings the CN
  pub connects : (mode : Mode) (destination : ℕ) (size : Option ℕ) (free : Free) (base : Base) (proposed : List Proposal) (body : Body) → IsAssociated mode →
      body.link.phase ≡ Opening → transport_unit_fault (at mode base) body (ConnectionConfirm destination size) ≡ None →
      ActsAs free mode base proposed body (after_transport (at mode base) body (ConnectionConfirm destination size))
      (answers_to_transport (at mode base) body (ConnectionConfirm destination size)) Connects
  pub recovers : (destination : ℕ) (size : Option ℕ) (free : Free) (base : Base) (proposed : List Proposal) (body : Body) →
      body.link.phase ≡ Recovering → transport_unit_fault (at Reliable base) body (ConnectionConfirm destination size) ≡ None →
      ActsAs free Reliable base proposed body (after_transport (at Reliable base) body (ConnectionConfirm destination size))
      (answers_to_transport (at Reliable base) body (ConnectionConfirm destination size)) Recovers
  -- a DR refuses the connection
  pub fails : (mode : Mode) (destination : ℕ) (free : Free) (base : Base) (proposed : List Proposal) (body : Body) → IsAssociated mode →
      body.link.phase ≡ Opening → transport_unit_fault (at mode base) body (DisconnectRequest destination) ≡ None →
      ActsAs free mode base proposed body (after_transport (at mode base) body (DisconnectRequest destination))
      (answers_to_transport (at mode base) body (DisconnectRequest destination)) TransportFails
  pub recovery_fails : (mode : Mode) (destination : ℕ) (free : Free) (base : Base) (proposed : List Proposal) (body : Body) → IsAssociated mode →
      body.link.phase ≡ Recovering → transport_unit_fault (at mode base) body (DisconnectRequest destination) ≡ None →
      ActsAs free mode base proposed body (after_transport (at mode base) body (DisconnectRequest destination))
      (answers_to_transport (at mode base) body (DisconnectRequest destination)) TransportFails
  -- an own abort, with an AB once a CN was sent or taken
  pub aborts : (mode : Mode) (free : Free) (base : Base) (proposed : List Proposal) (body : Body) (answer : Option ℤ) → IsAssociated mode →
      body.link.stage ≡ Carrying → can_call (at mode base) body the_calls.Abort ≡ Ok answer →
      ActsAs free mode base proposed body (after_called mode base body the_calls.Abort answer) (due_of (at mode base) body the_calls.Abort (Ok answer)) Aborts
  pub withdraws : (mode : Mode) (free : Free) (base : Base) (proposed : List Proposal) (body : Body) (answer : Option ℤ) → IsAssociated mode →
      is_carrying body.link.stage ≡ false → body.link.phase ≡ Opening → can_call (at mode base) body the_calls.Abort ≡ Ok answer →
      ActsAs free mode base proposed body (after_called mode base body the_calls.Abort answer) (due_of (at mode base) body the_calls.Abort (Ok answer)) Withdraws
