-- Which names, contexts, calls and events have what their types keep, as tests.
use Rattle.std.specs.Prelude.{ℕ, Bool, true, ◌&&◌, List}
use Rattle.std.specs.List.{list_all}
use Rattle.osi_base.specs.declared.layer_words.Proposal.{Proposal}
use Rattle.asn1_types.specs.Fits.{object_id_fits, has_32_bits}
use Rattle.asn1_types.specs.Value.{object_id}
use Rattle.dialogue.specs.declared.call.Call.{Call}
use Rattle.dialogue.specs.declared.call.Call.TheVariants as calls
use Rattle.dialogue.specs.declared.event.Event.{Event}
use Rattle.dialogue.specs.declared.event.Event.TheVariants as events

-- an object identifier whose arcs have 32 bits
abbrev pub name_fits : List ℕ → Bool
name_fits arcs = object_id_fits (object_id arcs)

abbrev pub proposal_fits : Proposal → Bool
proposal_fits p = name_fits p.abstract_name && list_all name_fits p.transfers

abbrev pub call_fits : Call → Bool
call_fits (calls.Alter add delete) = list_all proposal_fits add
call_fits (calls.Please priority) = has_32_bits priority
call_fits call = true

abbrev pub event_fits : Event → Bool
event_fits (events.Call side call) = call_fits call
event_fits event = true
