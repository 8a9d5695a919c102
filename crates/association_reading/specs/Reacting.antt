-- What an end does with what stands first: the transport, the grammar of session units, the purge, the session, then the
-- presentation, association control and reliable transfer.
use Rattle.std.specs.Prelude.{ℕ, List, Bool, not, ◌||◌, if◌then◌else◌, Option, Some, None, Result, Ok, Err}
use Rattle.osi_base.specs.declared.layer_words.Layer.{Layer}
use Rattle.osi_base.specs.declared.layer_words.Layer.TheVariants as layers
use Rattle.osi_base.specs.declared.layer_words.SetItem.{SetItem}
use Rattle.osi_base.specs.declared.session_word.SessionWord.{SessionWord}
use Rattle.osi_base.specs.declared.session_word.SessionWord.TheVariants as units
use Rattle.osi_base.specs.declared.presentation_word.PresentationWord.{PresentationWord}
use Rattle.osi_base.specs.declared.presentation_word.PresentationWord.TheVariants as ppdus
use Rattle.presentation_pdus.specs.declared.place.PpduPlace.TheVariants as place
use Rattle.presentation_pdus.specs.declared.place.PpduFault.{PpduFault}
use Rattle.presentation_pdus.specs.Units.{ppdu_at}
use Rattle.association_wire.specs.end_rules.Base.{Base, Fault}
use Rattle.association_wire.specs.end_rules.Messages.{Word, Transport, Session}
use Rattle.association_wire.specs.end_rules.State.{Body, is_joined, is_carrying, passes_over}
use Rattle.association_wire.specs.end_rules.Purging.{is_purged}
use Rattle.association_wire.specs.end_rules.InPlace.{is_in_place}
use Rattle.association_wire.specs.end_rules.Connecting.{set_for}
use Rattle.association_wire.specs.end_rules.Faults.{fault_at, transport_fault, session_fault}
use Rattle.association_wire.specs.end_rules.Reacting.{Reaction, Passes, fails, react}
use Rattle.association_reading.specs.Front.{Front, Short, OfTransport, OfSession, Faulty}
use Rattle.association_reading.specs.Meaning.{meaning}

-- the contexts for an abort: those of a CN are answered as it comes
abbrev pub contexts_read : Base → Body → Result PresentationWord PpduFault → List SetItem
contexts_read base body (Ok (ppdus.Connect presentation)) = set_for base presentation
contexts_read base body _ = body.link.accepted

abbrev pub contexts_of_unit : Base → Body → SessionWord → List SetItem
contexts_of_unit base body (units.Connect session) = contexts_read base body (ppdu_at place.Cn session.user)
contexts_of_unit base body _ = body.link.accepted

-- what its word is, under the sets of the end
abbrev pub on_meaning : Base → Body → SessionWord → Result Word Fault → Reaction
on_meaning base body unit (Ok word) = react base body (Session word)
on_meaning base body unit (Err fault) = fails body (contexts_of_unit base body unit) fault

-- a unit of the session, of which what is purged is looked at no further
abbrev pub has_connection : Body → Bool
has_connection body = is_joined body.link.stage || is_carrying body.link.stage

abbrev pub react_to_unit : Base → Body → SessionWord → ℕ → Reaction
react_to_unit base body unit start =
    if not (has_connection body) then fails body body.link.accepted transport_fault
    else (if is_purged base.initiator body.link.awaits unit then Passes
    else (if not (is_in_place base body unit) then fails body body.link.accepted session_fault
    else on_meaning base body unit (meaning base body unit start)))

-- octets that break a grammar; session units before CC was sent or taken are a fault of the transport
abbrev pub grammar_fault : Body → Layer → ℕ → Fault
grammar_fault body layers.Session at = if has_connection body then fault_at layers.Session at 0 else transport_fault
grammar_fault body layer at = fault_at layer at 0

-- what an end does with what stands first; one that is over or dead passes over all
abbrev pub react_to : Base → Body → Front → Option Reaction
react_to base body Short = None
react_to base body (OfTransport unit) = Some (react base body (Transport unit))
react_to base body (OfSession unit start) = Some (if passes_over body.link.phase then Passes else react_to_unit base body unit start)
react_to base body (Faulty layer at) = Some (if passes_over body.link.phase then Passes else fails body body.link.accepted (grammar_fault body layer at))
