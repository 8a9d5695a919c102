-- What an end does with a message: it passes it over, takes it, or ends the association by an own abort. Checks
-- come in the order purge, session, presentation, then association control or reliable transfer.
use Rattle.std.specs.Prelude.{List, Bool, true, false, not, ◌||◌, if◌then◌else◌, Option, Some, None}
use Rattle.osi_base.specs.declared.layer_words.SetItem.{SetItem}
use Rattle.dialogue.specs.declared.indication.Indication.{Indication}
use Rattle.end_rules.specs.Base.{Base, Fault, is_bare}
use Rattle.end_rules.specs.Messages.{Word, OfAssociation, OfData, OfMarks, OfActivities, Message, Transport, Session, TransportUnit, unit_of}
use Rattle.end_rules.specs.State.{Body, is_carrying, is_joined, passes_over}
use Rattle.end_rules.specs.Purging.{is_purged, is_transport_purged}
use Rattle.end_rules.specs.InPlace.{is_in_place}
use Rattle.end_rules.specs.Faults.{transport_fault, session_fault, fault_if, or_fault, abort_of, shown_at_fault, over}
use Rattle.end_rules.specs.TakesTransport.{transport_unit_fault, after_transport, answers_to_transport, shown_of_transport}
use Rattle.end_rules.specs.TakesAssociation.{association_fault, after_association, answers_to_association, shown_of_association, contexts_for}
use Rattle.end_rules.specs.TakesData.{data_fault, after_data, answers_to_data, shown_of_data}
use Rattle.end_rules.specs.TakesMarks.{mark_fault, after_mark, answers_to_mark, shown_of_mark}
use Rattle.end_rules.specs.TakesActivities.{activity_fault, after_activity, answers_to_activity, shown_of_activity}

-- ---- one unit of the session

-- what is wrong above the session
abbrev pub fault_above : Base → Body → Word → Option Fault
fault_above base body (OfAssociation word) = association_fault base body word
fault_above base body (OfData word) = data_fault base body word
fault_above base body (OfMarks word) = mark_fault base body word
fault_above base body (OfActivities word) = activity_fault base body word

-- why a word may not be taken
abbrev pub word_fault : Base → Body → Word → Option Fault
word_fault base body word =
    or_fault (fault_if (not (is_in_place base body (unit_of word))) session_fault) (fault_above base body word)

abbrev pub after_word : Base → Body → Word → Body
after_word base body (OfAssociation word) = after_association base body word
after_word base body (OfData word) = after_data base body word
after_word base body (OfMarks word) = after_mark base body word
after_word base body (OfActivities word) = after_activity base body word

abbrev pub answers_to_word : Base → Body → Word → List Message
answers_to_word base body (OfAssociation word) = answers_to_association base body word
answers_to_word base body (OfData word) = answers_to_data base body word
answers_to_word base body (OfMarks word) = answers_to_mark base body word
answers_to_word base body (OfActivities word) = answers_to_activity base body word

abbrev pub shown_of_word : Base → Body → Word → List Indication
shown_of_word base body (OfAssociation word) = shown_of_association base body word
shown_of_word base body (OfData word) = shown_of_data base body word
shown_of_word base body (OfMarks word) = shown_of_mark base body word
shown_of_word base body (OfActivities word) = shown_of_activity base body word

-- ---- what is done

-- what a message leads to: the body afterwards, what is sent and shown; nothing where it is passed over
pub data Reaction : Type 0 where
  Passes : Reaction
  Takes : (body : Body) → (answers : List Message) → (shown : List Indication) → Reaction
  Fails : (fault : Fault) → (body : Body) → (aborts : List Message) → (shown : List Indication) → Reaction

abbrev pub fails : Body → List SetItem → Fault → Reaction
fails body accepted fault =
    Fails fault (over body) (abort_of (is_carrying body.link.stage) accepted fault.layer fault.reason) (shown_at_fault body fault)

-- the contexts for an abort that a word brings
abbrev pub contexts_of_word : Base → Body → Word → List SetItem
contexts_of_word base body (OfAssociation word) = contexts_for base body word
contexts_of_word base body _ = body.link.accepted

abbrev pub on_word : Base → Body → Word → Option Fault → Reaction
on_word base body word (Some fault) = fails body (contexts_of_word base body word) fault
on_word base body word None = Takes (after_word base body word) (answers_to_word base body word) (shown_of_word base body word)

-- a unit of the session before CC was sent or taken is a fault of the transport
abbrev pub react_to_word : Base → Body → Word → Reaction
react_to_word base body word =
    if not (is_joined body.link.stage || is_carrying body.link.stage) then fails body body.link.accepted transport_fault
    else (if is_purged base.initiator body.link.awaits (unit_of word) then Passes
    else on_word base body word (word_fault base body word))

abbrev pub on_transport : Base → Body → TransportUnit → Option Fault → Reaction
on_transport base body unit (Some fault) = fails body body.link.accepted fault
on_transport base body unit None =
    Takes (after_transport base body unit) (answers_to_transport base body unit) (shown_of_transport unit)

abbrev pub react_to_transport : Base → Body → TransportUnit → Reaction
react_to_transport base body unit =
    if is_transport_purged body.link.awaits then Passes
    else on_transport base body unit (transport_unit_fault base body unit)

-- ---- bare mode: there is no session, and each value is taken at once

abbrev pub react_bare : Base → Body → Word → Reaction
react_bare base body word = on_word base body word (fault_above base body word)

abbrev pub react_to_session : Bool → Base → Body → Word → Reaction
react_to_session true base body word = react_bare base body word
react_to_session false base body word = react_to_word base body word

-- what an end does with a message; one that is over or dead passes over all that comes
abbrev pub react_alive : Base → Body → Message → Reaction
react_alive base body (Transport unit) = react_to_transport base body unit
react_alive base body (Session word) = react_to_session (is_bare base.mode) base body word

abbrev pub react : Base → Body → Message → Reaction
react base body message = if passes_over body.link.phase then Passes else react_alive base body message
