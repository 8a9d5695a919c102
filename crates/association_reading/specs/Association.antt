-- Values in openings, refusals, releases and aborts (X.226 6.1, 6.4, 8.2; X.227 7, 9; X.228 7.1).
use Rattle.std.specs.Prelude.{ℕ, List, [], Bool, true, false, not, ◌&&◌, ◌||◌, nat_eq, if◌then◌else◌, Option, Some, None, Result, Ok, Err}
use Rattle.std.specs.List.{list_any}
use Rattle.osi_base.specs.PdvContent.{octets_of}
use Rattle.osi_base.specs.declared.syntax.Syntax.TheVariants.{Ber}
use Rattle.osi_base.specs.declared.layer_words.Proposal.{Proposal}
use Rattle.osi_base.specs.declared.layer_words.SetItem.{SetItem}
use Rattle.osi_base.specs.declared.acse_word.Acse.{Acse}
use Rattle.osi_base.specs.declared.acse_word.Acse.TheVariants as acse
use Rattle.osi_base.specs.declared.presentation_word.Pdv.{Pdv}
use Rattle.osi_base.specs.declared.presentation_word.PresentationConnect.{PresentationConnect}
use Rattle.osi_base.specs.declared.presentation_word.PresentationAccept.{PresentationAccept}
use Rattle.osi_base.specs.declared.presentation_word.PresentationReject.{PresentationReject}
use Rattle.fixed_tables.specs.declared.pdu.PduFault.{PduFault}
use Rattle.acse.specs.Fields.{acse_at}
use Rattle.association_wire.specs.end_rules.Base.{Base, Fault, is_reliable}
use Rattle.association_wire.specs.end_rules.Sets.{same_name, accepted_set, fit_proposals}
use Rattle.osi_base.specs.SetPlaces.{pair_of}
use Rattle.osi_base.specs.Syntax.{acse_name}
use Rattle.association_wire.specs.end_rules.Messages.{ValueContent, Unread, DataValue}
use Rattle.association_wire.specs.end_rules.Policy.{is_faulty_proposal}
use Rattle.association_wire.specs.end_rules.Writing.{proposals, acse_pair}
use Rattle.association_wire.specs.end_rules.Connecting.{Associated, is_request, is_accepting, set_for, set_accepted, has_acse, has_rtse}
use Rattle.association_reading.specs.declared.layer_of_values.LayerOfValues.TheVariants as carriage
use Rattle.association_reading.specs.Places.{PdvPlaces}
use Rattle.association_reading.specs.Contexts.{pdv_fault, form_fault, first_fault}
use Rattle.association_reading.specs.Values.{associated, acse_content, with_content, value_in, all_values, unless_fault, values_under, and_informed}

-- an APDU without its user information
abbrev pub alone : Acse → Option Associated
alone apdu = Some (record { apdu = apdu; user = [] })

abbrev pub is_aarq : Acse → Bool
is_aarq apdu = is_request (alone apdu)

-- an AARE that accepts
abbrev pub is_acceptance : Acse → Bool
is_acceptance apdu = is_accepting (alone apdu)

abbrev pub is_response : Acse → Bool
is_response (acse.AssociateResponse context result diagnostic user) = true
is_response _ = false

abbrev pub is_abort : Acse → Bool
is_abort (acse.Abort source user) = true
is_abort _ = false

-- ---- CN: values stand on contexts that are accepted of its own list

-- Where association control isn't accepted nothing is asked of its value, which isn't read: it stands as the APDU that its
-- octets spell, or as its octets.
abbrev pub is_left : List Proposal → Pdv → Bool
is_left definitions pdv = list_any (λ (p : Proposal). nat_eq p.id pdv.id && same_name p.abstract_name acse_name) definitions

abbrev pub left_content : List ℕ → Result Acse PduFault → ValueContent
left_content octets (Ok apdu) = associated apdu
left_content octets (Err fault) = Unread octets

abbrev pub left_value : Pdv → DataValue
left_value pdv = record { id = pdv.id; pair = None; content = left_content (octets_of pdv.content) (acse_at (octets_of pdv.content)) }

abbrev pub fault_unless_left : List Proposal → List SetItem → PdvPlaces → Pdv → Option Fault
fault_unless_left definitions set at pdv = if is_left definitions pdv then None else pdv_fault acse_name at pdv (pair_of set pdv.id)

abbrev pub value_or_left : Base → List Proposal → List SetItem → Pdv → Result DataValue Fault
value_or_left base definitions set pdv = if is_left definitions pdv then Ok (left_value pdv) else value_in base.tables carriage.Association set pdv

abbrev pub left_values : Base → List Proposal → List SetItem → List PdvPlaces → List Pdv → Result (List DataValue) Fault
left_values base definitions set places pdvs =
    unless_fault (first_fault (fault_unless_left definitions set) places pdvs) (all_values (value_or_left base definitions set) pdvs)

-- a list that is faulty ends the association before its values are looked at
abbrev pub connect_values : Base → PresentationConnect → List PdvPlaces → Result (List DataValue) Fault
connect_values base presentation places =
    if is_faulty_proposal true [] presentation.definitions then Ok []
    else (if has_acse (set_for base presentation)
    then and_informed base (set_for base presentation) is_aarq (values_under base.tables (set_for base presentation) carriage.Association places presentation.user)
    else left_values base presentation.definitions (set_for base presentation) places presentation.user)

-- ---- AC: results that don't fit, or that leave a context of the association, end it before values are looked at

abbrev pub stands : Base → PresentationAccept → Bool
stands base presentation =
    fit_proposals (proposals base) presentation.results && has_acse (set_accepted base presentation) &&
    (not (is_reliable base.mode) || has_rtse (set_accepted base presentation))

abbrev pub accept_values : Base → PresentationAccept → List PdvPlaces → Result (List DataValue) Fault
accept_values base presentation places =
    if stands base presentation
    then and_informed base (set_accepted base presentation) is_acceptance (values_under base.tables (set_accepted base presentation) carriage.Association places presentation.user)
    else Ok []

-- ---- RF and AB: no contexts are asked; values are APDUs of association control in BER

abbrev pub unasked_value : Pdv → Result DataValue Fault
unasked_value pdv = with_content pdv.id (Some acse_pair) (acse_content (acse_at (octets_of pdv.content)))

abbrev pub unasked_values : List PdvPlaces → List Pdv → Result (List DataValue) Fault
unasked_values places pdvs =
    unless_fault (first_fault (λ (at : PdvPlaces) (pdv : Pdv). form_fault at Ber pdv.content) places pdvs) (all_values unasked_value pdvs)

-- the contexts that a refusal accepts
abbrev pub set_refused : Base → PresentationReject → List SetItem
set_refused base presentation = accepted_set (proposals base) presentation.results

abbrev pub refuse_values : Base → PresentationReject → List PdvPlaces → Result (List DataValue) Fault
refuse_values base presentation places =
    and_informed base (set_refused base presentation) is_response (unasked_values places presentation.user)

abbrev pub abort_values : Base → List SetItem → List PdvPlaces → List Pdv → Result (List DataValue) Fault
abort_values base accepted places user = and_informed base accepted is_abort (unasked_values places user)
