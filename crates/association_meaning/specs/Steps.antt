-- Readings step by step, as the code takes them. No public clause cites this module.
use Rattle.std.specs.Prelude.{ℕ, ◌+◌, List, [], ◌∷◌, ◌++◌, Bool, true, false, not, if◌then◌else◌, Option, Some, None, Result, Ok, Err}
use Rattle.osi_base.specs.declared.syntax.Pair.{Pair}
use Rattle.osi_base.specs.declared.syntax.Syntax.{Syntax}
use Rattle.osi_base.specs.declared.layer_words.Layer.TheVariants as layers
use Rattle.osi_base.specs.declared.layer_words.Proposal.{Proposal}
use Rattle.osi_base.specs.declared.layer_words.SetItem.{SetItem}
use Rattle.osi_base.specs.declared.presentation_word.Pdv.{Pdv}
use Rattle.osi_base.specs.declared.presentation_word.PdvContent.{PdvContent}
use Rattle.osi_base.specs.declared.presentation_word.PresentationWord.{PresentationWord}
use Rattle.presentation_pdus.specs.declared.place.PpduFault.{PpduFault}
use Rattle.presentation_pdus.specs.declared.place.PpduFault.TheVariants as why
use Rattle.osi_base.specs.declared.syntax.Syntax.TheVariants.{Ber}
use Rattle.osi_base.specs.declared.presentation_word.PresentationConnect.{PresentationConnect}
use Rattle.osi_base.specs.declared.presentation_word.PresentationAccept.{PresentationAccept}
use Rattle.stub_tables.specs.declared.tables.Tables.{Tables}
use Rattle.end_rules.specs.Base.{Base, Fault, Arrived}
use Rattle.end_rules.specs.Connecting.{has_acse}
use Rattle.end_rules.specs.Faults.{fault_at, invalid_ppdu}
use Rattle.osi_base.specs.SetPlaces.{pair_of}
use Rattle.end_rules.specs.Messages.{DataValue}
use Rattle.pdv_places.specs.declared.places.PdvField.{PdvField}
use Rattle.pdv_places.specs.declared.places.PdvField.TheVariants as fields
use Rattle.pdv_places.specs.Seen.{place_in, places_at}
use Rattle.association_intake.specs.association_reading.declared.layer_of_values.LayerOfValues.TheVariants as carriage
use Rattle.association_intake.specs.association_reading.Places.{PdvPlaces}
use Rattle.association_intake.specs.association_reading.Contexts.{is_named, is_form, is_carried, invalid_at, pdv_fault}
use Rattle.association_intake.specs.association_reading.Values.{values_under, and_informed}
use Rattle.association_intake.specs.association_reading.Association.{is_left, is_aarq, is_acceptance, left_values}
use Rattle.association_intake.specs.association_reading.Transfers.{unless_wrong, arrived_under}
use Rattle.association_meaning.specs.declared.contexts.Wrong.{Wrong}

-- ---- units of the presentation

abbrev pub read_unit : ℕ → Result PresentationWord PpduFault → Result PresentationWord Fault
read_unit start (Ok unit) = Ok unit
read_unit start (Err (why.At at kind reason)) = Err (fault_at layers.Presentation (start + at) reason)
read_unit start (Err why.NoMemory) = Err invalid_ppdu

-- ---- wrong values

abbrev pub wrong_if : Bool → PdvField → Option PdvField
wrong_if true field = Some field
wrong_if false field = None

abbrev pub or_wrong : Option PdvField → Option PdvField → Option PdvField
or_wrong None later = later
or_wrong (Some field) later = Some field

abbrev pub form_wrong : Syntax → PdvContent → Option PdvField
form_wrong syntax content = wrong_if (not (is_form syntax content)) fields.Form

abbrev pub pdv_wrong : List ℕ → Pdv → Option Pair → Option PdvField
pdv_wrong carried pdv None = Some fields.Identifier
pdv_wrong carried pdv (Some pair) =
    or_wrong (wrong_if (not (is_named pair.transfer pdv.transfer)) fields.Name)
    (or_wrong (wrong_if (not (is_carried carried pair.abstract_name)) fields.Identifier)
    (form_wrong pair.transfer pdv.content))

-- the first that is wrong, counted from this number
abbrev pub wrong_at : ℕ → Option PdvField → Option Wrong → Option Wrong
wrong_at n None later = later
wrong_at n (Some field) later = Some (record { which = n; field = field })

abbrev pub first_wrong : ℕ → (Pdv → Option PdvField) → List Pdv → Option Wrong
first_wrong n test [] = None
first_wrong n test (pdv ∷ pdvs) = wrong_at n (test pdv) (first_wrong (n + 1) test pdvs)

abbrev pub under_set : List ℕ → List SetItem → Pdv → Option PdvField
under_set carried set pdv = pdv_wrong carried pdv (pair_of set pdv.id)

abbrev pub unless_left : List Proposal → (Pdv → Option PdvField) → Pdv → Option PdvField
unless_left definitions test pdv = if is_left definitions pdv then None else test pdv

-- the fault of a wrong value
abbrev pub told_wrong : List PdvPlaces → Option Wrong → Option Fault
told_wrong places None = None
told_wrong places (Some wrong) = Some (invalid_at (place_in wrong.field (places_at wrong.which places)))

abbrev pub checked : Option Fault → Result (Unit {0}) Fault
checked None = Ok tt
checked (Some fault) = Err fault

-- ---- values one after the other

-- values that were read, and those behind them
abbrev pub joined : List DataValue → Result (List DataValue) Fault → Result (List DataValue) Fault
joined values (Ok more) = Ok (values ++ more)
joined values (Err fault) = Err fault

-- ---- values of a CN whose list may stand, and of an AC that stands

abbrev pub values_associated : Base → PresentationConnect → List SetItem → List PdvPlaces → Result (List DataValue) Fault
values_associated base presentation set places = and_informed base set is_aarq (values_under base.tables set carriage.Association places presentation.user)

abbrev pub values_for : Base → PresentationConnect → List SetItem → List PdvPlaces → Result (List DataValue) Fault
values_for base presentation set places =
    if has_acse set then values_associated base presentation set places
    else left_values base presentation.definitions set places presentation.user

abbrev pub accepted_values : Base → PresentationAccept → List SetItem → List PdvPlaces → Result (List DataValue) Fault
accepted_values base presentation set places = and_informed base set is_acceptance (values_under base.tables set carriage.Association places presentation.user)

-- values of which no contexts are asked
abbrev pub unasked : Pdv → Option PdvField
unasked pdv = form_wrong Ber pdv.content

-- ---- transfers

-- the value of a transfer under the pair of its context, unless it may not stand
abbrev pub arrived_by : Tables → PdvPlaces → Pdv → Option Pair → Result Arrived Fault
arrived_by tables at pdv pair = unless_wrong (pdv_fault tables.name_oid at pdv pair) (arrived_under tables at pdv pair)
