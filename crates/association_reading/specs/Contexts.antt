-- Whether presentation data values may stand where they came: their contexts, transfer syntax names, abstract syntaxes
-- and forms (X.226 8.4.2).
use Rattle.std.specs.Prelude.{ℕ, List, [], ◌∷◌, Bool, true, false, not, ◌||◌, Option, Some, None}
use Rattle.osi_base.specs.Syntax.{name_of, acse_name, rtse_name}
use Rattle.osi_base.specs.declared.syntax.Pair.{Pair}
use Rattle.osi_base.specs.declared.syntax.Syntax.{Syntax}
use Rattle.osi_base.specs.declared.syntax.Syntax.TheVariants.{Ber, Der, Packed}
use Rattle.osi_base.specs.declared.layer_words.Layer.TheVariants as layers
use Rattle.osi_base.specs.declared.presentation_word.Pdv.{Pdv}
use Rattle.osi_base.specs.declared.presentation_word.PdvContent.{PdvContent}
use Rattle.osi_base.specs.declared.presentation_word.PdvContent.TheVariants as forms
use Rattle.stub_tables.specs.declared.tables.Tables.{Tables}
use Rattle.association_wire.specs.end_rules.Base.{Fault}
use Rattle.association_wire.specs.end_rules.Sets.{same_name}
use Rattle.association_wire.specs.end_rules.Faults.{fault_at, fault_if, or_fault}
use Rattle.association_reading.specs.declared.layer_of_values.LayerOfValues.{LayerOfValues}
use Rattle.association_reading.specs.declared.layer_of_values.LayerOfValues.TheVariants as carriage
use Rattle.association_reading.specs.Places.{PdvPlaces}

-- an invalid unit (6) at this place
abbrev pub invalid_at : ℕ → Fault
invalid_at place = fault_at layers.Presentation place 6

-- the name that stands is that of the pair
abbrev pub is_named : Syntax → Option (List ℕ) → Bool
is_named syntax None = true
is_named syntax (Some name) = same_name name (name_of syntax)

-- octets are read in each syntax, one value in BER and DER, bits in none
abbrev pub is_form : Syntax → PdvContent → Bool
is_form syntax (forms.OctetAligned octets) = true
is_form Ber (forms.SingleAsn1Type octets) = true
is_form Der (forms.SingleAsn1Type octets) = true
is_form Packed (forms.SingleAsn1Type octets) = false
is_form syntax (forms.Arbitrary bits) = false

-- the abstract syntax of the values that a message carries
abbrev pub name_carried : Tables → LayerOfValues → List ℕ
name_carried tables carriage.Association = acse_name
name_carried tables carriage.Transfer = rtse_name
name_carried tables carriage.Module = tables.name_oid

-- A message carries values of one abstract syntax. One of association control elsewhere is a fault of association control,
-- and none of the presentation.
abbrev pub is_carried : List ℕ → List ℕ → Bool
is_carried carried name = same_name name carried || same_name name acse_name

abbrev pub form_fault : PdvPlaces → Syntax → PdvContent → Option Fault
form_fault at syntax content = fault_if (not (is_form syntax content)) (invalid_at at.form)

-- an absent context, another transfer syntax name, another abstract syntax, another form
abbrev pub pdv_fault : List ℕ → PdvPlaces → Pdv → Option Pair → Option Fault
pdv_fault carried at pdv None = Some (invalid_at at.identifier)
pdv_fault carried at pdv (Some pair) =
    or_fault (fault_if (not (is_named pair.transfer pdv.transfer)) (invalid_at at.name))
    (or_fault (fault_if (not (is_carried carried pair.abstract_name)) (invalid_at at.identifier))
    (form_fault at pair.transfer pdv.content))

-- values with their places, of which each unit has as many
abbrev pub first_place : List PdvPlaces → PdvPlaces
first_place [] = record { name = 0; identifier = 0; form = 0 }
first_place (at ∷ places) = at

abbrev pub other_places : List PdvPlaces → List PdvPlaces
other_places [] = []
other_places (at ∷ places) = places

-- the fault of the first that has one
abbrev pub first_fault : (PdvPlaces → Pdv → Option Fault) → List PdvPlaces → List Pdv → Option Fault
first_fault fault places [] = None
first_fault fault places (pdv ∷ pdvs) = or_fault (fault (first_place places) pdv) (first_fault fault (other_places places) pdvs)
