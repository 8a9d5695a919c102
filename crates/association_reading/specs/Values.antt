-- What presentation data values mean, each under the pair of its context (X.226 8.4.2, X.227 9, X.228 9, X.882 9).
use Rattle.std.specs.Prelude.{ℕ, List, [], ◌∷◌, map, Bool, if◌then◌else◌, Option, Some, None, Result, Ok, Err}
use Rattle.osi_base.specs.PdvContent.{octets_of}
use Rattle.osi_base.specs.declared.syntax.Pair.{Pair}
use Rattle.osi_base.specs.declared.layer_words.Layer.TheVariants as layers
use Rattle.osi_base.specs.declared.layer_words.SetItem.{SetItem}
use Rattle.osi_base.specs.declared.acse_word.External.{External}
use Rattle.osi_base.specs.declared.acse_word.Acse.{Acse}
use Rattle.osi_base.specs.declared.acse_word.Acse.TheVariants as acse
use Rattle.osi_base.specs.declared.rtse_word.Rtse.{Rtse}
use Rattle.osi_base.specs.declared.rtse_word.Rtse.TheVariants as rtse
use Rattle.osi_base.specs.declared.presentation_word.Pdv.{Pdv}
use Rattle.fixed_tables.specs.declared.pdu.PduFault.{PduFault}
use Rattle.fixed_tables.specs.declared.pdu.PduFault.TheVariants as why
use Rattle.acse.specs.Fields.{acse_at}
use Rattle.rtse_apdus.specs.Reading.{rtse_at}
use Rattle.stub_tables.specs.declared.tables.Tables.{Tables}
use Rattle.association_wire.specs.end_rules.Base.{Base, Fault, is_reliable}
use Rattle.association_wire.specs.end_rules.Sets.{same_name}
use Rattle.osi_base.specs.SetPlaces.{pair_of}
use Rattle.osi_base.specs.Syntax.{rtse_name}
use Rattle.association_wire.specs.end_rules.Messages.{Information, Transferring, Other, ValueContent, Unread, Association, Plea, Part, DataValue}
use Rattle.association_wire.specs.end_rules.Connecting.{is_on_rtse}
use Rattle.association_wire.specs.end_rules.Faults.{fault_at, acse_fault, rtse_fault}
use Rattle.end_wire.specs.Values.{content_at}
use Rattle.association_reading.specs.declared.layer_of_values.LayerOfValues.{LayerOfValues}
use Rattle.association_reading.specs.declared.layer_of_values.LayerOfValues.TheVariants as carriage
use Rattle.association_reading.specs.Places.{PdvPlaces}
use Rattle.association_reading.specs.Contexts.{name_carried, pdv_fault, first_fault}

-- ---- APDUs of association control: their user information stands beside them

abbrev pub without_user : Acse → Acse
without_user (acse.AssociateRequest version context user) = acse.AssociateRequest version context []
without_user (acse.AssociateResponse context result diagnostic user) = acse.AssociateResponse context result diagnostic []
without_user (acse.ReleaseRequest reason) = acse.ReleaseRequest reason
without_user (acse.ReleaseResponse reason) = acse.ReleaseResponse reason
without_user (acse.Abort source user) = acse.Abort source []

abbrev pub externals_of : Acse → List External
externals_of (acse.AssociateRequest version context user) = user
externals_of (acse.AssociateResponse context result diagnostic user) = user
externals_of (acse.ReleaseRequest reason) = []
externals_of (acse.ReleaseResponse reason) = []
externals_of (acse.Abort source user) = user

abbrev pub other : External → Information
other e = Other e.id e.value

abbrev pub associated : Acse → ValueContent
associated apdu = Association (without_user apdu) (map other (externals_of apdu))

-- what the octets of an APDU are not, with the place of the field in the APDU
abbrev pub acse_content : Result Acse PduFault → Result ValueContent Fault
acse_content (Ok apdu) = Ok (associated apdu)
acse_content (Err (why.At place kind)) = Err (fault_at layers.Acse place 0)
acse_content (Err why.NoMemory) = Err acse_fault

-- ---- APDUs of reliable transfer: among values a plea for the turn and a part of a transfer

abbrev pub unreadable_rtse : PduFault → Fault
unreadable_rtse (why.At place kind) = fault_at layers.Rtse place 4
unreadable_rtse why.NoMemory = rtse_fault

abbrev pub rtse_content : Result Rtse PduFault → Result ValueContent Fault
rtse_content (Ok (rtse.TurnPlease priority)) = Ok (Plea priority)
rtse_content (Ok (rtse.Transfer octets)) = Ok (Part octets)
rtse_content (Ok apdu) = Err rtse_fault
rtse_content (Err fault) = Err (unreadable_rtse fault)

-- ---- a value under its pair

-- The message says how its values are read, so that a module whose name is that of association control or of reliable transfer
-- is as any other. A value on another context is one of association control.
abbrev pub content_under : Tables → LayerOfValues → Pair → List ℕ → Result ValueContent Fault
content_under tables carriage.Association pair octets = acse_content (acse_at octets)
content_under tables carriage.Transfer pair octets =
    if same_name pair.abstract_name rtse_name then rtse_content (rtse_at octets) else acse_content (acse_at octets)
content_under tables carriage.Module pair octets =
    if same_name pair.abstract_name tables.name_oid then Ok (content_at tables pair.transfer octets) else acse_content (acse_at octets)

abbrev pub content_by : Tables → LayerOfValues → Option Pair → List ℕ → Result ValueContent Fault
content_by tables carried None octets = Ok (Unread octets)
content_by tables carried (Some pair) octets = content_under tables carried pair octets

abbrev pub with_content : ℕ → Option Pair → Result ValueContent Fault → Result DataValue Fault
with_content id pair (Ok content) = Ok (record { id = id; pair = pair; content = content })
with_content id pair (Err fault) = Err fault

abbrev pub value_by : Tables → LayerOfValues → Option Pair → Pdv → Result DataValue Fault
value_by tables carried pair pdv = with_content pdv.id pair (content_by tables carried pair (octets_of pdv.content))

abbrev pub value_in : Tables → LayerOfValues → List SetItem → Pdv → Result DataValue Fault
value_in tables carried set pdv = value_by tables carried (pair_of set pdv.id) pdv

-- ---- values one after the other: the contexts and forms of all, then what each is

abbrev pub before_values : Result DataValue Fault → Result (List DataValue) Fault → Result (List DataValue) Fault
before_values (Err fault) values = Err fault
before_values (Ok value) (Err fault) = Err fault
before_values (Ok value) (Ok values) = Ok (value ∷ values)

abbrev pub all_values : (Pdv → Result DataValue Fault) → List Pdv → Result (List DataValue) Fault
all_values read [] = Ok []
all_values read (pdv ∷ pdvs) = before_values (read pdv) (all_values read pdvs)

abbrev pub unless_fault : Option Fault → Result (List DataValue) Fault → Result (List DataValue) Fault
unless_fault None values = values
unless_fault (Some fault) values = Err fault

-- values of a message
abbrev pub values_under : Tables → List SetItem → LayerOfValues → List PdvPlaces → List Pdv → Result (List DataValue) Fault
values_under tables set carried places pdvs =
    unless_fault (first_fault (λ (at : PdvPlaces) (pdv : Pdv). pdv_fault (name_carried tables carried) at pdv (pair_of set pdv.id)) places pdvs)
    (all_values (value_in tables carried set) pdvs)

-- ---- user information: in reliable mode the first EXTERNAL is read, where its context is an accepted one of reliable
-- transfer, in an APDU of the kind that the message carries

abbrev pub informed : ℕ → List Information → Result Rtse PduFault → Result (List Information) Fault
informed id more (Ok apdu) = Ok (Transferring id apdu ∷ more)
informed id more (Err fault) = Err (unreadable_rtse fault)

abbrev pub first_informed : List SetItem → List Information → Result (List Information) Fault
first_informed accepted [] = Ok []
first_informed accepted (Transferring id apdu ∷ more) = Ok (Transferring id apdu ∷ more)
first_informed accepted (Other id octets ∷ more) =
    if is_on_rtse accepted id then informed id more (rtse_at octets) else Ok (Other id octets ∷ more)

abbrev pub with_user : DataValue → Acse → Result (List Information) Fault → Result (List DataValue) Fault
with_user value apdu (Ok user) = Ok (record value { content = Association apdu user } ∷ [])
with_user value apdu (Err fault) = Err fault

abbrev pub informed_value : List SetItem → (Acse → Bool) → DataValue → ValueContent → Result (List DataValue) Fault
informed_value accepted is_kind value (Association apdu user) =
    if is_kind apdu then with_user value apdu (first_informed accepted user) else Ok (value ∷ [])
informed_value accepted is_kind value content = Ok (value ∷ [])

abbrev pub informed_values : List SetItem → (Acse → Bool) → List DataValue → Result (List DataValue) Fault
informed_values accepted is_kind (value ∷ []) = informed_value accepted is_kind value value.content
informed_values accepted is_kind values = Ok values

abbrev pub and_informed : Base → List SetItem → (Acse → Bool) → Result (List DataValue) Fault → Result (List DataValue) Fault
and_informed base accepted is_kind (Err fault) = Err fault
and_informed base accepted is_kind (Ok values) =
    if is_reliable base.mode then informed_values accepted is_kind values else Ok values
