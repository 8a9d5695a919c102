-- The octets of a transfer as the value that they bring, and with it how the rules of an association see spellings
-- (X.226 8.4.2, X.228 7.3).
use Rattle.std.specs.Prelude.{ℕ, List, Option, Some, None, Result, Ok, Err}
use Rattle.osi_base.specs.PdvContent.{octets_of}
use Rattle.osi_base.specs.declared.syntax.Pair.{Pair}
use Rattle.osi_base.specs.declared.layer_words.SetItem.{SetItem}
use Rattle.osi_base.specs.declared.presentation_word.Pdv.{Pdv}
use Rattle.fixed_tables.specs.declared.pdu.PduFault.{PduFault}
use Rattle.rtse_apdus.specs.Transfer.{transfer_at, written_transfer}
use Rattle.stub_tables.specs.declared.tables.Tables.{Tables}
use Rattle.association_wire.specs.end_rules.Base.{Item, Fault, Arrived, Whole, Raw, Spellings}
use Rattle.osi_base.specs.SetPlaces.{pair_of}
use Rattle.association_wire.specs.end_rules.Messages.{ValueContent, Remote, Unread, Association, Plea, Part, value_of_item}
use Rattle.association_wire.specs.end_rules.Faults.{acse_fault, rtse_fault}
use Rattle.end_wire.specs.Values.{spellings_with}
use Rattle.association_wire.specs.Values.{pdv_of}
use Rattle.association_reading.specs.declared.layer_of_values.LayerOfValues.TheVariants as carriage
use Rattle.association_reading.specs.Places.{PdvPlaces, places_of, spot_at}
use Rattle.association_reading.specs.Contexts.{invalid_at, pdv_fault}
use Rattle.association_reading.specs.Values.{content_under}

-- a transfer carries one value of the module
abbrev pub arrived_as : PdvPlaces → ℕ → Pair → Result ValueContent Fault → Result Arrived Fault
arrived_as at id pair (Ok (Remote apdu)) = Ok (Whole (record { id = id; pair = pair; apdu = apdu }))
arrived_as at id pair (Ok (Unread octets)) = Ok (Raw id pair octets)
arrived_as at id pair (Ok (Association apdu user)) = Err acse_fault
arrived_as at id pair (Ok (Plea priority)) = Err (invalid_at at.identifier)
arrived_as at id pair (Ok (Part octets)) = Err (invalid_at at.identifier)
arrived_as at id pair (Err fault) = Err fault

abbrev pub arrived_under : Tables → PdvPlaces → Pdv → Option Pair → Result Arrived Fault
arrived_under tables at pdv None = Err (invalid_at at.identifier)
arrived_under tables at pdv (Some pair) = arrived_as at pdv.id pair (content_under tables carriage.Module pair (octets_of pdv.content))

abbrev pub unless_wrong : Option Fault → Result Arrived Fault → Result Arrived Fault
unless_wrong None arrived = arrived
unless_wrong (Some fault) arrived = Err fault

abbrev pub arrived_in : Tables → List SetItem → PdvPlaces → Result Pdv PduFault → Result Arrived Fault
arrived_in tables set at (Err fault) = Err rtse_fault
arrived_in tables set at (Ok pdv) =
    unless_wrong (pdv_fault tables.name_oid at pdv (pair_of set pdv.id)) (arrived_under tables at pdv (pair_of set pdv.id))

-- the octets of a transfer under a set; places are counted in them
abbrev pub arrived_at : Tables → List SetItem → List ℕ → Result Arrived Fault
arrived_at tables set octets = arrived_in tables set (places_of (spot_at 0 octets)) (transfer_at octets)

abbrev pub transferred : Tables → Item → List ℕ
transferred tables item = written_transfer (pdv_of tables (value_of_item item))

-- how the rules of an association see spellings
abbrev pub association_spellings : Tables → Spellings
association_spellings tables = spellings_with tables (transferred tables) (arrived_at tables)
