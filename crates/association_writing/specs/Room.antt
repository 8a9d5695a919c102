-- Which messages may be written: the header of a CR has room for its fields (X.224 13.3); and the value of a transfer
-- (X.228 7.3).
use Rattle.std.specs.Prelude.{Some}
use Rattle.osi_base.specs.declared.presentation_word.Pdv.{Pdv}
use Rattle.stub_tables.specs.declared.tables.Tables.{Tables}
use Rattle.end_rules.specs.Base.{Item}
use Rattle.tpkt.specs.Written.{HasRoom}
use Rattle.end_rules.specs.Messages.{Remote, TransportUnit, ConnectionRequest, ConnectionConfirm, DisconnectRequest, TransportError, Message, Transport, Session}
use Rattle.association_wire.specs.Values.{pdv_of}
use Rattle.association_wire.specs.Written.{request_ends}

abbrev pub HasRoomFor : TransportUnit → Type 0
HasRoomFor (ConnectionRequest source size calling called) = HasRoom (request_ends source size calling called)
HasRoomFor (ConnectionConfirm destination size) = Unit {0}
HasRoomFor (DisconnectRequest destination) = Unit {0}
HasRoomFor TransportError = Unit {0}

abbrev pub MayStand : Message → Type 0
MayStand (Transport unit) = HasRoomFor unit
MayStand (Session word) = Unit {0}

-- an item as a value of its context
abbrev pub item_pdv : Tables → Item → Pdv
item_pdv tables item = pdv_of tables (record { id = item.id; pair = Some item.pair; content = Remote item.apdu })
