-- How a direction is shown as its octets come.
use Rattle.std.specs.Prelude.{◌≡◌, ℕ, Bool, true, false, List, ◌++◌, flat_map, Option, Some, None}
use Rattle.osi_base.specs.declared.layer_words.Side.{Side}
use Rattle.stub_tables.specs.declared.tables.Tables.{Tables}
use Rattle.tpkt.specs.declared.reader_state.ReaderState.{ReaderState}
use Rattle.tpkt.specs.declared.packet.Packet.{Packet}
use Rattle.tpkt.specs.declared.packet.TFault.{TFault}
use Rattle.tpkt.specs.Stream.{HasRead}
use Rattle.trace_units.specs.declared.said_text.Said.{Said}
use Rattle.trace_units.specs.declared.said_text.Said.TheVariants as said
use Rattle.trace_text.specs.declared.direction.Direction.{Direction}
use Rattle.trace_text.specs.declared.direction.Directions as boths
use Rattle.trace_text.specs.Directions.{PacketSaid, stream_fault, AllSaid, Shows}
use Rattle.trace_text.specs.Trace.{Sent, line_from, sent_by, sent_more, ShowsWith}

-- what is said was put behind a text as a line, and whether the direction is over
abbrev pub PutSaid : Side → Said → Bool → List ℕ → List ℕ → Type 0
PutSaid from (said.Line text) over before after = (over ≡ false) × (after ≡ before ++ line_from from text)
PutSaid from (said.Fault text) over before after = (over ≡ true) × (after ≡ before ++ line_from from text)

abbrev pub PacketPut : Tables → Side → Packet → Bool → List ℕ → List ℕ → Type 0
PacketPut tables from packet over before after = (first : Said) × PacketSaid tables packet first × PutSaid from first over before after

-- the fault of a stream, where there is one, was put behind a text
abbrev pub StopPut : Side → Option TFault → Bool → List ℕ → List ℕ → Type 0
StopPut from None over before after = (over ≡ false) × (after ≡ before)
StopPut from (Some fault) over before after = (over ≡ true) × (after ≡ before ++ line_from from (stream_fault fault))

-- all that is said of packets and of the fault of their stream was put behind a text
abbrev pub AllPut : Tables → Side → List Packet → Option TFault → Bool → List ℕ → List ℕ → Type 0
AllPut tables from packets fault over before after =
    (shown : List (List ℕ)) × AllSaid tables packets fault over shown × (after ≡ before ++ flat_map (line_from from) shown)

-- A direction that isn't over: its reader took all that was sent and found no fault, and all of it was shown.
pub record GoesOn (tables : Tables) (sent : List ℕ) (shown : List (List ℕ)) (reader : Option ReaderState) : Type 0 where
  pub packets : List Packet
  pub held : ReaderState
  pub is : reader ≡ Some held
  pub read : HasRead sent packets (Some held)
  pub right : held.fault ≡ None
  pub said : AllSaid tables packets None false shown

-- Of a direction that is over the same is shown, whatever is sent behind it.
abbrev pub StandsIf : Bool → Tables → List ℕ → List (List ℕ) → Option ReaderState → Type 0
StandsIf true tables sent shown reader = (more : List ℕ) → Shows tables (sent ++ more) shown
StandsIf false tables sent shown reader = GoesOn tables sent shown reader

-- a direction in which this was sent and this was shown
abbrev pub Stands : Tables → List ℕ → List (List ℕ) → Direction → Type 0
Stands tables sent shown direction = StandsIf direction.is_over tables sent shown direction.reader

-- a direction in which this was sent
abbrev pub StandsFor : Tables → List ℕ → Direction → Type 0
StandsFor tables sent direction = (shown : List (List ℕ)) × Stands tables sent shown direction

-- what a direction shows with these octets was put behind a text
abbrev pub ShownWith : Tables → Side → List ℕ → List ℕ → Direction → List ℕ → List ℕ → Type 0
ShownWith tables from sent octets direction before after =
    StandsFor tables (sent ++ octets) direction × ((text : List ℕ) × ShowsWith tables from sent octets text × (after ≡ before ++ text))

-- both directions
abbrev pub BothStand : Tables → Sent → boths.Directions → Type 0
BothStand tables sent directions = StandsFor tables sent.a directions.a × StandsFor tables sent.b directions.b

abbrev pub RecordShown : Tables → Side → List ℕ → Sent → boths.Directions → List ℕ → List ℕ → Type 0
RecordShown tables from octets sent directions before after =
    BothStand tables (sent_more from octets sent) directions
    × ((text : List ℕ) × ShowsWith tables from (sent_by from sent) octets text × (after ≡ before ++ text))
