-- What a trace says of the octets that one end sent.
use Rattle.std.specs.Prelude.{◌≡◌, ℕ, Bool, true, false, List, [], ◌∷◌, Option, Some, None, codes}
use Rattle.stub_tables.specs.declared.tables.Tables.{Tables}
use Rattle.tpkt.specs.declared.packet.Packet.{Packet}
use Rattle.tpkt.specs.declared.packet.Packet.TheVariants as packets
use Rattle.tpkt.specs.declared.packet.TFault.{TFault}
use Rattle.tpkt.specs.Reader.{reading, nothing}
use Rattle.trace_units.specs.declared.said_text.Said.{Said}
use Rattle.trace_units.specs.declared.said_text.Said.TheVariants as said
use Rattle.trace_units.specs.Names.{fault_text}
use Rattle.trace_units.specs.Units.{TsduSaid}

-- what is said of a packet (X.224 13)
abbrev pub PacketSaid : Tables → Packet → Said → Type 0
PacketSaid tables (packets.Connect ends) result = result ≡ said.Line (codes "CR")
PacketSaid tables (packets.Confirm ends) result = result ≡ said.Line (codes "CC")
PacketSaid tables packets.Disconnect result = result ≡ said.Line (codes "DR")
PacketSaid tables packets.Problem result = result ≡ said.Line (codes "ER")
PacketSaid tables (packets.Tsdu tsdu) result = TsduSaid tables tsdu result

-- what is said of the place where a stream leaves the grammar of packets
abbrev pub stream_fault : TFault → List ℕ
stream_fault fault = fault_text (codes "transport") fault.place fault.kind

-- Behind a message of which a line is said more may be shown; behind a fault nothing is.
abbrev pub Behind : Said → (List (List ℕ) → Type 0) → Bool → List (List ℕ) → Type 0
Behind (said.Line text) Rest over shown = (rest : List (List ℕ)) × Rest rest × (shown ≡ text ∷ rest)
Behind (said.Fault text) Rest over shown = (over ≡ true) × (shown ≡ text ∷ [])

-- What is shown of packets and of the fault of their stream behind them, up to the first fault, and whether there is one.
abbrev pub AllSaid : Tables → List Packet → Option TFault → Bool → List (List ℕ) → Type 0
AllSaid tables [] None over shown = (over ≡ false) × (shown ≡ [])
AllSaid tables [] (Some fault) over shown = (over ≡ true) × (shown ≡ stream_fault fault ∷ [])
AllSaid tables (packet ∷ more) fault over shown =
    (first : Said) × PacketSaid tables packet first × Behind first (AllSaid tables more fault over) over shown

-- all that is shown of what one end sent, and whether its direction is over
abbrev pub ShowsUntil : Tables → List ℕ → Bool → List (List ℕ) → Type 0
ShowsUntil tables sent over shown = AllSaid tables (reading nothing sent).packets (reading nothing sent).held.fault over shown

abbrev pub Shows : Tables → List ℕ → List (List ℕ) → Type 0
Shows tables sent shown = (over : Bool) × ShowsUntil tables sent over shown
