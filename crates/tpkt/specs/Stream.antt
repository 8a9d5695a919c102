-- A stream of packets, read from its front, and what a reader makes of it.
use Rattle.std.specs.Prelude.{◌≡◌, ◌≢◌, ℕ, ◌+◌, ◌*◌, ◌⊎◌, List, [], ◌∷◌, ◌++◌, length, take, drop, slice_index, Option, Some, None, Result, Ok, Err, nat_lt, if◌then◌else◌}
use Rattle.osi_base.specs.declared.layer_words.Kind.{Kind}
use Rattle.tpkt.specs.declared.packet.Packet.{Packet}
use Rattle.tpkt.specs.declared.packet.TFault.{TFault}
use Rattle.tpkt.specs.declared.reader_state.ReaderState.{ReaderState}
use Rattle.tpkt.specs.declared.header.Header.{Header}
use Rattle.tpkt.specs.declared.header.Header.TheVariants.{Control, Data}
use Rattle.tpkt.specs.declared.header_stops.Stop.{Stop}
use Rattle.tpkt.specs.declared.header_stops.Stop.TheVariants.{Short, At}
use Rattle.tpkt.specs.Wire.{packet, Tpdu, Whole, Part, IsUnit, Splits, begun_by, handed}
use Rattle.tpkt.specs.Header.{◌>>=◌, header_at}
use Rattle.tpkt.specs.Reader.{on, reading, nothing}

-- how many octets a packet says that it has
abbrev pub stated_length : List ℕ → ℕ
stated_length xs = 256 * slice_index xs 2 + slice_index xs 3

-- the unit behind its header, and what follows it
abbrev pub unit_behind : List ℕ → Header → Result (Tpdu × List ℕ) Stop
unit_behind xs (Control p) = Ok (Whole p, drop (stated_length xs) xs)
unit_behind xs (Data left last) = if nat_lt (length (drop 7 xs)) left then Err Short else Ok (Part last (take left (drop 7 xs)), drop left (drop 7 xs))

-- the unit at the front of a stream, where the data of a TSDU has begun, and what follows it
unfoldable pub unit_at : List ℕ → List ℕ → Result (Tpdu × List ℕ) Stop
unit_at begun xs = header_at (length begun) xs >>= unit_behind xs

-- a unit stands in front, where the data of a TSDU has begun
abbrev pub IsInFront : List ℕ → List ℕ → Type 0
IsInFront begun xs = (u : Tpdu) × ((unit rest : List ℕ) × IsUnit begun u unit × (xs ≡ packet unit ++ rest))

-- One holds and no other: a unit stands in front, there is a first fault, or nothing is wrong yet and more must come.
abbrev pub OneHolds : List ℕ → List ℕ → Type 0
OneHolds begun xs =
    (IsInFront begun xs × ((s : Stop) → unit_at begun xs ≢ Err s))
    ⊎ (((IsInFront begun xs → ⊥) × ((offset : ℕ) × ((kind : Kind) × (unit_at begun xs ≡ Err (At offset kind)))))
    ⊎ ((IsInFront begun xs → ⊥) × (unit_at begun xs ≡ Err Short)))

-- Where the next unit isn't there: nothing is wrong yet, or it is this fault, counted from where the unit begins.
abbrev pub IsStop : Result (Tpdu × List ℕ) Stop → ℕ → Option TFault → Type 0
IsStop (Err Short) start None = Unit {0}
IsStop (Err (At offset kind)) start (Some fault) = (fault.place ≡ on start offset) × (fault.kind ≡ kind)
IsStop _ start fault = ⊥

-- What is made of a stream: the packets of its units, up to where no further unit is there, and its first fault if there is one.
pub record ReadsAsPackets (stream : List ℕ) (packets : List Packet) (fault : Option TFault) : Type 0 where
  pub units : List Tpdu
  pub start : ℕ
  pub rest : List ℕ
  pub splits : Splits [] stream units rest
  pub starts : start + length rest ≡ length stream
  pub hands : packets ≡ handed [] units
  pub stop : IsStop (unit_at (begun_by [] units) rest) start fault

-- a reader that took this stream from a connection's first octet on, and handed up these packets on the way
abbrev pub HasRead : List ℕ → List Packet → Option ReaderState → Type 0
HasRead stream packets None = ⊥
HasRead stream packets (Some held) = reading nothing stream ≡ record { packets = packets; held = held }

-- a new reader makes this packet of these octets, and no fault
abbrev pub IsReadAs : Packet → List ℕ → Type 0
IsReadAs p octets = ((reading nothing octets).packets ≡ p ∷ []) × ((reading nothing octets).held.fault ≡ None)
