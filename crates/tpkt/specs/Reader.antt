-- A reader takes the octets of a stream one by one, so it is all one how the stream is cut.
use Rattle.std.specs.Prelude.{◌≡◌, ℕ, ◌+◌, ◌-◌, ◌^◌, ◌<◌, ◌≤◌, ◌==◌, min, Bool, true, false, List, [], ◌∷◌, ◌++◌, length, Option, Some, None, Result, Ok, Err, if◌then◌else◌}
use Rattle.osi_base.specs.Limits.{tsdu_limit, unit_most}
use Rattle.tpkt.specs.declared.packet.Packet.{Packet}
use Rattle.tpkt.specs.declared.packet.Packet.TheVariants.{Tsdu}
use Rattle.tpkt.specs.declared.packet.TFault.{TFault}
use Rattle.tpkt.specs.declared.packet.TFed.{TFed}
use Rattle.tpkt.specs.declared.reader_state.Coming.{Coming}
use Rattle.tpkt.specs.declared.reader_state.ReaderState.{ReaderState}
use Rattle.tpkt.specs.declared.header.Header.{Header}
use Rattle.tpkt.specs.declared.header.Header.TheVariants.{Control, Data}
use Rattle.tpkt.specs.declared.header_stops.Stop.{Stop}
use Rattle.tpkt.specs.declared.header_stops.Stop.TheVariants.{Short, At}
use Rattle.tpkt.specs.Header.{header_at}

-- what a reader holds, and the packets that it has handed up
pub record ReaderProgress : Type 0 where
  pub packets : List Packet
  pub held : ReaderState

-- a place further on, which stands still at the end of its type
abbrev pub on : ℕ → ℕ → ℕ
on place n = min (place + n) (2 ^ 64 - 1)

-- what is held between two packets, where the TSDU has these octets so far
abbrev pub between : List ℕ → ℕ → ReaderState
between tsdu place = record { unread = []; tsdu = tsdu; coming = None; place = place; fault = None }

-- what a new reader holds
abbrev pub nothing : ReaderState
nothing = between [] 0

-- A DT is whole: the last of a TSDU hands it up.
abbrev pub closed : Bool → List Packet → List ℕ → ℕ → ReaderProgress
closed true packets tsdu place = record { packets = packets ++ Tsdu tsdu ∷ []; held = between [] place }
closed false packets tsdu place = record { packets = packets; held = between tsdu place }

-- so many octets of a DT are still to come
abbrev pub opened : ℕ → Bool → List Packet → List ℕ → ℕ → ReaderProgress
opened left last packets tsdu place =
    if left == 0 then closed last packets tsdu place else
    record { packets = packets; held = record { unread = []; tsdu = tsdu; coming = Some (record { left = left; last = last }); place = place; fault = None } }

-- what the octets of a header, which are read so, make of a reader
abbrev pub judged : Result Header Stop → List Packet → List ℕ → ℕ → List ℕ → ReaderProgress
judged (Err Short) packets tsdu place unread = record { packets = packets; held = record { unread = unread; tsdu = tsdu; coming = None; place = place; fault = None } }
judged (Err (At offset kind)) packets tsdu place unread =
    record { packets = packets; held = record { unread = []; tsdu = []; coming = None; place = place; fault = Some (record { place = on place offset; kind = kind }) } }
judged (Ok (Control p)) packets tsdu place unread = record { packets = packets ++ p ∷ []; held = between tsdu (on place (length unread)) }
judged (Ok (Data left last)) packets tsdu place unread = opened left last packets tsdu (on place (length unread))

-- The next octet. After a fault nothing is taken.
abbrev pub taken : Option TFault → Option Coming → ReaderProgress → ℕ → ReaderProgress
taken (Some fault) coming f x = f
taken None (Some coming) f x = opened (coming.left - 1) coming.last f.packets (f.held.tsdu ++ x ∷ []) (on f.held.place 1)
taken None None f x = judged (header_at (length f.held.tsdu) (f.held.unread ++ x ∷ [])) f.packets f.held.tsdu f.held.place (f.held.unread ++ x ∷ [])

unfoldable pub after : ReaderProgress → List ℕ → ReaderProgress
after f [] = f
after f (x ∷ xs) = after (taken f.held.fault f.held.coming f x) xs

-- what these octets make of a reader
abbrev pub reading : ReaderState → List ℕ → ReaderProgress
reading held octets = after (record { packets = []; held = held }) octets

-- What a feed of these octets gave; what was held is None where memory once ran out.
abbrev pub IsFed : Option ReaderState → List ℕ → TFed → Option ReaderState → Type 0
IsFed (Some old) octets fed (Some new) = (reading old octets ≡ record { packets = fed.packets; held = new }) × (fed.fault ≡ new.fault)
IsFed (Some old) octets fed None = ⊥
IsFed None octets fed new = ⊥

-- ---- what is true of all that is held

-- a DT whose data are coming lacks some, and its header is no longer kept
abbrev pub IsIdle : Option Coming → List ℕ → Type 0
IsIdle None unread = Unit {0}
IsIdle (Some coming) unread = (unread ≡ []) × (0 < coming.left)

abbrev pub left_of : Option Coming → ℕ
left_of None = 0
left_of (Some coming) = coming.left

pub record IsSoundReader (held : ReaderState) : Type 0 where
  pub short : header_at (length held.tsdu) held.unread ≡ Err Short
  pub within : length held.tsdu + left_of held.coming ≤ tsdu_limit
  pub idle : IsIdle held.coming held.unread

-- at most one packet and one TSDU
pub record IsKept (held : ReaderState) : Type 0 where
  pub packet : length held.unread ≤ unit_most + 4
  pub tsdu : length held.tsdu ≤ tsdu_limit
