-- Packets, and the transport units in them, as octets (RFC 1006 6; X.224 13, class 0).
use Rattle.std.specs.Prelude.{◌≡◌, ℕ, ◌+◌, ◌/◌, ◌%◌, ◌<◌, ◌≤◌, ◌==◌, Bool, true, false, List, [], ◌∷◌, ◌++◌, length, Option, Some, None, if◌then◌else◌}
use Rattle.std.specs.List.{flat_map}
use Rattle.osi_base.specs.Limits.{tsdu_limit, unit_most, past_two_octets, most_header}
use Rattle.tpkt.specs.declared.packet.ConnectionFields.{ConnectionFields}
use Rattle.tpkt.specs.declared.packet.Packet.{Packet}
use Rattle.tpkt.specs.declared.packet.Packet.TheVariants.{Connect, Confirm, Disconnect, Problem, Tsdu}

-- the two octets of a number, the higher first
abbrev pub two : ℕ → List ℕ
two n = n / 256 ∷ n % 256 ∷ []

-- a number of two octets
abbrev pub IsTwo : ℕ → Type 0
IsTwo n = n < past_two_octets

-- a packet: version 3, an octet that is 0, the length of the whole packet, and one unit (RFC 1006 6)
abbrev pub packet : List ℕ → List ℕ
packet unit = 3 ∷ 0 ∷ two (length unit + 4) ++ unit

-- a header: its length without itself, and its fields (X.224 13.2.1)
abbrev pub header : List ℕ → List ℕ
header fields = length fields ∷ fields

-- a parameter of the variable part: its code, the length of its value, and the value (X.224 13.2.3)
abbrev pub parameter : ℕ × List ℕ → List ℕ
parameter p = p.0 ∷ length p.1 ∷ p.1

-- the values of the parameters of one code
abbrev pub values : ℕ → List (ℕ × List ℕ) → List (List ℕ)
values code [] = []
values code (p ∷ ps) = if p.0 == code then p.1 ∷ values code ps else values code ps

-- these values are those of a size of one octet, or of none (X.224 13.3.4)
abbrev pub IsSize : Option ℕ → List (List ℕ) → Type 0
IsSize None vs = vs ≡ []
IsSize (Some size) vs = vs ≡ (size ∷ []) ∷ []

-- these values are those of a selector; one that isn't there is empty
abbrev pub IsSelector : List ℕ → List (List ℕ) → Type 0
IsSelector selector [] = selector ≡ []
IsSelector selector (v ∷ []) = selector ≡ v
IsSelector selector (v ∷ w ∷ vs) = ⊥

-- A connection request or confirm: its code, the two references, class 0, and parameters in any order, of which the
-- size, the calling and the called selector stand at most once. Others are passed over (X.224 13.3, 13.4).
pub record IsConnection (code : ℕ) (ends : ConnectionFields) (unit : List ℕ) : Type 0 where
  pub destination : IsTwo ends.destination
  pub source : IsTwo ends.source
  pub parameters : List (ℕ × List ℕ)
  pub whole : unit ≡ header (code ∷ two ends.destination ++ two ends.source ++ 0 ∷ flat_map parameter parameters)
  pub size : IsSize ends.size (values 192 parameters)
  pub calling : IsSelector ends.calling (values 193 parameters)
  pub called : IsSelector ends.called (values 194 parameters)

-- a disconnect request: its code, the two references, a reason, and parameters, which are passed over (X.224 13.5)
pub record IsDisconnect (unit : List ℕ) : Type 0 where
  pub destination : ℕ
  pub source : ℕ
  pub reason : ℕ
  pub parameters : List ℕ
  pub to : IsTwo destination
  pub by_source : IsTwo source
  pub whole : unit ≡ header (128 ∷ two destination ++ two source ++ reason ∷ parameters)

-- a unit that tells an error: its code, and what is passed over (X.224 13.12)
pub record IsProblem (unit : List ℕ) : Type 0 where
  pub fields : List ℕ
  pub whole : unit ≡ header (112 ∷ fields)

-- what a unit is: one that is handed up as it stands, or a DT, which may be the last of its TSDU
pub data Tpdu : Type 0 where
  Whole : Packet → Tpdu
  Part : Bool → List ℕ → Tpdu

-- the mark of a DT (X.224 13.7.3)
abbrev pub mark : Bool → ℕ
mark true = 128
mark false = 0

-- the units of class 0, without the limits on their length
abbrev pub Spells : Tpdu → List ℕ → Type 0
Spells (Part last octets) unit = unit ≡ header (240 ∷ mark last ∷ []) ++ octets
Spells (Whole (Connect ends)) unit = IsConnection 224 ends unit × (length unit ≤ most_header)
Spells (Whole (Confirm ends)) unit = IsConnection 208 ends unit × (length unit ≤ most_header)
Spells (Whole Disconnect) unit = IsDisconnect unit × (length unit ≤ most_header)
Spells (Whole Problem) unit = IsProblem unit × (length unit ≤ most_header)
Spells (Whole (Tsdu octets)) unit = ⊥

-- the data of a TSDU that has begun, after a unit
abbrev pub begun_after : List ℕ → Tpdu → List ℕ
begun_after begun (Whole p) = begun
begun_after begun (Part true octets) = []
begun_after begun (Part false octets) = begun ++ octets

-- the TSDU that a unit goes on with stays within its limit
abbrev pub IsWithin : List ℕ → Tpdu → Type 0
IsWithin begun (Whole p) = Unit {0}
IsWithin begun (Part last octets) = length begun + length octets ≤ tsdu_limit

-- a unit that may stand in a packet where the data of a TSDU has begun
pub record IsUnit (begun : List ℕ) (u : Tpdu) (unit : List ℕ) : Type 0 where
  pub spells : Spells u unit
  pub at_least : 3 ≤ length unit
  pub at_most : length unit ≤ unit_most
  pub within : IsWithin begun u

-- The stream is the packets of these units, one after the other, and then the rest.
abbrev pub Splits : List ℕ → List ℕ → List Tpdu → List ℕ → Type 0
Splits begun stream [] rest = stream ≡ rest
Splits begun stream (u ∷ us) rest = (unit more : List ℕ) × IsUnit begun u unit × (stream ≡ packet unit ++ more) × Splits (begun_after begun u) more us rest

-- the data of a TSDU that has begun, after all of these units
abbrev pub begun_by : List ℕ → List Tpdu → List ℕ
begun_by begun [] = begun
begun_by begun (u ∷ us) = begun_by (begun_after begun u) us

-- what is handed up for a unit
abbrev pub handed_for : List ℕ → Tpdu → List Packet
handed_for begun (Whole p) = p ∷ []
handed_for begun (Part true octets) = Tsdu (begun ++ octets) ∷ []
handed_for begun (Part false octets) = []

-- what is handed up for units, in order
abbrev pub handed : List ℕ → List Tpdu → List Packet
handed begun [] = []
handed begun (u ∷ us) = handed_for begun u ++ handed (begun_after begun u) us
