-- The one spelling of what is written.
use Rattle.std.specs.Prelude.{ℕ, zero, suc, ◌-◌, ◌≤◌, Bool, true, false, List, [], ◌∷◌, ◌++◌, length, take, drop, Option, Some, None, nat_le, if◌then◌else◌}
use Rattle.std.specs.List.{flat_map}
use Rattle.osi_base.specs.Limits.{most_header_fields}
use Rattle.tpkt.specs.declared.packet.ConnectionFields.{ConnectionFields}
use Rattle.tpkt.specs.Wire.{two, packet, header, parameter, mark}

-- The DTs of a TSDU: each but the last has as much data as it may, and the last has what is left. The fuel is the number of octets.
abbrev pub cut : ℕ → ℕ → List ℕ → List (Bool × List ℕ)
cut zero most octets = (true, octets) ∷ []
cut (suc fuel) most octets = if nat_le (length octets) most then (true, octets) ∷ [] else (false, take most octets) ∷ cut fuel most (drop most octets)

-- with so many octets of data in each
unfoldable pub parts_of : ℕ → List ℕ → List (Bool × List ℕ)
parts_of most octets = cut (length octets) most octets

-- the packet of a DT
abbrev pub part_packet : Bool × List ℕ → List ℕ
part_packet p = packet (header (240 ∷ mark p.0 ∷ []) ++ p.1)

-- a TSDU, in DTs of this many octets at most, of which three are header
abbrev pub written_tsdu : ℕ → List ℕ → List ℕ
written_tsdu size tsdu = flat_map part_packet (parts_of (size - 3) tsdu)

-- the parameters as they are written: the size, the calling and the called selector, each where it is there
abbrev pub size_parameter : Option ℕ → List (ℕ × List ℕ)
size_parameter None = []
size_parameter (Some size) = (192, size ∷ []) ∷ []

abbrev pub selector_parameter : ℕ → List ℕ → List (ℕ × List ℕ)
selector_parameter code [] = []
selector_parameter code (x ∷ xs) = (code, x ∷ xs) ∷ []

abbrev pub parameters_of : ConnectionFields → List (ℕ × List ℕ)
parameters_of ends = size_parameter ends.size ++ selector_parameter 193 ends.calling ++ selector_parameter 194 ends.called

abbrev pub connection_fields : ℕ → ConnectionFields → List ℕ
connection_fields code ends = code ∷ two ends.destination ++ two ends.source ++ 0 ∷ flat_map parameter (parameters_of ends)

-- a packet of a unit other than a DT
abbrev pub control_packet : List ℕ → List ℕ
control_packet fields = packet (header fields)

-- the header of a connection request or confirm has room for its fields
abbrev pub HasRoom : ConnectionFields → Type 0
HasRoom ends = length (connection_fields 0 ends) ≤ most_header_fields
