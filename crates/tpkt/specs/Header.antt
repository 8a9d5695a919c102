-- Reading the header of a packet from left to right, with the first field that breaks the grammar.
use Rattle.std.specs.Prelude.{◌≡◌, ℕ, zero, suc, ◌+◌, ◌-◌, ◌*◌, ◌==◌, ◌&&◌, ◌||◌, Bool, true, false, List, [], ◌∷◌, length, take, drop, Option, Some, None, Result, Ok, Err, nat_lt, nat_le, is_none, if◌then◌else◌}
use Rattle.osi_base.specs.declared.layer_words.Kind.TheVariants as kinds
use Rattle.osi_base.specs.Limits.{tsdu_limit, reserved_length}
use Rattle.tpkt.specs.declared.packet.ConnectionFields.{ConnectionFields}
use Rattle.tpkt.specs.declared.packet.Packet.{Packet}
use Rattle.tpkt.specs.declared.packet.Packet.TheVariants.{Connect, Confirm, Disconnect, Problem}
use Rattle.tpkt.specs.declared.header.Header.{Header}
use Rattle.tpkt.specs.declared.header.Header.TheVariants.{Control, Data}
use Rattle.tpkt.specs.declared.parameters.Seen.{Seen}
use Rattle.tpkt.specs.declared.header_stops.Stop.{Stop}
use Rattle.tpkt.specs.declared.header_stops.Stop.TheVariants.{Short, At}
use Rattle.tpkt.specs.declared.header_stops.Halt.{Halt}
use Rattle.tpkt.specs.declared.header_stops.Halt.TheVariants as halts

infixl 10 ◌>>=◌
abbrev pub ◌>>=◌ : {A B : Type 0} → Result A Stop → (A → Result B Stop) → Result B Stop
(Ok x) >>= f = f x
(Err e) >>= f = Err e

-- What a function returned is what reading gives, unless memory ran out.
abbrev pub FailsWith : {Y : Type 0} → Halt → Result Y Stop → Type 0
FailsWith halts.Memory read = Unit {0}
FailsWith (halts.Stop s) read = read ≡ Err s

abbrev pub Gives : {Y : Type 0} → Result Y Halt → Result Y Stop → Type 0
Gives (Ok x) read = read ≡ Ok x
Gives (Err e) read = FailsWith e read

-- the same for what is seen by a view
abbrev pub GivesBy : {X Y : Type 0} → (X → Y) → Result X Halt → Result Y Stop → Type 0
GivesBy view (Ok x) read = read ≡ Ok (view x)
GivesBy view (Err e) read = FailsWith e read

-- ---- the parameters of a connection request or confirm

abbrev pub nothing_seen : Seen
nothing_seen = record { size = None; calling = None; called = None }

-- The parameter at this offset is taken: the size has one octet; the size and each selector come once; others are passed over.
unfoldable pub with_size : ℕ → Seen → List ℕ → Result Seen Stop
with_size offset seen (size ∷ []) = if is_none seen.size then Ok (record seen { size = Some size }) else Err (At offset kinds.Content)
with_size offset seen [] = Err (At offset kinds.Content)
with_size offset seen (size ∷ more ∷ rest) = Err (At offset kinds.Content)

unfoldable pub with_parameter : ℕ → Seen → ℕ → List ℕ → Result Seen Stop
with_parameter offset seen code value =
    if code == 192 then with_size offset seen value else
    (if code == 193 then (if is_none seen.calling then Ok (record seen { calling = Some value }) else Err (At offset kinds.Content)) else
    (if code == 194 then (if is_none seen.called then Ok (record seen { called = Some value }) else Err (At offset kinds.Content)) else
    Ok seen))

-- A value behind a code, in a header of which this many octets are left from the code on.
unfoldable pub value_at : ℕ → ℕ → ℕ → List ℕ → Result (ℕ × List ℕ × List ℕ) Stop
value_at left offset code [] = Err Short
value_at left offset code (len ∷ rest) =
    if nat_lt left (len + 2) then Err (At offset kinds.Content) else
    (if nat_lt (length rest) len then Err Short else Ok (code, take len rest, drop len rest))

-- The parameter at the front: its code, its value, and what follows it.
unfoldable pub parameter_at : ℕ → ℕ → List ℕ → Result (ℕ × List ℕ × List ℕ) Stop
parameter_at left offset [] = Err Short
parameter_at left offset (code ∷ rest) = if left == 1 then Err (At offset kinds.Content) else value_at left offset code rest

-- All parameters in what is left of a header, of which the octets may not all be there; the fuel is at least their number.
unfoldable pub parameters_at : ℕ → ℕ → ℕ → Seen → List ℕ → Result Seen Stop
parameters_at fuel zero offset seen octets = Ok seen
parameters_at zero (suc left) offset seen octets = Ok seen
parameters_at (suc fuel) (suc left) offset seen octets = do
  p ← parameter_at (suc left) offset octets
  next ← with_parameter offset seen p.0 p.1
  parameters_at fuel (suc left - (length p.1 + 2)) (offset + (length p.1 + 2)) next p.2

-- ---- the units

abbrev pub or_empty : Option (List ℕ) → List ℕ
or_empty None = []
or_empty (Some selector) = selector

-- the references, the class and the parameters of a connection request or confirm, behind its code
unfoldable pub ends_at : ℕ → List ℕ → Result ConnectionFields Stop
ends_at li (a ∷ b ∷ c ∷ d ∷ class ∷ rest) =
    if class == 0 then
    (parameters_at (li - 6) (li - 6) 11 nothing_seen rest >>= λ seen. Ok (record {
      destination = 256 * a + b;
      source = 256 * c + d;
      size = seen.size;
      calling = or_empty seen.calling;
      called = or_empty seen.called;
    }))
    else Err (At 10 kinds.Content)
ends_at li _ = Err Short

-- so many octets, which are passed over
abbrev pub passed_at : ℕ → Packet → List ℕ → Result Header Stop
passed_at count p octets = if nat_lt (length octets) count then Err Short else Ok (Control p)

abbrev pub mark_at : ℕ → List ℕ → Result Header Stop
mark_at left [] = Err Short
mark_at left (m ∷ rest) = if m == 0 then Ok (Data left false) else (if m == 128 then Ok (Data left true) else Err (At 6 kinds.Content))

-- a DT whose data have so many octets
unfoldable pub data_at : ℕ → ℕ → List ℕ → Result Header Stop
data_at begun left octets = if nat_lt tsdu_limit (begun + left) then Err (At 5 kinds.Length) else mark_at left octets

-- the header has at least this length, and fills the room that the packet leaves
abbrev pub fills : ℕ → ℕ → ℕ → Bool
fills room li least = li == room && nat_le least li

-- What follows the length of the header; the packet has room for so many octets behind that length.
unfoldable pub code_at : ℕ → ℕ → ℕ → List ℕ → Result Header Stop
code_at begun room li [] = Err Short
code_at begun room li (code ∷ rest) =
    if code == 240 then (if li == 2 then data_at begun (room - 2) rest else Err (At 4 kinds.Length)) else
    (if code == 224 then (if fills room li 6 then (ends_at li rest >>= λ ends. Ok (Control (Connect ends))) else Err (At 4 kinds.Length)) else
    (if code == 208 then (if fills room li 6 then (ends_at li rest >>= λ ends. Ok (Control (Confirm ends))) else Err (At 4 kinds.Length)) else
    (if code == 128 then (if fills room li 6 then passed_at (li - 1) Disconnect rest else Err (At 4 kinds.Length)) else
    (if code == 112 then (if fills room li 1 then passed_at (li - 1) Problem rest else Err (At 4 kinds.Length)) else
    Err (At 5 kinds.Tag)))))

unfoldable pub indicator_at : ℕ → ℕ → List ℕ → Result Header Stop
indicator_at begun room [] = Err Short
indicator_at begun room (li ∷ rest) = if li == 0 || nat_le reserved_length li || nat_lt room li then Err (At 4 kinds.Length) else code_at begun room li rest

unfoldable pub length_at : ℕ → List ℕ → Result Header Stop
length_at begun (high ∷ low ∷ rest) =
    if nat_lt (256 * high + low) 7 then Err (At 2 kinds.Length) else indicator_at begun (256 * high + low - 5) rest
length_at begun _ = Err Short

-- The header at the front of a packet, where the TSDU that has begun has so many octets.
unfoldable pub header_at : ℕ → List ℕ → Result Header Stop
header_at begun (version ∷ reserved ∷ rest) = if version == 3 && reserved == 0 then length_at begun rest else Err (At 0 kinds.Tag)
header_at begun _ = Err Short
