-- The functional units of the session protocol (X.215 8.1), and what a CONNECT must say (X.225 8.3.1).
use Rattle.std.specs.Prelude.{ℕ, ◌/◌, ◌%◌, nat_eq, bit_and, Bool, true, false, not, ◌&&◌, if◌then◌else◌, Option, Some, None, unwrap_or}
use Rattle.osi_base.specs.declared.session_word.SessionConnect.{SessionConnect}
use Rattle.session_subset.specs.declared.units.FunctionalUnits.{FunctionalUnits}

abbrev pub has_bit : ℕ → ℕ → Bool
has_bit requirements bit = not (nat_eq (bit_and requirements bit) 0)

abbrev pub both_have : ℕ → ℕ → ℕ → Bool
both_have proposed answered bit = has_bit proposed bit && has_bit answered bit

-- the units that both ends want, out of those that the mode uses: in direct mode duplex, marks,
-- restarts and typed data; in reliable mode half duplex, marks, activities and typed data
abbrev pub selected : Bool → ℕ → ℕ → FunctionalUnits
selected reliable proposed answered =
    record {
      half_duplex = reliable && both_have proposed answered 0x0001;
      duplex = not reliable && both_have proposed answered 0x0002;
      minor_synchronize = both_have proposed answered 0x0008;
      resynchronize = not reliable && both_have proposed answered 0x0020;
      activity_management = reliable && both_have proposed answered 0x0040;
      typed_data = both_have proposed answered 0x0400;
    }

-- the units without which the mode can't work
abbrev pub are_enough : Bool → FunctionalUnits → Bool
are_enough reliable units =
    if reliable then (units.half_duplex && units.minor_synchronize) && units.activity_management else units.duplex

-- a version number (22) has the bit of version 2
abbrev pub version_is_2 : Option ℕ → Bool
version_is_2 None = false
version_is_2 (Some bits) = has_bit bits 0x02

-- an initial serial number (23) is 1, if there is one
abbrev pub starts_at_1 : Option ℕ → Bool
starts_at_1 None = true
starts_at_1 (Some number) = nat_eq number 1

-- of two bits of a token setting: 00 puts the token at the initiator, 01 at the responder, 10 leaves
-- the choice to the responder, who leaves it at the initiator
abbrev pub is_at_responder : ℕ → Bool
is_at_responder pair = nat_eq (pair % 4) 1

-- a token setting (26) has two bits for each of four tokens
abbrev pub keeps_tokens : Option ℕ → Bool
keeps_tokens None = true
keeps_tokens (Some bits) =
    ((not (is_at_responder (bits / 64)) && not (is_at_responder (bits / 16))) && not (is_at_responder (bits / 4))) && not (is_at_responder bits)

-- requirements that aren't there want nothing
abbrev pub requirements_of : Option ℕ → ℕ
requirements_of requirements = unwrap_or requirements 0

-- a responder of this mode may accept it
abbrev pub is_acceptable : Bool → SessionConnect → Bool
is_acceptable reliable connect =
    ((version_is_2 connect.version && are_enough reliable (selected reliable (requirements_of connect.requirements) (requirements_of connect.requirements)))
    && starts_at_1 connect.initial) && keeps_tokens connect.token_setting
