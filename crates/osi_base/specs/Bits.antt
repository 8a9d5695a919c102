-- Bits of octets, counted from the leading one (X.680 22.2).
use Rattle.std.specs.Prelude.{ℕ, ◌-◌, ◌/◌, ◌%◌, ◌^◌, Bool, nat_eq}

-- this bit of an octet is set
abbrev pub is_set : ℕ → ℕ → Bool
is_set octet bit = nat_eq (octet / 2 ^ (7 - bit) % 2) 1
