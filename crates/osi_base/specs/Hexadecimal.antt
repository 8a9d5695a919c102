-- Octets of two hexadecimal digits each.
use Rattle.std.specs.Prelude.{ℕ, ◌+◌, ◌-◌, ◌*◌, ◌&&◌, Option, Some, None, nat_le, if◌then◌else◌}

-- the number of a hexadecimal digit, in either case
abbrev pub digit_of : ℕ → Option ℕ
digit_of d =
    if nat_le 48 d && nat_le d 57 then Some (d - 48)
    else (if nat_le 65 d && nat_le d 70 then Some (d - 65 + 10)
    else (if nat_le 97 d && nat_le d 102 then Some (d - 97 + 10) else None))

abbrev pub by_digits : Option ℕ → Option ℕ → Option ℕ
by_digits None low = None
by_digits (Some high) None = None
by_digits (Some high) (Some low) = Some (16 * high + low)

abbrev pub octet_of : ℕ → ℕ → Option ℕ
octet_of high low = by_digits (digit_of high) (digit_of low)
