-- What a carry of octets takes.
use Rattle.std.specs.Prelude.{ℕ, List, take, Option, Some, None}

-- the first octets: as many as are asked for, or all
abbrev pub first_octets : Option ℕ → List ℕ → List ℕ
first_octets None octets = octets
first_octets (Some most) octets = take most octets
