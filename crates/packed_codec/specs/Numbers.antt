-- The contents of INTEGER and ENUMERATED: two's complement in as few octets as hold it (X.690 8.3).
use Rattle.std.specs.Prelude.{ℕ, ℤ, Bool, ◌&&◌, List, [], ◌∷◌, nat_le, if◌then◌else◌}
use Rattle.std.specs.Int.{w64, cast_unsigned, bytes_high_first}
use Rattle.ber_spelling.specs.Primitives.{is_padded}

-- ---- read: of the contents `integer_of` in `Primitives` of `ber_spelling` says the number

abbrev pub is_size : ℕ → Bool
is_size n = nat_le 1 n && nat_le n 8

-- ---- written

-- without the octets that only repeat the sign
abbrev pub unpadded : List ℕ → List ℕ
unpadded [] = []
unpadded (first ∷ octets) = if is_padded (first ∷ octets) then unpadded octets else first ∷ octets

-- a number of 64 bits
unfoldable pub integer_octets : ℤ → List ℕ
integer_octets z = unpadded (bytes_high_first 8 (cast_unsigned w64 z))
