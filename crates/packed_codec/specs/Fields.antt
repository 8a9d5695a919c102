-- Fields of the packed syntax, read from the left: single octets, counts, and the octets that a count announces.
use Rattle.std.specs.Prelude.{ℕ, ◌+◌, Bool, true, List, length, take, drop, Ok, Err, nat_lt, nat_eq, slice_index, if◌then◌else◌}
use Rattle.byteorder.specs.Endian.{big_number}
use Rattle.packed_codec.specs.declared.fault.PackedFault.TheVariants.{Short}
use Rattle.packed_codec.specs.Reading.{Spot, Reading, ◌>>=◌, refuse, within}

abbrev pub moved : ℕ → Spot → Spot
moved n s = record { place = s.place + n; rest = drop n s.rest; left = s.left }

-- so many octets, which the field at a place announces, if it may announce as many
unfoldable pub announced_at : ℕ → ℕ → Bool → ℕ → Spot → Reading (List ℕ × Spot)
announced_at limit place allowed size s = do
  _ ← within limit place (s.place + size)
  if allowed then (if nat_lt (length s.rest) size then Err Short else Ok (take size s.rest, moved size s)) else refuse place

-- a field of so many octets; where none of them is there it hasn't begun
unfoldable pub field_at : ℕ → ℕ → Spot → Reading (List ℕ × Spot)
field_at limit size s = if nat_eq (length s.rest) 0 then Err Short else announced_at limit s.place true size s

unfoldable pub octet_at : ℕ → Spot → Reading (ℕ × Spot)
octet_at limit s = do
  f ← field_at limit 1 s
  Ok (slice_index f.0 0, f.1)

-- a count has four octets, the most significant first
unfoldable pub count_at : ℕ → Spot → Reading (ℕ × Spot)
count_at limit s = do
  f ← field_at limit 4 s
  Ok (big_number 4 f.0, f.1)
