-- Octets: numbers below 256.
use Rattle.std.specs.Prelude.{ℕ, ◌<◌, List, slice_index}

pub record AreOctets (octets : List ℕ) : Type 0 where
  pub each : (i : ℕ) → slice_index octets i < 256
