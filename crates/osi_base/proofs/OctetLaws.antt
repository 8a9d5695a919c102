-- Octets in parts.
use Rattle.std.proofs.Common.{ℕ, zero, suc, ◌<◌, List, [], ◌∷◌, ◌++◌, arith}
use Rattle.std.specs.Prelude.{slice_index}
use Rattle.osi_base.specs.Octets.{AreOctets}

pub no_octets : AreOctets []
no_octets = record { each = λ i. omega arith }

pub octets_tail : (o : ℕ) (os : List ℕ) → AreOctets (o ∷ os) → AreOctets os
octets_tail o os h = record { each = λ i. h.each (suc i) }

pub octets_more : (o : ℕ) (os : List ℕ) → o < 256 → AreOctets os → AreOctets (o ∷ os)
octets_more o os first more = record { each = at }
  where
    at : (i : ℕ) → slice_index (o ∷ os) i < 256
    at zero = first
    at (suc i) = more.each i

pub octets_left : (a b : List ℕ) → AreOctets (a ++ b) → AreOctets a
octets_left [] b h = no_octets
octets_left (o ∷ a) b h = octets_more o a (h.each 0) (octets_left a b (octets_tail o (a ++ b) h))

pub octets_right : (a b : List ℕ) → AreOctets (a ++ b) → AreOctets b
octets_right [] b h = h
octets_right (o ∷ a) b h = octets_right a b (octets_tail o (a ++ b) h)

pub octets_join : (a b : List ℕ) → AreOctets a → AreOctets b → AreOctets (a ++ b)
octets_join [] b h k = k
octets_join (o ∷ a) b h k = octets_more o (a ++ b) (h.each 0) (octets_join a b (octets_tail o a h) k)
