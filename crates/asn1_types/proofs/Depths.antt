-- Each child of a value is less deep than the value.
use Rattle.std.proofs.Common.{◌≡◌, ℕ, zero, suc, ◌+◌, ◌<◌, ◌≤◌, List, [], ◌∷◌, length, get_or, Option, Some, None, ap, arith}
use Rattle.asn1_types.specs.Value.{Value, depth, depth_of_parts, depth_of_values}
use Rattle.asn1_types.specs.ValueView.{parts_of, values_of}

pub item_depth : (vs : List Value) (i : ℕ) (v : Value) → i < length vs → v ≡ get_or vs i v → depth v + 1 ≤ depth_of_values (values_of vs)
item_depth [] i v lt e = absurd (omega arith)
item_depth (x ∷ vs) zero v lt e = omega (arith, ap depth e)
item_depth (x ∷ vs) (suc i) v lt e = omega (arith, item_depth vs i v (omega arith) e)

pub part_depth : (ps : List (Option Value)) (i : ℕ) (v : Value) (o : Option Value) → i < length ps → o ≡ get_or ps i o → o ≡ Some v → depth v + 1 ≤ depth_of_parts (parts_of ps)
part_depth [] i v o lt e s = absurd (omega arith)
part_depth (None ∷ ps) zero v o lt e s = absurd cc
part_depth (Some w ∷ ps) zero v o lt e s = let same : w ≡ v = cc in omega (arith, ap depth same)
part_depth (None ∷ ps) (suc i) v o lt e s = omega (arith, part_depth ps i v o (omega arith) e s)
part_depth (Some w ∷ ps) (suc i) v o lt e s = omega (arith, part_depth ps i v o (omega arith) e s)
