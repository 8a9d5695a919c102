-- The parts of a SET that stand so far.
use Rattle.std.specs.Prelude.{ℕ, Option, List}
use Rattle.asn1_types.specs.Value.{Value}

-- The parts of a SET that stand so far, in the order of the notation, and the least rank of a tag that may stand
-- next in DER (X.690 10.3).
pub record Filled : Type 0 where
  pub found : List (Option Value)
  pub least : ℕ
