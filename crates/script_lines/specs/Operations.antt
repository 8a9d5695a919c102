-- The operations that the invocations of both ends name.
use Rattle.std.specs.Prelude.{ℕ, List}

-- as places in the table of operations
pub record Operations : Type 0 where
  pub by_a : List ℕ
  pub by_b : List ℕ
