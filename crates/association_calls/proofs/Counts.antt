-- Counts that are cut off past the limit of a set.
use Rattle.std.proofs.Common.{◌≡◌, ℕ, ◌+◌, min, nat_lt, arith}
use Rattle.std.proofs.lemmas.Bool.Decides.{nat_tests}

pub capped : (a b d : ℕ) → nat_lt 64 (min a 65 + min 65 b + min d 65) ≡ nat_lt 64 (a + b + d)
capped a b d = grind (arith, nat_tests)
