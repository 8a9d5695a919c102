-- Subidentifiers one after the other, as a loop reads them.
use Rattle.std.proofs.Common.{ℕ, List, ◌++◌, Option, Some, None}

-- what was found before, and what is still found
abbrev pub behind : List ℕ → Option (List ℕ) → Option (List ℕ)
behind front None = None
behind front (Some ns) = Some (front ++ ns)
