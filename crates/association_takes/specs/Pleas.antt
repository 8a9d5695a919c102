-- The priority of a plea.
use Rattle.std.specs.Prelude.{ℕ, Option, Some, None}
use Rattle.end_rules.specs.Messages.{ValueContent, Plea}

abbrev pub plea_of : ValueContent → Option ℕ
plea_of (Plea priority) = Some priority
plea_of _ = None
