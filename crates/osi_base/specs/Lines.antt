-- The log of a line, in which calls of `shut` that were done are only counted at its end.
use Rattle.std.specs.Prelude.{ℕ, ◌+◌, List, [], ◌∷◌, Option, None, Some, suc, zero}
use Rattle.osi_base.specs.declared.line.LineCall.{LineCall}
use Rattle.osi_base.specs.declared.line.LineCall.TheVariants.{Shut}
use Rattle.osi_base.specs.declared.line.Outcome.TheVariants.{Done}

-- a log, the newest call first, once the connection was shut so many times more
abbrev pub shut_after : ℕ → List LineCall → List LineCall
shut_after zero log = log
shut_after (suc count) log = Shut Done ∷ shut_after count log

-- how many calls of `shut` that were done stand in a row as the newest of a log
abbrev pub newest_shuts : List LineCall → ℕ
newest_shuts [] = 0
newest_shuts (Shut Done ∷ log) = newest_shuts log + 1
newest_shuts (call ∷ log) = 0

-- the same of a log that may be told
abbrev pub shuts_told : Option (List LineCall) → ℕ
shuts_told None = 0
shuts_told (Some log) = newest_shuts log
