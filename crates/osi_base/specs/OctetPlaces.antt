-- The places of octets.
use Rattle.std.specs.Prelude.{ℕ, ◌+◌, ◌<◌, List, length}
use Rattle.osi_base.specs.Limits.{past_places}

-- these octets, the first of which has this place, and what is behind them have places
abbrev pub HasPlaces : ℕ → List ℕ → Type 0
HasPlaces place octets = place + length octets < past_places
