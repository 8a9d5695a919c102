-- What an end took, counted by the octets that were given to it.
use Rattle.association_runs.specs.Laws.{EverInRuns}
use Rattle.association_runs.specs.Octets.{TakenWhenWhole}
use Rattle.association_runs.specs.Sides.{ends_for}

-- After each event, as each beginning of a run is a run, an end that isn't over took or passed over each message whose
-- last octet was given to it, and no other.
abbrev pub RunsTakeWhatIsWhole : Type 0
RunsTakeWhatIsWhole = EverInRuns (λ common w. TakenWhenWhole (ends_for common) w)
