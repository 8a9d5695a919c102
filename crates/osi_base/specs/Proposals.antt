-- What contexts are proposed with (X.226 8.2).
use Rattle.std.specs.Prelude.{Bool, ◌||◌, nat_eq, nat_lt, length}
use Rattle.osi_base.specs.declared.layer_words.Proposal.{Proposal}
use Rattle.osi_base.specs.Limits.{most_transfers}

-- it offers no transfer syntax, or too many (this project's own limit)
abbrev pub has_bad_transfers : Proposal → Bool
has_bad_transfers p = nat_eq (length p.transfers) 0 || nat_lt most_transfers (length p.transfers)
