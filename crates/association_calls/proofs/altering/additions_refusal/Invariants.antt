use Rattle.std.proofs.Common.{◌≡◌, drop}
use Rattle.end_rules.specs.Altering.{additions_refusal}
use Rattle.association_state.specs.Seen.{base_in, seen}
use Rattle.association_calls.proofs.altering.additions_refusal.Given as goal

abbrev pub invariant-loop-proposal : goal.invariant-loop-proposal
invariant-loop-proposal l = additions_refusal (base_in l.basis) (seen l.body) (drop l.proposal-index l.add) ≡ additions_refusal (base_in l.basis) (seen l.body) l.add
