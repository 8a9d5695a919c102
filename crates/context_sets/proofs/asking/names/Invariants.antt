use Rattle.std.proofs.Common.{◌≡◌, nat_eq, drop}
use Rattle.std.specs.List.{list_any}
use Rattle.osi_base.specs.declared.layer_words.Proposal.{Proposal}
use Rattle.context_sets.proofs.asking.names.Given as goal

abbrev pub invariant-loop-proposal : goal.invariant-loop-proposal
invariant-loop-proposal l = list_any (λ (proposal : Proposal). nat_eq proposal.id l.id) (drop l.proposal-index l.alteration.added) ≡ list_any (λ (proposal : Proposal). nat_eq proposal.id l.id) l.alteration.added
