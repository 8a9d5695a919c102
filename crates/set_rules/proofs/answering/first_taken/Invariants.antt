use Rattle.std.proofs.Common.{◌≡◌, drop}
use Rattle.std.specs.Prelude.{find}
use Rattle.association_sets.specs.end_rules.Policy.{takes_syntax}
use Rattle.set_rules.specs.Plain.{plain_base}
use Rattle.set_rules.proofs.answering.first_taken.Given as goal

abbrev pub invariant-loop-transfer : goal.invariant-loop-transfer
invariant-loop-transfer l = find (takes_syntax (plain_base l.tables l.config) l.connecting l.name) (drop l.transfer-index l.proposal.transfers) ≡ find (takes_syntax (plain_base l.tables l.config) l.connecting l.name) l.proposal.transfers
