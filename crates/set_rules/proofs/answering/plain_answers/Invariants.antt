use Rattle.std.proofs.Common.{◌≡◌, ◌+◌, ◌≤◌, ◌++◌, drop}
use Rattle.association_sets.specs.end_rules.Policy.{answers_to_additions}
use Rattle.set_rules.specs.Plain.{plain_base}
use Rattle.set_rules.proofs.answering.plain_answers.Given as goal

abbrev pub invariant-loop-proposal : goal.invariant-loop-proposal
invariant-loop-proposal l = record { rest : l.answers ++ answers_to_additions (plain_base l.tables l.config) l.connecting l.count (drop l.proposal-index l.proposals) ≡ answers_to_additions (plain_base l.tables l.config) l.connecting l.initial.count l.proposals; within : l.count ≤ l.initial.count + l.proposal-index }
