use Rattle.std.proofs.Common.{◌≡◌, drop}
use Rattle.end_rules.specs.TakesData.{with_parts}
use Rattle.association_words.specs.Seen.{seen_values}
use Rattle.association_hearing.specs.association_state.Seen.{seen}
use Rattle.association_takes.proofs.parts.take_parts.Given as goal

abbrev pub invariant-loop-value : goal.invariant-loop-value
invariant-loop-value l = with_parts (seen_values (drop l.value-index l.values)) (seen l.body) ≡ with_parts (seen_values l.values) (seen l.initial.body)
