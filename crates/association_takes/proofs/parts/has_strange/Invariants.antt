use Rattle.std.proofs.Common.{◌≡◌, not, drop}
use Rattle.std.specs.List.{list_any}
use Rattle.end_rules.specs.Messages.{DataValue}
use Rattle.end_rules.specs.TakesData.{is_remote}
use Rattle.association_words.specs.Seen.{seen_values}
use Rattle.association_takes.proofs.parts.has_strange.Given as goal

abbrev pub invariant-loop-value : goal.invariant-loop-value
invariant-loop-value l = list_any (λ (v : DataValue). not (is_remote v.content)) (seen_values (drop l.value-index l.values)) ≡ list_any (λ (v : DataValue). not (is_remote v.content)) (seen_values l.values)
