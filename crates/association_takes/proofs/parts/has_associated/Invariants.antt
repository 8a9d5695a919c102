use Rattle.std.proofs.Common.{◌≡◌, drop}
use Rattle.std.specs.List.{list_any}
use Rattle.end_rules.specs.Messages.{DataValue}
use Rattle.end_rules.specs.TakesData.{is_associated}
use Rattle.association_words.specs.Seen.{seen_values}
use Rattle.association_takes.proofs.parts.has_associated.Given as goal

abbrev pub invariant-loop-value : goal.invariant-loop-value
invariant-loop-value l = list_any (λ (v : DataValue). is_associated v.content) (seen_values (drop l.value-index l.values)) ≡ list_any (λ (v : DataValue). is_associated v.content) (seen_values l.values)
