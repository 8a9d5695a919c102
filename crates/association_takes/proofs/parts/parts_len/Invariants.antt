use Rattle.std.proofs.Common.{◌≡◌, ◌+◌, ◌≤◌, min, length, drop}
use Rattle.end_rules.specs.TakesData.{parts_in}
use Rattle.association_words.specs.Seen.{seen_values}
use Rattle.association_takes.proofs.parts.parts_len.Given as goal

abbrev pub invariant-loop-value : goal.invariant-loop-value
invariant-loop-value l = record { rest : min 262401 (l.len + length (parts_in (seen_values (drop l.value-index l.values)))) ≡ min 262401 (length (parts_in (seen_values l.values))); few : l.len ≤ 262401 }
