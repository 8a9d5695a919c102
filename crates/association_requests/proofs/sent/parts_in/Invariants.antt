use Rattle.std.proofs.Common.{◌≡◌, ◌++◌, drop}
use Rattle.end_rules.specs.TakesData.{parts_in}
use Rattle.association_words.specs.Seen.{seen_values}
use Rattle.association_requests.proofs.sent.parts_in.Given as goal

abbrev pub invariant-loop-value : goal.invariant-loop-value
invariant-loop-value l = l.octets ++ parts_in (seen_values (drop l.value-index l.values)) ≡ parts_in (seen_values l.values)
