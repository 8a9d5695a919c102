use Rattle.std.proofs.Common.{◌≡◌, ◌++◌, drop, map}
use Rattle.association_words.specs.Seen.{seen_value}
use Rattle.association_wire.specs.Values.{pdvs_of}
use Rattle.association_writing.proofs.values.pdvs_of.Given as goal

abbrev pub invariant-loop-value : goal.invariant-loop-value
invariant-loop-value l = l.pdvs ++ pdvs_of l.tables (map seen_value (drop l.value-index l.values)) ≡ pdvs_of l.tables (map seen_value l.values)
