use Rattle.std.proofs.Common.{◌≡◌, drop}
use Rattle.association_meaning.specs.Steps as steps
use Rattle.association_words.specs.Seen.{seen_values}
use Rattle.association_intake.specs.association_reading.Values as values_read
use Rattle.association_meaning.proofs.values.all_in.Given as goal

abbrev pub invariant-loop-pdv : goal.invariant-loop-pdv
invariant-loop-pdv l = steps.joined (seen_values l.values) (values_read.all_values (values_read.value_in l.basis.tables.now l.carried l.set) (drop l.pdv-index l.pdvs)) ≡ values_read.all_values (values_read.value_in l.basis.tables.now l.carried l.set) l.pdvs
