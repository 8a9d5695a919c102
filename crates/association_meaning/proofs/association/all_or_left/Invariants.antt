use Rattle.std.proofs.Common.{◌≡◌, drop}
use Rattle.association_meaning.specs.Steps as steps
use Rattle.association_words.specs.Seen.{seen_values}
use Rattle.association_intake.specs.association_reading.Values as values_read
use Rattle.association_intake.specs.association_reading.Association as reading
use Rattle.association_meaning.specs.Grounds.{association_base}
use Rattle.association_meaning.proofs.association.all_or_left.Given as goal

abbrev pub invariant-loop-pdv : goal.invariant-loop-pdv
invariant-loop-pdv l = steps.joined (seen_values l.values) (values_read.all_values (reading.value_or_left (association_base l.basis.tables.now l.basis.config.now) l.definitions l.set) (drop l.pdv-index l.pdvs)) ≡ values_read.all_values (reading.value_or_left (association_base l.basis.tables.now l.basis.config.now) l.definitions l.set) l.pdvs
