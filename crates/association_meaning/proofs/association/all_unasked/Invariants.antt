use Rattle.std.proofs.Common.{◌≡◌, drop}
use Rattle.association_meaning.specs.Steps as steps
use Rattle.association_words.specs.Seen.{seen_values}
use Rattle.association_intake.specs.association_reading.Values as values_read
use Rattle.association_intake.specs.association_reading.Association as reading
use Rattle.association_meaning.proofs.association.all_unasked.Given as goal

abbrev pub invariant-loop-pdv : goal.invariant-loop-pdv
invariant-loop-pdv l = steps.joined (seen_values l.values) (values_read.all_values reading.unasked_value (drop l.pdv-index l.pdvs)) ≡ values_read.all_values reading.unasked_value l.pdvs
