use Rattle.passed_fields.proofs.reading.+add_nones.Given as goal

abbrev pub decreases-add_nones : goal.decreases-add_nones
decreases-add_nones l = l.count
