use Rattle.module_compiler.proofs.numbering.Numbering.+base_in.Given as goal

abbrev pub decreases-base_in : goal.decreases-base_in
decreases-base_in l = l.turns
