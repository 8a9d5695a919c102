use Rattle.association_words.specs.Seen.{seen_values}
use Rattle.end_rules.specs.Hearing.{take_values}
use Rattle.association_answers.specs.association_state.Seen.{base_in, seen}
use Rattle.association_hearing.specs.ValuesTaken.{TookAs}
use Rattle.association_hearing.proofs.values.take_values.Given as goal

abbrev pub invariant-loop-value : goal.invariant-loop-value
invariant-loop-value l = TookAs (take_values (base_in l.basis) (seen l.fn.body) (seen_values l.yielded)) (seen l.body) l.all
