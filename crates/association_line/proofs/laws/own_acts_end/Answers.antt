use Rattle.association_line.proofs.Measure.{less_to_do, own_acts_end}
use Rattle.association_line.proofs.laws.own_acts_end.Goals as goal

pub returns : goal.returns
returns c = record { less = less_to_do; end = own_acts_end }
