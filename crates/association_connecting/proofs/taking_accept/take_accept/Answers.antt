use Rattle.std.proofs.Common.{◌∙◌}
use Rattle.association_answers.specs.association_reading.Transfers.{association_spellings}
use Rattle.association_connecting.proofs.taking_accept.take_accept.Goals as goal

pub stand_on-requires : goal.stand_on-requires
stand_on-requires c = c.as_slice.ensures ∙ c.in_ok-set.ensures (association_spellings c.args.basis.now.tables.now)
