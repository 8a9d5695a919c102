use Rattle.std.proofs.Common.{◌∙◌, arith}
use Rattle.passed_fields.proofs.Nones.{nones_more}
use Rattle.passed_fields.proofs.reading.+add_nones.Goals as goal

pub returns : goal.returns
returns t c =
    c.in_ok-add_nones.ensures
    ∙ nones_more c.args.found.now.items c.push.new.self.items c.args.count (omega arith) c.in_ok-push.ensures.items
