use Rattle.two_ends.proofs.Given.{fewer_wait, still_but}
use Rattle.two_ends.proofs.giving.give_block.Goals as goal

pub returns-clause-rest : goal.returns-clause-rest
returns-clause-rest g c =
    fewer_wait g.E.RunEnd.conduct g.met.E.RunEnd.waits g.met.E.RunEnd.again c.args.end.now c.give_some-count.new.self c.give_some-count.result c.give_some-count.ensures.end

pub returns-clause-kept : goal.returns-clause-kept
returns-clause-kept g c e but =
    still_but g.E.RunEnd.conduct g.met.E.RunEnd.waits g.met.E.RunEnd.again c.args.end.now c.give_some-count.new.self e c.give_some-count.result c.give_some-count.ensures.end but
