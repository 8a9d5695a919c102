use Rattle.trace_values.proofs.ValueLaws.{puts_first, puts_no_more}
use Rattle.trace_values.proofs.values.put_pdvs.Goals as goal

pub loop-pdv-preserved : goal.loop-pdv-preserved
loop-pdv-preserved c =
    λ after p. c.loop-pdv.invariant after (puts_first c.args.tables.now c.loop-pdv.rest.now c.in-Some.pdv.now c.in-Some.more.now c.loop-pdv.text c.put_pdv.new.text after c.in-Some.ensures c.in_ok-put_pdv.ensures p)

pub returns : goal.returns
returns c = c.loop-pdv.invariant c.loop-pdv.text (puts_no_more c.args.tables.now c.loop-pdv.rest.now c.loop-pdv.text c.in_default.ensures)
