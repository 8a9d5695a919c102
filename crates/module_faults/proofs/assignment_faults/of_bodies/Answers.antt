use Rattle.std.proofs.Common.{refl}
use Rattle.module_faults.specs.Locals.{body_faults, bodies_faults}
use Rattle.module_faults.proofs.Loops.{rest_of, loop_step, loop_end}
use Rattle.module_faults.proofs.assignment_faults.of_bodies.Goals as goal

pub loop-rest-preserved : goal.loop-rest-preserved
loop-rest-preserved c =
    loop_step (bodies_faults c.args.names.now) c.loop-rest.rest.now c.assignment-item.result (body_faults c.args.names.now c.assignment-item.result.name c.assignment-item.result.body) (bodies_faults c.args.names.now (rest_of c.loop-rest.rest.now)) c.loop-rest.least.found c.of_body.new.least.found _ c.in-len1-up.len_at_least c.assignment-item.is refl c.in_ok-of_body.ensures c.loop-rest.invariant

pub returns : goal.returns
returns c = loop_end (bodies_faults c.args.names.now) c.loop-rest.rest.now c.loop-rest.least.found _ c.in_default.len_below refl c.loop-rest.invariant
