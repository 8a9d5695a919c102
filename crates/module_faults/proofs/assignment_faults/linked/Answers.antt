use Rattle.std.proofs.Common.{refl, ap, ◌∙◌}
use Rattle.module_faults.specs.Least.{least_from}
use Rattle.module_faults.specs.Names.{assigned}
use Rattle.module_faults.specs.Locals.{kind_at, no_operation, names_faults}
use Rattle.module_faults.proofs.Loops.{rest_of, loop_step, loop_end}
use Rattle.module_faults.proofs.assignment_faults.linked.Goals as goal

pub loop-rest-preserved : goal.loop-rest-preserved
loop-rest-preserved c =
    loop_step (names_faults no_operation c.args.names.now) c.loop-rest.rest.now c.name-item.result (kind_at (no_operation (assigned c.args.names.now c.name-item.result.text)) c.name-item.result) (names_faults no_operation c.args.names.now (rest_of c.loop-rest.rest.now)) c.loop-rest.least.found c.kind_at.new.least.found _ c.in-len1-up.len_at_least c.name-item.is refl (c.kind_at.ensures ∙ ap (λ o. least_from c.loop-rest.least.found (kind_at o c.name-item.result)) (c.no_operation.ensures ∙ ap no_operation c.assigned.ensures)) c.loop-rest.invariant

pub returns : goal.returns
returns c = loop_end (names_faults no_operation c.args.names.now) c.loop-rest.rest.now c.loop-rest.least.found _ c.in_default.len_below refl c.loop-rest.invariant
