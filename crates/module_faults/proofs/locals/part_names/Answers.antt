use Rattle.std.proofs.Common.{◌++◌, refl, sym, ap, ◌∙◌}
use Rattle.operation_notation.specs.TreeView.{parts_of as trees}
use Rattle.module_faults.specs.declared.kind.TableKind.TheVariants as kinds
use Rattle.module_faults.specs.Least.{at_name, if_so, least_from}
use Rattle.module_faults.specs.Met.{has_list}
use Rattle.module_faults.specs.Locals.{part_faults}
use Rattle.module_faults.proofs.Loops.{rest_of, loop_step, loop_end}
use Rattle.module_faults.proofs.locals.part_names.Goals as goal

pub loop-rest-preserved : goal.loop-rest-preserved
loop-rest-preserved c =
    loop_step (λ ps. part_faults c.loop-rest.names (trees ps)) c.loop-rest.rest.now c.part-item.result (if_so (has_list c.loop-rest.names c.part-item.result.name.text) (at_name c.part-item.result.name kinds.DoubleName)) (part_faults c.see.new.self (trees (rest_of c.loop-rest.rest.now))) c.loop-rest.least.found c.note_if.new.self.found _ c.in-len1-up.len_at_least c.part-item.is
    (ap (λ z. if_so (has_list c.loop-rest.names c.part-item.result.name.text) (at_name c.part-item.result.name kinds.DoubleName) ++ part_faults z (trees (rest_of c.loop-rest.rest.now))) (sym c.in_ok-is_old.ensures.now))
    (c.note_if.ensures ∙ ap (λ b. least_from c.loop-rest.least.found (if_so b (at_name c.part-item.result.name kinds.DoubleName))) c.in_ok-is_old.ensures.was) c.loop-rest.invariant

pub returns : goal.returns
returns c = loop_end (λ ps. part_faults c.loop-rest.names (trees ps)) c.loop-rest.rest.now c.loop-rest.least.found _ c.in_default.len_below refl c.loop-rest.invariant
