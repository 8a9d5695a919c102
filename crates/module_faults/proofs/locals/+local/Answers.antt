use Rattle.std.proofs.Common.{◌≡◌, ◌-◌, zero, suc, refl, arith}
use Rattle.std.proofs.lemmas.Bool.Decides.{nat_tests}
use Rattle.operation_notation.specs.TreeView.{plain_of, parts_of as trees}
use Rattle.module_faults.specs.Locals.{in_parts, type_faults}
use Rattle.module_faults.proofs.Loops.{rest_of, loop_step, loop_end}
use Rattle.module_faults.proofs.Steps.{on_ok, types_none, types_step}
use Rattle.module_faults.proofs.locals.+local.Goals as goal

pub of_type-returns-then-levels-eq0 : goal.of_type-returns-then-levels-eq0
of_type-returns-then-levels-eq0 t c =
    let none : c.args.levels ≡ zero = grind (arith, nat_tests, c.if-levels-eq0.true) in
    types_none c.args.names.now c.args.levels c.args.of.now c.args.least.now.found none

pub of_type-returns : goal.of_type-returns
of_type-returns t c =
    let some : c.args.levels ≡ suc (c.args.levels - 1) = grind (arith, nat_tests, c.if-levels-eq0.false) in
    on_ok c.of_plain.result (λ h. types_step c.args.names.now c.args.levels (c.args.levels - 1) c.args.of.now c.of.inside.line c.of.inside.column c.of.inside.tag (plain_of c.of.inside.plain) c.args.least.now.found c.tag.new.least.found c.of_plain.new.least.found some c.of.view_is c.tag.ensures h) c.of_plain.ensures

pub part_types-loop-rest-preserved : goal.part_types-loop-rest-preserved
part_types-loop-rest-preserved t c =
    loop_step (λ ps. in_parts (type_faults c.args.names.now c.args.levels) (trees ps)) c.loop-rest.rest.now c.part-item.result (type_faults c.args.names.now c.args.levels c.part-item.result.of) (in_parts (type_faults c.args.names.now c.args.levels) (trees (rest_of c.loop-rest.rest.now))) c.loop-rest.least.found c.of_type.new.least.found _ c.in-len1-up.len_at_least c.part-item.is refl c.in_ok-of_type.ensures c.loop-rest.invariant

pub part_types-returns : goal.part_types-returns
part_types-returns t c = loop_end (λ ps. in_parts (type_faults c.args.names.now c.args.levels) (trees ps)) c.loop-rest.rest.now c.loop-rest.least.found _ c.in_default.len_below refl c.loop-rest.invariant
