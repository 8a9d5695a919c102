use Rattle.std.proofs.Common.{◌∙◌}
use Rattle.module_compiler.specs.ModuleTables.{sort_test}
use Rattle.module_compiler.proofs.Slots.{numbers_step}
use Rattle.module_compiler.proofs.module_tables.numbers_of.Goals as goal

pub loop-name-preserved : goal.loop-name-preserved
loop-name-preserved c =
    numbers_step (sort_test c.args.sort) c.args.scope.now.assignments c.args.names.now c.loop-name.name-index c.name-item.result c.loop-name.of c.push.new.self c.in_ok-number_of.field-0 c.loop-name-test.true c.name-item.is c.in_ok-number_of.ensures c.in_ok-push.ensures.ok ∙ c.loop-name.invariant
