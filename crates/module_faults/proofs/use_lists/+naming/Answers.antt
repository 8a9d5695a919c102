use Rattle.std.proofs.Common.{◌≡◌, ◌-◌, zero, suc, arith}
use Rattle.std.proofs.lemmas.Bool.Decides.{nat_tests}
use Rattle.operation_notation.specs.TreeView.{plain_of}
use Rattle.module_faults.proofs.Steps.{on_ok, uses_none, uses_step}
use Rattle.module_faults.proofs.use_lists.+naming.Goals as goal

pub of_type-returns-then-levels-eq0 : goal.of_type-returns-then-levels-eq0
of_type-returns-then-levels-eq0 t c =
    let none : c.args.levels ≡ zero = grind (arith, nat_tests, c.if-levels-eq0.true) in
    uses_none c.args.names.now c.args.levels c.args.of.now c.args.used.now.items none

pub of_type-returns : goal.of_type-returns
of_type-returns t c =
    let some : c.args.levels ≡ suc (c.args.levels - 1) = grind (arith, nat_tests, c.if-levels-eq0.false) in
    on_ok c.of_plain.result (λ h. uses_step c.args.names.now c.args.levels (c.args.levels - 1) c.args.of.now c.of.inside.line c.of.inside.column c.of.inside.tag (plain_of c.of.inside.plain) c.args.used.now.items c.of_plain.new.used.items some c.of.view_is h) c.of_plain.ensures
