use Rattle.std.proofs.Common.{◌≡◌, ◌-◌, suc, arith}
use Rattle.std.proofs.lemmas.Bool.Decides.{nat_tests}
use Rattle.operation_notation.specs.TreeView.{plain_of}
use Rattle.module_compiler.proofs.Walks.{walk_gives}
use Rattle.module_compiler.proofs.numbering.Numbering.+walking.Goals as goal

pub walk-returns : goal.walk-returns
walk-returns t c =
    let some : c.args.turns ≡ suc (c.args.turns - 1) = grind (arith, nat_tests, c.if-turns-eq0.false) in
    walk_gives c.args.scope.now c.args.turns (c.args.turns - 1) c.args.of.now c.of.inside.line c.of.inside.column c.of.inside.tag (plain_of c.of.inside.plain) c.args.self.now c.plain_row.new.self c.in_ok-plain.plain some c.of.view_is c.in_ok-plain.ensures c.tagged.result c.tagged.new.self c.tagged.ensures
