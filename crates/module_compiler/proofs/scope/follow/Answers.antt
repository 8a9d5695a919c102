use Rattle.std.proofs.Common.{◌≡◌, ◌++◌, ◌∷◌, [], arith}
use Rattle.std.proofs.lemmas.Grind.{common_steps}
use Rattle.module_compiler.proofs.Aliases.{back}
use Rattle.module_compiler.proofs.scope.follow.Goals as goal

pub loop-before-preserved : goal.loop-before-preserved
loop-before-preserved c =
    let is : c.loop-before.chain.items ≡ c.pop.new.self.items ++ c.in-Some.before ∷ [] = grind (arith, common_steps) in
    let x = back c.args.assignments.now c.args.place c.loop-before.at c.in-Some.before c.loop-before.chain.items c.pop.new.self.items c.loop-before.found c.step_back-found.result c.loop-before.followed c.step_back-found.new.followed is
    (record { leads = c.loop-before.invariant.leads; from = c.loop-before.invariant.from; behind = c.loop-before.invariant.behind; followed = c.loop-before.invariant.followed }) c.step_back-found.ensures.one c.step_back-found.ensures.followed in
    record { leads = x.leads; from = x.from; behind = x.behind; followed = x.followed }
