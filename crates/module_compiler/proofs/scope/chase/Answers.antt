use Rattle.std.proofs.Common.{◌≡◌, ℕ, List, Some, sym, subst, ◌∙◌}
use Rattle.module_compiler.specs.Kept.{AreFollowed, Leads, From, step}
use Rattle.module_compiler.specs.declared.scope.Followed.TheVariants.{Open}
use Rattle.module_compiler.proofs.Aliases.{leads_more, from_more, followed_set}
use Rattle.module_compiler.proofs.scope.chase.Goals as goal

pub loop-preserved : goal.loop-preserved
loop-preserved c =
    let on : step c.args.assignments.now c.loop.at ≡ Some c.in-Some.then = sym c.next.ensures ∙ c.in-Some.is in
    record {
      leads = subst (λ (z : List ℕ). Leads c.args.assignments.now z c.in-Some.then) (sym c.in_ok-push.ensures.items) (leads_more c.args.assignments.now c.loop.chain.items c.loop.at c.in-Some.then c.loop.invariant.leads on);
      from = subst (λ (z : List ℕ). From c.args.place z c.in-Some.then) (sym c.in_ok-push.ensures.items) (from_more c.args.place c.loop.chain.items c.loop.at c.in-Some.then c.loop.invariant.from);
      followed = subst (AreFollowed c.args.assignments.now) (sym c.note.ensures) (followed_set c.args.assignments.now c.loop.followed c.loop.at Open c.loop.invariant.followed tt);
    }
