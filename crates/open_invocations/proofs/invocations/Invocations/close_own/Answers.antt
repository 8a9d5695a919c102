use Rattle.std.proofs.Common.{true, sym, subst}
use Rattle.rose_roles.specs.end_rules.State.{Calls}
use Rattle.rose_roles.specs.Calls.{calls_of}
use Rattle.open_invocations.proofs.Kept.{Quiet, quiet_closed, quiet_kept}
use Rattle.open_invocations.proofs.invocations.Invocations.close_own.Goals as goal

pub invariant_of-self : goal.invariant_of-self
invariant_of-self c =
    let i = c.self.inside in
    let before = calls_of i.forest i.invoker i.performer.kept in
    quiet_kept i.forest c.close.new.forest i.invoker c.close.new.self i.performer.kept i.performer.kept c.self.invariant c.close.ensures.open.these (c.close.ensures.open.others i.performer.kept c.self.invariant.peer)
    (subst (λ (k : Calls). Quiet before k) (sym (c.close.ensures.closed i.performer.kept)) (quiet_closed true c.args.id.now before))
