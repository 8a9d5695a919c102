use Rattle.std.proofs.Common.{false, sym, subst}
use Rattle.rose_roles.specs.end_rules.State.{Calls}
use Rattle.rose_roles.specs.Calls.{calls_of}
use Rattle.open_invocations.proofs.Kept.{Quiet, quiet_closed, quiet_kept}
use Rattle.open_invocations.proofs.invocations.Invocations.close.Goals as goal

pub invariant_of-self : goal.invariant_of-self
invariant_of-self c =
    let i = c.self.inside in
    let before = calls_of i.forest i.invoker i.performer.kept in
    quiet_kept i.forest c.close.new.forest i.invoker i.invoker i.performer.kept c.close.new.self.kept c.self.invariant (c.close.ensures.keeps.keys.others i.invoker.kept c.self.invariant.own) c.close.ensures.keeps.keys.these
    (subst (λ (k : Calls). Quiet before k) (sym (c.close.ensures.closed i.invoker)) (quiet_closed false c.args.id.now before))
