use Rattle.std.proofs.Common.{ap, ◌∙◌}
use Rattle.rose_roles.specs.end_rules.State.{Calls, opened_with}
use Rattle.open_invocations.specs.Invocations.{called_in}
use Rattle.open_invocations.proofs.Kept.{called_so}
use Rattle.open_invocations.proofs.invocations.Invocations.called.Goals as goal

pub returns : goal.returns
returns c =
    let i = c.self.inside in
    c.called_at.ensures
    ∙ called_so c.args.own c.args.id.now i.forest i.invoker i.performer.kept c.self.invariant
    ∙ ap (λ (k : Calls). called_in (opened_with c.args.own c.args.id.now k.opens)) c.self.view_is
