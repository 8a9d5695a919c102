use Rattle.std.proofs.Common.{sym, ap, ◌∙◌}
use Rattle.std.specs.Option.{option_map}
use Rattle.rose_roles.specs.end_rules.State.{Calls, opened_with}
use Rattle.rose_roles.specs.declared.invoked_with.InvokedWith.{InvokedWith}
use Rattle.open_invocations.specs.Invocations.{operation_in}
use Rattle.open_invocations.proofs.Kept.{operation_called}
use Rattle.open_invocations.proofs.invocations.Invocations.operation.Goals as goal

pub returns-in-Some : goal.returns-in-Some
returns-in-Some c =
    let i = c.self.inside in
    ap (option_map (λ (x : InvokedWith). x.operation)) (sym c.in-Some.is ∙ c.called_at.ensures)
    ∙ operation_called c.args.own c.args.id.now i.forest i.invoker i.performer.kept c.self.invariant
    ∙ ap (λ (k : Calls). operation_in (opened_with c.args.own c.args.id.now k.opens)) c.self.view_is

pub returns-in-None : goal.returns-in-None
returns-in-None c =
    let i = c.self.inside in
    ap (option_map (λ (x : InvokedWith). x.operation)) (sym c.in-None.is ∙ c.called_at.ensures)
    ∙ operation_called c.args.own c.args.id.now i.forest i.invoker i.performer.kept c.self.invariant
    ∙ ap (λ (k : Calls). operation_in (opened_with c.args.own c.args.id.now k.opens)) c.self.view_is
