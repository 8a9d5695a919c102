use Rattle.std.proofs.Common.{Bool, sym, ap, ◌∙◌}
use Rattle.rose_roles.specs.Calls.{called, side}
use Rattle.open_invocations.proofs.listing.called_at.Goals as goal

pub returns-then-own : goal.returns-then-own
returns-then-own c =
    c.called.ensures ∙ ap (λ (b : Bool). called c.args.id.now (side b c.args.invoker.now.kept c.args.performer.now.kept)) (sym c.if-own.true)

pub returns-else-own : goal.returns-else-own
returns-else-own c =
    c.called-else-own.ensures ∙ ap (λ (b : Bool). called c.args.id.now (side b c.args.invoker.now.kept c.args.performer.now.kept)) (sym c.if-own.false)
