use Rattle.std.proofs.Common.{sym, ◌∙◌}
use Rattle.rose_roles.specs.end_rules.State.{opened_with}
use Rattle.open_invocations.proofs.Kept.{some_in}
use Rattle.open_invocations.proofs.invocations.Invocations.is_open.Goals as goal

pub returns-in-Some : goal.returns-in-Some
returns-in-Some c = some_in (opened_with c.args.own c.args.id.now c.args.self.now.opens) _ (sym c.in-Some.is ∙ c.operation.ensures)

pub returns-in-None : goal.returns-in-None
returns-in-None c = some_in (opened_with c.args.own c.args.id.now c.args.self.now.opens) _ (sym c.in-None.is ∙ c.operation.ensures)
