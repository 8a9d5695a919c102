use Rattle.std.proofs.Common.{◌+◌, ◌<◌, pos, true, sym, ap, subst, ◌∙◌, arith}
use Rattle.rose_roles.specs.end_rules.State.{Calls}
use Rattle.open_invocations.specs.Invocations.{is_link}
use Rattle.open_invocations.proofs.Kept.{not_open, link_is, opened_or_kept}
use Rattle.open_invocations.proofs.invocations.Invocations.open.Goals as goal

pub open-requires-clause-fresh : goal.open-requires-clause-fresh
open-requires-clause-fresh c =
    let i = c.self.inside in
    not_open true (pos (i.invoker.made + 1)) i.forest i.invoker.kept i.performer.kept (c.self.invariant.fresh (i.invoker.made + 1) (omega arith))

pub open-requires-clause-linked : goal.open-requires-clause-linked
open-requires-clause-linked c =
    let i = c.self.inside in
    link_is c.args.linked i.forest i.invoker.kept i.performer.kept c.self.invariant.peer (ap (λ (k : Calls). is_link c.args.linked k.opens) c.self.view_is ∙ c.requires.linked)

pub invariant_of-self : goal.invariant_of-self
invariant_of-self c =
    let i = c.self.inside in
    opened_or_kept i.forest c.open.new.forest i.invoker c.open.new.self i.performer.kept c.args.operation c.args.context c.args.linked c.self.invariant (subst (λ (k : Calls). k.made < 2147483647) (sym c.self.view_is) c.requires.numbers) c.open.ensures.keeps.keys.these
    (c.open.ensures.keeps.keys.others i.performer.kept c.self.invariant.peer) c.open.result c.open.ensures.opened c.open.ensures.keeps.err
