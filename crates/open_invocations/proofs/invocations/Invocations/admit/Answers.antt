use Rattle.std.proofs.Common.{◌≡◌, None, false, sym, ap, subst, ◌∙◌}
use Rattle.rose_roles.specs.end_rules.State.{Calls, opened_with}
use Rattle.rose_roles.specs.end_rules.Hearing.{with_opened}
use Rattle.rose_roles.specs.Calls.{Performing, called, calls_of}
use Rattle.open_invocations.specs.Invocations.{AreKept, is_link_back}
use Rattle.open_invocations.proofs.Kept.{shut_is, link_back_is, admitted_kept, on_ok}
use Rattle.open_invocations.proofs.invocations.Invocations.admit.Goals as goal

pub admit-requires-clause-shut : goal.admit-requires-clause-shut
admit-requires-clause-shut c =
    let i = c.self.inside in
    subst (λ (x : Performing). called c.args.id.now x.kept ≡ None) (sym c.set_context.ensures)
    (shut_is c.args.id.now i.forest i.invoker i.performer.kept c.self.invariant (ap (λ (k : Calls). opened_with false c.args.id.now k.opens) c.self.view_is ∙ c.requires.shut))

pub admit-requires-clause-linked : goal.admit-requires-clause-linked
admit-requires-clause-linked c =
    let i = c.self.inside in
    link_back_is c.args.linked i.forest i.invoker.kept i.performer.kept c.self.invariant.own (ap (λ (k : Calls). is_link_back c.args.linked k.opens) c.self.view_is ∙ c.requires.linked)

pub invariant_of-self : goal.invariant_of-self
invariant_of-self c =
    let i = c.self.inside in
    let p = c.set_context.new.self in
    admitted_kept c.args.tables.now i.forest c.admit.new.forest i.invoker p c.admit.new.self c.args.id.now c.args.called.operation p.context c.args.linked
    (subst (λ (x : Performing). AreKept i.forest i.invoker x.kept) (sym c.set_context.ensures) c.self.invariant) (c.admit.ensures.keeps.keys.others i.invoker.kept c.self.invariant.own) c.admit.ensures.keeps.keys.these c.admit.result c.admit.ensures.admitted c.admit.ensures.err

pub returns-clause-admitted : goal.returns-clause-admitted
returns-clause-admitted c =
    let i = c.self.inside in
    on_ok c.admit.result c.admit.ensures.admitted
    (λ opened base same.
    opened base i.invoker same
    ∙ ap (λ (x : Performing). with_opened base (record { own = false; id = c.args.id.now; operation = c.args.called.operation; context = x.context; parent = c.args.linked }) (calls_of i.forest i.invoker x.kept)) c.set_context.ensures
    ∙ ap (with_opened base (record { own = false; id = c.args.id.now; operation = c.args.called.operation; context = c.args.called.context; parent = c.args.linked })) c.self.view_is)
