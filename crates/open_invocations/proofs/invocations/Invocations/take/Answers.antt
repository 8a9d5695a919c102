use Rattle.std.proofs.Common.{refl, sym, ap, subst}
use Rattle.rose_roles.specs.Calls.{Performing, calls_of}
use Rattle.open_invocations.specs.Invocations.{AreKept}
use Rattle.open_invocations.proofs.Kept.{taken_by_performer, taken_by_invoker, heard_at}
use Rattle.open_invocations.proofs.invocations.Invocations.take.Goals as goal

pub invariant_of-self : goal.invariant_of-self
invariant_of-self c =
    let i = c.self.inside in
    let p = c.set_context.new.self in
    let q = c.take.new.self in
    taken_by_performer c.args.syntax c.args.context c.args.tables.now c.args.head c.requires i.forest c.take.new.forest i.invoker p q
    (subst (λ (x : Performing). AreKept i.forest i.invoker x.kept) (sym c.set_context.ensures) c.self.invariant) (c.take.ensures.keeps.keys.others i.invoker.kept c.self.invariant.own) c.take.ensures.keeps.keys.these c.take.result
    (heard_at c.args.syntax c.args.context c.args.tables.now c.args.head p.context (calls_of i.forest i.invoker p.kept) (calls_of i.forest i.invoker p.kept) (calls_of c.take.new.forest i.invoker q.kept) c.take.result (ap (λ (x : Performing). x.context) c.set_context.ensures) refl c.take.ensures.heard)
    c.take.ensures.err

pub invariant_of-self-in-Result : goal.invariant_of-self-in-Result
invariant_of-self-in-Result c =
    let i = c.self.inside in
    taken_by_invoker c.args.syntax c.args.context c.args.tables.now c.args.head c.requires i.forest c.take-in-Result.new.forest i.invoker c.take-in-Result.new.self i.performer.kept c.self.invariant c.take-in-Result.ensures.keeps.keys.these
    (c.take-in-Result.ensures.keeps.keys.others i.performer.kept c.self.invariant.peer) c.take-in-Result.result c.take-in-Result.ensures.heard c.take-in-Result.ensures.keeps.err
