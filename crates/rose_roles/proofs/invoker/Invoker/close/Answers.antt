use Rattle.std.proofs.Common.{cond, None, true, false, refl, sym, ap, subst, ◌∙◌}
use Rattle.std.specs.Ordering.{int_eq}
use Rattle.linked_ops.specs.declared.key.Key.{Key}
use Rattle.linked_ops.specs.Entries.{closed}
use Rattle.end_wire.specs.end_rules.State as ends
use Rattle.rose_roles.specs.Calls.{Invoking, called, AreOpen, open_calls_in}
use Rattle.rose_roles.proofs.Keys.{apart}
use Rattle.rose_roles.proofs.Changes.{leaves_own, left_after, beside_after}
use Rattle.rose_roles.proofs.invoker.Invoker.close.Goals as goal

pub returns-clause-closed : goal.returns-clause-closed
returns-clause-closed c = λ performed.
    let a = apart c.args.forest.now c.hold_forest.ensures in
    let x = leaves_own c.args.id.now c.self.inside.kept.entries c.leave.new.kept.entries (λ q. c.leave.ensures.kept q ∙ ap (λ (k : Key). cond (int_eq k.id q) None (called q c.self.inside.kept.entries)) c.key_of-key.ensures) c.args.forest.now c.leave.new.forest performed a (c.leave.ensures.forest ∙ ap (λ (k : Key). closed k c.args.forest.now) c.key_of-key.ensures)
    ∙ ap (λ (i : Invoking). ends.closed true c.args.id.now (open_calls_in c.args.forest.now i.kept performed)) c.self.view_is in
    let y = ap (λ (i : Invoking). i.made) c.self.view_is in λ k. record { opens = x k; made = y k }

pub returns-clause-open : goal.returns-clause-open
returns-clause-open c =
    record {
      these =
          left_after c.args.id.now c.self.inside.kept.entries c.leave.new.kept.entries (λ q. c.leave.ensures.kept q ∙ ap (λ (k : Key). cond (int_eq k.id q) None (called q c.self.inside.kept.entries)) c.key_of-key.ensures) c.args.forest.now c.leave.new.forest true (apart c.args.forest.now c.hold_forest.ensures) (c.leave.ensures.forest ∙ ap (λ (k : Key). closed k c.args.forest.now) c.key_of-key.ensures)
          (subst (λ (i : Invoking). AreOpen true c.args.forest.now i.kept) (sym c.self.view_is) c.requires);
      others = λ performed h.
          beside_after true false c.args.id.now c.args.forest.now c.leave.new.forest refl (c.leave.ensures.forest ∙ ap (λ (k : Key). closed k c.args.forest.now) c.key_of-key.ensures) performed h;
    }
