use Rattle.std.proofs.Common.{cond, None, true, false, refl, sym, ap, subst, ◌∙◌}
use Rattle.std.specs.Ordering.{int_eq}
use Rattle.linked_ops.specs.declared.key.Key.{Key}
use Rattle.linked_ops.specs.Entries.{closed}
use Rattle.end_wire.specs.end_rules.State as ends
use Rattle.rose_roles.specs.Calls.{Performing, called, AreOpen, open_calls_in}
use Rattle.rose_roles.proofs.Keys.{apart}
use Rattle.rose_roles.proofs.Changes.{leaves_peer, left_after, beside_after}
use Rattle.rose_roles.proofs.performer.Performer.close.Goals as goal

pub returns-clause-closed : goal.returns-clause-closed
returns-clause-closed c = λ invoked.
    let key_is = c.key_of-key.ensures in
    let a = apart c.args.forest.now c.hold_forest.ensures in
    let x = leaves_peer c.args.id.now c.self.inside.kept.entries c.leave.new.kept.entries (λ q. c.leave.ensures.kept q ∙ ap (λ (k : Key). cond (int_eq k.id q) None (called q c.self.inside.kept.entries)) key_is) c.args.forest.now c.leave.new.forest invoked.kept a (c.leave.ensures.forest ∙ ap (λ (k : Key). closed k c.args.forest.now) key_is)
    ∙ ap (λ (i : Performing). ends.closed false c.args.id.now (open_calls_in c.args.forest.now invoked.kept i.kept)) c.self.view_is in
    λ k. record { opens = x k; made = invoked.made }

pub returns-clause-keeps : goal.returns-clause-keeps
returns-clause-keeps c =
    let key_is = c.key_of-key.ensures in
    let shut = c.leave.ensures.forest ∙ ap (λ (k : Key). closed k c.args.forest.now) key_is in
    record {
      context = ap (λ (p : Performing). p.context) c.self.view_is;
      keys =
          record {
            these =
                left_after c.args.id.now c.self.inside.kept.entries c.leave.new.kept.entries (λ q. c.leave.ensures.kept q ∙ ap (λ (k : Key). cond (int_eq k.id q) None (called q c.self.inside.kept.entries)) key_is) c.args.forest.now c.leave.new.forest false (apart c.args.forest.now c.hold_forest.ensures) shut
                (subst (λ (i : Performing). AreOpen false c.args.forest.now i.kept) (sym c.self.view_is) c.requires);
            others = λ invoked h. beside_after false true c.args.id.now c.args.forest.now c.leave.new.forest refl shut invoked h;
          };
    }
