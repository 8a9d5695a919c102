use Rattle.std.proofs.Common.{ℕ, Option, ap, sym, ◌∙◌}
use Rattle.slab.specs.Slab.{get}
use Rattle.linked_ops.specs.declared.node.Opening.{Opening}
use Rattle.linked_ops.specs.Rows.{place_with}
use Rattle.linked_ops.specs.Links.{unlinked_in}
use Rattle.linked_ops.proofs.Listed.{looked_up, removed}
use Rattle.linked_ops.proofs.Steps.{above_found, opening_found, none_found}
use Rattle.linked_ops.proofs.openings.leave.Goals as goal

pub returns-in-Some : goal.returns-in-Some
returns-in-Some c = (
  c.remove.ensures.entries ∙ removed c.args.number c.args.openings.now.entries,
  λ r e p.
      c.unlink.ensures p
      ∙ ap (λ (o : Option ℕ). unlinked_in (get c.args.nodes.now) c.in-Some.opening.place o p) (c.place_above-above.ensures ∙ above_found c.args.openings.now.entries c.args.number r e)
      ∙ ap (λ (o : Opening). unlinked_in (get c.args.nodes.now) o.place (place_with r.1.parent c.args.openings.now.entries) p)
      (opening_found c.args.openings.now.entries c.args.number r c.in-Some.opening e (c.in-Some.ensures.value ∙ looked_up c.args.number c.args.openings.now.entries)),
)

pub returns-in_default : goal.returns-in_default
returns-in_default c = (
  c.remove.ensures.entries ∙ removed c.args.number c.args.openings.now.entries,
  λ r e p. none_found c.args.openings.now.entries c.args.number r e (sym c.in_default.is ∙ c.remove.ensures.value ∙ looked_up c.args.number c.args.openings.now.entries),
)
