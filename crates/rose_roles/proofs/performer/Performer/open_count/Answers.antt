use Rattle.std.proofs.Common.{false, length, sym, ap, subst, ◌∙◌}
use Rattle.rose_roles.specs.Calls.{Performing}
use Rattle.rose_roles.proofs.Keys.{apart}
use Rattle.rose_roles.proofs.Counts.{Once, once_sorted, counts}
use Rattle.rose_roles.proofs.performer.Performer.open_count.Goals as goal

pub returns-clause-opens : goal.returns-clause-opens
returns-clause-opens c = λ forest invoked is peer.
    let once = subst (λ (p : Performing). Once p.kept) c.self.view_is (once_sorted c.self.inside.kept.entries c.len.ensures.ordered) in
    counts false invoked c.args.self.now.kept forest c.args.self.now.kept (apart forest is) once peer
    ∙ sym (c.len.ensures.len ∙ ap (λ (p : Performing). length p.kept) c.self.view_is)
