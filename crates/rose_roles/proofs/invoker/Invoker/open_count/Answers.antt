use Rattle.std.proofs.Common.{true, length, sym, ap, subst, ◌∙◌}
use Rattle.rose_roles.specs.Calls.{Invoking}
use Rattle.rose_roles.proofs.Keys.{apart}
use Rattle.rose_roles.proofs.Counts.{Once, once_sorted, counts}
use Rattle.rose_roles.proofs.invoker.Invoker.open_count.Goals as goal

pub returns-clause-opens : goal.returns-clause-opens
returns-clause-opens c = λ forest performed is own.
    let once = subst (λ (i : Invoking). Once i.kept) c.self.view_is (once_sorted c.self.inside.kept.entries c.len.ensures.ordered) in
    counts true c.args.self.now.kept performed forest c.args.self.now.kept (apart forest is) once own
    ∙ sym (c.len.ensures.len ∙ ap (λ (i : Invoking). length i.kept) c.self.view_is)
