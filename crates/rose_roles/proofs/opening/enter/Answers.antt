use Rattle.std.proofs.Common.{ap, ◌∙◌}
use Rattle.std.specs.Map.{remove_entry}
use Rattle.std.specs.BTreeMap.{is_at}
use Rattle.std.specs.Ordering.{int_cmp}
use Rattle.rose_roles.specs.Calls.{Kept}
use Rattle.rose_roles.proofs.Changes.{again, refused_same}
use Rattle.rose_roles.proofs.opening.enter.Goals as goal

pub returns-in-Err-clause-err : goal.returns-in-Err-clause-err
returns-in-Err-clause-err c = (
  c.take_away.ensures.kept ∙ ap (λ (x : Kept). remove_entry (is_at (int_cmp c.args.key.now.id)) x) c.in_ok-put.ensures.kept ∙ again c.args.key.now.id c.args.call c.args.kept.now.entries c.requires.shut,
  refused_same _ _ _ _ c.in-Err.field-0 c.in-Err.ensures,
)
