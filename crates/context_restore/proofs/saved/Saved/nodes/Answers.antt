use Rattle.std.proofs.Common.{◌∙◌, ap, sym, length}
use Rattle.context_restore.specs.SavedSets.{SavedSets}
use Rattle.context_restore.proofs.Sound.{length-versions}
use Rattle.context_restore.proofs.saved.Saved.nodes.Goals as goal

pub returns-clause-count : goal.returns-clause-count
returns-clause-count c =
    c.len.ensures ∙ sym (length-versions c.self.inside.nodes c.self.inside.head c.self.inside.newest c.self.inside.active c.self.invariant.sound)
    ∙ ap (λ (x : SavedSets). length x.nodes) c.self.view_is
