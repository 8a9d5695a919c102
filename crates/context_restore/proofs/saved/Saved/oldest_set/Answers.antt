use Rattle.std.proofs.Common.{◌∙◌, ◌-◌, ap, sym, subst}
use Rattle.context_sets.specs.Sets.{ContextSet, IsRising}
use Rattle.context_restore.specs.Versions.{set_of, below}
use Rattle.context_restore.specs.SavedSets.{SavedSets}
use Rattle.context_restore.specs.Chain.{set_back}
use Rattle.context_restore.proofs.Changes.{rising-set_of}
use Rattle.context_restore.proofs.Sound.{set-below}
use Rattle.context_restore.proofs.saved.Saved.oldest_set.Goals as goal

pub returns-clause-list : goal.returns-clause-list
returns-clause-list c =
    c.from_vec.ensures ∙ c.in_ok-set.ensures
    ∙ ap (λ (x : ContextSet). set_back c.self.inside.nodes c.saturating_sub-dropped.result c.self.inside.head x) c.in_ok-newest.ensures
    ∙ set-below c.self.inside.nodes c.self.inside.head c.self.inside.newest c.self.inside.active c.args.count c.saturating_sub-dropped.result c.self.invariant.sound
    (c.saturating_sub-dropped.ensures ∙ ap (λ n. n - c.args.count) c.len.ensures) c.requires
    ∙ ap (λ (x : SavedSets). set_of (below c.args.count x.nodes)) c.self.view_is

pub returns-clause-rises : goal.returns-clause-rises
returns-clause-rises c = subst IsRising (sym (returns-clause-list c)) (rising-set_of (below c.args.count c.args.self.now.nodes))
