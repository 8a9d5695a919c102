use Rattle.std.proofs.Common.{◌∙◌, ◌-◌, ap, sym}
use Rattle.context_restore.specs.Versions.{set_of, below}
use Rattle.context_restore.specs.SavedSets.{SavedSets}
use Rattle.context_restore.proofs.Sound.{sound_cut, versions-cut}
use Rattle.context_restore.proofs.saved.Saved.cut.Goals as goal

pub invariant_of-self : goal.invariant_of-self
invariant_of-self c =
    record {
      sound = sound_cut c.self.inside.nodes c.drop_newest-self-inside.new.nodes c.self.inside.head c.drop_newest-self-inside.result c.self.inside.newest c.in_ok-newest.newest c.self.inside.active c.args.count c.saturating_sub-dropped.result c.self.invariant.sound
          (c.saturating_sub-dropped.ensures ∙ ap (λ n. n - c.args.count) c.len.ensures) c.requires c.drop_newest-self-inside.ensures
          (c.in_ok-newest.ensures.list ∙ sym (ap (λ (x : SavedSets). set_of (below c.args.count x.nodes)) c.self.view_is));
      inter_rises = c.self.invariant.inter_rises;
    }

pub returns-clause-ok : goal.returns-clause-ok
returns-clause-ok c =
    let nodes =
    versions-cut c.self.inside.nodes c.drop_newest-self-inside.new.nodes c.self.inside.head c.drop_newest-self-inside.result c.self.inside.newest c.in_ok-newest.newest c.self.inside.active c.args.count c.saturating_sub-dropped.result c.self.invariant.sound
    (c.saturating_sub-dropped.ensures ∙ ap (λ n. n - c.args.count) c.len.ensures) c.requires c.drop_newest-self-inside.ensures
    ∙ ap (λ (x : SavedSets). below c.args.count x.nodes) c.self.view_is
    in
    λ i. record { nodes = nodes i; inter = ap (λ (x : SavedSets). x.inter) c.self.view_is i; active = ap (λ (x : SavedSets). x.active) c.self.view_is i }
