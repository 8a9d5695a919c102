use Rattle.std.proofs.Common.{◌+◌, ap, arith, length}
use Rattle.context_restore.specs.SavedSets.{SavedSets}
use Rattle.context_restore.proofs.Links.{length-below}
use Rattle.context_restore.proofs.Sound.{sound_active}
use Rattle.context_restore.proofs.saved.Saved.resume.Goals as goal

pub invariant_of-self : goal.invariant_of-self
invariant_of-self c =
    let same = ap (λ (x : SavedSets). length x.nodes) c.self.view_is in
    let cut = ap (λ (x : SavedSets). length x.nodes) c.in_ok-list-2.ensures.ok in
    let count = c.nodes.ensures.count in
    let len = length-below (c.args.n + 1) c.args.self.now.nodes (omega arith) in
    record {
      sound = sound_active c.self.inside.nodes c.self.inside.head c.self.inside.newest c.self.inside.active c.self.invariant.sound (omega arith);
      inter_rises = c.in_ok-inter.ensures.rises;
    }
