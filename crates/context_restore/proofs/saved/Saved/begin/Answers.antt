use Rattle.context_restore.proofs.Sound.{sound_root}
use Rattle.context_restore.proofs.saved.Saved.begin.Goals as goal

pub invariant_of-self : goal.invariant_of-self
invariant_of-self c =
    record {
      sound = sound_root c.in_ok-nodes.nodes c.in_ok-copy.field-0 c.in_ok-newest.newest _ c.in_ok-nodes.ensures.len c.in_ok-nodes.ensures.there c.in_ok-copy.ensures c.in_ok-newest.ensures.rises;
      inter_rises = c.in_ok-inter.ensures.rises;
    }
