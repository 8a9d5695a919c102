use Rattle.std.proofs.Common.{◌≡◌, ◌∙◌, ◌≤◌, ◌∷◌, ap, ap₂, sym, subst, arith, length, unwrap_or}
use Rattle.slab.specs.Slab.{slab_len}
use Rattle.context_sets.specs.Sets.{ContextSet, IsRising}
use Rattle.context_restore.specs.Versions.{missing, version, set_of}
use Rattle.context_restore.specs.SavedSets.{SavedSets}
use Rattle.context_restore.proofs.Sound.{sound_same, sound_more, versions-more, length-versions, rising_newest}
use Rattle.context_restore.proofs.saved.Saved.push.Goals as goal

pub missing-requires-clause-other : goal.missing-requires-clause-other
missing-requires-clause-other c = subst IsRising (sym c.as_slice.ensures) (rising_newest c.self.inside.nodes c.self.inside.head c.self.inside.newest c.self.inside.active c.self.invariant.sound)

pub missing-requires-2-clause-rises : goal.missing-requires-2-clause-rises
missing-requires-2-clause-rises c = subst IsRising (sym c.as_slice-2.ensures) (rising_newest c.self.inside.nodes c.self.inside.head c.self.inside.newest c.self.inside.active c.self.invariant.sound)

pub invariant_of-self : goal.invariant_of-self
invariant_of-self c =
    record {
      sound = sound_same c.self.inside.nodes c.insert_node.new.nodes _ _ _ c.in_err-key.ensures.err c.self.invariant.sound;
      inter_rises = c.self.invariant.inter_rises;
    }

pub changed_set-requires-clause-newest_rises : goal.changed_set-requires-clause-newest_rises
changed_set-requires-clause-newest_rises c = subst IsRising (sym c.as_slice-3.ensures) (rising_newest c.self.inside.nodes c.self.inside.head c.self.inside.newest c.self.inside.active c.self.invariant.sound)

pub changed_set-requires-clause-added : goal.changed_set-requires-clause-added
changed_set-requires-clause-added c = c.in_ok-missing.ensures ∙ ap₂ missing (c.as_slice.ensures ∙ sym c.as_slice-3.ensures) c.items.ensures.value

pub changed_set-requires-clause-lost : goal.changed_set-requires-clause-lost
changed_set-requires-clause-lost c = c.in_ok-missing-2.ensures ∙ ap₂ missing c.items-2.ensures.value (c.as_slice-2.ensures ∙ sym c.as_slice-3.ensures)

pub invariant_of-self-2 : goal.invariant_of-self-2
invariant_of-self-2 c =
    let len = length-versions c.self.inside.nodes c.self.inside.head c.self.inside.newest c.self.inside.active c.self.invariant.sound in
    let same = ap (λ (x : SavedSets). length x.nodes) c.self.view_is in
    let few : slab_len c.self.inside.nodes ≤ 65536 = omega arith in
    let now : c.renew.new.newest ≡ c.args.set.now.set = c.renew.ensures ∙ (ap (unwrap_or c.in_ok-changed.changed) (sym c.as_slice-3.ensures) ∙ c.in_ok-changed.ensures) in
    record {
      sound = sound_more c.self.inside.nodes c.insert_node.new.nodes c.self.inside.newest c.self.inside.active c.in_ok-key.key (record { parent = c.self.inside.head; added = c.in_ok-missing.field-0; lost = c.in_ok-missing-2.field-0 }) c.renew.new.newest c.self.invariant.sound few c.in_ok-key.ensures.was_vacant c.in_ok-key.ensures.updates c.in_ok-key.ensures.len
          (c.in_ok-missing.ensures ∙ ap₂ missing c.as_slice.ensures (c.items.ensures.value ∙ sym now))
          (c.in_ok-missing-2.ensures ∙ ap₂ missing (c.items-2.ensures.value ∙ sym now) c.as_slice-2.ensures)
          (subst IsRising (sym now) c.items.ensures.rises);
      inter_rises = c.self.invariant.inter_rises;
    }

pub returns-clause-ok : goal.returns-clause-ok
returns-clause-ok c =
    let now : c.renew.new.newest ≡ c.args.set.now.set = c.renew.ensures ∙ (ap (unwrap_or c.in_ok-changed.changed) (sym c.as_slice-3.ensures) ∙ c.in_ok-changed.ensures) in
    let nodes =
    versions-more c.self.inside.nodes c.insert_node.new.nodes c.self.inside.newest c.self.inside.active c.in_ok-key.key (record { parent = c.self.inside.head; added = c.in_ok-missing.field-0; lost = c.in_ok-missing-2.field-0 }) c.renew.new.newest c.self.invariant.sound c.in_ok-key.ensures.was_vacant c.in_ok-key.ensures.updates c.in_ok-key.ensures.len
    (c.in_ok-missing.ensures ∙ ap₂ missing c.as_slice.ensures (c.items.ensures.value ∙ sym now))
    (c.in_ok-missing-2.ensures ∙ ap₂ missing (c.items-2.ensures.value ∙ sym now) c.as_slice-2.ensures)
    ∙ ap (λ (x : SavedSets). version (set_of x.nodes) c.renew.new.newest ∷ x.nodes) c.self.view_is
    ∙ ap (λ (y : ContextSet). version (set_of c.args.self.now.nodes) y ∷ c.args.self.now.nodes) now
    in
    λ i. record { nodes = nodes i; inter = ap (λ (x : SavedSets). x.inter) c.self.view_is i; active = ap (λ (x : SavedSets). x.active) c.self.view_is i }
