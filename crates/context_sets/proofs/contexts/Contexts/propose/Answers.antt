use Rattle.std.proofs.Common.{◌∙◌, ap, arith}
use Rattle.context_sets.specs.Alterations.{additions}
use Rattle.context_sets.proofs.Bounds.{additions-push}
use Rattle.context_sets.proofs.Keeping.{sound_asked, sound_at, is_allowed_at}
use Rattle.context_sets.proofs.contexts.Contexts.propose.Goals as goal

pub invariant_of-self-2 : goal.invariant_of-self-2
invariant_of-self-2 c =
    let count = c.additions.ensures ∙ ap additions c.deref-3.ensures.value in
    let more = c.len.ensures in
    let room = c.in_ok-reserve.ensures.ok in
    sound_at _ _ _ _ _ c.reserve.ensures.items c.in_ok-push.ensures.items
    (sound_asked c.self.inside.items.items c.self.inside.own.items (record { added = c.args.add; deleted = c.args.delete }) _ _ c.self.invariant
    (is_allowed_at c.self.inside.initiator _ c.deref.result.now _ c.deref-2.result.now c.args.used.now c.as_slice.result.now _ c.in_ok-refusal.field-0 c.deref.ensures.value c.deref-2.ensures.value c.in_ok-refusal.ensures c.in_default.is)
    (omega arith))

pub returns-clause-roomy : goal.returns-clause-roomy
returns-clause-roomy c =
    let count = c.additions.ensures ∙ ap additions c.deref-3.ensures.value in
    let more = c.len.ensures in
    let room = c.in_ok-reserve.ensures.ok in
    let e = ap additions c.in_ok-push.ensures.items ∙ additions-push c.self.inside.own.items (record { added = c.args.add; deleted = c.args.delete }) in
    omega arith
