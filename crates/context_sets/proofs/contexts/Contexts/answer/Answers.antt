use Rattle.std.proofs.Common.{◌∙◌, ◌+◌, ap, arith, length}
use Rattle.context_sets.specs.Alterations.{additions, altered}
use Rattle.context_sets.specs.Results.{acceptances}
use Rattle.context_sets.proofs.Bounds.{accepts_few}
use Rattle.context_sets.proofs.Keeping.{sound_answered}
use Rattle.context_sets.proofs.contexts.Contexts.answer.Goals as goal

pub invariant_of-self-2 : goal.invariant_of-self-2
invariant_of-self-2 c =
    let taken = c.additions.ensures ∙ ap additions c.deref-2.ensures.value in
    let within = c.self.invariant.within in
    let place = c.len.ensures in
    let same = ap length c.reserve.ensures.items in
    let longer = c.settle.ensures.len in
    let few = accepts_few c.args.rules.now (c.len.result + c.additions.result) c.as_slice-2.result.now (omega arith) in
    let accepted = ap acceptances c.in_ok-added_answers.ensures in
    let count = c.acceptances-accepted.ensures.count ∙ ap acceptances c.as_slice-5.ensures in
    let waits = c.additions-2.ensures ∙ ap additions c.deref-4.ensures.value in
    let room = c.in_ok-reserve.ensures.ok in
    let capacity = c.settle.ensures.capacity in
    sound_answered c.self.inside.items.items _ c.self.inside.own.items (record { added = c.in_ok-copy.field-0; deleted = c.in_ok-copy-2.field-0 }) (record { added = c.in_ok-added_answers.field-0; deleted = c.in_ok-deletion_answers.field-0 }) (acceptances c.in_ok-added_answers.field-0) _ _ c.self.invariant
    (c.settle.ensures.items ∙ ap (altered (record { added = c.in_ok-copy.field-0; deleted = c.in_ok-copy-2.field-0 }) (record { added = c.in_ok-added_answers.field-0; deleted = c.in_ok-deletion_answers.field-0 })) c.reserve.ensures.items)
    (omega arith)
    (omega arith)
    (omega arith)
