use Rattle.std.proofs.Common.{◌∙◌, ◌-◌, ap, refl, subst, arith, vec_len, vec_capacity, List}
use Rattle.context_sets.specs.declared.alteration.Alteration.{Alteration}
use Rattle.context_sets.specs.Alterations.{additions}
use Rattle.context_sets.specs.HeldSets.{IsSoundHeldSet, later}
use Rattle.context_sets.proofs.Keeping.{sound_confirmed, first_of_some, sound_at, accepts_asked}
use Rattle.context_sets.proofs.contexts.Contexts.confirm.Goals as goal

pub settle-requires-clause-room : goal.settle-requires-clause-room
settle-requires-clause-room c =
    let first = first_of_some c.self.inside.own.items c.remove-oldest.result (omega arith) c.remove-oldest.ensures.value in
    let few = accepts_asked c.self.inside.own.items c.deref.result.now c.remove-oldest.result c.args.answers.now c.oldest_mismatch.result c.deref.ensures.value c.oldest_mismatch.ensures c.in_default.is first in
    let all = ap additions first.all in
    let room = c.self.invariant.has_room in
    let within = c.self.invariant.within in
    omega arith

pub invariant_of-self : goal.invariant_of-self
invariant_of-self c =
    let first = first_of_some c.self.inside.own.items c.remove-oldest.result (omega arith) c.remove-oldest.ensures.value in
    let few = accepts_asked c.self.inside.own.items c.deref.result.now c.remove-oldest.result c.args.answers.now c.oldest_mismatch.result c.deref.ensures.value c.oldest_mismatch.ensures c.in_default.is first in
    let all = ap additions first.all in
    let room = c.self.invariant.has_room in
    let len = c.settle.ensures.len in
    let capacity = c.settle.ensures.capacity in
    sound_at _ _ (later c.self.inside.own.items) _ _ refl (c.remove-oldest.ensures.items ∙ first.others)
    (sound_confirmed c.self.inside.items.items _ _ c.remove-oldest.result c.args.answers.now _ _ (subst (λ (x : List Alteration). IsSoundHeldSet c.self.inside.items.items x (vec_capacity c.self.inside.items - vec_len c.self.inside.items)) first.all c.self.invariant) c.settle.ensures.items (omega arith) (omega arith))

pub returns-then-len-gt0-clause-roomy : goal.returns-then-len-gt0-clause-roomy
returns-then-len-gt0-clause-roomy c =
    let first = first_of_some c.self.inside.own.items c.remove-oldest.result (omega arith) c.remove-oldest.ensures.value in
    let few = accepts_asked c.self.inside.own.items c.deref.result.now c.remove-oldest.result c.args.answers.now c.oldest_mismatch.result c.deref.ensures.value c.oldest_mismatch.ensures c.in_default.is first in
    let all = ap additions first.all in
    let same = ap additions (c.remove-oldest.ensures.items ∙ first.others) in
    let room = c.self.invariant.has_room in
    let len = c.settle.ensures.len in
    let capacity = c.settle.ensures.capacity in
    omega arith
