use Rattle.std.proofs.Common.{◌≡◌, ◌<◌, ◌++◌, List, Bool, true, length, take, drop, sym, ap, subst, ◌∙◌}
use Rattle.std.specs.Prelude.{slice_set}
use Rattle.module_faults.specs.ReachSets.{AreReached, IsNext, IsClosed, outs}
use Rattle.module_faults.proofs.Reached.{fewer_out, one_more, is_reach, put_back}
use Rattle.module_faults.proofs.reach_sets.reach.Goals as goal

pub loop-to-smaller : goal.loop-to-smaller
loop-to-smaller c =
    let put : take c.loop-to.reached.len (c.put.new.reached ++ drop (length c.put.new.reached) c.loop-to.reached.items) ≡ slice_set c.loop-to.reached.items c.in-Some.to true = put_back c.loop-to.reached.items c.put.new.reached c.loop-to.reached.len c.in-Some.to (sym c.deref_mut.ensures.len ∙ ap length c.deref_mut.ensures.value) (c.put.ensures ∙ ap (λ (z : List Bool). slice_set z c.in-Some.to true) c.deref_mut.ensures.value) in
    subst (λ (z : List Bool). outs z < outs c.loop-to.reached.items) (sym put) (fewer_out c.args.uses.now c.args.place c.loop-to.reached.items c.in-Some.to
    (subst (λ (z : List Bool). IsNext c.args.uses.now c.args.place z c.in-Some.to) c.deref.ensures.value c.in-Some.ensures.next))

pub loop-to-preserved : goal.loop-to-preserved
loop-to-preserved c =
    let put : take c.loop-to.reached.len (c.put.new.reached ++ drop (length c.put.new.reached) c.loop-to.reached.items) ≡ slice_set c.loop-to.reached.items c.in-Some.to true = put_back c.loop-to.reached.items c.put.new.reached c.loop-to.reached.len c.in-Some.to (sym c.deref_mut.ensures.len ∙ ap length c.deref_mut.ensures.value) (c.put.ensures ∙ ap (λ (z : List Bool). slice_set z c.in-Some.to true) c.deref_mut.ensures.value) in
    subst (λ (z : List Bool). AreReached c.args.uses.now c.args.place z) (sym put) (one_more c.args.uses.now c.args.place c.loop-to.reached.items c.in-Some.to c.loop-to.invariant
    (subst (λ (z : List Bool). IsNext c.args.uses.now c.args.place z c.in-Some.to) c.deref.ensures.value c.in-Some.ensures.next))

pub returns : goal.returns
returns c = is_reach c.args.uses.now c.args.place c.loop-to.reached.items c.loop-to.invariant (subst (λ (z : List Bool). IsClosed c.args.uses.now c.args.place z) c.deref.ensures.value c.in_default.ensures.closed)
