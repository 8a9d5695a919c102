use Rattle.std.proofs.Common.{◌≡◌, ◌∙◌, ap, insert, Ok, Err, arith}
use Rattle.std.proofs.lemmas.Grind.{common_steps}
use Rattle.context_sets.specs.Sets.{put}
use Rattle.osi_base.specs.SetPlaces.{place_of}
use Rattle.osi_base.proofs.Placing.{found_within}
use Rattle.context_sets.proofs.Placing.{put_as}
use Rattle.context_sets.proofs.sets.put_context.Goals as goal

pub insert-requires : goal.insert-requires
insert-requires c = let h = found_within c.args.new.id c.deref.result.now _ c.in-Err.ensures in omega arith

pub index_mut-requires : goal.index_mut-requires
index_mut-requires c = let h = found_within c.args.new.id c.deref.result.now _ c.in-Ok.ensures in omega arith

pub returns-in-Ok-clause-items : goal.returns-in-Ok-clause-items
returns-in-Ok-clause-items c =
    put_as c.args.new c.args.items.now.items (Ok c.in-Ok.place) (c.in-Ok.ensures ∙ ap (place_of c.args.new.id) c.deref.ensures.value)

pub returns-in-Err-clause-items : goal.returns-in-Err-clause-items
returns-in-Err-clause-items c =
    let there : insert c.args.items.now.items c.in-Err.place c.args.new ≡ put c.args.new c.args.items.now.items =
    put_as c.args.new c.args.items.now.items (Err c.in-Err.place) (c.in-Err.ensures ∙ ap (place_of c.args.new.id) c.deref.ensures.value)
    in
    let fine = c.insert.ensures.succeeds c.requires in
    grind (arith, common_steps, there, fine, c.insert.ensures.items)
