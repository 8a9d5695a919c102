use Rattle.std.proofs.Common.{◌≡◌, ◌∙◌, ap, insert, Ok, Err, arith}
use Rattle.std.proofs.lemmas.Grind.{common_steps}
use Rattle.association_ground.specs.end_rules.Sets.{put}
use Rattle.osi_base.specs.SetPlaces.{place_of}
use Rattle.osi_base.proofs.Placing.{found_within}
use Rattle.association_sets.proofs.Placing.{put_as}
use Rattle.association_sets.proofs.sets.put_context.Goals as goal

pub insert-requires : goal.insert-requires
insert-requires c = let h = found_within c.args.id c.deref.result.now _ c.in-Err.ensures in omega arith

pub index_mut-requires : goal.index_mut-requires
index_mut-requires c = let h = found_within c.args.id c.deref.result.now _ c.in-Ok.ensures in omega arith

pub returns-in-Ok : goal.returns-in-Ok
returns-in-Ok c =
    put_as (record { id = c.args.id; pair = c.args.pair }) c.args.items.now.items (Ok c.in-Ok.place) (c.in-Ok.ensures ∙ ap (place_of c.args.id) c.deref.ensures.value)

pub returns-in_ok-insert-in-Err : goal.returns-in_ok-insert-in-Err
returns-in_ok-insert-in-Err c =
    let there : insert c.args.items.now.items c.in-Err.place (record { id = c.args.id; pair = c.args.pair }) ≡ put c.args.id c.args.pair c.args.items.now.items =
    put_as (record { id = c.args.id; pair = c.args.pair }) c.args.items.now.items (Err c.in-Err.place) (c.in-Err.ensures ∙ ap (place_of c.args.id) c.deref.ensures.value)
    in
    grind (arith, common_steps, there, c.insert.ensures.items)
