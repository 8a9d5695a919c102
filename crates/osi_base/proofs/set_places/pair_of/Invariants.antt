use Rattle.std.proofs.Common.{◌≡◌, drop}
use Rattle.osi_base.specs.SetPlaces.{pair_of}
use Rattle.osi_base.proofs.set_places.pair_of.Given as goal

abbrev pub invariant-loop-item : goal.invariant-loop-item
invariant-loop-item l = pair_of (drop l.item-index l.items) l.id ≡ pair_of l.items l.id
