use Rattle.std.proofs.Common.{◌≡◌, drop}
use Rattle.osi_base.specs.SetPlaces.{place_of, moved_by}
use Rattle.osi_base.proofs.set_places.place_of.Given as goal

abbrev pub invariant-loop-place : goal.invariant-loop-place
invariant-loop-place l = moved_by l.place (place_of l.id (drop l.place l.items)) ≡ place_of l.id l.items
