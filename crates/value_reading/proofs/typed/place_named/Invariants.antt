use Rattle.std.proofs.Common.{◌≡◌, zero, drop}
use Rattle.value_reading.specs.Typed.{place_from}
use Rattle.value_reading.proofs.typed.place_named.Given as goal

abbrev pub invariant-loop-place : goal.invariant-loop-place
invariant-loop-place l = place_from zero l.parts l.name ≡ place_from l.place (drop l.place l.parts) l.name
