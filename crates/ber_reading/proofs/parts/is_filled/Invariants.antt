use Rattle.std.proofs.Common.{◌≡◌, drop}
use Rattle.ber_spelling.specs.Rules.{is_filled}
use Rattle.ber_reading.proofs.parts.is_filled.Given as goal

abbrev pub invariant-loop-index : goal.invariant-loop-index
invariant-loop-index l = is_filled (drop l.index l.parts) (drop l.index l.found) ≡ is_filled l.parts l.found
