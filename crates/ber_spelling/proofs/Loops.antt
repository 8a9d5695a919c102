-- Reading one after the other, as loops do.
use Rattle.std.proofs.Common.{ℕ, length, arith}
use Rattle.ber_spelling.specs.declared.spot.Spot as code
use Rattle.ber_spelling.specs.Reading.{GoesOn}

pub goes_then : {place len : ℕ} {mid to : code.Spot} → GoesOn place len mid → GoesOn mid.place (length mid.rest.now) to → GoesOn place len to
goes_then a b = record { whole = omega (arith, a.whole, b.whole); onward = omega (arith, a.onward, b.onward) }
