use Rattle.std.proofs.Common.{◌≡◌, drop}
use Rattle.ber_writing.specs.Comparing.{compared}
use Rattle.ber_writing.proofs.pieces.octets_compared.Given as goal

abbrev pub invariant-loop-index : goal.invariant-loop-index
invariant-loop-index l = compared (drop l.index l.a) (drop l.index l.b) ≡ compared l.a l.b
