use Rattle.std.proofs.Common.{ℕ, List, length}
use Rattle.trace_values.specs.Values.{ArePdvsText, Puts}
use Rattle.trace_values.proofs.values.put_pdvs.Given as goal

abbrev pub invariant-loop-pdv : goal.invariant-loop-pdv
invariant-loop-pdv l = (after : List ℕ) → Puts (ArePdvsText l.tables l.rest) l.text after → Puts (ArePdvsText l.tables l.pdvs) l.fn.text after

abbrev pub decreases-loop-pdv : goal.decreases-loop-pdv
decreases-loop-pdv l = length l.rest
