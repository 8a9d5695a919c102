use Rattle.std.proofs.Common.{◌≡◌, drop}
use Rattle.osi_base.specs.Syntax.{is_listed}
use Rattle.osi_base.proofs.syntax.is_listed.Given as goal

abbrev pub invariant-loop-other : goal.invariant-loop-other
invariant-loop-other l = is_listed l.name (drop l.other-index l.names) ≡ is_listed l.name l.names
