use Rattle.std.proofs.Common.{◌≡◌, length}
use Rattle.std.specs.List.{list_all}
use Rattle.module_faults.specs.Known.{settles}
use Rattle.module_faults.proofs.type_facts.Facing.are_settled.Given as goal

abbrev pub invariant-loop-rest : goal.invariant-loop-rest
invariant-loop-rest l = list_all (settles l.self.standings.now l.self.known.now) l.rest ≡ list_all (settles l.self.standings.now l.self.known.now) l.uses

abbrev pub decreases-loop-rest : goal.decreases-loop-rest
decreases-loop-rest l = length l.rest
