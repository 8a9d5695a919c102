use Rattle.std.proofs.Common.{take}
use Rattle.module_compiler.proofs.OwnCodes.{Done}
use Rattle.module_compiler.proofs.own_codes.operations_have_own_codes.Given as goal

abbrev pub invariant-loop-operation : goal.invariant-loop-operation
invariant-loop-operation l = Done (λ o. o.code) (take l.operation-index l.operations) l.seen
