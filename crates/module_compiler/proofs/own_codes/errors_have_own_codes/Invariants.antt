use Rattle.std.proofs.Common.{take}
use Rattle.module_compiler.proofs.OwnCodes.{Done}
use Rattle.module_compiler.proofs.own_codes.errors_have_own_codes.Given as goal

abbrev pub invariant-loop-error : goal.invariant-loop-error
invariant-loop-error l = Done (λ e. e.code) (take l.error-index l.errors) l.seen
