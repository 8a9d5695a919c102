use Rattle.std.proofs.Common.{◌≡◌, ◌++◌, take}
use Rattle.end_config.proofs.connecting.push_all.Given as goal

abbrev pub invariant-loop-context : goal.invariant-loop-context
invariant-loop-context l = l.proposals ≡ l.fn.proposals ++ take l.context-index l.contexts
