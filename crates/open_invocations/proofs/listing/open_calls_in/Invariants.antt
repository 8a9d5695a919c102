use Rattle.std.proofs.Common.{◌≡◌, ◌++◌, drop}
use Rattle.rose_roles.specs.Calls.{open_calls_in}
use Rattle.open_invocations.proofs.listing.open_calls_in.Given as goal

abbrev pub invariant-loop-entry : goal.invariant-loop-entry
invariant-loop-entry l =
    l.opens.items ++ open_calls_in (drop l.entry-index l.entries) l.invoker.kept l.performer.kept ≡ open_calls_in l.entries l.invoker.kept l.performer.kept
