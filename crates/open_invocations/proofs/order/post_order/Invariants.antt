use Rattle.std.proofs.Common.{◌≡◌, drop}
use Rattle.rose_roles.specs.end_rules.State.{post_order_on, post_order}
use Rattle.open_invocations.proofs.order.post_order.Given as goal

abbrev pub invariant-loop-call : goal.invariant-loop-call
invariant-loop-call l = post_order_on l.ordered.items (drop l.call-index l.opens) ≡ post_order l.opens
