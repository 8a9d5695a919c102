use Rattle.std.proofs.Common.{◌≡◌, ◌++◌, map, take}
use Rattle.end_rules.specs.State.{Queued}
use Rattle.association_state.specs.association_pieces.Sending.{seen_queued}
use Rattle.association_calls.proofs.in_use.push_queue.Given as goal

abbrev pub invariant-loop-item : goal.invariant-loop-item
invariant-loop-item l = l.ids ≡ l.fn.ids ++ map (λ (q : Queued). q.context) (map seen_queued (take l.item-index l.queue.items))
