use Rattle.std.proofs.Common.{◌≡◌, ◌+◌, ◌≤◌, drop, vec_len, vec_capacity}
use Rattle.std.specs.Vec.Iter.{into_iter_items}
use Rattle.context_sets.specs.Alterations.{with_additions}
use Rattle.context_sets.specs.Results.{acceptances}
use Rattle.context_sets.proofs.settling.put_additions.Given as goal

abbrev pub invariant-loop-answer : goal.invariant-loop-answer
invariant-loop-answer l = record { rest : with_additions (into_iter_items l.rest) (drop l.answer-index l.answers) l.items.items ≡ with_additions (into_iter_items l.initial.rest) l.answers l.initial.items.items; room : vec_len l.items + acceptances (drop l.answer-index l.answers) ≤ vec_len l.initial.items + acceptances l.answers; capacity : vec_capacity l.items ≡ vec_capacity l.initial.items }
