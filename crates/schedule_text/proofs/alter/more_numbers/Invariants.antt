use Rattle.std.proofs.Common.{◌≡◌, ◌-◌, [], length}
use Rattle.schedule_text.specs.Alterations.{more_numbers}
use Rattle.schedule_text.proofs.alter.more_numbers.Given as goal

abbrev pub invariant-loop-turn : goal.invariant-loop-turn
invariant-loop-turn l = more_numbers (length l.fn.text) [] l.fn.text ≡ more_numbers (length l.fn.text - l._turn) l.numbers l.rest
