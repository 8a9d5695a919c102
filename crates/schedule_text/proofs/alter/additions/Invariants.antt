use Rattle.std.proofs.Common.{◌≡◌, ◌-◌, [], length}
use Rattle.schedule_text.specs.Alterations.{more_additions}
use Rattle.schedule_text.proofs.alter.additions.Given as goal

abbrev pub invariant-loop-turn : goal.invariant-loop-turn
invariant-loop-turn l = more_additions l.tables (length l.fn.text) [] l.fn.text ≡ more_additions l.tables (length l.fn.text - l._turn) l.proposals l.rest
