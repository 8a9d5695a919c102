use Rattle.std.proofs.Common.{◌≡◌, true, length}
use Rattle.notation_tokens.specs.Forms.{goes_on_well}
use Rattle.notation_tokens.proofs.words.ends_word.Given as goal

abbrev pub invariant-loop-rest : goal.invariant-loop-rest
invariant-loop-rest l = goes_on_well l.is_bare l.rest ≡ goes_on_well true l.fn.text

abbrev pub decreases-loop-rest : goal.decreases-loop-rest
decreases-loop-rest l = length l.rest
