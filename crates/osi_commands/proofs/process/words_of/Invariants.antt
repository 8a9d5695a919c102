use Rattle.std.proofs.Common.{◌≡◌, map, take, string_bytes}
use Rattle.osi_commands.proofs.process.words_of.Given as goal

abbrev pub invariant-loop-argument : goal.invariant-loop-argument
invariant-loop-argument l = l.words ≡ map (λ argument. string_bytes argument) (take l.argument-index l.given)
