use Rattle.std.proofs.Common.{◌≡◌, ◌++◌, take}
use Rattle.std.specs.List.{flat_map}
use Rattle.transcript_text.specs.Calls.{addition_text}
use Rattle.transcript_text.proofs.call.put_additions.Given as goal

abbrev pub invariant-loop-addition : goal.invariant-loop-addition
invariant-loop-addition l = l.text ≡ l.initial.text ++ flat_map (addition_text l.tables) (take l.addition-index l.additions)
