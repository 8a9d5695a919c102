use Rattle.std.proofs.Common.{◌≡◌, ◌++◌, take}
use Rattle.std.specs.List.{flat_map}
use Rattle.transcript_text.specs.Calls.{number_field}
use Rattle.transcript_text.proofs.call.put_deletions.Given as goal

abbrev pub invariant-loop-id : goal.invariant-loop-id
invariant-loop-id l = l.text ≡ l.initial.text ++ flat_map number_field (take l.id-index l.ids)
