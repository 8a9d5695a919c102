use Rattle.std.proofs.Common.{◌≡◌, ◌++◌, take}
use Rattle.std.specs.List.{flat_map, zip}
use Rattle.transcript_text.specs.Indications.{added_field}
use Rattle.transcript_text.proofs.indication.put_added.Given as goal

abbrev pub invariant-loop-place : goal.invariant-loop-place
invariant-loop-place l = l.text ≡ l.initial.text ++ flat_map added_field (zip (take l.place l.ids) l.answers)
