use Rattle.std.proofs.Common.{◌≡◌, ◌++◌, take}
use Rattle.std.specs.List.{flat_map, zip}
use Rattle.transcript_text.specs.Indications.{deleted_field}
use Rattle.transcript_text.proofs.indication.put_deleted.Given as goal

abbrev pub invariant-loop-place : goal.invariant-loop-place
invariant-loop-place l = l.text ≡ l.initial.text ++ flat_map deleted_field (zip (take l.place l.ids) l.answers)
