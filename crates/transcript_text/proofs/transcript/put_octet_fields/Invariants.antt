use Rattle.std.proofs.Common.{◌≡◌, ◌++◌, take}
use Rattle.std.specs.List.{flat_map}
use Rattle.transcript_text.specs.Texts.{octet_field}
use Rattle.transcript_text.proofs.transcript.put_octet_fields.Given as goal

abbrev pub invariant-loop-octet : goal.invariant-loop-octet
invariant-loop-octet l = l.text ≡ l.initial.text ++ flat_map octet_field (take l.octet-index l.octets)
