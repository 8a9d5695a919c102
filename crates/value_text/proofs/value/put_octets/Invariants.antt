use Rattle.std.proofs.Common.{◌≡◌, ◌++◌, take}
use Rattle.std.specs.List.{flat_map}
use Rattle.value_text.specs.Values.{hex_octet}
use Rattle.value_text.proofs.value.put_octets.Given as goal

abbrev pub invariant-loop-octet : goal.invariant-loop-octet
invariant-loop-octet l = l.text ≡ l.initial.text ++ flat_map hex_octet (take l.octet-index l.octets)
