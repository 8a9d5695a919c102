use Rattle.std.proofs.Common.{◌≡◌, drop, get_or}
use Rattle.std.specs.List.{flat_map}
use Rattle.asn1_types.specs.Writing.{base_128}
use Rattle.ber_writing.proofs.octet.each_octet.Given as goal

abbrev pub invariant-loop-number : goal.invariant-loop-number
invariant-loop-number l = get_or (flat_map base_128 (drop l.number-index l.numbers)) l.place 0 ≡ get_or (flat_map base_128 l.numbers) l.at 0
