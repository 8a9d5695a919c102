use Rattle.std.proofs.Common.{◌≡◌, drop}
use Rattle.std.specs.List.{list_all}
use Rattle.asn1_types.specs.Fits.{is_character}
use Rattle.asn1_types.proofs.text.are_characters.Given as goal

abbrev pub invariant-loop-octet : goal.invariant-loop-octet
invariant-loop-octet l = list_all (is_character l.kind) (drop l.octet-index l.octets) ≡ list_all (is_character l.kind) l.octets
