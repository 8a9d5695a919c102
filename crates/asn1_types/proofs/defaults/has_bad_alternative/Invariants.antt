use Rattle.std.proofs.Common.{◌≡◌, drop}
use Rattle.std.specs.List.{list_any}
use Rattle.asn1_types.specs.Defaults.{is_bad_alternative}
use Rattle.asn1_types.proofs.defaults.has_bad_alternative.Given as goal

abbrev pub invariant-loop-part : goal.invariant-loop-part
invariant-loop-part l = list_any is_bad_alternative (drop l.part-index l.parts) ≡ list_any is_bad_alternative l.parts
