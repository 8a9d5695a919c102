use Rattle.std.proofs.Common.{◌≡◌, ◌++◌, drop, map}
use Rattle.association_words.specs.Seen.{seen_information}
use Rattle.association_wire.specs.Values.{external_of}
use Rattle.association_writing.proofs.values.externals_of.Given as goal

abbrev pub invariant-loop-information : goal.invariant-loop-information
invariant-loop-information l = l.externals ++ map external_of (map seen_information (drop l.information-index l.user)) ≡ map external_of (map seen_information l.user)
