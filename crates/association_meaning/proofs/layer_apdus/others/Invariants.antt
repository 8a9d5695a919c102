use Rattle.std.proofs.Common.{◌≡◌, ◌++◌, drop, map}
use Rattle.association_intake.specs.association_reading.Values as reading
use Rattle.association_words.specs.Seen.{seen_information}
use Rattle.association_meaning.proofs.layer_apdus.others.Given as goal

abbrev pub invariant-loop-external : goal.invariant-loop-external
invariant-loop-external l = map seen_information l.others ++ map reading.other (drop l.external-index l.user) ≡ map reading.other l.user
