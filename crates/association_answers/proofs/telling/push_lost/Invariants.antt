use Rattle.std.proofs.Common.{◌≡◌, ◌++◌, map, take}
use Rattle.end_rules.specs.Sets.{Alteration}
use Rattle.dialogue.specs.declared.indication.Indication.TheVariants as indications
use Rattle.association_answers.proofs.telling.push_lost.Given as goal

abbrev pub invariant-loop-alteration : goal.invariant-loop-alteration
invariant-loop-alteration l = l.shown ≡ l.fn.shown ++ map (λ (a : Alteration). indications.AlterLost) (take l._alteration-index l.own)
