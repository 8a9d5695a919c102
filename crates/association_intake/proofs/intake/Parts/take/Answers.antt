use Rattle.std.proofs.Common.{◌≡◌, [], rules, subst, ◌∙◌}
use Rattle.association_intake.specs.View.{IsFaultOf}
use Rattle.association_intake.proofs.Taken.{takes_one, takes_fault}
use Rattle.association_intake.proofs.intake.Parts.take.Goals as goal

pub returns-in-Some-clause-takes : goal.returns-in-Some-clause-takes
returns-in-Some-clause-takes c =
    takes_one c.args.self.now.fronts.items c.pop_front.new.self.items c.in-Some.front c.args.self.now.reader c.requires.reading c.in-Some.ensures.items

pub returns-in-Some-fault-clause-takes : goal.returns-in-Some-fault-clause-takes
returns-in-Some-fault-clause-takes c =
    let left : c.pop_front.new.self.items ≡ [] = search rules in
    takes_fault c.args.self.now.fronts.items c.pop_front.new.self.items c.in-Some-fault.fault c.args.self.now.reader c.requires.reading (c.in_default.ensures.items ∙ left) left
    (subst (IsFaultOf c.args.self.now.reader) c.in-Some-fault.is c.requires.fault)
