use Rattle.std.proofs.Common.{ℤ, true, Option, sym, ap, ◌∙◌}
use Rattle.end_wire.specs.end_rules.State as ends
use Rattle.end_wire.specs.end_rules.Base.{RejectHead}
use Rattle.end_wire.specs.end_rules.Hearing as rules
use Rattle.rose_roles.specs.Calls.{calls_of}
use Rattle.rose_roles.specs.Hearing.{heard_with}
use Rattle.rose_roles.specs.declared.apdu_taken.RoseTaken.TheVariants as taken
use Rattle.rose_roles.proofs.Outcomes.{heard_rejected, heard_of_shut}
use Rattle.rose_roles.proofs.invoker.Invoker.end_rejected.Goals as goal

pub returns-in-None-clause-heard : goal.returns-in-None-clause-heard
returns-in-None-clause-heard c = λ performed context base.
    ap (λ (i : Option ℤ). heard_with (calls_of c.args.forest.now c.args.self.now performed) (taken.RejectTaken i c.args.problem)) c.in-Some.is
    ∙ heard_of_shut base c.args.forest.now c.args.self.now performed c.requires.own context c.in-Some.named c.args.problem c.requires.kind (sym c.called.ensures ∙ c.in-None.is)
    ∙ ap (λ (i : Option ℤ). rules.hear base (calls_of c.args.forest.now c.args.self.now performed) context (RejectHead i c.args.problem)) (sym c.in-Some.is)

pub returns-in-Some-called-clause-heard : goal.returns-in-Some-called-clause-heard
returns-in-Some-called-clause-heard c = λ performed context base.
    ap (λ (x : ends.Calls). heard_with x c.own_rejected.result) (c.close.ensures.closed performed)
    ∙ ap (heard_with (ends.close true c.in-Some.named (calls_of c.args.forest.now c.args.self.now performed))) c.own_rejected.ensures
    ∙ heard_rejected base c.args.forest.now c.args.self.now performed c.requires.own context c.in-Some.named c.args.problem c.in-Some-called.field-0 c.requires.kind (sym c.called.ensures ∙ c.in-Some-called.is)
    ∙ ap (λ (i : Option ℤ). rules.hear base (calls_of c.args.forest.now c.args.self.now performed) context (RejectHead i c.args.problem)) (sym c.in-Some.is)
