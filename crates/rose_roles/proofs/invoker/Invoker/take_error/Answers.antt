use Rattle.std.proofs.Common.{ℤ, Option, refl, sym, ap, ◌∙◌}
use Rattle.end_wire.specs.end_rules.Hearing as rules
use Rattle.rose_roles.specs.Calls.{calls_of}
use Rattle.rose_roles.specs.Hearing.{heard_with}
use Rattle.stub_tables.specs.Lookup.{error_with}
use Rattle.osi_base.specs.declared.layer_words.ProblemKind.TheVariants as problems
use Rattle.rose_roles.specs.declared.apdu_taken.RoseTaken.TheVariants as taken
use Rattle.rose_roles.proofs.Outcomes.{said_error, shut_error, carries_parameter}
use Rattle.rose_roles.proofs.invoker.Invoker.take_error.Goals as goal

pub returns-in-None-clause-heard : goal.returns-in-None-clause-heard
returns-in-None-clause-heard c = λ performed context base carried same k.
    ap (heard_with (calls_of c.args.forest.now c.args.self.now performed)) c.reject_with.ensures
    ∙ ap (λ (i : Option ℤ). heard_with (calls_of c.args.forest.now c.args.self.now performed) (taken.Reject i (rules.problem_with problems.Error 0))) c.in-Some.is
    ∙ shut_error base c.args.forest.now c.args.self.now performed c.requires.own context c.in-Some.id carried c.in-Some-code.code (sym c.called.ensures ∙ c.in-None.is)
    ∙ ap (rules.hear base (calls_of c.args.forest.now c.args.self.now performed) context) (said_error c.args.head carried c.in-Some.id c.in-Some-code.code c.requires.kind c.in-Some.is c.in-Some-code.is)

pub returns-clause-heard : goal.returns-clause-heard
returns-clause-heard c = λ performed context base carried same k.
    c.in_ok-taken-in-Some-called.ensures.heard performed context base carried same
    (carries_parameter c.args.tables.now c.args.syntax c.args.head.room c.args.head.rest carried c.args.head.kind c.args.head.code c.in-Some-code.code (error_with c.args.tables.now c.in-Some-code.code) c.requires.kind c.in-Some-code.is refl k)
    ∙ ap (rules.hear base (calls_of c.args.forest.now c.args.self.now performed) context) (said_error c.args.head carried c.in-Some.id c.in-Some-code.code c.requires.kind c.in-Some.is c.in-Some-code.is)
