use Rattle.std.proofs.Common.{ℤ, Option, sym, ap, ◌∙◌}
use Rattle.end_wire.specs.end_rules.Hearing as rules
use Rattle.rose_roles.specs.Calls.{calls_of}
use Rattle.rose_roles.specs.Hearing.{heard_with}
use Rattle.apdu_spelling.specs.declared.head.ApduKind.TheVariants as kinds
use Rattle.osi_base.specs.declared.layer_words.ProblemKind.TheVariants as problems
use Rattle.rose_roles.specs.declared.apdu_taken.RoseTaken.TheVariants as taken
use Rattle.rose_roles.proofs.Outcomes.{said_result, shut_result, carries_of}
use Rattle.rose_roles.proofs.invoker.Invoker.take_result.Goals as goal

pub returns-in-None-clause-heard : goal.returns-in-None-clause-heard
returns-in-None-clause-heard c = λ performed context base carried same k.
    ap (heard_with (calls_of c.args.forest.now c.args.self.now performed)) c.reject_with.ensures
    ∙ ap (λ (i : Option ℤ). heard_with (calls_of c.args.forest.now c.args.self.now performed) (taken.Reject i (rules.problem_with problems.Result 0))) c.in-Some.is
    ∙ shut_result base c.args.forest.now c.args.self.now performed c.requires.own context c.in-Some.id carried c.args.head.code (sym c.called.ensures ∙ c.in-None.is)
    ∙ ap (rules.hear base (calls_of c.args.forest.now c.args.self.now performed) context) (said_result c.args.head carried c.in-Some.id c.requires.kind c.in-Some.is)

pub returns-clause-heard : goal.returns-clause-heard
returns-clause-heard c = λ performed context base carried same k.
    c.in_ok-taken-in-Some-called.ensures.heard performed context base carried same (carries_of c.args.tables.now c.args.syntax c.args.head.room c.args.head.rest carried c.args.head.kind kinds.Result c.args.head.code c.requires.kind k)
    ∙ ap (rules.hear base (calls_of c.args.forest.now c.args.self.now performed) context) (said_result c.args.head carried c.in-Some.id c.requires.kind c.in-Some.is)
