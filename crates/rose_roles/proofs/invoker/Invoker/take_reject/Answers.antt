use Rattle.std.proofs.Common.{sym, ◌∙◌}
use Rattle.end_wire.specs.end_rules.Hearing as rules
use Rattle.rose_roles.specs.Calls.{calls_of}
use Rattle.rose_roles.specs.Heads.{reject_by}
use Rattle.rose_roles.proofs.Outcomes.{heard_other}
use Rattle.rose_roles.proofs.invoker.Invoker.take_reject.Goals as goal

pub returns-then-is_of_invocation-clause-heard : goal.returns-then-is_of_invocation-clause-heard
returns-then-is_of_invocation-clause-heard c = λ performed context base.
    c.end_rejected.ensures.heard performed context base ∙ (λ k. rules.hear base (calls_of c.args.forest.now c.args.self.now performed) context (reject_by c.args.id (sym c.in-Some.is k)))

pub returns-clause-heard : goal.returns-clause-heard
returns-clause-heard c = λ performed context base.
    heard_other base c.args.forest.now c.args.self.now performed c.requires context c.args.id c.in-Some.problem (sym c.is_of_invocation.ensures ∙ c.if-is_of_invocation.false)
    ∙ (λ k. rules.hear base (calls_of c.args.forest.now c.args.self.now performed) context (reject_by c.args.id (sym c.in-Some.is k)))
