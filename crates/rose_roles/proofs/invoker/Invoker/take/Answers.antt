use Rattle.std.proofs.Common.{ap, ◌∙◌}
use Rattle.end_wire.specs.end_rules.Hearing as rules
use Rattle.rose_roles.specs.Calls.{calls_of}
use Rattle.rose_roles.proofs.Outcomes.{said_reject}
use Rattle.rose_roles.proofs.invoker.Invoker.take.Goals as goal

pub returns-in-Reject-clause-heard : goal.returns-in-Reject-clause-heard
returns-in-Reject-clause-heard c = λ performed context base carried same k.
    c.take_reject.ensures.heard performed context base
    ∙ ap (rules.hear base (calls_of c.args.forest.now c.args.self.now performed) context) (said_reject c.args.head carried c.in-Reject.is)
