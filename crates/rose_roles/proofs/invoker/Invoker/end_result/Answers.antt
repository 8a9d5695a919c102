use Rattle.std.proofs.Common.{true, ap, ◌∙◌}
use Rattle.end_wire.specs.end_rules.State as ends
use Rattle.rose_roles.specs.Calls.{calls_of}
use Rattle.rose_roles.specs.Hearing.{heard_with}
use Rattle.rose_roles.proofs.Outcomes.{heard_result}
use Rattle.rose_roles.proofs.invoker.Invoker.end_result.Goals as goal

pub returns-clause-heard : goal.returns-clause-heard
returns-clause-heard c = λ performed context base carried same k.
    ap (λ (x : ends.Calls). heard_with x c.result_taken.result) (c.close.ensures.closed performed)
    ∙ ap (heard_with (ends.close true c.args.id.now (calls_of c.args.forest.now c.args.self.now performed))) c.result_taken.ensures
    ∙ heard_result base c.args.forest.now c.args.self.now performed c.requires.own context c.args.id.now carried c.args.tables.now same c.args.call c.requires.call c.args.head.now.code c.in_ok-found.found (c.in_ok-found.ensures carried k)
