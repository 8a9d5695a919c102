use Rattle.std.proofs.Common.{ℕ, true, Option, sym, ap, subst, ◌∙◌}
use Rattle.end_wire.specs.end_rules.State as ends
use Rattle.rose_roles.specs.Calls.{calls_of}
use Rattle.rose_roles.specs.Hearing.{heard_with}
use Rattle.rose_roles.specs.Heads.{Carries, parameter_placed}
use Rattle.rose_roles.proofs.Outcomes.{heard_error}
use Rattle.rose_roles.proofs.invoker.Invoker.end_error.Goals as goal

pub returns-clause-heard : goal.returns-clause-heard
returns-clause-heard c = λ performed context base carried same k.
    let known = subst (λ (e : Option ℕ). Carries c.args.syntax c.args.tables.now.types c.args.head.now.room (parameter_placed c.args.tables.now e) c.args.head.now.rest carried) (sym c.error_with-error.ensures) k in
    ap (λ (x : ends.Calls). heard_with x c.error_taken.result) (c.close.ensures.closed performed)
    ∙ ap (heard_with (ends.close true c.args.id.now (calls_of c.args.forest.now c.args.self.now performed))) c.error_taken.ensures
    ∙ heard_error base c.args.forest.now c.args.self.now performed c.requires.own context c.args.id.now carried c.args.tables.now same c.args.call c.requires.call c.args.code.now c.error_with-error.result c.error_with-error.ensures
    c.in_ok-found.found (c.in_ok-found.ensures carried known)
