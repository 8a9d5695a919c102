use Rattle.std.proofs.Common.{sym, ◌∙◌}
use Rattle.association_state.specs.Seen.{base_in, seen}
use Rattle.association_calls.proofs.Answered.{refused}
use Rattle.association_calls.proofs.outcomes.check_refuse.Goals as goal

pub returns : goal.returns
returns c =
    refused (base_in c.args.basis.now) (seen c.args.body.now) c.args.id.now c.args.place c.args.parameter.now c.check_error.result c.in-Some.called c.in-Some-operation.operation.now c.in-Some-error.error.now (sym c.in-Some.ensures)
    (sym (c.in-Some-operation.ensures)) (sym (c.in-Some-error.ensures)) (sym c.has_error.ensures ∙ c.if-not-has_error.false) (sym c.is_stopped.ensures ∙ c.if-is_stopped.false) c.check_error.ensures
