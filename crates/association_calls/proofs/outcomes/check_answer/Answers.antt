use Rattle.std.proofs.Common.{sym, ◌∙◌}
use Rattle.association_state.specs.Seen.{base_in, seen}
use Rattle.association_calls.proofs.Answered.{answered}
use Rattle.association_calls.proofs.outcomes.check_answer.Goals as goal

pub returns : goal.returns
returns c =
    answered (base_in c.args.basis.now) (seen c.args.body.now) c.args.id.now c.args.value.now c.check_result.result c.in-Some.called c.in-Some-operation.operation.now (sym c.in-Some.ensures) (sym (c.in-Some-operation.ensures))
    (sym c.is_stopped.ensures ∙ c.if-is_stopped.false) c.check_result.ensures
