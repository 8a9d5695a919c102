use Rattle.std.proofs.Common.{None}
use Rattle.std.proofs.lemmas.Result.{err_from_is_err_and}
use Rattle.dialogue.specs.declared.call.Call.TheVariants as the_calls
use Rattle.end_rules.specs.Invoking.{can_answer}
use Rattle.end_rules.specs.Requesting.{result_in}
use Rattle.association_hearing.specs.association_state.Seen.{base_in, seen}
use Rattle.association_requests.proofs.Outcomes.{refused_checked, answered_open, answer_made}
use Rattle.association_requests.proofs.operations.answer.Goals as goal

pub end_invocation-requires : goal.end_invocation-requires
end_invocation-requires c = answered_open (base_in c.args.basis.now) (seen c.args.body.now) c.args.id.now c.args.value.now c.in_ok-apdu.ensures.0

pub returns : goal.returns
returns c =
    answer_made (base_in c.args.basis.now) (seen c.args.body.now) c.args.id.now c.in_ok-apdu.apdu c.args.value.now (seen c.end_invocation.new.body) c.in_ok-end_invocation.field-0
    c.in_ok-apdu.ensures c.in_ok-end_invocation.ensures.answer c.in_ok-end_invocation.ensures.due c.in_ok-end_invocation.ensures.body

pub returns-in_err-apdu : goal.returns-in_err-apdu
returns-in_err-apdu c =
    let p = err_from_is_err_and c.from_residual.result c.from_residual.ensures.1 in
    rw (p.1, p.2)
    (refused_checked (can_answer (base_in c.args.basis.now) (seen c.args.body.now) c.args.id.now c.args.value.now) (base_in c.args.basis.now) (seen c.args.body.now) (the_calls.Answer c.args.id.now c.args.value.now) None
    (result_in (base_in c.args.basis.now) (seen c.args.body.now) c.args.id.now c.args.value.now) c.in_err-apdu.field-0.0 c.in_err-apdu.ensures)
