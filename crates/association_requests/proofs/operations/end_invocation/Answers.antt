use Rattle.std.proofs.Common.{None, false, sym, ◌∙◌}
use Rattle.end_rules.specs.State.{opened_with}
use Rattle.end_rules.specs.Requesting.{handed_in, sent_at_once}
use Rattle.association_hearing.specs.association_state.Seen.{base_in, seen}
use Rattle.association_requests.specs.Called.{sent_by}
use Rattle.association_requests.proofs.Outcomes.{ended_due, ended_body}
use Rattle.association_requests.proofs.operations.end_invocation.Goals as goal

pub returns-clause-due : goal.returns-clause-due
returns-clause-due c =
    ended_due (base_in c.args.basis.now) (seen c.args.body.now) c.args.id.now c.args.apdu (opened_with false c.args.id.now (seen c.args.body.now).calls.opens) c.in-Some.called
    (sent_by (record { answer = None; message = c.in_ok-message.message })) (sym c.in-Some.ensures)
    (c.in_ok-message.ensures.message ∙ (λ i. sent_at_once (base_in c.args.basis.now).mode (record (seen c.args.body.now) { calls = c.close.ensures i }) (c.carrier_in-carrier.ensures i) c.args.apdu))

pub returns-clause-body : goal.returns-clause-body
returns-clause-body c =
    ended_body (base_in c.args.basis.now) (seen c.args.body.now) c.args.id.now c.args.apdu (opened_with false c.args.id.now (seen c.args.body.now).calls.opens) c.in-Some.called (seen c.hand_in.new.body)
    (sym c.in-Some.ensures) (c.in_ok-message.ensures.body ∙ (λ i. handed_in (base_in c.args.basis.now).mode c.in-Some.called.context c.args.apdu (record (seen c.args.body.now) { calls = c.close.ensures i })))
