use Rattle.std.proofs.Common.{None}
use Rattle.std.proofs.lemmas.Result.{err_from_is_err_and}
use Rattle.end_rules.specs.Calling.{can_by_rows}
use Rattle.end_rules.specs.Requesting.{due_of_accepted}
use Rattle.association_hearing.specs.association_state.Seen.{base_in, seen}
use Rattle.association_requests.proofs.Rows.{refused_due, made_so}
use Rattle.association_requests.proofs.calls.request.Goals as goal

pub returns : goal.returns
returns c =
    made_so (can_by_rows (base_in c.args.basis.now) (seen c.args.body.now) c.args.call.now) (base_in c.args.basis.now) (seen c.args.body.now) (seen c.begin.new.body) (seen c.send.new.body) c.args.call.now c.in_ok-called.called
    c.in_ok-called.ensures (c.begin.ensures (base_in c.args.basis.now)) c.in-Ok.ensures

pub returns-in_err-called : goal.returns-in_err-called
returns-in_err-called c =
    let p = err_from_is_err_and c.from_residual.result c.from_residual.ensures.1 in
    rw (p.1, p.2)
    (refused_due (can_by_rows (base_in c.args.basis.now) (seen c.args.body.now) c.args.call.now) (base_in c.args.basis.now) (seen c.args.body.now) c.args.call.now
    (due_of_accepted (base_in c.args.basis.now) (seen c.args.body.now) c.args.call.now None) c.in_err-called.field-0.0 (c.in_err-called.ensures None))
