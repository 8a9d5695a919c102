use Rattle.std.proofs.lemmas.Result.{err_from_is_err_and}
use Rattle.association_end.proofs.Calls.{answered, began_own, kept_changed, refused_answers}
use Rattle.association_end.proofs.end.End.call_now.Goals as goal

pub returns : goal.returns
returns c =
    answered c.args.self.now c.change.new.self c.send_due-sent.new.self c.args.asked.now c.in_ok-called.called c.in_ok-called.ensures.is c.in_ok-sent.ensures.ok c.do_own_acts.new.self c.in_ok-do_own_acts.ensures.ok

pub returns-in_err-called : goal.returns-in_err-called
returns-in_err-called c =
    let p = err_from_is_err_and c.from_residual.result c.from_residual.ensures.1 in
    rw (p.1, p.2) (refused_answers c.args.self.now c.change.new.self c.args.asked.now c.in_err-called.field-0.0 c.in_err-called.ensures.is)

pub returns-in_err-sent : goal.returns-in_err-sent
returns-in_err-sent c =
    let p = err_from_is_err_and c.from_residual-in_err-sent.result c.from_residual-in_err-sent.ensures.1 in
    rw (p.1, p.2) (kept_changed c.args.self.now c.change.new.self c.send_due-sent.new.self c.args.asked.now c.in_ok-called.called c.in_ok-called.ensures.is c.in_err-sent.ensures.err)

pub returns-in_err-do_own_acts : goal.returns-in_err-do_own_acts
returns-in_err-do_own_acts c =
    let p = err_from_is_err_and c.from_residual-in_err-do_own_acts.result c.from_residual-in_err-do_own_acts.ensures.1 in
    rw (p.1, p.2)
    (began_own c.args.self.now c.change.new.self c.send_due-sent.new.self c.args.asked.now c.in_ok-called.called c.in_ok-called.ensures.is c.in_ok-sent.ensures.ok c.do_own_acts.new.self c.in_err-do_own_acts.ensures.err)
