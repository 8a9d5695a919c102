use Rattle.std.proofs.Common.{◌≡◌, ◌+◌, ◌-◌, ◌≤◌, length, sym, ◌∙◌, arith}
use Rattle.std.proofs.lemmas.Result.{err_from_is_err_and}
use Rattle.tpkt.specs.Header.{nothing_seen, parameters_at}
use Rattle.tpkt.proofs.Fuel.{takes_room, goes_on, none_left, fails_at, fails_in}
use Rattle.tpkt.proofs.parameters.parameters_at.Goals as goal

pub returns-in_err-code : goal.returns-in_err-code
returns-in_err-code c =
    let p = err_from_is_err_and c.from_residual.result c.from_residual.ensures.1 in
    rw (p.1, p.2) (fails_at c.in_err-code.field-0.0 (c.args.left - c.loop-done.done) (11 + c.loop-done.done) c.loop-done.seen c.loop-done.rest.now (parameters_at c.args.left c.args.left 11 nothing_seen c.args.octets.now) (omega arith) c.in_err-code.ensures c.loop-done.invariant.reads)

pub returns-in_err-seen : goal.returns-in_err-seen
returns-in_err-seen c =
    let p = err_from_is_err_and c.from_residual-in_err-seen.result c.from_residual-in_err-seen.ensures.1 in
    rw (p.1, p.2) (fails_in c.in_err-seen.field-0.0 (c.args.left - c.loop-done.done) (11 + c.loop-done.done) c.loop-done.seen c.loop-done.rest.now (c.in_ok-code.code, c.in_ok-code.value.now, c.in_ok-code.after.now) (parameters_at c.args.left c.args.left 11 nothing_seen c.args.octets.now) (omega arith) c.in_ok-code.ensures c.in_err-seen.ensures c.loop-done.invariant.reads)

pub loop-done-preserved : goal.loop-done-preserved
loop-done-preserved c =
    let within : length c.in_ok-code.value.now + 2 ≤ c.args.left - c.loop-done.done = takes_room (c.args.left - c.loop-done.done) (11 + c.loop-done.done) c.loop-done.rest.now (c.in_ok-code.code, c.in_ok-code.value.now, c.in_ok-code.after.now) c.in_ok-code.ensures in
    let e = goes_on (c.args.left - c.loop-done.done) (11 + c.loop-done.done) c.loop-done.seen c.in_ok-seen.seen c.loop-done.rest.now (c.in_ok-code.code, c.in_ok-code.value.now, c.in_ok-code.after.now) (omega arith) c.in_ok-code.ensures c.in_ok-seen.ensures in
    let less : c.args.left - (c.loop-done.done + (length c.in_ok-code.value.now + 2)) ≡ c.args.left - c.loop-done.done - (length c.in_ok-code.value.now + 2) = omega arith in
    let further : 11 + (c.loop-done.done + (length c.in_ok-code.value.now + 2)) ≡ 11 + c.loop-done.done + (length c.in_ok-code.value.now + 2) = omega arith in
    record { in_header = omega arith; reads = rw (less, further) (sym e ∙ c.loop-done.invariant.reads) }

pub returns : goal.returns
returns c = sym c.loop-done.invariant.reads ∙ none_left (c.args.left - c.loop-done.done) (11 + c.loop-done.done) c.loop-done.seen c.loop-done.rest.now (omega arith)
