use Rattle.std.proofs.Common.{arith, ap, ◌∙◌, length}
use Rattle.std.proofs.lemmas.Result.{err_from_is_err_and}
use Rattle.spdu_codec.specs.Reading.{parameter_taken}
use Rattle.spdu_codec.proofs.ScanLoop.{scanned, loop_on, loop_free, loop_value, loop_take, loop_end}
use Rattle.spdu_codec.specs.Parameters.{none_yet}
use Rattle.spdu_codec.proofs.scan.parameters_at.Goals as goal

pub returns-in_err-slot : goal.returns-in_err-slot
returns-in_err-slot c =
    let p = err_from_is_err_and c.from_residual.result c.from_residual.ensures.1 in
    rw (p.1, p.2) (loop_free c.in_err-slot.field-0.0 parameter_taken c.parameters_of-table.result.now c.args.end c.loop-code.p c.loop-code.rest.now c.in-Some.code c.in-Some.after.now _ c.in-Some.ensures (rw (← c.row_of.ensures) c.in_err-slot.ensures) (c.loop-code.invariant.reads ∙ ap (λ t. scanned parameter_taken t c.args.end none_yet c.args.octets.now) c.parameters_of-table.ensures))

pub returns-in_err-value : goal.returns-in_err-value
returns-in_err-value c =
    let p = err_from_is_err_and c.from_residual-in_err-value.result c.from_residual-in_err-value.ensures.1 in
    rw (p.1, p.2) (loop_value c.in_err-value.field-0.0 parameter_taken c.parameters_of-table.result.now c.args.end c.loop-code.p c.loop-code.rest.now c.in-Some.code c.in-Some.after.now c.in_ok-slot.slot _ c.in-Some.ensures (rw (← c.row_of.ensures) c.in_ok-slot.ensures) c.in_err-value.ensures.read (c.loop-code.invariant.reads ∙ ap (λ t. scanned parameter_taken t c.args.end none_yet c.args.octets.now) c.parameters_of-table.ensures))

pub returns-in_err-p : goal.returns-in_err-p
returns-in_err-p c =
    let p = err_from_is_err_and c.from_residual-in_err-p.result c.from_residual-in_err-p.ensures.1 in
    rw (p.1, p.2) (loop_take c.in_err-p.field-0.0 parameter_taken c.parameters_of-table.result.now c.args.end c.loop-code.p c.loop-code.rest.now c.in-Some.code c.in-Some.after.now c.in_ok-slot.slot (c.in_ok-value.value.now, c.in_ok-value.more.now) _ c.in-Some.ensures (rw (← c.row_of.ensures) c.in_ok-slot.ensures) c.in_ok-value.ensures.read c.in_err-p.ensures (c.loop-code.invariant.reads ∙ ap (λ t. scanned parameter_taken t c.args.end none_yet c.args.octets.now) c.parameters_of-table.ensures))

pub loop-code-preserved : goal.loop-code-preserved
loop-code-preserved c = record {
  within = omega (arith, c.loop-code.invariant.within, c.in_ok-value.ensures.less, ap length c.in-Some.ensures);
  reads = loop_on parameter_taken c.parameters_of-table.result.now c.args.end c.loop-code.p c.in_ok-p.p c.loop-code.rest.now c.in-Some.code c.in-Some.after.now c.in_ok-slot.slot (c.in_ok-value.value.now, c.in_ok-value.more.now) _ c.in-Some.ensures (rw (← c.row_of.ensures) c.in_ok-slot.ensures) c.in_ok-value.ensures.read c.in_ok-p.ensures c.loop-code.invariant.reads;
}

pub returns : goal.returns
returns c = loop_end parameter_taken c.parameters_of-table.result.now c.args.end c.loop-code.p c.loop-code.rest.now _ c.in_default.ensures (c.loop-code.invariant.reads ∙ ap (λ t. scanned parameter_taken t c.args.end none_yet c.args.octets.now) c.parameters_of-table.ensures)
