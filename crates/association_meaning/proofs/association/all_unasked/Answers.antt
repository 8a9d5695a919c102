use Rattle.std.proofs.Common.{sym, ap, ◌∙◌, arith}
use Rattle.association_intake.specs.association_reading.Association.{unasked_value}
use Rattle.association_words.specs.Seen.{seen_values}
use Rattle.association_intake.specs.association_reading.Values.{all_values}
use Rattle.association_meaning.proofs.Alls.{all_step, fails_at, all_done}
use Rattle.association_meaning.proofs.Fails.{halts}
use Rattle.association_meaning.proofs.association.all_unasked.Goals as goal

pub loop-pdv-preserved : goal.loop-pdv-preserved
loop-pdv-preserved c =
    all_step unasked_value c.args.pdvs.now c.loop-pdv.pdv-index c.pdv-item.result (omega arith) c.loop-pdv.values c.loop-pdv.invariant c.in_ok-value.value c.push.new.self
    (ap unasked_value (sym c.pdv-item.is) ∙ c.in_ok-value.ensures) c.in_ok-push.ensures.ok

pub returns-in_err-value : goal.returns-in_err-value
returns-in_err-value c =
    halts seen_values c.from_residual.result (all_values unasked_value c.args.pdvs.now) c.in_err-value.field-0.0 c.from_residual.ensures.1
    (fails_at unasked_value c.args.pdvs.now c.loop-pdv.pdv-index c.pdv-item.result (omega arith) c.loop-pdv.values c.loop-pdv.invariant c.in_err-value.field-0.0 (unasked_value c.pdv-item.result) (ap unasked_value (sym c.pdv-item.is)) c.in_err-value.ensures)

pub returns : goal.returns
returns c =
    all_done unasked_value c.args.pdvs.now c.loop-pdv.pdv-index c.loop-pdv.values (omega arith) c.loop-pdv.invariant
