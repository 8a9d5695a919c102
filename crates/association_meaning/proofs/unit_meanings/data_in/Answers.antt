use Rattle.std.proofs.Common.{List}
use Rattle.presentation_pdus.specs.Units.{ppdu_at}
use Rattle.osi_base.specs.declared.presentation_word.Pdv.{Pdv}
use Rattle.association_meaning.specs.Steps.{read_unit}
use Rattle.association_meaning.specs.Words.{data_in}
use Rattle.association_meaning.proofs.Fails.{halts, data_fails}
use Rattle.association_meaning.proofs.unit_meanings.data_in.Goals as goal

pub returns-in_err-unit : goal.returns-in_err-unit
returns-in_err-unit c =
    halts (λ (p : List Pdv). p) c.from_residual.result (data_in c.args.carrier.now.start (ppdu_at c.args.carrier.now.place c.args.carrier.now.user.now)) c.in_err-unit.field-0.0 c.from_residual.ensures.1 (data_fails c.in_err-unit.field-0.0 (read_unit c.args.carrier.now.start (ppdu_at c.args.carrier.now.place c.args.carrier.now.user.now)) c.in_err-unit.ensures)
