use Rattle.presentation_pdus.specs.Units.{ppdu_at}
use Rattle.osi_base.specs.declared.presentation_word.PresentationConnect.{PresentationConnect}
use Rattle.association_meaning.specs.Steps.{read_unit}
use Rattle.association_meaning.specs.Words.{connect_in}
use Rattle.association_meaning.proofs.Fails.{halts, connect_fails}
use Rattle.association_meaning.proofs.unit_meanings.connect_in.Goals as goal

pub returns-in_err-unit : goal.returns-in_err-unit
returns-in_err-unit c =
    halts (λ (p : PresentationConnect). p) c.from_residual.result (connect_in c.args.carrier.now.start (ppdu_at c.args.carrier.now.place c.args.carrier.now.user.now)) c.in_err-unit.field-0.0 c.from_residual.ensures.1 (connect_fails c.in_err-unit.field-0.0 (read_unit c.args.carrier.now.start (ppdu_at c.args.carrier.now.place c.args.carrier.now.user.now)) c.in_err-unit.ensures)
