use Rattle.presentation_pdus.specs.Units.{ppdu_at}
use Rattle.association_intake.specs.association_reading.Places.{pdv_places}
use Rattle.association_words.specs.Seen.{seen_abort}
use Rattle.association_meaning.specs.Grounds.{association_base}
use Rattle.association_meaning.specs.Steps.{read_unit}
use Rattle.association_meaning.specs.Words.{abort_in}
use Rattle.association_meaning.proofs.Fails.{halts, abort_fails}
use Rattle.association_meaning.proofs.unit_meanings.abort_in.Goals as goal

pub returns-in_err-unit : goal.returns-in_err-unit
returns-in_err-unit c =
    halts seen_abort c.from_residual.result (abort_in (association_base c.args.basis.now.tables.now c.args.basis.now.config.now) c.args.accepted.now c.args.carrier.now.start c.args.carrier.now.user.now c.args.carrier.now.place (ppdu_at c.args.carrier.now.place c.args.carrier.now.user.now)) c.in_err-unit.field-0.0 c.from_residual.ensures.1 (abort_fails c.in_err-unit.field-0.0 (association_base c.args.basis.now.tables.now c.args.basis.now.config.now) c.args.accepted.now (pdv_places c.args.carrier.now.place c.args.carrier.now.start c.args.carrier.now.user.now) (read_unit c.args.carrier.now.start (ppdu_at c.args.carrier.now.place c.args.carrier.now.user.now)) c.in_err-unit.ensures)
