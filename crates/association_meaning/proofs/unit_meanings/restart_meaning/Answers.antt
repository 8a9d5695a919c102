use Rattle.presentation_pdus.specs.declared.place.PpduPlace.TheVariants as place
use Rattle.presentation_pdus.specs.Units.{ppdu_at}
use Rattle.association_intake.specs.association_reading.Meaning as reading
use Rattle.association_words.specs.Seen.{seen_word}
use Rattle.association_meaning.specs.Steps.{read_unit}
use Rattle.association_meaning.specs.Words.{restarted}
use Rattle.association_meaning.proofs.Fails.{halts, meant_fails}
use Rattle.association_meaning.proofs.unit_meanings.restart_meaning.Goals as goal

pub returns-in_err-unit : goal.returns-in_err-unit
returns-in_err-unit c =
    halts seen_word c.from_residual.result (restarted c.args.number c.args.start (ppdu_at place.Rs c.args.user.now)) c.in_err-unit.field-0.0 c.from_residual.ensures.1 (meant_fails c.in_err-unit.field-0.0 (read_unit c.args.start (ppdu_at place.Rs c.args.user.now)) (reading.restart_meaning c.args.number) c.in_err-unit.ensures)
