use Rattle.presentation_pdus.specs.Units.{ppdu_at}
use Rattle.association_intake.specs.association_reading.Places.{pdv_places}
use Rattle.association_words.specs.Seen.{seen_values}
use Rattle.association_meaning.specs.Words.{data_in, values_with}
use Rattle.association_meaning.proofs.Fails.{halts, under_fails}
use Rattle.association_meaning.proofs.unit_meanings.values_with.Goals as goal

pub returns-in_err-pdvs : goal.returns-in_err-pdvs
returns-in_err-pdvs c =
    halts seen_values c.from_residual.result (values_with c.args.basis.now.tables.now c.args.held.now c.args.carried c.args.carrier.now.place c.args.carrier.now.start c.args.carrier.now.user.now) c.in_err-pdvs.field-0.0 c.from_residual.ensures.1 (under_fails c.in_err-pdvs.field-0.0 c.args.basis.now.tables.now c.args.held.now c.args.carried (pdv_places c.args.carrier.now.place c.args.carrier.now.start c.args.carrier.now.user.now) (data_in c.args.carrier.now.start (ppdu_at c.args.carrier.now.place c.args.carrier.now.user.now)) c.in_err-pdvs.ensures)
