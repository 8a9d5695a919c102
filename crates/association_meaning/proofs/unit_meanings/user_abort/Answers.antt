use Rattle.association_intake.specs.association_reading.Places.{pdv_places}
use Rattle.association_intake.specs.association_reading.Association.{abort_values}
use Rattle.association_words.specs.Seen.{seen_abort}
use Rattle.association_meaning.specs.Grounds.{association_base}
use Rattle.association_meaning.specs.Words.{user_abort}
use Rattle.association_meaning.proofs.Fails.{halts, as_values_fail}
use Rattle.association_meaning.proofs.unit_meanings.user_abort.Goals as goal

pub returns-in_err-values : goal.returns-in_err-values
returns-in_err-values c =
    halts seen_abort c.from_residual.result (user_abort (association_base c.args.basis.now.tables.now c.args.basis.now.config.now) c.args.accepted.now (pdv_places c.args.carrier.now.place c.args.carrier.now.start c.args.carrier.now.user.now) c.args.pdvs.now) c.in_err-values.field-0.0 c.from_residual.ensures.1 (as_values_fail c.in_err-values.field-0.0 (abort_values (association_base c.args.basis.now.tables.now c.args.basis.now.config.now) c.args.accepted.now (pdv_places c.args.carrier.now.place c.args.carrier.now.start c.args.carrier.now.user.now) c.args.pdvs.now) c.in_err-values.ensures)
