use Rattle.association_intake.specs.association_reading.declared.layer_of_values.LayerOfValues.TheVariants as carriage
use Rattle.association_intake.specs.association_reading.Places.{pdv_places}
use Rattle.association_intake.specs.association_reading.Values.{values_under}
use Rattle.association_intake.specs.association_reading.Association.{is_acceptance}
use Rattle.association_words.specs.Seen.{seen_values}
use Rattle.association_meaning.specs.Grounds.{association_base}
use Rattle.association_meaning.specs.Steps.{accepted_values}
use Rattle.association_meaning.proofs.Fails.{halts, informed_fails}
use Rattle.association_meaning.proofs.association.accepted_values.Goals as goal

pub returns-in_err-values : goal.returns-in_err-values
returns-in_err-values c =
    halts seen_values c.from_residual.result (accepted_values (association_base c.args.basis.now.tables.now c.args.basis.now.config.now) c.args.presentation.now c.args.accepted.now (pdv_places c.args.carrier.now.place c.args.carrier.now.start c.args.carrier.now.user.now)) c.in_err-values.field-0.0 c.from_residual.ensures.1 (informed_fails c.in_err-values.field-0.0 (association_base c.args.basis.now.tables.now c.args.basis.now.config.now) c.args.accepted.now is_acceptance (values_under c.args.basis.now.tables.now c.args.accepted.now carriage.Association (pdv_places c.args.carrier.now.place c.args.carrier.now.start c.args.carrier.now.user.now) c.args.presentation.now.user) (rw c.as_slice-pdvs.ensures at c.in_err-values.ensures))
