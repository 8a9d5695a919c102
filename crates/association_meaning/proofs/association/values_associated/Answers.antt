use Rattle.association_intake.specs.association_reading.declared.layer_of_values.LayerOfValues.TheVariants as carriage
use Rattle.association_intake.specs.association_reading.Places.{pdv_places}
use Rattle.association_intake.specs.association_reading.Values.{values_under}
use Rattle.association_intake.specs.association_reading.Association.{is_aarq}
use Rattle.association_words.specs.Seen.{seen_values}
use Rattle.association_meaning.specs.Grounds.{association_base}
use Rattle.association_meaning.specs.Steps.{values_associated}
use Rattle.association_meaning.proofs.Fails.{halts, informed_fails}
use Rattle.association_meaning.proofs.association.values_associated.Goals as goal

pub returns-in_err-values : goal.returns-in_err-values
returns-in_err-values c =
    halts seen_values c.from_residual.result (values_associated (association_base c.args.basis.now.tables.now c.args.basis.now.config.now) c.args.presentation.now c.args.set.now (pdv_places c.args.carrier.now.place c.args.carrier.now.start c.args.carrier.now.user.now)) c.in_err-values.field-0.0 c.from_residual.ensures.1 (informed_fails c.in_err-values.field-0.0 (association_base c.args.basis.now.tables.now c.args.basis.now.config.now) c.args.set.now is_aarq (values_under c.args.basis.now.tables.now c.args.set.now carriage.Association (pdv_places c.args.carrier.now.place c.args.carrier.now.start c.args.carrier.now.user.now) c.args.presentation.now.user) (rw c.as_slice.ensures at c.in_err-values.ensures))
