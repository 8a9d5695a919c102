use Rattle.std.proofs.Common.{List}
use Rattle.presentation_pdus.specs.declared.place.PpduPlace.TheVariants as place
use Rattle.end_rules.specs.Messages.{DataValue, OfAssociation, Finish}
use Rattle.association_intake.specs.association_reading.declared.layer_of_values.LayerOfValues.TheVariants as carriage
use Rattle.association_words.specs.Seen.{seen_word}
use Rattle.association_meaning.specs.Words.{values_with, finished}
use Rattle.association_meaning.proofs.Fails.{halts, values_fail}
use Rattle.association_meaning.proofs.unit_meanings.finish_meaning.Goals as goal

pub returns-in_err-values : goal.returns-in_err-values
returns-in_err-values c =
    halts seen_word c.from_residual.result (finished c.args.basis.now.tables.now c.args.held.now c.args.transport c.args.start c.args.user.now) c.in_err-values.field-0.0 c.from_residual.ensures.1 (values_fail c.in_err-values.field-0.0 (λ (values : List DataValue). OfAssociation (Finish c.args.transport values)) (values_with c.args.basis.now.tables.now c.args.held.now carriage.Association place.Fn c.args.start c.args.user.now) c.in_err-values.ensures)
