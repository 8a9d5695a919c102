use Rattle.std.proofs.Common.{List}
use Rattle.presentation_pdus.specs.declared.place.PpduPlace.TheVariants as place
use Rattle.end_rules.specs.Messages.{DataValue, OfData, Values}
use Rattle.association_intake.specs.association_reading.Meaning.{carried_by_data}
use Rattle.association_words.specs.Seen.{seen_word}
use Rattle.association_meaning.specs.Grounds.{association_base}
use Rattle.association_meaning.specs.Words.{values_with, sent}
use Rattle.association_meaning.proofs.Fails.{halts, values_fail}
use Rattle.association_meaning.proofs.unit_meanings.data_meaning.Goals as goal

pub returns-in_err-values : goal.returns-in_err-values
returns-in_err-values c =
    halts seen_word c.from_residual.result (sent (association_base c.args.basis.now.tables.now c.args.basis.now.config.now) c.args.held.now c.args.start c.args.user.now) c.in_err-values.field-0.0 c.from_residual.ensures.1 (values_fail c.in_err-values.field-0.0 (λ (values : List DataValue). OfData (Values values)) (values_with c.args.basis.now.tables.now c.args.held.now (carried_by_data (association_base c.args.basis.now.tables.now c.args.basis.now.config.now)) place.Dt c.args.start c.args.user.now) (rw c.carried_by_data.ensures at c.in_err-values.ensures))
