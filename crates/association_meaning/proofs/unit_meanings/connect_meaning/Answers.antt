use Rattle.std.proofs.Common.{List, [], Result, sym, subst}
use Rattle.osi_base.specs.declared.presentation_word.PresentationConnect.{PresentationConnect}
use Rattle.end_rules.specs.Base.{Fault}
use Rattle.presentation_pdus.specs.declared.place.PpduPlace.TheVariants as place
use Rattle.presentation_pdus.specs.Units.{ppdu_at}
use Rattle.end_rules.specs.Messages.{DataValue, OfAssociation, Connect}
use Rattle.association_intake.specs.association_reading.Places.{pdv_places}
use Rattle.association_intake.specs.association_reading.Association.{connect_values}
use Rattle.association_words.specs.Seen.{seen_word}
use Rattle.association_meaning.specs.Grounds.{association_base, FailsAs}
use Rattle.association_meaning.specs.Words.{connect_in, connected}
use Rattle.association_meaning.proofs.Fails.{halts, connected_fails, values_fail}
use Rattle.association_meaning.proofs.unit_meanings.connect_meaning.Goals as goal

pub returns-in_err-presentation : goal.returns-in_err-presentation
returns-in_err-presentation c =
    halts seen_word c.from_residual.result (connected (association_base c.args.basis.now.tables.now c.args.basis.now.config.now) c.args.session.now c.args.start (connect_in c.args.start (ppdu_at place.Cn c.args.session.now.user))) c.in_err-presentation.field-0.0 c.from_residual.ensures.1 (connected_fails c.in_err-presentation.field-0.0 (association_base c.args.basis.now.tables.now c.args.basis.now.config.now) c.args.session.now c.args.start (connect_in c.args.start (ppdu_at place.Cn c.args.session.now.user)) (rw c.as_slice.ensures at c.in_err-presentation.ensures))

pub returns-in_err-values : goal.returns-in_err-values
returns-in_err-values c =
    halts seen_word c.from_residual-in_err-values.result (connected (association_base c.args.basis.now.tables.now c.args.basis.now.config.now) c.args.session.now c.args.start (connect_in c.args.start (ppdu_at place.Cn c.args.session.now.user))) c.in_err-values.field-0.0 c.from_residual-in_err-values.ensures.1 (subst (λ (r : Result PresentationConnect Fault). FailsAs c.in_err-values.field-0.0 (connected (association_base c.args.basis.now.tables.now c.args.basis.now.config.now) c.args.session.now c.args.start r)) (sym (rw c.as_slice.ensures at c.in_ok-presentation.ensures)) (values_fail c.in_err-values.field-0.0 (λ (values : List DataValue). OfAssociation (Connect (record c.args.session.now { user = [] }) (record c.in_ok-presentation.presentation { user = [] }) values)) (connect_values (association_base c.args.basis.now.tables.now c.args.basis.now.config.now) c.in_ok-presentation.presentation (pdv_places place.Cn c.args.start c.args.session.now.user)) (rw c.as_slice.ensures at c.in_err-values.ensures)))
