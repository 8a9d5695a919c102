use Rattle.std.proofs.Common.{List, [], Some, Result, sym, subst}
use Rattle.osi_base.specs.declared.presentation_word.PresentationReject.{PresentationReject}
use Rattle.end_rules.specs.Base.{Fault}
use Rattle.presentation_pdus.specs.declared.place.PpduPlace.TheVariants as place
use Rattle.presentation_pdus.specs.Units.{ppdu_at}
use Rattle.end_rules.specs.Messages.{DataValue, OfAssociation, Refuse}
use Rattle.association_intake.specs.association_reading.Places.{pdv_places}
use Rattle.association_intake.specs.association_reading.Association.{refuse_values}
use Rattle.association_words.specs.Seen.{seen_word}
use Rattle.association_meaning.specs.Grounds.{association_base, FailsAs}
use Rattle.association_meaning.specs.Words.{reject_in, refused}
use Rattle.association_meaning.proofs.Fails.{halts, refused_fails, values_fail}
use Rattle.association_meaning.proofs.unit_meanings.refuse_meaning.Goals as goal

pub returns-in_err-presentation : goal.returns-in_err-presentation
returns-in_err-presentation c =
    halts seen_word c.from_residual.result (refused (association_base c.args.basis.now.tables.now c.args.basis.now.config.now) c.args.transport c.args.reason c.args.start c.args.user.now (reject_in c.args.start (ppdu_at place.Rf c.args.user.now))) c.in_err-presentation.field-0.0 c.from_residual.ensures.1 (refused_fails c.in_err-presentation.field-0.0 (association_base c.args.basis.now.tables.now c.args.basis.now.config.now) c.args.transport c.args.reason c.args.start c.args.user.now (reject_in c.args.start (ppdu_at place.Rf c.args.user.now)) c.in_err-presentation.ensures)

pub returns-in_err-values : goal.returns-in_err-values
returns-in_err-values c =
    halts seen_word c.from_residual-in_err-values.result (refused (association_base c.args.basis.now.tables.now c.args.basis.now.config.now) c.args.transport c.args.reason c.args.start c.args.user.now (reject_in c.args.start (ppdu_at place.Rf c.args.user.now))) c.in_err-values.field-0.0 c.from_residual-in_err-values.ensures.1 (subst (λ (r : Result PresentationReject Fault). FailsAs c.in_err-values.field-0.0 (refused (association_base c.args.basis.now.tables.now c.args.basis.now.config.now) c.args.transport c.args.reason c.args.start c.args.user.now r)) (sym c.in_ok-presentation.ensures) (values_fail c.in_err-values.field-0.0 (λ (values : List DataValue). OfAssociation (Refuse c.args.transport c.args.reason (Some (record c.in_ok-presentation.presentation { user = [] })) values)) (refuse_values (association_base c.args.basis.now.tables.now c.args.basis.now.config.now) c.in_ok-presentation.presentation (pdv_places place.Rf c.args.start c.args.user.now)) c.in_err-values.ensures))
