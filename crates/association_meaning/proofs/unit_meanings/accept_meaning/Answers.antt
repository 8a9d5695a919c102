use Rattle.std.proofs.Common.{List, [], Result, sym, subst}
use Rattle.osi_base.specs.declared.presentation_word.PresentationAccept.{PresentationAccept}
use Rattle.end_rules.specs.Base.{Fault}
use Rattle.presentation_pdus.specs.declared.place.PpduPlace.TheVariants as place
use Rattle.presentation_pdus.specs.Units.{ppdu_at}
use Rattle.end_rules.specs.Messages.{DataValue, OfAssociation, Accept}
use Rattle.association_intake.specs.association_reading.Places.{pdv_places}
use Rattle.association_intake.specs.association_reading.Association.{accept_values}
use Rattle.association_words.specs.Seen.{seen_accepting, seen_word}
use Rattle.association_meaning.specs.Grounds.{association_base, FailsAs}
use Rattle.association_meaning.specs.Words.{accept_in, accepted}
use Rattle.association_meaning.proofs.Fails.{halts, accepted_fails, values_fail}
use Rattle.association_meaning.proofs.unit_meanings.accept_meaning.Goals as goal

pub returns-in_err-presentation : goal.returns-in_err-presentation
returns-in_err-presentation c =
    halts seen_word c.from_residual.result (accepted (association_base c.args.basis.now.tables.now c.args.basis.now.config.now) (seen_accepting c.args.session) c.args.start c.args.user.now (accept_in c.args.start (ppdu_at place.Ac c.args.user.now))) c.in_err-presentation.field-0.0 c.from_residual.ensures.1 (accepted_fails c.in_err-presentation.field-0.0 (association_base c.args.basis.now.tables.now c.args.basis.now.config.now) (seen_accepting c.args.session) c.args.start c.args.user.now (accept_in c.args.start (ppdu_at place.Ac c.args.user.now)) c.in_err-presentation.ensures)

pub returns-in_err-values : goal.returns-in_err-values
returns-in_err-values c =
    halts seen_word c.from_residual-in_err-values.result (accepted (association_base c.args.basis.now.tables.now c.args.basis.now.config.now) (seen_accepting c.args.session) c.args.start c.args.user.now (accept_in c.args.start (ppdu_at place.Ac c.args.user.now))) c.in_err-values.field-0.0 c.from_residual-in_err-values.ensures.1 (subst (λ (r : Result PresentationAccept Fault). FailsAs c.in_err-values.field-0.0 (accepted (association_base c.args.basis.now.tables.now c.args.basis.now.config.now) (seen_accepting c.args.session) c.args.start c.args.user.now r)) (sym c.in_ok-presentation.ensures) (values_fail c.in_err-values.field-0.0 (λ (values : List DataValue). OfAssociation (Accept (seen_accepting c.args.session) (record c.in_ok-presentation.presentation { user = [] }) values)) (accept_values (association_base c.args.basis.now.tables.now c.args.basis.now.config.now) c.in_ok-presentation.presentation (pdv_places place.Ac c.args.start c.args.user.now)) c.in_err-values.ensures))
