use Rattle.std.proofs.Common.{sym, subst, ◌≡◌, ◌∙◌}
use Rattle.std.specs.Prelude.{Result, IfOk}
use Rattle.std.proofs.lemmas.Result.{IfOk-weaker}
use Rattle.osi_base.specs.declared.presentation_word.PresentationWord.{PresentationWord}
use Rattle.presentation_pdus.specs.declared.place.PpduPlace.TheVariants.{Cn}
use Rattle.presentation_pdus.specs.declared.place.PpduFault.{PpduFault}
use Rattle.presentation_pdus.specs.Units.{ppdu_at}
use Rattle.association_line.specs.association_reading.Reacting.{contexts_read}
use Rattle.association_reacting.specs.association_state.Seen.{base_in, seen}
use Rattle.association_end.proofs.Units.{unread_proposal}
use Rattle.association_end.proofs.reading.contexts_proposed.Goals as goal

pub returns-in-Ok : goal.returns-in-Ok
returns-in-Ok c =
    subst (λ (r : Result PresentationWord PpduFault). IfOk c.contexts_said-contexts.result (λ set. set ≡ contexts_read (base_in c.args.basis.now) (seen c.args.body.now) r)) (sym c.in-Ok.ensures) c.contexts_said-contexts.ensures

pub returns-in-At : goal.returns-in-At
returns-in-At c =
    IfOk-weaker c.copy_set.result _ _
    (λ set h. h ∙ c.as_slice.ensures ∙ sym (unread_proposal (base_in c.args.basis.now) (seen c.args.body.now) c.in-Err.fault c.in-At.place c.in-At.kind c.in-At.reason (ppdu_at Cn c.args.user.now) c.in-At.is c.in-Err.ensures))
    c.copy_set.ensures
