use Rattle.std.proofs.Common.{List, ℕ, sym, subst, ◌≡◌, ◌∙◌}
use Rattle.std.specs.Prelude.{IfOk}
use Rattle.std.proofs.lemmas.Result.{IfOk-weaker}
use Rattle.osi_base.specs.declared.session_word.SessionWord.{SessionWord}
use Rattle.presentation_pdus.specs.declared.place.PpduPlace.TheVariants.{Cn}
use Rattle.presentation_pdus.specs.Units.{ppdu_at}
use Rattle.association_line.specs.association_reading.Reacting.{contexts_read, contexts_of_unit}
use Rattle.association_reacting.specs.association_state.Seen.{base_in, seen}
use Rattle.association_end.proofs.Units.{not_connecting}
use Rattle.association_end.proofs.reading.contexts_of.Goals as goal

pub returns-in-Connect : goal.returns-in-Connect
returns-in-Connect c =
    let b = base_in c.args.basis.now in
    let body = seen c.args.body.now in
    subst (λ (u : SessionWord). IfOk c.contexts_proposed.result (λ set. set ≡ contexts_of_unit b body u)) (sym c.in-Connect.is)
    (subst (λ (user : List ℕ). IfOk c.contexts_proposed.result (λ set. set ≡ contexts_read b body (ppdu_at Cn user))) c.as_slice.ensures c.contexts_proposed.ensures)

pub returns-in_default : goal.returns-in_default
returns-in_default c =
    IfOk-weaker c.copy_set.result _ _ (λ set h. h ∙ c.as_slice-in_default.ensures ∙ sym (not_connecting (base_in c.args.basis.now) (seen c.args.body.now) c.args.unit.now c.in_default.not-Connect)) c.copy_set.ensures
