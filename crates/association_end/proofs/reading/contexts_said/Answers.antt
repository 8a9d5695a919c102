use Rattle.std.proofs.Common.{sym, subst, ◌≡◌, ◌∙◌}
use Rattle.std.specs.Prelude.{IfOk, Ok}
use Rattle.std.proofs.lemmas.Result.{IfOk-weaker}
use Rattle.osi_base.specs.declared.presentation_word.PresentationWord.{PresentationWord}
use Rattle.association_line.specs.association_reading.Transfers.{association_spellings}
use Rattle.association_line.specs.association_reading.Reacting.{contexts_read}
use Rattle.association_reacting.specs.association_state.Seen.{base_in, seen}
use Rattle.association_end.proofs.Units.{not_proposed}
use Rattle.association_end.proofs.reading.contexts_said.Goals as goal

pub returns-in-Connect : goal.returns-in-Connect
returns-in-Connect c =
    subst (λ (w : PresentationWord). IfOk c.set_for.result (λ set. set ≡ contexts_read (base_in c.args.basis.now) (seen c.args.body.now) (Ok w))) (sym c.in-Connect.is)
    (c.set_for.ensures (association_spellings c.args.basis.now.tables.now))

pub returns-in_default : goal.returns-in_default
returns-in_default c =
    IfOk-weaker c.copy_set.result _ _ (λ set h. h ∙ c.as_slice.ensures ∙ sym (not_proposed (base_in c.args.basis.now) (seen c.args.body.now) c.args.word.now c.in_default.not-Connect)) c.copy_set.ensures
