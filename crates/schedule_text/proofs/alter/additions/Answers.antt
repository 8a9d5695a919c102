use Rattle.std.proofs.Common.{◌≡◌, true, [], length, sym, ap, ◌∙◌, codes}
use Rattle.std.proofs.lemmas.Result.{err_from_is_err_and}
use Rattle.script_lines.specs.Fields.{is_next}
use Rattle.script_lines.proofs.Turns.{fails_so}
use Rattle.schedule_text.specs.Alterations.{addition_at, more_additions}
use Rattle.schedule_text.proofs.Turns.{additions_bad}
use Rattle.schedule_text.proofs.alter.additions.Goals as goal

pub returns-in_err-proposal : goal.returns-in_err-proposal
returns-in_err-proposal c =
    let tables = c.args.tables.now in
    let text = c.args.text.now in
    let rest = c.loop-turn.rest.now in
    let goes : is_next (codes "add") rest ≡ true = sym c.is_next.ensures ∙ c.if-not-is_next.false in
    let p = err_from_is_err_and c.from_residual.result c.from_residual.ensures.1 in
    rw (p.1, p.2) (fails_so _ (addition_at tables c.after_field.result.now) (more_additions tables (length text) [] text)
    (λ kind h. c.loop-turn.invariant ∙ additions_bad tables (length text) c.loop-turn._turn c.loop-turn.proposals rest kind c.loop-turn-test.true goes
    (ap (addition_at tables) (sym c.after_field.ensures) ∙ h)) c.in_err-proposal.ensures)
