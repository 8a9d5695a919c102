use Rattle.std.proofs.Common.{◌≡◌, false, [], length, sym, ◌∙◌}
use Rattle.std.proofs.lemmas.Result.{err_from_is_err_and}
use Rattle.script_lines.specs.Syntaxes.{are_over, syntax_at, more_syntaxes}
use Rattle.script_lines.proofs.Turns.{fails_so, syntaxes_bad}
use Rattle.script_lines.proofs.syntax.more_syntaxes.Goals as goal

pub returns-in_err-name : goal.returns-in_err-name
returns-in_err-name c =
    let text = c.args.text.now in
    let rest = c.loop-turn.rest.now in
    let goes : are_over c.args.before rest ≡ false = sym c.are_over.ensures ∙ c.if-are_over.false in
    let p = err_from_is_err_and c.from_residual.result c.from_residual.ensures.1 in
    rw (p.1, p.2) (fails_so _ (syntax_at rest) (more_syntaxes c.args.before (length text) [] text)
    (λ kind h. c.loop-turn.invariant ∙ syntaxes_bad c.args.before (length text) c.loop-turn._turn c.loop-turn.names rest kind c.loop-turn-test.true goes h)
    c.in_err-name.ensures)
