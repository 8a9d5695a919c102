use Rattle.std.proofs.Common.{List, [], ◌∙◌, sym, subst}
use Rattle.std.proofs.lemmas.Result.{err_from_is_err_and}
use Rattle.dialogue.specs.declared.indication.Indication.{Indication}
use Rattle.bare_end.specs.View.{EndView}
use Rattle.bare_end.specs.Feed.{Fed, ReadAll}
use Rattle.bare_end.proofs.Fed.{fed_up, fed_over, kept_none, kept_fed}
use Rattle.bare_end.proofs.end.End.feed_now.Goals as goal

pub returns-then-is_over : goal.returns-then-is_over
returns-then-is_over c =
    subst (λ (s : List Indication). Fed c.args.self.now c.pass_over.new.self c.args.bytes.now s) (sym c.nothing_shown-shown.ensures)
    (fed_over c.args.self.now c.pass_over.new.self c.args.bytes.now (sym c.is_over.ensures ∙ c.if-is_over.true) c.pass_over.ensures)

pub returns : goal.returns
returns c =
    fed_up c.args.self.now c.read_all.new.self c.args.bytes.now c.read_all.new.shown (sym c.is_over.ensures ∙ c.if-is_over.false)
    (subst (λ (e : EndView). ReadAll e c.read_all.new.self [] c.read_all.new.shown) c.in_ok-keep.ensures.ok
    (subst (λ (s : List Indication). ReadAll c.keep.new.self c.read_all.new.self s c.read_all.new.shown) c.nothing_shown-shown.ensures c.in_ok-read_all.ensures.ok))

pub returns-in_err-keep : goal.returns-in_err-keep
returns-in_err-keep c =
    let p = err_from_is_err_and c.from_residual.result c.from_residual.ensures.1 in
    rw p.1 (kept_none c.args.self.now c.keep.new.self c.args.bytes.now c.in_err-keep.ensures.err)

pub returns-in_err-read_all : goal.returns-in_err-read_all
returns-in_err-read_all c =
    let p = err_from_is_err_and c.from_residual-in_err-read_all.result c.from_residual-in_err-read_all.ensures.1 in
    rw p.1 (kept_fed c.args.self.now c.keep.new.self c.read_all.new.self c.args.bytes.now (sym c.is_over.ensures ∙ c.if-is_over.false) c.in_ok-keep.ensures.ok c.in_err-read_all.ensures.err)
