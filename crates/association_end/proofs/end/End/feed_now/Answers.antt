use Rattle.std.proofs.Common.{List, subst}
use Rattle.std.proofs.lemmas.Result.{err_from_is_err_and}
use Rattle.dialogue.specs.declared.indication.Indication.{Indication}
use Rattle.association_end.specs.Progress.{ReadAll}
use Rattle.association_end.proofs.Feeds.{fed_all, began_own, began_reading, began_nothing}
use Rattle.association_end.proofs.end.End.feed_now.Goals as goal

pub returns : goal.returns
returns c =
    fed_all c.args.self.now c.keep.new.self c.args.octets.now c.in_ok-keep.ensures.ok c.read_all.new.self c.read_all.new.shown
    (subst (λ (s : List Indication). ReadAll c.keep.new.self c.read_all.new.self s c.read_all.new.shown) c.nothing_shown-shown.ensures c.in_ok-read_all.ensures.ok) c.do_own_acts.new.self c.in_ok-do_own_acts.ensures.ok

pub returns-in_err-keep : goal.returns-in_err-keep
returns-in_err-keep c =
    let p = err_from_is_err_and c.from_residual.result c.from_residual.ensures.1 in
    rw p.1 (began_nothing c.args.self.now c.keep.new.self c.args.octets.now c.in_err-keep.ensures.err)

pub returns-in_err-read_all : goal.returns-in_err-read_all
returns-in_err-read_all c =
    let p = err_from_is_err_and c.from_residual-in_err-read_all.result c.from_residual-in_err-read_all.ensures.1 in
    rw p.1 (began_reading c.args.self.now c.keep.new.self c.args.octets.now c.in_ok-keep.ensures.ok c.read_all.new.self c.in_err-read_all.ensures.err)

pub returns-in_err-do_own_acts : goal.returns-in_err-do_own_acts
returns-in_err-do_own_acts c =
    let p = err_from_is_err_and c.from_residual-in_err-do_own_acts.result c.from_residual-in_err-do_own_acts.ensures.1 in
    rw p.1
    (began_own c.args.self.now c.keep.new.self c.args.octets.now c.in_ok-keep.ensures.ok c.read_all.new.self c.read_all.new.shown
    (subst (λ (s : List Indication). ReadAll c.keep.new.self c.read_all.new.self s c.read_all.new.shown) c.nothing_shown-shown.ensures c.in_ok-read_all.ensures.ok) c.do_own_acts.new.self c.in_err-do_own_acts.ensures.err)
