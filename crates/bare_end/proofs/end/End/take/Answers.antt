use Rattle.std.proofs.Common.{drop, subst}
use Rattle.stub_tables.specs.Readable.{IsReadable}
use Rattle.bare_end.specs.View.{EndView}
use Rattle.bare_end.proofs.Taken.{took}
use Rattle.bare_end.proofs.Fed.{on_err, kept_same, kept_taken}
use Rattle.bare_end.proofs.end.End.take.Goals as goal

pub returns-clause-ok : goal.returns-clause-ok
returns-clause-ok c =
    took c.args.self.now c.hear.new.self c.skip.new.self c.tell.new.self c.args.shown.now c.tell.new.shown c.args.used c.in_ok-taken.taken (subst (λ (v : EndView). IsReadable v.tables) c.self.view_is c.hold_readable.ensures) c.requires.up c.requires.first c.requires.some c.requires.within
    c.in_ok-taken.ensures.means c.in_ok-taken.ensures.heard c.skip.ensures c.in_ok-tell.ensures.ok c.in_ok-tell.ensures.shown

pub returns-in_err-taken-clause-err : goal.returns-in_err-taken-clause-err
returns-in_err-taken-clause-err c = on_err c.from_residual.result _ (kept_same c.args.self.now c.hear.new.self c.in_err-taken.ensures.err)

pub returns-in_err-tell-clause-err : goal.returns-in_err-tell-clause-err
returns-in_err-tell-clause-err c =
    on_err c.from_residual-in_err-tell.result _ (kept_taken c.args.self.now c.hear.new.self c.skip.new.self c.tell.new.self c.hear.new.self.calls (drop c.args.used c.hear.new.self.rest) c.in_ok-taken.ensures.heard.end_is c.skip.ensures c.in_err-tell.ensures.err)
