use Rattle.std.proofs.Common.{sym, ◌∙◌}
use Rattle.table_file.proofs.OwnCodes.{own_more, lacks}
use Rattle.table_file.proofs.sections.add_error.Goals as goal

pub returns-clause-own : goal.returns-clause-own
returns-clause-own c = λ h.
    rw c.in_ok-push.ensures.ok (own_more (λ e. e.code) c.args.errors.now c.in-Some.row (sym (c.requires.codes c.in-Some.row.code) ∙ lacks _ _ c.in_ok-own_code.ensures.first c.if-not-own_code.false) h)
