use Rattle.std.proofs.Common.{sym, ap, ◌∙◌}
use Rattle.stub_tables.specs.Uses.{is_carried}
use Rattle.end_rules.specs.State.{OpenCall}
use Rattle.end_rules.specs.Invoking.{error_apdu, can_refuse_with}
use Rattle.bare_end.specs.View.{EndView, base, body}
use Rattle.bare_end.proofs.Answered.{outcome_checked, refuse_row}
use Rattle.bare_end.proofs.end.End.check_refuse.Goals as goal

pub returns : goal.returns
returns c =
    let e = c.args.self.now in
    let carried = ap (λ (v : EndView). is_carried v.tables.types c.args.error.now.parameter c.args.parameter.now) (sym c.self.view_is) ∙ sym c.carries.ensures ∙ c.if-not-carries.false in
    outcome_checked e c.args.id.now c.in_ok-apdu.apdu c.check_outcome-checked.result c.check_outcome-checked.ensures (error_apdu c.args.error.now c.args.id.now c.args.parameter.now)
    (λ (o : OpenCall). can_refuse_with (base e) (body e) c.args.id.now o c.args.error.now c.args.parameter.now) c.in_ok-apdu.ensures
    (λ o. refuse_row e c.args.id.now c.args.error.now c.args.parameter.now o carried)
