use Rattle.std.proofs.Common.{Some, sym, ap, ◌∙◌}
use Rattle.stub_tables.specs.Uses.{is_carried}
use Rattle.end_rules.specs.State.{OpenCall}
use Rattle.end_rules.specs.Invoking.{result_apdu, can_answer_open}
use Rattle.bare_end.specs.View.{EndView, base, body}
use Rattle.bare_end.proofs.Answered.{outcome_checked, answer_row}
use Rattle.bare_end.proofs.end.End.check_answer.Goals as goal

pub returns : goal.returns
returns c =
    let e = c.args.self.now in
    let carried = ap (λ (v : EndView). is_carried v.tables.types c.args.operation.now.result c.args.value.now) (sym c.self.view_is) ∙ sym c.carries.ensures ∙ c.if-not-carries.false in
    outcome_checked e c.args.id.now c.in_ok-apdu.apdu c.check_outcome-checked.result c.check_outcome-checked.ensures (result_apdu c.args.operation.now c.args.id.now c.args.value.now)
    (λ (o : OpenCall). can_answer_open (base e) (body e) c.args.id.now (Some o) (Some c.args.operation.now) c.args.value.now) c.in_ok-apdu.ensures
    (λ o. answer_row e c.args.id.now c.args.operation.now c.args.value.now o c.if-not-operation.false carried)
