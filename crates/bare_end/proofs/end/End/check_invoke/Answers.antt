use Rattle.std.proofs.Common.{sym, ap, subst, ◌∙◌}
use Rattle.stub_tables.specs.Uses.{is_carried}
use Rattle.bare_end.specs.View.{EndView, base}
use Rattle.bare_end.specs.Checking.{IsShortText}
use Rattle.bare_end.proofs.Answered.{invoke_full, has_room}
use Rattle.bare_end.proofs.end.End.check_invoke.Goals as goal

pub returns-in-Some-room_refusal-clause-checked : goal.returns-in-Some-room_refusal-clause-checked
returns-in-Some-room_refusal-clause-checked c =
    let e = c.args.self.now in
    let carried = ap (λ (v : EndView). is_carried v.tables.types c.args.operation.now.argument c.args.argument.now) (sym c.self.view_is) ∙ sym c.carries.ensures ∙ c.if-not-carries.false in
    let short = (subst (IsShortText (base e) c.in_ok-apdu.apdu) c.in-Some.is c.in_ok-text.ensures).0 in
    invoke_full e c.args.operation.now c.args.argument.now c.args.linked c.in_ok-apdu.apdu c.room_refusal.result c.in-Some-room_refusal.refusal carried c.in_ok-apdu.ensures short c.room_refusal.ensures c.in-Some-room_refusal.is

pub returns-in-None-clause-free : goal.returns-in-None-clause-free
returns-in-None-clause-free c = has_room c.args.self.now c.args.operation.now c.room_refusal.result c.room_refusal.ensures c.in-None.is
