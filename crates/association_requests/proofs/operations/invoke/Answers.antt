use Rattle.std.proofs.Common.{◌≡◌, ℤ, Some, ap, option_map, rules}
use Rattle.std.proofs.lemmas.Int.{to_z-of_z}
use mir.Val.{SFits, of_z, to_z}
use mir.Syntax.{w64}
use Rattle.std.proofs.lemmas.Result.{err_from_is_err_and}
use Rattle.dialogue.specs.declared.call.Call.TheVariants as the_calls
use Rattle.stub_tables.specs.Lookup.{operation_at}
use Rattle.end_rules.specs.Invoking.{can_invoke, next_id, invoke_apdu}
use Rattle.association_hearing.specs.association_state.Seen.{base_in, seen}
use Rattle.association_requests.proofs.Outcomes.{refused_checked}
use Rattle.association_requests.proofs.Invoked.{there, invoke_made}
use Rattle.association_requests.proofs.operations.invoke.Goals as goal

pub open-requires-clause-there : goal.open-requires-clause-there
open-requires-clause-there c =
    there (λ o. invoke_apdu o (next_id (seen c.args.body.now)) c.args.making.linked c.args.argument.now) (operation_at c.args.basis.now.tables.now c.args.making.place) c.in_ok-apdu.apdu c.in_ok-apdu.ensures.checked.1

pub returns : goal.returns
returns c =
    let fits : SFits w64 c.in-Ok.id = search rules in
    let same : to_z w64 (of_z w64 c.in-Ok.id) ≡ c.in-Ok.id = to_z-of_z w64 c.in-Ok.id fits in
    invoke_made (base_in c.args.basis.now) (seen c.args.body.now) c.args.making.context c.args.making.place c.args.making.linked c.args.argument.now
    (can_invoke (base_in c.args.basis.now) (seen c.args.body.now) c.args.making.context c.args.making.place c.args.argument.now c.args.making.linked) (seen c.open.new.body) (seen c.hand_in.new.body) c.in-Ok.id c.in_ok-apdu.apdu
    (record { answer = Some (to_z w64 (of_z w64 c.in-Ok.id)); message = c.in_ok-message.message })
    c.in_ok-apdu.ensures.checked c.in-Ok.ensures.id c.in-Ok.ensures.opened (ap (λ (z : ℤ). Some z) same) c.in_ok-message.ensures.message c.in_ok-message.ensures.body

pub returns-in_err-apdu : goal.returns-in_err-apdu
returns-in_err-apdu c =
    let p = err_from_is_err_and c.from_residual.result c.from_residual.ensures.1 in
    rw (p.1, p.2)
    (refused_checked (can_invoke (base_in c.args.basis.now) (seen c.args.body.now) c.args.making.context c.args.making.place c.args.argument.now c.args.making.linked) (base_in c.args.basis.now) (seen c.args.body.now)
    (the_calls.Invoke c.args.making.context c.args.making.place c.args.argument.now c.args.making.linked) (Some (next_id (seen c.args.body.now)))
    (option_map (λ o. invoke_apdu o (next_id (seen c.args.body.now)) c.args.making.linked c.args.argument.now) (operation_at c.args.basis.now.tables.now c.args.making.place)) c.in_err-apdu.field-0.0 c.in_err-apdu.ensures.checked)
