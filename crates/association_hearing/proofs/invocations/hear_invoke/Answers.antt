use Rattle.std.proofs.Common.{◌≡◌, ℤ, None, w64, sym, ap, ◌∙◌, refl}
use Rattle.std.proofs.lemmas.Int.{to_z-of_z}
use mir.Val.{to_z, of_z}
use Rattle.association_answers.specs.association_state.Seen.{base_in}
use Rattle.end_rules.specs.Hearing.{carried_in, invoke_problem}
use Rattle.association_hearing.proofs.Invoked.{heard_at, right_heard}
use Rattle.association_hearing.proofs.invocations.hear_invoke.Goals as goal

pub returns : goal.returns
returns c =
    let base = base_in c.args.basis.now in
    let calls = c.args.calls.now in
    let id : ℤ = to_z w64 (of_z w64 c.args.id) in
    let none : invoke_problem base calls id c.args.linked c.args.place (carried_in c.args.argument) ≡ None = sym c.invoke_problem.ensures.problem ∙ c.in_default.is in
    right_heard base calls c.args.context id c.args.linked c.args.argument c.args.place c.admit.new.self c.in-Some-place.operation c.in-Some-place.is none (c.in_ok-admit.ensures.admitted base refl)
    ∙ ap (λ (i : ℤ). heard_at base calls c.args.context i c.args.linked c.args.argument c.args.place) (to_z-of_z w64 c.args.id c.ranges.id)
