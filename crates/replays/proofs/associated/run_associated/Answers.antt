use Rattle.std.proofs.Common.{ap, ◌∙◌}
use Rattle.std.proofs.lemmas.Result.{IfOk-weaker, IfOk-from_err}
use Rattle.end_rules.specs.Base.{is_bare}
use Rattle.schedule_text.specs.Schedules.{configs_and_events}
use Rattle.replays.proofs.AssociatedRuns.{scheduled}
use Rattle.replays.proofs.associated.run_associated.Goals as goal

pub returns-in-Ok : goal.returns-in-Ok
returns-in-Ok c =
    IfOk-weaker c.run_ends.result _ _
    (λ transcript over. scheduled c.associated_runs_keep_laws.ensures.direct c.associated_runs_keep_laws.ensures.reliable c.args.tables.now c.hold_readable.ensures c.requires.typed (configs_and_events c.args.schedule) c.requires.set_up c.requires.associated transcript c.in_ok-a.a c.in-Ok.b c.in_ok-a.ensures.made c.in_ok-a.ensures.new c.in-Ok.ensures.made c.in-Ok.ensures.new over)
    c.run_ends.ensures

pub new_end-requires-clause-associated : goal.new_end-requires-clause-associated
new_end-requires-clause-associated c = c.requires.associated

pub new_end-requires-clause-accepted : goal.new_end-requires-clause-accepted
new_end-requires-clause-accepted c = c.requires.set_up.of_a.accepted

pub new_end-requires-2-clause-associated : goal.new_end-requires-2-clause-associated
new_end-requires-2-clause-associated c = ap is_bare c.requires.set_up.of_b.mode ∙ c.requires.associated

pub new_end-requires-2-clause-accepted : goal.new_end-requires-2-clause-accepted
new_end-requires-2-clause-accepted c = c.requires.set_up.of_b.accepted

pub returns-in_err-a : goal.returns-in_err-a
returns-in_err-a c = IfOk-from_err c.from_residual.result _ c.from_residual.ensures.0
