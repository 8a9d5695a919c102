use Rattle.std.proofs.lemmas.Result.{IfOk-weaker}
use Rattle.schedule_text.specs.Schedules.{configs_and_events}
use Rattle.replays.proofs.SetUp.{ran_bare, ran_associated, not_bare}
use Rattle.replays.proofs.running.run_schedule.Goals as goal

pub run_bare-requires-clause-a : goal.run_bare-requires-clause-a
run_bare-requires-clause-a c = (c.setups_of_bare_mode.ensures _ _ c.requires.set_up.meet c.in-Bare.is).0

pub run_bare-requires-clause-b : goal.run_bare-requires-clause-b
run_bare-requires-clause-b c = (c.setups_of_bare_mode.ensures _ _ c.requires.set_up.meet c.in-Bare.is).1

pub returns-in-Bare : goal.returns-in-Bare
returns-in-Bare c =
    IfOk-weaker c.run_bare.result _ _ (λ transcript ran. ran_bare c.args.tables.now (configs_and_events c.args.schedule) transcript c.in-Bare.is ran) c.run_bare.ensures

pub run_associated-requires-clause-associated : goal.run_associated-requires-clause-associated
run_associated-requires-clause-associated c = not_bare _ c.in-Direct.is

pub run_associated-requires-clause-set_up : goal.run_associated-requires-clause-set_up
run_associated-requires-clause-set_up c = c.requires.set_up

pub run_associated-requires-clause-typed : goal.run_associated-requires-clause-typed
run_associated-requires-clause-typed c = c.requires.typed

pub returns-in-Direct : goal.returns-in-Direct
returns-in-Direct c =
    IfOk-weaker c.run_associated.result _ _
    (λ transcript ran. ran_associated c.args.tables.now (configs_and_events c.args.schedule) transcript (not_bare _ c.in-Direct.is) ran) c.run_associated.ensures
