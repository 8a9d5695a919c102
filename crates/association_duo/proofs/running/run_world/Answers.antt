use Rattle.std.proofs.Common.{ap}
use Rattle.dialogue.specs.declared.config.Config.{Config}
use Rattle.association_duo.proofs.Runs.{runs_all, run_told}
use Rattle.association_duo.proofs.running.run_world.Goals as goal

pub returns : goal.returns
returns c =
    run_told c.args.events.now (record { mode = c.config.result.now.mode; entries = c.in_ok-entries.entries; a = c.phase.result; b = c.phase-2.result }) c.args.a.now c.args.b.now c.run_events.new.a c.run_events.new.b
    (runs_all c.args.a.now c.args.b.now c.args.events.now c.in_ok-entries.entries c.run_events.new.a c.run_events.new.b c.in_ok-entries.ensures) (ap (λ (k : Config). k.mode) c.config.ensures) c.phase.ensures c.phase-2.ensures
