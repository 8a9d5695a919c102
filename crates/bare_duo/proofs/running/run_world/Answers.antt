use Rattle.std.proofs.Common.{ap, subst}
use Rattle.stub_tables.specs.Readable.{IsReadable}
use Rattle.dialogue.specs.declared.config.Config.{Config}
use Rattle.bare_duo.proofs.Runs.{runs_all, run_told, from_start}
use Rattle.bare_duo.proofs.running.run_world.Goals as goal

pub returns-clause-told : goal.returns-clause-told
returns-clause-told c =
    run_told c.args.events.now (record { mode = c.config.result.now.mode; entries = c.in_ok-entries.entries; a = c.phase.result; b = c.phase-2.result }) c.args.a.now c.args.b.now c.run_events.new.a c.run_events.new.b
    (runs_all c.args.a.now c.args.b.now c.args.events.now c.in_ok-entries.entries c.run_events.new.a c.run_events.new.b c.in_ok-entries.ensures) (ap (λ (k : Config). k.mode) c.config.ensures) c.phase.ensures c.phase-2.ensures

pub returns-clause-laws : goal.returns-clause-laws
returns-clause-laws c =
    from_start c.every_run_keeps_laws.ensures c.args.events.now (record { mode = c.config.result.now.mode; entries = c.in_ok-entries.entries; a = c.phase.result; b = c.phase-2.result }) c.args.a.now c.args.b.now c.run_events.new.a c.run_events.new.b
    (subst IsReadable c.tables.ensures c.hold_readable.ensures) (runs_all c.args.a.now c.args.b.now c.args.events.now c.in_ok-entries.entries c.run_events.new.a c.run_events.new.b c.in_ok-entries.ensures) (ap (λ (k : Config). k.mode) c.config.ensures) c.phase.ensures c.phase-2.ensures
