use Rattle.std.proofs.lemmas.Result.{IfOk-weaker}
use Rattle.replays.proofs.BareRuns.{scheduled}
use Rattle.replays.proofs.bare.run_bare.Goals as goal

pub returns-in-Ok : goal.returns-in-Ok
returns-in-Ok c =
    IfOk-weaker c.run_ends.result _ _
    (λ transcript over. scheduled c.args.schedule.setup.a c.args.schedule.setup.b c.requires.a c.requires.b c.args.tables.now c.args.schedule.events transcript c.in_ok-a.a c.in-Ok.b c.in_ok-a.ensures.tables c.in_ok-a.ensures.config c.in_ok-a.ensures.new c.in-Ok.ensures.tables c.in-Ok.ensures.config c.in-Ok.ensures.new over)
    c.run_ends.ensures

pub new_end-requires-clause-bare : goal.new_end-requires-clause-bare
new_end-requires-clause-bare c = c.requires.a.mode

pub new_end-requires-clause-accepted : goal.new_end-requires-clause-accepted
new_end-requires-clause-accepted c = c.requires.a.accepted

pub new_end-requires-2-clause-bare : goal.new_end-requires-2-clause-bare
new_end-requires-2-clause-bare c = c.requires.b.mode

pub new_end-requires-2-clause-accepted : goal.new_end-requires-2-clause-accepted
new_end-requires-2-clause-accepted c = c.requires.b.accepted
