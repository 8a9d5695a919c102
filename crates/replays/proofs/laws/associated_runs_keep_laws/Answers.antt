use Rattle.replays.proofs.laws.associated_runs_keep_laws.Goals as goal

pub returns : goal.returns
returns c = record { direct = c.direct_runs_keep_laws.ensures.all; reliable = c.reliable_runs_keep_laws.ensures.all }
