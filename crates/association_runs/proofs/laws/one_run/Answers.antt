use Rattle.association_runs.proofs.Unique.{one-run}
use Rattle.association_runs.proofs.laws.one_run.Goals as goal

pub returns : goal.returns
returns c = record { law = one-run c.one_feed.ensures.law c.one_call.ensures.law }
