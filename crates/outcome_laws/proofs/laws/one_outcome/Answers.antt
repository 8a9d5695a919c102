use Rattle.outcome_laws.proofs.Links.{links-are-allowed}
use Rattle.outcome_laws.proofs.Once.{one-outcome, outcomes-are-allowed}
use Rattle.outcome_laws.proofs.Places.{each-met, exchanges-reached, each-exchange}
use Rattle.outcome_laws.proofs.laws.one_outcome.Goals as goal

pub returns : goal.returns
returns c = record { outcomes = one-outcome; allowed = outcomes-are-allowed; links = links-are-allowed; places = each-met; reached = exchanges-reached; all = each-exchange }
