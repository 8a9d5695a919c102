use Rattle.association_runs.proofs.Outcomes.{tell-one, tell-answers}
use Rattle.association_runs.proofs.laws.runs_tell_one_outcome.Goals as goal

pub returns : goal.returns
returns c =
    record {
      once = tell-one c.one_outcome.ensures.outcomes c.one_outcome.ensures.allowed c.one_outcome.ensures.links;
      answers = tell-answers c.outcomes_are_answers.ensures.answers;
    }
