-- What is told of outcomes in a run is what its messages tell.
use Rattle.std.proofs.Common.{sym, subst}
use Rattle.agreement.specs.Sets.{other}
use Rattle.end_model.specs.Sharing.{side_of}
use Rattle.outcome_laws.specs.Exchanges.{exchange_of, outcomes_in, AreDistinct}
use Rattle.outcome_laws.specs.Outcomes.{OneOutcome, OutcomesAreAllowed, OutcomesAreAnswers, AreAllowed, AreAnswers}
use Rattle.outcome_laws.specs.Links.{LinksAreAllowed, AreAllowedLinks, links_in}
use Rattle.association_runs.specs.Sides.{ends_for}
use Rattle.association_runs.specs.OwnExchanges.{Own, own_at}
use Rattle.association_runs.specs.Laws.{RunsTellOneOutcome, RunsTellAnswers}
use Rattle.association_runs.proofs.Reached.{reach-messages}

pub tell-one : OneOutcome → OutcomesAreAllowed → LinksAreAllowed → RunsTellOneOutcome
tell-one one allowed links common m all told w typed r role =
    let s = reach-messages common m all told w typed r in
    record {
      once = subst (λ (o : Own). AreDistinct (outcomes_in o.shown)) (sym (s.exchange role)) (one common s.two s.ledger s.exchanges s.reached_exchanges role);
      allowed = subst (λ (o : Own). AreAllowed common.tables o.asked o.shown) (sym (s.exchange role)) (allowed common s.two s.ledger s.exchanges s.reached_exchanges role);
      links = subst (λ (o : Own). AreAllowedLinks common.tables o.asked (links_in o.shown)) (sym (s.exchange role)) (links common s.two s.ledger s.exchanges s.reached_exchanges role);
    }

pub tell-answers : OutcomesAreAnswers → RunsTellAnswers
tell-answers law common m all told w typed r out role =
    let s = reach-messages common m all told w typed r in
    subst (λ (o : Own). AreAnswers common.tables o.wrote (own_at (ends_for common) (side_of role) w).shown) (sym (s.exchange (other role)))
    (subst (λ (o : Own). AreAnswers common.tables (exchange_of (other role) s.exchanges).wrote o.shown) (sym (s.exchange role)) (law common s.two s.ledger s.exchanges out s.reached_exchanges role))
