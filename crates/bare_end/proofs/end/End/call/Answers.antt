use Rattle.bare_end.proofs.Histories.{answered_on}
use Rattle.bare_end.proofs.end.End.call.Goals as goal

pub returns-clause-history : goal.returns-clause-history
returns-clause-history c = λ h stood. answered_on c.args.self.now c.call_or_die-answer.new.self c.args.call c.call_or_die-answer.result c.call_or_die-answer.ensures h stood
