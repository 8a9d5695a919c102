use Rattle.std.proofs.Common.{ap}
use Rattle.bare_duo.specs.bare_end.View.{EndView}
use Rattle.replays.proofs.bare.new_end.Goals as goal

pub returns-in-Ok-clause-tables : goal.returns-in-Ok-clause-tables
returns-in-Ok-clause-tables c = ap (λ (e : EndView). e.tables) c.in-Ok.ensures.made

pub returns-in-Ok-clause-config : goal.returns-in-Ok-clause-config
returns-in-Ok-clause-config c = ap (λ (e : EndView). e.config) c.in-Ok.ensures.made

pub returns-in-Ok-clause-new : goal.returns-in-Ok-clause-new
returns-in-Ok-clause-new c = c.in-Ok.ensures.history
