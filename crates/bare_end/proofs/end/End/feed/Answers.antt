use Rattle.std.proofs.Common.{ap}
use Rattle.dialogue.specs.declared.config.Phase.TheVariants.{Dead}
use Rattle.bare_end.specs.View.{EndView}
use Rattle.bare_end.proofs.Fed.{died_fed}
use Rattle.bare_end.proofs.end.End.feed.Goals as goal

pub returns-in-Err : goal.returns-in-Err
returns-in-Err c = died_fed c.args.self.now c.feed_now.new.self _ c.args.bytes.now c.in-Err.ensures (ap (λ (v : EndView). record v { phase = Dead }) c.self.view_is)
