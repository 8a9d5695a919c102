use Rattle.std.proofs.Common.{refl, ap}
use Rattle.association_end.specs.View.{EndView}
use Rattle.association_end.proofs.Inside.{view_in}
use Rattle.association_end.proofs.Sounds.{sound_dead}
use Rattle.association_end.proofs.Feeds.{died_fed}
use Rattle.association_end.proofs.end.End.feed.Goals as goal

pub invariant_of-self : goal.invariant_of-self
invariant_of-self c = sound_dead (view_in c.self.inside) c.self.invariant

pub returns-in-Err : goal.returns-in-Err
returns-in-Err c =
    died_fed c.args.self.now c.feed_now.new.self _ c.args.octets.now c.in-Err.ensures
    (ap (λ (e : EndView). e.tables) c.self.view_is) (ap (λ (e : EndView). e.config) c.self.view_is) (ap (λ (e : EndView). e.end.line.waiting) c.self.view_is) refl
