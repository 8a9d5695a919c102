use Rattle.std.proofs.Common.{ap, subst, ◌∙◌}
use Rattle.end_rules.specs.State.{passes_over}
use Rattle.association_end.specs.View.{EndView}
use Rattle.association_end.specs.Seen.{came_in}
use Rattle.association_end.specs.Sound.{HasMessages}
use Rattle.association_end.specs.OneMessage.{TookFirst, with_came}
use Rattle.association_end.proofs.Inside.{view_in}
use Rattle.association_end.proofs.Sounds.{up_some, took_first, sound_took}
use Rattle.association_end.proofs.end.End.take_front.Goals as goal

pub invariant_of-self : goal.invariant_of-self
invariant_of-self c =
    sound_took (view_in c.self.inside) c.next_front.result (came_in c.next_front.new.intake) c.self.invariant
    (ap (λ (e : EndView). passes_over e.end.body.link.phase) c.self.view_is ∙ c.requires.up) c.next_front.ensures.takes

pub returns-clause-took : goal.returns-clause-took
returns-clause-took c =
    let up = ap (λ (e : EndView). passes_over e.end.body.link.phase) c.self.view_is ∙ c.requires.up in
    let new : EndView = with_came (came_in c.next_front.new.intake) (view_in c.self.inside) in
    subst (λ (e : EndView). TookFirst e new c.next_front.result) c.self.view_is
    (took_first (view_in c.self.inside) c.next_front.result (came_in c.next_front.new.intake) (up_some (view_in c.self.inside) c.self.invariant up) c.next_front.ensures.takes)

pub returns-clause-messages : goal.returns-clause-messages
returns-clause-messages c = subst (λ (e : EndView). HasMessages e.end.line.came) c.self.view_is c.self.invariant.messages
