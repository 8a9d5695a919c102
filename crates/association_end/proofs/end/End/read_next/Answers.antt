use Rattle.std.proofs.Common.{Bool, sym, subst, ◌≡◌, ◌∙◌}
use Rattle.std.specs.Bool.{MatchBool}
use Rattle.association_line.specs.association_reading.Front.{Short}
use Rattle.association_meaning.specs.association_intake.Seen.{seen_front}
use Rattle.association_end.specs.Sound.{IsMessage}
use Rattle.association_end.proofs.ReactionSteps.{waited}
use Rattle.association_end.proofs.ReactionSent.{up_behind, next_read}
use Rattle.association_end.proofs.end.End.read_next.Goals as goal

pub returns-then-is_short : goal.returns-then-is_short
returns-then-is_short c =
    let t = c.take_front-front.ensures.took in
    waited c.args.self.now t.intake t.came c.requires c.take_front-front.new.self c.args.shown.now c.take_front-front.ensures.messages
    (sym t.first ∙ subst (λ (b : Bool). MatchBool b (seen_front c.take_front-front.result ≡ Short) (IsMessage (seen_front c.take_front-front.result))) c.if-is_short.true c.is_short.ensures) t.new_is

pub react_to_next-requires-clause-up : goal.react_to_next-requires-clause-up
react_to_next-requires-clause-up c = up_behind c.args.self.now c.take_front-front.new.self c.take_front-front.result c.take_front-front.ensures.took c.requires

pub react_to_next-requires-clause-whole : goal.react_to_next-requires-clause-whole
react_to_next-requires-clause-whole c =
    subst (λ (b : Bool). MatchBool b (seen_front c.take_front-front.result ≡ Short) (IsMessage (seen_front c.take_front-front.result))) c.if-is_short.false c.is_short.ensures

pub returns : goal.returns
returns c =
    next_read c.reactions_are_steps.ensures.law c.args.self.now c.take_front-front.new.self c.react_to_next.new.self c.take_front-front.result c.args.shown.now c.react_to_next.new.shown c.take_front-front.ensures.took c.requires c.react_to_next.result c.react_to_next.ensures
