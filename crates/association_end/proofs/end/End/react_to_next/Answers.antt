use Rattle.association_meaning.specs.association_intake.Seen.{seen_front}
use Rattle.association_end.proofs.ReactionSent.{sent_stands, over_for, reaction_result}
use Rattle.association_end.proofs.end.End.react_to_next.Goals as goal

pub settle-requires-clause-room : goal.settle-requires-clause-room
settle-requires-clause-room c = sent_stands c.reactions_are_steps.ensures.law c.args.self.now c.react.new.self (seen_front c.args.front) c.in_ok-reaction.reaction c.in_ok-reaction.ensures.ok

pub settle-requires-clause-over : goal.settle-requires-clause-over
settle-requires-clause-over c = over_for c.reactions_are_steps.ensures.law c.args.self.now c.react.new.self (seen_front c.args.front) c.in_ok-reaction.reaction c.in_ok-reaction.ensures.ok

pub returns : goal.returns
returns c =
    reaction_result c.args.self.now c.react.new.self c.settle.new.self (seen_front c.args.front) c.args.shown.now c.settle.new.shown c.size_with-size.result c.size_with-size.ensures.is c.in_ok-reaction.reaction c.in_ok-reaction.ensures.ok
    c.settle.result c.settle.ensures
