-- The association and its connection, as the rules of one end see it.
use Rattle.association_sets.specs.end_rules.State as rules
use Rattle.association_pieces.specs.declared.link.Stage.{Stage}
use Rattle.association_pieces.specs.declared.link.Stage.TheVariants.{Unused, Asked, Joined, Carrying}
use Rattle.association_pieces.specs.declared.link.Awaited.{Awaited}
use Rattle.association_pieces.specs.declared.link.Awaited.TheVariants.{NoAnswer, RestartOf, InterruptOf, DiscardOf, ReleaseOf}
use Rattle.association_pieces.specs.declared.link.Link.{Link}

abbrev pub seen_stage : Stage → rules.Stage
seen_stage Unused = rules.Unused
seen_stage Asked = rules.Asked
seen_stage Joined = rules.Joined
seen_stage Carrying = rules.Carrying

abbrev pub seen_awaited : Awaited → rules.Awaited
seen_awaited NoAnswer = rules.NoAnswer
seen_awaited (RestartOf number) = rules.RestartOf number
seen_awaited InterruptOf = rules.InterruptOf
seen_awaited DiscardOf = rules.DiscardOf
seen_awaited ReleaseOf = rules.ReleaseOf

abbrev pub seen_link : Link → rules.Link
seen_link link =
    record {
      phase = link.phase;
      stage = seen_stage link.stage;
      selected = link.selected;
      manages = link.manages;
      turn = link.turn;
      gave = link.gave;
      awaits = seen_awaited link.awaits;
      accepted = link.accepted;
      reference = link.reference;
      common = link.common;
      checkpoint = link.checkpoint;
      window = link.window;
    }
