use Rattle.codec_runs.proofs.ReliableSpoken as worlds
use Rattle.codec_runs.proofs.reliable_worlds.reliable_worlds_are_spelled.Goals as goal

pub returns : goal.returns
returns c =
    record {
      spelled = worlds.worlds-spelled c.said_is_meant.ensures.law c.reliable_ends_are_said.ensures.law;
      calm = worlds.worlds-calm c.said_is_meant.ensures.law c.reliable_ends_are_said.ensures.law;
      holder = worlds.worlds-one_holder c.said_is_meant.ensures.law c.reliable_ends_are_said.ensures.law;
    }
