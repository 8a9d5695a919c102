use Rattle.codec_runs.proofs.DirectSpoken as worlds
use Rattle.codec_runs.proofs.direct_worlds.direct_worlds_are_spelled.Goals as goal

pub returns : goal.returns
returns c =
    record {
      spelled = worlds.worlds-spelled c.said_is_meant.ensures.law c.direct_ends_are_modelled.ensures.takes c.bare_ends_are_modelled.ensures.codec c.direct_ends_are_said.ensures.law;
      calm = worlds.worlds-calm c.said_is_meant.ensures.law c.direct_ends_are_modelled.ensures.takes c.bare_ends_are_modelled.ensures.codec c.direct_ends_are_said.ensures.law;
      holder =
          worlds.worlds-one_holder c.said_is_meant.ensures.law c.direct_ends_are_modelled.ensures.takes c.bare_ends_are_modelled.ensures.codec c.direct_ends_are_said.ensures.law
          c.direct_turn_has_one_holder.ensures.law;
    }
