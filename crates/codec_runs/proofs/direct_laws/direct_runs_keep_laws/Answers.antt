use Rattle.codec_runs.proofs.Direct.{take-in-place, show-what-is-taken, never-fail, have-one-holder, tell-one, tell-answers, keep-laws}
use Rattle.codec_runs.proofs.direct_laws.direct_runs_keep_laws.Goals as goal

pub returns : goal.returns
returns c =
    record {
      places = take-in-place c.runs_reach_messages.ensures.places c.said_is_meant.ensures.law c.direct_ends_are_modelled.ensures.takes c.bare_ends_are_modelled.ensures.codec c.direct_ends_are_said.ensures.law;
      shown = show-what-is-taken c.runs_reach_messages.ensures.shown c.said_is_meant.ensures.law c.direct_ends_are_modelled.ensures.takes c.bare_ends_are_modelled.ensures.codec c.direct_ends_are_said.ensures.law;
      calm = never-fail c.runs_reach_messages.ensures.calm c.said_is_meant.ensures.law c.direct_ends_are_modelled.ensures.takes c.bare_ends_are_modelled.ensures.codec c.direct_ends_are_said.ensures.law;
      holder =
          have-one-holder c.runs_reach_messages.ensures.holder c.said_is_meant.ensures.law c.direct_ends_are_modelled.ensures.takes c.bare_ends_are_modelled.ensures.codec c.direct_ends_are_said.ensures.law
          c.direct_turn_has_one_holder.ensures.law;
      outcomes = tell-one c.runs_tell_one_outcome.ensures.once c.said_is_meant.ensures.law c.direct_ends_are_modelled.ensures.takes c.bare_ends_are_modelled.ensures.codec c.direct_ends_are_said.ensures.law;
      answers = tell-answers c.runs_tell_one_outcome.ensures.answers c.said_is_meant.ensures.law c.direct_ends_are_modelled.ensures.takes c.bare_ends_are_modelled.ensures.codec c.direct_ends_are_said.ensures.law;
      all =
          keep-laws c.runs_reach_messages.ensures.shown c.runs_reach_messages.ensures.calm c.runs_reach_messages.ensures.holder c.messages_are_taken_when_whole.ensures.law
          c.nothing_whole_waits.ensures.law c.said_is_meant.ensures.law c.direct_ends_are_modelled.ensures.takes
          c.bare_ends_are_modelled.ensures.codec c.direct_ends_are_said.ensures.law c.direct_turn_has_one_holder.ensures.law;
    }
