-- The replay of a schedule, from what its run says.
use Rattle.std.proofs.Common.{◌≡◌, ℕ, Bool, List}
use Rattle.stub_tables.specs.declared.tables.Tables.{Tables}
use Rattle.dialogue.specs.declared.event.Transcript.{Transcript}
use Rattle.replays.specs.schedule_text.Schedules.{Said}
use Rattle.replays.specs.Runs.{RanSchedule, OneTranscript}
use Rattle.osi_commands.specs.Replaying.{written_of, Replayed}

pub told : OneTranscript → (brief : Bool) (tables : Tables) (schedule : Said) (transcript : Transcript) (text : List ℕ) → RanSchedule tables schedule transcript
    → text ≡ written_of brief tables transcript → Replayed brief tables schedule text
told one brief tables schedule transcript text ran is = record {
  transcript = transcript;
  ran = ran;
  only = λ other run. one tables schedule other transcript run ran;
  text_is = is;
}
