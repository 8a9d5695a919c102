use Rattle.std.proofs.lemmas.Result.{IfOk-weaker}
use Rattle.replays.specs.schedule_text.Schedules.{configs_and_events}
use Rattle.osi_commands.proofs.Replays.{told}
use Rattle.osi_commands.proofs.replaying.replay.Goals as goal

pub returns : goal.returns
returns c =
    IfOk-weaker c.written_of.result _ _
    (λ text is. told c.one_transcript.ensures c.args.brief c.args.tables.now (configs_and_events c.args.schedule) c.in_ok-transcript.transcript text c.in_ok-transcript.ensures is)
    c.written_of.ensures
