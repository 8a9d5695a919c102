use Rattle.osi_commands.proofs.Only.{one_answer}
use Rattle.osi_commands.proofs.laws.one_answer.Goals as goal

pub returns : goal.returns
returns c = one_answer c.one_transcript.ensures c.one_trace.ensures
