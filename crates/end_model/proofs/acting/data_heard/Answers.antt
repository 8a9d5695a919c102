use Rattle.end_model.proofs.HeardRows.{bare-heard, direct-heard}
use Rattle.end_model.proofs.acting.data_heard.Goals as goal

pub returns : goal.returns
returns c = record { rows = record { bare = bare-heard; direct = direct-heard } }
