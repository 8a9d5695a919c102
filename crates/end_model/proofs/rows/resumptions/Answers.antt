use Rattle.std.proofs.Common.{refl}
use Rattle.end_model.proofs.Resuming.{resumption-sent, resumption-taken}
use Rattle.end_model.proofs.rows.resumptions.Goals as goal

pub returns : goal.returns
returns c = record { rows = record { sent = resumption-sent; resumed = resumption-taken; part = λ value free base body. refl } }
