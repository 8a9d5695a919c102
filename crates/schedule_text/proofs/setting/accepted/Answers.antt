use Rattle.schedule_text.proofs.Settled.{told_of, accepted_so}
use Rattle.schedule_text.proofs.setting.accepted.Goals as goal

pub returns-in-Err : goal.returns-in-Err
returns-in-Err c = rw c.fault_of.ensures (told_of c.in-Err.refusal c.args.config.now c.check_config.result c.in-Err.is c.check_config.ensures.exact)

pub returns-in-Ok : goal.returns-in-Ok
returns-in-Ok c = accepted_so c.args.config.now c.check_config.result c.in-Ok.is c.check_config.ensures.exact
