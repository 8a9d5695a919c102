use Rattle.bare_end.proofs.Sent.{on_module}
use Rattle.bare_end.proofs.end.End.is_on_module.Goals as goal

pub returns : goal.returns
returns c = on_module c.args.self.now.tables c.args.context
