use Rattle.std.proofs.Common.{refl}
use Rattle.module_compiler.proofs.OwnCodes.{see_code}
use Rattle.module_compiler.proofs.own_codes.Seen.see.Goals as goal

pub returns-in_ok-insert-in-Global-clause-seen : goal.returns-in_ok-insert-in-Global-clause-seen
returns-in_ok-insert-in-Global-clause-seen c =
    see_code c.args.self.now (record { locals = c.args.self.now.locals; globals = c.insert-in-Global.new.self }) c.args.code.now c.in-Global.oid c.arcs.result c.in-Global.is c.arcs.ensures.value refl c.in_ok-insert-in-Global.ensures.updates
