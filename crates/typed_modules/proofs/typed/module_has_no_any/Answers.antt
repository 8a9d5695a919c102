use Rattle.typed_modules.proofs.Modules.{module_typed}
use Rattle.typed_modules.proofs.typed.module_has_no_any.Goals as goal

pub returns : goal.returns
returns c = module_typed c.args.bytes.now c.loaded_are_files.ensures c.hold_octets.ensures
