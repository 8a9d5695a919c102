use Rattle.table_file.proofs.FileLaws.{stored_is_loaded}
use Rattle.table_file.proofs.laws.stored_is_loaded.Goals as goal

pub returns : goal.returns
returns c = stored_is_loaded
