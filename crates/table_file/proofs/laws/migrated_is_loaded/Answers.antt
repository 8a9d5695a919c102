use Rattle.table_file.proofs.FileLaws.{migrated_is_loaded}
use Rattle.table_file.proofs.laws.migrated_is_loaded.Goals as goal

pub returns : goal.returns
returns c = migrated_is_loaded
