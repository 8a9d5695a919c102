use Rattle.table_file.proofs.FileLaws.{files_are_loaded}
use Rattle.table_file.proofs.laws.files_are_loaded.Goals as goal

pub returns : goal.returns
returns c = files_are_loaded
