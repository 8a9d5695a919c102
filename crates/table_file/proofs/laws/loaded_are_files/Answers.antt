use Rattle.table_file.proofs.FileLaws.{loaded_are_files}
use Rattle.table_file.proofs.laws.loaded_are_files.Goals as goal

pub returns : goal.returns
returns c = loaded_are_files
