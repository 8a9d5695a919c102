use Rattle.module_reading.proofs.Faultless.{complete_of}
use Rattle.module_reading.proofs.reading.read_module.Goals as goal

pub returns-then-is_table_file-clause-complete : goal.returns-then-is_table_file-clause-complete
returns-then-is_table_file-clause-complete c = complete_of c.args.bytes.now c.file_tables.result c.file_tables.ensures.refused

pub returns-else-is_table_file-clause-complete : goal.returns-else-is_table_file-clause-complete
returns-else-is_table_file-clause-complete c = complete_of c.args.bytes.now c.text_tables.result c.text_tables.ensures.refused
