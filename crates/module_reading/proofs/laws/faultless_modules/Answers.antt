use Rattle.module_reading.proofs.Faultless.{tables_faultless, never_refused, texts_have_tables, modules_have_either}
use Rattle.module_reading.proofs.laws.faultless_modules.Goals as goal

pub returns : goal.returns
returns c = record { tables = tables_faultless; taken = never_refused; have_tables = texts_have_tables; either = modules_have_either }
