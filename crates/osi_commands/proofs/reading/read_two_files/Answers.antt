use Rattle.osi_commands.specs.Given.{two_files_given}
use Rattle.osi_commands.proofs.TwoFilesReading.{module_found, module_refused, asks_second, second_asked}
use Rattle.osi_commands.proofs.reading.read_two_files.Goals as goal

pub returns-in_err-read-in-Ok-clause-asked : goal.returns-in_err-read-in-Ok-clause-asked
returns-in_err-read-in-Ok-clause-asked g c =
    asks_second (g.F.Files.told c.args.files.now) (g.F.Files.faults c.args.files.now) (g.F.Files.faults c.read_file.new.files) (g.F.Files.faults c.read_second.new.files) (two_files_given c.args.named) c.in_ok-text.field-0 c.in-Some.text c.as_slice-octets.result.now c.in-Ok.tables
    (g.F.Files.asked c.args.files.now) (g.F.Files.asked c.read_file.new.files) (g.F.Files.asked c.read_second.new.files) c.in_ok-text.ensures.read c.in-Some.is c.as_slice-octets.ensures c.in-Ok.ensures.found c.in_ok-text.ensures.ok_asked c.read_second.ensures.asked

pub returns-in-Ok-clause-read : goal.returns-in-Ok-clause-read
returns-in-Ok-clause-read g c =
    module_found (g.F.Files.told c.args.files.now) (g.F.Files.told c.read_file.new.files) (g.F.Files.faults c.args.files.now) (g.F.Files.faults c.read_file.new.files) (g.F.Files.faults c.read_second.new.files) (two_files_given c.args.named) c.in_ok-text.field-0 c.in-Some.text c.as_slice-octets.result.now c.in-Ok.tables c.in_ok-read-in-Ok.read
    c.in_ok-text.ensures.read c.in-Some.is c.in_ok-text.ensures.ok_count c.in_ok-text.ensures.files.kept c.as_slice-octets.ensures c.in-Ok.ensures.found c.in_ok-read-in-Ok.ensures.read

pub returns-in-Ok-clause-asked : goal.returns-in-Ok-clause-asked
returns-in-Ok-clause-asked g c =
    asks_second (g.F.Files.told c.args.files.now) (g.F.Files.faults c.args.files.now) (g.F.Files.faults c.read_file.new.files) (g.F.Files.faults c.read_second.new.files) (two_files_given c.args.named) c.in_ok-text.field-0 c.in-Some.text c.as_slice-octets.result.now c.in-Ok.tables
    (g.F.Files.asked c.args.files.now) (g.F.Files.asked c.read_file.new.files) (g.F.Files.asked c.read_second.new.files) c.in_ok-text.ensures.read c.in-Some.is c.as_slice-octets.ensures c.in-Ok.ensures.found c.in_ok-text.ensures.ok_asked c.read_second.ensures.asked

pub returns-in-Ok-clause-asked_for : goal.returns-in-Ok-clause-asked_for
returns-in-Ok-clause-asked_for g c =
    second_asked (two_files_given c.args.named) c.in-Ok.tables (g.F.Files.told c.read_file.new.files) (g.F.Files.faults c.read_file.new.files) (g.F.Files.faults c.read_second.new.files) c.in_ok-read-in-Ok.read
    (g.F.Files.asked c.args.files.now) (g.F.Files.asked c.read_file.new.files) (g.F.Files.asked c.read_second.new.files) c.in_ok-read-in-Ok.ensures.read c.in_ok-text.ensures.ok_asked c.in_ok-read-in-Ok.ensures.ok_asked

pub returns-in-Err-At-clause-read : goal.returns-in-Err-At-clause-read
returns-in-Err-At-clause-read g c =
    module_refused (g.F.Files.told c.args.files.now) (g.F.Files.faults c.args.files.now) (g.F.Files.faults c.read_file.new.files) (two_files_given c.args.named) c.in_ok-text.field-0 c.in-Some.text c.as_slice-octets.result.now c.in-Err-At.line c.in-Err-At.column c.in-Err-At.kind c.in_ok-answer-in-Err-At.answer
    c.in_ok-text.ensures.read c.in-Some.is c.as_slice-octets.ensures (rw c.in-Err-At.field-0-is at c.in-Err-At.ensures.refused) c.in_ok-answer-in-Err-At.ensures

pub read_second-requires : goal.read_second-requires
read_second-requires g c = record { typed = c.module_has_no_any.ensures c.in-Ok.tables c.in-Ok.ensures.found }

pub returns-in-Ok-clause-typed : goal.returns-in-Ok-clause-typed
returns-in-Ok-clause-typed g c = c.in_ok-read-in-Ok.ensures.typed
