use Rattle.osi_commands.specs.Commands.{command_of}
use Rattle.osi_commands.specs.TopCall.{IsAnswer}
use Rattle.osi_commands.proofs.Endings.{files_count_of, sink_count_of, write_fault_of, no_memory_of, no_other_of}
use Rattle.osi_commands.proofs.RunEnding.{own, usage_of, no_command_of, check_ends_so, work_ends_so, replay_done_so}
use Rattle.osi_commands.proofs.run.osi_run.Goals as goal

pub returns-clause-files_count : goal.returns-clause-files_count
returns-clause-files_count g c =
    files_count_of (IsAnswer (g.F.Files.told c.args.files.now) (g.F.Files.faults c.args.files.now) (g.F.Files.faults c.run_words.new.files) (command_of c.args.words.now)) (g.F.Files.faults c.args.files.now) (g.F.Files.faults c.run_words.new.files) (g.O.Sink.faults c.args.out.now) (g.O.Sink.faults c.run_words.new.out) (g.O.Sink.told c.args.out.now) (g.O.Sink.told c.run_words.new.out) c.run_words.result c.run_words.ensures.closes

pub returns-clause-sink_count : goal.returns-clause-sink_count
returns-clause-sink_count g c =
    sink_count_of (IsAnswer (g.F.Files.told c.args.files.now) (g.F.Files.faults c.args.files.now) (g.F.Files.faults c.run_words.new.files) (command_of c.args.words.now)) (g.F.Files.faults c.args.files.now) (g.F.Files.faults c.run_words.new.files) (g.O.Sink.faults c.args.out.now) (g.O.Sink.faults c.run_words.new.out) (g.O.Sink.told c.args.out.now) (g.O.Sink.told c.run_words.new.out) c.run_words.result c.run_words.ensures.closes

pub returns-clause-write_fault : goal.returns-clause-write_fault
returns-clause-write_fault g c =
    write_fault_of (IsAnswer (g.F.Files.told c.args.files.now) (g.F.Files.faults c.args.files.now) (g.F.Files.faults c.run_words.new.files) (command_of c.args.words.now)) (g.F.Files.faults c.args.files.now) (g.F.Files.faults c.run_words.new.files) (g.O.Sink.faults c.args.out.now) (g.O.Sink.faults c.run_words.new.out) (g.O.Sink.told c.args.out.now) (g.O.Sink.told c.run_words.new.out) (own (g.F.Files.told c.args.files.now) (g.F.Files.faults c.args.files.now) (g.F.Files.faults c.run_words.new.files) (command_of c.args.words.now)) c.run_words.result c.run_words.ensures.closes

pub returns-clause-no_memory : goal.returns-clause-no_memory
returns-clause-no_memory g c =
    no_memory_of (IsAnswer (g.F.Files.told c.args.files.now) (g.F.Files.faults c.args.files.now) (g.F.Files.faults c.run_words.new.files) (command_of c.args.words.now)) (g.F.Files.faults c.args.files.now) (g.F.Files.faults c.run_words.new.files) (g.O.Sink.faults c.args.out.now) (g.O.Sink.faults c.run_words.new.out) (g.O.Sink.told c.args.out.now) (g.O.Sink.told c.run_words.new.out) (own (g.F.Files.told c.args.files.now) (g.F.Files.faults c.args.files.now) (g.F.Files.faults c.run_words.new.files) (command_of c.args.words.now)) c.run_words.result c.run_words.ensures.closes

pub returns-clause-no_other : goal.returns-clause-no_other
returns-clause-no_other g c =
    no_other_of (IsAnswer (g.F.Files.told c.args.files.now) (g.F.Files.faults c.args.files.now) (g.F.Files.faults c.run_words.new.files) (command_of c.args.words.now)) (g.F.Files.faults c.args.files.now) (g.F.Files.faults c.run_words.new.files) (g.O.Sink.faults c.args.out.now) (g.O.Sink.faults c.run_words.new.out) (g.O.Sink.told c.args.out.now) (g.O.Sink.told c.run_words.new.out) (own (g.F.Files.told c.args.files.now) (g.F.Files.faults c.args.files.now) (g.F.Files.faults c.run_words.new.files) (command_of c.args.words.now)) c.run_words.result c.run_words.ensures.closes

pub returns-clause-usage : goal.returns-clause-usage
returns-clause-usage g c =
    usage_of (g.F.Files.told c.args.files.now) (g.F.Files.faults c.args.files.now) (g.F.Files.faults c.run_words.new.files) (command_of c.args.words.now) (g.O.Sink.told c.args.out.now) (g.O.Sink.told c.run_words.new.out) (g.O.Sink.faults c.args.out.now) (g.O.Sink.faults c.run_words.new.out) c.run_words.result c.run_words.ensures.closes

pub returns-clause-no_command : goal.returns-clause-no_command
returns-clause-no_command g c =
    no_command_of (g.F.Files.told c.args.files.now) (g.F.Files.faults c.args.files.now) (g.F.Files.faults c.run_words.new.files) (command_of c.args.words.now) (g.O.Sink.told c.args.out.now) (g.O.Sink.told c.run_words.new.out) (g.O.Sink.faults c.args.out.now) (g.O.Sink.faults c.run_words.new.out) c.run_words.result c.run_words.ensures.closes

pub returns-clause-check : goal.returns-clause-check
returns-clause-check g c =
    check_ends_so (g.F.Files.told c.args.files.now) (g.F.Files.faults c.args.files.now) (g.F.Files.faults c.run_words.new.files) (command_of c.args.words.now) (g.O.Sink.told c.args.out.now) (g.O.Sink.told c.run_words.new.out) (g.O.Sink.faults c.args.out.now) (g.O.Sink.faults c.run_words.new.out) c.run_words.result c.run_words.ensures.closes

pub returns-clause-two_files : goal.returns-clause-two_files
returns-clause-two_files g c =
    work_ends_so (g.F.Files.told c.args.files.now) (g.F.Files.faults c.args.files.now) (g.F.Files.faults c.run_words.new.files) (command_of c.args.words.now) (g.O.Sink.told c.args.out.now) (g.O.Sink.told c.run_words.new.out) (g.O.Sink.faults c.args.out.now) (g.O.Sink.faults c.run_words.new.out) c.run_words.result c.run_words.ensures.closes

pub returns-clause-replay : goal.returns-clause-replay
returns-clause-replay g c =
    replay_done_so (g.F.Files.told c.args.files.now) (g.F.Files.faults c.args.files.now) (g.F.Files.faults c.run_words.new.files) (command_of c.args.words.now) (g.O.Sink.told c.args.out.now) (g.O.Sink.told c.run_words.new.out) (g.O.Sink.faults c.args.out.now) (g.O.Sink.faults c.run_words.new.out) c.run_words.result c.run_words.ensures.closes
