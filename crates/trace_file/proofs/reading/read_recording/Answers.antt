use Rattle.std.proofs.Common.{subst}
use Rattle.trace_file.specs.Reading.{Gives}
use Rattle.trace_file.proofs.RecordingLaws.{found_of, fault_of, recording_again, first_again}
use Rattle.trace_file.proofs.reading.read_recording.Goals as goal

pub returns-clause-found : goal.returns-clause-found
returns-clause-found c = found_of c.read_limited.result c.args.text.now c.read_limited.ensures

pub returns-clause-only : goal.returns-clause-only
returns-clause-only c = λ told r. subst (Gives c.read_limited.result) (recording_again c.args.text.now told r) c.read_limited.ensures

pub returns-clause-first : goal.returns-clause-first
returns-clause-first c = fault_of c.read_limited.result c.args.text.now c.read_limited.ensures

pub returns-clause-given : goal.returns-clause-given
returns-clause-given c = λ line kind f. subst (Gives c.read_limited.result) (first_again c.args.text.now line kind f) c.read_limited.ensures
