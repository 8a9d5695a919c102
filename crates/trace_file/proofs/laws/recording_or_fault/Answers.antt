use Rattle.trace_file.proofs.RecordingLaws.{one_recording, not_both, either}
use Rattle.trace_file.proofs.laws.recording_or_fault.Goals as goal

pub returns-clause-one : goal.returns-clause-one
returns-clause-one c = one_recording

pub returns-clause-not_both : goal.returns-clause-not_both
returns-clause-not_both c = not_both

pub returns-clause-either : goal.returns-clause-either
returns-clause-either c = either
