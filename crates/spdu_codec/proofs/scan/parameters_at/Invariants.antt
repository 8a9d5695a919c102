use Rattle.std.proofs.Common.{◌≡◌, ◌≤◌, length}
use Rattle.spdu_codec.specs.Reading.{parameter_taken}
use Rattle.spdu_codec.specs.Parameters.{none_yet}
use Rattle.spdu_codec.proofs.ScanLoop.{scanned}
use Rattle.spdu_codec.proofs.scan.parameters_at.Given as goal

abbrev pub invariant-loop-code : goal.invariant-loop-code
invariant-loop-code l = record {
  within : length l.rest ≤ length l.octets;
  reads : scanned parameter_taken l.table l.end l.p l.rest ≡ scanned parameter_taken l.table l.end none_yet l.octets;
}

abbrev pub decreases-loop-code : goal.decreases-loop-code
decreases-loop-code l = length l.rest
