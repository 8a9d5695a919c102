use Rattle.std.proofs.Common.{◌≡◌, ◌≤◌, length}
use Rattle.spdu_codec.specs.Reading.{item_taken}
use Rattle.spdu_codec.proofs.ScanLoop.{scanned}
use Rattle.spdu_codec.proofs.scan.items_at.Given as goal

abbrev pub invariant-loop-code : goal.invariant-loop-code
invariant-loop-code l = record {
  within : length l.rest ≤ length l.octets;
  reads : scanned item_taken l.table l.end l.p l.rest ≡ scanned item_taken l.table l.end l.fn.p l.octets;
}

abbrev pub decreases-loop-code : goal.decreases-loop-code
decreases-loop-code l = length l.rest
