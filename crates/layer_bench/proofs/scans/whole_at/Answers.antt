use Rattle.std.proofs.Common.{[]}
use Rattle.layer_bench.proofs.scans.whole_at.Goals as goal

pub loop-end-init : goal.loop-end-init
loop-end-init c = c.new-scanner.ensures []
