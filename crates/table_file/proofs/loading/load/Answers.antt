use Rattle.std.proofs.Common.{sym, arith}
use Rattle.table_file.proofs.Limits.{front, long_load}
use Rattle.table_file.proofs.loading.load.Goals as goal

pub slice_bounds-whole-end : goal.slice_bounds-whole-end
slice_bounds-whole-end c = sym (front c.args.bytes.now c.if-bytes-gt-MOST_OCTETS.true)

pub whole-requires : goal.whole-requires
whole-requires c = omega (arith, front c.args.bytes.now c.if-bytes-gt-MOST_OCTETS.true)

pub returns-then-bytes-gt-MOST_OCTETS : goal.returns-then-bytes-gt-MOST_OCTETS
returns-then-bytes-gt-MOST_OCTETS c = rw (long_load c.args.bytes.now c.if-bytes-gt-MOST_OCTETS.true) c.whole.ensures
