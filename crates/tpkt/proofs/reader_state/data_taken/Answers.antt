use Rattle.std.proofs.Common.{arith, rules}
use Rattle.tpkt.proofs.ReaderLaws.{data_taken}
use Rattle.tpkt.proofs.reader_state.data_taken.Goals as goal

pub returns-clause-read : goal.returns-clause-read
returns-clause-read c = data_taken c.args.packets.now c.args.held c.args.coming c.args.octets.now c.min-count.result _ c.requires.coming c.requires.right c.requires.idle (omega (arith, c.requires.more, c.requires.some)) (omega arith) (omega arith) (search rules)
