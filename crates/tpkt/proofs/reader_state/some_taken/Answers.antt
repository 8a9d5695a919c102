use Rattle.tpkt.proofs.ReaderLaws.{one_taken}
use Rattle.tpkt.proofs.reader_state.some_taken.Goals as goal

pub returns-in_ok-header_taken-in-None-clause-read : goal.returns-in_ok-header_taken-in-None-clause-read
returns-in_ok-header_taken-in-None-clause-read c = one_taken c.args.packets.now c.args.held c.args.octets.now _ c.in-None.is c.requires.right c.requires.some c.in_ok-header_taken-in-None.ensures
