use Rattle.std.proofs.Common.{[]}
use Rattle.tpkt.proofs.ReaderLaws.{after_fault}
use Rattle.tpkt.proofs.laws.fault_stays_held.Goals as goal

pub returns : goal.returns
returns c = λ held fault xs e. after_fault (record { packets = []; held = held }) fault xs e
