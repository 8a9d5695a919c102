use Rattle.std.proofs.Common.{subst}
use Rattle.tpkt.specs.Reader.{ReaderProgress}
use Rattle.tpkt.specs.Stream.{ReadsAsPackets}
use Rattle.tpkt.proofs.StreamLaws.{stream_read}
use Rattle.tpkt.proofs.laws.stream_is_read.Goals as goal

pub returns : goal.returns
returns c = λ stream packets held fits e. subst (λ (f : ReaderProgress). ReadsAsPackets stream f.packets f.held.fault) e (stream_read stream fits)
