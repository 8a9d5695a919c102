use Rattle.tpkt.proofs.ReaderLaws.{new_sound}
use Rattle.tpkt.proofs.StreamLaws.{nothing_read}
use Rattle.tpkt.proofs.reader.TReader.new.Goals as goal

pub invariant_of-result : goal.invariant_of-result
invariant_of-result c = rw c.between.ensures (new_sound _ _ c.new.ensures)

pub returns-clause-new : goal.returns-clause-new
returns-clause-new c = rw (c.between.ensures, c.new.ensures) nothing_read
