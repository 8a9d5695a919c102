use Rattle.std.proofs.Common.{subst}
use Rattle.association_words.specs.Seen.{seen_transport}
use Rattle.association_writing.specs.Room.{HasRoomFor}
use Rattle.association_writing.proofs.transport.written_unit.Goals as goal

pub request-requires : goal.request-requires
request-requires c = subst (λ u. HasRoomFor (seen_transport u)) c.in-ConnectionRequest.is c.requires
