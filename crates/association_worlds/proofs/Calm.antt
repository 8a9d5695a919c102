-- Neither end finds a fault.
use Rattle.association_worlds.specs.Worlds.{end_at}
use Rattle.association_worlds.specs.Laws.{NothingFails}
use Rattle.association_worlds.proofs.Heard.{meant-heard}
use Rattle.association_worlds.proofs.Kept.{next-so, heard-so, spelled-so}

pub nothing-fails : NothingFails
nothing-fails common ends h so role intake fault body aborts shown e t =
    let hh = meant-heard common h in
    let s = spelled-so common hh ends so in
    let f = next-so common hh role ends intake _ s e t in
    h.faultless s.two s.ledger s.speaks.goes role f.message f.left fault body aborts shown f.is (heard-so common hh s.two s.ledger role (end_at role ends).body intake _ _ (s.bodies role) s.speaks f t)
