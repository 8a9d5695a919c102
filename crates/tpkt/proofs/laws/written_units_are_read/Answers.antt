use Rattle.std.proofs.Common.{ℕ, [], ◌∷◌, List, refl, sym}
use Rattle.std.proofs.lemmas.List.{append-nil}
use Rattle.osi_base.specs.Octets.{AreOctets}
use Rattle.tpkt.specs.declared.packet.Packet.{Packet}
use Rattle.tpkt.specs.Wire.{packet, Whole, IsUnit}
use Rattle.tpkt.specs.Stream.{IsReadAs}
use Rattle.tpkt.proofs.UnitLaws.{short_yet}
use Rattle.tpkt.proofs.ReaderLaws.{short_empty}
use Rattle.tpkt.proofs.StreamLaws.{split_read}
use Rattle.tpkt.proofs.WrittenLaws.{connect_is, confirm_is, disconnect_is, problem_is}
use Rattle.tpkt.proofs.laws.written_units_are_read.Goals as goal

one_is_read : (p : Packet) (unit : List ℕ) → IsUnit [] (Whole p) unit → AreOctets (packet unit) → IsReadAs p (packet unit)
one_is_read p unit is fits = split_read (packet unit) (Whole p ∷ []) [] fits (unit, [], is, sym (append-nil (packet unit)), refl) (short_yet [] [] (short_empty 0))

pub returns : goal.returns
returns c = record {
  connect = λ ends to by room fits. one_is_read _ _ (connect_is [] ends to by room) fits;
  confirm = λ ends to by room fits. one_is_read _ _ (confirm_is [] ends to by room) fits;
  disconnect = λ destination source reason to by fits. one_is_read _ _ (disconnect_is [] destination source reason to by) fits;
  problem = λ destination cause fits. one_is_read _ _ (problem_is [] destination cause) fits;
}
