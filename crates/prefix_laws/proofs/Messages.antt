-- What came of a message brings nothing before its last octet.
use Rattle.std.proofs.Common.{◌≡◌, refl, sym, ap, subst, ◌∙◌, ℕ, List, [], ◌∷◌, ◌++◌, arith}
use Rattle.std.proofs.lemmas.List.{append-nil}
use Rattle.stub_tables.specs.declared.tables.Tables.{Tables}
use Rattle.tpkt.specs.declared.packet.Packet.{Packet}
use Rattle.tpkt.specs.declared.packet.Packet.TheVariants.{Connect, Confirm, Disconnect, Tsdu}
use Rattle.tpkt.specs.Wire.{Tpdu, Splits, begun_by, handed_for, handed}
use Rattle.tpkt.specs.Stream.{unit_at}
use Rattle.tpkt.proofs.StreamLaws.{split_read, less_than_a_packet, splits_join, handed_join}
use Rattle.tpkt.proofs.WrittenLaws.{connect_is, confirm_is, disconnect_is}
use Rattle.end_rules.specs.Messages.{TransportUnit, ConnectionRequest, ConnectionConfirm, DisconnectRequest, TransportError, Message, Transport, Session}
use Rattle.association_worlds.specs.association_wire.Written.{request_ends, confirm_ends, written_unit, written, tsdu_of}
use Rattle.association_worlds.specs.association_reading.Front.{Front, OfTransport, fronts_of, all_fronts}
use Rattle.osi_base.specs.Limits.{IsUnitSize}
use Rattle.osi_base.proofs.OctetLaws.{octets_join, octets_left}
use Rattle.osi_base.specs.Octets.{AreOctets}
use Rattle.association_worlds.specs.InTransit.{IsOfTransport, IsCarried, front_of, SentMessage, text_of, texts, fronts_of_sent, AreWritten}
use Rattle.association_worlds.proofs.Streams.{word-front, small-octets, texts-octets}
use Rattle.association_worlds.proofs.Kept.{fronts-append}
use Rattle.prefix_laws.specs.Laws.{HandsUpLast, BeginningsBringNothing}
use Rattle.prefix_laws.proofs.Cuts.{last-hands-up, unit-closes, begun-append, none-before, cut-at}

-- ---- one message

-- its text is units of which the last brings its front
record Closing (text : List ℕ) (front : Front) : Type 0 where
  packet : Packet
  closes : HandsUpLast [] text packet
  brings : fronts_of packet ≡ front ∷ []

closing-transport : (unit : TransportUnit) → IsOfTransport unit → Closing (written_unit unit) (OfTransport unit)
closing-transport (ConnectionRequest source size calling called) h =
    record { packet = Connect (request_ends source size calling called); closes = unit-closes _ _ (connect_is [] (request_ends source size calling called) (omega arith) h.0 h.1); brings = refl }
closing-transport (ConnectionConfirm destination size) h =
    record { packet = Confirm (confirm_ends destination size); closes = unit-closes _ _ (confirm_is [] (confirm_ends destination size) h.0 (omega arith) h.1); brings = refl }
closing-transport (DisconnectRequest destination) h =
    subst (λ (d : ℕ). Closing (written_unit (DisconnectRequest d)) (OfTransport (DisconnectRequest d))) (sym h)
    (record { packet = Disconnect; closes = unit-closes _ _ (disconnect_is [] 1 0 0 (omega arith) (omega arith)); brings = refl })
closing-transport TransportError h = absurd h

closing : (tables : Tables) (s : SentMessage) → IsCarried tables s.message → IsUnitSize s.size → Closing (text_of tables s) (front_of tables s.message)
closing tables s h z = by s.message h
  where
    by : (m : Message) → IsCarried tables m → Closing (written tables s.size m) (front_of tables m)
    by (Transport unit) h = closing-transport unit h
    by (Session word) h = record { packet = Tsdu (tsdu_of tables word); closes = last-hands-up s.size (tsdu_of tables word) z.least z.most h.within; brings = word-front tables word h }

-- ---- messages in a row

record Row (tables : Tables) (sents : List SentMessage) : Type 0 where
  us : List Tpdu
  splits : Splits [] (texts tables sents) us []
  whole : begun_by [] us ≡ []
  hands : all_fronts (handed [] us) ≡ fronts_of_sent tables sents

row : (tables : Tables) (sents : List SentMessage) → AreWritten tables sents → Row tables sents
row tables [] h = record { us = []; splits = refl; whole = refl; hands = refl }
row tables (s ∷ sents) h =
    let c = closing tables s h.0 h.1 in
    let r = row tables sents h.2 in
    let k = c.closes in
    let first : List Tpdu = k.before ++ k.last ∷ [] in
    let end : begun_by [] first ≡ [] = begun-append [] k.before (k.last ∷ []) ∙ k.whole in
    let up : handed [] first ≡ c.packet ∷ [] =
    handed_join [] k.before (k.last ∷ []) ∙ ap (λ (ps : List Packet). ps ++ (handed_for (begun_by [] k.before) k.last ++ [])) k.none ∙ append-nil (handed_for (begun_by [] k.before) k.last) ∙ k.up in
    record {
      us = first ++ r.us;
      splits = splits_join [] (text_of tables s) (texts tables sents) first r.us [] k.splits (subst (λ (b : List ℕ). Splits b (texts tables sents) r.us []) (sym end) r.splits);
      whole = begun-append [] first r.us ∙ ap (λ (b : List ℕ). begun_by b r.us) end ∙ r.whole;
      hands =
          ap all_fronts (handed_join [] first r.us)
          ∙ fronts-append (handed [] first) (handed (begun_by [] first) r.us)
          ∙ (λ i. all_fronts (up i) ++ all_fronts (handed (end i) r.us))
          ∙ (λ i. (c.brings i ++ []) ++ r.hands i);
    }

written-front : (tables : Tables) (xs ys : List SentMessage) → AreWritten tables (xs ++ ys) → AreWritten tables xs
written-front tables [] ys h = tt
written-front tables (x ∷ xs) ys h = (h.0, h.1, written-front tables xs ys h.2)

written-behind : (tables : Tables) (xs ys : List SentMessage) → AreWritten tables (xs ++ ys) → AreWritten tables ys
written-behind tables [] ys h = h
written-behind tables (x ∷ xs) ys h = written-behind tables xs ys h.2

-- ---- and a proper beginning of the next

pub nothing-brought : BeginningsBringNothing
nothing-brought tables before next front back written e some =
    let sent = written-front tables before (next ∷ []) written in
    let last = written-behind tables before (next ∷ []) written in
    let r = row tables before sent in
    let c = closing tables next last.0 last.1 in
    let came : AreOctets front = octets_left front back (subst AreOctets e (small-octets tables next last.0 last.1)) in
    let k = cut-at [] (text_of tables next) front back (c.closes.before ++ c.closes.last ∷ []) c.closes.splits e some came in
    let all : Splits [] (texts tables before ++ front) (r.us ++ k.before) k.rest =
    splits_join [] (texts tables before) front r.us k.before k.rest r.splits (subst (λ (b : List ℕ). Splits b front k.before k.rest) (sym r.whole) k.splits) in
    let begun : begun_by [] (r.us ++ k.before) ≡ begun_by [] k.before = begun-append [] r.us k.before ∙ ap (λ (b : List ℕ). begun_by b k.before) r.whole in
    let short = ap (λ (b : List ℕ). unit_at b k.rest) begun ∙ less_than_a_packet (begun_by [] k.before) k.next k.unit k.rest k.left k.octets k.is k.whole k.some in
    let read = split_read (texts tables before ++ front) (r.us ++ k.before) k.rest (octets_join (texts tables before) front (texts-octets tables before sent) came) all short in
    let none : handed [] k.before ≡ [] = none-before [] k.before c.closes.before k.after k.next c.closes.last c.closes.none k.are in (
      ap all_fronts (read.0 ∙ handed_join [] r.us k.before)
          ∙ fronts-append (handed [] r.us) (handed (begun_by [] r.us) k.before)
          ∙ (λ i. r.hands i ++ all_fronts (handed (r.whole i) k.before))
          ∙ ap (λ (ps : List Packet). fronts_of_sent tables before ++ all_fronts ps) none
          ∙ append-nil (fronts_of_sent tables before),
      read.1,
    )
