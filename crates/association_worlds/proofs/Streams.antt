-- What a reader makes of the octets of messages: the front of each, and no fault.
use Rattle.std.proofs.Common.{◌≡◌, refl, sym, ap, subst, ◌∙◌, ℕ, true, false, List, [], ◌∷◌, ◌++◌, arith, None, Ok}
use Rattle.std.specs.Prelude.{Bool, if◌then◌else◌}
use Rattle.osi_base.specs.declared.session_word.SessionWord.{SessionWord}
use Rattle.osi_base.specs.declared.session_word.SessionWord.TheVariants as units
use Rattle.stub_tables.specs.declared.tables.Tables.{Tables}
use Rattle.spdu_codec.specs.declared.places.UserPlaces.{UserPlaces}
use Rattle.spdu_codec.specs.Places.{user_places}
use Rattle.spdu_codec.specs.Written.{stands_alone}
use Rattle.spdu_codec.proofs.WireLaws.{all_again}
use Rattle.spdu_codec.proofs.RoundLaws.{written_are}
use Rattle.tpkt.specs.declared.packet.Packet.{Packet}
use Rattle.tpkt.specs.declared.packet.Packet.TheVariants.{Connect, Confirm, Disconnect, Tsdu}
use Rattle.tpkt.specs.Reader.{reading, nothing}
use Rattle.tpkt.specs.Wire.{packet, Tpdu, Whole, IsUnit, Splits, begun_by, handed}
use Rattle.tpkt.proofs.UnitLaws.{short_yet}
use Rattle.tpkt.proofs.ReaderLaws.{short_empty}
use Rattle.tpkt.proofs.StreamLaws.{split_read}
use Rattle.tpkt.proofs.WrittenLaws.{connect_is, confirm_is, disconnect_is, tsdu_split, written_octets}
use Rattle.association_reading.specs.end_rules.Messages.{TransportUnit, ConnectionRequest, ConnectionConfirm, DisconnectRequest, TransportError, Word, unit_of, Message, Transport, Session}
use Rattle.association_reading.specs.association_wire.Units.{user_octets}
use Rattle.association_reading.specs.association_wire.Written.{with_user, in_its_place, session_units, tsdu_of, request_ends, confirm_ends, written_unit, written}
use Rattle.association_reading.specs.Front.{Front, OfSession, OfTransport, fronts_of, fronts_of_units, all_fronts}
use Rattle.association_reading.specs.Laws.{IsSendable}
use Rattle.osi_base.specs.Limits.{IsUnitSize}
use Rattle.osi_base.proofs.OctetLaws.{octets_join, no_octets, octets_more}
use Rattle.osi_base.specs.Octets.{AreOctets}
use Rattle.association_worlds.specs.InTransit.{IsOfTransport, IsCarried, start_in, session_front, front_of, SentMessage, text_of, texts, fronts_of_sent, AreWritten}

-- what a message adds in front of other units
record Adds (tables : Tables) (text : List ℕ) (front : Front) (more : List ℕ) (us : List Tpdu) : Type 0 where
  parts : List Tpdu
  splits : Splits [] (text ++ more) parts []
  hands : all_fronts (handed [] parts) ≡ front ∷ all_fronts (handed [] us)

one-front : (at : UserPlaces) (unit : SessionWord) → fronts_of_units at (Ok (in_its_place unit)) ≡ session_front at unit ∷ []
one-front at unit = by (stands_alone unit)
  where
    by : (b : Bool) → fronts_of_units at (Ok (if b then unit ∷ [] else units.GiveTokens None ∷ unit ∷ [])) ≡ OfSession unit (start_in b at) ∷ []
    by true = refl
    by false = refl

pub word-front : (tables : Tables) (word : Word) → IsSendable tables word → fronts_of (Tsdu (tsdu_of tables word)) ≡ front_of tables (Session word) ∷ []
word-front tables word h =
    ap (fronts_of_units (user_places (tsdu_of tables word))) (all_again (tsdu_of tables word) (session_units tables word) (written_are (session_units tables word) h.units))
    ∙ one-front (user_places (tsdu_of tables word)) (with_user (user_octets tables word) (unit_of word))

adds-word : (tables : Tables) (size : ℕ) (word : Word) (more : List ℕ) (us : List Tpdu) → IsSendable tables word → IsUnitSize size → Splits [] more us [] → Adds tables (written tables size (Session word)) (front_of tables (Session word)) more us
adds-word tables size word more us h s sp =
    let t = tsdu_split size (tsdu_of tables word) more us [] s.least s.most h.within sp in
    record { parts = t.0 ++ us; splits = t.1; hands = ap all_fronts t.2 ∙ ap (λ (fs : List Front). fs ++ all_fronts (handed [] us)) (word-front tables word h) }

adds-unit : (tables : Tables) (p : Packet) (unit : List ℕ) (front : Front) (more : List ℕ) (us : List Tpdu) → IsUnit [] (Whole p) unit → fronts_of p ≡ front ∷ [] → Splits [] more us [] → Adds tables (packet unit) front more us
adds-unit tables p unit front more us is brings sp =
    record { parts = Whole p ∷ us; splits = (unit, more, is, refl, sp); hands = ap (λ (fs : List Front). fs ++ all_fronts (handed [] us)) brings }

adds-transport : (tables : Tables) (unit : TransportUnit) (more : List ℕ) (us : List Tpdu) → IsOfTransport unit → Splits [] more us [] → Adds tables (written_unit unit) (OfTransport unit) more us
adds-transport tables (ConnectionRequest source size calling called) more us h sp =
    adds-unit tables (Connect (request_ends source size calling called)) _ _ more us (connect_is [] (request_ends source size calling called) (omega arith) h.0 h.1) refl sp
adds-transport tables (ConnectionConfirm destination size) more us h sp =
    adds-unit tables (Confirm (confirm_ends destination size)) _ _ more us (confirm_is [] (confirm_ends destination size) h.0 (omega arith) h.1) refl sp
adds-transport tables (DisconnectRequest destination) more us h sp =
    subst (λ (d : ℕ). Adds tables (written_unit (DisconnectRequest d)) (OfTransport (DisconnectRequest d)) more us) (sym h)
    (adds-unit tables Disconnect _ _ more us (disconnect_is [] 1 0 0 (omega arith) (omega arith)) refl sp)
adds-transport tables TransportError more us h sp = absurd h

adds : (tables : Tables) (s : SentMessage) (more : List ℕ) (us : List Tpdu) → IsCarried tables s.message → IsUnitSize s.size → Splits [] more us [] → Adds tables (text_of tables s) (front_of tables s.message) more us
adds tables s more us h z sp = by s.message h
  where
    by : (m : Message) → IsCarried tables m → Adds tables (written tables s.size m) (front_of tables m) more us
    by (Transport unit) h = adds-transport tables unit more us h sp
    by (Session word) h = adds-word tables s.size word more us h z sp

-- ---- octets

pub small-octets : (tables : Tables) (s : SentMessage) → IsCarried tables s.message → IsUnitSize s.size → AreOctets (text_of tables s)
small-octets tables s h z = by s.message h
  where
    dr : (destination : ℕ) → destination ≡ 1 → AreOctets (written_unit (DisconnectRequest destination))
    dr destination e = subst (λ (d : ℕ). AreOctets (written_unit (DisconnectRequest d))) (sym e) eleven
      where
        eleven : AreOctets (written_unit (DisconnectRequest 1))
        eleven =
            octets_more 3 (0 ∷ 0 ∷ 11 ∷ 6 ∷ 128 ∷ 0 ∷ 1 ∷ 0 ∷ 0 ∷ 0 ∷ []) (omega arith) (octets_more 0 (0 ∷ 11 ∷ 6 ∷ 128 ∷ 0 ∷ 1 ∷ 0 ∷ 0 ∷ 0 ∷ []) (omega arith) (octets_more 0 (11 ∷ 6 ∷ 128 ∷ 0 ∷ 1 ∷ 0 ∷ 0 ∷ 0 ∷ []) (omega arith) (octets_more 11 (6 ∷ 128 ∷ 0 ∷ 1 ∷ 0 ∷ 0 ∷ 0 ∷ []) (omega arith) (octets_more 6 (128 ∷ 0 ∷ 1 ∷ 0 ∷ 0 ∷ 0 ∷ []) (omega arith) (octets_more 128 (0 ∷ 1 ∷ 0 ∷ 0 ∷ 0 ∷ []) (omega arith) (octets_more 0 (1 ∷ 0 ∷ 0 ∷ 0 ∷ []) (omega arith) (octets_more 1 (0 ∷ 0 ∷ 0 ∷ []) (omega arith) (octets_more 0 (0 ∷ 0 ∷ []) (omega arith) (octets_more 0 (0 ∷ []) (omega arith) (octets_more 0 [] (omega arith) no_octets))))))))))

    of-unit : (unit : TransportUnit) → IsOfTransport unit → AreOctets (written_unit unit)
    of-unit (ConnectionRequest source size calling called) h = h.2
    of-unit (ConnectionConfirm destination size) h = h.2
    of-unit (DisconnectRequest destination) h = dr destination h
    of-unit TransportError h = absurd h

    by : (m : Message) → IsCarried tables m → AreOctets (written tables s.size m)
    by (Transport unit) h = of-unit unit h
    by (Session word) h = written_octets s.size (tsdu_of tables word) z.least z.most h.octets

pub texts-octets : (tables : Tables) (sents : List SentMessage) → AreWritten tables sents → AreOctets (texts tables sents)
texts-octets tables [] h = no_octets
texts-octets tables (s ∷ sents) h = octets_join (text_of tables s) (texts tables sents) (small-octets tables s h.0 h.1) (texts-octets tables sents h.2)

-- ---- all of them

record AllAdds (tables : Tables) (sents : List SentMessage) : Type 0 where
  parts : List Tpdu
  splits : Splits [] (texts tables sents) parts []
  hands : all_fronts (handed [] parts) ≡ fronts_of_sent tables sents

all-adds : (tables : Tables) (sents : List SentMessage) → AreWritten tables sents → AllAdds tables sents
all-adds tables [] h = record { parts = []; splits = refl; hands = refl }
all-adds tables (s ∷ sents) h =
    let r = all-adds tables sents h.2 in
    let o = adds tables s (texts tables sents) r.parts h.0 h.1 r.splits in
    record { parts = o.parts; splits = o.splits; hands = o.hands ∙ ap (λ (fs : List Front). front_of tables s.message ∷ fs) r.hands }

pub record ReadsAllSent (tables : Tables) (sents : List SentMessage) : Type 0 where
  pub fronts : all_fronts (reading nothing (texts tables sents)).packets ≡ fronts_of_sent tables sents
  pub faultless : (reading nothing (texts tables sents)).held.fault ≡ None

pub reads-all : (tables : Tables) (sents : List SentMessage) → AreWritten tables sents → ReadsAllSent tables sents
reads-all tables sents h =
    let a = all-adds tables sents h in
    let r = split_read (texts tables sents) a.parts [] (texts-octets tables sents h) a.splits (short_yet (begun_by [] a.parts) [] (short_empty _)) in
    record { fronts = ap all_fronts r.0 ∙ a.hands; faultless = r.1 }
