-- A recorded dialogue has one trace.
use Rattle.std.proofs.Common.{◌≡◌, ℕ, Bool, List, [], ◌∷◌, ◌++◌, length, drop, Option, Some, None, Result, Ok, Err, refl, sym, ap, subst, ◌∙◌}
use Rattle.std.specs.Prelude.{flat_map}
use Rattle.osi_base.specs.declared.syntax.Syntax.TheVariants.{Ber}
use Rattle.osi_base.specs.declared.layer_words.Side.{Side}
use Rattle.osi_base.specs.declared.presentation_word.Pdv.{Pdv}
use Rattle.osi_base.specs.declared.presentation_word.PdvContent.{PdvContent}
use Rattle.osi_base.specs.declared.presentation_word.PdvContent.TheVariants as contents
use Rattle.osi_base.specs.declared.presentation_word.PresentationWord as units
use Rattle.osi_base.specs.declared.session_word.SessionWord.{SessionWord}
use Rattle.spdu_codec.specs.declared.places.UserPlaces.{UserPlaces}
use Rattle.spdu_codec.specs.Reading.{UnitFault, units_at}
use Rattle.spdu_codec.specs.Places.{user_of, user_places}
use Rattle.presentation_pdus.specs.declared.place.PpduPlace.{PpduPlace}
use Rattle.presentation_pdus.specs.declared.place.PpduFault as faults
use Rattle.presentation_pdus.specs.declared.place.PpduFault.TheVariants as fault
use Rattle.presentation_pdus.specs.Units.{ppdu_at}
use Rattle.stub_tables.specs.declared.tables.Tables.{Tables}
use Rattle.apdu_spelling.specs.declared.head.ApduHead.{ApduHead}
use Rattle.apdu_spelling.specs.Heads.{Head}
use Rattle.apdu_spelling.specs.Spellings.{fields_in}
use Rattle.apdu_spelling.proofs.OneHead.{one_head}
use Rattle.tpkt.specs.declared.packet.Packet.{Packet}
use Rattle.tpkt.specs.declared.packet.Packet.TheVariants as packets
use Rattle.tpkt.specs.declared.packet.TFault.{TFault}
use Rattle.tpkt.specs.Reader.{reading, nothing}
use Rattle.trace_file.specs.declared.reading.Recorded.{Recorded}
use Rattle.trace_units.specs.trace_values.Values.{HeadOf, value_text, pdv_text, IsContentText, IsPdvText, ArePdvsText}
use Rattle.trace_units.specs.declared.said_text.Said.{Said}
use Rattle.trace_units.specs.declared.said_text.Said.TheVariants as said
use Rattle.trace_units.specs.Names.{ppdu_name, spdu_name}
use Rattle.trace_units.specs.Units.{carrier_of, values_of, place_in, IsUnitText, UnitSaid, CarriedSaid, WordSaid, closed, ClosedSaid, SecondSaid, two_names, TwoSaid, WordsSaid, ReadSaid}
use Rattle.trace_text.specs.Directions.{PacketSaid, Behind, AllSaid, Shows}
use Rattle.trace_text.specs.Trace.{Sent, sent_by, sent_more, line_from, ShowsWith, TraceBehind}
use Rattle.trace_text.specs.Laws.{OneTrace}

-- ---- values

same_head : (octets : List ℕ) (a b : Option ApduHead) → HeadOf octets a → HeadOf octets b → a ≡ b
same_head octets None None h k = refl
same_head octets None (Some b) h k = absurd (h k.head k.spells)
same_head octets (Some a) None h k = absurd (k h.head h.spells)
same_head octets (Some a) (Some b) h k =
    ap (λ (x : ApduHead). Some x) (h.are ∙ ap (λ (x : Head). fields_in Ber x) (one_head Ber h.head k.head octets h.spells k.spells) ∙ sym k.are)

same_content : (tables : Tables) (content : PdvContent) (x y : List ℕ) → IsContentText tables content x → IsContentText tables content y → x ≡ y
same_content tables (contents.SingleAsn1Type octets) x y h k =
    h.2 ∙ ap (λ (a : Option ApduHead). value_text tables octets a) (same_head octets h.0 k.0 h.1 k.1) ∙ sym k.2
same_content tables (contents.OctetAligned octets) x y h k = h ∙ sym k
same_content tables (contents.Arbitrary bits) x y h k = h ∙ sym k

same_pdv : (tables : Tables) (pdv : Pdv) (x y : List ℕ) → IsPdvText tables pdv x → IsPdvText tables pdv y → x ≡ y
same_pdv tables pdv x y h k = h.2 ∙ ap (λ (v : List ℕ). pdv_text pdv.id v) (same_content tables pdv.content h.0 k.0 h.1 k.1) ∙ sym k.2

join_same : (a b c d : List ℕ) → a ≡ c → b ≡ d → a ++ b ≡ c ++ d
join_same a b c d e f = ap (λ (l : List ℕ). l ++ b) e ∙ ap (λ (l : List ℕ). c ++ l) f

same_pdvs : (tables : Tables) (pdvs : List Pdv) (x y : List ℕ) → ArePdvsText tables pdvs x → ArePdvsText tables pdvs y → x ≡ y
same_pdvs tables [] x y h k = h ∙ sym k
same_pdvs tables (pdv ∷ pdvs) x y h k = h.4 ∙ join_same h.0 h.1 k.0 k.1 (same_pdv tables pdv h.0 k.0 h.2 k.2) (same_pdvs tables pdvs h.1 k.1 h.3 k.3) ∙ sym k.4

-- ---- units

abbrev Text : Type 0
Text = Result (List ℕ) (List ℕ)

abbrev Read : Type 0
Read = Result units.PresentationWord faults.PpduFault

same_unit : (tables : Tables) (word : units.PresentationWord) (x y : List ℕ) → IsUnitText tables word x → IsUnitText tables word y → x ≡ y
same_unit tables word x y h k = h.2 ∙ ap (λ (l : List ℕ). ppdu_name word ++ l) (same_pdvs tables (values_of word) h.0 k.0 h.1 k.1) ∙ sym k.2

same_read : (tables : Tables) (place : ℕ) (read : Read) (x y : Text) → UnitSaid tables place read x → UnitSaid tables place read y → x ≡ y
same_read tables place (Ok word) (Ok x) (Ok y) h k = ap (λ (l : List ℕ). Ok l) (same_unit tables word x y h k)
same_read tables place (Ok word) (Ok x) (Err y) h k = absurd k
same_read tables place (Ok word) (Err x) y h k = absurd h
same_read tables place (Err (fault.At at kind reason)) (Err x) (Err y) h k = ap (λ (l : List ℕ). Err l) (h ∙ sym k)
same_read tables place (Err (fault.At at kind reason)) (Err x) (Ok y) h k = absurd k
same_read tables place (Err (fault.At at kind reason)) (Ok x) y h k = absurd h
same_read tables place (Err fault.NoMemory) x y h k = absurd h

same_carried : (tables : Tables) (carrier : Option PpduPlace) (user : Option (List ℕ)) (place : Option ℕ) (x y : Text) → CarriedSaid tables carrier user place x → CarriedSaid tables carrier user place y → x ≡ y
same_carried tables None None place x y h k = h ∙ sym k
same_carried tables (Some carrier) None place x y h k = h ∙ sym k
same_carried tables None (Some octets) place x y h k = h ∙ sym k
same_carried tables (Some carrier) (Some octets) place x y h k = same_read tables (place_in place) (ppdu_at carrier octets) x y h k

same_word : (tables : Tables) (word : SessionWord) (place : Option ℕ) (x y : Text) → WordSaid tables word place x → WordSaid tables word place y → x ≡ y
same_word tables word place x y h k = same_carried tables (carrier_of word) (user_of word) place x y h k

same_closed : (tables : Tables) (names : List ℕ) (word : SessionWord) (place : Option ℕ) (x y : Said) → ClosedSaid tables names word place x → ClosedSaid tables names word place y → x ≡ y
same_closed tables names word place x y h k = h.2 ∙ ap (λ (t : Text). closed names t) (same_word tables word place h.0 k.0 h.1 k.1) ∙ sym k.2

same_second : (tables : Tables) (names : List ℕ) (word : SessionWord) (place : Option ℕ) (text : Text) (x y : Said) → SecondSaid tables names word place text x → SecondSaid tables names word place text y → x ≡ y
same_second tables names word place (Ok text) x y h k = same_closed tables (names ++ text) word place x y h k
same_second tables names word place (Err text) x y h k = h ∙ sym k

same_two : (tables : Tables) (first second : SessionWord) (places : UserPlaces) (x y : Said) → TwoSaid tables first second places x → TwoSaid tables first second places y → x ≡ y
same_two tables first second places x y h k =
    let P : Text → Type 0 = λ t. SecondSaid tables (two_names first second) second places.second t x in
    same_second tables (two_names first second) second places.second k.0 x y (subst P (same_word tables first places.first h.0 k.0 h.1 k.1) h.2) k.2

same_words : (tables : Tables) (words : List SessionWord) (places : UserPlaces) (x y : Said) → WordsSaid tables words places x → WordsSaid tables words places y → x ≡ y
same_words tables [] places x y h k = absurd h
same_words tables (word ∷ []) places x y h k = same_closed tables (spdu_name word) word places.first x y h k
same_words tables (first ∷ second ∷ []) places x y h k = same_two tables first second places x y h k
same_words tables (first ∷ second ∷ third ∷ more) places x y h k = absurd h

same_units : (tables : Tables) (places : UserPlaces) (read : Result (List SessionWord) UnitFault) (x y : Said) → ReadSaid tables places read x → ReadSaid tables places read y → x ≡ y
same_units tables places (Ok words) x y h k = same_words tables words places x y h k
same_units tables places (Err f) x y h k = h ∙ sym k

-- ---- packets

same_packet : (tables : Tables) (packet : Packet) (x y : Said) → PacketSaid tables packet x → PacketSaid tables packet y → x ≡ y
same_packet tables (packets.Connect ends) x y h k = h ∙ sym k
same_packet tables (packets.Confirm ends) x y h k = h ∙ sym k
same_packet tables packets.Disconnect x y h k = h ∙ sym k
same_packet tables packets.Problem x y h k = h ∙ sym k
same_packet tables (packets.Tsdu tsdu) x y h k = same_units tables (user_places tsdu) (units_at tsdu) x y h k

abbrev Texts : Type 0
Texts = List (List ℕ)

same_behind : (first : Said) (P Q : Texts → Type 0) (over ended : Bool) (x y : Texts) → ((a b : Texts) → P a → Q b → a ≡ b) → Behind first P over x → Behind first Q ended y → x ≡ y
same_behind (said.Line text) P Q over ended x y step h k = h.2 ∙ ap (λ (l : Texts). text ∷ l) (step h.0 k.0 h.1 k.1) ∙ sym k.2
same_behind (said.Fault text) P Q over ended x y step h k = h.1 ∙ sym k.1

same_all : (tables : Tables) (packets : List Packet) (stop : Option TFault) (over ended : Bool) (x y : Texts) → AllSaid tables packets stop over x → AllSaid tables packets stop ended y → x ≡ y
same_all tables [] None over ended x y h k = h.1 ∙ sym k.1
same_all tables [] (Some f) over ended x y h k = h.1 ∙ sym k.1
same_all tables (packet ∷ more) stop over ended x y h k =
    let P : Said → Type 0 = λ s. Behind s (AllSaid tables more stop over) over x in
    same_behind k.0 (AllSaid tables more stop over) (AllSaid tables more stop ended) over ended x y (λ a b p q. same_all tables more stop over ended a b p q)
    (subst P (same_packet tables packet h.0 k.0 h.1 k.1) h.2) k.2

same_shown : (tables : Tables) (sent : List ℕ) (x y : Texts) → Shows tables sent x → Shows tables sent y → x ≡ y
same_shown tables sent x y h k = same_all tables (reading nothing sent).packets (reading nothing sent).held.fault h.0 k.0 x y h.1 k.1

same_with : (tables : Tables) (from : Side) (sent octets : List ℕ) (x y : List ℕ) → ShowsWith tables from sent octets x → ShowsWith tables from sent octets y → x ≡ y
same_with tables from sent octets x y h k =
    h.4
    ∙ ap (λ (l : Texts). flat_map (line_from from) (drop (length l) h.1)) (same_shown tables sent h.0 k.0 h.2 k.2)
    ∙ ap (λ (l : Texts). flat_map (line_from from) (drop (length k.0) l)) (same_shown tables (sent ++ octets) h.1 k.1 h.3 k.3)
    ∙ sym k.4

same_trace : (tables : Tables) (sent : Sent) (told : List Recorded) (x y : List ℕ) → TraceBehind tables sent told x → TraceBehind tables sent told y → x ≡ y
same_trace tables sent [] x y h k = h ∙ sym k
same_trace tables sent (one ∷ told) x y h k =
    h.4
    ∙ join_same h.0 h.1 k.0 k.1 (same_with tables one.from (sent_by one.from sent) one.octets h.0 k.0 h.2 k.2)
    (same_trace tables (sent_more one.from one.octets sent) told h.1 k.1 h.3 k.3)
    ∙ sym k.4

pub one_trace : OneTrace
one_trace tables told x y h k = same_trace tables (record { a = []; b = [] }) told x y h k
