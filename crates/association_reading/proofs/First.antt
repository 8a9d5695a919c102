-- What is written of a word stands first.
use Rattle.std.proofs.Common.{sym, arith, ◌≡◌, refl, ap, subst, ◌∙◌, ℕ, ◌≤◌, true, false, List, [], ◌∷◌, ◌++◌, length, None, Ok}
use Rattle.association_reading.specs.Front.{fronts_of, first_in, with_octets, nothing_came, Front, OfSession, start_of, first_front, all_fronts, fronts_of_units}
use Rattle.tpkt.specs.declared.packet.Packet.TheVariants.{Connect, Confirm, Disconnect, Tsdu}
use Rattle.tpkt.specs.Wire.{packet, Whole, IsUnit, Splits, begun_by}
use Rattle.tpkt.proofs.WrittenLaws.{connect_is, confirm_is, disconnect_is, tsdu_split, written_octets}
use Rattle.association_wire.specs.Written.{request_ends, confirm_ends, with_user, in_its_place, session_units, tsdu_of}
use Rattle.association_reading.specs.Laws.{TransportUnitsStandFirst, WrittenStandsFirst}
use Rattle.std.specs.Prelude.{Bool, if◌then◌else◌, Result}
use Rattle.std.proofs.lemmas.List.{append-nil}
use Rattle.osi_base.specs.declared.session_word.SessionWord.{SessionWord}
use Rattle.osi_base.specs.declared.session_word.SessionWord.TheVariants as units
use Rattle.osi_base.specs.Limits.{tsdu_limit}
use Rattle.osi_base.specs.Octets.{AreOctets}
use Rattle.tpkt.specs.declared.packet.Packet.{Packet}
use Rattle.tpkt.specs.declared.reader_state.ReaderState.{ReaderState}
use Rattle.tpkt.specs.Reader.{ReaderProgress, nothing, reading}
use Rattle.tpkt.specs.Written.{written_tsdu}
use Rattle.tpkt.proofs.UnitLaws.{short_yet}
use Rattle.tpkt.proofs.ReaderLaws.{short_empty}
use Rattle.tpkt.proofs.StreamLaws.{any_cut, split_read}
use Rattle.spdu_codec.specs.declared.places.UserPlaces.{UserPlaces}
use Rattle.spdu_codec.specs.Written.{stands_alone}
use Rattle.spdu_codec.specs.Reading.{UnitFault, units_at}
use Rattle.spdu_codec.specs.Places.{user_places}
use Rattle.spdu_codec.proofs.WireLaws.{all_again}
use Rattle.spdu_codec.proofs.RoundLaws.{written_are}
use Rattle.association_wire.specs.end_rules.Messages.{unit_of}
use Rattle.association_wire.specs.Units.{user_octets}

-- a TSDU that was written is handed up whole
handed_up : (size : ℕ) (tsdu : List ℕ) → 128 ≤ size → size ≤ 65531 → length tsdu ≤ tsdu_limit → AreOctets tsdu → (reading nothing (written_tsdu size tsdu)).packets ≡ Tsdu tsdu ∷ []
handed_up size tsdu least most within fits =
    let s = tsdu_split size tsdu [] [] [] least most within refl in
    let whole : Splits [] (written_tsdu size tsdu) (s.0 ++ []) [] = subst (λ (t : List ℕ). Splits [] t (s.0 ++ []) []) (append-nil (written_tsdu size tsdu)) s.1 in
    let r = split_read (written_tsdu size tsdu) (s.0 ++ []) [] (written_octets size tsdu least most fits) whole (short_yet (begun_by [] (s.0 ++ [])) [] (short_empty _)) in
    r.0 ∙ s.2

-- the fronts of what was read with these packets
abbrev front_read : ReaderState → List Packet → Front
front_read held packets = first_front held (all_fronts packets)

-- a unit that can't stand alone stands behind an empty GT, which says nothing
placed_first : (at : UserPlaces) (unit : SessionWord) (held : ReaderState) (more : List Front) → (start : ℕ) × (first_front held (fronts_of_units at (Ok (in_its_place unit)) ++ more) ≡ OfSession unit start)
placed_first at unit held more = by (stands_alone unit)
  where
    by : (b : Bool) → (start : ℕ) × (first_front held (fronts_of_units at (Ok (if b then unit ∷ [] else units.GiveTokens None ∷ unit ∷ [])) ++ more) ≡ OfSession unit start)
    by true = (start_of at.first, refl)
    by false = (start_of at.second, refl)

pub stands_first : WrittenStandsFirst
stands_first tables size word more least most sendable =
    let tsdu : List ℕ = tsdu_of tables word in
    let unit : SessionWord = with_user (user_octets tables word) (unit_of word) in
    let octets : List ℕ = written_tsdu size tsdu in
    let a : ReaderProgress = reading nothing octets in
    let b : ReaderProgress = reading a.held more in
    let one : a.packets ≡ Tsdu tsdu ∷ [] = handed_up size tsdu least most sendable.within sendable.octets in
    let read : units_at tsdu ≡ Ok (session_units tables word) = all_again tsdu (session_units tables word) (written_are (session_units tables word) sendable.units) in
    let p = placed_first (user_places tsdu) unit b.held (all_fronts b.packets) in (
      p.0,
      ap (λ (f : ReaderProgress). front_read f.held f.packets) (any_cut nothing octets more)
          ∙ ap (λ (ps : List Packet). front_read b.held (ps ++ b.packets)) one
          ∙ ap (λ (r : Result (List SessionWord) UnitFault). first_front b.held (fronts_of_units (user_places tsdu) r ++ all_fronts b.packets)) read
          ∙ p.1,
    )

-- ---- transport units

one_is_read : (p : Packet) (unit : List ℕ) → IsUnit [] (Whole p) unit → AreOctets (packet unit) → (reading nothing (packet unit)).packets ≡ p ∷ []
one_is_read p unit is fits = (split_read (packet unit) (Whole p ∷ []) [] fits (unit, [], is, sym (append-nil (packet unit)), refl) (short_yet [] [] (short_empty 0))).0

whole_first : (p : Packet) (unit : List ℕ) (front : Front) (more : List ℕ) → IsUnit [] (Whole p) unit → AreOctets (packet unit) → fronts_of p ≡ front ∷ [] → first_in (with_octets (packet unit ++ more) nothing_came) ≡ front
whole_first p unit front more is fits brings =
    let a : ReaderProgress = reading nothing (packet unit) in
    let b : ReaderProgress = reading a.held more in
    ap (λ (f : ReaderProgress). front_read f.held f.packets) (any_cut nothing (packet unit) more)
    ∙ ap (λ (ps : List Packet). front_read b.held (ps ++ b.packets)) (one_is_read p unit is fits)
    ∙ ap (λ (fs : List Front). first_front b.held (fs ++ all_fronts b.packets)) brings

pub units_first : TransportUnitsStandFirst
units_first = record {
  request = λ source size calling called two room more fits. whole_first (Connect (request_ends source size calling called)) _ _ more (connect_is [] (request_ends source size calling called) (omega arith) two room) fits refl;
  confirm = λ destination size two room more fits. whole_first (Confirm (confirm_ends destination size)) _ _ more (confirm_is [] (confirm_ends destination size) two (omega arith) room) fits refl;
  refuse = λ more fits. whole_first Disconnect _ _ more (disconnect_is [] 1 0 0 (omega arith) (omega arith)) fits refl;
}
