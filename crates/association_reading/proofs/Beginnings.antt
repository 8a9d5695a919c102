-- A proper beginning of what is written is less than a message: of a TSDU, or of another unit, it hands up nothing, and is
-- right so far.
use Rattle.std.proofs.Common.{◌≡◌, refl, sym, ap, subst, ◌∙◌, ℕ, zero, suc, ◌+◌, ◌-◌, ◌<◌, ◌≤◌, true, false, List, [], ◌∷◌, ◌++◌, length, take, drop, None, arith, inl, inr, length-append}
use Rattle.std.specs.Prelude.{slice_index, Bool}
use Rattle.std.specs.List.{flat_map}
use Rattle.std.proofs.lemmas.Bool.{cases_lt}
use Rattle.std.proofs.lemmas.List.{append-nil, length-take, length-drop}
use Rattle.osi_base.specs.Limits.{tsdu_limit}
use Rattle.osi_base.proofs.OctetLaws.{octets_right, octets_left}
use Rattle.osi_base.specs.Octets.{AreOctets}
use Rattle.tpkt.specs.declared.packet.Packet.{Packet}
use Rattle.tpkt.specs.Wire.{two, header, mark, packet, Tpdu, Whole, Part, IsUnit, Splits, begun_by, handed}
use Rattle.tpkt.specs.Reader.{nothing, reading}
use Rattle.tpkt.specs.Written.{parts_of, part_packet, written_tsdu}
use Rattle.tpkt.proofs.StreamLaws.{less_than_a_packet, split_read}
use Rattle.tpkt.proofs.WrittenLaws.{parts_step, parts_last, connect_is, confirm_is, disconnect_is, written_octets}
use Rattle.tpkt.specs.declared.packet.Packet.TheVariants.{Connect, Confirm, Disconnect}
use Rattle.association_wire.specs.Written.{request_ends, confirm_ends, tsdu_of}
use Rattle.association_reading.specs.Front.{Short, first_in, with_octets, nothing_came, first_front, front_held, all_fronts}
use Rattle.association_reading.specs.Laws.{BeginningsOf, BeginningsAreShort}

-- one list in two ways
pub record Cut (a b c d : List ℕ) : Type 0 where
  pub more : List ℕ
  pub front : a ≡ c ++ more
  pub back : d ≡ more ++ b

pub cut : (a b c d : List ℕ) → a ++ b ≡ c ++ d → length c ≤ length a → Cut a b c d
cut a b [] d e l = record { more = a; front = refl; back = sym e }
cut [] b (y ∷ c) d e l = absurd (omega arith)
cut (x ∷ a) b (y ∷ c) d e l =
    let head : x ≡ y = cc in
    let tail : a ++ b ≡ c ++ d = cc in
    let k = cut a b c d tail (omega arith) in
    record { more = k.more; front = (λ i. head i ∷ k.front i); back = k.back }

-- whole units that hand up nothing, and a proper beginning of a unit
pub record Begun (begun front : List ℕ) : Type 0 where
  pub us : List Tpdu
  pub rest : List ℕ
  pub splits : Splits begun front us rest
  pub none : handed begun us ≡ []
  pub next : Tpdu
  pub unit : List ℕ
  pub left : List ℕ
  pub is : IsUnit (begun_by begun us) next unit
  pub whole : packet unit ≡ rest ++ left
  pub some : 0 < length left
  pub are : AreOctets rest

pub one_part : (begun xs : List ℕ) (last : Bool) → length xs ≤ 65528 → length begun + length xs ≤ tsdu_limit → IsUnit begun (Part last xs) (header (240 ∷ mark last ∷ []) ++ xs)
one_part begun xs last few within = record { spells = refl; at_least = omega arith; at_most = omega arith; within = within }

first_begins : (begun front left : List ℕ) (next : Tpdu) (unit : List ℕ) → IsUnit begun next unit → packet unit ≡ front ++ left → 0 < length left → AreOctets front → Begun begun front
first_begins begun front left next unit is whole some are =
    record { us = []; rest = front; splits = refl; none = refl; next = next; unit = unit; left = left; is = is; whole = whole; some = some; are = are }

last_begins : (most : ℕ) (xs begun front back : List ℕ) → most ≤ 65528 → length xs ≤ most → length begun + length xs ≤ tsdu_limit → AreOctets front
    → flat_map part_packet (parts_of most xs) ≡ front ++ back → 0 < length back → Begun begun front
last_begins most xs begun front back small few within are e some =
    let whole : part_packet (true, xs) ≡ front ++ back = sym (append-nil (part_packet (true, xs))) ∙ ap (flat_map part_packet) (sym (parts_last most xs few)) ∙ e in
    first_begins begun front back (Part true xs) (header (240 ∷ 128 ∷ []) ++ xs) (one_part begun xs true (omega arith) within) whole some are

begins : (fuel most : ℕ) (xs begun front back : List ℕ) → most ≤ 65528 → 0 < most → length xs ≤ fuel → length begun + length xs ≤ tsdu_limit → AreOctets front
    → flat_map part_packet (parts_of most xs) ≡ front ++ back → 0 < length back → Begun begun front
begins zero most xs begun front back small some few within are e more = last_begins most xs begun front back small (omega arith) within are e more
begins (suc fuel) most xs begun front back small some few within are e more =
    elim (cases_lt most (length xs)) [
      | inr le ↦ last_begins most xs begun front back small le within are e more
      | inl long ↦ (
          let left = length-drop most xs in
          let taken = length-take most xs in
          let is : IsUnit begun (Part false (take most xs)) (header (240 ∷ 0 ∷ []) ++ take most xs) = one_part begun (take most xs) false (omega (arith, taken)) (omega (arith, taken)) in
          let both : packet (header (240 ∷ 0 ∷ []) ++ take most xs) ++ flat_map part_packet (parts_of most (drop most xs)) ≡ front ++ back = ap (flat_map part_packet) (sym (parts_step most xs some long)) ∙ e in
          elim (cases_lt (length front) (length (packet (header (240 ∷ 0 ∷ []) ++ take most xs)))) [
            | inl less ↦ (
                let c = cut (packet (header (240 ∷ 0 ∷ []) ++ take most xs)) (flat_map part_packet (parts_of most (drop most xs))) front back both (omega arith) in
                let lengths = ap length c.front ∙ length-append front c.more in
                first_begins begun front c.more (Part false (take most xs)) (header (240 ∷ 0 ∷ []) ++ take most xs) is c.front (omega (arith, lengths)) are)
            | inr longer ↦ (
                let c = cut front back (packet (header (240 ∷ 0 ∷ []) ++ take most xs)) (flat_map part_packet (parts_of most (drop most xs))) (sym both) longer in
                let next = begins fuel most (drop most xs) (begun ++ take most xs) c.more back small some (omega (arith, left)) (omega (arith, left, taken, length-append begun (take most xs)))
                (octets_right (packet (header (240 ∷ 0 ∷ []) ++ take most xs)) c.more (subst AreOctets c.front are)) c.back more in
                record {
                  us = Part false (take most xs) ∷ next.us;
                  rest = next.rest;
                  splits = (header (240 ∷ 0 ∷ []) ++ take most xs, c.more, is, c.front, next.splits);
                  none = next.none;
                  next = next.next;
                  unit = next.unit;
                  left = next.left;
                  is = next.is;
                  whole = next.whole;
                  some = next.some;
                  are = next.are;
                })
          ])
    ]

-- what a new reader makes of such a beginning
pub record Nothing (front : List ℕ) : Type 0 where
  pub packets : (reading nothing front).packets ≡ []
  pub fault : (reading nothing front).held.fault ≡ None

of_begun : (front : List ℕ) → AreOctets front → Begun [] front → Nothing front
of_begun front are b =
    let r = split_read front b.us b.rest are b.splits (less_than_a_packet (begun_by [] b.us) b.next b.unit b.rest b.left b.are b.is b.whole b.some) in
    record { packets = r.0 ∙ b.none; fault = r.1 }

pub tsdu_begins : (size : ℕ) (tsdu front back : List ℕ) → 128 ≤ size → size ≤ 65531 → length tsdu ≤ tsdu_limit → AreOctets front → written_tsdu size tsdu ≡ front ++ back → 0 < length back → Nothing front
tsdu_begins size tsdu front back least most within are e some =
    of_begun front are (begins (length tsdu) (size - 3) tsdu [] front back (omega arith) (omega arith) (omega arith) (omega arith) are e some)

pub unit_begins : (p : Packet) (unit front back : List ℕ) → IsUnit [] (Whole p) unit → AreOctets front → packet unit ≡ front ++ back → 0 < length back → Nothing front
unit_begins p unit front back is are e some =
    of_begun front are (first_begins [] front back (Whole p) unit is e some are)

-- ---- messages

short_so : (front : List ℕ) → Nothing front → first_in (with_octets front nothing_came) ≡ Short
short_so front n =
    ap (λ (ps : List Packet). first_front (reading nothing front).held (all_fronts ps)) n.packets ∙ ap front_held n.fault

unit_short : (p : Packet) (unit : List ℕ) → IsUnit [] (Whole p) unit → AreOctets (packet unit) → BeginningsOf (packet unit)
unit_short p unit is fits front back e some = short_so front (unit_begins p unit front back is (octets_left front back (subst AreOctets e fits)) e some)

few-octets : AreOctets (packet (header (128 ∷ two 1 ++ two 0 ++ 0 ∷ [])))
few-octets = record { each = at }
  where
    at : (i : ℕ) → slice_index (packet (header (128 ∷ two 1 ++ two 0 ++ 0 ∷ []))) i < 256
    at zero = omega arith
    at (suc zero) = omega arith
    at (suc (suc zero)) = omega arith
    at (suc (suc (suc zero))) = omega arith
    at (suc (suc (suc (suc zero)))) = omega arith
    at (suc (suc (suc (suc (suc zero))))) = omega arith
    at (suc (suc (suc (suc (suc (suc zero)))))) = omega arith
    at (suc (suc (suc (suc (suc (suc (suc zero))))))) = omega arith
    at (suc (suc (suc (suc (suc (suc (suc (suc zero)))))))) = omega arith
    at (suc (suc (suc (suc (suc (suc (suc (suc (suc zero))))))))) = omega arith
    at (suc (suc (suc (suc (suc (suc (suc (suc (suc (suc zero)))))))))) = omega arith
    at (suc (suc (suc (suc (suc (suc (suc (suc (suc (suc (suc i))))))))))) = omega arith

pub beginnings_short : BeginningsAreShort
beginnings_short = record {
  words = λ tables size word least most sendable front back e some.
      short_so front (tsdu_begins size (tsdu_of tables word) front back least most sendable.within
      (octets_left front back (subst AreOctets e (written_octets size (tsdu_of tables word) least most sendable.octets))) e some);
  request = λ source size calling called two_of room fits.
      unit_short (Connect (request_ends source size calling called)) _ (connect_is [] (request_ends source size calling called) (omega arith) two_of room) fits;
  confirm = λ destination size two_of room fits. unit_short (Confirm (confirm_ends destination size)) _ (confirm_is [] (confirm_ends destination size) two_of (omega arith) room) fits;
  refuse = unit_short Disconnect _ (disconnect_is [] 1 0 0 (omega arith) (omega arith)) few-octets;
}
