-- A stream of whole units, cut at any octet.
use Rattle.std.proofs.Common.{◌≡◌, refl, sym, ap, subst, ◌∙◌, ℕ, zero, suc, ◌+◌, ◌-◌, ◌<◌, ◌≤◌, Bool, true, false, List, [], ◌∷◌, ◌++◌, length, take, drop, arith, inl, inr, append_assoc, length-append}
use Rattle.std.specs.List.{flat_map}
use Rattle.std.proofs.lemmas.Bool.{cases_lt}
use Rattle.std.proofs.lemmas.List.{length-take, length-drop, take-append-drop, append-nil}
use Rattle.osi_base.specs.Limits.{tsdu_limit}
use Rattle.osi_base.proofs.OctetLaws.{octets_right}
use Rattle.osi_base.specs.Octets.{AreOctets}
use Rattle.tpkt.specs.declared.packet.Packet.{Packet}
use Rattle.tpkt.specs.declared.packet.Packet.TheVariants.{Tsdu}
use Rattle.tpkt.specs.Wire.{packet, header, mark, Tpdu, Whole, Part, IsUnit, Splits, begun_after, begun_by, handed_for, handed}
use Rattle.tpkt.specs.Written.{parts_of, part_packet}
use Rattle.tpkt.proofs.WrittenLaws.{parts_step, parts_last}
use Rattle.prefix_laws.specs.Laws.{HandsUpLast, OnlyTheLastPacketHandsUp}
use Rattle.prefix_laws.proofs.Lists.{cut}

-- ---- the packets of a TSDU

one-part : (begun xs : List ℕ) (last : Bool) → length xs ≤ 65528 → length begun + length xs ≤ tsdu_limit → IsUnit begun (Part last xs) (header (240 ∷ mark last ∷ []) ++ xs)
one-part begun xs last few within = record { spells = refl; at_least = omega arith; at_most = omega arith; within = within }

last-closes : (most : ℕ) (xs begun : List ℕ) → most ≤ 65528 → length xs ≤ most → length begun + length xs ≤ tsdu_limit → HandsUpLast begun (flat_map part_packet (parts_of most xs)) (Tsdu (begun ++ xs))
last-closes most xs begun small few within = record {
  before = [];
  last = Part true xs;
  splits =
      subst (λ (ps : List (Bool × List ℕ)). Splits begun (flat_map part_packet ps) (Part true xs ∷ []) []) (sym (parts_last most xs few))
      (header (240 ∷ 128 ∷ []) ++ xs, [], one-part begun xs true (omega arith) within, refl, refl);
  none = refl;
  up = refl;
  whole = refl;
}

parts-close : (fuel most : ℕ) (xs begun : List ℕ) → most ≤ 65528 → 0 < most → length xs ≤ fuel → length begun + length xs ≤ tsdu_limit
    → HandsUpLast begun (flat_map part_packet (parts_of most xs)) (Tsdu (begun ++ xs))
parts-close zero most xs begun small some few within = last-closes most xs begun small (omega arith) within
parts-close (suc fuel) most xs begun small some few within =
    elim (cases_lt most (length xs)) [
      | inr le ↦ last-closes most xs begun small le within
      | inl long ↦ (
          let left = length-drop most xs in
          let taken = length-take most xs in
          let next = parts-close fuel most (drop most xs) (begun ++ take most xs) small some (omega (arith, left)) (omega (arith, left, taken, length-append begun (take most xs))) in
          record {
            before = Part false (take most xs) ∷ next.before;
            last = next.last;
            splits =
                subst (λ (ps : List (Bool × List ℕ)). Splits begun (flat_map part_packet ps) (Part false (take most xs) ∷ (next.before ++ next.last ∷ [])) []) (sym (parts_step most xs some long)) (
                  header (240 ∷ 0 ∷ []) ++ take most xs,
                  flat_map part_packet (parts_of most (drop most xs)),
                  one-part begun (take most xs) false (omega (arith, taken)) (omega (arith, taken)),
                  refl,
                  next.splits,
                );
            none = next.none;
            up = next.up ∙ ap (λ (t : List ℕ). Tsdu t ∷ []) (append_assoc begun (take most xs) (drop most xs) ∙ ap (λ (t : List ℕ). begun ++ t) (take-append-drop most xs));
            whole = next.whole;
          })
    ]

pub last-hands-up : OnlyTheLastPacketHandsUp
last-hands-up size tsdu least most within = parts-close (length tsdu) (size - 3) tsdu [] (omega arith) (omega arith) (omega arith) (omega arith)

-- another unit is a stream of its own
pub unit-closes : (p : Packet) (unit : List ℕ) → IsUnit [] (Whole p) unit → HandsUpLast [] (packet unit) p
unit-closes p unit is = record { before = []; last = Whole p; splits = (unit, [], is, sym (append-nil (packet unit)), refl); none = refl; up = refl; whole = refl }

-- ---- units in a row

pub begun-append : (begun : List ℕ) (us vs : List Tpdu) → begun_by begun (us ++ vs) ≡ begun_by (begun_by begun us) vs
begun-append begun [] vs = refl
begun-append begun (u ∷ us) vs = begun-append (begun_after begun u) us vs

both-none : (xs ys : List Packet) → xs ++ ys ≡ [] → (xs ≡ []) × (ys ≡ [])
both-none [] ys e = (refl, e)
both-none (x ∷ xs) ys e = absurd cc

-- what comes before one unit is part of what comes before the last
pub none-before : (begun : List ℕ) (before init after : List Tpdu) (next last : Tpdu) → handed begun init ≡ [] → init ++ last ∷ [] ≡ before ++ next ∷ after → handed begun before ≡ []
none-before begun [] init after next last none e = refl
none-before begun (b ∷ before) [] after next last none e =
    let tails : [] ≡ before ++ next ∷ after = cc in
    absurd (omega (arith, ap length tails, length-append before (next ∷ after)))
none-before begun (b ∷ before) (i ∷ init) after next last none e =
    let heads : i ≡ b = cc in
    let tails : init ++ last ∷ [] ≡ before ++ next ∷ after = cc in
    let parts = both-none (handed_for begun i) (handed (begun_after begun i) init) none in
    let first : handed_for begun b ≡ [] = ap (handed_for begun) (sym heads) ∙ parts.0 in
    let rest : handed (begun_after begun b) before ≡ [] = none-before (begun_after begun b) before init after next last (subst (λ (u : Tpdu). handed (begun_after begun u) init ≡ []) heads parts.1) tails in
    (λ k. first k ++ rest k)

-- ---- a cut

-- whole units, and a proper beginning of the next
pub record CutAt (begun front : List ℕ) (us : List Tpdu) : Type 0 where
  pub before : List Tpdu
  pub next : Tpdu
  pub after : List Tpdu
  pub are : us ≡ before ++ next ∷ after
  pub rest : List ℕ
  pub left : List ℕ
  pub unit : List ℕ
  pub splits : Splits begun front before rest
  pub is : IsUnit (begun_by begun before) next unit
  pub whole : packet unit ≡ rest ++ left
  pub some : 0 < length left
  pub octets : AreOctets rest

pub cut-at : (begun stream front back : List ℕ) (us : List Tpdu) → Splits begun stream us [] → stream ≡ front ++ back → 0 < length back → AreOctets front → CutAt begun front us
cut-at begun stream front back [] s e some fits =
    let lengths : length stream ≡ length front + length back = ap length e ∙ length-append front back in
    let none : length stream ≡ 0 = ap length s in
    absurd (omega (arith, lengths, none))
cut-at begun stream front back (u ∷ us) s e some fits =
    let both : packet s.0 ++ s.1 ≡ front ++ back = sym s.3 ∙ e in
    elim (cases_lt (length front) (length (packet s.0))) [
      | inl less ↦ (
          let c = cut (packet s.0) s.1 front back both (omega arith) in
          let lengths = ap length c.front ∙ length-append front c.more in
          record { before = []; next = u; after = us; are = refl; rest = front; left = c.more; unit = s.0; splits = refl; is = s.2; whole = c.front; some = omega (arith, lengths); octets = fits })
      | inr longer ↦ (
          let c = cut front back (packet s.0) s.1 (sym both) longer in
          let k = cut-at (begun_after begun u) s.1 c.more back us s.4 c.back some (octets_right (packet s.0) c.more (subst AreOctets c.front fits)) in
          record {
            before = u ∷ k.before;
            next = k.next;
            after = k.after;
            are = ap (λ (vs : List Tpdu). u ∷ vs) k.are;
            rest = k.rest;
            left = k.left;
            unit = k.unit;
            splits = (s.0, c.more, s.2, c.front, k.splits);
            is = k.is;
            whole = k.whole;
            some = k.some;
            octets = k.octets;
          })
    ]
