-- What is written is the packets of its units, and is read back.
use Rattle.std.proofs.Common.{◌≡◌, ℕ, zero, suc, ◌+◌, ◌-◌, ◌<◌, ◌≤◌, Bool, true, false, List, [], ◌∷◌, ◌++◌, length, take, drop, map, Option, Some, None, refl, sym, ap, subst, ◌∙◌, append_assoc, inl, inr, arith}
use Rattle.std.specs.Prelude.{slice_index, nat_le}
use Rattle.std.specs.List.{flat_map}
use Rattle.std.proofs.lemmas.Bool.{le-leb, lt-leb, cases_lt}
use Rattle.std.proofs.lemmas.Grind.{flat_map-append}
use Rattle.std.proofs.lemmas.List.{append-nil, take-append-drop, length-append, length-take, length-drop}
use Rattle.osi_base.specs.Limits.{tsdu_limit}
use Rattle.osi_base.proofs.OctetLaws.{octets_join, octets_left, octets_right}
use Rattle.osi_base.specs.Octets.{AreOctets}
use Rattle.tpkt.specs.declared.packet.ConnectionFields.{ConnectionFields}
use Rattle.tpkt.specs.declared.packet.Packet.TheVariants.{Connect, Confirm, Disconnect, Problem, Tsdu}
use Rattle.tpkt.specs.Wire.{parameter, two, header, mark, values, Tpdu, Whole, Part, IsUnit, IsTwo, IsConnection, IsSize, IsSelector, Splits, handed}
use Rattle.tpkt.specs.Written.{cut, parts_of, part_packet, written_tsdu, size_parameter, selector_parameter, parameters_of, connection_fields, HasRoom}

-- ---- a TSDU is cut into DTs

cut_last : (fuel most : ℕ) (xs : List ℕ) → length xs ≤ most → cut fuel most xs ≡ (true, xs) ∷ []
cut_last zero most xs le = refl
cut_last (suc fuel) most xs le = (let e : nat_le (length xs) most ≡ true = le-leb _ _ le in rw e refl)

cut_step : (fuel most : ℕ) (xs : List ℕ) → most < length xs → cut (suc fuel) most xs ≡ (false, take most xs) ∷ cut fuel most (drop most xs)
cut_step fuel most xs lt = (let e : nat_le (length xs) most ≡ false = lt-leb _ _ lt in rw e refl)

any_fuel : (f g most : ℕ) (xs : List ℕ) → 0 < most → length xs ≤ f → length xs ≤ g → cut f most xs ≡ cut g most xs
any_fuel zero g most xs some p q = sym (cut_last g most xs (omega arith))
any_fuel (suc f) zero most xs some p q = cut_last (suc f) most xs (omega arith)
any_fuel (suc f) (suc g) most xs some p q =
    elim (cases_lt most (length xs)) [
      | inl long ↦ (
          let rest = length-drop most xs in
          cut_step f most xs long ∙ ap (λ ps. (false, take most xs) ∷ ps) (any_fuel f g most (drop most xs) some (omega (arith, rest)) (omega (arith, rest))) ∙ sym (cut_step g most xs long))
      | inr le ↦ cut_last (suc f) most xs le ∙ sym (cut_last (suc g) most xs le)
    ]

pub parts_step : (most : ℕ) (xs : List ℕ) → 0 < most → most < length xs → parts_of most xs ≡ (false, take most xs) ∷ parts_of most (drop most xs)
unfolding parts_of
parts_step most [] some lt = absurd (omega arith)
parts_step most (x ∷ xs) some lt =
    let rest = length-drop most (x ∷ xs) in
    cut_step (length xs) most (x ∷ xs) lt ∙ ap (λ ps. (false, take most (x ∷ xs)) ∷ ps) (any_fuel (length xs) (length (drop most (x ∷ xs))) most (drop most (x ∷ xs)) some (omega (arith, rest)) (omega (arith, rest)))

pub parts_last : (most : ℕ) (xs : List ℕ) → length xs ≤ most → parts_of most xs ≡ (true, xs) ∷ []
unfolding parts_of
parts_last most xs le = cut_last (length xs) most xs le

-- a part more is written
pub goes_on : (most : ℕ) (out xs total : List ℕ) → 0 < most → most < length xs → out ++ flat_map part_packet (parts_of most xs) ≡ total
    → (out ++ part_packet (false, take most xs)) ++ flat_map part_packet (parts_of most (drop most xs)) ≡ total
goes_on most out xs total some lt e =
    append_assoc out (part_packet (false, take most xs)) (flat_map part_packet (parts_of most (drop most xs))) ∙ ap (λ ps. out ++ flat_map part_packet ps) (sym (parts_step most xs some lt)) ∙ e

pub ends : (most : ℕ) (out xs total : List ℕ) → length xs ≤ most → out ++ flat_map part_packet (parts_of most xs) ≡ total → out ++ part_packet (true, xs) ≡ total
ends most out xs total le e =
    ap (λ (t : List ℕ). out ++ t) (sym (append-nil (part_packet (true, xs)))) ∙ ap (λ ps. out ++ flat_map part_packet ps) (sym (parts_last most xs le)) ∙ e

-- ---- what is written is split so

abbrev pub part : Bool × List ℕ → Tpdu
part p = Part p.0 p.1

one_part : (begun : List ℕ) (last : Bool) (xs : List ℕ) → length xs ≤ 65528 → length begun + length xs ≤ tsdu_limit → IsUnit begun (Part last xs) (header (240 ∷ mark last ∷ []) ++ xs)
one_part begun last xs short within = record { spells = refl; at_least = omega arith; at_most = omega arith; within = within }

last_split : (fuel most : ℕ) (xs begun more : List ℕ) (us : List Tpdu) (rest : List ℕ) → most ≤ 65528 → length xs ≤ most → length begun + length xs ≤ tsdu_limit → Splits [] more us rest
    → Splits begun (flat_map part_packet (cut fuel most xs) ++ more) (map part (cut fuel most xs) ++ us) rest
last_split fuel most xs begun more us rest small short within s =
    subst (λ ps. Splits begun (flat_map part_packet ps ++ more) (map part ps ++ us) rest) (sym (cut_last fuel most xs short))
    (header (240 ∷ 128 ∷ []) ++ xs, more, one_part begun true xs (omega arith) within, ap (λ (t : List ℕ). t ++ more) (append-nil (part_packet (true, xs))), s)

cut_split : (fuel most : ℕ) (xs begun more : List ℕ) (us : List Tpdu) (rest : List ℕ) → most ≤ 65528 → 0 < most → length xs ≤ fuel → length begun + length xs ≤ tsdu_limit → Splits [] more us rest
    → Splits begun (flat_map part_packet (cut fuel most xs) ++ more) (map part (cut fuel most xs) ++ us) rest
cut_split zero most xs begun more us rest small some le within s = last_split zero most xs begun more us rest small (omega arith) within s
cut_split (suc fuel) most xs begun more us rest small some le within s =
    elim (cases_lt most (length xs)) [
      | inl long ↦ (
          let left = length-drop most xs in
          let front = length-take most xs in
          let after = cut_split fuel most (drop most xs) (begun ++ take most xs) more us rest small some (omega (arith, left)) (omega (arith, left, front, length-append begun (take most xs))) s in
          subst (λ ps. Splits begun (flat_map part_packet ps ++ more) (map part ps ++ us) rest) (sym (cut_step fuel most xs long)) (
            header (240 ∷ 0 ∷ []) ++ take most xs,
            flat_map part_packet (cut fuel most (drop most xs)) ++ more,
            one_part begun false (take most xs) (omega (arith, front)) (omega (arith, front)),
            append_assoc (part_packet (false, take most xs)) (flat_map part_packet (cut fuel most (drop most xs))) more,
            after,
          ))
      | inr short ↦ last_split (suc fuel) most xs begun more us rest small short within s
    ]

last_handed : (fuel most : ℕ) (xs begun : List ℕ) (us : List Tpdu) → length xs ≤ most → handed begun (map part (cut fuel most xs) ++ us) ≡ Tsdu (begun ++ xs) ∷ handed [] us
last_handed fuel most xs begun us short = ap (λ ps. handed begun (map part ps ++ us)) (cut_last fuel most xs short)

cut_handed : (fuel most : ℕ) (xs begun : List ℕ) (us : List Tpdu) → length xs ≤ fuel → 0 < most → handed begun (map part (cut fuel most xs) ++ us) ≡ Tsdu (begun ++ xs) ∷ handed [] us
cut_handed zero most xs begun us le some = last_handed zero most xs begun us (omega arith)
cut_handed (suc fuel) most xs begun us le some =
    elim (cases_lt most (length xs)) [
      | inl long ↦ (
          let left = length-drop most xs in
          let after = cut_handed fuel most (drop most xs) (begun ++ take most xs) us (omega (arith, left)) some in
          let whole : (begun ++ take most xs) ++ drop most xs ≡ begun ++ xs = append_assoc begun (take most xs) (drop most xs) ∙ ap (λ (t : List ℕ). begun ++ t) (take-append-drop most xs) in
          ap (λ ps. handed begun (map part ps ++ us)) (cut_step fuel most xs long) ∙ after ∙ ap (λ (t : List ℕ). Tsdu t ∷ handed [] us) whole)
      | inr short ↦ last_handed (suc fuel) most xs begun us short
    ]

-- a TSDU that is written stands in front of other units, and is handed up as it is
pub tsdu_split : (size : ℕ) (tsdu more : List ℕ) (us : List Tpdu) (rest : List ℕ) → 128 ≤ size → size ≤ 65531 → length tsdu ≤ tsdu_limit → Splits [] more us rest
    → (parts : List Tpdu) × Splits [] (written_tsdu size tsdu ++ more) (parts ++ us) rest × (handed [] (parts ++ us) ≡ Tsdu tsdu ∷ handed [] us)
unfolding parts_of
tsdu_split size tsdu more us rest least most within s = (
  map part (parts_of (size - 3) tsdu),
  cut_split (length tsdu) (size - 3) tsdu [] more us rest (omega arith) (omega arith) (omega arith) (omega arith) s,
  cut_handed (length tsdu) (size - 3) tsdu [] us (omega arith) (omega arith),
)

-- ---- other units

is_size : (o : Option ℕ) (a b : List ℕ) → IsSize o (values 192 (size_parameter o ++ selector_parameter 193 a ++ selector_parameter 194 b))
is_size None [] [] = refl
is_size None [] (y ∷ b) = refl
is_size None (x ∷ a) [] = refl
is_size None (x ∷ a) (y ∷ b) = refl
is_size (Some n) [] [] = refl
is_size (Some n) [] (y ∷ b) = refl
is_size (Some n) (x ∷ a) [] = refl
is_size (Some n) (x ∷ a) (y ∷ b) = refl

is_calling : (o : Option ℕ) (a b : List ℕ) → IsSelector a (values 193 (size_parameter o ++ selector_parameter 193 a ++ selector_parameter 194 b))
is_calling None [] [] = refl
is_calling None [] (y ∷ b) = refl
is_calling None (x ∷ a) [] = refl
is_calling None (x ∷ a) (y ∷ b) = refl
is_calling (Some n) [] [] = refl
is_calling (Some n) [] (y ∷ b) = refl
is_calling (Some n) (x ∷ a) [] = refl
is_calling (Some n) (x ∷ a) (y ∷ b) = refl

is_called : (o : Option ℕ) (a b : List ℕ) → IsSelector b (values 194 (size_parameter o ++ selector_parameter 193 a ++ selector_parameter 194 b))
is_called None [] [] = refl
is_called None [] (y ∷ b) = refl
is_called None (x ∷ a) [] = refl
is_called None (x ∷ a) (y ∷ b) = refl
is_called (Some n) [] [] = refl
is_called (Some n) [] (y ∷ b) = refl
is_called (Some n) (x ∷ a) [] = refl
is_called (Some n) (x ∷ a) (y ∷ b) = refl

connection_is : (code : ℕ) (ends : ConnectionFields) → IsTwo ends.destination → IsTwo ends.source → IsConnection code ends (header (connection_fields code ends))
connection_is code ends to from = record {
  destination = to;
  source = from;
  parameters = parameters_of ends;
  whole = refl;
  size = is_size ends.size ends.calling ends.called;
  calling = is_calling ends.size ends.calling ends.called;
  called = is_called ends.size ends.calling ends.called;
}

pub connect_is : (begun : List ℕ) (ends : ConnectionFields) → IsTwo ends.destination → IsTwo ends.source → HasRoom ends → IsUnit begun (Whole (Connect ends)) (header (connection_fields 224 ends))
connect_is begun ends to from room = record { spells = (connection_is 224 ends to from, omega arith); at_least = omega arith; at_most = omega arith; within = tt }

pub confirm_is : (begun : List ℕ) (ends : ConnectionFields) → IsTwo ends.destination → IsTwo ends.source → HasRoom ends → IsUnit begun (Whole (Confirm ends)) (header (connection_fields 208 ends))
confirm_is begun ends to from room = record { spells = (connection_is 208 ends to from, omega arith); at_least = omega arith; at_most = omega arith; within = tt }

pub disconnect_is : (begun : List ℕ) (destination source reason : ℕ) → IsTwo destination → IsTwo source → IsUnit begun (Whole Disconnect) (header (128 ∷ two destination ++ two source ++ reason ∷ []))
disconnect_is begun destination source reason to from = record {
  spells = (record { destination = destination; source = source; reason = reason; parameters = []; to = to; by_source = from; whole = refl }, omega arith);
  at_least = omega arith;
  at_most = omega arith;
  within = tt;
}

pub problem_is : (begun : List ℕ) (destination cause : ℕ) → IsUnit begun (Whole Problem) (header (112 ∷ two destination ++ cause ∷ []))
problem_is begun destination cause = record { spells = (record { fields = two destination ++ cause ∷ []; whole = refl }, omega arith); at_least = omega arith; at_most = omega arith; within = tt }

-- how long the fields of a connection request or confirm are
pub fields_length : (ends : ConnectionFields) → length (connection_fields 0 ends) ≡ 6 + length (flat_map parameter (size_parameter ends.size)) + length (flat_map parameter (selector_parameter 193 ends.calling)) + length (flat_map parameter (selector_parameter 194 ends.called))
fields_length ends =
    let a = size_parameter ends.size in
    let b = selector_parameter 193 ends.calling in
    let c = selector_parameter 194 ends.called in
    let x = ap length (flat_map-append parameter (a ++ b) c) in
    let y = ap length (flat_map-append parameter a b) in
    omega (arith, x, y, length-append (flat_map parameter (a ++ b)) (flat_map parameter c), length-append (flat_map parameter a) (flat_map parameter b))

-- ---- octets

mark_octet : (last : Bool) → mark last < 256
mark_octet true = omega arith
mark_octet false = omega arith

part_octets : (last : Bool) (xs : List ℕ) → length xs ≤ 65528 → AreOctets xs → AreOctets (part_packet (last, xs))
part_octets last xs short fits = record { each = at }
  where
    at : (i : ℕ) → slice_index (part_packet (last, xs)) i < 256
    at zero = omega arith
    at (suc zero) = omega arith
    at (suc (suc zero)) = omega arith
    at (suc (suc (suc zero))) = omega arith
    at (suc (suc (suc (suc zero)))) = omega arith
    at (suc (suc (suc (suc (suc zero))))) = omega arith
    at (suc (suc (suc (suc (suc (suc zero)))))) = mark_octet last
    at (suc (suc (suc (suc (suc (suc (suc i))))))) = fits.each i

take_octets : (n : ℕ) (xs : List ℕ) → AreOctets xs → AreOctets (take n xs)
take_octets n xs fits = octets_left (take n xs) (drop n xs) (subst AreOctets (sym (take-append-drop n xs)) fits)

drop_octets : (n : ℕ) (xs : List ℕ) → AreOctets xs → AreOctets (drop n xs)
drop_octets n xs fits = octets_right (take n xs) (drop n xs) (subst AreOctets (sym (take-append-drop n xs)) fits)

last_octets : (fuel most : ℕ) (xs : List ℕ) → most ≤ 65528 → length xs ≤ most → AreOctets xs → AreOctets (flat_map part_packet (cut fuel most xs))
last_octets fuel most xs small short fits =
    subst (λ ps. AreOctets (flat_map part_packet ps)) (sym (cut_last fuel most xs short)) (subst AreOctets (sym (append-nil (part_packet (true, xs)))) (part_octets true xs (omega arith) fits))

cut_octets : (fuel most : ℕ) (xs : List ℕ) → most ≤ 65528 → 0 < most → length xs ≤ fuel → AreOctets xs → AreOctets (flat_map part_packet (cut fuel most xs))
cut_octets zero most xs small some le fits = last_octets zero most xs small (omega arith) fits
cut_octets (suc fuel) most xs small some le fits =
    elim (cases_lt most (length xs)) [
      | inl long ↦ subst (λ ps. AreOctets (flat_map part_packet ps)) (sym (cut_step fuel most xs long))
          (octets_join (part_packet (false, take most xs)) (flat_map part_packet (cut fuel most (drop most xs)))
          (part_octets false (take most xs) (omega (arith, length-take most xs)) (take_octets most xs fits))
          (cut_octets fuel most (drop most xs) small some (omega (arith, length-drop most xs)) (drop_octets most xs fits)))
      | inr short ↦ last_octets (suc fuel) most xs small short fits
    ]

pub written_octets : (size : ℕ) (tsdu : List ℕ) → 128 ≤ size → size ≤ 65531 → AreOctets tsdu → AreOctets (written_tsdu size tsdu)
unfolding parts_of
written_octets size tsdu least most fits = cut_octets (length tsdu) (size - 3) tsdu (omega arith) (omega arith) (omega arith) fits
