-- The unit at the front of a stream is the one that its octets spell.
use Rattle.std.proofs.Common.{◌≡◌, ℕ, ◌+◌, ◌<◌, ◌≤◌, Bool, true, false, cond, ltb, List, ◌∷◌, ◌++◌, length, take, drop, Result, Ok, Err, refl, sym, ap, subst, ◌∙◌, arith}
use Rattle.std.proofs.lemmas.Bool.{ltb-false, le-ltb, lt-ltb}
use Rattle.std.proofs.lemmas.List.{take-append-drop, length-append, length-take, take_at, drop_at}
use Rattle.osi_base.specs.declared.layer_words.Kind.{Kind}
use Rattle.osi_base.specs.Limits.{tsdu_limit}
use Rattle.osi_base.specs.Octets.{AreOctets}
use Rattle.tpkt.specs.declared.header.Header.{Header}
use Rattle.tpkt.specs.declared.header.Header.TheVariants.{Control, Data}
use Rattle.tpkt.specs.declared.header_stops.Stop.{Stop}
use Rattle.tpkt.specs.declared.header_stops.Stop.TheVariants.{Short, At}
use Rattle.tpkt.specs.Wire.{two, packet, mark, Tpdu, Whole, Part, IsUnit}
use Rattle.tpkt.specs.Header.{◌>>=◌, header_at}
use Rattle.tpkt.specs.Stream.{stated_length, unit_behind, unit_at}
use Rattle.tpkt.proofs.Results.{ok_is, refused, bound}
use Rattle.tpkt.proofs.HeaderLaws.{front, two_again, found_data, found_control, again_data, again_control}
use Rattle.tpkt.proofs.StaysLaws.{fault_stays, header_stays}
use Rattle.tpkt.proofs.PlaceLaws.{header_below}

abbrev found : Tpdu → List ℕ → Result (Tpdu × List ℕ) Stop
found u rest = Ok (u, rest)

abbrev failed : Stop → Result Header Stop
failed s = Err s

stated_again : (unit more : List ℕ) → stated_length (packet unit ++ more) ≡ length unit + 4
stated_again unit more = two_again (length unit + 4)

past_packet : (unit more : List ℕ) (n : ℕ) → n ≡ length unit + 4 → drop n (packet unit ++ more) ≡ more
past_packet unit more n e = drop_at (packet unit) more n (omega arith)

-- the packet of a DT whose data are there
pub part_packet : (left : ℕ) (last : Bool) (octets more : List ℕ) → length octets ≡ left → front left last ++ (octets ++ more) ≡ packet (2 ∷ 240 ∷ mark last ∷ octets) ++ more
part_packet left last octets more e =
    let n : left + 7 ≡ length (2 ∷ 240 ∷ mark last ∷ octets) + 4 = omega arith in
    ap (λ k. 3 ∷ 0 ∷ two k ++ 2 ∷ 240 ∷ mark last ∷ octets ++ more) n

pub part_unit : (begun : List ℕ) (left : ℕ) (last : Bool) (octets : List ℕ) → length octets ≡ left → length begun + left ≤ tsdu_limit → left + 7 < 65536 → IsUnit begun (Part last octets) (2 ∷ 240 ∷ mark last ∷ octets)
part_unit begun left last octets e within size = record { spells = refl; at_least = omega arith; at_most = omega arith; within = omega arith }

behind : (begun xs : List ℕ) (r : Tpdu × List ℕ) → AreOctets xs → (h : Header) → header_at (length begun) xs ≡ Ok h → unit_behind xs h ≡ Ok r → (unit : List ℕ) × IsUnit begun r.0 unit × (xs ≡ packet unit ++ r.1)
behind begun xs r fits (Control p) e f =
    let c = found_control (length begun) xs p fits e in
    let n : stated_length xs ≡ length c.unit + 4 = ap stated_length c.octets ∙ stated_again c.unit c.more in
    let rest : drop (stated_length xs) xs ≡ c.more = ap (drop (stated_length xs)) c.octets ∙ past_packet c.unit c.more (stated_length xs) n in
    subst (λ (q : Tpdu × List ℕ). (unit : List ℕ) × IsUnit begun q.0 unit × (xs ≡ packet unit ++ q.1)) (ok_is (Whole p, drop (stated_length xs) xs) r f)
    (c.unit, c.is begun, c.octets ∙ ap (λ (t : List ℕ). packet c.unit ++ t) (sym rest))
behind begun xs r fits (Data left last) e f =
    let d = found_data (length begun) xs left last fits e in
    let a = refused (ltb (length (drop 7 xs)) left) Short (Ok (Part last (take left (drop 7 xs)), drop left (drop 7 xs))) r f in
    let there : left ≤ length (drop 7 xs) = ltb-false _ _ a.0 in
    let more : drop 7 xs ≡ d.more = ap (drop 7) d.octets in
    let len : length (take left (drop 7 xs)) ≡ left = omega (arith, length-take left (drop 7 xs)) in
    let whole : xs ≡ packet (2 ∷ 240 ∷ mark last ∷ take left (drop 7 xs)) ++ drop left (drop 7 xs) =
    d.octets ∙ ap (λ (t : List ℕ). front left last ++ t) (sym more ∙ sym (take-append-drop left (drop 7 xs))) ∙ part_packet left last (take left (drop 7 xs)) (drop left (drop 7 xs)) len in
    subst (λ (q : Tpdu × List ℕ). (unit : List ℕ) × IsUnit begun q.0 unit × (xs ≡ packet unit ++ q.1)) (ok_is (Part last (take left (drop 7 xs)), drop left (drop 7 xs)) r a.1)
    (2 ∷ 240 ∷ mark last ∷ take left (drop 7 xs), part_unit begun left last (take left (drop 7 xs)) len d.within d.size, whole)

pub unit_found : (begun xs : List ℕ) (u : Tpdu) (rest : List ℕ) → AreOctets xs → unit_at begun xs ≡ Ok (u, rest) → (unit : List ℕ) × IsUnit begun u unit × (xs ≡ packet unit ++ rest)
unfolding unit_at
unit_found begun xs u rest fits e =
    let b = bound (header_at (length begun) xs) (unit_behind xs) (u, rest) e in
    behind begun xs (u, rest) fits b.0 b.1 b.2

data_behind : (left : ℕ) (last : Bool) (octets more : List ℕ) → length octets ≡ left → unit_behind (front left last ++ (octets ++ more)) (Data left last) ≡ Ok (Part last octets, more)
data_behind left last octets more e =
    let there : ltb (length (octets ++ more)) left ≡ false = le-ltb _ _ (omega (arith, length-append octets more)) in
    rw (there, take_at octets more left e, drop_at octets more left e) refl

pub unit_again : (begun : List ℕ) (u : Tpdu) (unit more : List ℕ) → IsUnit begun u unit → unit_at begun (packet unit ++ more) ≡ Ok (u, more)
unfolding unit_at
unit_again begun (Whole p) unit more is =
    let rest : drop (stated_length (packet unit ++ more)) (packet unit ++ more) ≡ more = past_packet unit more (stated_length (packet unit ++ more)) (stated_again unit more) in
    ap (λ r. r >>= unit_behind (packet unit ++ more)) (again_control (length begun) begun p unit more is) ∙ ap (λ (t : List ℕ). found (Whole p) t) rest
unit_again begun (Part last octets) unit more is =
    let spelled : packet unit ++ more ≡ front (length octets) last ++ (octets ++ more) = ap (λ (t : List ℕ). packet t ++ more) is.spells ∙ sym (part_packet (length octets) last octets more refl) in
    ap (λ (t : List ℕ). header_at (length begun) t >>= unit_behind t) spelled
    ∙ ap (λ r. r >>= unit_behind (front (length octets) last ++ (octets ++ more))) (again_data (length begun) (length octets) last (octets ++ more) is.within)
    ∙ data_behind (length octets) last octets more refl

-- a fault stands whatever follows
pub unit_fault : (begun xs : List ℕ) (o : ℕ) (k : Kind) → unit_at begun xs ≡ Err (At o k) → header_at (length begun) xs ≡ Err (At o k)
unfolding unit_at
unit_fault begun xs o k e = go (header_at (length begun) xs) refl e
  where
    no_fault : (h : Header) → unit_behind xs h ≡ Err (At o k) → ⊥
    no_fault (Control p) f = cc
    no_fault (Data left last) f = by_test (ltb (length (drop 7 xs)) left) f
      where
        by_test : (b : Bool) → cond b (Err Short) (found (Part last (take left (drop 7 xs))) (drop left (drop 7 xs))) ≡ Err (At o k) → ⊥
        by_test true g = cc
        by_test false g = cc

    go : (r : Result Header Stop) → header_at (length begun) xs ≡ r → (r >>= unit_behind xs) ≡ Err (At o k) → header_at (length begun) xs ≡ Err (At o k)
    go (Ok h) e f = absurd (no_fault h f)
    go (Err s) e f = e ∙ (let g : s ≡ At o k = cc in ap failed g)

pub faulty : (begun xs : List ℕ) (o : ℕ) (k : Kind) → header_at (length begun) xs ≡ Err (At o k) → unit_at begun xs ≡ Err (At o k)
unfolding unit_at
faulty begun xs o k e = ap (λ r. r >>= unit_behind xs) e

pub unit_stays : (begun xs ys : List ℕ) (o : ℕ) (k : Kind) → unit_at begun xs ≡ Err (At o k) → unit_at begun (xs ++ ys) ≡ Err (At o k)
unit_stays begun xs ys o k e = faulty begun (xs ++ ys) o k (fault_stays (length begun) xs ys o k (unit_fault begun xs o k e))

pub short_yet : (begun xs : List ℕ) → header_at (length begun) xs ≡ Err Short → unit_at begun xs ≡ Err Short
unfolding unit_at
short_yet begun xs e = ap (λ r. r >>= unit_behind xs) e

-- a DT that lacks data
pub data_yet : (begun : List ℕ) (left : ℕ) (last : Bool) (octets : List ℕ) → length octets < left → length begun + left ≤ tsdu_limit → unit_at begun (front left last ++ octets) ≡ Err Short
unfolding unit_at
data_yet begun left last octets lacks within =
    let there : ltb (length octets) left ≡ true = lt-ltb _ _ lacks in
    ap (λ r. r >>= unit_behind (front left last ++ octets)) (again_data (length begun) left last octets within) ∙ rw there refl

-- ---- before a fault

abbrev stopped : Stop → Result (Tpdu × List ℕ) Stop
stopped s = Err s

-- a fault's field is there
fault_there : (begun xs : List ℕ) (o : ℕ) (k : Kind) → unit_at begun xs ≡ Err (At o k) → o < length xs
fault_there begun xs o k e = header_below (length begun) xs o k (unit_fault begun xs o k e)

-- a unit that is there has no fault
no_fault_behind : (begun xs ys : List ℕ) (p : Tpdu × List ℕ) (o : ℕ) (k : Kind) → unit_at begun xs ≡ Ok p → unit_at begun (xs ++ ys) ≡ Err (At o k) → ⊥
unfolding unit_at
no_fault_behind begun xs ys p o k e f =
    let b = bound (header_at (length begun) xs) (unit_behind xs) p e in
    let h = header_stays (length begun) xs ys b.0 b.1 in
    let g = unit_fault begun (xs ++ ys) o k f in
    cc

same_place : (o p : ℕ) (k j : Kind) → stopped (At o k) ≡ Err (At p j) → o ≡ p
same_place o p k j e = cc

-- the octets before a fault are right so far
pub right_before : (begun xs : List ℕ) (o : ℕ) (k : Kind) → unit_at begun xs ≡ Err (At o k) → (o < length xs) × (unit_at begun (take o xs) ≡ Err Short)
right_before begun xs o k e = (fault_there begun xs o k e, go (unit_at begun (take o xs)) refl)
  where
    whole : take o xs ++ drop o xs ≡ xs
    whole = take-append-drop o xs

    again : unit_at begun (take o xs ++ drop o xs) ≡ Err (At o k)
    again = ap (unit_at begun) whole ∙ e

    go : (r : Result (Tpdu × List ℕ) Stop) → unit_at begun (take o xs) ≡ r → unit_at begun (take o xs) ≡ Err Short
    go (Err Short) f = f
    go (Err (At p j)) f =
        let same : o ≡ p = same_place o p k j (sym again ∙ unit_stays begun (take o xs) (drop o xs) p j f) in
        absurd (omega (arith, same, fault_there begun (take o xs) p j f, length-take o xs))
    go (Ok p) f = absurd (no_fault_behind begun (take o xs) (drop o xs) p o k f again)
