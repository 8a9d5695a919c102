-- Contents of OBJECT IDENTIFIER: what is read is spelled so, and what is spelled so is read.
use Rattle.std.proofs.Common.{◌≡◌, ◌≢◌, ℕ, zero, suc, ◌+◌, ◌-◌, ◌*◌, ◌^◌, ◌≤◌, ◌<◌, Bool, true, false, ◌&&◌, ◌||◌, cond, List, [], ◌∷◌, ◌++◌, length, Option, Some, None, refl, sym, ap, ◌∙◌, subst, arith, ◌⊎◌, inl, inr}
use Rattle.std.specs.Prelude.{nat_lt, nat_le, nat_eq, option_map, slice_index}
use Rattle.std.specs.List.{list_all, AllByRecursion}
use Rattle.std.proofs.lemmas.Bool.{lt-ltb, le-ltb, ltb-false, ltb-true, eqb-false, ne_eqb, leb-true, and_parts, or_cases}
use Rattle.osi_base.specs.Oid.{is_oid, IsOid}
use Rattle.asn1_types.specs.Value.{Value, boolean, integer, null, octets, bits, object_id, text, parts, list, chosen, any}
use Rattle.asn1_types.specs.Writing.{subidentifiers}
use Rattle.asn1_types.specs.Fits.{has_32_bits}
use Rattle.osi_base.specs.Octets.{AreOctets}
use Rattle.osi_base.proofs.OctetLaws.{octets_tail}
use Rattle.ber_spelling.specs.Primitives.{sized, push_front, subidentifiers_of, arcs_from, judged_arcs, arcs_of}
use Rattle.ber_spelling.specs.Rules.{object_id_rule}
use Rattle.ber_spelling.specs.Spelling.{AreDigits, number_128, IsBase128, AreSubidentifiers, IsObjectId, ObjectIdIs}
use Rattle.ber_spelling.proofs.Identifiers.{low_small, low_large, digits_more}

sized_digit : (a d : ℕ) → sized (128 * sized a + d) ≡ sized (128 * a + d)
sized_digit a d = omega arith

-- as they are read: numbers that are no arc are all one
abbrev pub AreSized : List ℕ → List ℕ → Type 0
AreSized [] contents = contents ≡ []
AreSized (n ∷ ns) contents = (first : List ℕ) × (others : List ℕ) × (m : ℕ) × (contents ≡ first ++ others) × IsBase128 first m × (n ≡ sized m) × AreSized ns others

record Goes (a : ℕ) (digits ns : List ℕ) : Type 0 where
  n : ℕ
  more : List ℕ
  piece : List ℕ
  others : List ℕ
  are : ns ≡ n ∷ more
  parts : digits ≡ piece ++ others
  is_digits : AreDigits piece
  number : n ≡ sized (number_128 a piece)
  rest : AreSized more others

pushed : (n : ℕ) (o : Option (List ℕ)) (ns : List ℕ) → push_front n o ≡ Some ns → (more : List ℕ) × (o ≡ Some more) × (ns ≡ n ∷ more)
pushed n None ns e = absurd cc
pushed n (Some more) ns e = (more, refl, (let same : Some (n ∷ more) ≡ Some ns = e in cc))

chosen_some : {A : Type 0} (b : Bool) (r s : Option A) (y : A) → cond b r s ≡ Some y → ((b ≡ true) × (r ≡ Some y)) ⊎ ((b ≡ false) × (s ≡ Some y))
chosen_some true r s y e = inl (refl, e)
chosen_some false r s y e = inr (refl, e)

and_false : (b : Bool) → (b && false) ≡ false
and_false true = refl
and_false false = refl

digit_found : (a d : ℕ) (ds ns : List ℕ) → AreOctets (d ∷ ds) → cond (nat_lt d 128) (push_front (sized (128 * sized a + d)) (subidentifiers_of 0 false ds)) (subidentifiers_of (sized (128 * sized a + (d - 128))) true ds) ≡ Some ns
    → ((b : ℕ) (ns : List ℕ) → subidentifiers_of (sized b) true ds ≡ Some ns → Goes b ds ns) → ((ns : List ℕ) → subidentifiers_of 0 false ds ≡ Some ns → AreSized ns ds) → Goes a (d ∷ ds) ns
digit_found a d ds ns are e begun free =
    elim (chosen_some (nat_lt d 128) _ _ ns e) [
      | inl t ↦
          let lt : d < 128 = ltb-true d 128 t.0 in
          let p = pushed (sized (128 * sized a + d)) (subidentifiers_of 0 false ds) ns t.1 in
          record {
            n = sized (128 * sized a + d);
            more = p.0;
            piece = d ∷ [];
            others = ds;
            are = p.2;
            parts = refl;
            is_digits = lt;
            number = sized_digit a d ∙ ap (λ (k : ℕ). sized (128 * a + k)) (sym (low_small d lt));
            rest = free p.0 p.1;
          }
      | inr t ↦
          let le : 128 ≤ d = ltb-false d 128 t.0 in
          let g = begun (128 * a + (d - 128)) ns (ap (λ (k : ℕ). subidentifiers_of k true ds) (sym (sized_digit a (d - 128))) ∙ t.1) in
          record {
            n = g.n;
            more = g.more;
            piece = d ∷ g.piece;
            others = g.others;
            are = g.are;
            parts = ap (λ (x : List ℕ). d ∷ x) g.parts;
            is_digits = digits_more d g.piece le (are.each 0) g.is_digits;
            number = g.number ∙ ap (λ (k : ℕ). sized (number_128 (128 * a + k) g.piece)) (sym (low_large d le));
            rest = g.rest;
          }
    ]

first_is : (d : ℕ) (ds piece others : List ℕ) → AreDigits piece → (d ∷ ds) ≡ piece ++ others → slice_index piece 0 ≡ d
first_is d ds [] others h e = absurd h
first_is d ds (p ∷ piece) others h e = let same : d ≡ p = cc in sym same

goes_sized : (d : ℕ) (ds ns : List ℕ) → d ≢ 128 → Goes 0 (d ∷ ds) ns → AreSized ns (d ∷ ds)
goes_sized d ds ns ne g =
    subst (λ (x : List ℕ). AreSized x (d ∷ ds)) (sym g.are)
    (g.piece, g.others, number_128 0 g.piece, g.parts, record { are = g.is_digits; shortest = λ e. ne (sym (first_is d ds g.piece g.others g.is_digits g.parts) ∙ e); number = refl }, g.number, g.rest)

test_or : (b : Bool) → (b && true) ≡ b
test_or true = refl
test_or false = refl

mutual
  begun_found : (a : ℕ) (digits ns : List ℕ) → AreOctets digits → subidentifiers_of (sized a) true digits ≡ Some ns → Goes a digits ns
  begun_found a [] ns are e = absurd cc
  begun_found a (d ∷ ds) ns are e =
      let body = sym (ap (λ (b : Bool). cond b None (cond (nat_lt d 128) (push_front (sized (128 * sized a + d)) (subidentifiers_of 0 false ds)) (subidentifiers_of (sized (128 * sized a + (d - 128))) true ds))) (and_false (nat_eq d 128))) ∙ e in
      digit_found a d ds ns are body (λ b ms f. begun_found b ds ms (octets_tail d ds are) f) (λ ms f. free_found ds ms (octets_tail d ds are) f)

  free_found : (digits ns : List ℕ) → AreOctets digits → subidentifiers_of 0 false digits ≡ Some ns → AreSized ns digits
  free_found [] ns are e = let same : [] ≡ ns = cc in subst (λ (x : List ℕ). AreSized x []) same refl
  free_found (d ∷ ds) ns are e =
      elim (chosen_some (nat_eq d 128 && true) None _ ns e) [
        | inl t ↦ absurd (let none : None ≡ Some ns = t.1 in cc)
        | inr t ↦
            let ne : d ≢ 128 = eqb-false d 128 (sym (test_or (nat_eq d 128)) ∙ t.0) in
            goes_sized d ds ns ne (digit_found 0 d ds ns are t.1 (λ b ms f. begun_found b ds ms (octets_tail d ds are) f) (λ ms f. free_found ds ms (octets_tail d ds are) f))
      ]

pub subs_found : (digits ns : List ℕ) → AreOctets digits → subidentifiers_of 0 false digits ≡ Some ns → AreSized ns digits
subs_found digits ns are e = free_found digits ns are e

-- ---- the other way

sized_same : (n : ℕ) → n < 2 ^ 40 → sized n ≡ n
sized_same n lt = omega arith

abbrev pub AllSmall : List ℕ → Type 0
AllSmall ns = AllByRecursion (λ n. n < 2 ^ 40) ns

piece_again : (a : ℕ) (piece others : List ℕ) → AreDigits piece → subidentifiers_of (sized a) true (piece ++ others) ≡ push_front (sized (number_128 a piece)) (subidentifiers_of 0 false others)
piece_again a [] others h = absurd h
piece_again a (d ∷ []) others h = rw (and_false (nat_eq d 128), lt-ltb d 128 h, sized_digit a d) refl
piece_again a (d ∷ e ∷ piece) others h =
    rw (and_false (nat_eq d 128), le-ltb d 128 h.0, sized_digit a (d - 128)) (piece_again (128 * a + (d - 128)) (e ∷ piece) others h.2)

first_again : (piece others : List ℕ) → AreDigits piece → slice_index piece 0 ≢ 128 → subidentifiers_of 0 false (piece ++ others) ≡ push_front (sized (number_128 0 piece)) (subidentifiers_of 0 false others)
first_again [] others h ne = absurd h
first_again (d ∷ []) others h ne = rw (ne_eqb d 128 ne, lt-ltb d 128 h) refl
first_again (d ∷ e ∷ piece) others h ne =
    rw (ne_eqb d 128 ne, le-ltb d 128 h.0) (piece_again (128 * 0 + (d - 128)) (e ∷ piece) others h.2)

pub subs_again : (ns contents : List ℕ) → AllSmall ns → AreSubidentifiers ns contents → subidentifiers_of 0 false contents ≡ Some ns
subs_again [] contents small h = ap (subidentifiers_of 0 false) h
subs_again (n ∷ ns) contents small h =
    let piece : List ℕ = h.0 in
    let others : List ℕ = h.1 in
    let base : IsBase128 piece n = h.3 in
    let read = first_again piece others base.are base.shortest in
    let number : sized (number_128 0 piece) ≡ n = ap sized base.number ∙ sized_same n small.0 in
    ap (subidentifiers_of 0 false) h.2 ∙ read ∙ rw (number, subs_again ns others small.1 h.4) refl

pub sized_subs : (ns contents : List ℕ) → AllSmall ns → AreSized ns contents → AreSubidentifiers ns contents
sized_subs [] contents small h = h
sized_subs (n ∷ ns) contents small h =
    let same : h.2 ≡ n = let lt = small.0 in let eq = h.5 in omega arith in
    (h.0, h.1, h.3, subst (λ (m : ℕ). IsBase128 h.0 m) same h.4, sized_subs ns h.1 small.1 h.6)

-- ---- arcs

pub arcs_small : (arcs : List ℕ) → list_all has_32_bits arcs ≡ true → AllByRecursion (λ n. n < 2 ^ 32) arcs
arcs_small [] e = tt
arcs_small (n ∷ ns) e = let t = and_parts (has_32_bits n) (list_all has_32_bits ns) e in (ltb-true n (2 ^ 32) t.0, arcs_small ns t.1)

pub small_arcs : (arcs : List ℕ) → AllByRecursion (λ n. n < 2 ^ 32) arcs → list_all has_32_bits arcs ≡ true
small_arcs [] h = refl
small_arcs (n ∷ ns) h = rw (lt-ltb n (2 ^ 32) h.0, small_arcs ns h.1) refl

small_more : (ns : List ℕ) → AllByRecursion (λ n. n < 2 ^ 32) ns → AllSmall ns
small_more [] h = tt
small_more (n ∷ ns) h = (let lt = h.0 in omega arith, small_more ns h.1)

-- arcs from subidentifiers and back
arcs_back : (ns : List ℕ) → AllByRecursion (λ n. n < 2 ^ 32) (arcs_from ns) → (subidentifiers (arcs_from ns) ≡ ns) × AllSmall ns
arcs_back [] h = (refl, tt)
arcs_back (n ∷ ns) h = by_first n ns (nat_lt n 40) (nat_lt n 80) refl refl h
  where
    by_first : (n : ℕ) (ns : List ℕ) (b c : Bool) → nat_lt n 40 ≡ b → nat_lt n 80 ≡ c → AllByRecursion (λ n. n < 2 ^ 32) (cond b (0 ∷ n ∷ ns) (cond c (1 ∷ (n - 40) ∷ ns) (2 ∷ (n - 80) ∷ ns)))
        → (subidentifiers (cond b (0 ∷ n ∷ ns) (cond c (1 ∷ (n - 40) ∷ ns) (2 ∷ (n - 80) ∷ ns))) ≡ n ∷ ns) × AllSmall (n ∷ ns)
    by_first n ns true c t u h = (ap (λ (k : ℕ). k ∷ ns) (omega arith), (let lt = h.1.0 in omega arith, small_more ns h.1.1))
    by_first n ns false true t u h =
        let ge : 40 ≤ n = ltb-false n 40 t in
        let same : 40 * 1 + (n - 40) ≡ n = omega arith in
        (ap (λ (k : ℕ). k ∷ ns) same, (let lt = h.1.0 in omega arith, small_more ns h.1.1))
    by_first n ns false false t u h =
        let ge : 80 ≤ n = ltb-false n 80 u in
        let same : 40 * 2 + (n - 80) ≡ n = omega arith in
        (ap (λ (k : ℕ). k ∷ ns) same, (let lt = h.1.0 in omega arith, small_more ns h.1.1))

-- the second arc is below 40 under the first two roots
pub second_low : (root second : ℕ) → (nat_lt root 2 && nat_lt second 40 || nat_le root 2 && nat_le 2 root) ≡ true → ((root < 2) × (second < 40)) ⊎ (root ≡ 2)
second_low root second e =
    elim (or_cases (nat_lt root 2 && nat_lt second 40) (nat_le root 2 && nat_le 2 root) e) [
      | inl t ↦ let u = and_parts (nat_lt root 2) (nat_lt second 40) t in inl (ltb-true root 2 u.0, ltb-true second 40 u.1)
      | inr t ↦ let u = and_parts (nat_le root 2) (nat_le 2 root) t in let a = leb-true root 2 u.0 in let b = leb-true 2 root u.1 in inr (omega arith)
    ]

first_from : (root second : ℕ) (arcs : List ℕ) → ((root < 2) × (second < 40)) ⊎ (root ≡ 2) → arcs_from ((40 * root + second) ∷ arcs) ≡ root ∷ second ∷ arcs
first_from zero second arcs (inl h) =
    let lt = h.1 in
    let low : 40 * 0 + second < 40 = omega arith in
    let same : 40 * 0 + second ≡ second = omega arith in
    rw (lt-ltb (40 * 0 + second) 40 low, same) refl
first_from (suc zero) second arcs (inl h) =
    let lt = h.1 in
    let ge : 40 ≤ 40 * 1 + second = omega arith in
    let low : 40 * 1 + second < 80 = omega arith in
    let same : 40 * 1 + second - 40 ≡ second = omega arith in
    rw (le-ltb (40 * 1 + second) 40 ge, lt-ltb (40 * 1 + second) 80 low, same) refl
first_from (suc (suc root)) second arcs (inl h) = absurd (let lt = h.0 in omega arith)
first_from root second arcs (inr h) =
    let ge : 40 ≤ 40 * 2 + second = omega arith in
    let more : 80 ≤ 40 * 2 + second = omega arith in
    let same : 40 * 2 + second - 80 ≡ second = omega arith in
    subst (λ (r : ℕ). arcs_from ((40 * r + second) ∷ arcs) ≡ r ∷ second ∷ arcs) (sym h) (rw (le-ltb (40 * 2 + second) 40 ge, le-ltb (40 * 2 + second) 80 more, same) refl)

pub well_begun : (arcs : List ℕ) → IsOid arcs → is_oid arcs ≡ true
well_begun arcs h = h

subs_back : (arcs : List ℕ) → is_oid arcs ≡ true → arcs_from (subidentifiers arcs) ≡ arcs
subs_back [] h = refl
subs_back (root ∷ []) h = absurd cc
subs_back (root ∷ second ∷ arcs) h = first_from root second arcs (second_low root second (and_parts (nat_le (length (root ∷ second ∷ arcs)) 32) _ h).1)

pub root_small : (root second : ℕ) → ((root < 2) × (second < 40)) ⊎ (root ≡ 2) → root ≤ 2
root_small root second (inl h) = let lt = h.0 in omega arith
root_small root second (inr h) = omega arith

subs_small : (arcs : List ℕ) → is_oid arcs ≡ true → AllByRecursion (λ n. n < 2 ^ 32) arcs → AllSmall (subidentifiers arcs)
subs_small [] h s = tt
subs_small (root ∷ []) h s = (let lt = s.0 in omega arith, tt)
subs_small (root ∷ second ∷ arcs) h s =
    let le : root ≤ 2 = root_small root second (second_low root second (and_parts (nat_le (length (root ∷ second ∷ arcs)) 32) _ h).1) in
    (let lt = s.1.0 in omega arith, small_more arcs s.1.1)

-- ---- the rule of contents

judged : (o : Option (List ℕ)) (arcs : List ℕ) → judged_arcs o ≡ Some arcs → (ns : List ℕ) × (o ≡ Some ns) × (arcs_from ns ≡ arcs) × (list_all has_32_bits arcs ≡ true) × (is_oid arcs ≡ true)
judged None arcs e = absurd cc
judged (Some ns) arcs e =
    elim (chosen_some (list_all has_32_bits (arcs_from ns) && is_oid (arcs_from ns)) (Some (arcs_from ns)) None arcs e) [
      | inl t ↦
          let same : arcs_from ns ≡ arcs = let s : Some (arcs_from ns) ≡ Some arcs = t.1 in cc in
          let u = and_parts (list_all has_32_bits (arcs_from ns)) (is_oid (arcs_from ns)) t.0 in
          (ns, refl, same, ap (list_all has_32_bits) (sym same) ∙ u.0, ap is_oid (sym same) ∙ u.1)
      | inr t ↦ absurd (let none : None ≡ Some arcs = t.1 in cc)
    ]

pub arcs_sound : (c arcs : List ℕ) → AreOctets c → arcs_of c ≡ Some arcs → IsObjectId arcs c
unfolding arcs_of
arcs_sound c arcs are e =
    let j = judged (subidentifiers_of 0 false c) arcs e in
    let small = arcs_small arcs j.3 in
    let back = arcs_back j.0 (subst (λ (x : List ℕ). AllByRecursion (λ n. n < 2 ^ 32) x) (sym j.2) small) in
    let subs : subidentifiers arcs ≡ j.0 = ap subidentifiers (sym j.2) ∙ back.0 in
    record {
      is_oid = j.4;
      small = small;
      are = subst (λ (x : List ℕ). AreSubidentifiers x c) (sym subs) (sized_subs j.0 c back.1 (free_found c j.0 are j.1));
    }

pub arcs_complete : (c arcs : List ℕ) → IsObjectId arcs c → arcs_of c ≡ Some arcs
unfolding arcs_of
arcs_complete c arcs h =
    rw (subs_again (subidentifiers arcs) c (subs_small arcs h.is_oid h.small) h.are, subs_back arcs h.is_oid, small_arcs arcs h.small, well_begun arcs h.is_oid) refl

pub object_id_sound : (c : List ℕ) (v : Value) → AreOctets c → object_id_rule c ≡ Some v → ObjectIdIs v c
object_id_sound c v are e = by_arcs c v are (arcs_of c) refl e
  where
    by_arcs : (c : List ℕ) (v : Value) → AreOctets c → (o : Option (List ℕ)) → arcs_of c ≡ o → option_map object_id o ≡ Some v → ObjectIdIs v c
    by_arcs c v are None i e = absurd cc
    by_arcs c v are (Some arcs) i e =
        let same : object_id arcs ≡ v = let s : Some (object_id arcs) ≡ Some v = e in cc in
        subst (λ (x : Value). ObjectIdIs x c) same (arcs_sound c arcs are i)

pub object_id_complete : (c : List ℕ) (v : Value) → ObjectIdIs v c → object_id_rule c ≡ Some v
object_id_complete c (object_id arcs) h = rw (arcs_complete c arcs h) refl
object_id_complete c null h = absurd h
object_id_complete c (boolean b) h = absurd h
object_id_complete c (integer z) h = absurd h
object_id_complete c (octets os) h = absurd h
object_id_complete c (bits os n) h = absurd h
object_id_complete c (text os) h = absurd h
object_id_complete c (parts ps) h = absurd h
object_id_complete c (list vs) h = absurd h
object_id_complete c (chosen n v) h = absurd h
object_id_complete c (any os) h = absurd h
