-- One whole value, as `fits` tests it.
use Rattle.std.proofs.Common.{◌≡◌, ◌≢◌, ℕ, zero, suc, ◌+◌, ◌-◌, ◌*◌, ◌%◌, ◌<◌, ◌≤◌, Bool, true, false, ◌&&◌, ◌||◌, cond, List, [], ◌∷◌, ◌++◌, length, take, drop, Option, Some, None, refl, sym, ap, ◌∙◌, subst, arith, append_assoc, length-take, inl, inr}
use Rattle.std.specs.Prelude.{option_and_then, nat_lt, nat_le, nat_eq}
use Rattle.std.proofs.lemmas.Bool.{cases_lt, lt-ltb, le-ltb, ltb-true, ltb-false, leb-true, leb-false, eqb-true, eqb-false, ne_eqb, and_parts, or_parts}
use Rattle.std.proofs.lemmas.List.{take-append-drop, append-nil}
use Rattle.asn1_types.specs.declared.row.Class.{Class}
use Rattle.asn1_types.specs.declared.row.Class.TheVariants.{Universal, Application, Context, Private}
use Rattle.asn1_types.specs.Rows.{is_no_tag, same_class}
use Rattle.asn1_types.specs.Whole.{number_256, behind_digits, behind_high, behind_identifier, behind_octets, behind_counted, behind_sized, is_constructed as is_formed, is_marked, is_ended, behind_values, behind_length, behind_whole, is_nothing, is_whole}
use Rattle.asn1_types.specs.Tags.{class_of, leading}
use Rattle.ber_spelling.specs.Fields.{is_constructed}
use Rattle.ber_spelling.specs.Spelling.{AreDigits, low_bits, number_128, IsBase128, IsIdentifier, IsLength, IsSized, AreAll, IsMarked, IsWhole}
use Rattle.ber_spelling.proofs.Identifiers.{first_is}
use Rattle.ber_spelling.proofs.Steady.{regroup, regroup_marked}

pub cond_some : {A : Type 0} (b : Bool) (o : Option A) (x : A) → cond b None o ≡ Some x → (b ≡ false) × (o ≡ Some x)
cond_some true o x e = absurd cc
cond_some false o x e = (refl, e)

-- ---- lengths

some_cond : {A : Type 0} (b : Bool) (o : Option A) (x : A) → cond b o None ≡ Some x → (b ≡ true) × (o ≡ Some x)
some_cond true o x e = (refl, e)
some_cond false o x e = absurd cc

behind_taken : (count : ℕ) (octets rest : List ℕ) → behind_octets count octets ≡ Some rest → (count ≤ length octets) × (octets ≡ take count octets ++ rest)
behind_taken count octets rest e =
    let t = some_cond (nat_le count (length octets)) (Some (drop count octets)) rest e in
    let same : drop count octets ≡ rest = let f = t.1 in cc in
    (leb-true count (length octets) t.0, sym (take-append-drop count octets) ∙ ap (λ (x : List ℕ). take count octets ++ x) same)

record Sized (octets rest : List ℕ) : Type 0 where
  size : List ℕ
  contents : List ℕ
  is_length : IsLength false size (length contents)
  are : octets ≡ size ++ (contents ++ rest)

sized : (octets rest : List ℕ) → behind_sized octets ≡ Some rest → Sized octets rest
sized [] rest e = absurd cc
sized (first ∷ more) rest e = by_test (nat_lt first 128) refl e
  where
    by_test : (b : Bool) → nat_lt first 128 ≡ b → cond b (behind_octets first more) (behind_counted (first - 128) more) ≡ Some rest → Sized (first ∷ more) rest
    by_test true t e =
        let k = behind_taken first more rest e in
        let len : length (take first more) ≡ first = omega (arith, length-take first more, k.0) in
        record { size = first ∷ []; contents = take first more; is_length = inl (ltb-true first 128 t, refl, len); are = ap (λ (x : List ℕ). first ∷ x) k.1 }
    by_test false t e =
        let n : ℕ = first - 128 in
        let number : ℕ = number_256 0 (take n more) in
        let a = some_cond (nat_le 1 n && nat_le n 8 && nat_le n (length more)) (behind_octets number (drop n more)) rest e in
        let b = and_parts (nat_le 1 n && nat_le n 8) (nat_le n (length more)) a.0 in
        let d = and_parts (nat_le 1 n) (nat_le n 8) b.0 in
        let k = behind_taken number (drop n more) rest a.1 in
        let ge : 128 ≤ first = ltb-false first 128 t in
        let some : 1 ≤ n = leb-true 1 n d.0 in
        let few : n ≤ 8 = leb-true n 8 d.1 in
        let there : n ≤ length more = leb-true n (length more) b.1 in
        let len : length (take n more) ≡ n = omega (arith, length-take n more) in
        let all : length (take number (drop n more)) ≡ number = omega (arith, length-take number (drop n more), k.0) in
        record {
          size = first ∷ take n more;
          contents = take number (drop n more);
          is_length = inr (record { size = omega arith; some = omega arith; few = omega arith; number = sym all; shortest = λ f. absurd cc });
          are = ap (λ (x : List ℕ). first ∷ x) (sym (take-append-drop n more) ∙ ap (λ (x : List ℕ). take n more ++ x) k.1);
        }

-- ---- identifiers

record Digits (octets rest : List ℕ) : Type 0 where
  digits : List ℕ
  are : AreDigits digits
  parts : octets ≡ digits ++ rest

digits_of : (octets rest : List ℕ) → behind_digits octets ≡ Some rest → Digits octets rest
digits_of [] rest e = absurd cc
digits_of (d ∷ ds) rest e = by_test (nat_lt d 128) refl (nat_lt d 256) refl e (λ f. digits_of ds rest f)
  where
    more : (d : ℕ) (ds rest : List ℕ) → 128 ≤ d → d < 256 → Digits ds rest → Digits (d ∷ ds) rest
    more d ds rest le lt h = record { digits = d ∷ h.digits; are = front d h.digits le lt h.are; parts = ap (λ (x : List ℕ). d ∷ x) h.parts }
      where
        front : (d : ℕ) (b : List ℕ) → 128 ≤ d → d < 256 → AreDigits b → AreDigits (d ∷ b)
        front d [] le lt h = absurd h
        front d (e ∷ b) le lt h = (le, lt, h)

    by_test : (a : Bool) → nat_lt d 128 ≡ a → (b : Bool) → nat_lt d 256 ≡ b → cond a (Some ds) (cond b (behind_digits ds) None) ≡ Some rest → (behind_digits ds ≡ Some rest → Digits ds rest) → Digits (d ∷ ds) rest
    by_test true t b u e h = let same : ds ≡ rest = cc in record { digits = d ∷ []; are = ltb-true d 128 t; parts = ap (λ (x : List ℕ). d ∷ x) same }
    by_test false t true u e h = more d ds rest (ltb-false d 128 t) (ltb-true d 256 u) (h e)
    by_test false t false u e h = absurd cc

-- digits say at least what was before them
at_least : (n : ℕ) (ds : List ℕ) → n ≤ number_128 n ds
at_least n [] = omega arith
at_least n (d ∷ ds) = omega (arith, at_least (128 * n + low_bits d) ds)

record High (octets rest : List ℕ) : Type 0 where
  digits : List ℕ
  number : ℕ
  base : IsBase128 digits number
  large : 31 ≤ number
  parts : octets ≡ digits ++ rest

large_digits : (d : ℕ) (ds : List ℕ) → d ≢ 128 → 31 ≤ d → AreDigits (d ∷ ds) → 31 ≤ number_128 0 (d ∷ ds)
large_digits d [] ne le h = let low : low_bits d ≡ d = rw (lt-ltb d 128 h) refl in omega arith
large_digits d (e ∷ ds) ne le h =
    let low : low_bits d ≡ d - 128 = rw (le-ltb d 128 h.0) refl in
    let one : 1 ≤ 128 * 0 + low_bits d = omega (arith, h.0, ne_lt d ne h.0) in
    let more : 128 * (128 * 0 + low_bits d) + low_bits e ≤ number_128 (128 * (128 * 0 + low_bits d) + low_bits e) ds = at_least (128 * (128 * 0 + low_bits d) + low_bits e) ds in
    omega arith
  where
    ne_lt : (d : ℕ) → d ≢ 128 → 128 ≤ d → 129 ≤ d
    ne_lt d ne le = ltb-false d 129 (by_test (nat_lt d 129) refl)
      where
        by_test : (b : Bool) → nat_lt d 129 ≡ b → nat_lt d 129 ≡ false
        by_test true t = let lt : d < 129 = ltb-true d 129 t in absurd (ne (omega arith))
        by_test false t = t

high_of : (octets rest : List ℕ) → behind_high octets ≡ Some rest → High octets rest
high_of [] rest e = absurd cc
high_of (d ∷ ds) rest e =
    let t = cond_some (nat_lt d 31 || nat_eq d 128) (behind_digits (d ∷ ds)) rest e in
    let u = or_parts (nat_lt d 31) (nat_eq d 128) t.0 in
    from_digits d ds rest (eqb-false d 128 u.1) (ltb-false d 31 u.0) (digits_of (d ∷ ds) rest t.1)
  where
    by_list : (d : ℕ) (ds rest digits : List ℕ) → d ≢ 128 → 31 ≤ d → AreDigits digits → (d ∷ ds) ≡ digits ++ rest → High (d ∷ ds) rest
    by_list d ds rest [] ne le h p = absurd h
    by_list d ds rest (x ∷ xs) ne le h p =
        let same : d ≡ x = cc in
        record {
          digits = x ∷ xs;
          number = number_128 0 (x ∷ xs);
          base = record { are = h; shortest = λ f. ne (same ∙ f); number = refl };
          large = large_digits x xs (λ f. ne (same ∙ f)) (omega arith) h;
          parts = p;
        }

    from_digits : (d : ℕ) (ds rest : List ℕ) → d ≢ 128 → 31 ≤ d → Digits (d ∷ ds) rest → High (d ∷ ds) rest
    from_digits d ds rest ne le h = by_list d ds rest h.digits ne le h.are h.parts

no_tag : (first : ℕ) → first ≢ 0 → first ≢ 32 → is_no_tag (class_of first) (first % 32) ≡ false
no_tag first ne more = by_test (nat_lt first 64) refl (nat_lt first 128) (nat_lt first 192)
  where
    by_test : (a : Bool) → nat_lt first 64 ≡ a → (b c : Bool) → is_no_tag (cond a Universal (cond b Application (cond c Context Private))) (first % 32) ≡ false
    by_test true t b c = let lt : first < 64 = ltb-true first 64 t in ne_eqb (first % 32) 0 (λ e. two first ne more lt e)
      where
        two : (k : ℕ) → k ≢ 0 → k ≢ 32 → k < 64 → k % 32 ≡ 0 → ⊥
        two k ne more lt e = elim (cases_lt k 32) [ inl low ↦ ne (omega arith) | inr high ↦ more (omega arith) ]
    by_test false t true c = refl
    by_test false t false true = refl
    by_test false t false false = refl

record Identified (octets rest : List ℕ) : Type 0 where
  class : Class
  constructed : Bool
  number : ℕ
  is_tag : is_no_tag class number ≡ false
  head : List ℕ
  is_identifier : IsIdentifier class constructed number head
  formed : is_formed octets ≡ constructed
  parts : octets ≡ head ++ rest

and_false : (b : Bool) → (b && false) ≡ false
and_false true = refl
and_false false = refl

high_tag : (class : Class) (number : ℕ) → 31 ≤ number → is_no_tag class number ≡ false
high_tag class number le = rw (ne_eqb number 0 (λ e. omega arith)) (and_false (same_class class Universal))

identified : (octets rest : List ℕ) → behind_identifier octets ≡ Some rest → Identified octets rest
identified [] rest e = absurd cc
identified (first ∷ more) rest e =
    let t = cond_some (nat_eq first 0 || nat_eq first 32 || nat_le 256 first) (cond (nat_eq (first % 32) 31) (behind_high more) (Some more)) rest e in
    let u = or_parts (nat_eq first 0 || nat_eq first 32) (nat_le 256 first) t.0 in
    let w = or_parts (nat_eq first 0) (nat_eq first 32) u.0 in
    by_form first more rest (eqb-false first 0 w.0) (eqb-false first 32 w.1) (leb-false 256 first u.1) (nat_eq (first % 32) 31) refl t.1
  where
    by_form : (first : ℕ) (more rest : List ℕ) → first ≢ 0 → first ≢ 32 → first < 256 → (b : Bool) → nat_eq (first % 32) 31 ≡ b → cond b (behind_high more) (Some more) ≡ Some rest → Identified (first ∷ more) rest
    by_form first more rest ne two lt true t e =
        let h = high_of more rest e in
        let k : first % 32 ≡ 31 = eqb-true (first % 32) 31 t in
        record {
          class = class_of first;
          constructed = is_constructed first;
          number = h.number;
          is_tag = high_tag (class_of first) h.number h.large;
          head = first ∷ h.digits;
          is_identifier = inr (h.large, first_is first lt ∙ ap (λ (n : ℕ). leading (class_of first) (is_constructed first) + n) k, h.base);
          formed = refl;
          parts = ap (λ (x : List ℕ). first ∷ x) h.parts;
        }
    by_form first more rest ne two lt false t e =
        let same : more ≡ rest = cc in
        let k : first % 32 ≢ 31 = eqb-false (first % 32) 31 t in
        record {
          class = class_of first;
          constructed = is_constructed first;
          number = first % 32;
          is_tag = no_tag first ne two;
          head = first ∷ [];
          is_identifier = inl (below (first % 32) (omega arith) k, first_is first lt, refl);
          formed = refl;
          parts = ap (λ (x : List ℕ). first ∷ x) same;
        }
      where
        below : (k : ℕ) → k < 32 → k ≢ 31 → k < 31
        below k lt ne = elim (cases_lt k 31) [ inl low ↦ low | inr high ↦ absurd (ne (omega arith)) ]

-- ---- whole values

then_some : (f : List ℕ → Option (List ℕ)) (o : Option (List ℕ)) (x : List ℕ) → option_and_then f o ≡ Some x → (y : List ℕ) × (o ≡ Some y) × (f y ≡ Some x)
then_some f None x e = absurd cc
then_some f (Some y) x e = (y, refl, e)

record Behind (depth : ℕ) (octets rest : List ℕ) : Type 0 where
  text : List ℕ
  parts : octets ≡ text ++ rest
  whole : IsWhole depth text

record Values (depth : ℕ) (octets rest : List ℕ) : Type 0 where
  values : List (List ℕ)
  contents : List ℕ
  holds : AreAll (IsWhole depth) values contents
  parts : octets ≡ contents ++ (0 ∷ 0 ∷ rest)

ended_is : (octets : List ℕ) → is_ended octets ≡ true → octets ≡ 0 ∷ 0 ∷ drop 2 octets
ended_is [] e = absurd cc
ended_is (first ∷ []) e = absurd cc
ended_is (first ∷ second ∷ rest) e =
    let t = and_parts (nat_eq first 0) (nat_eq second 0) e in
    ap (λ (x : ℕ). x ∷ second ∷ rest) (eqb-true first 0 t.0) ∙ ap (λ (x : ℕ). 0 ∷ x ∷ rest) (eqb-true second 0 t.1)

marked_is : (octets : List ℕ) → is_marked octets ≡ true → octets ≡ 128 ∷ drop 1 octets
marked_is [] e = absurd cc
marked_is (first ∷ rest) e = ap (λ (x : ℕ). x ∷ rest) (eqb-true first 128 e)

values_are : (depth : ℕ) → ((octets rest : List ℕ) → behind_whole depth octets ≡ Some rest → Behind depth octets rest) → (turns : ℕ) (octets rest : List ℕ) → behind_values (behind_whole depth) turns octets ≡ Some rest → Values depth octets rest
unfolding behind_values
values_are depth h zero octets rest e = absurd cc
values_are depth h (suc turns) octets rest e = by_test (is_ended octets) refl e (λ x g. values_are depth h turns x rest g)
  where
    by_test : (b : Bool) → is_ended octets ≡ b → cond b (Some (drop 2 octets)) (option_and_then (behind_values (behind_whole depth) turns) (behind_whole depth octets)) ≡ Some rest
        → ((x : List ℕ) → behind_values (behind_whole depth) turns x ≡ Some rest → Values depth x rest) → Values depth octets rest
    by_test true t e later =
        let same : drop 2 octets ≡ rest = cc in
        record { values = []; contents = []; holds = refl; parts = ended_is octets t ∙ ap (λ (x : List ℕ). 0 ∷ 0 ∷ x) same }
    by_test false t e later =
        let b = then_some (behind_values (behind_whole depth) turns) (behind_whole depth octets) rest e in
        let w = h octets b.0 b.1 in
        let r = later b.0 b.2 in
        record {
          values = w.text ∷ r.values;
          contents = w.text ++ r.contents;
          holds = (r.contents, refl, w.whole, r.holds);
          parts = w.parts ∙ ap (λ (x : List ℕ). w.text ++ x) r.parts ∙ sym (append_assoc w.text r.contents (0 ∷ 0 ∷ rest));
        }

behind_is : (depth : ℕ) (octets rest : List ℕ) → behind_whole depth octets ≡ Some rest → Behind depth octets rest
unfolding behind_whole
behind_is zero octets rest e = absurd cc
behind_is (suc inner) octets rest e =
    let b = then_some (behind_length (behind_whole inner) (is_formed octets)) (behind_identifier octets) rest e in
    by_test b.0 (identified octets b.0 b.1) (is_marked b.0 && is_formed octets) refl b.2 (λ os r g. behind_is inner os r g)
  where
    by_test : (more : List ℕ) → Identified octets more → (b : Bool) → (is_marked more && is_formed octets) ≡ b
        → cond b (behind_values (behind_whole inner) (length (drop 1 more)) (drop 1 more)) (behind_sized more) ≡ Some rest
        → ((os r : List ℕ) → behind_whole inner os ≡ Some r → Behind inner os r) → Behind (suc inner) octets rest
    by_test more i true t e h =
        let both = and_parts (is_marked more) (is_formed octets) t in
        let v = values_are inner h (length (drop 1 more)) (drop 1 more) rest e in
        let formed : i.constructed ≡ true = sym i.formed ∙ both.1 in
        let text : List ℕ = i.head ++ (128 ∷ (v.contents ++ (0 ∷ 0 ∷ []))) in
        let whole : IsMarked (IsWhole inner) text = record {
          class = i.class;
          number = i.number;
          is_tag = i.is_tag;
          head = i.head;
          values = v.values;
          contents = v.contents;
          is_identifier = subst (λ (f : Bool). IsIdentifier i.class f i.number i.head) formed i.is_identifier;
          holds = v.holds;
          are = refl;
        } in
        record { text = text; parts = i.parts ∙ ap (λ (x : List ℕ). i.head ++ x) (marked_is more both.0 ∙ ap (λ (x : List ℕ). 128 ∷ x) v.parts) ∙ sym (regroup_marked i.head v.contents rest); whole = inr whole }
    by_test more i false t e h =
        let s = sized more rest e in
        let text : List ℕ = i.head ++ (s.size ++ s.contents) in
        let whole : IsSized text = record { class = i.class; constructed = i.constructed; number = i.number; is_tag = i.is_tag; head = i.head; size = s.size; contents = s.contents; is_identifier = i.is_identifier; is_length = s.is_length; are = refl } in
        record { text = text; parts = i.parts ∙ ap (λ (x : List ℕ). i.head ++ x) s.are ∙ sym (regroup i.head s.size s.contents rest); whole = inl whole }

pub whole_is : (os : List ℕ) → is_whole os ≡ true → IsWhole 32 os
unfolding is_whole
whole_is os e = by_rest (behind_whole 32 os) refl e
  where
    by_rest : (o : Option (List ℕ)) → behind_whole 32 os ≡ o → is_nothing o ≡ true → IsWhole 32 os
    by_rest None t e = absurd cc
    by_rest (Some (octet ∷ rest)) t e = absurd cc
    by_rest (Some []) t e =
        let b = behind_is 32 os [] t in
        subst (IsWhole 32) (sym (b.parts ∙ append-nil b.text)) b.whole
