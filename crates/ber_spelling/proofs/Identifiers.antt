-- Identifiers: what is read is spelled so, and what is spelled so is read.
use Rattle.std.proofs.Common.{◌≡◌, ◌≢◌, ℕ, zero, suc, ◌+◌, ◌-◌, ◌*◌, ◌%◌, ◌≤◌, ◌<◌, Bool, true, false, cond, List, [], ◌∷◌, ◌++◌, length, Option, Some, None, Ok, Err, refl, sym, ap, ◌∙◌, subst, arith, ◌⊎◌, inl, inr}
use Rattle.std.specs.Prelude.{nat_lt, nat_eq, slice_index}
use Rattle.std.proofs.lemmas.Bool.{lt-ltb, le-ltb, ltb-false, ltb-true, eqb-true, eqb-false, ne_eqb, or_parts}
use Rattle.std.proofs.lemmas.Bool.Decides.{nat_tests}
use Rattle.osi_base.specs.declared.layer_words.Kind.TheVariants.{Tag}
use Rattle.asn1_types.specs.declared.row.Class.{Class}
use Rattle.asn1_types.specs.declared.row.Class.TheVariants.{Universal, Application, Context, Private}
use Rattle.asn1_types.specs.Tags.{class_of, capped, leading}
use Rattle.ber_spelling.specs.declared.fault.ReadFault.{ReadFault}
use Rattle.ber_spelling.specs.declared.fault.ReadFault.TheVariants as faults
use Rattle.ber_spelling.specs.declared.spot.Scope.{Scope}
use Rattle.osi_base.specs.Octets.{AreOctets}
use Rattle.osi_base.proofs.OctetLaws.{octets_tail}
use Rattle.ber_spelling.specs.Reading.{Spot, Opened, Reading, ◌>>=◌, refuse, is_past, within}
use Rattle.ber_spelling.specs.Fields.{is_constructed, digits_at, opened_at, is_lax, high_at, identifier_at}
use Rattle.ber_spelling.specs.Spelling.{AreDigits, low_bits, number_128, IsBase128, IsIdentifier}
use Rattle.ber_spelling.proofs.Growing.{within_ok, within_is, lacking_not_ok}

-- a place lies within the limit and the enclosing contents
pub record IsIn (scope : Scope) (place : ℕ) : Type 0 where
  pub limit : place ≤ scope.limit
  pub end : is_past scope.end place ≡ false

pub in_before : (scope : Scope) (p q : ℕ) → p ≤ q → IsIn scope q → IsIn scope p
in_before scope p q le h = record { limit = omega (arith, h.limit); end = not_past scope.end h.end }
  where
    not_past : (end : Option ℕ) → is_past end q ≡ false → is_past end p ≡ false
    not_past None e = refl
    not_past (Some end) e = let more : q ≤ end = ltb-false end q e in le-ltb end p (omega arith)

pub is_in : (scope : Scope) (place until : ℕ) (x : Unit {0}) → within scope place until ≡ Ok x → IsIn scope until
is_in scope place until x e = let t = within_ok scope place until x e in record { limit = t.0; end = t.1 }

pub in_is : (scope : Scope) (place until : ℕ) → IsIn scope until → within scope place until ≡ Ok tt
in_is scope place until h = within_is scope place until h.limit h.end

-- what was read from a place on, and where reading goes on
pub record Taken (place : ℕ) (rest text : List ℕ) (to : Spot) : Type 0 where
  pub parts : rest ≡ text ++ to.rest
  pub onward : to.place ≡ place + length text

-- the value of a step that did not fail
pub bind_ok : {A B : Type 0} (r : Reading A) (f : A → Reading B) (y : B) → (r >>= f) ≡ Ok y → (x : A) × (r ≡ Ok x) × (f x ≡ Ok y)
bind_ok (Ok x) f y e = (x, refl, e)
bind_ok (Err d) f y e = absurd cc

pub chosen_ok : {A : Type 0} (b : Bool) (r s : Reading A) (y : A) → cond b r s ≡ Ok y → ((b ≡ true) × (r ≡ Ok y)) ⊎ ((b ≡ false) × (s ≡ Ok y))
chosen_ok true r s y e = inl (refl, e)
chosen_ok false r s y e = inr (refl, e)

pub unless_ok : {A : Type 0} (b : Bool) (f : ReadFault) (s : Reading A) (y : A) → cond b (Err f) s ≡ Ok y → (b ≡ false) × (s ≡ Ok y)
unless_ok true f s y e = absurd cc
unless_ok false f s y e = (refl, e)

abbrev pub done : {A : Type 0} → A → Reading A
done x = Ok x

pub ok_is : {A : Type 0} (x y : A) → done x ≡ done y → x ≡ y
ok_is x y e = cc

-- ---- the first octet

pub first_is : (first : ℕ) → first < 256 → first ≡ leading (class_of first) (is_constructed first) + first % 32
first_is first lt = grind (arith, nat_tests)

pub class_at : (class : Class) (constructed : Bool) (k : ℕ) → k < 32 → class_of (leading class constructed + k) ≡ class
class_at Universal true k lt = grind (arith, nat_tests)
class_at Universal false k lt = grind (arith, nat_tests)
class_at Application true k lt = grind (arith, nat_tests)
class_at Application false k lt = grind (arith, nat_tests)
class_at Context true k lt = grind (arith, nat_tests)
class_at Context false k lt = grind (arith, nat_tests)
class_at Private true k lt = grind (arith, nat_tests)
class_at Private false k lt = grind (arith, nat_tests)

pub form_at : (class : Class) (constructed : Bool) (k : ℕ) → k < 32 → is_constructed (leading class constructed + k) ≡ constructed
form_at Universal true k lt = grind (arith, nat_tests)
form_at Universal false k lt = grind (arith, nat_tests)
form_at Application true k lt = grind (arith, nat_tests)
form_at Application false k lt = grind (arith, nat_tests)
form_at Context true k lt = grind (arith, nat_tests)
form_at Context false k lt = grind (arith, nat_tests)
form_at Private true k lt = grind (arith, nat_tests)
form_at Private false k lt = grind (arith, nat_tests)

pub low_at : (class : Class) (constructed : Bool) (k : ℕ) → k < 32 → (leading class constructed + k) % 32 ≡ k
low_at Universal true k lt = omega arith
low_at Universal false k lt = omega arith
low_at Application true k lt = omega arith
low_at Application false k lt = omega arith
low_at Context true k lt = omega arith
low_at Context false k lt = omega arith
low_at Private true k lt = omega arith
low_at Private false k lt = omega arith

-- ---- digits

capped_digit : (a d : ℕ) → capped (128 * capped a + d) ≡ capped (128 * a + d)
capped_digit a d = omega arith

capped_again : (a : ℕ) → capped (capped a) ≡ capped a
capped_again a = omega arith

pub record DigitsFound (scope : Scope) (a from : ℕ) (ds : List ℕ) (n : ℕ) (s : Spot) : Type 0 where
  pub text : List ℕ
  pub taken : Taken from ds text s
  pub digits : AreDigits text
  pub number : n ≡ capped (number_128 a text)
  pub is_in : IsIn scope s.place

pub low_small : (d : ℕ) → d < 128 → low_bits d ≡ d
low_small d lt = rw (lt-ltb d 128 lt) refl

pub low_large : (d : ℕ) → 128 ≤ d → low_bits d ≡ d - 128
low_large d le = rw (le-ltb d 128 le) refl

pub digits_more : (d : ℕ) (text : List ℕ) → 128 ≤ d → d < 256 → AreDigits text → AreDigits (d ∷ text)
digits_more d [] le lt h = absurd h
digits_more d (e ∷ text) le lt h = (le, lt, h)

pub digits_found : (scope : Scope) (place a from : ℕ) (ds : List ℕ) (n : ℕ) (s : Spot) → AreOctets ds → digits_at scope place (capped a) from ds ≡ Ok (n, s) → DigitsFound scope a from ds n s
unfolding digits_at
digits_found scope place a from [] n s octets e = absurd (lacking_not_ok scope place from (n, s) e)
digits_found scope place a from (d ∷ ds) n s octets e =
    let b = bind_ok (within scope place (from + 1)) _ (n, s) e in
    elim (chosen_ok (nat_lt d 128) _ _ (n, s) b.2) [
      | inl t ↦
          let lt : d < 128 = ltb-true d 128 t.0 in
          let same = ok_is (capped (128 * capped a + d), record { place = from + 1; rest = ds }) (n, s) t.1 in
          let n-is : capped (128 * capped a + d) ≡ n = ap (λ (x : ℕ × Spot). x.0) same in
          let s-is : record { place = from + 1; rest = ds } ≡ s = ap (λ (x : ℕ × Spot). x.1) same in
          subst (λ (z : Spot). DigitsFound scope a from (d ∷ ds) n z) s-is (record {
            text = d ∷ [];
            taken = record { parts = refl; onward = refl };
            digits = lt;
            number = sym n-is ∙ capped_digit a d ∙ ap (λ (k : ℕ). capped (128 * a + k)) (sym (low_small d lt));
            is_in = is_in scope place (from + 1) b.0 b.1;
          })
      | inr t ↦
          let le : 128 ≤ d = ltb-false d 128 t.0 in
          let read : digits_at scope place (capped (128 * a + (d - 128))) (from + 1) ds ≡ Ok (n, s) = ap (λ (k : ℕ). digits_at scope place k (from + 1) ds) (sym (capped_digit a (d - 128))) ∙ t.1 in
          let f = digits_found scope place (128 * a + (d - 128)) (from + 1) ds n s (octets_tail d ds octets) read in
          record {
            text = d ∷ f.text;
            taken = record { parts = ap (λ (x : List ℕ). d ∷ x) f.taken.parts; onward = omega (arith, f.taken.onward) };
            digits = digits_more d f.text le (octets.each 0) f.digits;
            number = f.number ∙ ap (λ (k : ℕ). capped (number_128 (128 * a + k) f.text)) (sym (low_large d le));
            is_in = f.is_in;
          }
    ]

pub digits_again : (scope : Scope) (place a from : ℕ) (text rest : List ℕ) → AreDigits text → IsIn scope (from + length text) → digits_at scope place (capped a) from (text ++ rest) ≡ Ok (capped (number_128 a text), record { place = from + length text; rest = rest })
unfolding digits_at
digits_again scope place a from [] rest h in_here = absurd h
digits_again scope place a from (d ∷ []) rest h in_here =
    rw (in_is scope place (from + 1) in_here, lt-ltb d 128 h, capped_digit a d) refl
digits_again scope place a from (d ∷ e ∷ text) rest h in_here =
    let one : IsIn scope (from + 1) = in_before scope (from + 1) (from + length (d ∷ e ∷ text)) (omega arith) in_here in
    let there : from + length (d ∷ e ∷ text) ≡ from + 1 + length (e ∷ text) = omega arith in
    rw (in_is scope place (from + 1) one, le-ltb d 128 h.0, capped_digit a (d - 128))
    (digits_again scope place (128 * a + (d - 128)) (from + 1) (e ∷ text) rest h.2 (rw there at in_here)
    ∙ ap (λ (k : ℕ). Ok (capped (number_128 (128 * a + (d - 128)) (e ∷ text)), record { place = k; rest = rest })) (sym there))

-- ---- identifiers

pub record IdentifierFound (scope : Scope) (place : ℕ) (rest : List ℕ) (o : Opened) (s : Spot) : Type 0 where
  pub head : List ℕ
  pub number : ℕ
  pub taken : Taken place rest head s
  pub start : o.start ≡ record { place = place; rest = rest }
  pub is_identifier : IsIdentifier o.class o.constructed number head
  pub capped_number : o.number ≡ capped number
  pub level : 0 < scope.levels
  pub is_in : IsIn scope s.place

some_levels : (n : ℕ) → nat_eq n 0 ≡ false → 0 < n
some_levels zero e = absurd cc
some_levels (suc n) e = omega arith

first_same : (text rest whole : List ℕ) → AreDigits text → whole ≡ text ++ rest → slice_index whole 0 ≡ slice_index text 0
first_same [] rest whole h e = absurd h
first_same (d ∷ text) rest whole h e = ap (λ (x : List ℕ). slice_index x 0) e

found_as : (scope : Scope) (place : ℕ) (rest : List ℕ) (x y : Opened × Spot) → x ≡ y → IdentifierFound scope place rest x.0 x.1 → IdentifierFound scope place rest y.0 y.1
found_as scope place rest x y e h = subst (λ (z : Opened × Spot). IdentifierFound scope place rest z.0 z.1) e h

low_found : (scope : Scope) (place first : ℕ) (rest : List ℕ) (o : Opened) (s : Spot) → AreOctets (first ∷ rest) → 0 < scope.levels → IsIn scope (place + 1) → first % 32 ≢ 31
    → done {A = Opened × Spot} (opened_at place (first ∷ rest) first (first % 32), record { place = place + 1; rest = rest }) ≡ done (o, s) → IdentifierFound scope place (first ∷ rest) o s
low_found scope place first rest o s octets level here ne e =
    let small : first % 32 < 31 = omega arith in
    found_as scope place (first ∷ rest) _ (o, s) (ok_is {A = Opened × Spot} (opened_at place (first ∷ rest) first (first % 32), record { place = place + 1; rest = rest }) (o, s) e) (record {
      head = first ∷ [];
      number = first % 32;
      taken = record { parts = refl; onward = refl };
      start = refl;
      is_identifier = inl (small, first_is first (octets.each 0), refl);
      capped_number = omega arith;
      level = level;
      is_in = here;
    })

high_found : (scope : Scope) (place first : ℕ) (rest : List ℕ) (o : Opened) (s : Spot) → AreOctets (first ∷ rest) → 0 < scope.levels → first % 32 ≡ 31
    → high_at scope place first rest ≡ Ok (o, s) → IdentifierFound scope place (first ∷ rest) o s
unfolding high_at
high_found scope place first rest o s octets level is31 e =
    let b = bind_ok (digits_at scope place 0 (place + 1) rest) (λ number. cond (is_lax rest number.0) (refuse place Tag) (Ok (opened_at place (first ∷ rest) first number.0, number.1))) (o, s) e in
    let x : ℕ × Spot = b.0 in
    let f = digits_found scope place 0 (place + 1) rest x.0 x.1 (octets_tail first rest octets) b.1 in
    let u = unless_ok (is_lax rest x.0) (faults.NotSpelled place Tag) (Ok (opened_at place (first ∷ rest) first x.0, x.1)) (o, s) b.2 in
    let t = or_parts (nat_lt x.0 31) (nat_eq (slice_index rest 0) 128) u.0 in
    let large : 31 ≤ number_128 0 f.text = let ge : 31 ≤ x.0 = ltb-false x.0 31 t.0 in omega (arith, f.number) in
    let same = first_same f.text x.1.rest rest f.digits f.taken.parts in
    let lead : slice_index f.text 0 ≢ 128 = let ne : slice_index rest 0 ≢ 128 = eqb-false (slice_index rest 0) 128 t.1 in λ h. ne (same ∙ h) in
    let is : first ≡ leading (class_of first) (is_constructed first) + 31 = first_is first (octets.each 0) ∙ ap (λ (k : ℕ). leading (class_of first) (is_constructed first) + k) is31 in
    found_as scope place (first ∷ rest) _ (o, s) (ok_is {A = Opened × Spot} (opened_at place (first ∷ rest) first x.0, x.1) (o, s) u.1) (record {
      head = first ∷ f.text;
      number = number_128 0 f.text;
      taken = record { parts = ap (λ (z : List ℕ). first ∷ z) f.taken.parts; onward = omega (arith, f.taken.onward) };
      start = refl;
      is_identifier = inr (large, is, record { are = f.digits; shortest = lead; number = refl });
      capped_number = f.number;
      level = level;
      is_in = f.is_in;
    })

pub identifier_found : (scope : Scope) (place : ℕ) (rest : List ℕ) (o : Opened) (s : Spot) → AreOctets rest → identifier_at scope place rest ≡ Ok (o, s) → IdentifierFound scope place rest o s
unfolding identifier_at high_at
identifier_found scope place [] o s octets e = absurd cc
identifier_found scope place (first ∷ rest) o s octets e =
    let l = unless_ok (nat_eq scope.levels 0) (faults.TooDeep place) _ (o, s) e in
    let level : 0 < scope.levels = some_levels scope.levels l.0 in
    let w = bind_ok (within scope place (place + 1)) _ (o, s) l.1 in
    let here : IsIn scope (place + 1) = is_in scope place (place + 1) w.0 w.1 in
    elim (chosen_ok (nat_eq (first % 32) 31) _ _ (o, s) w.2) [
      | inl t ↦ high_found scope place first rest o s octets level (eqb-true (first % 32) 31 t.0) t.1
      | inr t ↦ low_found scope place first rest o s octets level here (eqb-false (first % 32) 31 t.0) t.1
    ]

no_levels : (n : ℕ) → 0 < n → nat_eq n 0 ≡ false
no_levels n lt = ne_eqb n 0 (omega arith)

low_again : (scope : Scope) (place : ℕ) (class : Class) (constructed : Bool) (number : ℕ) (rest : List ℕ) → number < 31 → 0 < scope.levels → IsIn scope (place + 1)
    → identifier_at scope place ((leading class constructed + number) ∷ rest) ≡ Ok (record { start = record { place = place; rest = (leading class constructed + number) ∷ rest }; class = class; constructed = constructed; number = capped number }, record { place = place + 1; rest = rest })
unfolding identifier_at
low_again scope place class constructed number rest lt level in_here =
    let less : number < 32 = omega arith in
    let ne : number ≢ 31 = omega arith in
    let cap : number ≡ capped number = omega arith in
    rw (no_levels scope.levels level, in_is scope place (place + 1) in_here, low_at class constructed number less, ne_eqb number 31 ne, class_at class constructed number less, form_at class constructed number less)
    (ap (λ (k : ℕ). Ok (record { start = record { place = place; rest = (leading class constructed + number) ∷ rest }; class = class; constructed = constructed; number = k }, record { place = place + 1; rest = rest })) cap)

high_again : (scope : Scope) (place : ℕ) (class : Class) (constructed : Bool) (number : ℕ) (digits rest : List ℕ) → 31 ≤ number → IsBase128 digits number → 0 < scope.levels → IsIn scope (place + suc (length digits))
    → identifier_at scope place ((leading class constructed + 31) ∷ (digits ++ rest)) ≡ Ok (record { start = record { place = place; rest = (leading class constructed + 31) ∷ (digits ++ rest) }; class = class; constructed = constructed; number = capped number }, record { place = place + suc (length digits); rest = rest })
unfolding identifier_at high_at
high_again scope place class constructed number digits rest ge base level in_here =
    let less : 31 < 32 = omega arith in
    let one : IsIn scope (place + 1) = in_before scope (place + 1) (place + suc (length digits)) (omega arith) in_here in
    let there : place + suc (length digits) ≡ place + 1 + length digits = omega arith in
    let read = digits_again scope place 0 (place + 1) digits rest base.are (rw there at in_here) in
    let lead : slice_index (digits ++ rest) 0 ≢ 128 = λ e. base.shortest (sym (first_same digits rest (digits ++ rest) base.are refl) ∙ e) in
    let large : 31 ≤ capped (number_128 0 digits) = omega (arith, base.number) in
    rw (no_levels scope.levels level, in_is scope place (place + 1) one, low_at class constructed 31 less, read, le-ltb (capped (number_128 0 digits)) 31 large, ne_eqb (slice_index (digits ++ rest) 0) 128 lead, class_at class constructed 31 less, form_at class constructed 31 less)
    (rw (base.number, there) refl)

pub identifier_again : (scope : Scope) (place : ℕ) (class : Class) (constructed : Bool) (number : ℕ) (head rest : List ℕ)
    → IsIdentifier class constructed number head → 0 < scope.levels → IsIn scope (place + length head)
    → identifier_at scope place (head ++ rest) ≡ Ok (record { start = record { place = place; rest = head ++ rest }; class = class; constructed = constructed; number = capped number }, record { place = place + length head; rest = rest })
identifier_again scope place class constructed number [] rest h level in_here = absurd h
identifier_again scope place class constructed number (first ∷ d ∷ digits) rest (inl h) level in_here = absurd (let e : (d ∷ digits) ≡ [] = h.2 in cc)
identifier_again scope place class constructed number (first ∷ []) rest (inl h) level in_here =
    subst (λ (f : ℕ). identifier_at scope place (f ∷ rest) ≡ Ok (record { start = record { place = place; rest = f ∷ rest }; class = class; constructed = constructed; number = capped number }, record { place = place + 1; rest = rest }))
    (sym h.1) (low_again scope place class constructed number rest h.0 level in_here)
identifier_again scope place class constructed number (first ∷ digits) rest (inr h) level in_here =
    subst (λ (f : ℕ). identifier_at scope place (f ∷ (digits ++ rest)) ≡ Ok (record { start = record { place = place; rest = f ∷ (digits ++ rest) }; class = class; constructed = constructed; number = capped number }, record { place = place + suc (length digits); rest = rest }))
    (sym h.1) (high_again scope place class constructed number digits rest h.0 h.2 level in_here)
