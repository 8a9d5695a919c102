-- Identifiers: a fault of reading is one by the grammar, and the other way round.
use Rattle.std.proofs.Common.{◌≡◌, ◌≢◌, ℕ, zero, suc, ◌+◌, ◌%◌, ◌<◌, Bool, true, false, ◌||◌, cond, List, [], ◌∷◌, ◌++◌, length, Ok, Err, refl, sym, ap, ◌∙◌, subst, arith, ◌⊎◌, inl, inr}
use Rattle.std.specs.Prelude.{nat_lt, nat_eq, slice_index}
use Rattle.std.proofs.lemmas.Bool.{lt-ltb, ltb-true, eqb-true, ne_eqb}
use Rattle.osi_base.specs.declared.layer_words.Kind.TheVariants.{Tag}
use Rattle.asn1_types.specs.Tags.{capped}
use Rattle.ber_spelling.specs.declared.fault.ReadFault.{ReadFault}
use Rattle.ber_spelling.specs.declared.fault.ReadFault.TheVariants.{NotSpelled, Short, TooDeep}
use Rattle.ber_spelling.specs.declared.spot.Scope.{Scope}
use Rattle.osi_base.specs.Octets.{AreOctets}
use Rattle.osi_base.proofs.OctetLaws.{octets_tail}
use Rattle.ber_spelling.specs.Reading.{Spot, Opened, Reading, refuse, within}
use Rattle.ber_spelling.specs.Fields.{digits_at, opened_at, is_lax, high_at, identifier_at}
use Rattle.ber_spelling.specs.Spelling.{AreDigits, number_128}
use Rattle.ber_spelling.proofs.Identifiers.{digits_found, digits_again, identifier_found, identifier_again}
use Rattle.ber_faults.specs.Fields.{IsWithin, DigitsFault, IdentifierFault, IsLax, Opens}
use Rattle.ber_faults.proofs.Steps.{bind_err, bind_fails, bind_goes, cond_err, cond_yes, cond_no, failed, err_is, not_err, within_err, crosses_err, within_ok, within_goes, in_within, within_in}
use Rattle.ber_faults.proofs.Digits.{digits_err, digits_cross}

or_cases : (a b : Bool) → (a || b) ≡ true → (a ≡ true) ⊎ (b ≡ true)
or_cases true b e = inl refl
or_cases false b e = inr e

or_left : (a b : Bool) → a ≡ true → (a || b) ≡ true
or_left true b e = refl
or_left false b e = absurd cc

or_right : (a b : Bool) → b ≡ true → (a || b) ≡ true
or_right true b e = refl
or_right false b e = e

first_same : (text rest whole : List ℕ) → AreDigits text → whole ≡ text ++ rest → slice_index whole 0 ≡ slice_index text 0
first_same [] rest whole h e = absurd h
first_same (d ∷ text) rest whole h e = ap (λ (x : List ℕ). slice_index x 0) e

lax_found : (octets text rest : List ℕ) (n : ℕ) → AreDigits text → octets ≡ text ++ rest → n ≡ capped (number_128 0 text) → is_lax octets n ≡ true → IsLax text
lax_found octets text rest n are parts is e =
    elim (or_cases (nat_lt n 31) (nat_eq (slice_index octets 0) 128) e) [
      | inl t ↦ let lt : n < 31 = ltb-true n 31 t in inl (omega (arith, is))
      | inr t ↦ inr (sym (first_same text rest octets are parts) ∙ eqb-true (slice_index octets 0) 128 t)
    ]

lax_is : (octets text rest : List ℕ) → AreDigits text → octets ≡ text ++ rest → IsLax text → is_lax octets (capped (number_128 0 text)) ≡ true
lax_is octets text rest are parts (inl lt) =
    let small : capped (number_128 0 text) < 31 = omega arith in
    or_left (nat_lt (capped (number_128 0 text)) 31) (nat_eq (slice_index octets 0) 128) (lt-ltb (capped (number_128 0 text)) 31 small)
lax_is octets text rest are parts (inr e) =
    or_right (nat_lt (capped (number_128 0 text)) 31) (nat_eq (slice_index octets 0) 128) (ap (λ (k : ℕ). nat_eq k 128) (first_same text rest octets are parts ∙ e))

high_err : (scope : Scope) (place first : ℕ) (rest : List ℕ) (f : ReadFault) → (f ≡ Short → ⊥) → AreOctets rest → IsWithin scope (place + 1) → high_at scope place first rest ≡ Err f → DigitsFault scope place rest f
unfolding high_at
high_err scope place first rest f ne are here e =
    elim (bind_err (digits_at scope place 0 (place + 1) rest) (λ number. cond (is_lax rest number.0) (refuse place Tag) (Ok (opened_at place (first ∷ rest) first number.0, number.1))) f e) [
      | inl t ↦ let d = digits_err scope place 0 (place + 1) rest f ne here t in (d.digits, d.more, d.parts, d.within, inl (d.are, d.goes_on, d.crosses))
      | inr t ↦ elim (cond_err (is_lax rest t.0.0) (refuse place Tag) _ f t.2) [
        | inl u ↦
            let d = digits_found scope place 0 (place + 1) rest t.0.0 t.0.1 are t.1 in
            let there : IsWithin scope (place + 1 + length d.text) = subst (IsWithin scope) d.taken.onward (within_in scope t.0.1.place d.is_in) in
            (d.text, t.0.1.rest, d.taken.parts, there, inr (d.digits, lax_found rest d.text t.0.1.rest t.0.0 d.digits d.taken.parts d.number u.0, sym (err_is {A = Opened × Spot} (NotSpelled place Tag) f u.1)))
        | inr u ↦ absurd (not_err {A = Opened × Spot} (opened_at place (first ∷ rest) first t.0.0, t.0.1) f u.1)
      ]
    ]

some_levels : (n : ℕ) → nat_eq n 0 ≡ false → 0 < n
some_levels zero e = absurd cc
some_levels (suc n) e = omega arith

pub identifier_err : (scope : Scope) (place : ℕ) (rest : List ℕ) (f : ReadFault) → (f ≡ Short → ⊥) → AreOctets rest → identifier_at scope place rest ≡ Err f → IdentifierFault scope place rest f
unfolding identifier_at
identifier_err scope place [] f ne are e = absurd (ne (sym (err_is {A = Opened × Spot} Short f e)))
identifier_err scope place (first ∷ rest) f ne are e =
    elim (cond_err (nat_eq scope.levels 0) (Err (TooDeep place)) _ f e) [
      | inl t ↦ inl (eqb-true scope.levels 0 t.0, sym (err_is {A = Opened × Spot} (TooDeep place) f t.1))
      | inr t ↦
          let level : 0 < scope.levels = some_levels scope.levels t.0 in
          elim (bind_err (within scope place (place + 1)) _ f t.1) [
            | inl u ↦ inr (level, inl (within_err scope place (place + 1) f u))
            | inr u ↦
                let here : IsWithin scope (place + 1) = within_ok scope place (place + 1) u.0 u.1 in
                elim (cond_err (nat_eq (first % 32) 31) _ _ f u.2) [
                  | inl w ↦ inr (level, inr (here, eqb-true (first % 32) 31 w.0, high_err scope place first rest f ne (octets_tail first rest are) here w.1))
                  | inr w ↦ absurd (not_err {A = Opened × Spot} (opened_at place (first ∷ rest) first (first % 32), record { place = place + 1; rest = rest }) f w.1)
                ]
          ]
    ]

high_fails : (scope : Scope) (place first : ℕ) (rest : List ℕ) (f : ReadFault) → DigitsFault scope place rest f → high_at scope place first rest ≡ Err f
unfolding high_at
high_fails scope place first rest f h =
    elim h.4 [
      | inl c ↦ bind_fails (digits_at scope place 0 (place + 1) rest) (λ number. cond (is_lax rest number.0) (refuse place Tag) (Ok (opened_at place (first ∷ rest) first number.0, number.1))) f
          (ap (digits_at scope place 0 (place + 1)) h.2 ∙ digits_cross scope place 0 (place + 1) h.0 h.1 f c.0 h.3 c.1 c.2)
      | inr c ↦ bind_goes (digits_at scope place 0 (place + 1) rest) (λ number. cond (is_lax rest number.0) (refuse place Tag) (Ok (opened_at place (first ∷ rest) first number.0, number.1)))
          (capped (number_128 0 h.0), record { place = place + 1 + length h.0; rest = h.1 }) (Err f)
          (ap (digits_at scope place 0 (place + 1)) h.2 ∙ digits_again scope place 0 (place + 1) h.0 h.1 c.0 (in_within scope (place + 1 + length h.0) h.3))
          (cond_yes (is_lax rest (capped (number_128 0 h.0))) _ _ _ (lax_is rest h.0 h.1 c.0 h.2 c.1) (ap (λ (g : ReadFault). failed {A = Opened × Spot} g) (sym c.2)))
    ]

pub identifier_fails : (scope : Scope) (place : ℕ) (rest : List ℕ) (f : ReadFault) → IdentifierFault scope place rest f → identifier_at scope place rest ≡ Err f
unfolding identifier_at
identifier_fails scope place [] f h = absurd h
identifier_fails scope place (first ∷ rest) f (inl h) =
    cond_yes (nat_eq scope.levels 0) _ _ _ (ap (λ (n : ℕ). nat_eq n 0) h.0) (ap (λ (g : ReadFault). failed {A = Opened × Spot} g) (sym h.1))
identifier_fails scope place (first ∷ rest) f (inr h) =
    let level : scope.levels ≢ 0 = λ none. let lt = h.0 in omega arith in
    cond_no (nat_eq scope.levels 0) _ _ _ (ne_eqb scope.levels 0 level) (elim h.1 [
      | inl c ↦ bind_fails (within scope place (place + 1)) _ f (crosses_err scope place (place + 1) f c)
      | inr c ↦ bind_goes (within scope place (place + 1)) _ tt (Err f) (within_goes scope place (place + 1) c.0)
          (cond_yes (nat_eq (first % 32) 31) _ _ _ (ap (λ (n : ℕ). nat_eq n 31) c.1) (high_fails scope place first rest f c.2))
    ])

-- ---- identifiers that are right

pub opens_found : (scope : Scope) (place : ℕ) (rest : List ℕ) (o : Opened) (s : Spot) → AreOctets rest → identifier_at scope place rest ≡ Ok (o, s) → Opens scope place rest o s
opens_found scope place rest o s are e =
    let i = identifier_found scope place rest o s are e in
    record { head = i.head; number = i.number; parts = i.taken.parts; onward = i.taken.onward; starts = i.start; is_identifier = i.is_identifier; is_number = i.capped_number; level = i.level; within = within_in scope s.place i.is_in }

abbrev opened_so : Opened → Spot → Spot × ℕ × ℕ → Reading (Opened × Spot)
opened_so o s x = Ok (record { start = x.0; class = o.class; constructed = o.constructed; number = x.1 }, record { place = x.2; rest = s.rest })

pub opens_read : (scope : Scope) (place : ℕ) (rest : List ℕ) (o : Opened) (s : Spot) → Opens scope place rest o s → identifier_at scope place rest ≡ Ok (o, s)
opens_read scope place rest o s h =
    let here = in_within scope (place + length h.head) (subst (IsWithin scope) h.onward h.within) in
    let read = identifier_again scope place o.class o.constructed h.number h.head s.rest h.is_identifier h.level here in
    let start : record { place = place; rest = h.head ++ s.rest } ≡ o.start = ap (λ (x : List ℕ). record { place = place; rest = x }) (sym h.parts) ∙ sym h.starts in
    let number : capped h.number ≡ o.number = sym h.is_number in
    let onward : place + length h.head ≡ s.place = sym h.onward in
    ap (identifier_at scope place) h.parts ∙ read ∙ ap (opened_so o s) (λ i. (start i, number i, onward i))
