-- Lengths and contents: a fault of reading is one by the grammar, and the other way round.
use Rattle.std.proofs.Common.{◌≡◌, ◌≢◌, ℕ, ◌+◌, ◌-◌, ◌<◌, ◌≤◌, Bool, true, false, not, ◌&&◌, ◌||◌, cond, List, [], ◌∷◌, ◌++◌, length, take, drop, Ok, Err, refl, sym, ap, ◌∙◌, subst, arith, append_assoc, length-append, ◌⊎◌, inl, inr}
use Rattle.std.specs.Prelude.{nat_lt, nat_le, nat_eq, slice_index}
use Rattle.std.proofs.lemmas.Bool.{lt-ltb, le-ltb, ltb-false, ltb-true, eqb-true, eqb-false, ne_eqb, and_parts, lt-leb}
use Rattle.std.proofs.lemmas.List.{take_at, drop_at, take-append-drop, length-take}
use Rattle.osi_base.specs.declared.layer_words.Kind.TheVariants.{Length, Form}
use Rattle.asn1_types.specs.Whole.{number_256}
use Rattle.ber_spelling.specs.declared.fault.ReadFault.{ReadFault}
use Rattle.ber_spelling.specs.declared.fault.ReadFault.TheVariants.{NotSpelled, Short}
use Rattle.ber_spelling.specs.declared.spot.Scope.{Scope}
use Rattle.ber_spelling.specs.Reading.{Spot, Reading, refuse, is_past, within}
use Rattle.ber_spelling.specs.Fields.{announced_at, long_at, sure_reach, definite_at, inside, inside_until, extent_at, contents_at}
use Rattle.ber_spelling.proofs.Identifiers.{IsIn, ok_is}
use Rattle.ber_spelling.proofs.Lengths.{contents_found, contents_again, extent_found, extent_until, extent_marked}
use Rattle.ber_faults.specs.Fields.{IsWithin, Crosses, IsLonger, WholeLongFault, CutLongFault, LongFault, SizeFault, LengthFault, ExtentFault, Extends, Holds}
use Rattle.ber_faults.proofs.Steps.{bind_err, bind_fails, bind_goes, cond_err, cond_yes, cond_no, failed, err_is, not_err, within_err, crosses_err, within_ok, within_goes, in_within, within_in, cut_err, cut_fails, lacking_err, lacking_fails}

or_cases : (a b : Bool) → (a || b) ≡ true → (a ≡ true) ⊎ (b ≡ true)
or_cases true b e = inl refl
or_cases false b e = inr e

or_left : (a b : Bool) → a ≡ true → (a || b) ≡ true
or_left true b e = refl
or_left false b e = absurd cc

or_right : (a b : Bool) → b ≡ true → (a || b) ≡ true
or_right true b e = refl
or_right false b e = e

or_none : (a b : Bool) → (a || b) ≡ false → (a ≡ false) × (b ≡ false)
or_none true b e = absurd cc
or_none false b e = (refl, e)

none_or : (a b : Bool) → a ≡ false → b ≡ false → (a || b) ≡ false
none_or true b e f = absurd cc
none_or false b e f = f

and_none : (a b : Bool) → (a && b) ≡ false → (a ≡ false) ⊎ (b ≡ false)
and_none true b e = inr e
and_none false b e = inl refl

not_both : (a b : Bool) → (a ≡ false) ⊎ (b ≡ false) → (a && b) ≡ false
not_both true b (inl e) = absurd cc
not_both true b (inr e) = e
not_both false b e = refl

not_true : (b : Bool) → not b ≡ true → b ≡ false
not_true true e = absurd cc
not_true false e = refl

strict_and_not : (s m : Bool) → s ≡ true → m ≡ false → (s && not m) ≡ true
strict_and_not true true e h = absurd cc
strict_and_not true false e h = refl
strict_and_not false m e h = absurd cc

leb-false : (a b : ℕ) → nat_le a b ≡ false → b < a
leb-false a b e = grind arith

fault_of : {A : Type 0} (f g : ReadFault) → f ≡ g → failed {A = A} g ≡ failed f
fault_of f g e = ap (λ (x : ReadFault). failed x) (sym e)

-- ---- a length that is announced

abbrev AnnouncedFault : Scope → ℕ → ℕ → Bool → ReadFault → Type 0
AnnouncedFault scope place until minimal f =
    Crosses scope place until f ⊎ (IsWithin scope until × (scope.strict ≡ true) × (minimal ≡ false) × (f ≡ NotSpelled place Form))

announced_err : (scope : Scope) (place count : ℕ) (minimal : Bool) (from : ℕ) (rest : List ℕ) (f : ReadFault) → announced_at scope place count minimal from rest ≡ Err f → AnnouncedFault scope place (from + count) minimal f
unfolding announced_at
announced_err scope place count minimal from rest f e =
    elim (bind_err (within scope place (from + count)) (λ _. cond (scope.strict && not minimal) (refuse place Form) (Ok (count, record { place = from; rest = rest }))) f e) [
      | inl t ↦ inl (within_err scope place (from + count) f t)
      | inr t ↦ elim (cond_err (scope.strict && not minimal) (refuse place Form) _ f t.2) [
        | inl u ↦
            let b = and_parts scope.strict (not minimal) u.0 in
            inr (within_ok scope place (from + count) t.0 t.1, b.0, not_true minimal b.1, sym (err_is {A = ℕ × Spot} (NotSpelled place Form) f u.1))
        | inr u ↦ absurd (not_err {A = ℕ × Spot} (count, record { place = from; rest = rest }) f u.1)
      ]
    ]

announced_fails : (scope : Scope) (place count : ℕ) (minimal : Bool) (from : ℕ) (rest : List ℕ) (f : ReadFault) → AnnouncedFault scope place (from + count) minimal f → announced_at scope place count minimal from rest ≡ Err f
unfolding announced_at
announced_fails scope place count minimal from rest f (inl c) = bind_fails (within scope place (from + count)) _ f (crosses_err scope place (from + count) f c)
announced_fails scope place count minimal from rest f (inr h) =
    bind_goes (within scope place (from + count)) _ tt (Err f) (within_goes scope place (from + count) h.0)
    (cond_yes (scope.strict && not minimal) _ _ _ (strict_and_not scope.strict minimal h.1 h.2) (fault_of f (NotSpelled place Form) h.3))

-- ---- the long form

abbrev minimal_of : List ℕ → Bool
minimal_of digits = nat_le 128 (number_256 0 digits) && nat_lt 0 (slice_index digits 0)

longer_of : (digits : List ℕ) → minimal_of digits ≡ false → IsLonger digits
longer_of digits e =
    elim (and_none (nat_le 128 (number_256 0 digits)) (nat_lt 0 (slice_index digits 0)) e) [
      | inl t ↦ inl (leb-false 128 (number_256 0 digits) t)
      | inr t ↦ let le : slice_index digits 0 ≤ 0 = ltb-false 0 (slice_index digits 0) t in inr (omega arith)
    ]

of_longer : (digits : List ℕ) → IsLonger digits → minimal_of digits ≡ false
of_longer digits (inl lt) = not_both (nat_le 128 (number_256 0 digits)) (nat_lt 0 (slice_index digits 0)) (inl (lt-leb 128 (number_256 0 digits) lt))
of_longer digits (inr e) = not_both (nat_le 128 (number_256 0 digits)) (nat_lt 0 (slice_index digits 0)) (inr (ap (λ (k : ℕ). nat_lt 0 k) e))

cut_by : (scope : Scope) (place size there : ℕ) (f : ReadFault) (b : Bool) → is_past scope.end (place + 1 + size) ≡ b → Crosses scope place (cond b (place + 1 + size) (place + 1 + there)) f → CutLongFault scope place size there f
cut_by scope place size there f true e c = inl (e, c)
cut_by scope place size there f false e c = inr (e, c)

by_cut : (scope : Scope) (place size there : ℕ) (f : ReadFault) → CutLongFault scope place size there f → Crosses scope place (sure_reach scope.end (place + 1 + size) (place + 1 + there)) f
by_cut scope place size there f (inl c) = rw (c.0) c.1
by_cut scope place size there f (inr c) = rw (c.0) c.1

long_err : (scope : Scope) (place size : ℕ) (rest : List ℕ) (f : ReadFault) → (f ≡ Short → ⊥) → long_at scope place size rest ≡ Err f → LongFault scope place size rest f
unfolding long_at
long_err scope place size rest f ne e =
    elim (cond_err (nat_lt (length rest) size) _ _ f e) [
      | inl t ↦
          let c = cut_err {A = ℕ × Spot} scope place (sure_reach scope.end (place + 1 + size) (place + 1 + length rest)) f ne t.1 in
          inl (ltb-true (length rest) size t.0, cut_by scope place size (length rest) f (is_past scope.end (place + 1 + size)) refl c)
      | inr t ↦
          let enough : size ≤ length rest = ltb-false (length rest) size t.0 in
          let len : length (take size rest) ≡ size = omega (arith, length-take size rest) in
          inr (
            take size rest,
            drop size rest,
            sym (take-append-drop size rest),
            len,
            elim (bind_err (within scope place (place + 1 + size)) _ f t.1) [
              | inl u ↦ inl (within_err scope place (place + 1 + size) f u)
              | inr u ↦ inr (
                within_ok scope place (place + 1 + size) u.0 u.1,
                elim (cond_err (nat_lt 8 size) (refuse place Length) _ f u.2) [
                  | inl w ↦ inl (ltb-true 8 size w.0, sym (err_is {A = ℕ × Spot} (NotSpelled place Length) f w.1))
                  | inr w ↦ inr (
                    ltb-false 8 size w.0,
                    elim (announced_err scope place (number_256 0 (take size rest)) (minimal_of (take size rest)) (place + 1 + size) (drop size rest) f w.1) [
                      | inl x ↦ inl x
                      | inr x ↦ inr (x.0, x.1, longer_of (take size rest) x.2, x.3)
                    ],
                  )
                ],
              )
            ],
          )
    ]

whole_fails : (scope : Scope) (place : ℕ) (digits more : List ℕ) (f : ReadFault) → WholeLongFault scope place (length digits) digits f → long_at scope place (length digits) (digits ++ more) ≡ Err f
unfolding long_at
whole_fails scope place digits more f h =
    let enough : length digits ≤ length (digits ++ more) = omega (arith, length-append digits more) in
    cond_no (nat_lt (length (digits ++ more)) (length digits)) _ _ _ (le-ltb (length (digits ++ more)) (length digits) enough)
    (rw (take_at digits more (length digits) refl, drop_at digits more (length digits) refl) (elim h [
      | inl c ↦ bind_fails (within scope place (place + 1 + length digits)) _ f (crosses_err scope place (place + 1 + length digits) f c)
      | inr c ↦ bind_goes (within scope place (place + 1 + length digits)) _ tt (Err f) (within_goes scope place (place + 1 + length digits) c.0) (elim c.1 [
        | inl d ↦ cond_yes (nat_lt 8 (length digits)) _ _ _ (lt-ltb 8 (length digits) d.0) (fault_of f (NotSpelled place Length) d.1)
        | inr d ↦ cond_no (nat_lt 8 (length digits)) _ _ _ (le-ltb 8 (length digits) d.0)
            (announced_fails scope place (number_256 0 digits) (minimal_of digits) (place + 1 + length digits) more f (elim d.1 [
              | inl x ↦ inl x
              | inr x ↦ inr (x.0, x.1, of_longer digits x.2, x.3)
            ]))
      ])
    ]))

long_fails : (scope : Scope) (place size : ℕ) (rest : List ℕ) (f : ReadFault) → LongFault scope place size rest f → long_at scope place size rest ≡ Err f
unfolding long_at
long_fails scope place size rest f (inl h) =
    cond_yes (nat_lt (length rest) size) _ _ _ (lt-ltb (length rest) size h.0)
    (cut_fails {A = ℕ × Spot} scope place (sure_reach scope.end (place + 1 + size) (place + 1 + length rest)) f (by_cut scope place size (length rest) f h.1))
long_fails scope place size rest f (inr h) =
    let digits = h.0 in
    let same : WholeLongFault scope place (length digits) digits f = subst (λ (n : ℕ). WholeLongFault scope place n digits f) (sym h.3) h.4 in
    let read : long_at scope place size (digits ++ h.1) ≡ Err f = subst (λ (n : ℕ). long_at scope place n (digits ++ h.1) ≡ Err f) h.3 (whole_fails scope place digits h.1 f same) in
    subst (λ (r : List ℕ). long_at scope place size r ≡ Err f) (sym h.2) read

-- ---- definite lengths

size_err : (scope : Scope) (place first : ℕ) (rest : List ℕ) (f : ReadFault) → (f ≡ Short → ⊥)
    → cond (nat_lt first 128) (announced_at scope place first true (place + 1) rest) (cond (nat_eq first 128 || nat_eq first 255) (refuse place Length) (long_at scope place (first - 128) rest)) ≡ Err f → SizeFault scope place first rest f
size_err scope place first rest f ne e =
    elim (cond_err (nat_lt first 128) _ _ f e) [
      | inl t ↦ elim (announced_err scope place first true (place + 1) rest f t.1) [
        | inl c ↦ inl (ltb-true first 128 t.0, c)
        | inr c ↦ absurd (let wrong : true ≡ false = c.2 in cc)
      ]
      | inr t ↦ elim (cond_err (nat_eq first 128 || nat_eq first 255) (refuse place Length) _ f t.1) [
        | inl u ↦ inr (inl (elim (or_cases (nat_eq first 128) (nat_eq first 255) u.0) [ inl w ↦ inl (eqb-true first 128 w) | inr w ↦ inr (eqb-true first 255 w) ], sym (err_is {A = ℕ × Spot} (NotSpelled place Length) f u.1)))
        | inr u ↦
            let wrong = or_none (nat_eq first 128) (nat_eq first 255) u.0 in
            let ge : 128 ≤ first = ltb-false first 128 t.0 in
            let other : first ≢ 128 = eqb-false first 128 wrong.0 in
            inr (inr (omega arith, eqb-false first 255 wrong.1, long_err scope place (first - 128) rest f ne u.1))
      ]
    ]

size_fails : (scope : Scope) (place first : ℕ) (rest : List ℕ) (f : ReadFault) → SizeFault scope place first rest f
    → cond (nat_lt first 128) (announced_at scope place first true (place + 1) rest) (cond (nat_eq first 128 || nat_eq first 255) (refuse place Length) (long_at scope place (first - 128) rest)) ≡ Err f
size_fails scope place first rest f (inl h) = cond_yes (nat_lt first 128) _ _ _ (lt-ltb first 128 h.0) (announced_fails scope place first true (place + 1) rest f (inl h.1))
size_fails scope place first rest f (inr (inl h)) =
    let large : 128 ≤ first = elim h.0 [ inl e ↦ omega arith | inr e ↦ omega arith ] in
    let bad : (nat_eq first 128 || nat_eq first 255) ≡ true = elim h.0 [
      | inl e ↦ or_left (nat_eq first 128) (nat_eq first 255) (ap (λ (k : ℕ). nat_eq k 128) e)
      | inr e ↦ or_right (nat_eq first 128) (nat_eq first 255) (ap (λ (k : ℕ). nat_eq k 255) e)
    ] in
    cond_no (nat_lt first 128) _ _ _ (le-ltb first 128 large) (cond_yes (nat_eq first 128 || nat_eq first 255) _ _ _ bad (fault_of f (NotSpelled place Length) h.1))
size_fails scope place first rest f (inr (inr h)) =
    let more : 128 < first = h.0 in
    let large : 128 ≤ first = omega arith in
    let other : first ≢ 128 = λ e. omega arith in
    cond_no (nat_lt first 128) _ _ _ (le-ltb first 128 large)
    (cond_no (nat_eq first 128 || nat_eq first 255) _ _ _ (none_or (nat_eq first 128) (nat_eq first 255) (ne_eqb first 128 other) (ne_eqb first 255 h.1)) (long_fails scope place (first - 128) rest f h.2))

pub length_err : (scope : Scope) (place : ℕ) (rest : List ℕ) (f : ReadFault) → (f ≡ Short → ⊥) → definite_at scope place rest ≡ Err f → LengthFault scope place rest f
unfolding definite_at
length_err scope place [] f ne e = lacking_err {A = ℕ × Spot} scope place place f ne e
length_err scope place (first ∷ rest) f ne e =
    elim (bind_err (within scope place (place + 1)) _ f e) [
      | inl t ↦ inl (within_err scope place (place + 1) f t)
      | inr t ↦ inr (within_ok scope place (place + 1) t.0 t.1, size_err scope place first rest f ne t.2)
    ]

pub length_fails : (scope : Scope) (place : ℕ) (rest : List ℕ) (f : ReadFault) → LengthFault scope place rest f → definite_at scope place rest ≡ Err f
unfolding definite_at
length_fails scope place [] f h = lacking_fails {A = ℕ × Spot} scope place place f h.0 h.1
length_fails scope place (first ∷ rest) f (inl c) = bind_fails (within scope place (place + 1)) _ f (crosses_err scope place (place + 1) f c)
length_fails scope place (first ∷ rest) f (inr h) = bind_goes (within scope place (place + 1)) _ tt (Err f) (within_goes scope place (place + 1) h.0) (size_fails scope place first rest f h.1)

-- ---- lengths of either form

pub extent_err : (scope : Scope) (place : ℕ) (rest : List ℕ) (f : ReadFault) → (f ≡ Short → ⊥) → extent_at scope place rest ≡ Err f → ExtentFault scope place rest f
unfolding extent_at
extent_err scope place [] f ne e = lacking_err {A = Scope × Spot} scope place place f ne e
extent_err scope place (first ∷ rest) f ne e =
    elim (cond_err (nat_eq first 128) _ _ f e) [
      | inl t ↦ inl (
        eqb-true first 128 t.0,
        elim (bind_err (within scope place (place + 1)) _ f t.1) [
          | inl u ↦ inl (within_err scope place (place + 1) f u)
          | inr u ↦ elim (cond_err scope.strict (refuse place Form) _ f u.2) [
            | inl w ↦ inr (within_ok scope place (place + 1) u.0 u.1, w.0, sym (err_is {A = Scope × Spot} (NotSpelled place Form) f w.1))
            | inr w ↦ absurd (not_err {A = Scope × Spot} (inside scope, record { place = place + 1; rest = rest }) f w.1)
          ]
        ],
      )
      | inr t ↦ inr (
        eqb-false first 128 t.0,
        elim (bind_err (definite_at scope place (first ∷ rest)) _ f t.1) [
          | inl u ↦ length_err scope place (first ∷ rest) f ne u
          | inr u ↦ absurd (not_err {A = Scope × Spot} (inside_until scope (u.0.1.place + u.0.0), u.0.1) f u.2)
        ],
      )
    ]

pub extent_fails : (scope : Scope) (place : ℕ) (rest : List ℕ) (f : ReadFault) → ExtentFault scope place rest f → extent_at scope place rest ≡ Err f
unfolding extent_at
extent_fails scope place [] f h = lacking_fails {A = Scope × Spot} scope place place f h.0 h.1
extent_fails scope place (first ∷ rest) f (inl h) =
    cond_yes (nat_eq first 128) _ _ _ (ap (λ (k : ℕ). nat_eq k 128) h.0) (elim h.1 [
      | inl c ↦ bind_fails (within scope place (place + 1)) _ f (crosses_err scope place (place + 1) f c)
      | inr c ↦ bind_goes (within scope place (place + 1)) _ tt (Err f) (within_goes scope place (place + 1) c.0) (cond_yes scope.strict _ _ _ c.1 (fault_of f (NotSpelled place Form) c.2))
    ])
extent_fails scope place (first ∷ rest) f (inr h) =
    cond_no (nat_eq first 128) _ _ _ (ne_eqb first 128 h.0) (bind_fails (definite_at scope place (first ∷ rest)) _ f (length_fails scope place (first ∷ rest) f h.1))

pub extends_found : (scope : Scope) (s : Spot) (x : Scope) (b : Spot) → extent_at scope s.place s.rest ≡ Ok (x, b) → Extends scope s x b
extends_found scope s x b e =
    elim (extent_found scope s.place s.rest x b e) [
      | inl u ↦ inl (u.size, u.count, u.is_length, u.taken.parts, u.taken.onward, within_in scope (b.place + u.count) u.is_in, u.are)
      | inr u ↦ inr (u.lax, u.taken.parts, u.taken.onward, within_in scope b.place u.is_in, u.are)
    ]

abbrev extent_so : Scope × ℕ → List ℕ → Reading (Scope × Spot)
extent_so x rest = Ok (x.0, record { place = x.1; rest = rest })

pub extends_read : (scope : Scope) (s : Spot) (x : Scope) (b : Spot) → Extends scope s x b → extent_at scope s.place s.rest ≡ Ok (x, b)
extends_read scope s x b (inl h) =
    let here : IsIn scope (s.place + length h.0 + h.1) = in_within scope (s.place + length h.0 + h.1) (subst (λ (p : ℕ). IsWithin scope (p + h.1)) h.4 h.5) in
    let onward : s.place + length h.0 ≡ b.place = sym h.4 in
    let scopes : inside_until scope (s.place + length h.0 + h.1) ≡ x = ap (λ (p : ℕ). inside_until scope (p + h.1)) onward ∙ sym h.6 in
    ap (extent_at scope s.place) h.3 ∙ extent_until scope s.place h.0 b.rest h.1 h.2 here ∙ ap (λ (y : Scope × ℕ). extent_so y b.rest) (λ i. (scopes i, onward i))
extends_read scope s x b (inr h) =
    let here : IsIn scope (s.place + 1) = in_within scope (s.place + 1) (subst (IsWithin scope) h.2 h.3) in
    let onward : s.place + 1 ≡ b.place = sym h.2 in
    let scopes : inside scope ≡ x = sym h.4 in
    ap (extent_at scope s.place) h.1 ∙ extent_marked scope s.place b.rest h.0 here ∙ ap (λ (y : Scope × ℕ). extent_so y b.rest) (λ i. (scopes i, onward i))

-- ---- contents of primitives

pub contents_err : (scope : Scope) (place : ℕ) (rest : List ℕ) (f : ReadFault) → (f ≡ Short → ⊥) → contents_at scope place rest ≡ Err f → LengthFault scope place rest f
unfolding contents_at
contents_err scope place rest f ne e =
    elim (bind_err (definite_at scope place rest) _ f e) [
      | inl t ↦ length_err scope place rest f ne t
      | inr t ↦ elim (cond_err (nat_lt (length t.0.1.rest) t.0.0) (Err Short) _ f t.2) [
        | inl u ↦ absurd (ne (sym (err_is {A = ℕ × List ℕ × Spot} Short f u.1)))
        | inr u ↦ absurd (not_err {A = ℕ × List ℕ × Spot} (t.0.1.place, take t.0.0 t.0.1.rest, record { place = t.0.1.place + t.0.0; rest = drop t.0.0 t.0.1.rest }) f u.1)
      ]
    ]

pub contents_fails : (scope : Scope) (place : ℕ) (rest : List ℕ) (f : ReadFault) → LengthFault scope place rest f → contents_at scope place rest ≡ Err f
unfolding contents_at
contents_fails scope place rest f h = bind_fails (definite_at scope place rest) _ f (length_fails scope place rest f h)

pub holds_found : (scope : Scope) (s : Spot) (at : ℕ) (c : List ℕ) (to : Spot) → contents_at scope s.place s.rest ≡ Ok (at, c, to) → Holds scope s at c
holds_found scope s at c to e =
    let f = contents_found scope s.place s.rest at c to e in
    let parts : s.rest ≡ f.size ++ (c ++ to.rest) = f.taken.parts ∙ append_assoc f.size c to.rest in
    let end : to.place ≡ s.place + length f.size + length c = omega (arith, f.taken.onward, length-append f.size c) in
    let again = contents_again scope s.place f.size c to.rest f.is_length (subst (IsIn scope) end f.is_in) in
    let read : contents_at scope s.place s.rest ≡ Ok (s.place + length f.size, c, record { place = s.place + length f.size + length c; rest = to.rest }) = ap (contents_at scope s.place) parts ∙ again in
    let same = ok_is {A = ℕ × List ℕ × Spot} (at, c, to) (s.place + length f.size, c, record { place = s.place + length f.size + length c; rest = to.rest }) (sym e ∙ read) in
    let onward : at ≡ s.place + length f.size = ap (λ (x : ℕ × List ℕ × Spot). x.0) same in
    let last : to.place ≡ at + length c = omega (arith, onward, end) in
    record { size = f.size; more = to.rest; is_length = f.is_length; parts = parts; onward = onward; within = subst (IsWithin scope) last (within_in scope to.place f.is_in) }

pub holds_read : (scope : Scope) (s : Spot) (at : ℕ) (c : List ℕ) (h : Holds scope s at c) → contents_at scope s.place s.rest ≡ Ok (at, c, record { place = at + length c; rest = h.more })
holds_read scope s at c h =
    let here : IsIn scope (s.place + length h.size + length c) = in_within scope (s.place + length h.size + length c) (subst (λ (p : ℕ). IsWithin scope (p + length c)) h.onward h.within) in
    ap (contents_at scope s.place) h.parts ∙ contents_again scope s.place h.size c h.more h.is_length here
    ∙ ap (λ (p : ℕ). Ok (p, c, record { place = p + length c; rest = h.more })) (sym h.onward)
