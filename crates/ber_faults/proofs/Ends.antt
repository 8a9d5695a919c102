-- What stands next in contents: a fault of reading is one by the grammar, and the other way round.
use Rattle.std.proofs.Common.{◌≡◌, ◌≢◌, ℕ, ◌+◌, ◌<◌, ◌≤◌, Bool, true, false, cond, List, [], ◌∷◌, ◌++◌, length, Option, Some, Ok, Err, refl, sym, ap, ◌∙◌, subst, arith, inl, inr}
use Rattle.std.specs.Prelude.{nat_eq}
use Rattle.std.proofs.lemmas.Bool.{eqb-true, eqb-false, ne_eqb, le-leb}
use Rattle.ber_spelling.specs.declared.fault.ReadFault.{ReadFault}
use Rattle.ber_spelling.specs.declared.fault.ReadFault.TheVariants.{Short}
use Rattle.ber_spelling.specs.declared.spot.Scope.{Scope}
use Rattle.osi_base.specs.Octets.{AreOctets}
use Rattle.ber_spelling.specs.Reading.{Spot, Opened, Ahead, ended, begun, Reading, ◌>>=◌, is_past, within}
use Rattle.ber_spelling.specs.Fields.{identifier_at, is_end, cut_off, begin_at, second_zero_at, mark_at, look_at}
use Rattle.ber_spelling.specs.Spelling.{IsIdentifier}
use Rattle.ber_spelling.proofs.Growing.{short_not_ok}
use Rattle.ber_spelling.proofs.Identifiers.{IsIn, in_before, bind_ok, chosen_ok, done}
use Rattle.ber_spelling.proofs.Ends as reading
use Rattle.ber_spelling.proofs.Ends.{ClosesBy, Closes, EndFound, BeginFound, end_here, not_end, look_found, look_closed}
use Rattle.ber_faults.specs.Fields.{IsWithin, IdentifierFault, SecondFault, MarkFault, AheadFault, IsNoMark, Begins, ContentsEnd, closing}
use Rattle.ber_faults.proofs.Steps.{bind_err, bind_fails, bind_goes, cond_err, cond_yes, cond_no, err_is, not_err, within_err, crosses_err, within_ok, within_goes, in_within, within_in, cut_err, cut_fails}
use Rattle.ber_faults.proofs.Identifiers.{identifier_err, identifier_fails, opens_found, opens_read}

begin_err : (scope : Scope) (place : ℕ) (rest : List ℕ) (f : ReadFault) → (f ≡ Short → ⊥) → AreOctets rest → begin_at scope place rest ≡ Err f → IdentifierFault scope place rest f
begin_err scope place rest f ne are e =
    elim (bind_err (identifier_at scope place rest) (λ x. done (begun x.0 x.1)) f e) [
      | inl t ↦ identifier_err scope place rest f ne are t
      | inr t ↦ absurd (not_err (begun t.0.0 t.0.1) f t.2)
    ]

begin_fails : (scope : Scope) (place : ℕ) (rest : List ℕ) (f : ReadFault) → IdentifierFault scope place rest f → begin_at scope place rest ≡ Err f
begin_fails scope place rest f h = bind_fails (identifier_at scope place rest) (λ x. done (begun x.0 x.1)) f (identifier_fails scope place rest f h)

-- ---- faults

second_err : (scope : Scope) (place first : ℕ) (rest : List ℕ) (f : ReadFault) → (f ≡ Short → ⊥) → AreOctets (first ∷ rest) → first ≡ 0 → second_zero_at scope place (first ∷ rest) rest ≡ Err f → SecondFault scope place rest f
second_err scope place first [] f ne are z e = absurd (ne (sym (err_is {A = Ahead} Short f e)))
second_err scope place first (second ∷ rest) f ne are z e =
    elim (cond_err (nat_eq second 0) _ _ f e) [
      | inl t ↦ elim (bind_err (within scope place (place + 2)) (λ _. done (ended place (record { place = place + 2; rest = rest }))) f t.1) [
        | inl u ↦ inl (eqb-true second 0 t.0, within_err scope place (place + 2) f u)
        | inr u ↦ absurd (not_err (ended place (record { place = place + 2; rest = rest })) f u.2)
      ]
      | inr t ↦ inr (eqb-false second 0 t.0, subst (λ (o : ℕ). IdentifierFault scope place (o ∷ second ∷ rest) f) z (begin_err scope place (first ∷ second ∷ rest) f ne are t.1))
    ]

mark_err : (scope : Scope) (place : ℕ) (rest : List ℕ) (f : ReadFault) → (f ≡ Short → ⊥) → AreOctets rest → mark_at scope place rest ≡ Err f → MarkFault scope place rest f
mark_err scope place [] f ne are e = absurd (ne (sym (err_is {A = Ahead} Short f e)))
mark_err scope place (first ∷ rest) f ne are e =
    elim (cond_err (nat_eq first 0) _ _ f e) [
      | inl t ↦ inl (
        eqb-true first 0 t.0,
        elim (cond_err (is_past scope.end (place + 2)) _ _ f t.1) [
          | inl u ↦ inl (u.0, cut_err {A = Ahead} scope place (place + 2) f ne u.1)
          | inr u ↦ inr (
            u.0,
            elim (bind_err (within scope place (place + 1)) (λ _. second_zero_at scope place (first ∷ rest) rest) f u.1) [
              | inl w ↦ inl (within_err scope place (place + 1) f w)
              | inr w ↦ inr (within_ok scope place (place + 1) w.0 w.1, second_err scope place first rest f ne are (eqb-true first 0 t.0) w.2)
            ],
          )
        ],
      )
      | inr t ↦ inr (eqb-false first 0 t.0, begin_err scope place (first ∷ rest) f ne are t.1)
    ]

pub look_err : (scope : Scope) (place : ℕ) (rest : List ℕ) (f : ReadFault) → (f ≡ Short → ⊥) → AreOctets rest → look_at scope place rest ≡ Err f → AheadFault scope place rest f
unfolding look_at
look_err scope place rest f ne are e =
    elim (cond_err scope.marked _ _ f e) [
      | inl t ↦ inl (
        t.0,
        elim (cond_err (is_end scope.end place) _ _ f t.1) [
          | inl u ↦ inl (u.0, cut_err {A = Ahead} scope place (place + 1) f ne u.1)
          | inr u ↦ inr (u.0, mark_err scope place rest f ne are u.1)
        ],
      )
      | inr t ↦ elim (cond_err (is_end scope.end place) _ _ f t.1) [
        | inl u ↦ absurd (not_err (ended place (record { place = place; rest = rest })) f u.1)
        | inr u ↦ inr (t.0, u.0, begin_err scope place rest f ne are u.1)
      ]
    ]

is_zero : (n : ℕ) → n ≡ 0 → nat_eq n 0 ≡ true
is_zero n e = ap (λ (k : ℕ). nat_eq k 0) e

second_fails : (scope : Scope) (place first : ℕ) (rest : List ℕ) (f : ReadFault) → first ≡ 0 → SecondFault scope place rest f → second_zero_at scope place (first ∷ rest) rest ≡ Err f
second_fails scope place first [] f z h = absurd h
second_fails scope place first (second ∷ rest) f z (inl h) =
    cond_yes (nat_eq second 0) _ _ _ (is_zero second h.0) (bind_fails (within scope place (place + 2)) _ f (crosses_err scope place (place + 2) f h.1))
second_fails scope place first (second ∷ rest) f z (inr h) =
    cond_no (nat_eq second 0) _ _ _ (ne_eqb second 0 h.0) (begin_fails scope place (first ∷ second ∷ rest) f (subst (λ (o : ℕ). IdentifierFault scope place (o ∷ second ∷ rest) f) (sym z) h.1))

mark_fails : (scope : Scope) (place : ℕ) (rest : List ℕ) (f : ReadFault) → MarkFault scope place rest f → mark_at scope place rest ≡ Err f
mark_fails scope place [] f h = absurd h
mark_fails scope place (first ∷ rest) f (inl h) =
    cond_yes (nat_eq first 0) _ _ _ (is_zero first h.0) (elim h.1 [
      | inl c ↦ cond_yes (is_past scope.end (place + 2)) _ _ _ c.0 (cut_fails {A = Ahead} scope place (place + 2) f c.1)
      | inr c ↦ cond_no (is_past scope.end (place + 2)) _ _ _ c.0 (elim c.1 [
        | inl d ↦ bind_fails (within scope place (place + 1)) _ f (crosses_err scope place (place + 1) f d)
        | inr d ↦ bind_goes (within scope place (place + 1)) _ tt (Err f) (within_goes scope place (place + 1) d.0) (second_fails scope place first rest f h.0 d.1)
      ])
    ])
mark_fails scope place (first ∷ rest) f (inr h) = cond_no (nat_eq first 0) _ _ _ (ne_eqb first 0 h.0) (begin_fails scope place (first ∷ rest) f h.1)

pub look_fails : (scope : Scope) (place : ℕ) (rest : List ℕ) (f : ReadFault) → AheadFault scope place rest f → look_at scope place rest ≡ Err f
unfolding look_at
look_fails scope place rest f (inl h) =
    cond_yes scope.marked _ _ _ h.0 (elim h.1 [
      | inl c ↦ cond_yes (is_end scope.end place) _ _ _ c.0 (cut_fails {A = Ahead} scope place (place + 1) f c.1)
      | inr c ↦ cond_no (is_end scope.end place) _ _ _ c.0 (mark_fails scope place rest f c.1)
    ])
look_fails scope place rest f (inr h) = cond_no scope.marked _ _ _ h.0 (cond_no (is_end scope.end place) _ _ _ h.1 (begin_fails scope place rest f h.2))

-- ---- a value begins

apart : (p : ℕ) (a b : Spot) (o : Opened) → done (ended p a) ≡ done (begun o b) → ⊥
apart p a b o e = cc

second_no_mark : (scope : Scope) (place first : ℕ) (rest : List ℕ) (o : Opened) (s : Spot) → is_past scope.end (place + 2) ≡ false → second_zero_at scope place (first ∷ rest) rest ≡ Ok (begun o s) → IsNoMark scope place (first ∷ rest)
second_no_mark scope place first [] o s past e = absurd (let wrong : Err Short ≡ done (begun o s) = e in cc)
second_no_mark scope place first (second ∷ rest) o s past e =
    elim (chosen_ok (nat_eq second 0) _ _ (begun o s) e) [
      | inl t ↦
          let b = bind_ok (within scope place (place + 2)) (λ _. done (ended place (record { place = place + 2; rest = rest }))) (begun o s) t.1 in
          absurd (apart place (record { place = place + 2; rest = rest }) s o b.2)
      | inr t ↦ inr (eqb-false second 0 t.0, past)
    ]

first_no_mark : (scope : Scope) (place first : ℕ) (rest : List ℕ) → first ≢ 0 → IsNoMark scope place (first ∷ rest)
first_no_mark scope place first [] ne = ne
first_no_mark scope place first (second ∷ rest) ne = inl ne

mark_begun : (scope : Scope) (place : ℕ) (rest : List ℕ) (o : Opened) (s : Spot) → mark_at scope place rest ≡ Ok (begun o s) → IsNoMark scope place rest
mark_begun scope place [] o s e = absurd (let wrong : Err Short ≡ done (begun o s) = e in cc)
mark_begun scope place (first ∷ rest) o s e =
    elim (chosen_ok (nat_eq first 0) _ _ (begun o s) e) [
      | inl t ↦ elim (chosen_ok (is_past scope.end (place + 2)) _ _ (begun o s) t.1) [
        | inl u ↦ absurd (short_not_ok (within scope place (place + 2)) (begun o s) u.1)
        | inr u ↦ let b = bind_ok (within scope place (place + 1)) (λ _. second_zero_at scope place (first ∷ rest) rest) (begun o s) u.1 in second_no_mark scope place first rest o s u.0 b.2
      ]
      | inr t ↦ first_no_mark scope place first rest (eqb-false first 0 t.0)
    ]

look_no_mark : (scope : Scope) (place : ℕ) (rest : List ℕ) (o : Opened) (s : Spot) → scope.marked ≡ true → look_at scope place rest ≡ Ok (begun o s) → IsNoMark scope place rest
unfolding look_at
look_no_mark scope place rest o s m e =
    elim (chosen_ok scope.marked _ _ (begun o s) e) [
      | inl t ↦ elim (chosen_ok (is_end scope.end place) _ _ (begun o s) t.1) [
        | inl u ↦ absurd (short_not_ok (within scope place (place + 1)) (begun o s) u.1)
        | inr u ↦ mark_begun scope place rest o s u.1
      ]
      | inr t ↦ absurd (let wrong : true ≡ false = sym m ∙ t.0 in cc)
    ]

pub begins_found : (scope : Scope) (at : Spot) (o : Opened) (s : Spot) → AreOctets at.rest → IsIn scope at.place → look_at scope at.place at.rest ≡ Ok (begun o s) → Begins scope at o s
begins_found scope at o s are here e =
    let f : BeginFound scope at.place at.rest o s = look_found scope at.place at.rest (begun o s) here e in
    record { opens = opens_found scope at.place at.rest o s are f.opens; no_mark = λ m. look_no_mark scope at.place at.rest o s m e }

some_head : (o : Opened) (number : ℕ) (head : List ℕ) → IsIdentifier o.class o.constructed number head → 0 < length head
some_head o number [] h = absurd h
some_head o number (first ∷ others) h = omega arith

begin_goes : (scope : Scope) (place : ℕ) (rest : List ℕ) (o : Opened) (s : Spot) → identifier_at scope place rest ≡ Ok (o, s) → begin_at scope place rest ≡ Ok (begun o s)
begin_goes scope place rest o s e = bind_goes (identifier_at scope place rest) (λ x. done (begun x.0 x.1)) (o, s) (done (begun o s)) e refl

mark_begins : (scope : Scope) (place : ℕ) (rest : List ℕ) (o : Opened) (s : Spot) → IsWithin scope (place + 1) → IsNoMark scope place rest → identifier_at scope place rest ≡ Ok (o, s) → mark_at scope place rest ≡ Ok (begun o s)
mark_begins scope place [] o s here clear e = absurd clear
mark_begins scope place (first ∷ []) o s here clear e = cond_no (nat_eq first 0) _ _ _ (ne_eqb first 0 clear) (begin_goes scope place (first ∷ []) o s e)
mark_begins scope place (first ∷ second ∷ more) o s here (inl ne) e = cond_no (nat_eq first 0) _ _ _ (ne_eqb first 0 ne) (begin_goes scope place (first ∷ second ∷ more) o s e)
mark_begins scope place (first ∷ second ∷ more) o s here (inr clear) e = by_first (nat_eq first 0)
  where
    begun_so : begin_at scope place (first ∷ second ∷ more) ≡ Ok (begun o s)
    begun_so = begin_goes scope place (first ∷ second ∷ more) o s e

    by_first : (b : Bool) → cond b (cond (is_past scope.end (place + 2)) (cut_off scope place (place + 2)) (within scope place (place + 1) >>= λ _. second_zero_at scope place (first ∷ second ∷ more) (second ∷ more))) (begin_at scope place (first ∷ second ∷ more)) ≡ Ok (begun o s)
    by_first true =
        cond_no (is_past scope.end (place + 2)) _ _ _ clear.1
        (bind_goes (within scope place (place + 1)) _ tt (done (begun o s)) (within_goes scope place (place + 1) here) (cond_no (nat_eq second 0) _ _ _ (ne_eqb second 0 clear.0) begun_so))
    by_first false = begun_so

pub begins_read : (scope : Scope) (at : Spot) (o : Opened) (s : Spot) → Begins scope at o s → look_at scope at.place at.rest ≡ Ok (begun o s)
unfolding look_at
begins_read scope at o s h = by_mark scope.marked refl
  where
    some : at.place + 1 ≤ s.place
    some = let lt = some_head o h.opens.number h.opens.head h.opens.is_identifier in omega (arith, h.opens.onward)

    there : IsIn scope s.place
    there = in_within scope s.place h.opens.within

    here : IsWithin scope (at.place + 1)
    here = within_in scope (at.place + 1) (in_before scope (at.place + 1) s.place some there)

    open_end : is_end scope.end at.place ≡ false
    open_end = not_end scope.end at.place s.place (omega (arith, some)) there.end

    opens : identifier_at scope at.place at.rest ≡ Ok (o, s)
    opens = opens_read scope at.place at.rest o s h.opens

    by_mark : (m : Bool) → scope.marked ≡ m
        → cond m (cond (is_end scope.end at.place) (cut_off scope at.place (at.place + 1)) (mark_at scope at.place at.rest)) (cond (is_end scope.end at.place) (Ok (ended at.place (record { place = at.place; rest = at.rest }))) (begin_at scope at.place at.rest)) ≡ Ok (begun o s)
    by_mark true e = cond_no (is_end scope.end at.place) _ _ _ open_end (mark_begins scope at.place at.rest o s here (h.no_mark e) opens)
    by_mark false e = cond_no (is_end scope.end at.place) _ _ _ open_end (begin_goes scope at.place at.rest o s opens)

-- ---- contents end

closing_same : (m : Bool) → closing m ≡ reading.closing m
closing_same true = refl
closing_same false = refl

is_end_at : (end : Option ℕ) (place : ℕ) → end ≡ Some place → is_end end place ≡ true
is_end_at end place e = rw e (le-leb place place (omega arith))

pub ends_found : (scope : Scope) (at : Spot) (p : ℕ) (b : Spot) → IsIn scope at.place → look_at scope at.place at.rest ≡ Ok (ended p b) → (p ≡ at.place) × ContentsEnd scope at b
ends_found scope at p b here e =
    let f : EndFound scope at.place at.rest p b = look_found scope at.place at.rest (ended p b) here e in (
      f.place_is,
      record {
        parts = f.taken.parts ∙ ap (λ (c : List ℕ). c ++ b.rest) (sym (closing_same scope.marked));
        onward = f.taken.onward ∙ ap (λ (c : List ℕ). at.place + length c) (sym (closing_same scope.marked));
        within = within_in scope b.place f.is_in;
        due = λ m. is_end_at scope.end at.place (subst (λ (k : Bool). ClosesBy k scope at.place) m f.closes.by);
      },
    )

closes_by : (m : Bool) (scope : Scope) (place : ℕ) (b : Spot) → b.place ≡ place + length (closing m) → IsWithin scope b.place → (m ≡ false → is_end scope.end place ≡ true) → ClosesBy m scope place
closes_by true scope place b onward here due = subst (IsIn scope) onward (in_within scope b.place here)
closes_by false scope place b onward here due =
    let there : IsIn scope place = let same : b.place ≡ place = omega (arith, onward) in subst (IsIn scope) same (in_within scope b.place here) in
    end_here scope.end place there.end (due refl)

abbrev ended_so : ℕ → ℕ → List ℕ → Reading Ahead
ended_so place onward rest = Ok (ended place (record { place = onward; rest = rest }))

pub ends_read : (scope : Scope) (at b : Spot) → ContentsEnd scope at b → look_at scope at.place at.rest ≡ Ok (ended at.place b)
ends_read scope at b h =
    let closes : Closes scope at.place = record { by = closes_by scope.marked scope at.place b h.onward h.within h.due } in
    let onward : at.place + length (reading.closing scope.marked) ≡ b.place = ap (λ (c : List ℕ). at.place + length c) (sym (closing_same scope.marked)) ∙ sym h.onward in
    ap (look_at scope at.place) (h.parts ∙ ap (λ (c : List ℕ). c ++ b.rest) (closing_same scope.marked)) ∙ look_closed scope at.place b.rest closes ∙ ap (λ (n : ℕ). ended_so at.place n b.rest) onward

-- contents that end behind a place, as readers of contents tell it
pub ends_of : (scope : Scope) (place : ℕ) (b : Spot) → Closes scope place → b.place ≡ place + length (reading.closing scope.marked) → IsIn scope b.place → ContentsEnd scope (record { place = place; rest = reading.closing scope.marked ++ b.rest }) b
ends_of scope place b closes onward here = record {
  parts = ap (λ (c : List ℕ). c ++ b.rest) (sym (closing_same scope.marked));
  onward = onward ∙ ap (λ (c : List ℕ). place + length c) (sym (closing_same scope.marked));
  within = within_in scope b.place here;
  due = λ m. is_end_at scope.end place (subst (λ (k : Bool). ClosesBy k scope place) m closes.by);
}

pub closes_of : (scope : Scope) (at b : Spot) → ContentsEnd scope at b → Closes scope at.place
closes_of scope at b h = record { by = closes_by scope.marked scope at.place b h.onward h.within h.due }

pub closing_of : (scope : Scope) (at b : Spot) → ContentsEnd scope at b → at.rest ≡ reading.closing scope.marked ++ b.rest
closing_of scope at b h = h.parts ∙ ap (λ (c : List ℕ). c ++ b.rest) (closing_same scope.marked)
