-- The ends of contents: what stands ahead.
use Rattle.std.proofs.Common.{◌≡◌, ◌≢◌, ℕ, ◌+◌, ◌≤◌, ◌<◌, Bool, true, false, cond, List, [], ◌∷◌, ◌++◌, length, Option, Some, None, Ok, Err, refl, sym, ap, subst, arith, inl, inr}
use Rattle.std.specs.Prelude.{nat_eq}
use Rattle.std.proofs.lemmas.Bool.{ltb-false, eqb-true, ne_eqb, leb-true, le-leb, lt-leb}
use Rattle.ber_spelling.specs.declared.fault.ReadFault.TheVariants as faults
use Rattle.ber_spelling.specs.declared.spot.Scope.{Scope}
use Rattle.ber_spelling.specs.Reading.{Spot, Opened, Ahead, ended, begun, is_past, within}
use Rattle.ber_spelling.specs.Fields.{identifier_at, is_end, cut_off, begin_at, second_zero_at, mark_at, look_at}
use Rattle.ber_spelling.proofs.Growing.{short_not_ok}
use Rattle.ber_spelling.proofs.Identifiers.{in_before, IsIn, is_in, in_is, Taken, bind_ok, chosen_ok, ok_is, done}

-- what closes contents
abbrev pub closing : Bool → List ℕ
closing true = 0 ∷ 0 ∷ []
closing false = []

-- contents end here: where the definite length says, or at end-of-contents that lie within
abbrev pub ClosesBy : Bool → Scope → ℕ → Type 0
ClosesBy true scope place = IsIn scope (place + 2)
ClosesBy false scope place = scope.end ≡ Some place

pub record Closes (scope : Scope) (place : ℕ) : Type 0 where
  pub by : ClosesBy scope.marked scope place

pub end_here : (end : Option ℕ) (place : ℕ) → is_past end place ≡ false → is_end end place ≡ true → end ≡ Some place
end_here None place p e = absurd cc
end_here (Some end) place p e =
    let le : end ≤ place = leb-true end place e in
    let ge : place ≤ end = ltb-false end place p in
    let same : end ≡ place = omega arith in
    ap (λ (n : ℕ). Some n) same

pub not_end : (end : Option ℕ) (place until : ℕ) → place < until → is_past end until ≡ false → is_end end place ≡ false
not_end None place until lt p = refl
not_end (Some end) place until lt p = let ge : until ≤ end = ltb-false end until p in lt-leb end place (omega arith)

pub record EndFound (scope : Scope) (place : ℕ) (rest : List ℕ) (at : ℕ) (after : Spot) : Type 0 where
  pub place_is : at ≡ place
  pub taken : Taken place rest (closing scope.marked) after
  pub closes : Closes scope place
  pub is_in : IsIn scope after.place

pub record BeginFound (scope : Scope) (place : ℕ) (rest : List ℕ) (o : Opened) (s : Spot) : Type 0 where
  pub opens : identifier_at scope place rest ≡ Ok (o, s)

abbrev pub AheadFound : Scope → ℕ → List ℕ → Ahead → Type 0
AheadFound scope place rest (ended at after) = EndFound scope place rest at after
AheadFound scope place rest (begun o s) = BeginFound scope place rest o s

begin_found : (scope : Scope) (place : ℕ) (rest : List ℕ) (a : Ahead) → begin_at scope place rest ≡ Ok a → AheadFound scope place rest a
begin_found scope place rest a e =
    let b = bind_ok (identifier_at scope place rest) (λ x. Ok (begun x.0 x.1)) a e in
    subst (λ (y : Ahead). AheadFound scope place rest y) (ok_is (begun b.0.0 b.0.1) a b.2) (record { opens = b.1 })

ended_as : (m : Bool) (scope : Scope) (place : ℕ) (rest : List ℕ) (after : Spot) → scope.marked ≡ m → Taken place rest (closing m) after → ClosesBy m scope place → IsIn scope after.place → EndFound scope place rest place after
ended_as m scope place rest after e taken closes here = record {
  place_is = refl;
  taken = subst (λ (b : Bool). Taken place rest (closing b) after) (sym e) taken;
  closes = record { by = subst (λ (b : Bool). ClosesBy b scope place) (sym e) closes };
  is_in = here;
}

marked_end : (scope : Scope) (place : ℕ) (rest : List ℕ) → scope.marked ≡ true → IsIn scope (place + 2) → EndFound scope place (0 ∷ 0 ∷ rest) place (record { place = place + 2; rest = rest })
marked_end scope place rest m here = ended_as true scope place _ (record { place = place + 2; rest = rest }) m (record { parts = refl; onward = refl }) here here

second_found : (scope : Scope) (place first : ℕ) (rest : List ℕ) (a : Ahead) → scope.marked ≡ true → first ≡ 0 → second_zero_at scope place (first ∷ rest) rest ≡ Ok a → AheadFound scope place (first ∷ rest) a
second_found scope place first [] a m z e = absurd (let no : Err faults.Short ≡ done a = e in cc)
second_found scope place first (second ∷ rest) a m z e =
    elim (chosen_ok (nat_eq second 0) _ _ a e) [
      | inl t ↦
          let b = bind_ok (within scope place (place + 2)) (λ _. Ok (ended place (record { place = place + 2; rest = rest }))) a t.1 in
          let same = ok_is (ended place (record { place = place + 2; rest = rest })) a b.2 in
          let zeros : (0 ∷ 0 ∷ rest) ≡ (first ∷ second ∷ rest) = rw (z, eqb-true second 0 t.0) refl in
          subst (λ (y : Ahead). AheadFound scope place (first ∷ second ∷ rest) y) same
          (subst (λ (octets : List ℕ). EndFound scope place octets place (record { place = place + 2; rest = rest })) zeros (marked_end scope place rest m (is_in scope place (place + 2) b.0 b.1)))
      | inr t ↦ begin_found scope place (first ∷ second ∷ rest) a t.1
    ]

mark_found : (scope : Scope) (place : ℕ) (rest : List ℕ) (a : Ahead) → scope.marked ≡ true → mark_at scope place rest ≡ Ok a → AheadFound scope place rest a
mark_found scope place [] a m e = absurd (let no : Err faults.Short ≡ done a = e in cc)
mark_found scope place (first ∷ rest) a m e =
    elim (chosen_ok (nat_eq first 0) _ _ a e) [
      | inl t ↦ elim (chosen_ok (is_past scope.end (place + 2)) _ _ a t.1) [
        | inl u ↦ absurd (short_not_ok (within scope place (place + 2)) a u.1)
        | inr u ↦
            let b = bind_ok (within scope place (place + 1)) _ a u.1 in
            second_found scope place first rest a m (eqb-true first 0 t.0) b.2
      ]
      | inr t ↦ begin_found scope place (first ∷ rest) a t.1
    ]

plain_end : (scope : Scope) (place : ℕ) (rest : List ℕ) → scope.marked ≡ false → IsIn scope place → is_end scope.end place ≡ true → EndFound scope place rest place (record { place = place; rest = rest })
plain_end scope place rest m here e = ended_as false scope place _ (record { place = place; rest = rest }) m (record { parts = refl; onward = omega arith }) (end_here scope.end place here.end e) here

pub look_found : (scope : Scope) (place : ℕ) (rest : List ℕ) (a : Ahead) → IsIn scope place → look_at scope place rest ≡ Ok a → AheadFound scope place rest a
unfolding look_at
look_found scope place rest a here e =
    elim (chosen_ok scope.marked _ _ a e) [
      | inl t ↦ elim (chosen_ok (is_end scope.end place) _ _ a t.1) [
        | inl u ↦ absurd (short_not_ok (within scope place (place + 1)) a u.1)
        | inr u ↦ mark_found scope place rest a t.0 u.1
      ]
      | inr t ↦ elim (chosen_ok (is_end scope.end place) _ _ a t.1) [
        | inl u ↦ subst (λ (y : Ahead). AheadFound scope place rest y) (ok_is (ended place (record { place = place; rest = rest })) a u.1) (plain_end scope place rest t.0 here u.0)
        | inr u ↦ begin_found scope place rest a u.1
      ]
    ]

-- ---- what closes contents is read so, and what begins in them

pub look_closed : (scope : Scope) (place : ℕ) (rest : List ℕ) → Closes scope place
    → look_at scope place (closing scope.marked ++ rest) ≡ Ok (ended place (record { place = place + length (closing scope.marked); rest = rest }))
unfolding look_at
look_closed scope place rest h = by_mark scope.marked refl h.by
  where
    plain : (end : Option ℕ) → end ≡ Some place → is_end end place ≡ true
    plain end e = rw e (le-leb place place (omega arith))

    by_mark : (m : Bool) → scope.marked ≡ m → ClosesBy m scope place
        → cond m (cond (is_end scope.end place) (cut_off scope place (place + 1)) (mark_at scope place (closing m ++ rest))) (cond (is_end scope.end place) (Ok (ended place (record { place = place; rest = closing m ++ rest }))) (begin_at scope place (closing m ++ rest))) ≡ Ok (ended place (record { place = place + length (closing m); rest = rest }))
    by_mark true e here =
        let lt : place < place + 2 = omega arith in
        rw (not_end scope.end place (place + 2) lt here.end, here.end, in_is scope place (place + 1) (in_before scope (place + 1) (place + 2) (omega arith) here), in_is scope place (place + 2) here) refl
    by_mark false e here = rw (plain scope.end here) (ap (λ (n : ℕ). Ok (ended place (record { place = n; rest = rest }))) (omega arith))

-- where a value begins within, contents do not end
pub look_begun : (scope : Scope) (place until : ℕ) (first : ℕ) (rest : List ℕ) (o : Opened) (s : Spot) → first ≢ 0 → place < until → IsIn scope until → identifier_at scope place (first ∷ rest) ≡ Ok (o, s)
    → look_at scope place (first ∷ rest) ≡ Ok (begun o s)
unfolding look_at
look_begun scope place until first rest o s ne lt here e = by_mark scope.marked
  where
    by_mark : (m : Bool) → cond m (cond (is_end scope.end place) (cut_off scope place (place + 1)) (mark_at scope place (first ∷ rest))) (cond (is_end scope.end place) (Ok (ended place (record { place = place; rest = first ∷ rest }))) (begin_at scope place (first ∷ rest))) ≡ Ok (begun o s)
    by_mark true = rw (not_end scope.end place until lt here.end, ne_eqb first 0 ne, e) refl
    by_mark false = rw (not_end scope.end place until lt here.end, e) refl
