-- Parameters that are read are those that stand there, and those that stand there are read.
use Rattle.std.proofs.Common.{◌≡◌, ℕ, zero, suc, ◌+◌, ◌-◌, ◌≤◌, ◌==◌, Bool, true, false, cond, ltb, List, [], ◌∷◌, ◌++◌, length, take, drop, Option, Some, None, Result, Ok, Err, refl, sym, ap, subst, ◌∙◌, append_assoc, inl, inr, arith}
use Rattle.std.specs.Prelude.{is_none}
use Rattle.std.specs.List.{flat_map}
use Rattle.std.proofs.lemmas.Bool.{ltb-false, le-ltb, cases_Bool}
use Rattle.std.proofs.lemmas.List.{append-nil, take-append-drop, length-append, length-take, take_at, drop_at}
use Rattle.osi_base.specs.declared.layer_words.Kind.TheVariants as kinds
use Rattle.tpkt.specs.declared.parameters.Seen.{Seen}
use Rattle.tpkt.specs.declared.header_stops.Stop.{Stop}
use Rattle.tpkt.specs.declared.header_stops.Stop.TheVariants.{Short, At}
use Rattle.tpkt.specs.Wire.{parameter, values}
use Rattle.tpkt.specs.Header.{with_size, with_parameter, value_at, parameter_at, parameters_at}
use Rattle.tpkt.proofs.Results.{ok_is, refused, chosen, bound}

-- the values of a size, and of a selector
abbrev pub sizes : Option ℕ → List (List ℕ)
sizes None = []
sizes (Some n) = (n ∷ []) ∷ []

abbrev pub selectors : Option (List ℕ) → List (List ℕ)
selectors None = []
selectors (Some v) = v ∷ []

-- what was seen before, and these parameters, are what is seen then
pub record Adds (seen : Seen) (ps : List (ℕ × List ℕ)) (next : Seen) : Type 0 where
  pub size : sizes seen.size ++ values 192 ps ≡ sizes next.size
  pub calling : selectors seen.calling ++ values 193 ps ≡ selectors next.calling
  pub called : selectors seen.called ++ values 194 ps ≡ selectors next.called

-- ---- one parameter

value_found : (m o c : ℕ) (xs : List ℕ) (p : ℕ × List ℕ × List ℕ) → value_at m o c xs ≡ Ok p → (c ∷ xs ≡ parameter (p.0, p.1) ++ p.2) × (length p.1 + 2 ≤ m)
unfolding value_at
value_found m o c [] p e = absurd cc
value_found m o c (len ∷ rest) p e =
    let a = refused (ltb m (len + 2)) (At o kinds.Content) (cond (ltb (length rest) len) (Err Short) (Ok (c, take len rest, drop len rest))) p e in
    let b = refused (ltb (length rest) len) Short (Ok (c, take len rest, drop len rest)) p a.1 in
    let within : len + 2 ≤ m = ltb-false _ _ a.0 in
    let there : len ≤ length rest = ltb-false _ _ b.0 in
    let n : length (take len rest) ≡ len = omega (arith, length-take len rest) in
    let whole : c ∷ len ∷ rest ≡ c ∷ length (take len rest) ∷ take len rest ++ drop len rest = rw (n, take-append-drop len rest) refl in
    subst (λ (q : ℕ × List ℕ × List ℕ). (c ∷ len ∷ rest ≡ parameter (q.0, q.1) ++ q.2) × (length q.1 + 2 ≤ m)) (ok_is _ _ b.1) (whole, omega arith)

pub one_found : (m o : ℕ) (xs : List ℕ) (p : ℕ × List ℕ × List ℕ) → parameter_at m o xs ≡ Ok p → (xs ≡ parameter (p.0, p.1) ++ p.2) × (length p.1 + 2 ≤ m)
unfolding parameter_at
one_found m o [] p e = absurd cc
one_found m o (code ∷ rest) p e = value_found m o code rest p (refused (m == 1) (At o kinds.Content) (value_at m o code rest) p e).1

pub one_again : (m o code : ℕ) (v rest : List ℕ) → length v + 2 ≤ m → parameter_at m o (parameter (code, v) ++ rest) ≡ Ok (code, v, rest)
unfolding parameter_at value_at
one_again m o code v rest within =
    let more : (m == 1) ≡ false = grind arith in
    let room : ltb m (length v + 2) ≡ false = le-ltb _ _ (omega arith) in
    let there : ltb (length (v ++ rest)) (length v) ≡ false = le-ltb _ _ (omega (arith, length-append v rest)) in
    rw (more, room, there, take_at v rest (length v) refl, drop_at v rest (length v) refl) refl

-- ---- what a parameter adds

pub eq_is : (a b : ℕ) → (a == b) ≡ true → a ≡ b
eq_is a b e = grind arith

-- a selector that wasn't there
free : (o : Option (List ℕ)) (at : ℕ) (next : Seen) (s : Seen) → cond (is_none o) (Ok next) (Err (At at kinds.Content)) ≡ Ok s → (o ≡ None) × (next ≡ s)
free None at next s e = (refl, ok_is next s e)
free (Some v) at next s e = absurd cc

size_found : (o : ℕ) (seen next : Seen) (v : List ℕ) → with_size o seen v ≡ Ok next → Adds seen ((192, v) ∷ []) next
unfolding with_size
size_found o seen next [] e = absurd cc
size_found o seen next (n ∷ m ∷ v) e = absurd cc
size_found o seen next (n ∷ []) e = sized seen.size refl e
  where
    sized : (s : Option ℕ) → s ≡ seen.size → cond (is_none s) (Ok (record seen { size = Some n })) (Err (At o kinds.Content)) ≡ Ok next → Adds seen ((192, n ∷ []) ∷ []) next
    sized (Some m) w e = absurd cc
    sized None w e = subst (λ (s : Seen). Adds seen ((192, n ∷ []) ∷ []) s) (ok_is _ next e)
        (record { size = ap (λ s. sizes s ++ (n ∷ []) ∷ []) (sym w); calling = append-nil (selectors seen.calling); called = append-nil (selectors seen.called) })

pub adds_found : (o : ℕ) (seen next : Seen) (code : ℕ) (v : List ℕ) → with_parameter o seen code v ≡ Ok next → Adds seen ((code, v) ∷ []) next
unfolding with_parameter
adds_found o seen next code v e =
    elim (chosen (code == 192) (with_size o seen v) _ (Ok next) e) [
      | inl p ↦ rw (eq_is code 192 p.0) (size_found o seen next v p.1)
      | inr p ↦ elim (chosen (code == 193) (cond (is_none seen.calling) (Ok (record seen { calling = Some v })) (Err (At o kinds.Content))) _ (Ok next) p.1) [
        | inl q ↦ (
            let f = free seen.calling o (record seen { calling = Some v }) next q.1 in
            rw (eq_is code 193 q.0) (subst (λ (s : Seen). Adds seen ((193, v) ∷ []) s) f.1
            (record { size = append-nil (sizes seen.size); calling = ap (λ s. selectors s ++ v ∷ []) f.0; called = append-nil (selectors seen.called) })))
        | inr q ↦ elim (chosen (code == 194) (cond (is_none seen.called) (Ok (record seen { called = Some v })) (Err (At o kinds.Content))) (Ok seen) (Ok next) q.1) [
          | inl r ↦ (
              let f = free seen.called o (record seen { called = Some v }) next r.1 in
              rw (eq_is code 194 r.0) (subst (λ (s : Seen). Adds seen ((194, v) ∷ []) s) f.1
              (record { size = append-nil (sizes seen.size); calling = append-nil (selectors seen.calling); called = ap (λ s. selectors s ++ v ∷ []) f.0 })))
          | inr r ↦ subst (λ (s : Seen). Adds seen ((code, v) ∷ []) s) (ok_is seen next r.1)
              (record { size = rw p.0 (append-nil (sizes seen.size)); calling = rw q.0 (append-nil (selectors seen.calling)); called = rw r.0 (append-nil (selectors seen.called)) })
        ]
      ]
    ]

values-cons : (code : ℕ) (p : ℕ × List ℕ) (ps : List (ℕ × List ℕ)) → values code (p ∷ ps) ≡ values code (p ∷ []) ++ values code ps
values-cons code p ps = by_test (p.0 == code)
  where
    by_test : (b : Bool) → cond b (p.1 ∷ values code ps) (values code ps) ≡ cond b (p.1 ∷ []) [] ++ values code ps
    by_test true = refl
    by_test false = refl

pub Adds-then : (seen mid next : Seen) (p : ℕ × List ℕ) (ps : List (ℕ × List ℕ)) → Adds seen (p ∷ []) mid → Adds mid ps next → Adds seen (p ∷ ps) next
Adds-then seen mid next p ps a b = record {
  size = rw (values-cons 192 p ps, ← append_assoc, a.size) b.size;
  calling = rw (values-cons 193 p ps, ← append_assoc, a.calling) b.calling;
  called = rw (values-cons 194 p ps, ← append_assoc, a.called) b.called;
}

-- ---- all parameters

pub all_found : (fuel left o : ℕ) (seen next : Seen) (xs : List ℕ) → left ≤ fuel → parameters_at fuel left o seen xs ≡ Ok next
    → (ps : List (ℕ × List ℕ)) × (more : List ℕ) × (xs ≡ flat_map parameter ps ++ more) × (length (flat_map parameter ps) ≡ left) × Adds seen ps next
unfolding parameters_at
all_found fuel zero o seen next xs le e =
    let s = ok_is seen next e in
    ([], xs, refl, refl, subst (λ (n : Seen). Adds seen [] n) s (record { size = append-nil (sizes seen.size); calling = append-nil (selectors seen.calling); called = append-nil (selectors seen.called) }))
all_found zero (suc left) o seen next xs le e = absurd (omega arith)
all_found (suc fuel) (suc left) o seen next xs le e =
    let a = bound (parameter_at (suc left) o xs) _ next e in
    let p = a.0 in
    let b = bound (with_parameter o seen p.0 p.1) _ next a.2 in
    let one = one_found (suc left) o xs p a.1 in
    let rest = all_found fuel (suc left - (length p.1 + 2)) (o + (length p.1 + 2)) b.0 next p.2 (omega (arith, one.1)) b.2 in (
      (p.0, p.1) ∷ rest.0,
      rest.1,
      one.0 ∙ ap (λ (t : List ℕ). parameter (p.0, p.1) ++ t) rest.2 ∙ sym (append_assoc (parameter (p.0, p.1)) (flat_map parameter rest.0) rest.1),
      omega (arith, rest.3, one.1, length-append (parameter (p.0, p.1)) (flat_map parameter rest.0)),
      Adds-then seen b.0 next (p.0, p.1) rest.0 (adds_found o seen b.0 p.0 p.1 b.1) rest.4,
    )

-- ---- what stands there is read

-- a size that comes now wasn't seen before, and is the one that is seen then
size_now : (s : Option ℕ) (v : List ℕ) (vs : List (List ℕ)) (t : Option ℕ) → sizes s ++ v ∷ vs ≡ sizes t → (n : ℕ) × (s ≡ None) × (v ≡ n ∷ []) × (sizes (Some n) ++ vs ≡ sizes t)
size_now (Some m) v vs None e = absurd cc
size_now (Some m) v vs (Some n) e = absurd cc
size_now None v vs None e = absurd cc
size_now None v vs (Some n) e = (n, refl, cc, cc)

selector_now : (s : Option (List ℕ)) (v : List ℕ) (vs : List (List ℕ)) (t : Option (List ℕ)) → selectors s ++ v ∷ vs ≡ selectors t → (s ≡ None) × (selectors (Some v) ++ vs ≡ selectors t)
selector_now (Some m) v vs None e = absurd cc
selector_now (Some m) v vs (Some n) e = absurd cc
selector_now None v vs None e = absurd cc
selector_now None v vs (Some n) e = (refl, e)

size_taken : (o n : ℕ) (seen : Seen) (v : List ℕ) → seen.size ≡ None → v ≡ n ∷ [] → with_size o seen v ≡ Ok (record seen { size = Some n })
unfolding with_size
size_taken o n seen v e f = ap (with_size o seen) f ∙ ap (λ s. cond (is_none s) (Ok (record seen { size = Some n })) (Err (At o kinds.Content))) e

-- the first of parameters that are seen is taken
pub first_taken : (o : ℕ) (seen next : Seen) (code : ℕ) (v : List ℕ) (ps : List (ℕ × List ℕ)) → Adds seen ((code, v) ∷ ps) next
    → (mid : Seen) × (with_parameter o seen code v ≡ Ok mid) × Adds mid ps next
unfolding with_parameter
first_taken o seen next code v ps a =
    elim (cases_Bool (code == 192)) [
      | inl is ↦ (
          let e = eq_is code 192 is in
          let w = subst (λ (c : ℕ). Adds seen ((c, v) ∷ ps) next) e a in
          let f = size_now seen.size v (values 192 ps) next.size w.size in
          (record seen { size = Some f.0 }, rw is (size_taken o f.0 seen v f.1 f.2), record { size = f.3; calling = w.calling; called = w.called }))
      | inr not_size ↦ elim (cases_Bool (code == 193)) [
        | inl is ↦ (
            let e = eq_is code 193 is in
            let w = subst (λ (c : ℕ). Adds seen ((c, v) ∷ ps) next) e a in
            let f = selector_now seen.calling v (values 193 ps) next.calling w.calling in
            (record seen { calling = Some v }, rw (not_size, is, f.0) refl, record { size = w.size; calling = f.1; called = w.called }))
        | inr not_calling ↦ elim (cases_Bool (code == 194)) [
          | inl is ↦ (
              let e = eq_is code 194 is in
              let w = subst (λ (c : ℕ). Adds seen ((c, v) ∷ ps) next) e a in
              let f = selector_now seen.called v (values 194 ps) next.called w.called in
              (record seen { called = Some v }, rw (not_size, not_calling, is, f.0) refl, record { size = w.size; calling = w.calling; called = f.1 }))
          | inr not_called ↦ (
            seen,
            rw (not_size, not_calling, not_called) refl,
            record { size = rw not_size at a.size; calling = rw not_calling at a.calling; called = rw not_called at a.called },
          )
        ]
      ]
    ]

same_size : (s t : Option ℕ) → sizes s ++ [] ≡ sizes t → s ≡ t
same_size None None e = refl
same_size None (Some n) e = absurd cc
same_size (Some m) None e = absurd cc
same_size (Some m) (Some n) e = cc

same_selector : (s t : Option (List ℕ)) → selectors s ++ [] ≡ selectors t → s ≡ t
same_selector None None e = refl
same_selector None (Some n) e = absurd cc
same_selector (Some m) None e = absurd cc
same_selector (Some m) (Some n) e = cc

abbrev seen_of : Option ℕ → Option (List ℕ) → Option (List ℕ) → Seen
seen_of size calling called = record { size = size; calling = calling; called = called }

-- no parameters change nothing
same_seen : (seen next : Seen) → Adds seen [] next → seen ≡ next
same_seen seen next a =
    ap (λ s. seen_of s seen.calling seen.called) (same_size seen.size next.size a.size)
    ∙ ap (λ s. seen_of next.size s seen.called) (same_selector seen.calling next.calling a.calling)
    ∙ ap (λ s. seen_of next.size next.calling s) (same_selector seen.called next.called a.called)

abbrev done : Seen → Result Seen Stop
done s = Ok s

pub all_again : (fuel left o : ℕ) (seen next : Seen) (ps : List (ℕ × List ℕ)) (more : List ℕ) → left ≤ fuel → length (flat_map parameter ps) ≡ left → Adds seen ps next
    → parameters_at fuel left o seen (flat_map parameter ps ++ more) ≡ Ok next
unfolding parameters_at
all_again fuel zero o seen next [] more le e a = ap done (same_seen seen next a)
all_again fuel (suc left) o seen next [] more le e a = absurd (omega arith)
all_again fuel zero o seen next (p ∷ ps) more le e a = absurd (omega (arith, length-append (parameter p) (flat_map parameter ps)))
all_again zero (suc left) o seen next (p ∷ ps) more le e a = absurd (omega arith)
all_again (suc fuel) (suc left) o seen next (p ∷ ps) more le e a =
    let f = first_taken o seen next p.0 p.1 ps a in
    let len : length p.1 + 2 + length (flat_map parameter ps) ≡ suc left = omega (arith, e, length-append (parameter p) (flat_map parameter ps)) in
    let cut = append_assoc (parameter p) (flat_map parameter ps) more in
    let one : parameter_at (suc left) o (flat_map parameter (p ∷ ps) ++ more) ≡ Ok (p.0, p.1, flat_map parameter ps ++ more) = ap (parameter_at (suc left) o) cut ∙ one_again (suc left) o p.0 p.1 (flat_map parameter ps ++ more) (omega arith) in
    let rest = all_again fuel (suc left - (length p.1 + 2)) (o + (length p.1 + 2)) f.0 next ps more (omega arith) (omega arith) f.2 in
    rw (one, f.1) rest
