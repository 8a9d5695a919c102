-- Sets by rising identifier: equal look-ups are equal sets, and changes of different contexts commute.
use Rattle.std.proofs.Common.{◌≡◌, ℕ, ◌<◌, ◌≤◌, Bool, true, false, nat_eq, nat_lt, if◌then◌else◌, [], ◌∷◌, refl, sym, ap, ◌∙◌, arith, subst, ap₂, le_of_lt, le_of_eq, lt_trans, eqb-true, nat_cmp, Ordering, Less, Equal, Greater}
use Rattle.std.specs.Prelude.{Some, None}
use Rattle.std.proofs.lemmas.Bool.{eqb-false}
use Rattle.std.proofs.lemmas.Bool.Decides.{nat_tests}
use Rattle.agreement.specs.Sets.{Pair, Context, ContextSet, lookup, put, remove, IsRising, AllAbove}

pub lookup-put_same : (k : ℕ) (p : Pair) (set : ContextSet) → lookup (put k p set) k ≡ Some p
lookup-put_same k p [] = grind (arith, nat_tests)
lookup-put_same k p (c ∷ cs) = let ih = lookup-put_same k p cs in grind (arith, nat_tests)

pub lookup-put_other : (j k : ℕ) (p : Pair) (set : ContextSet) → (j ≡ k → ⊥) → lookup (put k p set) j ≡ lookup set j
lookup-put_other j k p [] n = grind (arith, nat_tests)
lookup-put_other j k p (c ∷ cs) n = let ih = lookup-put_other j k p cs n in grind (arith, nat_tests)

pub lookup-remove_same : (k : ℕ) (set : ContextSet) → lookup (remove k set) k ≡ None
lookup-remove_same k [] = refl
lookup-remove_same k (c ∷ cs) = let ih = lookup-remove_same k cs in grind (arith, nat_tests)

pub lookup-remove_other : (j k : ℕ) (set : ContextSet) → (j ≡ k → ⊥) → lookup (remove k set) j ≡ lookup set j
lookup-remove_other j k [] n = refl
lookup-remove_other j k (c ∷ cs) n = let ih = lookup-remove_other j k cs n in grind (arith, nat_tests)

-- what holds of both branches holds of a choice
pub by_test : {A : Type 0} (P : A → Type 0) (b : Bool) (x y : A) → (b ≡ true → P x) → (b ≡ false → P y) → P (if b then x else y)
by_test P true x y h g = h refl
by_test P false x y h g = g refl

pub above-put : (j k : ℕ) (p : Pair) (set : ContextSet) → j < k → AllAbove j set → AllAbove j (put k p set)
above-put j k p [] h a = (h, tt)
above-put j k p (c ∷ cs) h a =
    by_test (AllAbove j) (nat_lt k c.identifier) _ _
    (λ t. (h, a))
    (λ f. by_test (AllAbove j) (nat_eq k c.identifier) _ _ (λ t. (h, a.1)) (λ g. (a.0, above-put j k p cs h a.1)))

above-weaker : (j k : ℕ) (set : ContextSet) → j < k → AllAbove k set → AllAbove j set
above-weaker j k [] h a = tt
above-weaker j k (c ∷ cs) h a = (lt_trans h a.0, above-weaker j k cs h a.1)

pub rising-put : (k : ℕ) (p : Pair) (set : ContextSet) → IsRising set → IsRising (put k p set)
rising-put k p [] r = (tt, tt)
rising-put k p (c ∷ cs) r =
    by_test IsRising (nat_lt k c.identifier) _ _
    (λ t. ((less t, above-weaker k c.identifier cs (less t) r.0), r))
    (λ f. by_test IsRising (nat_eq k c.identifier) _ _
    (λ t. (subst (λ i. AllAbove i cs) (sym (eqb-true k c.identifier t)) r.0, r.1))
    (λ g. (above-put c.identifier k p cs (more f g) r.0, rising-put k p cs r.1)))
  where
    less : nat_lt k c.identifier ≡ true → k < c.identifier
    less t = grind (arith, nat_tests)

    more : nat_lt k c.identifier ≡ false → nat_eq k c.identifier ≡ false → c.identifier < k
    more f g = grind (arith, nat_tests)

above-remove : (j k : ℕ) (set : ContextSet) → AllAbove j set → AllAbove j (remove k set)
above-remove j k [] a = tt
above-remove j k (c ∷ cs) a =
    by_test (AllAbove j) (nat_eq c.identifier k) _ _ (λ t. above-remove j k cs a.1) (λ g. (a.0, above-remove j k cs a.1))

pub rising-remove : (k : ℕ) (set : ContextSet) → IsRising set → IsRising (remove k set)
rising-remove k [] r = tt
rising-remove k (c ∷ cs) r =
    by_test IsRising (nat_eq c.identifier k) _ _
    (λ t. rising-remove k cs r.1)
    (λ g. (above-remove c.identifier k cs r.0, rising-remove k cs r.1))

lookup-above : (j k : ℕ) (set : ContextSet) → j ≤ k → AllAbove k set → lookup set j ≡ None
lookup-above j k [] h a = refl
lookup-above j k (c ∷ cs) h a = let ih = lookup-above j k cs h a.1 in let above = a.0 in grind (arith, nat_tests)

lookup-first : (c : Context) (cs : ContextSet) → lookup (c ∷ cs) c.identifier ≡ Some c.pair
lookup-first c cs = grind (arith, nat_tests)

lookup-later : (j : ℕ) (c : Context) (cs : ContextSet) → (c.identifier ≡ j → ⊥) → lookup (c ∷ cs) j ≡ lookup cs j
lookup-later j c cs n = grind (arith, nat_tests)

context-path : (c d : Context) → c.identifier ≡ d.identifier → c.pair ≡ d.pair → c ≡ d
context-path c d e f = λ i. record { identifier = e i; pair = f i }

-- rising sets with equal look-ups are equal
pub same_set : (s t : ContextSet) → IsRising s → IsRising t → ((k : ℕ) → lookup s k ≡ lookup t k) → s ≡ t
same_set [] [] r q h = refl
same_set [] (d ∷ t) r q h = let e = h d.identifier in let f = lookup-first d t in cc
same_set (c ∷ s) [] r q h = let e = h c.identifier in let f = lookup-first c s in cc
same_set (c ∷ s) (d ∷ t) r q h = go (same_set s t r.1 q.1) (nat_cmp c.identifier d.identifier) refl
  where
    go : (((k : ℕ) → lookup s k ≡ lookup t k) → s ≡ t) → (o : Ordering) → nat_cmp c.identifier d.identifier ≡ o → c ∷ s ≡ d ∷ t
    go ih Less e =
        let less : c.identifier < d.identifier = grind (arith, nat_tests) in
        let away : d.identifier ≡ c.identifier → ⊥ = grind arith in
        let none = lookup-later c.identifier d t away ∙ lookup-above c.identifier d.identifier t (le_of_lt less) q.0 in
        let some = lookup-first c s in
        let both = h c.identifier in
        cc
    go ih Greater e =
        let less : d.identifier < c.identifier = grind (arith, nat_tests) in
        let away : c.identifier ≡ d.identifier → ⊥ = grind arith in
        let none = lookup-later d.identifier c s away ∙ lookup-above d.identifier c.identifier s (le_of_lt less) r.0 in
        let some = lookup-first d t in
        let both = h d.identifier in
        cc
    go ih Equal e =
        let same : c.identifier ≡ d.identifier = grind (arith, nat_tests) in
        let first : Some c.pair ≡ Some d.pair = sym (lookup-first c s) ∙ h c.identifier ∙ ap (lookup (d ∷ t)) same ∙ lookup-first d t in
        let pairs : c.pair ≡ d.pair = cc in
        ap₂ (λ (x : Context) (xs : ContextSet). x ∷ xs) (context-path c d same pairs) (ih (rest same))
      where
        rest : c.identifier ≡ d.identifier → (k : ℕ) → lookup s k ≡ lookup t k
        rest same k = at (nat_eq c.identifier k) refl
          where
            at : (b : Bool) → nat_eq c.identifier k ≡ b → lookup s k ≡ lookup t k
            at true e =
                let here : c.identifier ≡ k = eqb-true c.identifier k e in
                lookup-above k c.identifier s (le_of_eq (sym here)) r.0 ∙ sym (lookup-above k d.identifier t (le_of_eq (sym here ∙ same)) q.0)
            at false e =
                let n : c.identifier ≡ k → ⊥ = eqb-false c.identifier k e in
                let m : d.identifier ≡ k → ⊥ = λ x. n (same ∙ x) in
                sym (lookup-later k c s n) ∙ h k ∙ lookup-later k d t m

-- a change of one context and a change of another commute
pub put-put : (j k : ℕ) (p q : Pair) (set : ContextSet) → (j ≡ k → ⊥) → IsRising set → put j p (put k q set) ≡ put k q (put j p set)
put-put j k p q set n r =
    same_set _ _ (rising-put j p _ (rising-put k q set r)) (rising-put k q _ (rising-put j p set r)) (λ i. go i (nat_eq i j) refl (nat_eq i k) refl)
  where
    go : (i : ℕ) (b : Bool) → nat_eq i j ≡ b → (c : Bool) → nat_eq i k ≡ c → lookup (put j p (put k q set)) i ≡ lookup (put k q (put j p set)) i
    go i true e c f =
        let here = eqb-true i j e in
        rw here (lookup-put_same j p (put k q set) ∙ sym (lookup-put_other j k q (put j p set) n ∙ lookup-put_same j p set))
    go i false e true f =
        let here = eqb-true i k f in
        rw here (lookup-put_other k j p (put k q set) (λ x. n (sym x)) ∙ lookup-put_same k q set ∙ sym (lookup-put_same k q (put j p set)))
    go i false e false f =
        let a = eqb-false i j e in
        let b = eqb-false i k f in
        lookup-put_other i j p (put k q set) a ∙ lookup-put_other i k q set b ∙ sym (lookup-put_other i k q (put j p set) b ∙ lookup-put_other i j p set a)

pub put-remove : (j k : ℕ) (p : Pair) (set : ContextSet) → (j ≡ k → ⊥) → IsRising set → put j p (remove k set) ≡ remove k (put j p set)
put-remove j k p set n r =
    same_set _ _ (rising-put j p _ (rising-remove k set r)) (rising-remove k _ (rising-put j p set r)) (λ i. go i (nat_eq i j) refl (nat_eq i k) refl)
  where
    go : (i : ℕ) (b : Bool) → nat_eq i j ≡ b → (c : Bool) → nat_eq i k ≡ c → lookup (put j p (remove k set)) i ≡ lookup (remove k (put j p set)) i
    go i true e c f =
        let here = eqb-true i j e in
        rw here (lookup-put_same j p (remove k set) ∙ sym (lookup-remove_other j k (put j p set) n ∙ lookup-put_same j p set))
    go i false e true f =
        let here = eqb-true i k f in
        rw here (lookup-put_other k j p (remove k set) (λ x. n (sym x)) ∙ lookup-remove_same k set ∙ sym (lookup-remove_same k (put j p set)))
    go i false e false f =
        let a = eqb-false i j e in
        let b = eqb-false i k f in
        lookup-put_other i j p (remove k set) a ∙ lookup-remove_other i k set b ∙ sym (lookup-remove_other i k (put j p set) b ∙ lookup-put_other i j p set a)

pub remove-remove : (j k : ℕ) (set : ContextSet) → IsRising set → remove j (remove k set) ≡ remove k (remove j set)
remove-remove j k set r =
    same_set _ _ (rising-remove j _ (rising-remove k set r)) (rising-remove k _ (rising-remove j set r)) (λ i. go i (nat_eq i j) refl (nat_eq i k) refl)
  where
    go : (i : ℕ) (b : Bool) → nat_eq i j ≡ b → (c : Bool) → nat_eq i k ≡ c → lookup (remove j (remove k set)) i ≡ lookup (remove k (remove j set)) i
    go i true e true f =
        let here = eqb-true i j e in
        let there = eqb-true i k f in
        let one : lookup (remove j (remove k set)) i ≡ None = rw here (lookup-remove_same j (remove k set)) in
        let two : lookup (remove k (remove j set)) i ≡ None = rw there (lookup-remove_same k (remove j set)) in
        one ∙ sym two
    go i true e false f =
        let here = eqb-true i j e in
        let b = eqb-false i k f in
        let one : lookup (remove j (remove k set)) i ≡ None = rw here (lookup-remove_same j (remove k set)) in
        let two : lookup (remove j set) i ≡ None = rw here (lookup-remove_same j set) in
        one ∙ sym (lookup-remove_other i k (remove j set) b ∙ two)
    go i false e true f =
        let there = eqb-true i k f in
        let a = eqb-false i j e in
        let one : lookup (remove k set) i ≡ None = rw there (lookup-remove_same k set) in
        let two : lookup (remove k (remove j set)) i ≡ None = rw there (lookup-remove_same k (remove j set)) in
        lookup-remove_other i j (remove k set) a ∙ one ∙ sym two
    go i false e false f =
        let a = eqb-false i j e in
        let b = eqb-false i k f in
        lookup-remove_other i j (remove k set) a ∙ lookup-remove_other i k set b ∙ sym (lookup-remove_other i k (remove j set) b ∙ lookup-remove_other i j set a)
