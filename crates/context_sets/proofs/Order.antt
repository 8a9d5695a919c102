-- Sets by rising identifier: equal look-ups are equal sets, and changes of different contexts commute.
use Rattle.std.proofs.Common.{◌≡◌, ℕ, ◌<◌, ◌≤◌, Bool, true, false, nat_eq, [], ◌∷◌, Some, None, refl, sym, ap, ◌∙◌, arith, ap₂, le_of_lt, le_of_eq, eqb-true, nat_cmp, Ordering, Less, Equal, Greater}
use Rattle.std.proofs.lemmas.Bool.{eqb-false}
use Rattle.std.proofs.lemmas.Bool.Decides.{nat_tests}
use Rattle.osi_base.specs.declared.layer_words.SetItem.{SetItem}
use Rattle.context_sets.specs.Sets.{ContextSet, put, IsRising, AllAbove}
use Rattle.osi_base.specs.SetPlaces.{pair_of, without_context}
use Rattle.context_sets.proofs.Rising.{rising-put, rising-remove}

pub pair_of-put_same : (new : SetItem) (set : ContextSet) → pair_of (put new set) new.id ≡ Some new.pair
pair_of-put_same new [] = grind (arith, nat_tests)
pair_of-put_same new (item ∷ items) = let ih = pair_of-put_same new items in grind (arith, nat_tests)

pub pair_of-put_other : (j : ℕ) (new : SetItem) (set : ContextSet) → (j ≡ new.id → ⊥) → pair_of (put new set) j ≡ pair_of set j
pair_of-put_other j new [] n = grind (arith, nat_tests)
pair_of-put_other j new (item ∷ items) n = let ih = pair_of-put_other j new items n in grind (arith, nat_tests)

pub pair_of-remove_same : (k : ℕ) (set : ContextSet) → pair_of (without_context k set) k ≡ None
pair_of-remove_same k [] = refl
pair_of-remove_same k (item ∷ items) = let ih = pair_of-remove_same k items in grind (arith, nat_tests)

pub pair_of-remove_other : (j k : ℕ) (set : ContextSet) → (j ≡ k → ⊥) → pair_of (without_context k set) j ≡ pair_of set j
pair_of-remove_other j k [] n = refl
pair_of-remove_other j k (item ∷ items) n = let ih = pair_of-remove_other j k items n in grind (arith, nat_tests)

pub pair_of-above : (j k : ℕ) (set : ContextSet) → j ≤ k → AllAbove k set → pair_of set j ≡ None
pair_of-above j k [] h a = refl
pair_of-above j k (item ∷ items) h a = let ih = pair_of-above j k items h a.1 in let above = a.0 in grind (arith, nat_tests)

pub pair_of-first : (item : SetItem) (items : ContextSet) → pair_of (item ∷ items) item.id ≡ Some item.pair
pair_of-first item items = grind (arith, nat_tests)

pub pair_of-later : (j : ℕ) (item : SetItem) (items : ContextSet) → (item.id ≡ j → ⊥) → pair_of (item ∷ items) j ≡ pair_of items j
pair_of-later j item items n = grind (arith, nat_tests)

item-path : (c d : SetItem) → c.id ≡ d.id → c.pair ≡ d.pair → c ≡ d
item-path c d e f = λ i. record { id = e i; pair = f i }

-- rising sets with equal look-ups are equal
pub same_set : (s t : ContextSet) → IsRising s → IsRising t → ((k : ℕ) → pair_of s k ≡ pair_of t k) → s ≡ t
same_set [] [] r q h = refl
same_set [] (d ∷ t) r q h = let e = h d.id in let f = pair_of-first d t in cc
same_set (c ∷ s) [] r q h = let e = h c.id in let f = pair_of-first c s in cc
same_set (c ∷ s) (d ∷ t) r q h = go (same_set s t r.1 q.1) (nat_cmp c.id d.id) refl
  where
    go : (((k : ℕ) → pair_of s k ≡ pair_of t k) → s ≡ t) → (o : Ordering) → nat_cmp c.id d.id ≡ o → c ∷ s ≡ d ∷ t
    go ih Less e =
        let less : c.id < d.id = grind (arith, nat_tests) in
        let away : d.id ≡ c.id → ⊥ = grind arith in
        let none = pair_of-later c.id d t away ∙ pair_of-above c.id d.id t (le_of_lt less) q.0 in
        let some = pair_of-first c s in
        let both = h c.id in
        cc
    go ih Greater e =
        let less : d.id < c.id = grind (arith, nat_tests) in
        let away : c.id ≡ d.id → ⊥ = grind arith in
        let none = pair_of-later d.id c s away ∙ pair_of-above d.id c.id s (le_of_lt less) r.0 in
        let some = pair_of-first d t in
        let both = h d.id in
        cc
    go ih Equal e =
        let same : c.id ≡ d.id = grind (arith, nat_tests) in
        let first : Some c.pair ≡ Some d.pair = sym (pair_of-first c s) ∙ h c.id ∙ ap (pair_of (d ∷ t)) same ∙ pair_of-first d t in
        let pairs : c.pair ≡ d.pair = cc in
        ap₂ (λ (x : SetItem) (xs : ContextSet). x ∷ xs) (item-path c d same pairs) (ih (rest same))
      where
        rest : c.id ≡ d.id → (k : ℕ) → pair_of s k ≡ pair_of t k
        rest same k = at (nat_eq c.id k) refl
          where
            at : (b : Bool) → nat_eq c.id k ≡ b → pair_of s k ≡ pair_of t k
            at true e =
                let here : c.id ≡ k = eqb-true c.id k e in
                pair_of-above k c.id s (le_of_eq (sym here)) r.0 ∙ sym (pair_of-above k d.id t (le_of_eq (sym here ∙ same)) q.0)
            at false e =
                let n : c.id ≡ k → ⊥ = eqb-false c.id k e in
                let m : d.id ≡ k → ⊥ = λ x. n (same ∙ x) in
                sym (pair_of-later k c s n) ∙ h k ∙ pair_of-later k d t m

-- a change of one context and a change of another commute
pub put-put : (a b : SetItem) (set : ContextSet) → (a.id ≡ b.id → ⊥) → IsRising set → put a (put b set) ≡ put b (put a set)
put-put a b set n r =
    same_set _ _ (rising-put a _ (rising-put b set r)) (rising-put b _ (rising-put a set r)) (λ i. go i (nat_eq i a.id) refl (nat_eq i b.id) refl)
  where
    go : (i : ℕ) (x : Bool) → nat_eq i a.id ≡ x → (y : Bool) → nat_eq i b.id ≡ y → pair_of (put a (put b set)) i ≡ pair_of (put b (put a set)) i
    go i true e y f =
        let here = eqb-true i a.id e in
        rw here (pair_of-put_same a (put b set) ∙ sym (pair_of-put_other a.id b (put a set) n ∙ pair_of-put_same a set))
    go i false e true f =
        let here = eqb-true i b.id f in
        rw here (pair_of-put_other b.id a (put b set) (λ x. n (sym x)) ∙ pair_of-put_same b set ∙ sym (pair_of-put_same b (put a set)))
    go i false e false f =
        let p = eqb-false i a.id e in
        let q = eqb-false i b.id f in
        pair_of-put_other i a (put b set) p ∙ pair_of-put_other i b set q ∙ sym (pair_of-put_other i b (put a set) q ∙ pair_of-put_other i a set p)

pub put-remove : (a : SetItem) (k : ℕ) (set : ContextSet) → (a.id ≡ k → ⊥) → IsRising set → put a (without_context k set) ≡ without_context k (put a set)
put-remove a k set n r =
    same_set _ _ (rising-put a _ (rising-remove k set r)) (rising-remove k _ (rising-put a set r)) (λ i. go i (nat_eq i a.id) refl (nat_eq i k) refl)
  where
    go : (i : ℕ) (x : Bool) → nat_eq i a.id ≡ x → (y : Bool) → nat_eq i k ≡ y → pair_of (put a (without_context k set)) i ≡ pair_of (without_context k (put a set)) i
    go i true e y f =
        let here = eqb-true i a.id e in
        rw here (pair_of-put_same a (without_context k set) ∙ sym (pair_of-remove_other a.id k (put a set) n ∙ pair_of-put_same a set))
    go i false e true f =
        let here = eqb-true i k f in
        rw here (pair_of-put_other k a (without_context k set) (λ x. n (sym x)) ∙ pair_of-remove_same k set ∙ sym (pair_of-remove_same k (put a set)))
    go i false e false f =
        let p = eqb-false i a.id e in
        let q = eqb-false i k f in
        pair_of-put_other i a (without_context k set) p ∙ pair_of-remove_other i k set q ∙ sym (pair_of-remove_other i k (put a set) q ∙ pair_of-put_other i a set p)

pub remove-remove : (j k : ℕ) (set : ContextSet) → IsRising set → without_context j (without_context k set) ≡ without_context k (without_context j set)
remove-remove j k set r =
    same_set _ _ (rising-remove j _ (rising-remove k set r)) (rising-remove k _ (rising-remove j set r)) (λ i. go i (nat_eq i j) refl (nat_eq i k) refl)
  where
    go : (i : ℕ) (x : Bool) → nat_eq i j ≡ x → (y : Bool) → nat_eq i k ≡ y → pair_of (without_context j (without_context k set)) i ≡ pair_of (without_context k (without_context j set)) i
    go i true e true f =
        let here = eqb-true i j e in
        let there = eqb-true i k f in
        let same : j ≡ k = sym here ∙ there in
        rw (here, same) refl
    go i true e false f =
        let here = eqb-true i j e in
        let q : j ≡ k → ⊥ = λ x. eqb-false i k f (here ∙ x) in
        rw here (pair_of-remove_same j (without_context k set) ∙ sym (pair_of-remove_other j k (without_context j set) q ∙ pair_of-remove_same j set))
    go i false e true f =
        let here = eqb-true i k f in
        let p : k ≡ j → ⊥ = λ x. eqb-false i j e (here ∙ x) in
        rw here (pair_of-remove_other k j (without_context k set) p ∙ pair_of-remove_same k set ∙ sym (pair_of-remove_same k (without_context j set)))
    go i false e false f =
        let p = eqb-false i j e in
        let q = eqb-false i k f in
        pair_of-remove_other i j (without_context k set) p ∙ pair_of-remove_other i k set q ∙ sym (pair_of-remove_other i k (without_context j set) q ∙ pair_of-remove_other i j set p)
