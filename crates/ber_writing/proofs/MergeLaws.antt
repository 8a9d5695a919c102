-- Merging rising lists sorts.
use Rattle.std.proofs.Common.{◌≡◌, ℕ, ◌<◌, ◌≤◌, Bool, true, false, ◌&&◌, ◌||◌, cond, List, [], ◌∷◌, ◌++◌, ◌+◌, length, take, drop, refl, sym, ap, ◌∙◌, inl, inr, arith}
use Rattle.std.specs.Prelude.{nat_lt, nat_eq}
use Rattle.std.proofs.lemmas.Bool.{ltb-true, ltb-false, lt-ltb, eqb-true, eq-eqb, eqb-false, and_parts, or_cases, or_parts}
use Rattle.std.proofs.lemmas.List.{take-append-drop}
use Rattle.asn1_types.specs.Value.{Value}
use Rattle.asn1_types.specs.Rising.{is_less, placed, sorted}
use Rattle.ber_writing.specs.Merging.{woven, merged, first_less}

-- ---- the order of octets

left : (a b : Bool) → a ≡ true → (a || b) ≡ true
left true b e = refl
left false b e = absurd cc

right : (a b : Bool) → b ≡ true → (a || b) ≡ true
right true b e = refl
right false b e = e

both : (a b : Bool) → a ≡ true → b ≡ true → (a && b) ≡ true
both true b e f = f
both false b e f = absurd cc

trans_step : (x y z : ℕ) (p q r : Bool) → (p ≡ true → q ≡ true → r ≡ true) → (nat_lt x y || (nat_eq x y && p)) ≡ true → (nat_lt y z || (nat_eq y z && q)) ≡ true → (nat_lt x z || (nat_eq x z && r)) ≡ true
trans_step x y z p q r h e f =
    elim (or_cases (nat_lt x y) (nat_eq x y && p) e) [
      | inl t ↦ elim (or_cases (nat_lt y z) (nat_eq y z && q) f) [
        | inl s ↦ left (nat_lt x z) _ (lt-ltb x z (omega (arith, ltb-true x y t, ltb-true y z s)))
        | inr s ↦ left (nat_lt x z) _ (lt-ltb x z (omega (arith, ltb-true x y t, eqb-true y z (and_parts (nat_eq y z) q s).0)))
      ]
      | inr t ↦ elim (or_cases (nat_lt y z) (nat_eq y z && q) f) [
        | inl s ↦ left (nat_lt x z) _ (lt-ltb x z (omega (arith, eqb-true x y (and_parts (nat_eq x y) p t).0, ltb-true y z s)))
        | inr s ↦
            let a = and_parts (nat_eq x y) p t in
            let b = and_parts (nat_eq y z) q s in
            right (nat_lt x z) _ (both (nat_eq x z) r (eq-eqb x z (eqb-true x y a.0 ∙ eqb-true y z b.0)) (h a.1 b.1))
      ]
    ]

pub less_trans : (a b c : List ℕ) → is_less a b ≡ true → is_less b c ≡ true → is_less a c ≡ true
less_trans [] [] c e f = absurd cc
less_trans [] (y ∷ ys) [] e f = absurd cc
less_trans [] (y ∷ ys) (z ∷ zs) e f = refl
less_trans (x ∷ xs) [] c e f = absurd cc
less_trans (x ∷ xs) (y ∷ ys) [] e f = absurd cc
less_trans (x ∷ xs) (y ∷ ys) (z ∷ zs) e f = trans_step x y z (is_less xs ys) (is_less ys zs) (is_less xs zs) (less_trans xs ys zs) e f

turn_step : (x y z : ℕ) (p q r : Bool) → (p ≡ true → q ≡ false → r ≡ true) → (nat_lt x z || (nat_eq x z && p)) ≡ true → (nat_lt y z || (nat_eq y z && q)) ≡ false → (nat_lt x y || (nat_eq x y && r)) ≡ true
turn_step x y z p q r h e f =
    let g = or_parts (nat_lt y z) (nat_eq y z && q) f in
    let ge : z ≤ y = ltb-false y z g.0 in
    elim (or_cases (nat_lt x z) (nat_eq x z && p) e) [
      | inl t ↦ left (nat_lt x y) _ (lt-ltb x y (omega (arith, ltb-true x z t)))
      | inr t ↦ let a = and_parts (nat_eq x z) p t in by_test (nat_eq y z) refl (eqb-true x z a.0) a.1 ge g.1
    ]
  where
    by_test : (b : Bool) → nat_eq y z ≡ b → x ≡ z → p ≡ true → z ≤ y → (b && q) ≡ false → (nat_lt x y || (nat_eq x y && r)) ≡ true
    by_test true k same pt ge n = right (nat_lt x y) _ (both (nat_eq x y) r (eq-eqb x y (same ∙ sym (eqb-true y z k))) (h pt n))
    by_test false k same pt ge n = left (nat_lt x y) _ (lt-ltb x y (let other = eqb-false y z k in omega (arith, other)))

pub less_turn : (w u v : List ℕ) → is_less w v ≡ true → is_less u v ≡ false → is_less w u ≡ true
less_turn [] u [] e f = absurd cc
less_turn (x ∷ xs) u [] e f = absurd cc
less_turn [] [] (z ∷ zs) e f = absurd cc
less_turn [] (y ∷ ys) (z ∷ zs) e f = refl
less_turn (x ∷ xs) [] (z ∷ zs) e f = absurd cc
less_turn (x ∷ xs) (y ∷ ys) (z ∷ zs) e f = turn_step x y z (is_less xs zs) (is_less ys zs) (is_less xs ys) (less_turn xs ys zs) e f

-- ---- merging

module _ (spell : Value → List ℕ) where
  single : (v : Value) (t : List Value) → woven spell v (merged spell []) t ≡ placed spell v t
  single v [] = refl
  single v (w ∷ t) = λ i. cond (is_less (spell w) (spell v)) (w ∷ single v t i) (v ∷ w ∷ t)

  before : (u v : Value) (f : List Value → List Value) (t : List Value) → is_less (spell u) (spell v) ≡ true → woven spell u (λ x. placed spell v (f x)) t ≡ placed spell v (woven spell u f t)
  before u v f [] e = rw e refl
  before u v f (w ∷ t) e = by_test (is_less (spell w) (spell u)) refl (before u v f t e)
    where
      by_test : (b : Bool) → is_less (spell w) (spell u) ≡ b → woven spell u (λ x. placed spell v (f x)) t ≡ placed spell v (woven spell u f t)
          → cond b (w ∷ woven spell u (λ x. placed spell v (f x)) t) (u ∷ placed spell v (f (w ∷ t))) ≡ placed spell v (cond b (w ∷ woven spell u f t) (u ∷ f (w ∷ t)))
      by_test true k ih = rw (less_trans (spell w) (spell u) (spell v) k e) (ap (λ (x : List Value). w ∷ x) ih)
      by_test false k ih = rw e refl

  behind : (u v : Value) (f : List Value → List Value) (t : List Value) → is_less (spell u) (spell v) ≡ false → woven spell v (woven spell u f) t ≡ placed spell v (woven spell u f t)
  behind u v f [] e = rw e refl
  behind u v f (w ∷ t) e = by_test (is_less (spell w) (spell v)) (is_less (spell w) (spell u)) refl refl (behind u v f t e)
    where
      by_test : (b c : Bool) → is_less (spell w) (spell v) ≡ b → is_less (spell w) (spell u) ≡ c → woven spell v (woven spell u f) t ≡ placed spell v (woven spell u f t)
          → cond b (w ∷ woven spell v (woven spell u f) t) (v ∷ cond c (w ∷ woven spell u f t) (u ∷ f (w ∷ t))) ≡ placed spell v (cond c (w ∷ woven spell u f t) (u ∷ f (w ∷ t)))
      by_test true true k l ih = rw k (ap (λ (x : List Value). w ∷ x) ih)
      by_test true false k l ih = absurd (let t = less_turn (spell w) (spell u) (spell v) k e in cc)
      by_test false true k l ih = rw k refl
      by_test false false k l ih = rw e refl

  merge_placed : (v : Value) (s t : List Value) → merged spell (placed spell v s) t ≡ placed spell v (merged spell s t)
  merge_placed v [] t = single v t
  merge_placed v (u ∷ s) t = by_test (is_less (spell u) (spell v)) refl (λ x. merge_placed v s x)
    where
      by_test : (b : Bool) → is_less (spell u) (spell v) ≡ b → ((x : List Value) → merged spell (placed spell v s) x ≡ placed spell v (merged spell s x))
          → merged spell (cond b (u ∷ placed spell v s) (v ∷ u ∷ s)) t ≡ placed spell v (woven spell u (merged spell s) t)
      by_test true e ih = (λ i. woven spell u (λ x. ih x i) t) ∙ before u v (merged spell s) t e
      by_test false e ih = behind u v (merged spell s) t e

  pub sorted_merged : (xs ys : List Value) → merged spell (sorted spell xs) (sorted spell ys) ≡ sorted spell (xs ++ ys)
  sorted_merged [] ys = refl
  sorted_merged (x ∷ xs) ys = merge_placed x (sorted spell xs) (sorted spell ys) ∙ ap (placed spell x) (sorted_merged xs ys)

  pub halves_sorted : (k : ℕ) (xs : List Value) → merged spell (sorted spell (take k xs)) (sorted spell (drop k xs)) ≡ sorted spell xs
  halves_sorted k xs = sorted_merged (take k xs) (drop k xs) ∙ ap (sorted spell) (take-append-drop k xs)

  pub few_sorted : (xs : List Value) → length xs < 2 → xs ≡ sorted spell xs
  few_sorted [] lt = refl
  few_sorted (x ∷ []) lt = refl
  few_sorted (x ∷ y ∷ xs) lt = absurd (omega arith)

  -- ---- one value more

  pub next_back : (vs ws : List Value) (w : Value) → first_less spell vs (w ∷ ws) ≡ true → merged spell vs (w ∷ ws) ≡ w ∷ merged spell vs ws
  next_back [] ws w e = refl
  next_back (v ∷ vs) ws w e = rw e refl

  pub next_front : (v : Value) (vs ws : List Value) → first_less spell (v ∷ vs) ws ≡ false → merged spell (v ∷ vs) ws ≡ v ∷ merged spell vs ws
  next_front v vs [] e = refl
  next_front v vs (w ∷ ws) e = rw e refl

  pub back_some : (vs ws : List Value) → first_less spell vs ws ≡ true → 0 < length vs + length ws → 0 < length ws
  back_some [] ws e lt = omega arith
  back_some (v ∷ vs) [] e lt = absurd cc
  back_some (v ∷ vs) (w ∷ ws) e lt = omega arith

  pub front_some : (vs ws : List Value) → first_less spell vs ws ≡ false → 0 < length vs
  front_some [] ws e = absurd cc
  front_some (v ∷ vs) ws e = omega arith
