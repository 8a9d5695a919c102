-- Neighbours in a list of places, as one more is put at its end and as one is taken out.
use Rattle.std.proofs.Common.{◌≡◌, ℕ, Bool, true, false, ◌||◌, cond, List, [], ◌∷◌, ◌++◌, Option, Some, None, refl, sym, ap, subst, ◌∙◌}
use Rattle.std.specs.Prelude.{nat_eq}
use Rattle.std.proofs.lemmas.Bool.{eq-eqb, eqb-true}
use Rattle.linked_ops.specs.Rows.{first_listed, last_from, last_of, behind, before_from, before}
use Rattle.linked_ops.specs.Links.{is_place, or_place, moved}

pub cases : {X : Type 0} (b : Bool) → (b ≡ true → X) → (b ≡ false → X) → X
cases true f g = f refl
cases false f g = g refl

pub nat_is : (a : ℕ) → nat_eq a a ≡ true
nat_is a = eq-eqb a a refl

pub nats_are : (a b : ℕ) → nat_eq a b ≡ true → a ≡ b
nats_are a b e = eqb-true a b e

pub clash : {X : Type 0} (b : Bool) → b ≡ true → b ≡ false → X
clash b t f = let z : true ≡ false = sym t ∙ f in absurd cc

pub not_true : (b : Bool) → (b ≡ true → false ≡ true) → b ≡ false
not_true true f = sym (f refl)
not_true false f = refl

pub both_ways : (a b : Bool) → (a ≡ true → b ≡ true) → (b ≡ true → a ≡ true) → a ≡ b
both_ways true b f g = sym (f refl)
both_ways false true f g = g refl
both_ways false false f g = refl

pub turned : (a b : ℕ) → nat_eq a b ≡ nat_eq b a
turned a b =
    cases (nat_eq a b)
    (λ t. t ∙ sym (subst (λ (z : ℕ). nat_eq z a ≡ true) (nats_are a b t) (nat_is a)))
    (λ f. f ∙ sym (not_true (nat_eq b a) (λ t. sym f ∙ subst (λ (z : ℕ). nat_eq z b ≡ true) (nats_are b a t) (nat_is b))))

pub or_parts : (a b : Bool) → (a || b) ≡ false → (a ≡ false) × (b ≡ false)
or_parts true b e = absurd cc
or_parts false b e = (refl, e)

pub or_later : (a b : Bool) → a ≡ false → (a || b) ≡ b
or_later true b e = absurd cc
or_later false b e = refl

pub or_now : (a b : Bool) → a ≡ true → (a || b) ≡ true
or_now true b e = refl
or_now false b e = absurd cc

pub or_true : (a b : Bool) → b ≡ true → (a || b) ≡ true
or_true true b e = refl
or_true false b e = e

-- a branch that is known
pub taken : {X : Type 0} (b : Bool) (x y : X) → b ≡ true → cond b x y ≡ x
taken true x y e = refl
taken false x y e = absurd cc

pub left_out : {X : Type 0} (b : Bool) (x y : X) → b ≡ false → cond b x y ≡ y
left_out true x y e = absurd cc
left_out false x y e = refl

abbrev pub has : ℕ → List ℕ → Bool
has p [] = false
has p (x ∷ xs) = nat_eq x p || has p xs

abbrev pub AreOnce : List ℕ → Type 0
AreOnce [] = Unit {0}
AreOnce (x ∷ xs) = (has x xs ≡ false) × AreOnce xs

abbrev pub gone : ℕ → List ℕ → List ℕ
gone z [] = []
gone z (x ∷ xs) = cond (nat_eq x z) xs (x ∷ gone z xs)

-- ---- one more at the end

module _ (q : ℕ) where
  abbrev snoc : List ℕ → List ℕ
  snoc xs = xs ++ q ∷ []

  last_from_snoc : (x : ℕ) (xs : List ℕ) → last_from x (snoc xs) ≡ q
  last_from_snoc x [] = refl
  last_from_snoc x (y ∷ ys) = last_from_snoc y ys

  pub last_snoc : (xs : List ℕ) → last_of (snoc xs) ≡ Some q
  last_snoc [] = refl
  last_snoc (x ∷ xs) = ap Some (last_from_snoc x xs)

  pub first_snoc : (xs : List ℕ) → first_listed (snoc xs) ≡ or_place (first_listed xs) (Some q)
  first_snoc [] = refl
  first_snoc (x ∷ xs) = refl

  has_last : (x : ℕ) (xs : List ℕ) → has (last_from x xs) (x ∷ xs) ≡ true
  has_last x [] = or_now (nat_eq x x) false (nat_is x)
  has_last x (y ∷ ys) = or_true (nat_eq x (last_from y ys)) _ (has_last y ys)

  pub last_is_there : (p : ℕ) (xs : List ℕ) → is_place p (last_of xs) ≡ true → has p xs ≡ true
  last_is_there p [] e = absurd cc
  last_is_there p (x ∷ xs) e = subst (λ (z : ℕ). has z (x ∷ xs) ≡ true) (sym (nats_are p (last_from x xs) e)) (has_last x xs)

  pub behind_snoc : (p : ℕ) (xs : List ℕ) → AreOnce xs → has p xs ≡ true → behind p (snoc xs) ≡ cond (is_place p (last_of xs)) (Some q) (behind p xs)
  behind_snoc p [] o h = absurd cc
  behind_snoc p (x ∷ []) o h =
      cases (nat_eq x p)
      (λ t. taken (nat_eq x p) _ _ t ∙ sym (taken (nat_eq p x) _ _ (turned p x ∙ t)))
      (λ f. clash (nat_eq x p || false) h (or_later (nat_eq x p) false f))
  behind_snoc p (x ∷ y ∷ ys) o h =
      cases (nat_eq x p)
      (λ t.
      let n : has p (y ∷ ys) ≡ false = subst (λ (z : ℕ). has z (y ∷ ys) ≡ false) (nats_are x p t) o.0 in
      let l : is_place p (last_of (y ∷ ys)) ≡ false = not_true (is_place p (last_of (y ∷ ys))) (λ m. sym n ∙ last_is_there p (y ∷ ys) m) in
      taken (nat_eq x p) _ _ t ∙ sym (left_out (is_place p (last_of (y ∷ ys))) _ _ l ∙ taken (nat_eq x p) _ _ t))
      (λ f.
      left_out (nat_eq x p) _ _ f ∙ behind_snoc p (y ∷ ys) o.1 (sym (or_later (nat_eq x p) _ f) ∙ h)
      ∙ ap (cond (is_place p (last_of (y ∷ ys))) (Some q)) (sym (left_out (nat_eq x p) _ _ f)))

  before_from_snoc : (x p : ℕ) (xs : List ℕ) → nat_eq q p ≡ false → before_from x p (snoc xs) ≡ before_from x p xs
  before_from_snoc x p [] n = left_out (nat_eq q p) _ _ n
  before_from_snoc x p (y ∷ ys) n = ap (cond (nat_eq y p) (Some x)) (before_from_snoc y p ys n)

  pub before_snoc : (p : ℕ) (xs : List ℕ) → nat_eq q p ≡ false → before p (snoc xs) ≡ before p xs
  before_snoc p [] n = refl
  before_snoc p (x ∷ xs) n = before_from_snoc x p xs n

  before_from_new : (x : ℕ) (xs : List ℕ) → has q xs ≡ false → before_from x q (snoc xs) ≡ Some (last_from x xs)
  before_from_new x [] n = taken (nat_eq q q) _ _ (nat_is q)
  before_from_new x (y ∷ ys) n = let m = or_parts (nat_eq y q) _ n in left_out (nat_eq y q) _ _ m.0 ∙ before_from_new y ys m.1

  pub before_new : (xs : List ℕ) → has q xs ≡ false → before q (snoc xs) ≡ last_of xs
  before_new [] n = refl
  before_new (x ∷ xs) n = before_from_new x xs (or_parts (nat_eq x q) _ n).1

  pub behind_new : (xs : List ℕ) → has q xs ≡ false → behind q (snoc xs) ≡ None
  behind_new [] n = taken (nat_eq q q) _ _ (nat_is q)
  behind_new (x ∷ xs) n = let m = or_parts (nat_eq x q) _ n in left_out (nat_eq x q) _ _ m.0 ∙ behind_new xs m.1

-- ---- one taken out

no_behind : (p : ℕ) (xs : List ℕ) → has p xs ≡ false → behind p xs ≡ None
no_behind p [] n = refl
no_behind p (x ∷ xs) n = let m = or_parts (nat_eq x p) _ n in left_out (nat_eq x p) _ _ m.0 ∙ no_behind p xs m.1

no_before : (x p : ℕ) (xs : List ℕ) → has p xs ≡ false → before_from x p xs ≡ None
no_before x p [] n = refl
no_before x p (y ∷ ys) n = let m = or_parts (nat_eq y p) _ n in left_out (nat_eq y p) _ _ m.0 ∙ no_before y p ys m.1

-- what stands behind or before a place is in the list
pub behind_is_there : (p z : ℕ) (xs : List ℕ) → is_place p (behind z xs) ≡ true → has p xs ≡ true
behind_is_there p z [] e = absurd cc
behind_is_there p z (x ∷ xs) e =
    or_true (nat_eq x p) _
    (cases (nat_eq x z)
    (λ t. first_is_there xs (sym (ap (is_place p) (taken (nat_eq x z) _ _ t)) ∙ e))
    (λ f. behind_is_there p z xs (sym (ap (is_place p) (left_out (nat_eq x z) _ _ f)) ∙ e)))
  where
    first_is_there : (ys : List ℕ) → is_place p (first_listed ys) ≡ true → has p ys ≡ true
    first_is_there [] e = absurd cc
    first_is_there (y ∷ ys) e = or_now (nat_eq y p) _ (turned y p ∙ e)

before_from_there : (p x z : ℕ) (xs : List ℕ) → is_place p (before_from x z xs) ≡ true → has p (x ∷ xs) ≡ true
before_from_there p x z [] e = absurd cc
before_from_there p x z (y ∷ ys) e =
    cases (nat_eq y z)
    (λ t. or_now (nat_eq x p) _ (turned x p ∙ sym (ap (is_place p) (taken (nat_eq y z) (Some x) (before_from y z ys) t)) ∙ e))
    (λ f. or_true (nat_eq x p) _ (before_from_there p y z ys (sym (ap (is_place p) (left_out (nat_eq y z) (Some x) (before_from y z ys) f)) ∙ e)))

pub before_is_there : (p z : ℕ) (xs : List ℕ) → is_place p (before z xs) ≡ true → has p xs ≡ true
before_is_there p z [] e = absurd cc
before_is_there p z (x ∷ xs) e = before_from_there p x z xs e

module _ (z p : ℕ) (differs : nat_eq z p ≡ false) where
  -- p isn't one of these, so it isn't in front of z there
  not_front : (x : ℕ) (xs : List ℕ) → has p (x ∷ xs) ≡ false → is_place p (before_from x z xs) ≡ false
  not_front x xs n = not_true (is_place p (before_from x z xs)) (λ e. sym n ∙ before_from_there p x z xs e)

  not_behind : (xs : List ℕ) → has p xs ≡ false → is_place p (behind z xs) ≡ false
  not_behind xs n = not_true (is_place p (behind z xs)) (λ e. sym n ∙ behind_is_there p z xs e)

  -- whether p is in front of z doesn't hang on a place in front of the list that isn't p
  skip : (x : ℕ) (xs : List ℕ) → nat_eq x p ≡ false → AreOnce xs → is_place p (before_from x z xs) ≡ is_place p (before z xs)
  skip x [] n o = refl
  skip x (y ∷ ys) n o =
      cases (nat_eq y z)
      (λ t.
      let m : has z ys ≡ false = subst (λ (w : ℕ). has w ys ≡ false) (nats_are y z t) o.0 in
      ap (is_place p) (taken (nat_eq y z) (Some x) (before_from y z ys) t) ∙ turned p x ∙ n ∙ sym (ap (is_place p) (no_before y z ys m)))
      (λ f. ap (is_place p) (left_out (nat_eq y z) (Some x) (before_from y z ys) f))

  pub behind_gone : (xs : List ℕ) → AreOnce xs → behind p (gone z xs) ≡ cond (is_place p (before z xs)) (behind z xs) (behind p xs)
  behind_gone [] o = refl
  behind_gone (x ∷ xs) o =
      cases (nat_eq x z)
      (λ t.
      let w : x ≡ z = nats_are x z t in
      let n : has z xs ≡ false = subst (λ (v : ℕ). has v xs ≡ false) w o.0 in
      let d : nat_eq x p ≡ false = subst (λ (v : ℕ). nat_eq v p ≡ false) (sym w) differs in
      ap (behind p) (taken (nat_eq x z) xs (x ∷ gone z xs) t)
      ∙ sym (left_out (is_place p (before_from x z xs)) (behind z (x ∷ xs)) (behind p (x ∷ xs)) (ap (is_place p) (no_before x z xs n)) ∙ left_out (nat_eq x p) (first_listed xs) (behind p xs) d))
      (λ f. ap (behind p) (left_out (nat_eq x z) xs (x ∷ gone z xs) f) ∙ later f (behind_gone xs o.1))
    where
      at_first : (ys : List ℕ) → has p ys ≡ false → nat_eq x p ≡ true → first_listed (gone z ys) ≡ cond (is_place p (before_from x z ys)) (behind z ys) (first_listed ys)
      at_first [] n t = refl
      at_first (y ∷ ys) n t =
          cases (nat_eq y z)
          (λ u.
          ap first_listed (taken (nat_eq y z) ys (y ∷ gone z ys) u)
          ∙ sym (taken (is_place p (before_from x z (y ∷ ys))) (behind z (y ∷ ys)) (Some y) (ap (is_place p) (taken (nat_eq y z) (Some x) (before_from y z ys) u) ∙ turned p x ∙ t) ∙ taken (nat_eq y z) (first_listed ys) (behind z ys) u))
          (λ g.
          ap first_listed (left_out (nat_eq y z) ys (y ∷ gone z ys) g)
          ∙ sym (left_out (is_place p (before_from x z (y ∷ ys))) (behind z (y ∷ ys)) (Some y) (ap (is_place p) (left_out (nat_eq y z) (Some x) (before_from y z ys) g) ∙ not_front y ys n)))

      later : nat_eq x z ≡ false → behind p (gone z xs) ≡ cond (is_place p (before z xs)) (behind z xs) (behind p xs) → behind p (x ∷ gone z xs) ≡ cond (is_place p (before_from x z xs)) (cond (nat_eq x z) (first_listed xs) (behind z xs)) (cond (nat_eq x p) (first_listed xs) (behind p xs))
      later f more =
          cases (nat_eq x p)
          (λ t.
          taken (nat_eq x p) (first_listed (gone z xs)) (behind p (gone z xs)) t ∙ at_first xs (subst (λ (v : ℕ). has v xs ≡ false) (nats_are x p t) o.0) t
          ∙ λ i. cond (is_place p (before_from x z xs)) (sym (left_out (nat_eq x z) (first_listed xs) (behind z xs) f) i) (sym (taken (nat_eq x p) (first_listed xs) (behind p xs) t) i))
          (λ g.
          left_out (nat_eq x p) (first_listed (gone z xs)) (behind p (gone z xs)) g ∙ more
          ∙ λ i. cond (sym (skip x xs g o.1) i) (sym (left_out (nat_eq x z) (first_listed xs) (behind z xs) f) i) (sym (left_out (nat_eq x p) (first_listed xs) (behind p xs) g) i))

  before_from_gone : (w : ℕ) (xs : List ℕ) → AreOnce xs → before_from w p (gone z xs) ≡ cond (is_place p (behind z xs)) (before_from w z xs) (before_from w p xs)
  before_from_gone w [] o = refl
  before_from_gone w (y ∷ ys) o =
      cases (nat_eq y z)
      (λ t.
      let e : y ≡ z = nats_are y z t in
      let d : nat_eq y p ≡ false = subst (λ (v : ℕ). nat_eq v p ≡ false) (sym e) differs in
      ap (before_from w p) (taken (nat_eq y z) ys (y ∷ gone z ys) t) ∙ passed ys
      ∙ λ i. cond (is_place p (sym (taken (nat_eq y z) (first_listed ys) (behind z ys) t) i)) (sym (taken (nat_eq y z) (Some w) (before_from y z ys) t) i) (sym (left_out (nat_eq y p) (Some w) (before_from y p ys) d) i))
      (λ f.
      ap (before_from w p) (left_out (nat_eq y z) ys (y ∷ gone z ys) f)
      ∙ cases (nat_eq y p)
      (λ t.
      let n : is_place p (behind z (y ∷ ys)) ≡ false = ap (is_place p) (left_out (nat_eq y z) (first_listed ys) (behind z ys) f) ∙ not_behind ys (subst (λ (v : ℕ). has v ys ≡ false) (nats_are y p t) o.0) in
      taken (nat_eq y p) (Some w) (before_from y p (gone z ys)) t ∙ sym (left_out (is_place p (behind z (y ∷ ys))) (before_from w z (y ∷ ys)) (before_from w p (y ∷ ys)) n ∙ taken (nat_eq y p) (Some w) (before_from y p ys) t))
      (λ g.
      left_out (nat_eq y p) (Some w) (before_from y p (gone z ys)) g ∙ before_from_gone y ys o.1
      ∙ λ i. cond (is_place p (sym (left_out (nat_eq y z) (first_listed ys) (behind z ys) f) i)) (sym (left_out (nat_eq y z) (Some w) (before_from y z ys) f) i) (sym (left_out (nat_eq y p) (Some w) (before_from y p ys) g) i)))
    where
      passed : (us : List ℕ) → before_from w p us ≡ cond (is_place p (first_listed us)) (Some w) (before_from y p us)
      passed [] = refl
      passed (u ∷ us) =
          cases (nat_eq u p)
          (λ t. taken (nat_eq u p) (Some w) (before_from u p us) t ∙ sym (taken (nat_eq p u) (Some w) (before_from y p (u ∷ us)) (turned p u ∙ t)))
          (λ f. left_out (nat_eq u p) (Some w) (before_from u p us) f ∙ sym (left_out (nat_eq p u) (Some w) (before_from y p (u ∷ us)) (turned p u ∙ f) ∙ left_out (nat_eq u p) (Some y) (before_from u p us) f))

  pub before_gone : (xs : List ℕ) → AreOnce xs → before p (gone z xs) ≡ cond (is_place p (behind z xs)) (before z xs) (before p xs)
  before_gone [] o = refl
  before_gone (x ∷ xs) o =
      cases (nat_eq x z)
      (λ t.
      let e : x ≡ z = nats_are x z t in
      let n : has z xs ≡ false = subst (λ (v : ℕ). has v xs ≡ false) e o.0 in
      ap (before p) (taken (nat_eq x z) xs (x ∷ gone z xs) t) ∙ front xs o.1
      ∙ λ i. cond (is_place p (sym (taken (nat_eq x z) (first_listed xs) (behind z xs) t) i)) (sym (no_before x z xs n) i) (before_from x p xs))
      (λ f.
      ap (before p) (left_out (nat_eq x z) xs (x ∷ gone z xs) f) ∙ before_from_gone x xs o.1
      ∙ λ i. cond (is_place p (sym (left_out (nat_eq x z) (first_listed xs) (behind z xs) f) i)) (before_from x z xs) (before_from x p xs))
    where
      front : (us : List ℕ) → AreOnce us → before p us ≡ cond (is_place p (first_listed us)) None (before_from x p us)
      front [] h = refl
      front (u ∷ us) h =
          cases (nat_eq u p)
          (λ t. no_before u p us (subst (λ (v : ℕ). has v us ≡ false) (nats_are u p t) h.0) ∙ sym (taken (nat_eq p u) None (before_from x p (u ∷ us)) (turned p u ∙ t)))
          (λ f. sym (left_out (nat_eq p u) None (before_from x p (u ∷ us)) (turned p u ∙ f) ∙ left_out (nat_eq u p) (Some x) (before_from u p us) f))

module _ (z : ℕ) where
  some_front : (x : ℕ) (xs : List ℕ) (to from : Option ℕ) → has z xs ≡ true → moved (before_from x z xs) to from ≡ from
  some_front x [] to from h = absurd cc
  some_front x (y ∷ ys) to from h =
      cases (nat_eq y z)
      (λ t. ap (λ o. moved o to from) (taken (nat_eq y z) (Some x) (before_from y z ys) t))
      (λ f. ap (λ o. moved o to from) (left_out (nat_eq y z) (Some x) (before_from y z ys) f) ∙ some_front y ys to from (sym (or_later (nat_eq y z) _ f) ∙ h))

  pub first_gone_is : (xs : List ℕ) → AreOnce xs → has z xs ≡ true → first_listed (gone z xs) ≡ moved (before z xs) (behind z xs) (first_listed xs)
  first_gone_is [] o h = absurd cc
  first_gone_is (x ∷ xs) o h =
      cases (nat_eq x z)
      (λ t.
      let n : has z xs ≡ false = subst (λ (v : ℕ). has v xs ≡ false) (nats_are x z t) o.0 in
      ap first_listed (taken (nat_eq x z) xs (x ∷ gone z xs) t)
      ∙ λ i. moved (sym (no_before x z xs n) i) (sym (taken (nat_eq x z) (first_listed xs) (behind z xs) t) i) (Some x))
      (λ f.
      ap first_listed (left_out (nat_eq x z) xs (x ∷ gone z xs) f)
      ∙ sym (some_front x xs (behind z (x ∷ xs)) (Some x) (sym (or_later (nat_eq x z) _ f) ∙ h)))

  last_from_gone : (x : ℕ) (xs : List ℕ) → has z xs ≡ true → Some (last_from x (gone z xs)) ≡ moved (behind z xs) (before_from x z xs) (Some (last_from x xs))
  last_from_gone x [] h = absurd cc
  last_from_gone x (y ∷ ys) h =
      cases (nat_eq y z)
      (λ t.
      ap (λ l. Some (last_from x l)) (taken (nat_eq y z) ys (y ∷ gone z ys) t) ∙ end ys
      ∙ λ i. moved (sym (taken (nat_eq y z) (first_listed ys) (behind z ys) t) i) (sym (taken (nat_eq y z) (Some x) (before_from y z ys) t) i) (Some (last_from y ys)))
      (λ f.
      ap (λ l. Some (last_from x l)) (left_out (nat_eq y z) ys (y ∷ gone z ys) f) ∙ last_from_gone y ys (sym (or_later (nat_eq y z) _ f) ∙ h)
      ∙ λ i. moved (sym (left_out (nat_eq y z) (first_listed ys) (behind z ys) f) i) (sym (left_out (nat_eq y z) (Some x) (before_from y z ys) f) i) (Some (last_from y ys)))
    where
      end : (us : List ℕ) → Some (last_from x us) ≡ moved (first_listed us) (Some x) (Some (last_from y us))
      end [] = refl
      end (u ∷ us) = refl

  pub last_gone_is : (xs : List ℕ) → AreOnce xs → has z xs ≡ true → last_of (gone z xs) ≡ moved (behind z xs) (before z xs) (last_of xs)
  last_gone_is [] o h = absurd cc
  last_gone_is (x ∷ xs) o h =
      cases (nat_eq x z)
      (λ t.
      let n : has z xs ≡ false = subst (λ (v : ℕ). has v xs ≡ false) (nats_are x z t) o.0 in
      ap last_of (taken (nat_eq x z) xs (x ∷ gone z xs) t) ∙ alone xs
      ∙ λ i. moved (sym (taken (nat_eq x z) (first_listed xs) (behind z xs) t) i) (sym (no_before x z xs n) i) (Some (last_from x xs)))
      (λ f.
      ap last_of (left_out (nat_eq x z) xs (x ∷ gone z xs) f) ∙ last_from_gone x xs (sym (or_later (nat_eq x z) _ f) ∙ h)
      ∙ λ i. moved (sym (left_out (nat_eq x z) (first_listed xs) (behind z xs) f) i) (before_from x z xs) (Some (last_from x xs)))
    where
      alone : (us : List ℕ) → last_of us ≡ moved (first_listed us) None (Some (last_from x us))
      alone [] = refl
      alone (u ∷ us) = refl

-- the first behind a place that stands once
pub behind_split : (b : ℕ) (xs ys : List ℕ) → AreOnce (xs ++ b ∷ ys) → behind b (xs ++ b ∷ ys) ≡ first_listed ys
behind_split b [] ys o = taken (nat_eq b b) _ _ (nat_is b)
behind_split b (x ∷ xs) ys o =
    cases (nat_eq x b)
    (λ t. clash (has x (xs ++ b ∷ ys)) (there xs t) o.0)
    (λ f. left_out (nat_eq x b) _ _ f ∙ behind_split b xs ys o.1)
  where
    there : (us : List ℕ) → nat_eq x b ≡ true → has x (us ++ b ∷ ys) ≡ true
    there [] t = or_now (nat_eq b x) _ (turned b x ∙ t)
    there (u ∷ us) t = or_true (nat_eq u x) _ (there us t)
