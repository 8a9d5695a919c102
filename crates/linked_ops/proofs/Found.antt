-- Finding rows, as one more is put at the end and as one is taken out.
use Rattle.std.proofs.Common.{◌≡◌, ℕ, Bool, true, false, ◌||◌, cond, List, [], ◌∷◌, ◌++◌, Option, Some, None, refl, sym, ap, subst, ◌∙◌, arith}
use Rattle.std.specs.Prelude.{nat_eq}
use Rattle.std.specs.Ordering.{nat_cmp, is_eq}
use Rattle.std.specs.declared.cmp.Ordering.{Ordering}
use Rattle.std.specs.declared.cmp.Ordering.TheVariants.{Less, Equal, Greater}
use Rattle.std.specs.List.{list_any}
use Rattle.std.specs.Cmp.{nat_cmp_is}
use Rattle.std.proofs.lemmas.Map.Lookups.{exact_unsigned}
use Rattle.std.proofs.lemmas.Bool.{and_parts}
use Rattle.std.proofs.lemmas.Bool.Decides.{Decides-int_eq}
use Rattle.linked_ops.specs.declared.key.Key.{Key}
use Rattle.linked_ops.specs.Keys.{same_bool, same_key}
use Rattle.linked_ops.specs.Rows.{Row, same_number, is_number, has_number, has_place, is_child, found, first_gone, places_under, AreApart, same_place, with_one_number, with_one_key, IsBelow, AreBelow}
use Rattle.linked_ops.proofs.Places.{cases, not_true, turned, nat_is, nats_are, or_parts, or_later, or_now, taken, left_out, has, AreOnce, gone}

-- ---- numbers and keys

is_it : (o : Ordering) → is_eq o ≡ true → o ≡ Equal
is_it Less e = absurd cc
is_it Equal e = refl
is_it Greater e = absurd cc

pub numbers_are : (a b : ℕ) → same_number a b ≡ true → a ≡ b
numbers_are a b e = exact_unsigned a b (is_it (nat_cmp a b) e)

pub number_is : (a : ℕ) → same_number a a ≡ true
number_is a = sym (ap is_eq (nat_cmp_is a a Equal refl))

pub numbers_turned : (a b : ℕ) → same_number a b ≡ same_number b a
numbers_turned a b =
    cases (same_number a b)
    (λ t. t ∙ sym (subst (λ (z : ℕ). same_number z a ≡ true) (numbers_are a b t) (number_is a)))
    (λ f. f ∙ sym (not_true (same_number b a) (λ t. sym f ∙ subst (λ (z : ℕ). same_number z b ≡ true) (numbers_are b a t) (number_is b))))

bools_are : (a b : Bool) → same_bool a b ≡ true → a ≡ b
bools_are true true e = refl
bools_are false false e = refl
bools_are true false e = absurd cc
bools_are false true e = absurd cc

bool_is : (a : Bool) → same_bool a a ≡ true
bool_is true = refl
bool_is false = refl

pub keys_are : (a b : Key) → same_key a b ≡ true → a ≡ b
keys_are a b e =
    let t = and_parts (same_bool a.own b.own) _ e in
    let x = bools_are a.own b.own t.0 in
    let y = (Decides-int_eq a.id b.id).0 t.1 in
    λ i. record { own = x i; id = y i }

pub key_is : (k : Key) → same_key k k ≡ true
key_is k = rw (bool_is k.own) ((Decides-int_eq k.id k.id).1 refl)

pub keys_turned : (a b : Key) → same_key a b ≡ same_key b a
keys_turned a b =
    cases (same_key a b)
    (λ t. t ∙ sym (subst (λ (z : Key). same_key z a ≡ true) (keys_are a b t) (key_is a)))
    (λ f. f ∙ sym (not_true (same_key b a) (λ t. sym f ∙ subst (λ (z : Key). same_key z b ≡ true) (keys_are b a t) (key_is b))))

-- ---- a row at the end

abbrev pub or_row : Option Row → Option Row → Option Row
or_row None later = later
or_row (Some r) later = Some r

pub some_is : {X : Type 0} (a b : X) → Some a ≡ Some b → a ≡ b
some_is a b e = cc

pub no_some : {X Y : Type 0} (a : X) → Some a ≡ None → Y
no_some a e = absurd cc

pub found_snoc : (t : Row → Bool) (rows : List Row) (x : Row) → found t (rows ++ x ∷ []) ≡ or_row (found t rows) (cond (t x) (Some x) None)
found_snoc t [] x = refl
found_snoc t (r ∷ rs) x = by_test (t r) (found_snoc t rs x)
  where
    by_test : (b : Bool) → found t (rs ++ x ∷ []) ≡ or_row (found t rs) (cond (t x) (Some x) None) → cond b (Some r) (found t (rs ++ x ∷ [])) ≡ or_row (cond b (Some r) (found t rs)) (cond (t x) (Some x) None)
    by_test true more = refl
    by_test false more = more

-- what is found passes
pub passes : (t : Row → Bool) (rows : List Row) (r : Row) → found t rows ≡ Some r → t r ≡ true
passes t [] r e = absurd cc
passes t (x ∷ xs) r e =
    cases (t x)
    (λ b. subst (λ (z : Row). t z ≡ true) (some_is x r (sym (taken (t x) _ _ b) ∙ e)) b)
    (λ b. passes t xs r (sym (left_out (t x) _ _ b) ∙ e))

pub under_snoc : (n : ℕ) (rows : List Row) (x : Row) → places_under n (rows ++ x ∷ []) ≡ places_under n rows ++ cond (is_child n x) (x.1.place ∷ []) []
under_snoc n [] x = by_test (is_child n x)
  where
    by_test : (b : Bool) → cond b (x.1.place ∷ []) [] ≡ [] ++ cond b (x.1.place ∷ []) []
    by_test true = refl
    by_test false = refl
under_snoc n (r ∷ rs) x = by_test (is_child n r) (under_snoc n rs x)
  where
    by_test : (b : Bool) → places_under n (rs ++ x ∷ []) ≡ places_under n rs ++ cond (is_child n x) (x.1.place ∷ []) [] → cond b (r.1.place ∷ places_under n (rs ++ x ∷ [])) (places_under n (rs ++ x ∷ [])) ≡ cond b (r.1.place ∷ places_under n rs) (places_under n rs) ++ cond (is_child n x) (x.1.place ∷ []) []
    by_test true more = ap (λ ps. r.1.place ∷ ps) more
    by_test false more = more

-- ---- rows that are apart

module _ (same : Row → Row → Bool) (itself : (r : Row) → same r r ≡ true) (either : (r s : Row) → same r s ≡ same s r) where
  abbrev apart : List Row → Type 0
  apart rows = AreApart same rows

  any_snoc : (t : Row → Bool) (rows : List Row) (x : Row) → list_any t (rows ++ x ∷ []) ≡ (list_any t rows || t x)
  any_snoc t [] x = or_false (t x)
    where
      or_false : (b : Bool) → (b || false) ≡ b
      or_false true = refl
      or_false false = refl
  any_snoc t (r ∷ rs) x = ap (λ (b : Bool). t r || b) (any_snoc t rs x) ∙ assoc (t r) (list_any t rs) (t x)
    where
      assoc : (a b c : Bool) → (a || (b || c)) ≡ ((a || b) || c)
      assoc true b c = refl
      assoc false b c = refl

  pub apart_snoc : (rows : List Row) (x : Row) → apart rows → found (same x) rows ≡ None → apart (rows ++ x ∷ [])
  apart_snoc [] x a n = (refl, tt)
  apart_snoc (r ∷ rs) x a n =
      let d : same x r ≡ false = not_true (same x r) (λ t. no_some r (sym (taken (same x r) (Some r) (found (same x) rs) t) ∙ n)) in
      (any_snoc (same r) rs x ∙ or_later (list_any (same r) rs) (same r x) a.0 ∙ either r x ∙ d, apart_snoc rs x a.1 (sym (left_out (same x r) (Some r) (found (same x) rs) d) ∙ n))

  pub none_passes : (r x : Row) (t : Row → Bool) (rows : List Row) → list_any (same r) rows ≡ false → found t rows ≡ Some x → same r x ≡ false
  none_passes r x t [] n e = absurd cc
  none_passes r x t (y ∷ ys) n e =
      let m = or_parts (same r y) (list_any (same r) ys) n in
      cases (t y)
      (λ b. subst (λ (z : Row). same r z ≡ false) (some_is y x (sym (taken (t y) _ _ b) ∙ e)) m.0)
      (λ b. none_passes r x t ys m.1 (sym (left_out (t y) _ _ b) ∙ e))

  -- what any test finds is found by what sets it apart
  pub own : (t : Row → Bool) (rows : List Row) (x : Row) → apart rows → found t rows ≡ Some x → found (same x) rows ≡ Some x
  own t [] x a e = absurd cc
  own t (r ∷ rs) x a e =
      cases (t r)
      (λ b.
      let i : r ≡ x = some_is r x (sym (taken (t r) _ _ b) ∙ e) in
      subst (λ (z : Row). found (same z) (r ∷ rs) ≡ Some z) i (taken (same r r) (Some r) (found (same r) rs) (itself r)))
      (λ b.
      let f : found t rs ≡ Some x = sym (left_out (t r) _ _ b) ∙ e in
      let d : same x r ≡ false = either x r ∙ none_passes r x t rs a.0 f in
      left_out (same x r) (Some r) (found (same x) rs) d ∙ own t rs x a.1 f)

  any_gone : (t u : Row → Bool) (rows : List Row) → list_any t rows ≡ false → list_any t (first_gone u rows) ≡ false
  any_gone t u [] n = refl
  any_gone t u (r ∷ rs) n =
      let m = or_parts (t r) (list_any t rs) n in
      cases (u r)
      (λ b. ap (list_any t) (taken (u r) rs (r ∷ first_gone u rs) b) ∙ m.1)
      (λ b. ap (list_any t) (left_out (u r) rs (r ∷ first_gone u rs) b) ∙ or_later (t r) _ m.0 ∙ any_gone t u rs m.1)

  pub apart_gone : (u : Row → Bool) (rows : List Row) → apart rows → apart (first_gone u rows)
  apart_gone u [] a = tt
  apart_gone u (r ∷ rs) a =
      cases (u r)
      (λ b. subst apart (sym (taken (u r) rs (r ∷ first_gone u rs) b)) a.1)
      (λ b. subst apart (sym (left_out (u r) rs (r ∷ first_gone u rs) b)) (any_gone (same r) u rs a.0, apart_gone u rs a.1))

  none_found : (r : Row) (rows : List Row) → list_any (same r) rows ≡ false → found (same r) rows ≡ None
  none_found r [] n = refl
  none_found r (x ∷ xs) n =
      let m = or_parts (same r x) (list_any (same r) xs) n in
      left_out (same r x) (Some x) (found (same r) xs) m.0 ∙ none_found r xs m.1

  -- what sets a row apart finds none once that row is gone
  pub found_gone : (u : Row → Bool) (rows : List Row) (x : Row) → apart rows → found u rows ≡ Some x → found (same x) (first_gone u rows) ≡ None
  found_gone u [] x a e = absurd cc
  found_gone u (r ∷ rs) x a e =
      cases (u r)
      (λ b.
      let i : r ≡ x = some_is r x (sym (taken (u r) _ _ b) ∙ e) in
      ap (found (same x)) (taken (u r) rs (r ∷ first_gone u rs) b) ∙ subst (λ (z : Row). found (same z) rs ≡ None) i (none_found r rs a.0))
      (λ b.
      let f : found u rs ≡ Some x = sym (left_out (u r) _ _ b) ∙ e in
      let d : same x r ≡ false = either x r ∙ none_passes r x u rs a.0 f in
      ap (found (same x)) (left_out (u r) rs (r ∷ first_gone u rs) b) ∙ left_out (same x r) (Some r) (found (same x) (first_gone u rs)) d ∙ found_gone u rs x a.1 f)

-- a test that the row that goes doesn't pass finds what it found
pub found_kept : (t u : Row → Bool) (rows : List Row) (x : Row) → found u rows ≡ Some x → t x ≡ false → found t (first_gone u rows) ≡ found t rows
found_kept t u [] x e n = refl
found_kept t u (r ∷ rs) x e n =
    cases (u r)
    (λ b.
    let d : t r ≡ false = subst (λ (z : Row). t z ≡ false) (sym (some_is r x (sym (taken (u r) _ _ b) ∙ e))) n in
    ap (found t) (taken (u r) rs (r ∷ first_gone u rs) b) ∙ sym (left_out (t r) (Some r) (found t rs) d))
    (λ b.
    ap (found t) (left_out (u r) rs (r ∷ first_gone u rs) b)
    ∙ ap (cond (t r) (Some r)) (found_kept t u rs x (sym (left_out (u r) _ _ b) ∙ e) n))

pub found_none : (t u : Row → Bool) (rows : List Row) → found t rows ≡ None → found t (first_gone u rows) ≡ None
found_none t u [] n = refl
found_none t u (r ∷ rs) n =
    let d : t r ≡ false = not_true (t r) (λ b. no_some r (sym (taken (t r) (Some r) (found t rs) b) ∙ n)) in
    let m : found t rs ≡ None = sym (left_out (t r) (Some r) (found t rs) d) ∙ n in
    cases (u r)
    (λ b. ap (found t) (taken (u r) rs (r ∷ first_gone u rs) b) ∙ m)
    (λ b. ap (found t) (left_out (u r) rs (r ∷ first_gone u rs) b) ∙ left_out (t r) (Some r) (found t (first_gone u rs)) d ∙ found_none t u rs m)

pub place_itself : (r : Row) → same_place r r ≡ true
place_itself r = nat_is r.1.place

pub place_either : (r s : Row) → same_place r s ≡ same_place s r
place_either r s = turned s.1.place r.1.place

pub number_itself : (r : Row) → with_one_number r r ≡ true
number_itself r = number_is r.0

pub number_either : (r s : Row) → with_one_number r s ≡ with_one_number s r
number_either r s = numbers_turned r.0 s.0

pub key_itself : (r : Row) → with_one_key r r ≡ true
key_itself r = key_is r.1.key

pub key_either : (r s : Row) → with_one_key r s ≡ with_one_key s r
key_either r s = keys_turned s.1.key r.1.key

-- ---- the places under a number

module _ (n : ℕ) where
  lacks : (r : Row) (rows : List Row) → list_any (same_place r) rows ≡ false → has r.1.place (places_under n rows) ≡ false
  lacks r [] a = refl
  lacks r (x ∷ xs) a =
      let m = or_parts (same_place r x) (list_any (same_place r) xs) a in
      cases (is_child n x)
      (λ t. ap (has r.1.place) (taken (is_child n x) (x.1.place ∷ places_under n xs) (places_under n xs) t) ∙ or_later (nat_eq x.1.place r.1.place) _ m.0 ∙ lacks r xs m.1)
      (λ f. ap (has r.1.place) (left_out (is_child n x) (x.1.place ∷ places_under n xs) (places_under n xs) f) ∙ lacks r xs m.1)

  pub under_once : (rows : List Row) → AreApart same_place rows → AreOnce (places_under n rows)
  under_once [] a = tt
  under_once (r ∷ rs) a =
      cases (is_child n r)
      (λ t. subst AreOnce (sym (taken (is_child n r) (r.1.place ∷ places_under n rs) (places_under n rs) t)) (lacks r rs a.0, under_once rs a.1))
      (λ f. subst AreOnce (sym (left_out (is_child n r) (r.1.place ∷ places_under n rs) (places_under n rs) f)) (under_once rs a.1))

  -- the row at a place is under the number where its place is among those
  pub under_is : (p : ℕ) (rows : List Row) (r : Row) → AreApart same_place rows → found (has_place p) rows ≡ Some r → has p (places_under n rows) ≡ is_child n r
  under_is p [] r a e = absurd cc
  under_is p (x ∷ xs) r a e =
      cases (has_place p x)
      (λ b.
      let i : x ≡ r = some_is x r (sym (taken (has_place p x) _ _ b) ∙ e) in
      let q : x.1.place ≡ p = nats_are x.1.place p b in
      let l : has p (places_under n xs) ≡ false = subst (λ (z : ℕ). has z (places_under n xs) ≡ false) q (lacks x xs a.0) in
      subst (λ (z : Row). has p (places_under n (x ∷ xs)) ≡ is_child n z) i (at_head b l))
      (λ b. behind_head b ∙ under_is p xs r a.1 (sym (left_out (has_place p x) _ _ b) ∙ e))
    where
      at_head : has_place p x ≡ true → has p (places_under n xs) ≡ false → has p (cond (is_child n x) (x.1.place ∷ places_under n xs) (places_under n xs)) ≡ is_child n x
      at_head b l =
          cases (is_child n x)
          (λ t. ap (has p) (taken (is_child n x) (x.1.place ∷ places_under n xs) (places_under n xs) t) ∙ or_now (nat_eq x.1.place p) _ b ∙ sym t)
          (λ f. ap (has p) (left_out (is_child n x) (x.1.place ∷ places_under n xs) (places_under n xs) f) ∙ l ∙ sym f)

      behind_head : has_place p x ≡ false → has p (cond (is_child n x) (x.1.place ∷ places_under n xs) (places_under n xs)) ≡ has p (places_under n xs)
      behind_head b =
          cases (is_child n x)
          (λ t. ap (has p) (taken (is_child n x) (x.1.place ∷ places_under n xs) (places_under n xs) t) ∙ or_later (nat_eq x.1.place p) _ b)
          (λ f. ap (has p) (left_out (is_child n x) (x.1.place ∷ places_under n xs) (places_under n xs) f))

  pub under_none : (p : ℕ) (rows : List Row) → found (has_place p) rows ≡ None → has p (places_under n rows) ≡ false
  under_none p [] e = refl
  under_none p (x ∷ xs) e =
      let d : has_place p x ≡ false = not_true (has_place p x) (λ b. no_some x (sym (taken (has_place p x) (Some x) (found (has_place p) xs) b) ∙ e)) in
      let m : found (has_place p) xs ≡ None = sym (left_out (has_place p x) (Some x) (found (has_place p) xs) d) ∙ e in
      cases (is_child n x)
      (λ t. ap (has p) (taken (is_child n x) (x.1.place ∷ places_under n xs) (places_under n xs) t) ∙ or_later (nat_eq x.1.place p) _ d ∙ under_none p xs m)
      (λ f. ap (has p) (left_out (is_child n x) (x.1.place ∷ places_under n xs) (places_under n xs) f) ∙ under_none p xs m)

  -- as a row is taken out
  pub under_gone : (u : Row → Bool) (rows : List Row) (x : Row) → AreApart same_place rows → found u rows ≡ Some x → places_under n (first_gone u rows) ≡ cond (is_child n x) (gone x.1.place (places_under n rows)) (places_under n rows)
  under_gone u [] x a e = absurd cc
  under_gone u (r ∷ rs) x a e =
      cases (u r)
      (λ b.
      let i : r ≡ x = some_is r x (sym (taken (u r) _ _ b) ∙ e) in
      ap (places_under n) (taken (u r) rs (r ∷ first_gone u rs) b) ∙ subst (λ (z : Row). places_under n rs ≡ cond (is_child n z) (gone z.1.place (places_under n (r ∷ rs))) (places_under n (r ∷ rs))) i (itself (is_child n r) refl))
      (λ b.
      let f : found u rs ≡ Some x = sym (left_out (u r) _ _ b) ∙ e in
      let d : nat_eq r.1.place x.1.place ≡ false = turned r.1.place x.1.place ∙ apart_from r x u rs a.0 f in
      ap (places_under n) (left_out (u r) rs (r ∷ first_gone u rs) b) ∙ ap (λ (ps : List ℕ). cond (is_child n r) (r.1.place ∷ ps) ps) (under_gone u rs x a.1 f) ∙ moved_in (is_child n r) (is_child n x) d)
    where
      itself : (b : Bool) → is_child n r ≡ b → places_under n rs ≡ cond b (gone r.1.place (cond b (r.1.place ∷ places_under n rs) (places_under n rs))) (cond b (r.1.place ∷ places_under n rs) (places_under n rs))
      itself true e = sym (taken (nat_eq r.1.place r.1.place) _ _ (nat_is r.1.place))
      itself false e = refl

      apart_from : (r x : Row) (t : Row → Bool) (rows : List Row) → list_any (same_place r) rows ≡ false → found t rows ≡ Some x → same_place r x ≡ false
      apart_from r x t [] m e = absurd cc
      apart_from r x t (y ∷ ys) m e =
          let k = or_parts (same_place r y) (list_any (same_place r) ys) m in
          cases (t y)
          (λ b. subst (λ (z : Row). same_place r z ≡ false) (some_is y x (sym (taken (t y) _ _ b) ∙ e)) k.0)
          (λ b. apart_from r x t ys k.1 (sym (left_out (t y) _ _ b) ∙ e))

      moved_in : (b c : Bool) → nat_eq r.1.place x.1.place ≡ false → cond b (r.1.place ∷ cond c (gone x.1.place (places_under n rs)) (places_under n rs)) (cond c (gone x.1.place (places_under n rs)) (places_under n rs)) ≡ cond c (gone x.1.place (cond b (r.1.place ∷ places_under n rs) (places_under n rs))) (cond b (r.1.place ∷ places_under n rs) (places_under n rs))
      moved_in true true d = sym (left_out (nat_eq r.1.place x.1.place) _ _ d)
      moved_in true false d = refl
      moved_in false true d = refl
      moved_in false false d = refl

-- ---- numbers below the next one

pub none_made : (made : ℕ) (rows : List Row) → AreBelow made rows → found (has_number made) rows ≡ None
none_made made [] a = refl
none_made made (r ∷ rs) a =
    let d : same_number made r.0 ≡ false = not_true (same_number made r.0) (λ t. let z : made ≡ r.0 = numbers_are made r.0 t in let y = a.0 in absurd (omega arith)) in
    left_out (same_number made r.0) (Some r) (found (has_number made) rs) d ∙ none_made made rs a.2

pub no_children : (made : ℕ) (rows : List Row) → AreBelow made rows → places_under made rows ≡ []
no_children made [] a = refl
no_children made (r ∷ rs) a = left_out (is_child made r) (r.1.place ∷ places_under made rs) (places_under made rs) (not_of r.1.parent a.1) ∙ no_children made rs a.2
  where
    not_of : (u : Option ℕ) → IsBelow r.0 u → is_number made u ≡ false
    not_of None b = refl
    not_of (Some m) b = not_true (same_number made m) (λ t. let z : made ≡ m = numbers_are made m t in let y = a.0 in absurd (omega arith))
