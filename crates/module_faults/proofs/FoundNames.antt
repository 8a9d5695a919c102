-- Where names are found, as one more assignment is added.
use Rattle.std.proofs.Common.{◌≡◌, ℕ, ◌+◌, ◌<◌, get_or, Bool, true, false, List, [], ◌∷◌, ◌++◌, length, take, Option, Some, None, refl, sym, ap, ◌∙◌, arith}
use Rattle.std.specs.Prelude.{cond}
use Rattle.std.specs.List.{position_from}
use Rattle.std.specs.Option.{option_or}
use Rattle.std.specs.Str.{bytes_eq}
use Rattle.operation_notation.specs.declared.module.Assignment.{Assignment}
use Rattle.std.specs.Prelude.{is_some, nat_eq}
use Rattle.std.specs.HashMap.{HashMap, Updates}
use Rattle.std.specs.Cmp.Lexicographic.{pointwise}
use Rattle.std.proofs.lemmas.List.{take_more, length-take-le}
use Rattle.std.specs.Map.{lookup}
use Rattle.std.proofs.lemmas.Slice.Eq.{bytes_eq-Decides}
use Rattle.indexmap.specs.IndexMap.{get_by}
use denote.Ref.{Bor}
use Rattle.module_faults.specs.Names.{find, AreFound, IsAdded}

none_of : {A : Type 0} (o : Option A) → is_some o ≡ false → o ≡ None
none_of None e = refl
none_of (Some a) e = absurd cc

-- the two sides of an equality of octets
eq_swap : (a b : List ℕ) → bytes_eq a b ≡ bytes_eq b a
eq_swap a b = go (bytes_eq a b) (bytes_eq b a) refl refl
  where
    go : (p q : Bool) → bytes_eq a b ≡ p → bytes_eq b a ≡ q → p ≡ q
    go true true e f = refl
    go false false e f = refl
    go true false e f = sym ((bytes_eq-Decides b a).1 (sym ((bytes_eq-Decides a b).0 e))) ∙ f
    go false true e f = sym e ∙ (bytes_eq-Decides a b).1 (sym ((bytes_eq-Decides b a).0 f))

or_none_right : {A : Type 0} (o : Option A) → o ≡ option_or o None
or_none_right None = refl
or_none_right (Some a) = refl

one_here : (b : Bool) (i j : ℕ) → i ≡ j → cond b (Some i) None ≡ cond b (Some j) None
one_here b i j e = ap (λ (n : ℕ). cond b (Some n) None) e

position_step : {K : Type 0} (t : K → Bool) (i : ℕ) (y : K) (ys : List K) (x : K) → position_from t (i + 1) (ys ++ x ∷ []) ≡ option_or (position_from t (i + 1) ys) (cond (t x) (Some (i + 1 + length ys)) None)
    → (b : Bool) → cond b (Some i) (position_from t (i + 1) (ys ++ x ∷ [])) ≡ option_or (cond b (Some i) (position_from t (i + 1) ys)) (cond (t x) (Some (i + length (y ∷ ys))) None)
position_step t i y ys x ih true = refl
position_step t i y ys x ih false = ih ∙ ap (λ (o : Option ℕ). option_or (position_from t (i + 1) ys) o) (one_here (t x) (i + 1 + length ys) (i + length (y ∷ ys)) (omega arith))

pub position_more : {K : Type 0} (t : K → Bool) (i : ℕ) (xs : List K) (x : K) → position_from t i (xs ++ x ∷ []) ≡ option_or (position_from t i xs) (cond (t x) (Some (i + length xs)) None)
position_more t i [] x = one_here (t x) i (i + 0) (omega arith)
position_more t i (y ∷ ys) x = position_step t i y ys x (position_more t (i + 1) ys x) (t y)

pub find_more : (xs : List Assignment) (a : Assignment) (name : List ℕ) → find (xs ++ a ∷ []) name ≡ option_or (find xs name) (cond (bytes_eq name a.name.text) (Some (length xs)) None)
unfolding find
find_more xs a name = position_more (λ (b : Assignment). bytes_eq name b.name.text) 0 xs a ∙ ap (λ (o : Option ℕ). option_or (position_from (λ (b : Assignment). bytes_eq name b.name.text) 0 xs) o) (one_here (bytes_eq name a.name.text) (0 + length xs) (length xs) (omega arith))

pub find_none : (name : List ℕ) → find [] name ≡ None
unfolding find
find_none name = refl

-- no names are found in a map without entries
pub found_none : {S : Type 0} (places : HashMap (Bor (List ℕ)) ℕ S) → places.entries ≡ [] → AreFound [] places
found_none places e name = ap (lookup (λ (k : Bor (List ℕ)). bytes_eq name k.now)) e ∙ sym (find_none name)

-- ---- one more name

or_some : (o : Option ℕ) (b : Bool) (n : ℕ) → (b ≡ true → is_some o ≡ true) → o ≡ option_or o (cond b (Some n) None)
or_some None true n h = let none : is_some {T = ℕ} None ≡ true = h refl in absurd cc
or_some None false n h = refl
or_some (Some m) b n h = refl

same_name : (a b : List ℕ) → bytes_eq a b ≡ true → a ≡ b
same_name a b e = (bytes_eq-Decides a b).0 e

module _ {S : Type 0} (old : HashMap (Bor (List ℕ)) ℕ S) (name : Bor (List ℕ)) (place : ℕ) where
  abbrev held : List ℕ → Option ℕ
  held other = get_by (λ (k : Bor (List ℕ)). bytes_eq other k.now) old

  -- a name that has a place keeps it
  pub added_old : is_some (held name.now) ≡ true → IsAdded old old name.now place
  added_old there other = or_some (held other) (bytes_eq other name.now) place (λ e. ap (λ (n : List ℕ). is_some (held n)) (same_name other name.now e) ∙ there)

  new_or : (o : Option ℕ) (b : Bool) → (b ≡ true → o ≡ None) → cond b (Some place) o ≡ option_or o (cond b (Some place) None)
  new_or None true h = refl
  new_or None false h = refl
  new_or (Some m) true h = let none : Some m ≡ None = h refl in absurd cc
  new_or (Some m) false h = refl

  -- a new name has its place
  pub added_new : (new : HashMap (Bor (List ℕ)) ℕ S) → is_some (held name.now) ≡ false → Updates (λ x y. pointwise nat_eq x.now y.now) old new name (Some place) → IsAdded old new name.now place
  added_new new lacks u other =
      u.0 (record { ref_ptr = (0, 0); now = other })
      ∙ ap (λ (b : Bool). cond b (Some place) (held other)) (eq_swap name.now other)
      ∙ new_or (held other) (bytes_eq other name.now) (λ e. ap held (same_name other name.now e) ∙ none_of (held name.now) lacks)

-- what is found among one more
pub found_step : {S : Type 0} (xs : List Assignment) (i : ℕ) (a : Assignment) (old new : HashMap (Bor (List ℕ)) ℕ S) (name : List ℕ) (place : ℕ) → i < length xs → a ≡ get_or xs i a → name ≡ a.name.text → place ≡ i
    → AreFound (take i xs) old → IsAdded old new name place → AreFound (take (i + 1) xs) new
found_step {S = S} xs i a old new name place lt is named at_place found added other =
    let grown : take (i + 1) xs ≡ take i xs ++ a ∷ [] = take_more xs i a lt ∙ ap (λ (z : Assignment). take i xs ++ z ∷ []) (sym is) in
    let count : length (take i xs) ≡ i = length-take-le i xs (omega arith) in
    added other
    ∙ ap (λ (o : Option ℕ). option_or o (cond (bytes_eq other name) (Some place) None)) (found other)
    ∙ ap (λ (n : List ℕ). option_or (find (take i xs) other) (cond (bytes_eq other n) (Some place) None)) named
    ∙ ap (λ (n : ℕ). option_or (find (take i xs) other) (cond (bytes_eq other a.name.text) (Some n) None)) (at_place ∙ sym count)
    ∙ sym (find_more (take i xs) a other)
    ∙ ap (λ (z : List Assignment). find z other) (sym grown)
