-- What a place that is put in changes.
use Rattle.std.proofs.Common.{◌≡◌, ℕ, suc, ◌+◌, ◌<◌, Bool, true, false, cond, List, [], ◌∷◌, ◌++◌, length, Option, Some, None, Result, Ok, Err, refl, sym, ap, subst, ◌∙◌, arith}
use Rattle.std.specs.Prelude.{nat_eq, OnOk, IfSome, is_some}
use Rattle.std.specs.Global.{Vec}
use Rattle.std.specs.Ordering.{is_eq, nat_cmp, match_ordering}
use Rattle.std.specs.declared.cmp.Ordering.{Ordering}
use Rattle.std.specs.declared.cmp.Ordering.TheVariants.{Less, Equal, Greater}
use Rattle.std.specs.Cmp.Lexicographic.{slice_cmp, pointwise, texts_ties}
use Rattle.std.specs.BTreeMap.{insert_entry}
use Rattle.std.specs.List.{position_from}
use Rattle.std.specs.Option.{option_or}
use Rattle.std.proofs.lemmas.Map.Lookups.{exact_bytes}
use Rattle.std.proofs.lemmas.Bool.{eq-eqb}
use Rattle.stub_tables.specs.declared.operation.Code.{Code}
use Rattle.stub_tables.specs.declared.operation.Code.TheVariants.{Local, Global}
use Rattle.stub_tables.specs.declared.code_places.CodePlaces.{CodePlaces}
use Rattle.stub_tables.specs.Codes.{same_code, place_with}
use Rattle.stub_tables.specs.Places.{local_place, global_place, place_in, ArePlaces}

abbrev cmp : Vec ℕ → Vec ℕ → Ordering
cmp a b = slice_cmp nat_cmp a.items b.items

abbrev test : List ℕ → Vec ℕ → Bool
test q key = is_eq (slice_cmp nat_cmp q key.items)

same_arcs : (xs : List ℕ) → pointwise nat_eq xs xs ≡ true
same_arcs [] = refl
same_arcs (x ∷ xs) = rw (eq-eqb x x refl) (same_arcs xs)

is_it : (o : Ordering) → is_eq o ≡ true → o ≡ Equal
is_it Less e = absurd cc
is_it Equal e = refl
is_it Greater e = absurd cc

are_same : (xs ys : List ℕ) → is_eq (slice_cmp nat_cmp xs ys) ≡ true → xs ≡ ys
are_same xs ys e = exact_bytes xs ys (is_it _ e)

arcs_are : (xs ys : List ℕ) → pointwise nat_eq xs ys ≡ true → xs ≡ ys
arcs_are xs ys e = are_same xs ys (sym (texts_ties xs ys) ∙ e)

compares_equal : (xs : List ℕ) → is_eq (slice_cmp nat_cmp xs xs) ≡ true
compares_equal xs = sym (texts_ties xs xs) ∙ same_arcs xs

-- a test that holds on both sides
iff : (a b : Bool) → (a ≡ true → b ≡ true) → (b ≡ true → a ≡ true) → a ≡ b
iff true b f g = sym (f refl)
iff false true f g = g refl
iff false false f g = refl

turned : (q xs : List ℕ) → is_eq (slice_cmp nat_cmp q xs) ≡ pointwise nat_eq xs q
turned q xs =
    iff (is_eq (slice_cmp nat_cmp q xs)) (pointwise nat_eq xs q)
    (λ e. subst (λ (z : List ℕ). pointwise nat_eq z q ≡ true) (are_same q xs e) (same_arcs q))
    (λ e. subst (λ (z : List ℕ). is_eq (slice_cmp nat_cmp q z) ≡ true) (sym (arcs_are xs q e)) (compares_equal q))

module _ {X : Type 0} where
  both : (a b : Bool) (p s r : X) → a ≡ b → cond b p r ≡ cond a p (cond b s r)
  both true true p s r e = refl
  both true false p s r e = absurd cc
  both false true p s r e = absurd cc
  both false false p s r e = refl

  swapped : (a b : Bool) (p s r : X) → (a ≡ true → b ≡ false) → cond b s (cond a p r) ≡ cond a p (cond b s r)
  swapped true true p s r e = let z : true ≡ false = e refl in absurd cc
  swapped true false p s r e = refl
  swapped false true p s r e = refl
  swapped false false p s r e = refl

module _ (k : Vec ℕ) (v : ℕ) (q : List ℕ) where
  put_entry : (es : List (Vec ℕ × ℕ)) → global_place (insert_entry cmp es k v) q ≡ cond (test q k) (Some v) (global_place es q)
  put_entry [] = refl
  put_entry (e ∷ es) = by_order (cmp k e.0) refl (put_entry es)
    where
      apart : cmp k e.0 ≡ Greater → (b : Bool) → test q e.0 ≡ b → test q k ≡ true → b ≡ false
      apart g true t s =
          let x : k.items ≡ e.0.items = sym (are_same q k.items s) ∙ are_same q e.0.items t in
          let y : is_eq (cmp k e.0) ≡ true = subst (λ (z : List ℕ). is_eq (slice_cmp nat_cmp k.items z) ≡ true) x (compares_equal k.items) in
          let n : is_eq Greater ≡ true = sym (ap is_eq g) ∙ y in
          absurd cc
      apart g false t s = refl

      by_order : (o : Ordering) → cmp k e.0 ≡ o → global_place (insert_entry cmp es k v) q ≡ cond (test q k) (Some v) (global_place es q) → global_place (match_ordering o ((k, v) ∷ e ∷ es) ((e.0, v) ∷ es) (e ∷ insert_entry cmp es k v)) q ≡ cond (test q k) (Some v) (global_place (e ∷ es) q)
      by_order Less f more = refl
      by_order Equal f more = both (test q k) (test q e.0) _ _ _ (ap (λ (z : List ℕ). is_eq (slice_cmp nat_cmp q z)) (exact_bytes k.items e.0.items f))
      by_order Greater f more = ap (cond (test q e.0) (Some e.1)) more ∙ swapped (test q k) (test q e.0) _ _ _ (λ s. apart f (test q e.0) refl s)

pub put_arcs : (es : List (Vec ℕ × ℕ)) (k : Vec ℕ) (arcs : List ℕ) (v : ℕ) (q : List ℕ) → k.items ≡ arcs → global_place (insert_entry cmp es k v) q ≡ cond (pointwise nat_eq arcs q) (Some v) (global_place es q)
put_arcs es k arcs v q e = put_entry k v q es ∙ ap (λ (b : Bool). cond b (Some v) (global_place es q)) (turned q k.items ∙ ap (λ (z : List ℕ). pointwise nat_eq z q) e)

first_put : (b : Bool) (old new : Option ℕ) (place : ℕ) → new ≡ cond b (Some place) old → (b ≡ true → old ≡ None) → new ≡ option_or old (cond b (Some place) None)
first_put true None new place e n = e
first_put true (Some x) new place e n = let z : Some x ≡ None = n refl in absurd cc
first_put false None new place e n = e
first_put false (Some x) new place e n = e

pub put_global_code : (old new : CodePlaces) (arcs : List ℕ) (place : ℕ) → new.locals.entries ≡ old.locals.entries → ((q : List ℕ) → global_place new.globals.entries q ≡ cond (pointwise nat_eq arcs q) (Some place) (global_place old.globals.entries q)) → place_in old (Global arcs) ≡ None → (q : Code) → place_in new q ≡ option_or (place_in old q) (cond (same_code (Global arcs) q) (Some place) None)
put_global_code old new arcs place l g n (Local number) = first_put false _ _ place (ap (λ es. local_place es number) l) (λ e. absurd cc)
put_global_code old new arcs place l g n (Global q) =
    first_put (pointwise nat_eq arcs q) _ _ place (g q) (λ e. subst (λ (z : List ℕ). place_in old (Global z) ≡ None) (arcs_are arcs q e) n)

none_there : (o : Option ℕ) → false ≡ is_some o → o ≡ None
none_there None e = refl
none_there (Some x) e = absurd cc

pub put_global_ok : {T E : Type 0} (r : Result T E) (old new : CodePlaces) (code : Code) (oid arcs : List ℕ) (place : ℕ) (found : Option ℕ) → code ≡ Global oid → arcs ≡ oid → new.locals.entries ≡ old.locals.entries → found ≡ place_in old code → false ≡ is_some found → OnOk r ((q : List ℕ) → global_place new.globals.entries q ≡ cond (pointwise nat_eq arcs q) (Some place) (global_place old.globals.entries q)) → OnOk r ((q : Code) → place_in new q ≡ option_or (place_in old q) (cond (same_code code q) (Some place) None))
put_global_ok (Err x) old new code oid arcs place found c a l f n h = tt
put_global_ok (Ok x) old new code oid arcs place found c a l f n h =
    let there : place_in old (Global arcs) ≡ None = ap (λ (z : List ℕ). place_in old (Global z)) a ∙ ap (place_in old) (sym c) ∙ sym f ∙ none_there found n in
    let is : Global arcs ≡ code = ap (λ (z : List ℕ). Global z) a ∙ sym c in
    subst (λ (z : Code). (q : Code) → place_in new q ≡ option_or (place_in old q) (cond (same_code z q) (Some place) None)) is (put_global_code old new arcs place l h there)

-- ---- a row at the end

module _ {X : Type 0} (code_of : X → Code) where
  sought_behind : (code : Code) (n : ℕ) (xs : List X) (x : X) → position_from (λ y. same_code (code_of y) code) n (xs ++ x ∷ []) ≡ option_or (position_from (λ y. same_code (code_of y) code) n xs) (cond (same_code (code_of x) code) (Some (n + length xs)) None)
  sought_behind code n [] x = ap (λ m. cond (same_code (code_of x) code) (Some m) None) (omega arith)
  sought_behind code n (y ∷ ys) x = by_test (same_code (code_of y) code) (sought_behind code (n + 1) ys x)
    where
      later : Option ℕ
      later = position_from (λ y. same_code (code_of y) code) (n + 1) ys

      by_test : (b : Bool) → position_from (λ y. same_code (code_of y) code) (n + 1) (ys ++ x ∷ []) ≡ option_or (position_from (λ y. same_code (code_of y) code) (n + 1) ys) (cond (same_code (code_of x) code) (Some (n + 1 + length ys)) None) → cond b (Some n) (position_from (λ y. same_code (code_of y) code) (n + 1) (ys ++ x ∷ [])) ≡ option_or (cond b (Some n) (position_from (λ y. same_code (code_of y) code) (n + 1) ys)) (cond (same_code (code_of x) code) (Some (n + suc (length ys))) None)
      by_test true more = refl
      by_test false more = more ∙ ap (λ m. option_or (position_from (λ y. same_code (code_of y) code) (n + 1) ys) (cond (same_code (code_of x) code) (Some m) None)) (omega arith)

  push_place : (xs : List X) (x : X) (old new : CodePlaces) → ArePlaces code_of xs old → ((q : Code) → place_in new q ≡ option_or (place_in old q) (cond (same_code (code_of x) q) (Some (length xs)) None)) → ArePlaces code_of (xs ++ x ∷ []) new
  push_place xs x old new a f =
      record { each = λ q. f q ∙ ap (λ o. option_or o (cond (same_code (code_of x) q) (Some (length xs)) None)) (a.each q) ∙ sym (sought_behind q 0 xs x ∙ ap (λ m. option_or (place_with code_of q xs) (cond (same_code (code_of x) q) (Some m) None)) (omega arith)) }

  pub push_placed : (xs ys : List X) (x : X) (n : ℕ) (old new : CodePlaces) → ys ≡ xs ++ x ∷ [] → n ≡ length xs → ArePlaces code_of xs old → ((q : Code) → place_in new q ≡ option_or (place_in old q) (cond (same_code (code_of x) q) (Some n) None)) → ArePlaces code_of ys new
  push_placed xs ys x n old new e m a f =
      subst (λ (zs : List X). ArePlaces code_of zs new) (sym e)
      (push_place xs x old new a (subst (λ (k : ℕ). (q : Code) → place_in new q ≡ option_or (place_in old q) (cond (same_code (code_of x) q) (Some k) None)) m f))

  -- ---- where a place may be

  later_place : (code : Code) (n : ℕ) (xs : List X) (o : Option ℕ) → o ≡ position_from (λ y. same_code (code_of y) code) n xs → IfSome o (λ k. k < n + length xs)
  later_place code n xs None e = tt
  later_place code n [] (Some k) e = absurd cc
  later_place code n (x ∷ xs) (Some k) e = by_test (same_code (code_of x) code) e (λ m. later_place code (n + 1) xs (Some k) m)
    where
      by_test : (b : Bool) → Some k ≡ cond b (Some n) (position_from (λ y. same_code (code_of y) code) (n + 1) xs) → (Some k ≡ position_from (λ y. same_code (code_of y) code) (n + 1) xs → k < n + 1 + length xs) → k < n + suc (length xs)
      by_test true m more = let z : k ≡ n = cc in omega arith
      by_test false m more = let z = more m in omega arith

  pub place_within : (code : Code) (xs : List X) (o : Option ℕ) → o ≡ place_with code_of code xs → IfSome o (λ k. k < length xs)
  place_within code xs None e = tt
  place_within code xs (Some k) e = let z : k < 0 + length xs = later_place code 0 xs (Some k) e in omega arith
