-- A version leads from its set to the next.
use Rattle.std.proofs.Common.{◌≡◌, ℕ, Bool, true, false, not, ◌&&◌, ◌||◌, nat_eq, if◌then◌else◌, List, [], ◌∷◌, length, Option, Some, None, is_some, refl, sym, ap, ap₂, ◌∙◌, subst, arith, le_of_eq, eqb-true}
use Rattle.std.proofs.lemmas.Bool.{eqb-false}
use Rattle.std.proofs.lemmas.Bool.Decides.{nat_tests}
use Rattle.std.proofs.lemmas.Slice.Eq.{bytes_eq-Decides}
use Rattle.std.specs.Option.{option_or}
use Rattle.osi_base.specs.declared.syntax.Pair.{Pair}
use Rattle.osi_base.specs.declared.syntax.Syntax.{Syntax}
use Rattle.osi_base.specs.declared.syntax.Syntax.TheVariants.{Ber, Der, Packed}
use Rattle.osi_base.specs.declared.layer_words.SetItem.{SetItem}
use Rattle.context_sets.specs.Sets.{ContextSet, put, IsRising, AllAbove}
use Rattle.osi_base.specs.SetPlaces.{pair_of, without_context}
use Rattle.context_sets.specs.Syntaxes.{is_same}
use Rattle.context_sets.specs.Alterations.{is_among}
use Rattle.context_sets.proofs.Rising.{rising-put, rising-remove, by_test}
use Rattle.context_sets.proofs.Order.{pair_of-put_same, pair_of-put_other, pair_of-remove_same, pair_of-remove_other, pair_of-above, pair_of-first, pair_of-later, same_set}
use Rattle.context_restore.specs.Versions.{Version, same_syntax, same_pair, is_pair, has, missing, ids, version, root, without, with_all, applied, set_of}

-- every version leads to a rising set

pub rising-with_all : (items : List SetItem) (set : ContextSet) → IsRising set → IsRising (with_all items set)
rising-with_all [] set r = r
rising-with_all (item ∷ items) set r = rising-with_all items _ (rising-put item set r)

pub rising-without : (removed : List ℕ) (set : ContextSet) → IsRising set → IsRising (without removed set)
rising-without [] set r = r
rising-without (id ∷ removed) set r = rising-without removed _ (rising-remove id set r)

pub rising-set_of : (versions : List Version) → IsRising (set_of versions)
rising-set_of [] = tt
rising-set_of (v ∷ versions) = rising-with_all v.added _ (rising-without v.removed _ (rising-set_of versions))

above-missing : (k : ℕ) (other set : ContextSet) → AllAbove k set → AllAbove k (missing other set)
above-missing k other [] a = tt
above-missing k other (item ∷ items) a =
    by_test (AllAbove k) (not (has other item)) _ _ (λ t. (a.0, above-missing k other items a.1)) (λ f. above-missing k other items a.1)

rising-missing : (other set : ContextSet) → IsRising set → IsRising (missing other set)
rising-missing other [] r = tt
rising-missing other (item ∷ items) r =
    by_test IsRising (not (has other item)) _ _
    (λ t. (above-missing item.id other items r.0, rising-missing other items r.1))
    (λ f. rising-missing other items r.1)

-- what is looked up after the changes

pair_of-with_all : (items : List SetItem) (set : ContextSet) (k : ℕ) → IsRising items → pair_of (with_all items set) k ≡ option_or (pair_of items k) (pair_of set k)
pair_of-with_all [] set k r = refl
pair_of-with_all (item ∷ items) set k r = pair_of-with_all items (put item set) k r.1 ∙ go (nat_eq item.id k) refl
  where
    go : (b : Bool) → nat_eq item.id k ≡ b → option_or (pair_of items k) (pair_of (put item set) k) ≡ option_or (pair_of (item ∷ items) k) (pair_of set k)
    go true e =
        let here : item.id ≡ k = eqb-true item.id k e in
        let none : pair_of items k ≡ None = pair_of-above k item.id items (le_of_eq (sym here)) r.0 in
        let some : pair_of (put item set) k ≡ Some item.pair = subst (λ i. pair_of (put item set) i ≡ Some item.pair) here (pair_of-put_same item set) in
        let first : pair_of (item ∷ items) k ≡ Some item.pair = subst (λ i. pair_of (item ∷ items) i ≡ Some item.pair) here (pair_of-first item items) in
        ap (λ (o : Option Pair). option_or o (pair_of (put item set) k)) none ∙ some ∙ sym (ap (λ (o : Option Pair). option_or o (pair_of set k)) first)
    go false e =
        let n : item.id ≡ k → ⊥ = eqb-false item.id k e in
        ap (option_or (pair_of items k)) (pair_of-put_other k item set (λ x. n (sym x)))
        ∙ sym (ap (λ (o : Option Pair). option_or o (pair_of set k)) (pair_of-later k item items n))

without_step : (a b : Bool) (x y : Option Pair) → (b ≡ true → x ≡ None) → (b ≡ false → x ≡ y) → (if a then None else x) ≡ (if b || a then None else y)
without_step true true x y h g = refl
without_step true false x y h g = refl
without_step false true x y h g = h refl
without_step false false x y h g = g refl

pair_of-without : (removed : List ℕ) (set : ContextSet) (k : ℕ) → pair_of (without removed set) k ≡ (if is_among k removed then None else pair_of set k)
pair_of-without [] set k = refl
pair_of-without (id ∷ removed) set k =
    pair_of-without removed (without_context id set) k
    ∙ without_step (is_among k removed) (nat_eq id k) (pair_of (without_context id set) k) (pair_of set k)
    (λ e. subst (λ i. pair_of (without_context i set) k ≡ None) (sym (eqb-true id k e)) (pair_of-remove_same k set))
    (λ e. pair_of-remove_other k id set (λ x. eqb-false id k e (sym x)))

-- what one look-up has that another hasn't
abbrev pub differing : Option Pair → Option Pair → Option Pair
differing other None = None
differing other (Some pair) = if is_pair other pair then None else Some pair

pair_of-missing : (other set : ContextSet) (k : ℕ) → IsRising set → pair_of (missing other set) k ≡ differing (pair_of other k) (pair_of set k)
pair_of-missing other [] k r = refl
pair_of-missing other (item ∷ items) k r = go (pair_of-missing other items k r.1) (has other item) refl (nat_eq item.id k) refl
  where
    go : pair_of (missing other items) k ≡ differing (pair_of other k) (pair_of items k) → (d : Bool) → has other item ≡ d → (b : Bool) → nat_eq item.id k ≡ b → pair_of (if not d then item ∷ missing other items else missing other items) k ≡ differing (pair_of other k) (pair_of (item ∷ items) k)
    go ih true f true e =
        let here : item.id ≡ k = eqb-true item.id k e in
        let none : pair_of items k ≡ None = pair_of-above k item.id items (le_of_eq (sym here)) r.0 in
        let first : pair_of (item ∷ items) k ≡ Some item.pair = subst (λ i. pair_of (item ∷ items) i ≡ Some item.pair) here (pair_of-first item items) in
        let h : is_pair (pair_of other k) item.pair ≡ true = subst (λ i. is_pair (pair_of other i) item.pair ≡ true) here f in
        ih ∙ ap (differing (pair_of other k)) none ∙ sym (ap (differing (pair_of other k)) first ∙ ap (λ (c : Bool). if c then None else Some item.pair) h)
    go ih true f false e = ih ∙ sym (ap (differing (pair_of other k)) (pair_of-later k item items (eqb-false item.id k e)))
    go ih false f true e =
        let here : item.id ≡ k = eqb-true item.id k e in
        let first : pair_of (item ∷ items) k ≡ Some item.pair = subst (λ i. pair_of (item ∷ items) i ≡ Some item.pair) here (pair_of-first item items) in
        let there : pair_of (item ∷ missing other items) k ≡ Some item.pair = subst (λ i. pair_of (item ∷ missing other items) i ≡ Some item.pair) here (pair_of-first item (missing other items)) in
        let h : is_pair (pair_of other k) item.pair ≡ false = subst (λ i. is_pair (pair_of other i) item.pair ≡ false) here f in
        there ∙ sym (ap (differing (pair_of other k)) first ∙ ap (λ (c : Bool). if c then None else Some item.pair) h)
    go ih false f false e =
        pair_of-later k item (missing other items) (eqb-false item.id k e) ∙ ih ∙ sym (ap (differing (pair_of other k)) (pair_of-later k item items (eqb-false item.id k e)))

is_among-ids : (set : ContextSet) (k : ℕ) → is_among k (ids set) ≡ is_some (pair_of set k)
is_among-ids [] k = refl
is_among-ids (item ∷ items) k = go (is_among-ids items k) (nat_eq item.id k) refl
  where
    go : is_among k (ids items) ≡ is_some (pair_of items k) → (b : Bool) → nat_eq item.id k ≡ b → is_among k (ids (item ∷ items)) ≡ is_some (pair_of (item ∷ items) k)
    go ih true e = rw e refl
    go ih false e = rw e ih

-- equal pairs

same_syntax-true : (a b : Syntax) → same_syntax a b ≡ true → a ≡ b
same_syntax-true Ber Ber e = refl
same_syntax-true Der Der e = refl
same_syntax-true Packed Packed e = refl
same_syntax-true Ber Der e = cc
same_syntax-true Ber Packed e = cc
same_syntax-true Der Ber e = cc
same_syntax-true Der Packed e = cc
same_syntax-true Packed Ber e = cc
same_syntax-true Packed Der e = cc

same_syntax-self : (a : Syntax) → same_syntax a a ≡ true
same_syntax-self Ber = refl
same_syntax-self Der = refl
same_syntax-self Packed = refl

and-left : (a b : Bool) → (a && b) ≡ true → a ≡ true
and-left true b e = refl
and-left false b e = e

and-right : (a b : Bool) → (a && b) ≡ true → b ≡ true
and-right true b e = e
and-right false b e = cc

same_pair-true : (a b : Pair) → same_pair a b ≡ true → a ≡ b
same_pair-true a b e =
    let f : a.abstract_name ≡ b.abstract_name = (bytes_eq-Decides a.abstract_name b.abstract_name).0 (and-left (is_same a.abstract_name b.abstract_name) _ e) in
    let g : a.transfer ≡ b.transfer = same_syntax-true a.transfer b.transfer (and-right (is_same a.abstract_name b.abstract_name) _ e) in
    λ i. record { abstract_name = f i; transfer = g i }

same_pair-self : (a : Pair) → same_pair a a ≡ true
same_pair-self a = rw ((bytes_eq-Decides a.abstract_name a.abstract_name).1 refl) (same_syntax-self a.transfer)

-- less what was changed and with what is new, a look-up gives the later one
settled : (old new : Option Pair) → option_or (differing old new) (if is_some (differing new old) then None else old) ≡ new
settled None None = refl
settled None (Some p) = refl
settled (Some q) None = refl
settled (Some q) (Some p) = go (same_pair q p) refl
  where
    go : (b : Bool) → same_pair q p ≡ b → option_or (differing (Some q) (Some p)) (if is_some (differing (Some p) (Some q)) then None else Some q) ≡ Some p
    go true e =
        let same : q ≡ p = same_pair-true q p e in
        let back : same_pair p q ≡ true = subst (λ (x : Pair). same_pair p x ≡ true) (sym same) (same_pair-self p) in
        rw (e, back) (ap (λ (x : Pair). Some x) same)
    go false e = rw e refl

-- a version leads from its set to the next
pub applied-version : (old new : ContextSet) → IsRising old → IsRising new → applied (version old new) old ≡ new
applied-version old new r q =
    same_set _ _ (rising-with_all (missing old new) _ (rising-without (ids (missing new old)) old r)) q
    (λ k.
    pair_of-with_all (missing old new) (without (ids (missing new old)) old) k (rising-missing old new q)
    ∙ ap₂ option_or (pair_of-missing old new k q)
    (pair_of-without (ids (missing new old)) old k
    ∙ ap (λ (c : Bool). if c then None else pair_of old k) (is_among-ids (missing new old) k ∙ ap (λ (o : Option Pair). is_some o) (pair_of-missing new old k r)))
    ∙ settled (pair_of old k) (pair_of new k))

pub applied-root : (set : ContextSet) → IsRising set → set_of (root set ∷ []) ≡ set
applied-root set r =
    same_set _ _ (rising-with_all set [] tt) r (λ k. pair_of-with_all set [] k r ∙ or_none (pair_of set k))
  where
    or_none : (o : Option Pair) → option_or o None ≡ o
    or_none None = refl
    or_none (Some p) = refl

none_left : {X : Type 0} (xs : List X) → length xs ≡ 0 → xs ≡ []
none_left [] e = refl
none_left (x ∷ xs) e = absurd (omega (arith, e))

-- two sets of which neither has what the other hasn't are one
pub unchanged : (old new added lost : ContextSet) → IsRising old → IsRising new → added ≡ missing old new → lost ≡ missing new old
    → (nat_eq (length added) 0 && nat_eq (length lost) 0) ≡ true → old ≡ new
unchanged old new added lost r q a b none =
    let no_more : missing old new ≡ [] = sym a ∙ none_left added (grind (arith, nat_tests, none)) in
    let no_less : missing new old ≡ [] = sym b ∙ none_left lost (grind (arith, nat_tests, none)) in
    let same : version old new ≡ record { added = []; removed = [] } = λ i. record { added = no_more i; removed = ap ids no_less i } in
    sym (ap (λ (v : Version). applied v old) same) ∙ applied-version old new r q
