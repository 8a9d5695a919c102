-- Keys of open invocations, and forests without one.
use Rattle.std.proofs.Common.{◌≡◌, ℤ, Bool, true, false, ◌||◌, ◌&&◌, cond, List, [], ◌∷◌, ◌++◌, map, refl, sym, ap, subst, ◌∙◌}
use Rattle.std.specs.Ordering.{int_eq}
use Rattle.std.proofs.lemmas.Bool.{and_parts}
use Rattle.std.proofs.lemmas.Bool.Decides.{Decides-int_eq}
use Rattle.linked_ops.specs.declared.key.Key.{Key}
use Rattle.linked_ops.specs.Keys.{same_bool, same_key}
use Rattle.linked_ops.specs.Entries.{Entry, is_open, orphaned, without, closed, AreBehind, IsForest}

pub bools_are : (a b : Bool) → same_bool a b ≡ true → a ≡ b
bools_are true true e = refl
bools_are false false e = refl
bools_are true false e = absurd cc
bools_are false true e = absurd cc

bool_is : (a : Bool) → same_bool a a ≡ true
bool_is true = refl
bool_is false = refl

pub id_is : (a : ℤ) → int_eq a a ≡ true
id_is a = (Decides-int_eq a a).1 refl

pub ids_are : (a b : ℤ) → int_eq a b ≡ true → a ≡ b
ids_are a b e = (Decides-int_eq a b).0 e

both : (a b : Bool) → a ≡ true → b ≡ true → (a && b) ≡ true
both true b e f = f
both false b e f = absurd cc

pub key_is : (k : Key) → same_key k k ≡ true
key_is k = both (same_bool k.own k.own) (int_eq k.id k.id) (bool_is k.own) (id_is k.id)

pub keys_are : (a b : Key) → same_key a b ≡ true → a ≡ b
keys_are a b e =
    let t = and_parts (same_bool a.own b.own) _ e in
    let x = bools_are a.own b.own t.0 in
    let y = ids_are a.id b.id t.1 in
    λ i. record { own = x i; id = y i }

pub bool_cases : {X : Type 0} (b : Bool) → (b ≡ true → X) → (b ≡ false → X) → X
bool_cases true f g = f refl
bool_cases false f g = g refl

pub or_true : (a b : Bool) → b ≡ true → (a || b) ≡ true
or_true true b e = refl
or_true false b e = e

pub or_first : (a b : Bool) → a ≡ true → (a || b) ≡ true
or_first true b e = refl
or_first false b e = absurd cc

pub or_none : (a b : Bool) → (a || b) ≡ false → (a ≡ false) × (b ≡ false)
or_none true b e = absurd cc
or_none false b e = (refl, e)

pub or_rest : (a b : Bool) → a ≡ false → (a || b) ≡ b
or_rest true b e = absurd cc
or_rest false b e = refl

open-snoc : (k : Key) (xs : List Entry) (e : Entry) → is_open k xs ≡ true → is_open k (xs ++ e ∷ []) ≡ true
open-snoc k [] e h = absurd cc
open-snoc k (x ∷ xs) e h =
    bool_cases (same_key x.0 k) (λ t. or_first (same_key x.0 k) _ t)
    (λ f. or_true (same_key x.0 k) _ (open-snoc k xs e (sym (or_rest (same_key x.0 k) _ f) ∙ h)))

open-last : (xs : List Entry) (e : Entry) → is_open e.0 (xs ++ e ∷ []) ≡ true
open-last [] e = or_first (same_key e.0 e.0) false (key_is e.0)
open-last (x ∷ xs) e = or_true (same_key x.0 e.0) _ (open-last xs e)

-- ---- no key stands twice

abbrev pub AreApart : List Entry → Type 0
AreApart [] = Unit {0}
AreApart (e ∷ es) = (is_open e.0 es ≡ false) × AreApart es

not_behind : (k : Key) (front es : List Entry) → is_open k front ≡ true → AreBehind front es → is_open k es ≡ false
not_behind k front [] o h = refl
not_behind k front (e ∷ es) o h =
    bool_cases (same_key e.0 k)
    (λ t. let x : is_open e.0 front ≡ true = subst (λ (q : Key). is_open q front ≡ true) (sym (keys_are e.0 k t)) o in let y : true ≡ false = sym x ∙ h.0 in absurd cc)
    (λ f. or_rest (same_key e.0 k) (is_open k es) f ∙ not_behind k (front ++ e ∷ []) es (open-snoc k front e o) h.2)

apart_behind : (front es : List Entry) → AreBehind front es → AreApart es
apart_behind front [] h = tt
apart_behind front (e ∷ es) h =
    (not_behind e.0 (front ++ e ∷ []) es (open-last front e) h.2, apart_behind (front ++ e ∷ []) es h.2)

pub apart : (es : List Entry) → IsForest es → AreApart es
apart es h = apart_behind [] es h

-- ---- what is open once a key is closed

open_roots : (k q : Key) (es : List Entry) → is_open q (map (orphaned k) es) ≡ is_open q es
open_roots k q [] = refl
open_roots k q (e ∷ es) = ap (λ (b : Bool). same_key e.0 q || b) (open_roots k q es)

open_without : (k q : Key) (es : List Entry) → same_key k q ≡ false → is_open q (without k es) ≡ is_open q es
open_without k q [] n = refl
open_without k q (e ∷ es) n =
    bool_cases (same_key e.0 k)
    (λ t.
    let d : same_key e.0 q ≡ false = subst (λ (z : Key). same_key z q ≡ false) (sym (keys_are e.0 k t)) n in
    let w : without k (e ∷ es) ≡ es = ap (λ (b : Bool). cond b es (e ∷ without k es)) t in
    ap (is_open q) w ∙ sym (or_rest (same_key e.0 q) (is_open q es) d))
    (λ f.
    let w : without k (e ∷ es) ≡ e ∷ without k es = ap (λ (b : Bool). cond b es (e ∷ without k es)) f in
    ap (is_open q) w ∙ ap (λ (b : Bool). same_key e.0 q || b) (open_without k q es n))

pub open_closed : (k q : Key) (es : List Entry) → same_key k q ≡ false → is_open q (closed k es) ≡ is_open q es
open_closed k q es n = open_roots k q (without k es) ∙ open_without k q es n

shut_without : (k : Key) (es : List Entry) → AreApart es → is_open k (without k es) ≡ false
shut_without k [] h = refl
shut_without k (e ∷ es) h =
    bool_cases (same_key e.0 k)
    (λ t.
    let w : without k (e ∷ es) ≡ es = ap (λ (b : Bool). cond b es (e ∷ without k es)) t in
    ap (is_open k) w ∙ subst (λ (z : Key). is_open z es ≡ false) (keys_are e.0 k t) h.0)
    (λ f.
    let w : without k (e ∷ es) ≡ e ∷ without k es = ap (λ (b : Bool). cond b es (e ∷ without k es)) f in
    ap (is_open k) w ∙ or_rest (same_key e.0 k) _ f ∙ shut_without k es h.1)

pub shut_closed : (k : Key) (es : List Entry) → AreApart es → is_open k (closed k es) ≡ false
shut_closed k es h = open_roots k k (without k es) ∙ shut_without k es h
