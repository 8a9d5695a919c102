-- Two rising sets gone through side by side.
use Rattle.std.proofs.Common.{◌≡◌, ℕ, zero, suc, ◌+◌, ◌<◌, ◌≤◌, Bool, true, false, not, ◌&&◌, nat_eq, nat_lt, if◌then◌else◌, [], ◌∷◌, ◌++◌, drop, length, Option, Some, refl, sym, ap, ◌∙◌, subst, arith, append_assoc, slice_index_or}
use Rattle.std.proofs.lemmas.Bool.Decides.{nat_tests}
use Rattle.osi_base.specs.declared.syntax.Pair.{Pair}
use Rattle.osi_base.specs.declared.layer_words.SetItem.{SetItem}
use Rattle.context_sets.specs.Sets.{ContextSet, IsRising, AllAbove}
use Rattle.osi_base.specs.SetPlaces.{pair_of}
use Rattle.context_sets.proofs.Order.{pair_of-above, pair_of-later}
use Rattle.context_restore.specs.Versions.{same_pair, is_pair, has, missing}
use Rattle.context_restore.specs.Chain.{from_id, begins_with}

-- what lies at or above an identifier is looked up behind what lies below it
pair_of-from_id : (id k : ℕ) (set : ContextSet) → id ≤ k → pair_of (from_id id set) k ≡ pair_of set k
pair_of-from_id id k [] h = refl
pair_of-from_id id k (item ∷ items) h = go (pair_of-from_id id k items h) (nat_lt item.id id) refl
  where
    go : pair_of (from_id id items) k ≡ pair_of items k → (b : Bool) → nat_lt item.id id ≡ b → pair_of (if b then from_id id items else item ∷ items) k ≡ pair_of (item ∷ items) k
    go ih true e =
        let apart : item.id ≡ k → ⊥ = λ same. grind (arith, nat_tests) in
        ih ∙ sym (pair_of-later k item items apart)
    go ih false e = refl

-- none of these contexts lies below an identifier
abbrev AllFrom : ℕ → ContextSet → Type 0
AllFrom id [] = Unit {0}
AllFrom id (item ∷ items) = (id ≤ item.id) × AllFrom id items

from_above : (id : ℕ) (set : ContextSet) → AllAbove id set → AllFrom id set
from_above id [] a = tt
from_above id (item ∷ items) a = let h = a.0 in (omega (arith, h), from_above id items a.1)

missing-from : (id : ℕ) (other set : ContextSet) → AllFrom id set → missing other set ≡ missing (from_id id other) set
missing-from id other [] a = refl
missing-from id other (item ∷ items) a =
    let same : has other item ≡ has (from_id id other) item = ap (λ (o : Option Pair). is_pair o item.pair) (sym (pair_of-from_id id item.id other a.0)) in
    ap (λ (b : Bool). if not b then item ∷ missing other items else missing other items) same
    ∙ ap (λ (more : ContextSet). if not (has (from_id id other) item) then item ∷ more else more) (missing-from id other items a.1)

-- what a rising set has from an identifier on begins with that identifier, if it is there
rising-from_id : (id : ℕ) (set : ContextSet) → IsRising set → IsRising (from_id id set)
rising-from_id id [] r = tt
rising-from_id id (item ∷ items) r = go (rising-from_id id items r.1) (nat_lt item.id id)
  where
    go : IsRising (from_id id items) → (b : Bool) → IsRising (if b then from_id id items else item ∷ items)
    go ih true = ih
    go ih false = r

from_weaker : (id k : ℕ) (set : ContextSet) → id ≤ k → AllAbove k set → AllFrom id set
from_weaker id k [] h a = tt
from_weaker id k (item ∷ items) h a = let above = a.0 in (omega (arith, h, above), from_weaker id k items h a.1)

all-from_id : (id : ℕ) (set : ContextSet) → IsRising set → AllFrom id (from_id id set)
all-from_id id [] r = tt
all-from_id id (item ∷ items) r = go (all-from_id id items r.1) (nat_lt item.id id) refl
  where
    go : AllFrom id (from_id id items) → (b : Bool) → nat_lt item.id id ≡ b → AllFrom id (if b then from_id id items else item ∷ items)
    go ih true e = ih
    go ih false e =
        let h : id ≤ item.id = grind (arith, nat_tests) in
        (h, from_weaker id item.id items h r.0)

has-first : (set : ContextSet) (item : SetItem) → IsRising set → AllFrom item.id set → has set item ≡ begins_with set item
has-first [] item r a = refl
has-first (first ∷ items) item r a = go (nat_eq first.id item.id) refl
  where
    go : (b : Bool) → nat_eq first.id item.id ≡ b → is_pair (if b then Some first.pair else pair_of items item.id) item.pair ≡ (b && same_pair first.pair item.pair)
    go true e = refl
    go false e = ap (λ (o : Option Pair). is_pair o item.pair) (pair_of-above item.id first.id items a.0 r.0)

-- one step of going through both
pub merge_step : (other items : ContextSet) (item : SetItem) → IsRising other → IsRising (item ∷ items)
    → missing other (item ∷ items)
    ≡ (if not (begins_with (from_id item.id other) item) then item ∷ missing (from_id item.id other) items else missing (from_id item.id other) items)
merge_step other items item r q =
    missing-from item.id other (item ∷ items) (omega arith, from_above item.id items q.0)
    ∙ ap (λ (b : Bool). if not b then item ∷ missing (from_id item.id other) items else missing (from_id item.id other) items)
    (has-first (from_id item.id other) item (rising-from_id item.id other r) (all-from_id item.id other r))

pub rising-drop : (count : ℕ) (set : ContextSet) → IsRising set → IsRising (drop count set)
rising-drop zero set r = r
rising-drop (suc count) [] r = tt
rising-drop (suc count) (item ∷ items) r = rising-drop count items r.1

-- a context that is below the identifier is passed over
pub passes_over : (id : ℕ) (items : ContextSet) (item : SetItem) → item.id < id → from_id id (item ∷ items) ≡ from_id id items
passes_over id items item h = go (nat_lt item.id id) refl
  where
    go : (b : Bool) → nat_lt item.id id ≡ b → (if b then from_id id items else item ∷ items) ≡ from_id id items
    go true e = refl
    go false e = absurd (grind (arith, nat_tests))

pub stays_at : (id : ℕ) (items : ContextSet) (item : SetItem) → id ≤ item.id → from_id id (item ∷ items) ≡ item ∷ items
stays_at id items item h = go (nat_lt item.id id) refl
  where
    go : (b : Bool) → nat_lt item.id id ≡ b → (if b then from_id id items else item ∷ items) ≡ item ∷ items
    go true e = absurd (grind (arith, nat_tests))
    go false e = refl

-- the contexts from a place on begin with the one that stands there
front : (set : ContextSet) (at : ℕ) (item : SetItem) → at < length set → item ≡ slice_index_or set at item → drop at set ≡ item ∷ drop (suc at) set
front [] at item h is = absurd (omega (arith, h))
front (first ∷ more) zero item h is = ap (λ (x : SetItem). x ∷ more) (sym is)
front (first ∷ more) (suc at) item h is = front more at item (omega (arith, h)) is

put_in : (b : Bool) (item : SetItem) (more : ContextSet) → (if not b then item ∷ more else more) ≡ (if b then [] else item ∷ []) ++ more
put_in true item more = refl
put_in false item more = refl

-- one context more was gone through
pub merged : (other set rest list list' all : ContextSet) (place at : ℕ) (item : SetItem) (b : Bool) → IsRising other → IsRising set
    → at < length set → item ≡ slice_index_or set at item → rest ≡ from_id item.id (drop place other) → b ≡ begins_with rest item
    → list' ≡ list ++ (if b then [] else item ∷ []) → list ++ missing (drop place other) (drop at set) ≡ all
    → list' ++ missing rest (drop (at + 1) set) ≡ all
merged other set rest list list' all place at item b r q h is from there put so =
    let next : suc at ≡ at + 1 = omega arith in
    let here : drop at set ≡ item ∷ drop (at + 1) set = front set at item h is ∙ ap (λ n. item ∷ drop n set) next in
    let more : ContextSet = drop (at + 1) set in
    let step : missing (drop place other) (drop at set) ≡ (if b then [] else item ∷ []) ++ missing rest more =
    ap (missing (drop place other)) here
    ∙ merge_step (drop place other) more item (rising-drop place other r) (subst IsRising here (rising-drop at set q))
    ∙ ap (λ (x : ContextSet). if not (begins_with x item) then item ∷ missing x more else missing x more) (sym from)
    ∙ ap (λ (c : Bool). if not c then item ∷ missing rest more else missing rest more) (sym there)
    ∙ put_in b item (missing rest more)
    in
    ap (λ (x : ContextSet). x ++ missing rest more) put
    ∙ append_assoc list (if b then [] else item ∷ []) (missing rest more)
    ∙ ap (λ (x : ContextSet). list ++ x) (sym step)
    ∙ so
