-- The places of contexts in a set, and the set without one.
use Rattle.std.proofs.Common.{◌≡◌, ℕ, ◌+◌, ◌<◌, ◌≤◌, Bool, true, false, not, nat_eq, nat_lt, List, [], ◌∷◌, length, Result, Ok, Err, filter, refl, ap, arith, subst, add-one}
use Rattle.osi_base.specs.declared.layer_words.SetItem.{SetItem}
use Rattle.osi_base.specs.SetPlaces.{without_context, place_of, moved_by}

-- a place that is found lies in the set, one where a context would go at most at its end
abbrev pub IsWithin : ℕ → Result ℕ ℕ → Type 0
IsWithin len (Ok place) = place < len
IsWithin len (Err place) = place ≤ len

within_next : (len : ℕ) (r : Result ℕ ℕ) → IsWithin len r → IsWithin (len + 1) (moved_by 1 r)
within_next len (Ok place) h = omega arith
within_next len (Err place) h = omega arith

within_step : (id : ℕ) (item : SetItem) (items : List SetItem) → IsWithin (length items + 1) (moved_by 1 (place_of id items)) → (b : Bool) → nat_lt id item.id ≡ b → (d : Bool) → nat_eq id item.id ≡ d → IsWithin (length items + 1) (place_of id (item ∷ items))
within_step id item items ih true e d f = rw e (omega arith)
within_step id item items ih false e true f = rw (e, f) (omega arith)
within_step id item items ih false e false f = rw (e, f) ih

pub place_within : (id : ℕ) (items : List SetItem) → IsWithin (length items) (place_of id items)
place_within id [] = omega arith
place_within id (item ∷ items) =
    subst (λ n. IsWithin n (place_of id (item ∷ items))) (add-one (length items))
    (within_step id item items (within_next (length items) (place_of id items) (place_within id items)) (nat_lt id item.id) refl (nat_eq id item.id) refl)

-- what a search answers is a place of the set
pub found_within : (id : ℕ) (items : List SetItem) (r : Result ℕ ℕ) → r ≡ place_of id items → IsWithin (length items) r
found_within id items r e = rw e (place_within id items)

without_step : (id : ℕ) (item : SetItem) (items : List SetItem) → filter (λ (item : SetItem). not (nat_eq item.id id)) items ≡ without_context id items → (b : Bool) → nat_eq item.id id ≡ b → filter (λ (item : SetItem). not (nat_eq item.id id)) (item ∷ items) ≡ without_context id (item ∷ items)
without_step id item items ih true e = rw e ih
without_step id item items ih false e = rw e (ap (λ (xs : List SetItem). item ∷ xs) ih)

pub without-filter : (id : ℕ) (items : List SetItem) → filter (λ (item : SetItem). not (nat_eq item.id id)) items ≡ without_context id items
without-filter id [] = refl
without-filter id (item ∷ items) = without_step id item items (without-filter id items) (nat_eq item.id id) refl
