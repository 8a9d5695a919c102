-- A context is put at its place.
use Rattle.std.proofs.Common.{◌≡◌, ℕ, Bool, true, false, nat_eq, nat_lt, List, [], ◌∷◌, Result, Ok, Err, refl, ap, ◌∙◌, sym, add-one}
use Rattle.osi_base.specs.declared.layer_words.SetItem.{SetItem}
use Rattle.association_ground.specs.end_rules.Sets.{put}
use Rattle.osi_base.specs.SetPlaces.{place_of, moved_by, put_at}

at_next : (new item : SetItem) (items : List SetItem) (r : Result ℕ ℕ) → put_at new (moved_by 1 r) (item ∷ items) ≡ item ∷ put_at new r items
at_next new item items (Ok place) = rw add-one refl
at_next new item items (Err place) = rw add-one refl

put_step : (new item : SetItem) (items : List SetItem) → put new.id new.pair items ≡ put_at new (place_of new.id items) items → (b : Bool) → nat_lt new.id item.id ≡ b → (d : Bool) → nat_eq new.id item.id ≡ d → put new.id new.pair (item ∷ items) ≡ put_at new (place_of new.id (item ∷ items)) (item ∷ items)
put_step new item items ih true e d f = rw e refl
put_step new item items ih false e true f = rw (e, f) refl
put_step new item items ih false e false f = rw (e, f) (ap (λ (xs : List SetItem). item ∷ xs) ih ∙ sym (at_next new item items (place_of new.id items)))

pub put-at : (new : SetItem) (items : List SetItem) → put new.id new.pair items ≡ put_at new (place_of new.id items) items
put-at new [] = refl
put-at new (item ∷ items) = put_step new item items (put-at new items) (nat_lt new.id item.id) refl (nat_eq new.id item.id) refl

pub put_as : (new : SetItem) (items : List SetItem) (r : Result ℕ ℕ) → r ≡ place_of new.id items → put_at new r items ≡ put new.id new.pair items
put_as new items r e = rw e (sym (put-at new items))
