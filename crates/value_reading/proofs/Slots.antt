-- Items and parts that are looked for one after the other, and slots.
use Rattle.std.proofs.Common.{◌≡◌, ℕ, suc, ◌+◌, ◌<◌, ◌≤◌, true, false, List, ◌∷◌, length, drop, get_or, None, Some, refl, arith, drop-cons, add-one}
use Rattle.std.specs.Str.{bytes_eq}
use Rattle.std.proofs.Math.ListN.{drop_of_length-le}
use Rattle.asn1_types.specs.declared.row.Item.{Item}
use Rattle.asn1_types.specs.declared.row.Part.{Part}
use Rattle.asn1_types.specs.Value.{integer}
use Rattle.value_reading.specs.Typed.{item_named, place_from}

dropped : {X : Type 0} (xs : List X) (i : ℕ) (d : X) → i < length xs → drop i xs ≡ get_or xs i d ∷ drop (i + 1) xs
dropped xs i d h = rw (add-one, drop-cons xs i d) refl

pub item_here : (items : List Item) (i : ℕ) (d : Item) (name : List ℕ) → i < length items → bytes_eq (get_or items i d).name name ≡ true
    → item_named (drop i items) name ≡ Some (integer (get_or items i d).number)
item_here items i d name h e = rw (dropped items i d h, e) refl

pub item_past : (items : List Item) (i : ℕ) (d : Item) (name : List ℕ) → i < length items → bytes_eq (get_or items i d).name name ≡ false
    → item_named (drop i items) name ≡ item_named (drop (i + 1) items) name
item_past items i d name h e = rw (dropped items i d h, e) refl

pub no_item : (items : List Item) (i : ℕ) (name : List ℕ) → length items ≤ i → item_named (drop i items) name ≡ None
no_item items i name h = rw (drop_of_length-le items h) refl

pub place_here : (parts : List Part) (i : ℕ) (d : Part) (name : List ℕ) → i < length parts → bytes_eq (get_or parts i d).name name ≡ true
    → place_from i (drop i parts) name ≡ Some i
place_here parts i d name h e = rw (dropped parts i d h, e) refl

pub place_past : (parts : List Part) (i : ℕ) (d : Part) (name : List ℕ) → i < length parts → bytes_eq (get_or parts i d).name name ≡ false
    → place_from i (drop i parts) name ≡ place_from (i + 1) (drop (i + 1) parts) name
place_past parts i d name h e = let one : i + 1 ≡ suc i = omega arith in rw (dropped parts i d h, e, one) refl

pub no_place : (parts : List Part) (i : ℕ) (name : List ℕ) → length parts ≤ i → place_from i (drop i parts) name ≡ None
no_place parts i name h = rw (drop_of_length-le parts h) refl
