-- Items of an ENUMERATED that are read back.
use Rattle.std.proofs.Common.{◌≡◌, ℤ, pos, negsuc, Bool, true, false, List, [], ◌∷◌, Some, refl, ap, arith}
use Rattle.std.specs.Prelude.{◌||◌}
use Rattle.std.specs.List.{list_all, list_any}
use Rattle.std.proofs.lemmas.Bool.Decides.{nat_tests}
use Rattle.asn1_types.specs.declared.row.Item.{Item}
use Rattle.asn1_types.specs.Defaults.{same_number, is_item}
use Rattle.asn1_types.specs.Table.{same_name, items_agree, agrees_later}
use Rattle.asn1_types.specs.Value.{integer}
use Rattle.value_text.specs.Printed.{item_name}
use Rattle.value_reading.specs.Typed.{item_named}
use Rattle.text_laws.specs.Laws.{is_name}
use Rattle.text_laws.proofs.Tests.{both_true, both_false}
use Rattle.text_laws.proofs.Starts.{other_bytes, own_bytes}

number_is : (a b : ℤ) → same_number a b ≡ true → a ≡ b
number_is (pos a) (pos b) h = let same : a ≡ b = grind (arith, nat_tests) in ap (λ n. pos n) same
number_is (pos a) (negsuc b) h = absurd (let no : ⊥ = cc in no)
number_is (negsuc a) (pos b) h = absurd (let no : ⊥ = cc in no)
number_is (negsuc a) (negsuc b) h = let same : a ≡ b = grind (arith, nat_tests) in ap (λ n. negsuc n) same

-- one of two holds, and not the first
second : (a b : Bool) → (a || b) ≡ true → a ≡ false → b ≡ true
second true b h e = absurd (let no : ⊥ = cc in no)
second false b h e = h

-- the name of an item among these differs from that of one with which none agrees
name_differs : (i : Item) (is : List Item) (z : ℤ) → list_any (items_agree i) is ≡ false → is_item is z ≡ true → same_name i.name (item_name is z) ≡ false
name_differs i [] z h k = absurd (let no : ⊥ = cc in no)
name_differs i (j ∷ is) z h k = step (same_number j.number z) refl (both_false (items_agree i j) (list_any (items_agree i) is) h) (name_differs i is z)
  where
    step : (b : Bool) → same_number j.number z ≡ b → (items_agree i j ≡ false) × (list_any (items_agree i) is ≡ false)
        → (list_any (items_agree i) is ≡ false → is_item is z ≡ true → same_name i.name (item_name is z) ≡ false) → same_name i.name (item_name (j ∷ is) z) ≡ false
    step true e both more = rw e (both_false (same_name i.name j.name) (same_number i.number j.number) both.0).0
    step false e both more = rw e (more both.1 (second (same_number j.number z) (is_item is z) k e))

pub item_back : (is : List Item) (z : ℤ) → agrees_later items_agree is ≡ false → is_item is z ≡ true → item_named is (item_name is z) ≡ Some (integer z)
item_back [] z h k = absurd (let no : ⊥ = cc in no)
item_back (i ∷ is) z h k = step (same_number i.number z) refl (both_false (list_any (items_agree i) is) (agrees_later items_agree is) h) (item_back is z)
  where
    step : (b : Bool) → same_number i.number z ≡ b → (list_any (items_agree i) is ≡ false) × (agrees_later items_agree is ≡ false)
        → (agrees_later items_agree is ≡ false → is_item is z ≡ true → item_named is (item_name is z) ≡ Some (integer z))
        → item_named (i ∷ is) (item_name (i ∷ is) z) ≡ Some (integer z)
    step true e both more = rw (e, own_bytes i.name) (ap (λ n. Some (integer n)) (number_is i.number z e))
    step false e both more =
        let k2 = second (same_number i.number z) (is_item is z) k e in
        rw (e, other_bytes i.name (item_name is z) (name_differs i is z both.0 k2)) (more both.1 k2)

pub name_is_word : (is : List Item) (z : ℤ) → list_all (λ (i : Item). is_name i.name) is ≡ true → is_item is z ≡ true → is_name (item_name is z) ≡ true
name_is_word [] z h k = absurd (let no : ⊥ = cc in no)
name_is_word (i ∷ is) z h k = step (same_number i.number z) refl (both_true (is_name i.name) (list_all (λ (i : Item). is_name i.name) is) h) (name_is_word is z)
  where
    step : (b : Bool) → same_number i.number z ≡ b → (is_name i.name ≡ true) × (list_all (λ (i : Item). is_name i.name) is ≡ true)
        → (list_all (λ (i : Item). is_name i.name) is ≡ true → is_item is z ≡ true → is_name (item_name is z) ≡ true) → is_name (item_name (i ∷ is) z) ≡ true
    step true e both more = rw e both.0
    step false e both more = rw e (more both.1 (second (same_number i.number z) (is_item is z) k e))
