-- What a forest keeps.
use Rattle.std.specs.Prelude.{◌≡◌, ℕ, List, Option, Some, None, Result, Ok, Err, if◌then◌else◌}
use Rattle.std.specs.Ordering.{nat_cmp}
use Rattle.std.specs.BTreeMap.{insert_entry}
use Rattle.slab.specs.Slab.{Slab, get}
use Rattle.linked_ops.specs.declared.key.Key.{Key}
use Rattle.linked_ops.specs.declared.node.Node.{Node}
use Rattle.linked_ops.specs.declared.numbers.Numbers.{Numbers}
use Rattle.linked_ops.specs.Keys.{same_key}
use Rattle.linked_ops.specs.Entries.{IsForest}
use Rattle.linked_ops.specs.Rows.{Row, AreRows, entries, node_at, number_of, place_with, found, has_number, first_gone}
use Rattle.linked_ops.specs.Numbers.{number_in}
use Rattle.linked_ops.specs.Links.{linked_in, unlinked_in}

-- the nodes and the numbers are those of the rows
pub record IsKept (rows : List Row) (nodes : Slab Node) (numbers : Numbers) (made : ℕ) : Type 0 where
  pub sound : AreRows made rows
  pub forest : IsForest (entries rows)
  pub linked : (p : ℕ) → get nodes p ≡ node_at p rows
  pub numbered : (k : Key) → number_in k numbers ≡ number_of k rows

-- the number is that of the key above, where there is to be one
abbrev pub IsUnder : Numbers → Option Key → Option ℕ → Type 0
IsUnder numbers None None = Unit {0}
IsUnder numbers None (Some n) = ⊥
IsUnder numbers (Some k) None = ⊥
IsUnder numbers (Some k) (Some n) = number_in k numbers ≡ Some n

-- the number of the key above, or that key where it isn't open
abbrev pub IsAbove : Numbers → Option Key → Result (Option ℕ) Key → Type 0
IsAbove numbers above (Ok u) = IsUnder numbers above u
IsAbove numbers above (Err k) = (above ≡ Some k) × (number_in k numbers ≡ None)

-- nothing that is kept has changed
pub record IsSame (rows new_rows : List Row) (nodes new_nodes : Slab Node) (numbers new_numbers : Numbers) : Type 0 where
  pub opened : new_rows ≡ rows
  pub linked : (p : ℕ) → get new_nodes p ≡ get nodes p
  pub numbered : (k : Key) → number_in k new_numbers ≡ number_in k numbers

-- a key was entered under the one with a number, or as a root
pub record IsEntered (made : ℕ) (key : Key) (parent : Option ℕ) (rows new_rows : List Row) (nodes new_nodes : Slab Node) (numbers new_numbers : Numbers) : Type 0 where
  pub place : ℕ
  pub vacant : get nodes place ≡ None
  pub opened : new_rows ≡ insert_entry nat_cmp rows made (record { key = key; parent = parent; place = place })
  pub linked : (p : ℕ) → get new_nodes p ≡ linked_in (get nodes) place key (place_with parent rows) p
  pub numbered : (k : Key) → number_in k new_numbers ≡ (if same_key key k then Some made else number_in k numbers)

-- the opening with a number was taken out
abbrev pub AreGone : ℕ → List Row → List Row → Slab Node → Slab Node → Type 0
AreGone n rows new_rows nodes new_nodes =
    (new_rows ≡ first_gone (has_number n) rows)
    × ((r : Row) → found (has_number n) rows ≡ Some r → (p : ℕ) → get new_nodes p ≡ unlinked_in (get nodes) r.1.place (place_with r.1.parent rows) p)
