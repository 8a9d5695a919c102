-- What is kept of open keys, in order of opening: the number of the opening, the key, the number of the opening of the
-- key above it, and its place in the slab. The entries of a forest, and the links of its nodes, are functions of it.
use Rattle.std.specs.Prelude.{◌≡◌, ℕ, ◌<◌, Bool, false, List, [], ◌∷◌, map, Option, Some, None, nat_eq, if◌then◌else◌}
use Rattle.std.specs.Ordering.{nat_cmp}
use Rattle.std.specs.Option.{option_map}
use Rattle.std.specs.List.{list_any}
use Rattle.std.specs.BTreeMap.{is_at}
use Rattle.linked_ops.specs.declared.key.Key.{Key}
use Rattle.linked_ops.specs.declared.node.Opening.{Opening}
use Rattle.linked_ops.specs.declared.node.Node.{Node}
use Rattle.linked_ops.specs.Keys.{same_key}
use Rattle.linked_ops.specs.Entries.{Entry}

abbrev pub Row : Type 0
Row = ℕ × Opening

abbrev pub same_number : ℕ → ℕ → Bool
same_number a b = is_at (nat_cmp a) b

abbrev pub is_number : ℕ → Option ℕ → Bool
is_number n None = false
is_number n (Some m) = same_number n m

-- ---- tests of rows, and the first row that passes

abbrev pub has_key : Key → Row → Bool
has_key key row = same_key row.1.key key

abbrev pub has_number : ℕ → Row → Bool
has_number n row = same_number n row.0

abbrev pub has_place : ℕ → Row → Bool
has_place place row = nat_eq row.1.place place

abbrev pub is_child : ℕ → Row → Bool
is_child n row = is_number n row.1.parent

abbrev pub found : (Row → Bool) → List Row → Option Row
found test [] = None
found test (r ∷ rs) = if test r then Some r else found test rs

abbrev pub first_gone : (Row → Bool) → List Row → List Row
first_gone test [] = []
first_gone test (r ∷ rs) = if test r then rs else r ∷ first_gone test rs

-- the number of the opening of a key
abbrev pub number_of : Key → List Row → Option ℕ
number_of key rows = option_map (λ (r : Row). r.0) (found (has_key key) rows)

-- the key with the number, where it is still open
abbrev pub key_with : Option ℕ → List Row → Option Key
key_with None rows = None
key_with (Some n) rows = option_map (λ (r : Row). r.1.key) (found (has_number n) rows)

-- the place of the key with the number, where it is still open
abbrev pub place_with : Option ℕ → List Row → Option ℕ
place_with None rows = None
place_with (Some n) rows = option_map (λ (r : Row). r.1.place) (found (has_number n) rows)

-- what was kept of the opening with the number
abbrev pub opening_with : ℕ → List Row → Option Opening
opening_with n rows = option_map (λ (r : Row). r.1) (found (has_number n) rows)

-- the key above the one with the number
abbrev pub above_in : List Row → Option Opening → Option Key
above_in rows None = None
above_in rows (Some o) = key_with o.parent rows

-- the place of the key above the one with the number
abbrev pub above_place : List Row → Option Opening → Option ℕ
above_place rows None = None
above_place rows (Some o) = place_with o.parent rows

-- ---- the entries

abbrev pub entries_among : List Row → List Row → List Entry
entries_among all rows = map (λ (r : Row). (r.1.key, key_with r.1.parent all)) rows

abbrev pub entries : List Row → List Entry
entries rows = entries_among rows rows

-- ---- the links

-- the places of the rows under the number, in order of opening
abbrev pub places_under : ℕ → List Row → List ℕ
places_under n [] = []
places_under n (r ∷ rs) = if is_child n r then r.1.place ∷ places_under n rs else places_under n rs

-- the places of the rows that are under the same number
abbrev pub siblings : Option ℕ → List Row → List ℕ
siblings None rows = []
siblings (Some n) rows = places_under n rows

abbrev pub first_listed : List ℕ → Option ℕ
first_listed [] = None
first_listed (p ∷ ps) = Some p

abbrev pub last_from : ℕ → List ℕ → ℕ
last_from p [] = p
last_from p (q ∷ qs) = last_from q qs

abbrev pub last_of : List ℕ → Option ℕ
last_of [] = None
last_of (p ∷ ps) = Some (last_from p ps)

-- the place behind a place, and the one in front of it
abbrev pub behind : ℕ → List ℕ → Option ℕ
behind place [] = None
behind place (p ∷ ps) = if nat_eq p place then first_listed ps else behind place ps

abbrev pub before_from : ℕ → ℕ → List ℕ → Option ℕ
before_from q place [] = None
before_from q place (p ∷ ps) = if nat_eq p place then Some q else before_from p place ps

abbrev pub before : ℕ → List ℕ → Option ℕ
before place [] = None
before place (p ∷ ps) = before_from p place ps

-- the node of a row
abbrev pub node_of : List Row → Row → Node
node_of rows r = record {
  key = r.1.key;
  previous = before r.1.place (siblings r.1.parent rows);
  next = behind r.1.place (siblings r.1.parent rows);
  first_child = first_listed (places_under r.0 rows);
  last_child = last_of (places_under r.0 rows);
}

-- the node at a place
abbrev pub node_at : ℕ → List Row → Option Node
node_at place rows = option_map (node_of rows) (found (has_place place) rows)

-- ---- rows that differ

abbrev pub AreApart : (Row → Row → Bool) → List Row → Type 0
AreApart same [] = Unit {0}
AreApart same (r ∷ rs) = (list_any (same r) rs ≡ false) × AreApart same rs

abbrev pub same_place : Row → Row → Bool
same_place r s = nat_eq s.1.place r.1.place

abbrev pub with_one_number : Row → Row → Bool
with_one_number r s = same_number r.0 s.0

abbrev pub with_one_key : Row → Row → Bool
with_one_key r s = same_key s.1.key r.1.key

-- all numbers are below this one, and that of a parent is below its child's
abbrev pub IsBelow : ℕ → Option ℕ → Type 0
IsBelow n None = Unit {0}
IsBelow n (Some m) = m < n

abbrev pub AreBelow : ℕ → List Row → Type 0
AreBelow n [] = Unit {0}
AreBelow n (r ∷ rs) = (r.0 < n) × IsBelow r.0 r.1.parent × AreBelow n rs

pub record AreRows (made : ℕ) (rows : List Row) : Type 0 where
  pub places : AreApart same_place rows
  pub numbers : AreApart with_one_number rows
  pub keys : AreApart with_one_key rows
  pub below : AreBelow made rows
