-- Sound tables: which rows may be added to a table, and what is wrong with those that may not.
use Rattle.std.specs.Prelude.{◌≡◌, ℕ, ◌^◌, ◌<◌, Bool, true, false, ◌||◌, ◌&&◌, List, [], ◌∷◌, length, take, Option, Some, None, slice_get, nat_eq, nat_lt, int_lt, if◌then◌else◌}
use Rattle.std.specs.List.{list_any}
use Rattle.osi_base.specs.Limits.{most_levels, most_alternatives}
use Rattle.asn1_types.specs.declared.row.Part.{Part}
use Rattle.asn1_types.specs.declared.row.Item.{Item}
use Rattle.asn1_types.specs.declared.row.TypeRow.{TypeRow}
use Rattle.asn1_types.specs.declared.row.TypeRow.TheVariants.{Integer, Enumerated, Sequence, Set, Choice, Tagged}
use Rattle.asn1_types.specs.declared.refusal.RowRefusal.{RowRefusal}
use Rattle.asn1_types.specs.declared.refusal.RowRefusal.TheVariants.{NoSuchRow, BadRange, DoubleName, TooNested, TagsNotDistinct, BadDefault, NoMemory}
use Rattle.asn1_types.specs.Rows.{Opening, names_of, nesting, nesting_by, openings, meets, is_no_tag}
use Rattle.asn1_types.specs.Defaults.{same_number, may_be_absent, takes_default, has_bad_default}

-- the first row that is named and isn't there
abbrev pub first_from : ℕ → List ℕ → Option ℕ
first_from count [] = None
first_from count (n ∷ ns) = if nat_lt n count then first_from count ns else Some n

-- low is above high, a CHOICE or ENUMERATED has no item, a CHOICE more than 256, or a tag is UNIVERSAL 0
abbrev pub is_bad_range : TypeRow → Bool
is_bad_range (Integer low high) = int_lt high low
is_bad_range (Enumerated items) = nat_eq (length items) 0
is_bad_range (Choice parts) = nat_eq (length parts) 0 || nat_lt most_alternatives (length parts)
is_bad_range (Tagged class number explicit inner) = is_no_tag class number
is_bad_range row = false

abbrev pub same_name : List ℕ → List ℕ → Bool
same_name [] [] = true
same_name (x ∷ xs) (y ∷ ys) = nat_eq x y && same_name xs ys
same_name xs ys = false

abbrev pub items_agree : Item → Item → Bool
items_agree a b = same_name a.name b.name || same_number a.number b.number

abbrev pub parts_agree : Part → Part → Bool
parts_agree a b = same_name a.name b.name

-- some element agrees with a later one
abbrev pub agrees_later : {X : Type 0} → (X → X → Bool) → List X → Bool
agrees_later agree [] = false
agrees_later agree (x ∷ xs) = list_any (agree x) xs || agrees_later agree xs

-- two parts or items have one name, or two items one number
abbrev pub is_double_name : TypeRow → Bool
is_double_name (Enumerated items) = agrees_later items_agree items
is_double_name (Sequence parts) = agrees_later parts_agree parts
is_double_name (Set parts) = agrees_later parts_agree parts
is_double_name (Choice parts) = agrees_later parts_agree parts
is_double_name row = false

-- some tag opens values of both
abbrev pub clash : (ℕ → List Opening) → Part → Part → Bool
clash openings a b = list_any (λ o. list_any (meets o) (openings b.inner.0)) (openings a.inner.0)

-- A part clashes with one of the run of parts behind it that may be absent, or with the part after that run.
abbrev pub clashes_in_run : (Part → Part → Bool) → Part → List Part → Bool
clashes_in_run clash p [] = false
clashes_in_run clash p (q ∷ qs) = clash p q || (may_be_absent q && clashes_in_run clash p qs)

-- In a SEQUENCE each run of parts that may be absent is told apart, together with the part after it (X.680 25.6).
abbrev pub clashes_in_sequence : (Part → Part → Bool) → List Part → Bool
clashes_in_sequence clash [] = false
clashes_in_sequence clash (p ∷ ps) = (may_be_absent p && clashes_in_run clash p ps) || clashes_in_sequence clash ps

-- The alternatives of a CHOICE and the parts of a SET are told apart by their tags (X.680 27.3, 29.3).
abbrev pub has_clash : (ℕ → List Opening) → TypeRow → Bool
has_clash openings (Sequence parts) = clashes_in_sequence (clash openings) parts
has_clash openings (Set parts) = agrees_later (clash openings) parts
has_clash openings (Choice parts) = agrees_later (clash openings) parts
has_clash openings row = false

-- why a row isn't added behind these rows
abbrev pub refusal_after : Option ℕ → List TypeRow → TypeRow → Option RowRefusal
refusal_after (Some n) rows row = Some (NoSuchRow n)
refusal_after None rows row =
    if is_bad_range row then Some BadRange
    else (if is_double_name row then Some DoubleName
    else (if nat_lt most_levels (nesting_by (nesting rows) row) then Some TooNested
    else (if has_clash (openings rows) row then Some TagsNotDistinct
    else (if has_bad_default (takes_default rows) row then Some BadDefault else None))))

unfoldable pub refusal : List TypeRow → TypeRow → Option RowRefusal
refusal rows row = refusal_after (first_from (length rows) (names_of row)) rows row

-- the number of a tag has 32 bits, as in its Rust type
abbrev pub HasShortTag : TypeRow → Type 0
HasShortTag (Tagged class number explicit inner) = number < 2 ^ 32
HasShortTag row = Unit {0}

-- Each row could be added behind those before it.
pub record AreSoundRows (rows : List TypeRow) : Type 0 where
  pub each : (n : ℕ) (row : TypeRow) → slice_get rows n ≡ Some row → refusal (take n rows) row ≡ None
  pub short : (n : ℕ) (row : TypeRow) → slice_get rows n ≡ Some row → HasShortTag row

-- the row of this number in a table whose rows are all sound
pub record IsRowOf (rows : List TypeRow) (of : ℕ) (row : TypeRow) : Type 0 where
  pub found : slice_get rows of ≡ Some row
  pub sound : AreSoundRows rows

-- a refusal is the first that holds; want of memory may come always
abbrev pub IsRefused : Option RowRefusal → RowRefusal → Type 0
IsRefused first NoMemory = Unit {0}
IsRefused first (NoSuchRow n) = first ≡ Some (NoSuchRow n)
IsRefused first BadRange = first ≡ Some BadRange
IsRefused first DoubleName = first ≡ Some DoubleName
IsRefused first TooNested = first ≡ Some TooNested
IsRefused first TagsNotDistinct = first ≡ Some TagsNotDistinct
IsRefused first BadDefault = first ≡ Some BadDefault
