-- The parts of rows. What has the right fields and breaks another rule (a name, a number) makes its row unsound: it is read to its end, and
-- is nothing.
use Rattle.std.specs.Prelude.{ℕ, ℤ, pos, negsuc, Bool, List, [], ◌∷◌, ◌++◌, Ok, Option, Some, None, option_map, nat_lt, if◌then◌else◌, nat_le}
use Rattle.osi_base.specs.Limits.{most_32}
use Rattle.asn1_types.specs.declared.row.Item.{Item}
use Rattle.asn1_types.specs.declared.row.Part.{Part}
use Rattle.asn1_types.specs.declared.row.TypeId.{TypeId}
use Rattle.notation_tokens.specs.Words.{is_name_of_value}
use Rattle.table_file.specs.declared.row_parts.Version.{Version}
use Rattle.table_file.specs.declared.row_parts.Version.TheVariants as versions
use Rattle.packed_codec.specs.Reading.{Spot}
use Rattle.table_file.specs.Reading.{Reading, ◌>>=◌}
use Rattle.table_file.specs.Fields.{many_at, truth_at, text_at, integer_at}

-- a number of 32 bits
abbrev pub number_32 : ℤ → Option ℕ
number_32 (pos n) = if nat_le n most_32 then Some n else None
number_32 (negsuc n) = None

-- a name that begins with a lower-case letter
unfoldable pub name_at : Spot → Reading (Option (List ℕ) × Spot)
name_at s = do
  t ← text_at s
  Ok (if is_name_of_value t.0 then Some t.0 else None, t.1)

abbrev pub id_of : ℤ → Option TypeId
id_of z = option_map (λ n. record { 0 = n }) (number_32 z)

-- the number of a row
unfoldable pub row_number_at : Spot → Reading (Option TypeId × Spot)
row_number_at s = do
  z ← integer_at s
  Ok (id_of z.0, z.1)

-- ---- lists

-- one more behind those so far, if all are sound
abbrev pub joined : {A : Type 0} → Option (List A) → Option A → Option (List A)
joined None one = None
joined (Some all) None = None
joined (Some all) (Some one) = Some (all ++ one ∷ [])

-- one item more
unfoldable pub joins : {A : Type 0} → (Spot → Reading (Option A × Spot)) → Option (List A) → Spot → Reading (Option (List A) × Spot)
joins item all s = do
  x ← item s
  Ok (joined all x.0, x.1)

-- how many items, and the items
abbrev pub list_at : {A : Type 0} → (Spot → Reading (Option A × Spot)) → Spot → Reading (Option (List A) × Spot)
list_at item = many_at (λ n. joins item) (Some [])

-- ---- items and parts of types

abbrev pub item_of : Option (List ℕ) → ℤ → Option Item
item_of name z = option_map (λ n. record { name = n; number = z }) name

unfoldable pub item_at : Spot → Reading (Option Item × Spot)
item_at s = do
  n ← name_at s
  z ← integer_at n.1
  Ok (item_of n.0 z.0, z.1)

abbrev pub default_if : Bool × Spot → Reading (Option ℤ × Spot)
default_if there = if there.0 then (integer_at there.1 >>= λ z. Ok (Some z.0, z.1)) else Ok (None, there.1)

-- the default of a part, which only version 2 has
unfoldable pub default_at : Version → Spot → Reading (Option ℤ × Spot)
default_at versions.One s = Ok (None, s)
default_at versions.Two s = truth_at s >>= default_if

abbrev pub part_of : Option (List ℕ) → Option TypeId → Bool → Option ℤ → Option Part
part_of None inner optional default = None
part_of (Some name) None optional default = None
part_of (Some name) (Some inner) optional default = Some (record { name = name; inner = inner; optional = optional; default = default })

-- a part of a SEQUENCE or SET, or an alternative of a CHOICE
unfoldable pub part_at : Version → Spot → Reading (Option Part × Spot)
part_at version s = do
  n ← name_at s
  i ← row_number_at n.1
  o ← truth_at i.1
  d ← default_at version o.1
  Ok (part_of n.0 i.0 o.0 d.0, d.1)

-- ---- places in another table, of so many rows

abbrev pub index_of : ℕ → Option ℕ → Option ℕ
index_of most None = None
index_of most (Some n) = if nat_lt n most then Some n else None

unfoldable pub index_at : ℕ → Spot → Reading (Option ℕ × Spot)
index_at most s = do
  z ← integer_at s
  Ok (index_of most (number_32 z.0), z.1)
