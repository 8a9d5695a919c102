-- Rows of types: what they name, how deep they nest, and the tags that their values begin with.
use Rattle.std.specs.Prelude.{ℕ, zero, suc, ◌+◌, max, Bool, true, not, ◌&&◌, List, [], ◌∷◌, map, length, Option, Some, None, slice_get, nat_eq}
use Rattle.std.specs.List.{flat_map, list_any}
use Rattle.asn1_types.specs.declared.row.Part.{Part}
use Rattle.asn1_types.specs.declared.row.Class.{Class}
use Rattle.asn1_types.specs.declared.row.Class.TheVariants.{Universal, Application, Context, Private}
use Rattle.asn1_types.specs.declared.row.TextKind.{TextKind}
use Rattle.asn1_types.specs.declared.row.TextKind.TheVariants.{Utf8, Ia5, Visible, Printable, Numeric}
use Rattle.asn1_types.specs.declared.row.TypeRow.{TypeRow}
use Rattle.asn1_types.specs.declared.row.TypeRow.TheVariants.{Boolean, Integer, Enumerated, Null, OctetString, BitString, ObjectId, Text, Sequence, Set, SequenceOf, SetOf, Choice, Tagged, Any}

abbrev pub of_row : {A : Type 0} → A → (TypeRow → A) → Option TypeRow → A
of_row none rule None = none
of_row none rule (Some row) = rule row

-- What a rule gives at row n from what it gives at the rows that row n names, down the table. Each row names
-- only lower rows, so as many turns as there are rows are enough.
abbrev pub along : {A : Type 0} → A → ((ℕ → A) → TypeRow → A) → List TypeRow → ℕ → ℕ → A
along none rule rows zero n = none
along none rule rows (suc turns) n = of_row none (rule (along none rule rows turns)) (slice_get rows n)

abbrev pub rows_of_parts : List Part → List ℕ
rows_of_parts parts = map (λ (p : Part). p.inner.0) parts

-- the rows that a row names
abbrev pub names_of : TypeRow → List ℕ
names_of Boolean = []
names_of (Integer low high) = []
names_of (Enumerated items) = []
names_of Null = []
names_of (OctetString most) = []
names_of BitString = []
names_of ObjectId = []
names_of (Text kind) = []
names_of (Sequence parts) = rows_of_parts parts
names_of (Set parts) = rows_of_parts parts
names_of (SequenceOf inner) = inner.0 ∷ []
names_of (SetOf inner) = inner.0 ∷ []
names_of (Choice parts) = rows_of_parts parts
names_of (Tagged class number explicit inner) = inner.0 ∷ []
names_of Any = []

abbrev pub greatest : (ℕ → ℕ) → List ℕ → ℕ
greatest f [] = 0
greatest f (n ∷ ns) = max (f n) (greatest f ns)

-- 1 where a row names no row, else 1 more than the greatest nesting of the rows that it names
abbrev pub nesting_by : (ℕ → ℕ) → TypeRow → ℕ
nesting_by inner row = 1 + greatest inner (names_of row)

unfoldable pub nesting : List TypeRow → ℕ → ℕ
nesting rows n = along 0 nesting_by rows (length rows) n

-- What a value begins with: one tag, or in an `Any` every tag.
pub data Opening : Type 0 where
  tag : Class → ℕ → Opening
  every : Opening

-- the universal tags (X.680 8.4)
abbrev pub text_number : TextKind → ℕ
text_number Utf8 = 12
text_number Numeric = 18
text_number Printable = 19
text_number Ia5 = 22
text_number Visible = 26

abbrev pub openings_by : (ℕ → List Opening) → TypeRow → List Opening
openings_by inner Boolean = tag Universal 1 ∷ []
openings_by inner (Integer low high) = tag Universal 2 ∷ []
openings_by inner BitString = tag Universal 3 ∷ []
openings_by inner (OctetString most) = tag Universal 4 ∷ []
openings_by inner Null = tag Universal 5 ∷ []
openings_by inner ObjectId = tag Universal 6 ∷ []
openings_by inner (Enumerated items) = tag Universal 10 ∷ []
openings_by inner (Text kind) = tag Universal (text_number kind) ∷ []
openings_by inner (Sequence parts) = tag Universal 16 ∷ []
openings_by inner (SequenceOf of) = tag Universal 16 ∷ []
openings_by inner (Set parts) = tag Universal 17 ∷ []
openings_by inner (SetOf of) = tag Universal 17 ∷ []
openings_by inner (Choice parts) = flat_map (λ (p : Part). inner p.inner.0) parts
openings_by inner (Tagged class number explicit of) = tag class number ∷ []
openings_by inner Any = every ∷ []

-- the tags that a value of row n may begin with; those of an untagged CHOICE are those of its alternatives
unfoldable pub openings : List TypeRow → ℕ → List Opening
openings rows n = along [] openings_by rows (length rows) n

abbrev pub class_number : Class → ℕ
class_number Universal = 0
class_number Application = 1
class_number Context = 2
class_number Private = 3

abbrev pub same_class : Class → Class → Bool
same_class a b = nat_eq (class_number a) (class_number b)

-- UNIVERSAL 0 is no tag (X.690 8.1.5 has it for end-of-contents).
abbrev pub is_no_tag : Class → ℕ → Bool
is_no_tag class number = same_class class Universal && nat_eq number 0

-- an opening allows this tag
abbrev pub allows : Class → ℕ → Opening → Bool
allows class number (tag c n) = same_class class c && nat_eq number n
allows class number every = true

-- some tag is in both
abbrev pub meets : Opening → Opening → Bool
meets (tag c n) o = allows c n o
meets every o = true

-- a value of row n may begin with this tag
abbrev pub begins : List TypeRow → ℕ → Class → ℕ → Bool
begins rows n class number = not (is_no_tag class number) && list_any (allows class number) (openings rows n)
