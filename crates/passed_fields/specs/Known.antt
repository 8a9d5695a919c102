-- Fields that can be told apart, and rows that there are.
use Rattle.std.specs.Prelude.{ℕ, ◌<◌, Bool, true, not, ◌&&◌, Some, None, List, [], ◌∷◌, length}
use Rattle.asn1_types.specs.declared.row.Class.{Class}
use Rattle.asn1_types.specs.declared.row.TypeRow.{TypeRow}
use Rattle.asn1_types.specs.Rows.{is_no_tag}
use Rattle.passed_fields.specs.declared.field.Field as known
use Rattle.passed_fields.specs.declared.field.Passed as over
use Rattle.passed_fields.specs.declared.field.Holds.{Holds}
use Rattle.passed_fields.specs.declared.field.Holds.TheVariants as holds
use Rattle.passed_fields.specs.Passing.{is_of, is_over}

abbrev pub HasRow : List TypeRow → Holds → Type 0
HasRow rows (holds.Row of) = of.0 < length rows
HasRow rows holds.Any = Unit {0}
HasRow rows (holds.Some of) = of.0 < length rows

-- the table has the rows of all fields
abbrev pub HaveRows : List TypeRow → List known.Field → Type 0
HaveRows rows [] = Unit {0}
HaveRows rows (f ∷ fs) = HasRow rows f.holds × HaveRows rows fs

-- a tag that isn't UNIVERSAL 0 and isn't passed over
abbrev pub is_kept : List over.Passed → Class → ℕ → Bool
is_kept [] class number = not (is_no_tag class number)
is_kept (p ∷ ps) class number = not (is_over p class number) && is_kept ps class number

abbrev pub has_other_tag : known.Field → List known.Field → Bool
has_other_tag f [] = true
has_other_tag f (g ∷ gs) = not (is_of f g.class g.number) && has_other_tag f gs

-- no two have one tag, and none of them is passed over
abbrev pub are_apart : List known.Field → List over.Passed → Bool
are_apart [] passed = true
are_apart (f ∷ fs) passed = has_other_tag f fs && is_kept passed f.class f.number && are_apart fs passed

-- a field of a row, and context tags that are passed over anywhere, or before the known field of a place
abbrev pub of_row : Class → ℕ → ℕ → Bool → known.Field
of_row class number row optional = record { class = class; number = number; holds = holds.Row (record { 0 = row }); optional = optional }

abbrev pub anywhere : ℕ → ℕ → over.Passed
anywhere low high = record { low = low; high = high; before = None }

abbrev pub until_place : ℕ → ℕ → ℕ → over.Passed
until_place low high before = record { low = low; high = high; before = Some before }
