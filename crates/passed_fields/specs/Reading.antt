-- Fields read from the left.
use Rattle.std.specs.Prelude.{ℕ, ◌-◌, Option, Some, None, List, [], ◌∷◌, ◌++◌, length, drop, Ok, if◌then◌else◌}
use Rattle.osi_base.specs.declared.layer_words.Kind.TheVariants.{Missing, Extra}
use Rattle.osi_base.specs.Limits.{most_levels}
use Rattle.asn1_types.specs.declared.row.TypeRow.{TypeRow}
use Rattle.asn1_types.specs.Value.{Value, parts, list}
use Rattle.asn1_types.specs.ValueView.{parts_of, values_of}
use Rattle.ber_spelling.specs.declared.spot.Scope.{Scope}
use Rattle.asn1_types.specs.declared.row.Tag as tags
use Rattle.ber_spelling.specs.Reading.{Spot, Opened, Reading, ◌>>=◌, refuse}
use Rattle.ber_spelling.specs.Rules.{Reader, plain, constructed_at, all_items_at, list_item_at, whole_at, any_at, reads}
use Rattle.passed_fields.specs.declared.field.Field as known
use Rattle.passed_fields.specs.declared.field.Passed as over
use Rattle.passed_fields.specs.declared.field.Holds.{Holds}
use Rattle.passed_fields.specs.declared.field.Holds.TheVariants as holds
use Rattle.passed_fields.specs.Passing.{is_of, are_optional, nones, passes}

-- a list that has items
abbrev pub some_done : List Value → Option Value
some_done [] = None
some_done (v ∷ vs) = Some (list (values_of (v ∷ vs)))

abbrev pub some_items_at : Reader → Scope → Spot → Reading (Value × Spot)
some_items_at inner = all_items_at (list_item_at inner) some_done []

abbrev pub some_at : Reader → tags.Tag → Scope → Opened → Spot → Reading (Value × Spot)
some_at inner tag = constructed_at (some_items_at inner) tag

abbrev pub tag_of : known.Field → tags.Tag
tag_of f = record { class = f.class; number = f.number }

abbrev pub held_by : List TypeRow → tags.Tag → Holds → Scope → Opened → Spot → Reading (Value × Spot)
held_by rows tag (holds.Row of) = reads rows of.0 plain
held_by rows tag holds.Any = any_at
held_by rows tag (holds.Some of) = some_at (reads rows of.0) tag

-- the first of these fields that may stand next, with those found before
unfoldable pub known_at : List TypeRow → List known.Field → List (Option Value) → Scope → Opened → Spot → Reading (List (Option Value) × Spot)
known_at rows [] before scope opened spot = refuse opened.start.place Extra
known_at rows (f ∷ fs) before scope opened spot =
    if is_of f opened.class opened.number then (do
      v ← held_by rows (tag_of f) f.holds scope opened spot
      Ok (before ++ Some v.0 ∷ [], v.1))
    else (if f.optional then known_at rows fs (before ++ None ∷ []) scope opened spot
    else refuse opened.start.place Missing)

-- one whole value of any type, of which nothing is kept
abbrev pub pass_at : List (Option Value) → ℕ → Scope → Opened → Spot → Reading (List (Option Value) × Spot)
pass_at before settled scope opened spot = do
  u ← whole_at most_levels tt scope opened spot
  Ok (before ++ nones (settled - length before), u.1)

abbrev pub field_by : List TypeRow → List known.Field → List (Option Value) → Option ℕ → Scope → Opened → Spot → Reading (List (Option Value) × Spot)
field_by rows fields before (Some settled) scope opened spot = pass_at before settled scope opened spot
field_by rows fields before None scope opened spot = known_at rows (drop (length before) fields) before scope opened spot

-- one field: of the first known ones it is told whether they stand
unfoldable pub field_at : List TypeRow → List known.Field → List over.Passed → List (Option Value) → Scope → Opened → Spot → Reading (List (Option Value) × Spot)
field_at rows fields passed before scope opened spot =
    field_by rows fields before (passes passed (length before) opened.class opened.number) scope opened spot

-- those that are still to come don't stand
abbrev pub fields_done : List known.Field → List (Option Value) → Option Value
fields_done fields before =
    if are_optional (drop (length before) fields) then Some (parts (parts_of (before ++ nones (length fields - length before)))) else None

abbrev pub fields_at : List TypeRow → List known.Field → List over.Passed → Scope → Spot → Reading (Value × Spot)
fields_at rows fields passed = all_items_at (field_at rows fields passed) (fields_done fields) []

-- a constructed value of fields
abbrev pub fielded_at : List TypeRow → List known.Field → List over.Passed → tags.Tag → Scope → Opened → Spot → Reading (Value × Spot)
fielded_at rows fields passed tag = constructed_at (fields_at rows fields passed) tag
