-- Fields: reading stays inside the octets.
use Rattle.std.proofs.Common.{ℕ, ◌≤◌, true, List, [], ◌∷◌, ◌++◌, length, drop, Option, Some, None, Ok, Err}
use Rattle.asn1_types.specs.declared.row.TypeRow.{TypeRow}
use Rattle.asn1_types.specs.declared.row.TypeRow.TheVariants as row
use Rattle.asn1_types.specs.Value.{Value}
use Rattle.ber_spelling.specs.declared.fault.ReadFault.TheVariants as faults
use Rattle.ber_spelling.specs.declared.spot.Scope.{Scope}
use Rattle.asn1_types.specs.declared.row.Tag as tags
use Rattle.ber_spelling.specs.Reading.{Spot, Opened, Reading, ◌>>=◌}
use Rattle.ber_spelling.specs.Fields.{extent_at}
use Rattle.ber_spelling.specs.Rules.{plain, reads, is_opened, expect_at, constructed_at, list_item_at, any_at, whole_at}
use Rattle.ber_spelling.proofs.Constructed.{BodyOf}
use Rattle.ber_spelling.proofs.Inside.{EndsAt, Inside, Inside-bind, Inside-cond, nowhere, second, extent_inside}
use Rattle.ber_spelling.proofs.InsideRules.{InsideRun, InsideBody, all_inside, along_inside}
use Rattle.passed_fields.specs.declared.field.Field as known
use Rattle.passed_fields.specs.declared.field.Passed as over
use Rattle.passed_fields.specs.declared.field.Holds.{Holds}
use Rattle.passed_fields.specs.declared.field.Holds.TheVariants as holds
use Rattle.passed_fields.specs.Passing.{is_of, passes}
use Rattle.passed_fields.specs.Reading.{some_done, some_items_at, some_at, tag_of, held_by, known_at, field_by, field_at, fields_done, fields_at, fielded_at}

pub constructed_inside : {A : Type 0} (body : BodyOf A) (tag : tags.Tag) → InsideBody body → InsideRun (constructed_at body tag)
constructed_inside body tag h = record {
  each = λ end scope o s le e.
      Inside-bind nowhere (second end) end (expect_at tag true o) _ (Inside-cond nowhere end (is_opened tag true o) _ _ (λ t. tt) (λ t. le)) (λ u l.
      Inside-bind (second end) (second end) end (extent_at scope s.place s.rest) _ (extent_inside scope s.place s.rest end e) (λ x k. h.each end x.0 x.1 k));
}

-- that of a table of one row
any_inside : InsideRun any_at
any_inside = along_inside (row.Any ∷ []) 1 0 plain

by_value : (end : ℕ) (r : Reading (Unit {0} × Spot)) (f : Unit {0} × Spot → Value) → Inside (second end) end (r >>= λ w. Ok (f w, w.1)) → Inside (second end) end r
by_value end (Ok w) f h = h
by_value end (Err (faults.NotSpelled place kind)) f h = h
by_value end (Err faults.Short) f h = h
by_value end (Err (faults.TooDeep place)) f h = h
by_value end (Err (faults.TooLong place)) f h = h
by_value end (Err faults.NoMemory) f h = h

whole_inside : InsideRun (whole_at 32 tt)
unfolding any_at
whole_inside = record { each = λ end scope o s le e. by_value end (whole_at 32 tt scope o s) _ (any_inside.each end scope o s le e) }

module _ (rows : List TypeRow) where
  row_inside : (of : ℕ) → InsideRun (reads rows of plain)
  unfolding reads
  row_inside of = along_inside rows (length rows) of plain

  item_inside : (of : ℕ) (before : List Value) → InsideRun (list_item_at (reads rows of) before)
  item_inside of before = record {
    each = λ end scope o s le e. Inside-bind (second end) (second end) end (reads rows of plain scope o s) _ ((row_inside of).each end scope o s le e) (λ v k. k);
  }

  pub some_inside : (of : ℕ) (tag : tags.Tag) → InsideRun (some_at (reads rows of) tag)
  some_inside of tag = constructed_inside (some_items_at (reads rows of)) tag (all_inside (list_item_at (reads rows of)) some_done (item_inside of) [])

  held_inside : (tag : tags.Tag) (h : Holds) → InsideRun (held_by rows tag h)
  held_inside tag (holds.Row of) = row_inside of.0
  held_inside tag holds.Any = any_inside
  held_inside tag (holds.Some of) = some_inside of.0 tag

  known_inside : (next : List known.Field) (before : List (Option Value)) → InsideRun (known_at rows next before)
  unfolding known_at
  known_inside [] before = record { each = λ end scope o s le e. le }
  known_inside (f ∷ fs) before = record {
    each = λ end scope o s le e.
        Inside-cond (second end) end (is_of f o.class o.number) _ _
        (λ t. Inside-bind (second end) (second end) end (held_by rows (tag_of f) f.holds scope o s) _ ((held_inside (tag_of f) f.holds).each end scope o s le e) (λ v k. k))
        (λ t. Inside-cond (second end) end f.optional _ _ (λ u. (known_inside fs (before ++ None ∷ [])).each end scope o s le e) (λ u. le));
  }

  module _ (fields : List known.Field) (passed : List over.Passed) where
    field_inside : (before : List (Option Value)) → InsideRun (field_at rows fields passed before)
    unfolding field_at
    field_inside before = record { each = λ end scope o s le e. by_pass end scope o s le e (passes passed (length before) o.class o.number) }
      where
        by_pass : (end : ℕ) (scope : Scope) (o : Opened) (s : Spot) → o.start.place ≤ end → EndsAt end s → (settled : Option ℕ) → Inside (second end) end (field_by rows fields before settled scope o s)
        by_pass end scope o s le e None = (known_inside (drop (length before) fields) before).each end scope o s le e
        by_pass end scope o s le e (Some settled) = Inside-bind (second end) (second end) end (whole_at 32 tt scope o s) _ (whole_inside.each end scope o s le e) (λ v k. k)

    pub fields_inside : (tag : tags.Tag) → InsideRun (fielded_at rows fields passed tag)
    fields_inside tag = constructed_inside (fields_at rows fields passed) tag (all_inside (field_at rows fields passed) (fields_done fields) field_inside [])
