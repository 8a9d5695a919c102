-- Fields: what was read stays so, whatever octets follow.
use Rattle.std.proofs.Common.{ℕ, List, [], ◌∷◌, ◌++◌, length, drop, Option, Some, None, refl}
use Rattle.asn1_types.specs.declared.row.TypeRow.{TypeRow}
use Rattle.asn1_types.specs.Value.{Value}
use Rattle.ber_spelling.specs.declared.spot.Scope.{Scope}
use Rattle.asn1_types.specs.declared.row.Tag as tags
use Rattle.ber_spelling.specs.Reading.{Spot, Opened}
use Rattle.ber_spelling.specs.Rules.{plain, reads, list_item_at, whole_at}
use Rattle.ber_spelling.proofs.Growing.{grown, grown_opened, Grows, Grows-bind, Grows-cond, with_spot}
use Rattle.ber_spelling.proofs.GrowingRules.{any_grows, along_grows}
use Rattle.ber_spelling.proofs.WholeReads.{whole_grows}
use Rattle.ber_spelling.proofs.Items.{GrowsRun, constructed_grows, all_grow}
use Rattle.passed_fields.specs.declared.field.Field as known
use Rattle.passed_fields.specs.declared.field.Passed as over
use Rattle.passed_fields.specs.declared.field.Holds.{Holds}
use Rattle.passed_fields.specs.declared.field.Holds.TheVariants as holds
use Rattle.passed_fields.specs.Passing.{is_of, passes}
use Rattle.passed_fields.specs.Reading.{some_done, some_items_at, some_at, tag_of, held_by, known_at, field_by, field_at, fields_done, fields_at, fielded_at}

module _ (rows : List TypeRow) where
  row_grows : (of : ℕ) → GrowsRun (reads rows of plain)
  unfolding reads
  row_grows of = along_grows rows (length rows) of plain

  item_grows : (of : ℕ) (before : List Value) → GrowsRun (list_item_at (reads rows of) before)
  item_grows of before = record {
    grows = λ scope o s more.
        Grows-bind (with_spot more) (with_spot more) (reads rows of plain scope o s) (reads rows of plain scope (grown_opened more o) (grown more s)) _ _ ((row_grows of).grows scope o s more) (λ v e. refl);
  }

  pub some_grows : (of : ℕ) (tag : tags.Tag) → GrowsRun (some_at (reads rows of) tag)
  some_grows of tag = constructed_grows (some_items_at (reads rows of)) tag (all_grow (list_item_at (reads rows of)) some_done (item_grows of) [])

  held_grows : (tag : tags.Tag) (h : Holds) → GrowsRun (held_by rows tag h)
  held_grows tag (holds.Row of) = row_grows of.0
  held_grows tag holds.Any = any_grows
  held_grows tag (holds.Some of) = some_grows of.0 tag

  known_grows : (next : List known.Field) (before : List (Option Value)) → GrowsRun (known_at rows next before)
  unfolding known_at
  known_grows [] before = record { grows = λ scope o s more. refl }
  known_grows (f ∷ fs) before = record {
    grows = λ scope o s more.
        Grows-cond (with_spot more) (is_of f o.class o.number) _ _ _ _
        (λ t. Grows-bind (with_spot more) (with_spot more) (held_by rows (tag_of f) f.holds scope o s) (held_by rows (tag_of f) f.holds scope (grown_opened more o) (grown more s)) _ _ ((held_grows (tag_of f) f.holds).grows scope o s more) (λ v e. refl))
        (λ t. Grows-cond (with_spot more) f.optional _ _ _ _ (λ u. (known_grows fs (before ++ None ∷ [])).grows scope o s more) (λ u. refl));
  }

  module _ (fields : List known.Field) (passed : List over.Passed) where
    field_grows : (before : List (Option Value)) → GrowsRun (field_at rows fields passed before)
    unfolding field_at
    field_grows before = record { grows = λ scope o s more. by_pass scope o s more (passes passed (length before) o.class o.number) }
      where
        by_pass : (scope : Scope) (o : Opened) (s : Spot) (more : List ℕ) (settled : Option ℕ) → Grows (with_spot more) (field_by rows fields before settled scope o s) (field_by rows fields before settled scope (grown_opened more o) (grown more s))
        by_pass scope o s more None = (known_grows (drop (length before) fields) before).grows scope o s more
        by_pass scope o s more (Some settled) =
            Grows-bind (with_spot more) (with_spot more) (whole_at 32 tt scope o s) (whole_at 32 tt scope (grown_opened more o) (grown more s)) _ _ ((whole_grows 32 tt).grows scope o s more) (λ v e. refl)

    pub fields_grow : (tag : tags.Tag) → GrowsRun (fielded_at rows fields passed tag)
    fields_grow tag = constructed_grows (fields_at rows fields passed) tag (all_grow (field_at rows fields passed) (fields_done fields) field_grows [])
