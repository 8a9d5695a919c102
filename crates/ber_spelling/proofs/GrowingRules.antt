-- What a row is read as stays what it is, whatever octets follow.
use Rattle.std.proofs.Common.{◌≡◌, ℕ, zero, suc, ◌-◌, Bool, true, false, List, [], ◌∷◌, ◌++◌, length, take, Option, Some, None, Ok, refl, ap, ◌∙◌, arith, length-append, ◌&&◌}
use Rattle.std.specs.Prelude.{slice_get}
use Rattle.std.proofs.lemmas.List.{take-append-le}
use Rattle.asn1_types.specs.declared.row.Class.{Class}
use Rattle.asn1_types.specs.declared.row.Class.TheVariants.{Universal}
use Rattle.asn1_types.specs.declared.row.Part.{Part}
use Rattle.asn1_types.specs.declared.row.TypeRow.{TypeRow}
use Rattle.asn1_types.specs.declared.row.TypeRow.TheVariants as row
use Rattle.asn1_types.specs.Defaults.{may_be_absent}
use Rattle.asn1_types.specs.Rows.{of_row, along, begins, text_number}
use Rattle.asn1_types.specs.Value.{Value}
use Rattle.ber_spelling.specs.declared.spot.Scope.{Scope}
use Rattle.asn1_types.specs.declared.row.Tag as tags
use Rattle.asn1_types.specs.Tags.{tag_or}
use Rattle.ber_spelling.specs.declared.spot.StringKind.TheVariants.{OfOctets, OfBits}
use Rattle.ber_spelling.specs.Reading.{Spot, Opened, Ahead, ended, begun, Reading}
use Rattle.ber_spelling.specs.Fields.{extent_at, look_at}
use Rattle.ber_spelling.specs.Rules.{Reader, expect_at, value_ahead, end_ahead, open_at, close_at, explicit_at, present_at, part_at, parts_at, sequence_at, choice_at, whole_at, any_at, dead, or_explicit, all_items_at, slot_at, set_done, nothing_filled, read_by, always, boolean_rule, is_strict_boolean, integer_rule, enumerated_rule, null_rule, object_id_rule, whole_octets, whole_text, whole_bits, has_zero_bits, Guise, bare, plain, under, is_other}
use Rattle.ber_spelling.proofs.Growing.{grown, grown_opened, grown_ahead, Grows, Grows-bind, Grows-same, Grows-cond, with_spot, with_opened, extent_grows, look_grows}
use Rattle.ber_spelling.proofs.Steady.{Run}
use Rattle.ber_spelling.proofs.Items.{GrowsRun, constructed_grows}
use Rattle.ber_spelling.proofs.WholeReads.{whole_grows}
use Rattle.ber_spelling.proofs.Sets.{set_grows}
use Rattle.ber_spelling.proofs.Segments.{prim_grows, string_grows, list_grows, set_of_grows}
use Rattle.asn1_types.specs.Writing.{written}

first_grows : (a : Ahead) (more : List ℕ) → Grows (with_opened more) (value_ahead a) (value_ahead (grown_ahead more a))
first_grows (ended place after) more = refl
first_grows (begun o s) more = refl

last_grows : (a : Ahead) (more : List ℕ) → Grows (grown more) (end_ahead a) (end_ahead (grown_ahead more a))
last_grows (ended place after) more = refl
last_grows (begun o s) more = refl

abbrev with_open : List ℕ → Scope × Opened × Spot → Scope × Opened × Spot
with_open more x = (x.0, grown_opened more x.1, grown more x.2)

open_grows : (tag : tags.Tag) (scope : Scope) (o : Opened) (s : Spot) (more : List ℕ) → Grows (with_open more) (open_at tag scope o s) (open_at tag scope (grown_opened more o) (grown more s))
unfolding open_at
open_grows tag scope o s more =
    Grows-same (with_open more) (expect_at tag true o) _ _ (λ u e.
    Grows-bind (with_spot more) (with_open more) (extent_at scope s.place s.rest) (extent_at scope s.place (s.rest ++ more)) _ _ (extent_grows scope s.place s.rest more) (λ x e.
    Grows-bind (grown_ahead more) (with_open more) (look_at x.0 x.1.place x.1.rest) (look_at x.0 x.1.place (x.1.rest ++ more)) _ _ (look_grows x.0 x.1.place x.1.rest more) (λ a e.
    Grows-bind (with_opened more) (with_open more) (value_ahead a) (value_ahead (grown_ahead more a)) _ _ (first_grows a more) (λ f e. refl))))

close_grows : (scope : Scope) (s : Spot) (more : List ℕ) → Grows (grown more) (close_at scope s) (close_at scope (grown more s))
unfolding close_at
close_grows scope s more =
    Grows-bind (grown_ahead more) (grown more) (look_at scope s.place s.rest) (look_at scope s.place (s.rest ++ more)) end_ahead end_ahead (look_grows scope s.place s.rest more) (λ a e. last_grows a more)

pub explicit_grows : (run : Run) (tag : tags.Tag) → GrowsRun run → GrowsRun (explicit_at run tag)
unfolding explicit_at
explicit_grows run tag h = record {
  grows = λ scope o s more.
      Grows-bind (with_open more) (with_spot more) (open_at tag scope o s) (open_at tag scope (grown_opened more o) (grown more s)) _ _ (open_grows tag scope o s more) (λ x e.
      Grows-bind (with_spot more) (with_spot more) (run x.0 x.1 x.2) (run x.0 (grown_opened more x.1) (grown more x.2)) _ _ (h.grows x.0 x.1 x.2 more) (λ v e.
      Grows-bind (grown more) (with_spot more) (close_at x.0 v.1) (close_at x.0 (grown more v.1)) _ _ (close_grows x.0 v.1 more) (λ t e. refl)));
}

pub any_grows : GrowsRun any_at
unfolding any_at
any_grows = record {
  grows = λ scope o s more.
      Grows-bind (with_spot more) (with_spot more) (whole_at 32 tt scope o s) (whole_at 32 tt scope (grown_opened more o) (grown more s)) _ _ ((whole_grows 32 tt).grows scope o s more) (λ w e.
      kept o.start.rest w.1 more);
}
  where
    kept : (rest : List ℕ) (after : Spot) (more : List ℕ) → ◌≡◌ {A = Reading (Value × Spot)} (Ok (Rattle.asn1_types.specs.Value.any (take (length (rest ++ more) - length (after.rest ++ more)) (rest ++ more)), grown more after)) (Ok (Rattle.asn1_types.specs.Value.any (take (length rest - length after.rest) rest), grown more after))
    kept rest after more =
        let n : ℕ = length rest - length after.rest in
        let same : length (rest ++ more) - length (after.rest ++ more) ≡ n = omega (arith, length-append rest more, length-append after.rest more) in
        ap (λ (k : ℕ). Ok (Rattle.asn1_types.specs.Value.any (take k (rest ++ more)), grown more after)) same
        ∙ ap (λ (x : List ℕ). Ok (Rattle.asn1_types.specs.Value.any x, grown more after)) (take-append-le n rest more (omega arith))

module _ (begins : ℕ → Class → ℕ → Bool) (inner : ℕ → Reader) (h : (n : ℕ) (t : Guise) → GrowsRun (inner n t)) where
  abbrev with_ahead : List ℕ → Option Value × Ahead → Option Value × Ahead
  with_ahead more x = (x.0, grown_ahead more x.1)

  abbrev with_parts : List ℕ → List (Option Value) × Spot → List (Option Value) × Spot
  with_parts more x = (x.0, grown more x.1)

  present_grows : (p : Part) (scope : Scope) (a : Ahead) (more : List ℕ) → Grows (with_ahead more) (present_at (inner p.inner.0) p scope a) (present_at (inner p.inner.0) p scope (grown_ahead more a))
  present_grows p scope (ended place after) more = refl
  present_grows p scope (begun o s) more =
      Grows-bind (with_spot more) (with_ahead more) (inner p.inner.0 (bare p.default) scope o s) (inner p.inner.0 (bare p.default) scope (grown_opened more o) (grown more s)) _ _ ((h p.inner.0 (bare p.default)).grows scope o s more) (λ v e.
      Grows-bind (grown_ahead more) (with_ahead more) (look_at scope v.1.place v.1.rest) (look_at scope v.1.place (v.1.rest ++ more)) _ _ (look_grows scope v.1.place v.1.rest more) (λ a e. refl))

  part_grows : (p : Part) (scope : Scope) (a : Ahead) (more : List ℕ) → Grows (with_ahead more) (part_at begins (inner p.inner.0) p scope a) (part_at begins (inner p.inner.0) p scope (grown_ahead more a))
  unfolding part_at
  part_grows p scope (ended place after) more = Grows-cond (with_ahead more) (may_be_absent p) _ _ _ _ (λ t. refl) (λ t. refl)
  part_grows p scope (begun o s) more =
      Grows-cond (with_ahead more) (begins p.inner.0 o.class o.number) _ _ _ _ (λ t. present_grows p scope (begun o s) more)
      (λ t. Grows-cond (with_ahead more) (may_be_absent p) _ _ _ _ (λ t. refl) (λ t. refl))

  parts_grow : (ps : List Part) (scope : Scope) (a : Ahead) (more : List ℕ) → Grows (with_parts more) (parts_at begins inner scope a ps) (parts_at begins inner scope (grown_ahead more a) ps)
  unfolding parts_at
  parts_grow [] scope a more = Grows-bind (grown more) (with_parts more) (end_ahead a) (end_ahead (grown_ahead more a)) _ _ (last_grows a more) (λ t e. refl)
  parts_grow (p ∷ ps) scope a more =
      Grows-bind (with_ahead more) (with_parts more) (part_at begins (inner p.inner.0) p scope a) (part_at begins (inner p.inner.0) p scope (grown_ahead more a)) _ _ (part_grows p scope a more) (λ x e.
      Grows-bind (with_parts more) (with_parts more) (parts_at begins inner scope x.1 ps) (parts_at begins inner scope (grown_ahead more x.1) ps) _ _ (parts_grow ps scope x.1 more) (λ y e. refl))

  pub sequence_grows : (ps : List Part) (tag : tags.Tag) → GrowsRun (sequence_at begins inner ps tag)
  unfolding sequence_at
  sequence_grows ps tag = record {
    grows = λ scope o s more.
        Grows-same (with_spot more) (expect_at tag true o) _ _ (λ u e.
        Grows-bind (with_spot more) (with_spot more) (extent_at scope s.place s.rest) (extent_at scope s.place (s.rest ++ more)) _ _ (extent_grows scope s.place s.rest more) (λ x e.
        Grows-bind (grown_ahead more) (with_spot more) (look_at x.0 x.1.place x.1.rest) (look_at x.0 x.1.place (x.1.rest ++ more)) _ _ (look_grows x.0 x.1.place x.1.rest more) (λ a e.
        Grows-bind (with_parts more) (with_spot more) (parts_at begins inner x.0 a ps) (parts_at begins inner x.0 (grown_ahead more a) ps) _ _ (parts_grow ps x.0 a more) (λ y e. refl))));
  }

  pub choice_grows : (which : ℕ) (ps : List Part) → GrowsRun (choice_at begins inner which ps)
  unfolding choice_at
  choice_grows which [] = record { grows = λ scope o s more. refl }
  choice_grows which (p ∷ ps) = record {
    grows = λ scope o s more.
        Grows-cond (with_spot more) (begins p.inner.0 o.class o.number) _ _ _ _
        (λ t. Grows-bind (with_spot more) (with_spot more) (inner p.inner.0 plain scope o s) (inner p.inner.0 plain scope (grown_opened more o) (grown more s)) _ _ ((h p.inner.0 plain).grows scope o s more) (λ v e. refl))
        (λ t. (choice_grows (suc which) ps).grows scope o s more);
  }

or_grows : (run : Run) (t : Option tags.Tag) → GrowsRun run → GrowsRun (or_explicit run t)
or_grows run None h = h
or_grows run (Some t) h = explicit_grows run t h

dead_grows : (t : Guise) → GrowsRun (dead t)
dead_grows t = record { grows = λ scope o s more. refl }

row_grows : (begins : ℕ → Class → ℕ → Bool) (spell : ℕ → Value → List ℕ) (inner : ℕ → Reader) → ((n : ℕ) (t : Guise) → GrowsRun (inner n t)) → (r : TypeRow) (t : Guise) → GrowsRun (read_by begins spell inner r t)
row_grows begins spell inner h row.Boolean t = prim_grows boolean_rule (λ c. is_strict_boolean c && is_other t.default (boolean_rule c)) (tag_or t.tag Universal 1)
row_grows begins spell inner h (row.Integer low high) t = prim_grows (integer_rule low high) (λ c. is_other t.default (integer_rule low high c)) (tag_or t.tag Universal 2)
row_grows begins spell inner h (row.Enumerated items) t = prim_grows (enumerated_rule items) (λ c. is_other t.default (enumerated_rule items c)) (tag_or t.tag Universal 10)
row_grows begins spell inner h row.Null t = prim_grows null_rule always (tag_or t.tag Universal 5)
row_grows begins spell inner h (row.OctetString most) t = string_grows OfOctets (whole_octets most) always (tag_or t.tag Universal 4)
row_grows begins spell inner h row.BitString t = string_grows OfBits whole_bits has_zero_bits (tag_or t.tag Universal 3)
row_grows begins spell inner h row.ObjectId t = prim_grows object_id_rule always (tag_or t.tag Universal 6)
row_grows begins spell inner h (row.Text kind) t = string_grows OfOctets (whole_text kind) always (tag_or t.tag Universal (text_number kind))
row_grows begins spell inner h (row.Sequence ps) t = sequence_grows begins inner h ps (tag_or t.tag Universal 16)
row_grows begins spell inner h (row.Set ps) t = constructed_grows (all_items_at (slot_at begins inner 0 ps) (set_done ps) (nothing_filled ps)) (tag_or t.tag Universal 17) (set_grows begins inner h ps)
row_grows begins spell inner h (row.SequenceOf of) t = list_grows (inner of.0) (tag_or t.tag Universal 16) (h of.0 plain)
row_grows begins spell inner h (row.SetOf of) t = set_of_grows (spell of.0) (inner of.0) (tag_or t.tag Universal 17) (h of.0 plain)
row_grows begins spell inner h (row.Choice ps) t = or_grows (choice_at begins inner 0 ps) t.tag (choice_grows begins inner h 0 ps)
row_grows begins spell inner h (row.Tagged class number true of) t = explicit_grows (inner of.0 (bare t.default)) (tag_or t.tag class number) (h of.0 (bare t.default))
row_grows begins spell inner h (row.Tagged class number false of) t = h of.0 (under (Some (tag_or t.tag class number)) t.default)
row_grows begins spell inner h row.Any t = or_grows any_at t.tag any_grows

of_grows : (begins : ℕ → Class → ℕ → Bool) (spell : ℕ → Value → List ℕ) (inner : ℕ → Reader) → ((n : ℕ) (t : Guise) → GrowsRun (inner n t)) → (o : Option TypeRow) (t : Guise) → GrowsRun (of_row dead (read_by begins spell inner) o t)
of_grows begins spell inner h None t = dead_grows t
of_grows begins spell inner h (Some r) t = row_grows begins spell inner h r t

pub along_grows : (rows : List TypeRow) (turns n : ℕ) (t : Guise) → GrowsRun (along dead (read_by (begins rows) (written rows)) rows turns n t)
along_grows rows zero n t = dead_grows t
along_grows rows (suc turns) n t = of_grows (begins rows) (written rows) (along dead (read_by (begins rows) (written rows)) rows turns) (λ m u. along_grows rows turns m u) (slice_get rows n) t
