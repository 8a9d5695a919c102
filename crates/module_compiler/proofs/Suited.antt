-- Rows that the walk of a type without a fault makes may stand behind the rows that there are: the table takes them.
use Rattle.std.proofs.Common.{◌≡◌, ℕ, suc, ◌+◌, ◌^◌, ◌≤◌, ◌<◌, Bool, true, false, List, [], ◌∷◌, length, Option, None, Some, refl, ap, ◌∙◌, arith, ℤ}
use Rattle.std.specs.Prelude.{◌&&◌, nat_eq, nat_lt, map, if◌then◌else◌}
use Rattle.std.proofs.lemmas.Bool.{lt-ltb, le-ltb, ne_eqb}
use Rattle.asn1_types.specs.declared.row.Class.{Class}
use Rattle.asn1_types.specs.declared.row.Part.{Part}
use Rattle.asn1_types.specs.declared.row.TextKind.{TextKind}
use Rattle.asn1_types.specs.declared.row.TextKind.TheVariants.{Utf8, Ia5, Visible, Printable, Numeric}
use Rattle.asn1_types.specs.declared.row.TypeId.{TypeId}
use Rattle.asn1_types.specs.declared.row.TypeRow.{TypeRow}
use Rattle.asn1_types.specs.declared.row.TypeRow.TheVariants as rows
use Rattle.asn1_types.specs.Rows.{names_of, rows_of_parts, greatest, nesting_by, nesting, openings, class_number, text_number, is_no_tag}
use Rattle.asn1_types.specs.Defaults.{takes_default, has_bad_default}
use Rattle.asn1_types.specs.Table.{first_from, is_bad_range, is_double_name, has_clash, refusal, AreSoundRows}
use Rattle.operation_notation.specs.Tree.{TypeTree, PartTrees}
use Rattle.operation_notation.specs.WellFormed.{AreWellParts, HasPart}
use Rattle.operation_notation.specs.declared.module.ItemText.{ItemText}
use Rattle.operation_notation.specs.declared.module.RangeText.{RangeText}
use Rattle.operation_notation.specs.declared.module.TagText.{TagText}
use Rattle.module_faults.specs.declared.kind.TableKind.TheVariants as kinds
use Rattle.module_faults.specs.declared.least.Found.{Found}
use Rattle.module_faults.specs.Least.{fault}
use Rattle.module_faults.specs.Places.{is_bad_range as is_bad_text, is_bad_tag}
use Rattle.module_faults.specs.Locals.{range_faults, end_faults, item_faults, part_faults}
use Rattle.module_faults.specs.Facts.{DefaultKind, Facts, same_tag, simple, deeper, parts_nesting, parts_tags, parts_show, tagged as tagged_facts}
use Rattle.module_compiler.specs.Numbering.{item_of, least_integer, greatest_integer, range_row}
use Rattle.module_compiler.proofs.Tags.{or_first, neither, tag_same}
use Rattle.module_compiler.proofs.Rows.{Nests, Suits, deeper_is}
use Rattle.module_compiler.proofs.Parts.{no_fault_if, items_apart, has_items, AreMade, rows_there, rows_nest, names_apart, few_parts, some_part, defaults_good, no_defaults, choice_among, tags_apart, runs_apart}

free_if : (all : List TypeRow) (row : TypeRow) → first_from (length all) (names_of row) ≡ None → is_bad_range row ≡ false → is_double_name row ≡ false → nat_lt 32 (nesting_by (nesting all) row) ≡ false → has_clash (openings all) row ≡ false
    → has_bad_default (takes_default all) row ≡ false → refusal all row ≡ None
unfolding refusal
free_if all row there range names deep apart defaults = rw (there, range, names, deep, apart, defaults) refl

-- ---- rows that name no others

module _ (all : List TypeRow) where
  simple_deep : 1 + greatest (nesting all) [] ≤ 1
  simple_deep = omega arith

  pub suits_boolean : (base : DefaultKind) → Suits all rows.Boolean (simple 1 1 base)
  unfolding refusal
  suits_boolean base = record { free = refl; short = tt; deep = simple_deep; opens = (refl, tt) }

  pub suits_bits : (base : DefaultKind) → Suits all rows.BitString (simple 3 1 base)
  unfolding refusal
  suits_bits base = record { free = refl; short = tt; deep = simple_deep; opens = (refl, tt) }

  pub suits_octets : (most : ℕ) (base : DefaultKind) → Suits all (rows.OctetString most) (simple 4 1 base)
  unfolding refusal
  suits_octets most base = record { free = refl; short = tt; deep = simple_deep; opens = (refl, tt) }

  pub suits_null : (base : DefaultKind) → Suits all rows.Null (simple 5 1 base)
  unfolding refusal
  suits_null base = record { free = refl; short = tt; deep = simple_deep; opens = (refl, tt) }

  pub suits_object_id : (base : DefaultKind) → Suits all rows.ObjectId (simple 6 1 base)
  unfolding refusal
  suits_object_id base = record { free = refl; short = tt; deep = simple_deep; opens = (refl, tt) }

  pub suits_text : (kind : TextKind) (base : DefaultKind) → Suits all (rows.Text kind) (simple (text_number kind) 1 base)
  unfolding refusal
  suits_text Utf8 base = record { free = refl; short = tt; deep = simple_deep; opens = (refl, tt) }
  suits_text Ia5 base = record { free = refl; short = tt; deep = simple_deep; opens = (refl, tt) }
  suits_text Visible base = record { free = refl; short = tt; deep = simple_deep; opens = (refl, tt) }
  suits_text Printable base = record { free = refl; short = tt; deep = simple_deep; opens = (refl, tt) }
  suits_text Numeric base = record { free = refl; short = tt; deep = simple_deep; opens = (refl, tt) }

  -- an INTEGER whose range isn't empty
  range_good : (range : Option RangeText) → range_faults range ≡ [] → is_bad_range (range_row range) ≡ false
  range_good None e = refl
  range_good (Some r) e = no_fault_if (is_bad_text r) (fault r.line r.column kinds.BadRange) e

  free_integer : (low high : ℤ) → is_bad_range (rows.Integer low high) ≡ false → refusal all (rows.Integer low high) ≡ None
  free_integer low high e = free_if all (rows.Integer low high) refl e refl refl refl refl

  integer_as : (low high : ℤ) (base : DefaultKind) → is_bad_range (rows.Integer low high) ≡ false → Suits all (rows.Integer low high) (simple 2 1 base)
  integer_as low high base e = record { free = free_integer low high e; short = tt; deep = simple_deep; opens = (refl, tt) }

  pub suits_integer : (range : Option RangeText) (base : DefaultKind) → range_faults range ≡ [] → Suits all (range_row range) (simple 2 1 base)
  suits_integer None base e = integer_as least_integer greatest_integer base refl
  suits_integer (Some r) base e = integer_as r.low r.high base (range_good (Some r) e)

  -- an ENUMERATED of items that differ
  pub suits_enumerated : (list : List ItemText) (base : DefaultKind) → item_faults [] [] list ≡ [] → 0 < length list → Suits all (rows.Enumerated (map item_of list)) (simple 10 1 base)
  suits_enumerated list base e some = record {
    free = free_if all (rows.Enumerated (map item_of list)) refl (has_items list some) (items_apart list e) refl refl refl;
    short = tt;
    deep = simple_deep;
    opens = (refl, tt);
  }

  -- ---- rows over one other

  one_there : (n : ℕ) → n < length all → first_from (length all) (n ∷ []) ≡ None
  one_there n lt = ap (λ (b : Bool). if b then None else Some n) (lt-ltb n (length all) lt)

  one_deep : (n : ℕ) (below : Facts) → Nests all n below → 1 + greatest (nesting all) (n ∷ []) ≤ suc below.nesting
  one_deep n below h = let deep : nesting all n ≤ below.nesting = h.deep in omega arith

  shallow : (n m : ℕ) → n ≤ suc m → suc m ≤ 32 → nat_lt 32 n ≡ false
  shallow n m le few = le-ltb 32 n (omega arith)

  pub suits_sequence_of : (inner : TypeId) (below : Facts) (base : DefaultKind) → Nests all inner.0 below → deeper below.nesting ≤ 32 → Suits all (rows.SequenceOf inner) (simple 16 (deeper below.nesting) base)
  suits_sequence_of inner below base h few =
      let up : suc below.nesting ≤ deeper below.nesting = deeper_is below.nesting few in
      let deep : 1 + greatest (nesting all) (inner.0 ∷ []) ≤ suc below.nesting = one_deep inner.0 below h in
      record {
        free = free_if all (rows.SequenceOf inner) (one_there inner.0 h.below) refl refl (shallow (1 + greatest (nesting all) (inner.0 ∷ [])) below.nesting deep (omega arith)) refl refl;
        short = tt;
        deep = omega arith;
        opens = (refl, tt);
      }

  pub suits_set_of : (inner : TypeId) (below : Facts) (base : DefaultKind) → Nests all inner.0 below → deeper below.nesting ≤ 32 → Suits all (rows.SetOf inner) (simple 17 (deeper below.nesting) base)
  suits_set_of inner below base h few =
      let up : suc below.nesting ≤ deeper below.nesting = deeper_is below.nesting few in
      let deep : 1 + greatest (nesting all) (inner.0 ∷ []) ≤ suc below.nesting = one_deep inner.0 below h in
      record {
        free = free_if all (rows.SetOf inner) (one_there inner.0 h.below) refl refl (shallow (1 + greatest (nesting all) (inner.0 ∷ [])) below.nesting deep (omega arith)) refl refl;
        short = tt;
        deep = omega arith;
        opens = (refl, tt);
      }

  tag_good : (class : Class) (tag : TagText) → class_number class ≡ tag.class → is_bad_tag tag ≡ false → is_no_tag class tag.number ≡ false
  tag_good class tag e f = ap (λ (n : ℕ). nat_eq n 0 && nat_eq tag.number 0) e ∙ f

  pub suits_tagged : (class : Class) (tag : TagText) (explicit : Bool) (inner : TypeId) (below : Facts) → class_number class ≡ tag.class → is_bad_tag tag ≡ false → tag.number ≤ 4294967295 → Nests all inner.0 below → deeper below.nesting ≤ 32
      → Suits all (rows.Tagged class tag.number explicit inner) (tagged_facts (Some tag) below)
  suits_tagged class tag explicit inner below e f short h few =
      let up : suc below.nesting ≤ deeper below.nesting = deeper_is below.nesting few in
      let deep : 1 + greatest (nesting all) (inner.0 ∷ []) ≤ suc below.nesting = one_deep inner.0 below h in
      let bits : 4294967296 ≡ 2 ^ 32 = refl in
      record {
        free = free_if all (rows.Tagged class tag.number explicit inner) (one_there inner.0 h.below) (tag_good class tag e f) refl (shallow (1 + greatest (nesting all) (inner.0 ∷ [])) below.nesting deep (omega arith)) refl refl;
        short = omega arith;
        deep = omega arith;
        opens = (or_first (same_tag (record { class = class_number class; number = tag.number }) (record { class = tag.class; number = tag.number })) false (tag_same (class_number class) tag.class tag.number e), tt);
      }

  -- ---- rows over parts

  module _ (facts : TypeTree → Facts) (shows : TypeTree → List Found) (texts : PartTrees) (ps : List Part) (made : AreMade facts all texts ps) (few : deeper (parts_nesting facts 0 texts) ≤ 32) where
    parts_deep : 1 + greatest (nesting all) (rows_of_parts ps) ≤ deeper (parts_nesting facts 0 texts)
    parts_deep =
        let up : suc (parts_nesting facts 0 texts) ≤ deeper (parts_nesting facts 0 texts) = deeper_is (parts_nesting facts 0 texts) few in
        let deep : greatest (nesting all) (rows_of_parts ps) ≤ parts_nesting facts 0 texts = rows_nest facts all texts ps made 0 in
        omega arith

    parts_shallow : nat_lt 32 (1 + greatest (nesting all) (rows_of_parts ps)) ≡ false
    parts_shallow = let deep : 1 + greatest (nesting all) (rows_of_parts ps) ≤ deeper (parts_nesting facts 0 texts) = parts_deep in le-ltb 32 (1 + greatest (nesting all) (rows_of_parts ps)) (omega arith)

    pub suits_sequence : (base : DefaultKind) → AreSoundRows all → part_faults [] texts ≡ [] → parts_show facts shows true [] texts ≡ [] → AreWellParts true texts → Suits all (rows.Sequence ps) (simple 16 (deeper (parts_nesting facts 0 texts)) base)
    suits_sequence base sound f h well = record {
      free = free_if all (rows.Sequence ps) (rows_there facts all texts ps made) refl (names_apart facts all texts ps made f) parts_shallow (runs_apart facts all shows [] texts ps made h) (defaults_good facts all sound texts ps made well);
      short = tt;
      deep = parts_deep;
      opens = (refl, tt);
    }

    pub suits_set : (base : DefaultKind) → AreSoundRows all → part_faults [] texts ≡ [] → parts_show facts shows false [] texts ≡ [] → AreWellParts true texts → Suits all (rows.Set ps) (simple 17 (deeper (parts_nesting facts 0 texts)) base)
    suits_set base sound f h well = record {
      free = free_if all (rows.Set ps) (rows_there facts all texts ps made) refl (names_apart facts all texts ps made f) parts_shallow (tags_apart facts all shows [] texts ps made h) (defaults_good facts all sound texts ps made well);
      short = tt;
      deep = parts_deep;
      opens = (refl, tt);
    }

    choice_size : 0 < length ps → length ps ≤ 256 → is_bad_range (rows.Choice ps) ≡ false
    choice_size some most = neither (nat_eq (length ps) 0) (nat_lt 256 (length ps)) (ne_eqb (length ps) 0 (λ e. omega arith)) (le-ltb 256 (length ps) most)

    pub suits_choice : (base : DefaultKind) → end_faults 256 texts ≡ [] → part_faults [] texts ≡ [] → parts_show facts shows false [] texts ≡ [] → HasPart texts → AreWellParts false texts
        → Suits all (rows.Choice ps) (record { nesting = deeper (parts_nesting facts 0 texts); tags = parts_tags facts false [] texts; base = base })
    suits_choice base end f h some well = record {
      free =
          free_if all (rows.Choice ps) (rows_there facts all texts ps made) (choice_size (some_part facts all texts ps made some) (few_parts facts all 256 texts ps made end)) (names_apart facts all texts ps made f) parts_shallow (tags_apart facts all shows [] texts ps made h) (no_defaults facts all texts ps made well);
      short = tt;
      deep = parts_deep;
      opens = choice_among facts all [] texts ps made;
    }
