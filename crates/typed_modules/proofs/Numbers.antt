-- Walking a type adds typed rows alone.
use Rattle.std.proofs.Common.{ℕ, zero, suc, ℤ, pos, Bool, List, [], ◌∷◌, ◌++◌, Option, None, Some}
use Rattle.std.specs.Prelude.{slice_get}
use Rattle.notation_tokens.specs.declared.token.Located.{Located}
use Rattle.asn1_types.specs.declared.row.Part.{Part}
use Rattle.asn1_types.specs.declared.row.TypeId.{TypeId}
use Rattle.asn1_types.specs.declared.row.TypeRow.{TypeRow}
use Rattle.asn1_types.specs.declared.row.TypeRow.TheVariants as rows
use Rattle.operation_notation.specs.Tree.{TypeTree, type_tree, PlainTree, boolean, null, integer, enumerated, octets, bits, object_id, text, sequence_of, set_of, sequence, set, choice, named, PartTrees, no_parts, part}
use Rattle.operation_notation.specs.declared.module.TagText.{TagText}
use Rattle.operation_notation.specs.declared.module.RangeText.{RangeText}
use Rattle.operation_notation.specs.declared.module.DfltText.{DfltText}
use Rattle.operation_notation.specs.declared.module.UseText.{UseText}
use Rattle.module_faults.specs.Names.{or_none, find, type_at}
use Rattle.module_compiler.specs.Scope.{Ground, behind}
use Rattle.asn1_types.specs.Numbered.{kind_numbered, class_numbered}
use Rattle.module_compiler.specs.Numbering.{NumberedRows, Walk, after, ◌>>=◌, give, none, add, add_if, range_row, size_of, is_explicit, tag_row, tagged, default_number, with_default, part_of, parts_of, note, known, walk_new, walk_if_new, row_of, row_behind, named_row, plain_row, over, walk, type_row, use_of}
use Rattle.typed_modules.proofs.TypedRows.{IsTyped, AreTyped, one_more}

-- what walking gives has typed rows
abbrev pub Typed : {A : Type 0} → Option (A × NumberedRows) → Type 0
Typed None = Unit {0}
Typed (Some p) = AreTyped p.1.rows

-- typed rows stay so
pub record KeepsTyped (A : Type 0) (walked : Walk A) : Type 0 where
  pub each : (s : NumberedRows) → AreTyped s.rows → Typed (walked s)

abbrev pub Keeps : {A : Type 0} → Walk A → Type 0
Keeps {A} walked = KeepsTyped A walked

typed_after : {A B : Type 0} (o : Option (A × NumberedRows)) (f : A → Walk B) → Typed o → ((a : A) → Keeps (f a)) → Typed (after o f)
typed_after None f t h = tt
typed_after (Some p) f t h = (h p.0).each p.1 t

pub keeps_then : {A B : Type 0} (r : Walk A) (f : A → Walk B) → Keeps r → ((a : A) → Keeps (f a)) → Keeps (r >>= f)
keeps_then r f k h = record { each = λ s t. typed_after (r s) f (k.each s t) h }

pub keeps_give : {A : Type 0} (a : A) → Keeps (give a)
keeps_give a = record { each = λ s t. t }

pub keeps_none : (A : Type 0) → Keeps (none {A = A})
keeps_none A = record { each = λ s t. tt }

keeps_add : (row : TypeRow) → IsTyped row → Keeps (add row)
unfolding add
keeps_add row is = record { each = λ s t. one_more s.rows row t is }

keeps_add_if : {A : Type 0} (o : Option A) (row : A → TypeRow) → ((a : A) → IsTyped (row a)) → Keeps (add_if o row)
keeps_add_if None row h = keeps_none TypeId
keeps_add_if (Some a) row h = keeps_add (row a) (h a)

range_typed : (range : Option RangeText) → IsTyped (range_row range)
range_typed None = tt
range_typed (Some r) = tt

keeps_tagged : (scope : Ground) (tag : Option TagText) (inner : TypeId) → Keeps (tagged scope tag inner)
unfolding tagged
keeps_tagged scope None inner = record { each = λ s t. t }
keeps_tagged scope (Some tag) inner = record { each = λ s t. (keeps_add_if (class_numbered (pos tag.class)) (tag_row (is_explicit scope tag inner s) tag inner) (λ class. tt)).each s t }

typed_default : (name : List ℕ) (optional : Bool) (of : TypeId) (s : NumberedRows) (default : Option (Option ℤ)) → AreTyped s.rows → Typed (with_default name optional of s default)
typed_default name optional of s None t = tt
typed_default name optional of s (Some default) t = t

keeps_part : (name : Located) (optional : Bool) (dflt : Option DfltText) (of : TypeId) → Keeps (part_of name optional dflt of)
unfolding part_of
keeps_part name optional dflt of = record { each = λ s t. typed_default name.text optional of s (default_number s.rows of dflt) t }

-- over what walks a type in them
module _ (inner : TypeTree → Walk TypeId) (keeps : (of : TypeTree) → Keeps (inner of)) where
  keeps_parts : (parts : List Part) (ps : PartTrees) → Keeps (parts_of inner parts ps)
  unfolding parts_of
  keeps_parts parts no_parts = keeps_give parts
  keeps_parts parts (part name of optional dflt more) =
      keeps_then (inner of >>= part_of name optional dflt) (λ p. parts_of inner (parts ++ p ∷ []) more)
      (keeps_then (inner of) (part_of name optional dflt) (keeps of) (keeps_part name optional dflt))
      (λ p. keeps_parts (parts ++ p ∷ []) more)

  keeps_note : (place : ℕ) (id : TypeId) → Keeps (note place id)
  keeps_note place id = record { each = λ s t. t }

  keeps_new : (place : ℕ) (of : Option TypeTree) → Keeps (walk_new inner place of)
  keeps_new place None = keeps_none TypeId
  keeps_new place (Some of) = keeps_then (inner of) (note place) (keeps of) (keeps_note place)

  keeps_if_new : (place : ℕ) (of : Option TypeTree) (id : Option TypeId) → Keeps (walk_if_new inner place of id)
  keeps_if_new place of None = keeps_new place of
  keeps_if_new place of (Some id) = keeps_give id

  keeps_row : (scope : Ground) (place : ℕ) → Keeps (row_of scope inner place)
  unfolding row_of
  keeps_row scope place = record { each = λ s t. (keeps_if_new place (type_at scope.assignments place) (known (slice_get s.given place))).each s t }

  pub keeps_behind : (scope : Ground) (place : Option ℕ) → Keeps (row_behind scope inner place)
  keeps_behind scope None = keeps_none TypeId
  keeps_behind scope (Some place) = keeps_row scope place

  keeps_named : (scope : Ground) (name : List ℕ) → Keeps (named_row scope inner name)
  unfolding named_row
  keeps_named scope name = keeps_behind scope (or_none (find scope.assignments name) (behind scope.assignments))

  keeps_plain : (scope : Ground) (plain : PlainTree) → Keeps (plain_row scope inner plain)
  unfolding plain_row
  keeps_plain scope boolean = keeps_add _ tt
  keeps_plain scope null = keeps_add _ tt
  keeps_plain scope (integer range) = keeps_add _ (range_typed range)
  keeps_plain scope (enumerated items) = keeps_add _ tt
  keeps_plain scope (octets size) = keeps_add_if (size_of size) rows.OctetString (λ n. tt)
  keeps_plain scope bits = keeps_add _ tt
  keeps_plain scope object_id = keeps_add _ tt
  keeps_plain scope (text kind) = keeps_add_if (kind_numbered (pos kind)) rows.Text (λ k. tt)
  keeps_plain scope (sequence_of item) = keeps_then (inner item) (λ of. add (rows.SequenceOf of)) (keeps item) (λ of. keeps_add _ tt)
  keeps_plain scope (set_of item) = keeps_then (inner item) (λ of. add (rows.SetOf of)) (keeps item) (λ of. keeps_add _ tt)
  keeps_plain scope (sequence ps) = keeps_then (parts_of inner [] ps) (λ parts. add (rows.Sequence parts)) (keeps_parts [] ps) (λ parts. keeps_add _ tt)
  keeps_plain scope (set ps) = keeps_then (parts_of inner [] ps) (λ parts. add (rows.Set parts)) (keeps_parts [] ps) (λ parts. keeps_add _ tt)
  keeps_plain scope (choice ps) = keeps_then (parts_of inner [] ps) (λ parts. add (rows.Choice parts)) (keeps_parts [] ps) (λ parts. keeps_add _ tt)
  keeps_plain scope (named name) = keeps_named scope name.text

  keeps_over : (scope : Ground) (of : TypeTree) → Keeps (over scope inner of)
  keeps_over scope (type_tree line column tag plain) = keeps_then (plain_row scope inner plain) (tagged scope tag) (keeps_plain scope plain) (keeps_tagged scope tag)

keeps_walk : (scope : Ground) (turns : ℕ) (of : TypeTree) → Keeps (walk scope turns of)
unfolding walk
keeps_walk scope zero of = keeps_none TypeId
keeps_walk scope (suc turns) of = keeps_over (walk scope turns) (keeps_walk scope turns) scope of

pub keeps_type : (scope : Ground) (of : TypeTree) → Keeps (type_row scope of)
unfolding type_row
keeps_type scope of = keeps_walk scope 65 of

pub keeps_use : (scope : Ground) (use_ : Option UseText) → Keeps (use_of scope use_)
unfolding use_of
keeps_use scope None = keeps_give _
keeps_use scope (Some u) = keeps_then (type_row scope u.of) _ (keeps_type scope u.of) (λ id. keeps_give _)
