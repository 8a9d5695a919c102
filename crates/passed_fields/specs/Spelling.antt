-- Which octets are fields of which values (X.690 8.9), apart from how they are read: the known ones in their order, each
-- of the others passed over where the format allows it.
use Rattle.std.specs.Prelude.{◌≡◌, ℕ, ◌+◌, ◌-◌, ◌%◌, ◌<◌, ◌⊎◌, Bool, true, Option, Some, List, [], ◌∷◌, ◌++◌, length, take, drop, slice_get, slice_index}
use Rattle.osi_base.specs.Limits.{most_levels}
use Rattle.asn1_types.specs.declared.row.Class.{Class}
use Rattle.asn1_types.specs.declared.row.TypeRow.{TypeRow}
use Rattle.asn1_types.specs.Value.{Value}
use Rattle.asn1_types.specs.declared.row.Tag as tags
use Rattle.asn1_types.specs.Tags.{class_of}
use Rattle.ber_spelling.specs.Rules.{plain}
use Rattle.ber_spelling.specs.Spelling.{IsConstructed, ItemsAre, ListStep, AnyIs, IsWhole, SpelledBy}
use Rattle.passed_fields.specs.declared.field.Field as known
use Rattle.passed_fields.specs.declared.field.Passed as over
use Rattle.passed_fields.specs.declared.field.Holds.{Holds}
use Rattle.passed_fields.specs.declared.field.Holds.TheVariants as holds
use Rattle.passed_fields.specs.Passing.{are_optional, nones, passes}
use Rattle.passed_fields.specs.Reading.{some_done, tag_of, fields_done}

-- a tag below 31 stands in the first octet (X.690 8.1.2)
pub record HasTag (class : Class) (number : ℕ) (spelled : List ℕ) : Type 0 where
  pub low : number < 31
  pub class_is : class_of (slice_index spelled 0) ≡ class
  pub number_is : slice_index spelled 0 % 32 ≡ number

abbrev pub SomeItems : List TypeRow → ℕ → Bool → ℕ → Value → List ℕ → Type 0
SomeItems rows of strict levels v contents = ItemsAre some_done (ListStep (SpelledBy rows (length rows) of)) [] strict levels v contents

abbrev pub HeldIs : List TypeRow → tags.Tag → Holds → Bool → ℕ → Value → List ℕ → Type 0
HeldIs rows tag (holds.Row of) strict levels v spelled = SpelledBy rows (length rows) of.0 plain strict levels v spelled
HeldIs rows tag holds.Any strict levels v spelled = AnyIs levels v spelled
HeldIs rows tag (holds.Some of) strict levels v spelled = IsConstructed tag strict levels (λ inner contents. SomeItems rows of.0 strict inner v contents) spelled

-- one of the known fields that may stand next; those before it, which don't stand, are optional
pub record KnownStep (rows : List TypeRow) (next : List known.Field) (before : List (Option Value)) (strict : Bool) (levels : ℕ) (after : List (Option Value)) (spelled : List ℕ) : Type 0 where
  pub absent : ℕ
  pub field : known.Field
  pub value : Value
  pub lies : slice_get next absent ≡ Some field
  pub may : are_optional (take absent next) ≡ true
  pub has_tag : HasTag field.class field.number spelled
  pub holds : HeldIs rows (tag_of field) field.holds strict levels value spelled
  pub is_after : after ≡ before ++ (nones absent ++ Some value ∷ [])

-- any whole value whose tag is passed over there
pub record PassedStep (passed : List over.Passed) (before : List (Option Value)) (levels : ℕ) (after : List (Option Value)) (spelled : List ℕ) : Type 0 where
  pub class : Class
  pub number : ℕ
  pub settled : ℕ
  pub has_tag : HasTag class number spelled
  pub allowed : passes passed (length before) class number ≡ Some settled
  pub level : 0 < levels
  pub whole : IsWhole most_levels spelled
  pub is_after : after ≡ before ++ nones (settled - length before)

abbrev pub FieldStep : List TypeRow → List known.Field → List over.Passed → List (Option Value) → Bool → ℕ → List (Option Value) → List ℕ → Type 0
FieldStep rows fields passed before strict levels after spelled =
    KnownStep rows (drop (length before) fields) before strict levels after spelled ⊎ PassedStep passed before levels after spelled

abbrev pub FieldsAre : List TypeRow → List known.Field → List over.Passed → Bool → ℕ → Value → List ℕ → Type 0
FieldsAre rows fields passed strict levels v contents = ItemsAre (fields_done fields) (FieldStep rows fields passed) [] strict levels v contents

-- under a tag, with a length of either form
abbrev pub FieldedIs : List TypeRow → List known.Field → List over.Passed → tags.Tag → Bool → ℕ → Value → List ℕ → Type 0
FieldedIs rows fields passed tag strict levels v spelled = IsConstructed tag strict levels (λ inner contents. FieldsAre rows fields passed strict inner v contents) spelled
