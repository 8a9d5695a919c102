-- What types are as a whole: how deep their rows nest, with which tags their values begin, and which defaults they take.
use Rattle.std.specs.Prelude.{ℕ, zero, suc, ◌+◌, ℤ, pos, negsuc, nat_eq, nat_lt, Bool, true, false, not, ◌&&◌, max, List, [], ◌∷◌, ◌++◌, length, Option, None, Some, is_some, if◌then◌else◌, nat_le}
use Rattle.std.specs.List.{list_any}
use Rattle.std.specs.Prelude.{int_lt}
use Rattle.std.specs.Str.{bytes_eq}
use Rattle.osi_base.specs.Limits.{most_levels, most_signed, most_type_levels}
use Rattle.operation_notation.specs.Tree.{TypeTree, type_tree, PlainTree, boolean, null, integer, enumerated, octets, bits, object_id, text, sequence_of, set_of, sequence, set, choice, named, PartTrees, no_parts, part}
use Rattle.operation_notation.specs.declared.module.Assignment.{Assignment}
use Rattle.operation_notation.specs.declared.module.DfltText.{DfltText}
use Rattle.operation_notation.specs.declared.module.DfltValue.{DfltValue}
use Rattle.operation_notation.specs.declared.module.DfltValue.TheVariants as values
use Rattle.operation_notation.specs.declared.module.ItemText.{ItemText}
use Rattle.operation_notation.specs.declared.module.RangeText.{RangeText}
use Rattle.operation_notation.specs.declared.module.TagText.{TagText}
use Rattle.module_faults.specs.declared.kind.TableKind.TheVariants as kinds
use Rattle.module_faults.specs.declared.least.Found.{Found}
use Rattle.module_faults.specs.declared.tags.Tag.{Tag}
use Rattle.module_faults.specs.Least.{fault, at_name, if_so}
use Rattle.module_faults.specs.Names.{type_at, type_place}

-- what a type is under its names and tags, as far as a default needs it; nothing is known of one whose name is unknown or reaches itself
pub data DefaultKind : Type 0 where
  truth : DefaultKind
  numbers : ℤ → ℤ → DefaultKind
  items : List ItemText → DefaultKind
  other : DefaultKind
  unknown : DefaultKind

pub record Facts : Type 0 where
  pub nesting : ℕ
  pub tags : List Tag
  pub base : DefaultKind

-- ---- nesting: how deep a row nests, or one more than the levels that a row may have

abbrev pub deeper : ℕ → ℕ
deeper n = if nat_le n most_levels then n + 1 else n

abbrev pub is_too_deep : ℕ → Bool
is_too_deep n = nat_lt most_levels n

-- ---- tags: those with which a value may begin, each once

abbrev pub same_tag : Tag → Tag → Bool
same_tag a b = nat_eq a.class b.class && nat_eq a.number b.number

abbrev pub has_tag : List Tag → Tag → Bool
has_tag tags tag = list_any (same_tag tag) tags

abbrev pub with_tag : List Tag → Tag → List Tag
with_tag tags tag = if has_tag tags tag then tags else tags ++ tag ∷ []

abbrev pub with_tags : List Tag → List Tag → List Tag
with_tags before [] = before
with_tags before (tag ∷ tags) = with_tags (with_tag before tag) tags

-- some tag of a part stands before
abbrev pub clash : List Tag → List Tag → Bool
clash before tags = list_any (has_tag before) tags

-- In a SEQUENCE a part is told from those right before that may be absent, in a SET or CHOICE from all (X.680 25.5, 27.3, 29.3): the tags
-- that stand before the part behind this one.
abbrev pub tags_behind : Bool → Bool → Option DfltText → List Tag → List Tag
tags_behind runs optional dflt tags = if runs && (not optional && not (is_some dflt)) then [] else tags

-- ---- defaults (X.680 25.9)

abbrev pub has_item : List ItemText → List ℕ → Bool
has_item all name = list_any (λ (item : ItemText). bytes_eq item.name.text name) all

abbrev pub takes : DefaultKind → DfltValue → Bool
takes truth (values.Truth b) = true
takes (numbers low high) (values.Number n) = not (int_lt n low) && not (int_lt high n)
takes (items all) (values.Item name) = has_item all name
takes unknown value = true
takes base value = false

abbrev pub default_faults : DefaultKind → Option DfltText → List Found
default_faults base None = []
default_faults base (Some dflt) = if_so (not (takes base dflt.value)) (fault dflt.line dflt.column kinds.BadDefault)

-- ---- types, by the facts of their names

abbrev pub nothing : Facts
nothing = record { nesting = 0; tags = []; base = unknown }

-- a type whose values begin with one universal tag
abbrev pub simple : ℕ → ℕ → DefaultKind → Facts
simple number nesting base = record { nesting = nesting; tags = record { class = 0; number = number } ∷ []; base = base }

abbrev pub range_base : Option RangeText → DefaultKind
range_base None = numbers (negsuc most_signed) (pos most_signed)
range_base (Some r) = numbers r.low r.high

-- the universal tag of a kind of text
abbrev pub text_tag : ℕ → ℕ
text_tag zero = 12
text_tag (suc zero) = 22
text_tag (suc (suc zero)) = 26
text_tag (suc (suc (suc zero))) = 19
text_tag (suc (suc (suc (suc n)))) = 18

-- the greatest nesting of parts, or that so far
abbrev pub parts_nesting : (TypeTree → Facts) → ℕ → PartTrees → ℕ
parts_nesting inner so_far no_parts = so_far
parts_nesting inner so_far (part name of optional dflt more) = parts_nesting inner (max so_far (inner of).nesting) more

abbrev pub parts_tags : (TypeTree → Facts) → Bool → List Tag → PartTrees → List Tag
parts_tags inner runs before no_parts = before
parts_tags inner runs before (part name of optional dflt more) = parts_tags inner runs (tags_behind runs optional dflt (with_tags before (inner of).tags)) more

abbrev pub plain_facts : (List ℕ → Facts) → (TypeTree → Facts) → PlainTree → Facts
plain_facts env inner boolean = simple 1 1 truth
plain_facts env inner (integer range) = simple 2 1 (range_base range)
plain_facts env inner bits = simple 3 1 other
plain_facts env inner (octets size) = simple 4 1 other
plain_facts env inner null = simple 5 1 other
plain_facts env inner object_id = simple 6 1 other
plain_facts env inner (enumerated all) = simple 10 1 (items all)
plain_facts env inner (text kind) = simple (text_tag kind) 1 other
plain_facts env inner (sequence_of item) = simple 16 (deeper (inner item).nesting) other
plain_facts env inner (set_of item) = simple 17 (deeper (inner item).nesting) other
plain_facts env inner (sequence ps) = simple 16 (deeper (parts_nesting inner 0 ps)) other
plain_facts env inner (set ps) = simple 17 (deeper (parts_nesting inner 0 ps)) other
plain_facts env inner (choice ps) = record { nesting = deeper (parts_nesting inner 0 ps); tags = parts_tags inner false [] ps; base = other }
plain_facts env inner (named name) = env name.text

abbrev pub tagged : Option TagText → Facts → Facts
tagged None facts = facts
tagged (Some tag) facts = record { nesting = deeper facts.nesting; tags = record { class = tag.class; number = tag.number } ∷ []; base = facts.base }

abbrev pub facts_over : (List ℕ → Facts) → (TypeTree → Facts) → TypeTree → Facts
facts_over env inner (type_tree line column tag plain) = tagged tag (plain_facts env inner plain)

unfoldable pub type_facts : (List ℕ → Facts) → ℕ → TypeTree → Facts
type_facts env zero of = simple 0 (most_levels + 1) other
type_facts env (suc levels) of = facts_over env (type_facts env levels) of

-- ---- what they show

abbrev pub parts_show : (TypeTree → Facts) → (TypeTree → List Found) → Bool → List Tag → PartTrees → List Found
parts_show facts inner runs before no_parts = []
parts_show facts inner runs before (part name of optional dflt more) =
    (inner of ++ (if_so (clash before (facts of).tags) (at_name name kinds.TagsNotDistinct) ++ default_faults (facts of).base dflt))
    ++ parts_show facts inner runs (tags_behind runs optional dflt (with_tags before (facts of).tags)) more

abbrev pub plain_shows : (TypeTree → Facts) → (TypeTree → List Found) → PlainTree → List Found
plain_shows facts inner (sequence_of item) = inner item
plain_shows facts inner (set_of item) = inner item
plain_shows facts inner (sequence ps) = parts_show facts inner true [] ps
plain_shows facts inner (set ps) = parts_show facts inner false [] ps
plain_shows facts inner (choice ps) = parts_show facts inner false [] ps
plain_shows facts inner plain = []

abbrev pub shows_over : (TypeTree → Facts) → (TypeTree → List Found) → TypeTree → List Found
shows_over facts inner (type_tree line column tag plain) = plain_shows facts inner plain

-- parts that their tags don't tell from others, and defaults that their types don't take
unfoldable pub type_shows : (List ℕ → Facts) → ℕ → TypeTree → List Found
type_shows env zero of = []
type_shows env (suc levels) of = shows_over (type_facts env levels) (type_shows env levels) of

-- ---- names

abbrev pub facts_by : (List ℕ → Facts) → Option TypeTree → Facts
facts_by env None = nothing
facts_by env (Some of) = type_facts env most_type_levels of

abbrev pub facts_at : List Assignment → (ℕ → Bool) → (List ℕ → Facts) → Option ℕ → Facts
facts_at all recursive env None = nothing
facts_at all recursive env (Some place) = if recursive place then nothing else facts_by env (type_at all place)

-- The facts of the type of a name, over at most so many names one behind the other: what a name that is unknown or reaches itself would
-- add isn't asked.
unfoldable pub name_facts : List Assignment → (ℕ → Bool) → ℕ → List ℕ → Facts
name_facts all recursive zero name = nothing
name_facts all recursive (suc turns) name = facts_at all recursive (name_facts all recursive turns) (type_place all name)

-- Names of which none reaches itself are one behind the other at most as many as assignments.
abbrev pub env_of : List Assignment → (ℕ → Bool) → List ℕ → Facts
env_of all recursive = name_facts all recursive (length all + 1)
