-- What holds of every module that is read, beside that a text reads as it.
use Rattle.std.specs.Prelude.{◌≡◌, ◌≤◌, ◌<◌, Bool, true, false, ◌&&◌, not, List, [], ◌∷◌, ◌++◌, length, Option, Some, None, IsTrue, is_some, IfSome}
use Rattle.std.specs.List.{AllByRecursion}
use Rattle.osi_base.specs.Limits.{most_32}
use Rattle.notation_tokens.specs.Forms.{is_word}
use Rattle.notation_tokens.specs.Words.{is_quoted, is_unsupported, begins_upper, begins_lower}
use Rattle.operation_notation.specs.Tree.{TypeTree, type_tree, PlainTree, boolean, null, integer, enumerated, octets, bits, object_id, text, sequence_of, set_of, sequence, set, choice, named, PartTrees, no_parts, part}
use Rattle.notation_tokens.specs.declared.token.Located.{Located}
use Rattle.operation_notation.specs.declared.module.TagText.{TagText}
use Rattle.operation_notation.specs.declared.module.ItemText.{ItemText}
use Rattle.operation_notation.specs.declared.module.RangeText.{RangeText}
use Rattle.operation_notation.specs.declared.module.DfltText.{DfltText}
use Rattle.operation_notation.specs.declared.module.DfltValue.{DfltValue}
use Rattle.operation_notation.specs.declared.module.DfltValue.TheVariants as values
use Rattle.notation_tokens.specs.Places.{NeverFall}
use Rattle.notation_tokens.specs.declared.token.Place.{Place}
use Rattle.operation_notation.specs.declared.module.UseText.{UseText}
use Rattle.operation_notation.specs.declared.module.CodeText.{CodeText}
use Rattle.operation_notation.specs.declared.module.OpText.{OpText}
use Rattle.operation_notation.specs.declared.module.ErrText.{ErrText}
use Rattle.operation_notation.specs.declared.module.Assigned.{Assigned}
use Rattle.operation_notation.specs.declared.module.Assigned.TheVariants as bodies
use Rattle.operation_notation.specs.declared.module.Assignment.{Assignment}
use Rattle.operation_notation.specs.declared.module.ModuleText.{ModuleText}

-- a Name: a word that begins with an upper-case letter and belongs to neither the grammar nor what is left out of it
pub record IsTypeName (n : Located) : Type 0 where
  pub word : IsTrue (is_word n.text)
  pub upper : IsTrue (begins_upper n.text)
  pub unquoted : is_quoted n.text ≡ false
  pub supported : is_unsupported n.text ≡ false

-- a name: a word that begins with a lower-case letter
pub record IsValueName (n : Located) : Type 0 where
  pub word : IsTrue (is_word n.text)
  pub lower : IsTrue (begins_lower n.text)

-- an item that is a default has a name's form
abbrev pub IsWellValue : DfltValue → Type 0
IsWellValue (values.Truth b) = Unit {0}
IsWellValue (values.Number n) = Unit {0}
IsWellValue (values.Item name) = IsTrue (is_word name) × IsTrue (begins_lower name)

-- how a part may be absent: not both by a mark and by a default, and not at all where it must stand
abbrev pub MayLack : Bool → Bool → Option DfltText → Type 0
MayLack may optional None = not may && optional ≡ false
MayLack may optional (Some d) = (may ≡ true) × (optional ≡ false) × IsWellValue d.value

-- a tag's class is 0 to 3, and its number has 32 bits
pub record IsTag (t : TagText) : Type 0 where
  pub class : t.class ≤ 3
  pub number : t.number ≤ most_32

-- a type whose names have their forms, whose tags and kinds of text are in range, in which an ENUMERATED and a CHOICE have an item,
-- no alternative of a CHOICE may be absent, and no part of a SEQUENCE or SET is both optional and has a default
abbrev mutual
  pub IsWellType : TypeTree → Type 0
  IsWellType (type_tree line column tag plain) = IfSome tag IsTag × IsWellPlain plain

  pub IsWellPlain : PlainTree → Type 0
  IsWellPlain boolean = Unit {0}
  IsWellPlain null = Unit {0}
  IsWellPlain (integer range) = Unit {0}
  IsWellPlain (enumerated items) = (0 < length items) × AllByRecursion (λ i. IsValueName i.name) items
  IsWellPlain (octets range) = Unit {0}
  IsWellPlain bits = Unit {0}
  IsWellPlain object_id = Unit {0}
  IsWellPlain (text kind) = kind ≤ 4
  IsWellPlain (sequence_of item) = IsWellType item
  IsWellPlain (set_of item) = IsWellType item
  IsWellPlain (sequence ps) = AreWellParts true ps
  IsWellPlain (set ps) = AreWellParts true ps
  IsWellPlain (choice ps) = HasPart ps × AreWellParts false ps
  IsWellPlain (named name) = IsTypeName name

  pub AreWellParts : Bool → PartTrees → Type 0
  AreWellParts may no_parts = Unit {0}
  AreWellParts may (part name of optional dflt ps) = IsValueName name × IsWellType of × MayLack may optional dflt × AreWellParts may ps

  pub HasPart : PartTrees → Type 0
  HasPart no_parts = ⊥
  HasPart (part name of optional dflt ps) = Unit {0}

abbrev pub IsWellUse : UseText → Type 0
IsWellUse u = IsWellType u.of

-- a code has exactly one of its two values
abbrev pub IsWellCode : CodeText → Type 0
IsWellCode c = is_some c.local ≡ not (is_some c.global)

pub record IsWellOperation (o : OpText) : Type 0 where
  pub argument : IfSome o.argument IsWellUse
  pub result : IfSome o.result IsWellUse
  pub errors : AllByRecursion IsValueName o.errors
  pub linked : AllByRecursion IsValueName o.linked
  pub code : IfSome o.code IsWellCode

pub record IsWellError (e : ErrText) : Type 0 where
  pub parameter : IfSome e.parameter IsWellUse
  pub code : IfSome e.code IsWellCode

-- a type has a Name, an operation and an error have a name
abbrev pub IsWellBody : Located → Assigned → Type 0
IsWellBody name (bodies.Typed of) = IsTypeName name × IsWellType of
IsWellBody name (bodies.Operation operation) = IsValueName name × IsWellOperation operation
IsWellBody name (bodies.Error error) = IsValueName name × IsWellError error

abbrev pub IsWellAssignment : Assignment → Type 0
IsWellAssignment a = IsWellBody a.name a.body

-- ---- places in text order

abbrev pub name_place : Located → Place
name_place n = record { line = n.line; column = n.column }

abbrev pub name_places : List Located → List Place
name_places [] = []
name_places (n ∷ ns) = name_place n ∷ name_places ns

abbrev pub item_places : List ItemText → List Place
item_places [] = []
item_places (i ∷ is) = name_place i.name ∷ item_places is

abbrev pub range_places : Option RangeText → List Place
range_places None = []
range_places (Some r) = record { line = r.line; column = r.column } ∷ []

abbrev pub dflt_places : Option DfltText → List Place
dflt_places None = []
dflt_places (Some d) = record { line = d.line; column = d.column } ∷ []

abbrev mutual
  pub type_places : TypeTree → List Place
  type_places (type_tree line column tag plain) = record { line = line; column = column } ∷ plain_places plain

  pub plain_places : PlainTree → List Place
  plain_places boolean = []
  plain_places null = []
  plain_places (integer range) = range_places range
  plain_places (enumerated items) = item_places items
  plain_places (octets range) = range_places range
  plain_places bits = []
  plain_places object_id = []
  plain_places (text kind) = []
  plain_places (sequence_of item) = type_places item
  plain_places (set_of item) = type_places item
  plain_places (sequence ps) = part_places ps
  plain_places (set ps) = part_places ps
  plain_places (choice ps) = part_places ps
  plain_places (named name) = name_place name ∷ []

  pub part_places : PartTrees → List Place
  part_places no_parts = []
  part_places (part name of optional dflt ps) = ((name_place name ∷ type_places of) ++ dflt_places dflt) ++ part_places ps

abbrev pub use_places : Option UseText → List Place
use_places None = []
use_places (Some u) = record { line = u.line; column = u.column } ∷ type_places u.of

abbrev pub code_places : Option CodeText → List Place
code_places None = []
code_places (Some c) = record { line = c.line; column = c.column } ∷ []

abbrev pub body_places : Assigned → List Place
body_places (bodies.Typed of) = type_places of
body_places (bodies.Operation o) = (((use_places o.argument ++ use_places o.result) ++ name_places o.errors) ++ name_places o.linked) ++ code_places o.code
body_places (bodies.Error e) = use_places e.parameter ++ code_places e.code

abbrev pub assignment_places : List Assignment → List Place
assignment_places [] = []
assignment_places (a ∷ more) = (name_place a.name ∷ body_places a.body) ++ assignment_places more

abbrev pub module_places : ModuleText → List Place
module_places m = name_place m.name ∷ assignment_places m.assignments

pub record IsWellFormed (m : ModuleText) : Type 0 where
  pub name : IsTypeName m.name
  pub assignments : AllByRecursion IsWellAssignment m.assignments
  pub places : NeverFall (module_places m)
