-- The grammar of object identifiers and types (X.680 17 to 31, X.680 32.3, in the profile of X.880 that is supported).
use Rattle.std.specs.Prelude.{codes, ℕ, zero, suc, ◌+◌, ℤ, pos, Bool, true, false, List, [], ◌∷◌, Option, Some, None, option_map, if◌then◌else◌}
use Rattle.std.specs.Option.{option_or}
use Rattle.osi_base.specs.Oid.{IsOid}
use Rattle.osi_base.specs.Limits.{most_32, most_signed, most_type_levels}
use Rattle.notation_tokens.specs.Lexeme.{Lexeme}
use Rattle.notation_tokens.specs.Words.{number_of, int_of, end_of, text_kind_of, root_name, is_value_name, type_name_of, value_name_of, bool_of, arc_name_of}
use Rattle.operation_notation.specs.Grammar.{◌>>=◌, One, Nothing, Either, Where, Maybe, Many, The, Behind, Listed, Placed}
use Rattle.operation_notation.specs.Tree.{TypeTree, type_tree, PlainTree, boolean, null, integer, enumerated, octets, bits, object_id, text, sequence_of, set_of, sequence, set, choice, named}
use Rattle.operation_notation.specs.TreeView.{parts_of}
use Rattle.operation_notation.specs.declared.module.RangeText.{RangeText}
use Rattle.operation_notation.specs.declared.module.TagText.{TagText}
use Rattle.operation_notation.specs.declared.module.ItemText.{ItemText}
use Rattle.operation_notation.specs.declared.module.PartText.{PartText}
use Rattle.operation_notation.specs.declared.module.DfltText.{DfltText}
use Rattle.operation_notation.specs.declared.module.DfltValue.{DfltValue}
use Rattle.operation_notation.specs.declared.module.DfltValue.TheVariants as values
use Rattle.operation_notation.specs.declared.structured_types.Absence.{Absence}
use Rattle.notation_tokens.specs.declared.token.Located.{Located}
use Rattle.notation_tokens.specs.declared.token.Place.{Place}

-- How far a grammar goes: how many levels deep types may stand in one another; whether a mark may stand where a type would be one level
-- too deep; and whether some of what isn't supported may stand: a brace behind a Name that is used as a type, and an import of another
-- name than the two classes'.
pub record Extent : Type 0 where
  pub levels : ℕ
  pub marked : Bool
  pub wide : Bool

-- the notation
abbrev pub narrow : Extent
narrow = record { levels = most_type_levels; marked = false; wide = false }

-- the notation with marks, so that what stands in front of a type one level too deep begins a module too
abbrev pub marked : Extent
marked = record { levels = most_type_levels; marked = true; wide = false }

-- the notation with a little of what isn't supported; a CHOICE one level too deep holds a type one level deeper
abbrev pub wide : Extent
wide = record { levels = most_type_levels + 2; marked = false; wide = true }

-- a mark is a token without text, which no text holds
abbrev pub is_empty : List ℕ → Bool
is_empty [] = true
is_empty (c ∷ cs) = false

abbrev pub mark_of : Lexeme → Option TypeTree
mark_of t = if is_empty t.text then Some (type_tree t.line t.column None null) else None

-- ---- object identifiers (X.680 32.3): Oid = "{" Arc {Arc} "}"

-- a name that stands for a first arc alone
abbrev pub root_of : Lexeme → Option ℕ
root_of t = if is_value_name t.kind t.text then root_name t.text else None

-- name "(" number ")"
abbrev pub NamedArc : List Lexeme → ℕ → Type 0
NamedArc = do
  _ ← One arc_name_of
  _ ← The (codes "(")
  arc ← One (number_of most_32)
  _ ← The (codes ")")
  Nothing arc

-- Arc = number | name "(" number ")"
abbrev pub Arc : List Lexeme → ℕ → Type 0
Arc = Either (One (number_of most_32)) NamedArc

-- the first arc may also be a word alone
abbrev pub Root : List Lexeme → ℕ → Type 0
Root = Either Arc (One root_of)

abbrev pub Arcs : List Lexeme → List ℕ → Type 0
Arcs = do
  _ ← The (codes "{")
  root ← Root
  others ← Many Arc
  _ ← The (codes "}")
  Nothing (root ∷ others)

-- arcs in braces that are an object identifier
pub record OidSpelled (ts : List Lexeme) (arcs : List ℕ) : Type 0 where
  pub spelled : Arcs ts arcs
  pub is_oid : IsOid arcs

-- ---- types

-- "(" End ".." End ")", with the place of the first end
abbrev pub RangeBehind : Place → List Lexeme → RangeText → Type 0
RangeBehind at = do
  low ← One end_of
  _ ← The (codes "..")
  high ← One end_of
  _ ← The (codes ")")
  Nothing (record { line = at.line; column = at.column; low = low; high = high })

abbrev pub Range : List Lexeme → RangeText → Type 0
Range = Behind (codes "(") (Placed RangeBehind)

abbrev pub Number64 : List Lexeme → ℤ → Type 0
Number64 = One (number_of most_signed) >>= λ n. Nothing (pos n)

-- "(" "SIZE" "(" number ".." number ")" ")", with the place of the first number
abbrev pub SizeBehind : Place → List Lexeme → RangeText → Type 0
SizeBehind at = do
  low ← Number64
  _ ← The (codes "..")
  high ← Number64
  _ ← The (codes ")")
  _ ← The (codes ")")
  Nothing (record { line = at.line; column = at.column; low = low; high = high })

abbrev pub Size : List Lexeme → RangeText → Type 0
Size = Behind (codes "(") (Behind (codes "SIZE") (Behind (codes "(") (Placed SizeBehind)))

-- Item = name "(" int ")"
abbrev pub Item : List Lexeme → ItemText → Type 0
Item = do
  name ← One value_name_of
  _ ← The (codes "(")
  number ← One int_of
  _ ← The (codes ")")
  Nothing (record { name = name; number = number })

abbrev pub Items : List Lexeme → List ItemText → Type 0
Items = do
  _ ← The (codes "{")
  items ← Listed (codes ",") Item
  _ ← The (codes "}")
  Nothing items

-- ["UNIVERSAL" | "APPLICATION" | "PRIVATE"]: classes 0, 1 and 3, and 2 where none is written
abbrev pub Class : List Lexeme → ℕ → Type 0
Class = Either (The (codes "UNIVERSAL") >>= λ _. Nothing 0)
    (Either (The (codes "APPLICATION") >>= λ _. Nothing 1)
    (Either (The (codes "PRIVATE") >>= λ _. Nothing 3) (Nothing 2)))

-- ["IMPLICIT" | "EXPLICIT"]
abbrev pub Explicit : List Lexeme → Option Bool → Type 0
Explicit = Either (The (codes "IMPLICIT") >>= λ _. Nothing (Some false)) (Either (The (codes "EXPLICIT") >>= λ _. Nothing (Some true)) (Nothing None))

-- "[" Class number "]" Explicit
abbrev pub Tag : List Lexeme → TagText → Type 0
Tag = do
  _ ← The (codes "[")
  class ← Class
  number ← One (number_of most_32)
  _ ← The (codes "]")
  explicit ← Explicit
  Nothing (record { class = class; number = number; explicit = explicit })

-- Dflt = "TRUE" | "FALSE" | int | name, with its place
abbrev pub item_value : Located → DfltValue
item_value name = values.Item name.text

abbrev pub dflt_value : Lexeme → Option DfltValue
dflt_value t = option_or (option_map values.Truth (bool_of t)) (option_or (option_map values.Number (int_of t)) (option_map item_value (value_name_of t)))

abbrev pub dflt_text : Lexeme → DfltValue → DfltText
dflt_text t value = record { line = t.line; column = t.column; value = value }

unfoldable pub dflt_of : Lexeme → Option DfltText
dflt_of t = option_map (dflt_text t) (dflt_value t)

-- a part that must stand, one that is optional, and one with a default
abbrev pub standing : Absence
standing = record { optional = false; dflt = None }

abbrev pub optional : Absence
optional = record { optional = true; dflt = None }

abbrev pub by_default : DfltText → Absence
by_default d = record { optional = false; dflt = Some d }

-- ["OPTIONAL" | "DEFAULT" Dflt], where it may be written
abbrev pub Absent : Bool → List Lexeme → Absence → Type 0
Absent true = Either (The (codes "OPTIONAL") >>= λ _. Nothing optional) (Either (The (codes "DEFAULT") >>= λ _. One dflt_of >>= λ d. Nothing (by_default d)) (Nothing standing))
Absent false = Nothing standing

-- Part = name Type ["OPTIONAL" | "DEFAULT" Dflt], Alt = name Type
abbrev pub Part : Bool → (List Lexeme → TypeTree → Type 0) → List Lexeme → PartText → Type 0
Part may Inner = do
  name ← One value_name_of
  of ← Inner
  absence ← Absent may
  Nothing (record { name = name; of = of; optional = absence.optional; dflt = absence.dflt })

-- "{" [Part {"," Part}] "}"
abbrev pub Parts : (List Lexeme → TypeTree → Type 0) → List Lexeme → List PartText → Type 0
Parts Inner = do
  _ ← The (codes "{")
  parts ← Either (Nothing []) (Listed (codes ",") (Part true Inner))
  _ ← The (codes "}")
  Nothing parts

-- "{" Alt {"," Alt} "}"
abbrev pub Alternatives : (List Lexeme → TypeTree → Type 0) → List Lexeme → List PartText → Type 0
Alternatives Inner = do
  _ ← The (codes "{")
  parts ← Listed (codes ",") (Part false Inner)
  _ ← The (codes "}")
  Nothing parts

abbrev pub Boolean : List Lexeme → PlainTree → Type 0
Boolean = The (codes "BOOLEAN") >>= λ _. Nothing boolean

abbrev pub Null : List Lexeme → PlainTree → Type 0
Null = The (codes "NULL") >>= λ _. Nothing null

abbrev pub Integer : List Lexeme → PlainTree → Type 0
Integer = do
  _ ← The (codes "INTEGER")
  range ← Maybe Range
  Nothing (integer range)

abbrev pub Enumerated : List Lexeme → PlainTree → Type 0
Enumerated = do
  _ ← The (codes "ENUMERATED")
  items ← Items
  Nothing (enumerated items)

abbrev pub OctetString : List Lexeme → PlainTree → Type 0
OctetString = do
  _ ← The (codes "OCTET")
  _ ← The (codes "STRING")
  size ← Maybe Size
  Nothing (octets size)

abbrev pub BitString : List Lexeme → PlainTree → Type 0
BitString = do
  _ ← The (codes "BIT")
  _ ← The (codes "STRING")
  Nothing bits

abbrev pub ObjectIdentifier : List Lexeme → PlainTree → Type 0
ObjectIdentifier = do
  _ ← The (codes "OBJECT")
  _ ← The (codes "IDENTIFIER")
  Nothing object_id

abbrev pub Text : List Lexeme → PlainTree → Type 0
Text = One text_kind_of >>= λ kind. Nothing (text kind)

-- a Name, and a brace behind it where one may stand
abbrev pub Named : Extent → List Lexeme → PlainTree → Type 0
Named ext = do
  name ← One type_name_of
  Either (Where ext.wide (The (codes "{") >>= λ _. Nothing (named name))) (Nothing (named name))

-- types that hold no others
abbrev pub Leaf : Extent → List Lexeme → PlainTree → Type 0
Leaf ext = Either Boolean (Either Null (Either Integer (Either Enumerated (Either OctetString (Either BitString (Either ObjectIdentifier (Either Text (Named ext))))))))

-- "SEQUENCE" "OF" Type | "SEQUENCE" Parts
abbrev pub Sequence : (List Lexeme → TypeTree → Type 0) → List Lexeme → PlainTree → Type 0
Sequence Inner = Behind (codes "SEQUENCE") (Either (Behind (codes "OF") (Inner >>= λ item. Nothing (sequence_of item))) (Parts Inner >>= λ parts. Nothing (sequence (parts_of parts))))

-- "SET" "OF" Type | "SET" Parts
abbrev pub Set : (List Lexeme → TypeTree → Type 0) → List Lexeme → PlainTree → Type 0
Set Inner = Behind (codes "SET") (Either (Behind (codes "OF") (Inner >>= λ item. Nothing (set_of item))) (Parts Inner >>= λ parts. Nothing (set (parts_of parts))))

abbrev pub Choice : (List Lexeme → TypeTree → Type 0) → List Lexeme → PlainTree → Type 0
Choice Inner = Behind (codes "CHOICE") (Alternatives Inner >>= λ parts. Nothing (choice (parts_of parts)))

abbrev pub Plain : Extent → (List Lexeme → TypeTree → Type 0) → List Lexeme → PlainTree → Type 0
Plain ext Inner = Either (Sequence Inner) (Either (Set Inner) (Either (Choice Inner) (Leaf ext)))

-- Type = [Tag] Plain, with the place of its first token
abbrev pub TypeBehind : Extent → (List Lexeme → TypeTree → Type 0) → Place → List Lexeme → TypeTree → Type 0
TypeBehind ext Inner at = do
  tag ← Maybe Tag
  plain ← Plain ext Inner
  Nothing (type_tree at.line at.column tag plain)

-- a type in which types stand in one another at most so many levels deep; behind the last level, a mark where one may stand
unfoldable pub Type_of : Extent → ℕ → List Lexeme → TypeTree → Type 0
Type_of ext zero ts t = Where ext.marked (One mark_of) ts t
Type_of ext (suc levels) ts t = Placed (TypeBehind ext (Type_of ext levels)) ts t

-- a type at the outermost level
abbrev pub OuterType : Extent → List Lexeme → TypeTree → Type 0
OuterType ext = Type_of ext ext.levels
