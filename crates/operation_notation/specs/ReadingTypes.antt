-- Reading types and object identifiers, with the first fault that is met.
use Rattle.std.specs.Prelude.{ℕ, zero, suc, codes, Bool, true, false, ◌&&◌, ◌||◌, List, [], ◌∷◌, Option, Some, None, is_some, nat_lt, Ok, if◌then◌else◌}
use Rattle.std.specs.List.{list_any}
use Rattle.osi_base.specs.Limits.{most_32}
use Rattle.notation_tokens.specs.Lexeme.{Lexeme, same, begins, goes_on}
use Rattle.notation_tokens.specs.Words.{is_type_name, is_value_name, arc_name_of, root_name, text_kind_of}
use Rattle.operation_notation.specs.Reading.{◌>>=◌, Read, give, here, refuse, refuse_as, kind_at, token_at, word_at, type_name_at, value_name_at, number_at, number_64_at, int_at, end_at, maybe_at, many_at, listed_at}
use Rattle.operation_notation.specs.Tree.{TypeTree, type_tree, PlainTree, boolean, null, integer, enumerated, octets, bits, object_id, text, sequence_of, set_of, sequence, set, choice, named}
use Rattle.operation_notation.specs.TreeView.{parts_of}
use Rattle.operation_notation.specs.GrammarTypes.{Extent, is_empty, mark_of, dflt_of, standing, optional, by_default}
use Rattle.notation_tokens.specs.declared.faults.NotationKind.{NotationKind}
use Rattle.notation_tokens.specs.declared.faults.NotationKind.TheVariants.{Unsupported}
use Rattle.operation_notation.specs.declared.module.RangeText.{RangeText}
use Rattle.operation_notation.specs.declared.module.TagText.{TagText}
use Rattle.operation_notation.specs.declared.module.ItemText.{ItemText}
use Rattle.operation_notation.specs.declared.module.PartText.{PartText}
use Rattle.operation_notation.specs.declared.module.DfltText.{DfltText}
use Rattle.operation_notation.specs.declared.structured_types.Absence.{Absence}
use Rattle.notation_tokens.specs.declared.token.Place.{Place}
use Rattle.notation_tokens.specs.declared.token.Located.{Located}

-- ---- object identifiers

abbrev pub starts_name : List Lexeme → Bool
starts_name [] = false
starts_name (t ∷ ts) = is_value_name t.kind t.text

abbrev pub root_word : List Lexeme → Option ℕ
root_word [] = None
root_word (t ∷ ts) = root_name t.text

unfoldable pub arc_name_at : List Lexeme → Read Place
arc_name_at = token_at arc_name_of

unfoldable pub bracketed_at : ℕ → List Lexeme → Read ℕ
bracketed_at most = do
  _ ← word_at (codes "(")
  arc ← number_at most
  _ ← word_at (codes ")")
  give arc

unfoldable pub arc_at : ℕ → List Lexeme → Read ℕ
arc_at most ts = if starts_name ts then (arc_name_at >>= λ _. bracketed_at most) ts else number_at most ts

-- a name alone, where it stands for a first arc
abbrev pub alone_at : Option ℕ → List Lexeme → Read ℕ
alone_at (Some root) ts = Ok (root, ts)
alone_at None ts = refuse ts

unfoldable pub named_root_at : Option ℕ → List Lexeme → Read ℕ
named_root_at root ts = if begins (codes "(") ts then bracketed_at 2 ts else alone_at root ts

unfoldable pub root_at : List Lexeme → Read ℕ
root_at ts = if starts_name ts then (arc_name_at >>= λ _. named_root_at (root_word ts)) ts else number_at 2 ts

abbrev pub most_second : ℕ → ℕ
most_second root = if nat_lt root 2 then 39 else most_32

unfoldable pub oid_at : List Lexeme → Read (List ℕ)
oid_at = do
  _ ← word_at (codes "{")
  root ← root_at
  second ← arc_at (most_second root)
  others ← many_at (goes_on (codes "}")) (arc_at most_32) 30
  _ ← word_at (codes "}")
  give (root ∷ second ∷ others)

-- ---- types

unfoldable pub range_at : List Lexeme → Read RangeText
range_at = do
  _ ← word_at (codes "(")
  at ← here
  low ← end_at
  _ ← word_at (codes "..")
  high ← end_at
  _ ← word_at (codes ")")
  give (record { line = at.line; column = at.column; low = low; high = high })

unfoldable pub size_at : List Lexeme → Read RangeText
size_at = do
  _ ← word_at (codes "(")
  _ ← word_at (codes "SIZE")
  _ ← word_at (codes "(")
  at ← here
  low ← number_64_at
  _ ← word_at (codes "..")
  high ← number_64_at
  _ ← word_at (codes ")")
  _ ← word_at (codes ")")
  give (record { line = at.line; column = at.column; low = low; high = high })

unfoldable pub item_at : List Lexeme → Read ItemText
item_at = do
  name ← value_name_at
  _ ← word_at (codes "(")
  number ← int_at
  _ ← word_at (codes ")")
  give (record { name = name; number = number })

unfoldable pub items_at : List Lexeme → Read (List ItemText)
items_at = do
  _ ← word_at (codes "{")
  items ← listed_at (codes ",") item_at
  _ ← word_at (codes "}")
  give items

-- the class of a tag: the word, or context-specific where none stands
unfoldable pub class_at : List Lexeme → Read ℕ
class_at ts =
    if begins (codes "UNIVERSAL") ts then (word_at (codes "UNIVERSAL") >>= λ _. give 0) ts else
    if begins (codes "APPLICATION") ts then (word_at (codes "APPLICATION") >>= λ _. give 1) ts else
    if begins (codes "PRIVATE") ts then (word_at (codes "PRIVATE") >>= λ _. give 3) ts else Ok (2, ts)

unfoldable pub explicit_at : List Lexeme → Read (Option Bool)
explicit_at ts =
    if begins (codes "IMPLICIT") ts then (word_at (codes "IMPLICIT") >>= λ _. give (Some false)) ts else
    if begins (codes "EXPLICIT") ts then (word_at (codes "EXPLICIT") >>= λ _. give (Some true)) ts else Ok (None, ts)

unfoldable pub tag_at : List Lexeme → Read TagText
tag_at = do
  _ ← word_at (codes "[")
  class ← class_at
  number ← number_at most_32
  _ ← word_at (codes "]")
  explicit ← explicit_at
  give (record { class = class; number = number; explicit = explicit })

unfoldable pub dflt_at : List Lexeme → Read DfltText
dflt_at = token_at dflt_of

-- how a part may be absent
unfoldable pub absence_at : List Lexeme → Read Absence
absence_at ts =
    if begins (codes "OPTIONAL") ts then (word_at (codes "OPTIONAL") >>= λ _. give optional) ts else
    if begins (codes "DEFAULT") ts then (word_at (codes "DEFAULT") >>= λ _. dflt_at >>= λ d. give (by_default d)) ts else Ok (standing, ts)

-- the same, where that may be written
unfoldable pub absent_at : Bool → List Lexeme → Read Absence
absent_at may ts = if may then absence_at ts else Ok (standing, ts)

unfoldable pub part_at : Bool → (List Lexeme → Read TypeTree) → List Lexeme → Read PartText
part_at may inner = do
  name ← value_name_at
  of ← inner
  absence ← absent_at may
  give (record { name = name; of = of; optional = absence.optional; dflt = absence.dflt })

-- parts of a SEQUENCE or SET, of which there may be none
unfoldable pub parts_at : (List Lexeme → Read TypeTree) → List Lexeme → Read (List PartText)
parts_at inner = do
  _ ← word_at (codes "{")
  parts ← λ ts. if begins (codes "}") ts then Ok ([], ts) else listed_at (codes ",") (part_at true inner) ts
  _ ← word_at (codes "}")
  give parts

-- alternatives of a CHOICE
unfoldable pub alternatives_at : (List Lexeme → Read TypeTree) → List Lexeme → Read (List PartText)
alternatives_at inner = do
  _ ← word_at (codes "{")
  parts ← listed_at (codes ",") (part_at false inner)
  _ ← word_at (codes "}")
  give parts

abbrev pub text_kind : List Lexeme → Option ℕ
text_kind [] = None
text_kind (t ∷ ts) = text_kind_of t

unfoldable pub text_kind_at : List Lexeme → Read ℕ
text_kind_at = token_at text_kind_of

-- behind a Name nothing in braces is supported
abbrev pub brace_at : Extent → Located → List Lexeme → Read PlainTree
brace_at ext name ts = if ext.wide then (word_at (codes "{") >>= λ _. give (named name)) ts else refuse_as Unsupported ts

abbrev pub named_at : Extent → Located → List Lexeme → Read PlainTree
named_at ext name ts = if begins (codes "{") ts then brace_at ext name ts else Ok (named name, ts)

-- a text, or the name of a type
unfoldable pub text_or_name_at : Extent → List Lexeme → Read PlainTree
text_or_name_at ext ts = if is_some (text_kind ts) then (text_kind_at >>= λ kind. give (text kind)) ts else (type_name_at >>= named_at ext) ts

unfoldable pub integer_at : List Lexeme → Read PlainTree
integer_at = do
  _ ← word_at (codes "INTEGER")
  range ← maybe_at (codes "(") range_at
  give (integer range)

unfoldable pub octets_at : List Lexeme → Read PlainTree
octets_at = do
  _ ← word_at (codes "OCTET")
  _ ← word_at (codes "STRING")
  size ← maybe_at (codes "(") size_at
  give (octets size)

-- types that hold no other types
unfoldable pub leaf_at : Extent → List Lexeme → Read PlainTree
leaf_at ext ts =
    if begins (codes "BOOLEAN") ts then (word_at (codes "BOOLEAN") >>= λ _. give boolean) ts else
    if begins (codes "NULL") ts then (word_at (codes "NULL") >>= λ _. give null) ts else
    if begins (codes "INTEGER") ts then integer_at ts else
    if begins (codes "ENUMERATED") ts then (word_at (codes "ENUMERATED") >>= λ _. items_at >>= λ items. give (enumerated items)) ts else
    if begins (codes "OCTET") ts then octets_at ts else
    if begins (codes "BIT") ts then (word_at (codes "BIT") >>= λ _. word_at (codes "STRING") >>= λ _. give bits) ts else
    if begins (codes "OBJECT") ts then (word_at (codes "OBJECT") >>= λ _. word_at (codes "IDENTIFIER") >>= λ _. give object_id) ts else text_or_name_at ext ts

-- a type without its tag, over what reads a type inside it
unfoldable pub sequence_at : (List Lexeme → Read TypeTree) → List Lexeme → Read PlainTree
sequence_at inner = word_at (codes "SEQUENCE") >>= λ _ ts.
    if begins (codes "OF") ts then (word_at (codes "OF") >>= λ _. inner >>= λ item. give (sequence_of item)) ts
    else (parts_at inner >>= λ parts. give (sequence (parts_of parts))) ts

unfoldable pub set_at : (List Lexeme → Read TypeTree) → List Lexeme → Read PlainTree
set_at inner = word_at (codes "SET") >>= λ _ ts.
    if begins (codes "OF") ts then (word_at (codes "OF") >>= λ _. inner >>= λ item. give (set_of item)) ts
    else (parts_at inner >>= λ parts. give (set (parts_of parts))) ts

unfoldable pub choice_at : (List Lexeme → Read TypeTree) → List Lexeme → Read PlainTree
choice_at inner = do
  _ ← word_at (codes "CHOICE")
  parts ← alternatives_at inner
  give (choice (parts_of parts))

unfoldable pub plain_at : Extent → (List Lexeme → Read TypeTree) → List Lexeme → Read PlainTree
plain_at ext inner ts =
    if begins (codes "SEQUENCE") ts then sequence_at inner ts else
    if begins (codes "SET") ts then set_at inner ts else
    if begins (codes "CHOICE") ts then choice_at inner ts else leaf_at ext ts

unfoldable pub type_text_at : Extent → (List Lexeme → Read TypeTree) → List Lexeme → Read TypeTree
type_text_at ext inner = do
  at ← here
  tag ← maybe_at (codes "[") tag_at
  plain ← plain_at ext inner
  give (type_tree at.line at.column tag plain)

-- the words with which a type begins
abbrev pub type_words : List (List ℕ)
type_words =
    codes "[" ∷ codes "SEQUENCE" ∷ codes "SET" ∷ codes "CHOICE" ∷ codes "BOOLEAN" ∷ codes "NULL"
    ∷ codes "INTEGER" ∷ codes "ENUMERATED" ∷ codes "OCTET" ∷ codes "BIT" ∷ codes "OBJECT"
    ∷ codes "UTF8String" ∷ codes "IA5String" ∷ codes "VisibleString" ∷ codes "PrintableString"
    ∷ codes "NumericString" ∷ []

-- a token with which a type begins
abbrev pub starts_type : List Lexeme → Bool
starts_type [] = false
starts_type (t ∷ ts) = list_any (same t.text) type_words || is_type_name t.kind t.text

-- what is wrong with a token at which a type would stand too deep in others
unfoldable pub deep_kind : List Lexeme → NotationKind
deep_kind ts = if starts_type ts then Unsupported else kind_at ts

-- a mark, which stands for a type too deep where marks may stand
abbrev pub starts_mark : List Lexeme → Bool
starts_mark [] = false
starts_mark (t ∷ ts) = is_empty t.text

-- a type in which types stand in one another at most so many levels deep
unfoldable pub type_at : Extent → ℕ → List Lexeme → Read TypeTree
type_at ext zero ts = if ext.marked && starts_mark ts then token_at mark_of ts else refuse_as (deep_kind ts) ts
type_at ext (suc levels) ts = type_text_at ext (type_at ext levels) ts

-- a type at the outermost level
unfoldable pub outer_type_at : Extent → List Lexeme → Read TypeTree
outer_type_at ext = type_at ext ext.levels
