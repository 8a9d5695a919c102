-- The words of the notation, and the values that tokens write.
use Rattle.std.specs.Prelude.{codes, ℕ, ◌-◌, Bool, true, false, ◌&&◌, ◌||◌, not, ◌==◌, nat_le, if◌then◌else◌, List, [], ◌∷◌, Option, Some, None, option_map, ℤ, pos, negsuc}
use Rattle.std.specs.List.{list_any, list_all}
use Rattle.std.specs.Char.{is_ascii_digit, is_ascii_uppercase, is_ascii_lowercase}
use Rattle.std.specs.Str.Parse.{digits_value}
use Rattle.osi_base.specs.Limits.{most_signed, most_negated}
use Rattle.notation_tokens.specs.Lexeme.{Lexeme, same}
use Rattle.notation_tokens.specs.Forms.{is_word}
use Rattle.notation_tokens.specs.declared.token.TokenKind.{TokenKind}
use Rattle.notation_tokens.specs.declared.token.TokenKind.TheVariants.{Word, Number, Sign}
use Rattle.notation_tokens.specs.declared.token.Located.{Located}
use Rattle.notation_tokens.specs.declared.token.Place.{Place}

-- the words that the grammar quotes; none of them is a name
abbrev pub quoted : List (List ℕ)
quoted =
    codes "DEFINITIONS" ∷ codes "EXPLICIT" ∷ codes "IMPLICIT" ∷ codes "TAGS" ∷ codes "BEGIN"
    ∷ codes "END" ∷ codes "IMPORTS" ∷ codes "FROM" ∷ codes "OPERATION" ∷ codes "ERROR"
    ∷ codes "ARGUMENT" ∷ codes "OPTIONAL" ∷ codes "DEFAULT" ∷ codes "RESULT" ∷ codes "RETURN"
    ∷ codes "ERRORS" ∷ codes "LINKED" ∷ codes "SYNCHRONOUS" ∷ codes "IDEMPOTENT" ∷ codes "ALWAYS"
    ∷ codes "RESPONDS" ∷ codes "INVOKE" ∷ codes "PRIORITY" ∷ codes "RESULT-PRIORITY" ∷ codes "CODE"
    ∷ codes "PARAMETER" ∷ codes "TRUE" ∷ codes "FALSE" ∷ codes "UNIVERSAL" ∷ codes "APPLICATION"
    ∷ codes "PRIVATE" ∷ codes "BOOLEAN" ∷ codes "NULL" ∷ codes "INTEGER" ∷ codes "ENUMERATED"
    ∷ codes "OCTET" ∷ codes "STRING" ∷ codes "SIZE" ∷ codes "BIT" ∷ codes "OBJECT"
    ∷ codes "IDENTIFIER" ∷ codes "UTF8String" ∷ codes "IA5String" ∷ codes "VisibleString"
    ∷ codes "PrintableString" ∷ codes "NumericString" ∷ codes "SEQUENCE" ∷ codes "OF" ∷ codes "SET"
    ∷ codes "CHOICE" ∷ codes "MIN" ∷ codes "MAX" ∷ []

unfoldable pub is_quoted : List ℕ → Bool
is_quoted text = list_any (same text) quoted

-- what is left out of the notation, and refused where it stands
abbrev pub unsupported : List (List ℕ)
unsupported =
    codes "AUTOMATIC" ∷ codes "EXPORTS" ∷ codes "..." ∷ codes "REAL" ∷ codes "ANY" ∷ codes "CLASS"
    ∷ codes "COMPONENTS" ∷ codes "WITH" ∷ codes "EMBEDDED" ∷ codes "EXTERNAL"
    ∷ codes "TYPE-IDENTIFIER" ∷ codes "ABSENT" ∷ codes "PRESENT" ∷ codes "/*" ∷ []

unfoldable pub is_unsupported : List ℕ → Bool
is_unsupported text = list_any (same text) unsupported

abbrev pub is_kind_word : TokenKind → Bool
is_kind_word Word = true
is_kind_word Number = false
is_kind_word Sign = false

abbrev pub begins_upper : List ℕ → Bool
begins_upper [] = false
begins_upper (c ∷ cs) = is_ascii_uppercase c

abbrev pub begins_lower : List ℕ → Bool
begins_lower [] = false
begins_lower (c ∷ cs) = is_ascii_lowercase c

abbrev pub place : Lexeme → Place
place t = record { line = t.line; column = t.column }

abbrev pub located : Lexeme → Located
located t = record { text = t.text; line = t.line; column = t.column }

-- the one token of a word
unfoldable pub word_of : List ℕ → Lexeme → Option Place
word_of word t = if same t.text word then Some (place t) else None

-- a word that begins with an upper-case letter and belongs to no one but the module's writer
unfoldable pub is_type_name : TokenKind → List ℕ → Bool
is_type_name kind text = (is_kind_word kind && begins_upper text) && (not (is_quoted text) && not (is_unsupported text))

-- a word that begins with a lower-case letter
unfoldable pub is_value_name : TokenKind → List ℕ → Bool
is_value_name kind text = is_kind_word kind && begins_lower text

-- octets that are a Name, and that are a name
abbrev pub is_name_of_type : List ℕ → Bool
is_name_of_type text = is_word text && is_type_name Word text

abbrev pub is_name_of_value : List ℕ → Bool
is_name_of_value text = is_word text && is_value_name Word text

-- a Name
unfoldable pub type_name_of : Lexeme → Option Located
type_name_of t = if is_type_name t.kind t.text then Some (located t) else None

-- a name
unfoldable pub value_name_of : Lexeme → Option Located
value_name_of t = if is_value_name t.kind t.text then Some (located t) else None

-- the name before the number of an arc
unfoldable pub arc_name_of : Lexeme → Option Place
arc_name_of t = if is_value_name t.kind t.text then Some (place t) else None

-- the kinds of text
unfoldable pub text_kind_word : List ℕ → Option ℕ
text_kind_word text =
    if same text (codes "UTF8String") then Some 0 else
    if same text (codes "IA5String") then Some 1 else
    if same text (codes "VisibleString") then Some 2 else
    if same text (codes "PrintableString") then Some 3 else
    if same text (codes "NumericString") then Some 4 else None

abbrev pub text_kind_of : Lexeme → Option ℕ
text_kind_of t = text_kind_word t.text

-- digits without a leading zero
abbrev pub is_decimal : List ℕ → Bool
is_decimal [] = false
is_decimal (d ∷ []) = is_ascii_digit d
is_decimal (d ∷ e ∷ ds) = (is_ascii_digit d && not (d == 48)) && list_all is_ascii_digit (e ∷ ds)

-- the number that a text writes in decimal, where it is at most so large
unfoldable pub number : ℕ → List ℕ → Option ℕ
number most text = if is_decimal text && nat_le (digits_value 10 text) most then Some (digits_value 10 text) else None

abbrev pub negative : Option ℕ → Option ℤ
negative None = None
negative (Some n) = if n == 0 then None else Some (negsuc (n - 1))

-- the integer of 64 bits that a text writes; -0 is none
unfoldable pub int : List ℕ → Option ℤ
int [] = None
int (c ∷ cs) = if c == 45 then negative (number most_negated cs) else option_map pos (number most_signed (c ∷ cs))

abbrev pub number_of : ℕ → Lexeme → Option ℕ
number_of most t = number most t.text

abbrev pub int_of : Lexeme → Option ℤ
int_of t = int t.text

-- an end of a range
unfoldable pub end_word : List ℕ → Option ℤ
end_word text = if same text (codes "MIN") then Some (negsuc most_signed) else if same text (codes "MAX") then Some (pos most_signed) else int text

abbrev pub end_of : Lexeme → Option ℤ
end_of t = end_word t.text

unfoldable pub bool_word : List ℕ → Option Bool
bool_word text = if same text (codes "TRUE") then Some true else if same text (codes "FALSE") then Some false else None

abbrev pub bool_of : Lexeme → Option Bool
bool_of t = bool_word t.text

-- the words that stand for a first arc (X.660 7.6)
unfoldable pub root_name : List ℕ → Option ℕ
root_name text =
    if same text (codes "itu-t") || same text (codes "ccitt") then Some 0 else
    if same text (codes "iso") then Some 1 else
    if same text (codes "joint-iso-itu-t") || same text (codes "joint-iso-ccitt") then Some 2 else None
