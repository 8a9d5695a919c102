-- Tokens with their text.
use Rattle.std.specs.Prelude.{ℕ, ◌≤◌, Bool, false, not, List, [], ◌∷◌, map, slice_range, IsTrue}
use Rattle.std.specs.Str.{bytes_eq}
use Rattle.notation_tokens.specs.Forms.{has_form}
use Rattle.notation_tokens.specs.declared.token.Token.{Token}
use Rattle.notation_tokens.specs.declared.token.TokenKind.{TokenKind}

-- a token's kind and text, and where it stands
pub record Lexeme : Type 0 where
  pub kind : TokenKind
  pub text : List ℕ
  pub line : ℕ
  pub column : ℕ

abbrev pub lexeme : List ℕ → Token → Lexeme
lexeme source t = record { kind = t.kind; text = slice_range source t.from t.to; line = t.line; column = t.column }

abbrev pub lexemes : List ℕ → List Token → List Lexeme
lexemes source ts = map (lexeme source) ts

-- a token that lies within its text and has the form of its kind
pub record IsSpan (source : List ℕ) (len : ℕ) (t : Token) : Type 0 where
  pub ordered : t.from ≤ t.to
  pub within : t.to ≤ len
  pub form : IsTrue (has_form t.kind (slice_range source t.from t.to))

-- the two texts have the same octets
unfoldable pub same : List ℕ → List ℕ → Bool
same a b = bytes_eq a b

-- the first token is this word
abbrev pub begins : List ℕ → List Lexeme → Bool
begins word [] = false
begins word (t ∷ ts) = same t.text word

-- there is a first token, and it isn't this word
abbrev pub goes_on : List ℕ → List Lexeme → Bool
goes_on word [] = false
goes_on word (t ∷ ts) = not (same t.text word)
