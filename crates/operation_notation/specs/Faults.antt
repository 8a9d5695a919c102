-- What a text's first fault is, beside its grammar: what stands before it begins a module, and with it no module begins so.
use Rattle.std.specs.Prelude.{◌≡◌, ◌≤◌, ◌⊎◌, ℕ, true, List, [], ◌∷◌, ◌++◌, length, unwrap_or}
use Rattle.std.specs.List.{AllByRecursion}
use Rattle.osi_base.specs.Limits.{most_module_octets}
use Rattle.notation_tokens.specs.Stops.{IsTextTooLong}
use Rattle.notation_tokens.specs.Forms.{has_form}
use Rattle.notation_tokens.specs.Lexeme.{Lexeme, lexemes}
use Rattle.notation_tokens.specs.Lexing.{lexed_of}
use Rattle.operation_notation.specs.Reading.{kind_at}
use Rattle.operation_notation.specs.GrammarTypes.{Extent, marked, wide, is_empty}
use Rattle.operation_notation.specs.GrammarModules.{Module}
use Rattle.operation_notation.specs.Modules.{ReadsAsModule}
use Rattle.notation_tokens.specs.declared.faults.NotationFault.{NotationFault}
use Rattle.notation_tokens.specs.declared.faults.NotationFault.TheVariants as faults
use Rattle.notation_tokens.specs.declared.faults.NotationKind.{NotationKind}
use Rattle.notation_tokens.specs.declared.faults.NotationKind.TheVariants.{UnexpectedToken, Unsupported}
use Rattle.operation_notation.specs.declared.module.ModuleText.{ModuleText}

-- a token that a text may hold, or a mark
abbrev pub IsFormed : Lexeme → Type 0
IsFormed t = (has_form t.kind t.text ≡ true) ⊎ (is_empty t.text ≡ true)

-- these tokens go on to a module
pub record Begins (ext : Extent) (front : List Lexeme) : Type 0 where
  pub back : List Lexeme
  pub whole : ModuleText
  pub formed : AllByRecursion IsFormed back
  pub spelled : Module ext (front ++ back) whole

-- What isn't supported: what is so wherever it stands (`kind_at`: a word or sign of the list), and that with which the wide grammar goes on:
-- a brace behind a Name, an import of another name, and the first token of a type one level too deep.
abbrev pub IsUnsupported : List Lexeme → Lexeme → List Lexeme → Type 0
IsUnsupported front token behind = (kind_at (token ∷ behind) ≡ Unsupported) ⊎ Begins wide (front ++ token ∷ [])

-- the kind of a fault at a token
abbrev pub IsKind : List Lexeme → Lexeme → List Lexeme → NotationKind → Type 0
IsKind front token behind kind = ((kind ≡ Unsupported) × IsUnsupported front token behind) ⊎ ((kind ≡ UnexpectedToken) × (IsUnsupported front token behind → ⊥))

-- The first token that can't stand where it stands. What stands before it begins a module, and no module begins with it too, whatever
-- follows.
pub record TokenFault (text : List ℕ) (line column : ℕ) (kind : NotationKind) : Type 0 where
  pub fits : length text ≤ most_module_octets
  pub front : List Lexeme
  pub token : Lexeme
  pub behind : List Lexeme
  pub whole : lexemes text (lexed_of text).tokens ≡ front ++ token ∷ behind
  pub start : Begins marked front
  pub past : (others : List Lexeme) (m : ModuleText) → Module marked (front ++ token ∷ others) m → ⊥
  pub at_line : token.line ≡ line
  pub at_column : token.column ≡ column
  pub is : IsKind front token behind kind

-- Tokens that end too early, or cutting that stopped behind them: all of them begin a module, and the text reads as none. The fault is
-- what cutting stopped for, or else the text's end.
pub record EndFault (text : List ℕ) (line column : ℕ) (kind : NotationKind) : Type 0 where
  pub fits : length text ≤ most_module_octets
  pub start : Begins marked (lexemes text (lexed_of text).tokens)
  pub unread : (m : ModuleText) → ReadsAsModule text m → ⊥
  pub at_line : (lexed_of text).place.line ≡ line
  pub at_column : (lexed_of text).place.column ≡ column
  pub is : kind ≡ unwrap_or (lexed_of text).stop UnexpectedToken

-- the text's first fault
abbrev pub IsFirstFault : List ℕ → NotationFault → Type 0
IsFirstFault text faults.NoMemory = Unit {0}
IsFirstFault text (faults.At line column kind) = IsTextTooLong text line column kind ⊎ (TokenFault text line column kind ⊎ EndFault text line column kind)

-- a text with a first fault
pub record Faulty (text : List ℕ) : Type 0 where
  pub line : ℕ
  pub column : ℕ
  pub kind : NotationKind
  pub first : IsFirstFault text (faults.At line column kind)
