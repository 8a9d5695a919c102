-- Why a text isn't cut to its end, by what stands where cutting stops. Nothing here says how a text is cut.
use Rattle.std.specs.Prelude.{codes, ◌≡◌, ◌<◌, ◌≤◌, ◌⊎◌, ℕ, Bool, true, false, List, [], ◌∷◌, length, take, drop, slice_range}
use Rattle.osi_base.specs.Limits.{most_module_octets, most_tokens}
use Rattle.notation_tokens.specs.Forms.{has_form, is_blank}
use Rattle.notation_tokens.specs.Lexing.{behind_octets, first_place, starts}
use Rattle.notation_tokens.specs.Tokens.{IsToken, IsGap}
use Rattle.notation_tokens.specs.declared.token.Token.{Token}
use Rattle.notation_tokens.specs.declared.token.TokenKind.{TokenKind}
use Rattle.notation_tokens.specs.declared.faults.NotationFault.{NotationFault}
use Rattle.notation_tokens.specs.declared.faults.NotationFault.TheVariants as faults
use Rattle.notation_tokens.specs.declared.faults.NotationKind.{NotationKind}
use Rattle.notation_tokens.specs.declared.faults.NotationKind.TheVariants.{BadCharacter, TextTooLong, TooManyTokens}

-- Tokens in their order, between two offsets. In front of each and behind the last lie white space and whole comments alone.
abbrev pub AreTokensTo : List ℕ → ℕ → List Token → ℕ → Type 0
AreTokensTo text from [] to = (from ≤ to) × IsGap (slice_range text from to)
AreTokensTo text from (t ∷ ts) to = IsToken text t × (from ≤ t.from) × IsGap (slice_range text from t.from) × AreTokensTo text t.to ts to

-- some first octets are a token
abbrev pub BeginsToken : List ℕ → Type 0
BeginsToken rest = (kind : TokenKind) × (n : ℕ) × (n ≤ length rest) × (has_form kind (take n rest) ≡ true)

abbrev pub begins_blank : List ℕ → Bool
begins_blank [] = false
begins_blank (c ∷ cs) = is_blank c

-- no token, white space or comment stands first
pub record BeginsNothing (rest : List ℕ) : Type 0 where
  pub no_blank : begins_blank rest ≡ false
  pub no_comment : starts (codes "--") rest ≡ false
  pub no_token : BeginsToken rest → ⊥

-- behind so many tokens stands an octet that begins nothing, or one token too many
abbrev pub StopsFor : NotationKind → ℕ → ℕ → List ℕ → Type 0
StopsFor kind most count rest =
    ((kind ≡ BadCharacter) × (count ≤ most) × BeginsNothing rest) ⊎ ((kind ≡ TooManyTokens) × (count ≡ most) × BeginsToken rest)

-- Up to the place tokens lie in order, with white space and comments between them, and there stands what can't go on.
pub record Stops (text : List ℕ) (line column : ℕ) (kind : NotationKind) : Type 0 where
  pub fits : length text ≤ most_module_octets
  pub tokens : List Token
  pub at : ℕ
  pub within : at < length text
  pub before : AreTokensTo text 0 tokens at
  pub place : record { line = line; column = column } ≡ behind_octets first_place (take at text)
  pub what : StopsFor kind most_tokens (length tokens) (drop at text)

-- more octets than a text may have
pub record IsTextTooLong (text : List ℕ) (line column : ℕ) (kind : NotationKind) : Type 0 where
  pub long : most_module_octets < length text
  pub at_line : line ≡ 1
  pub at_column : column ≡ 1
  pub is : kind ≡ TextTooLong

-- why a text has no tokens
abbrev pub IsCuttingFault : List ℕ → NotationFault → Type 0
IsCuttingFault text faults.NoMemory = Unit {0}
IsCuttingFault text (faults.At line column kind) = IsTextTooLong text line column kind ⊎ Stops text line column kind
