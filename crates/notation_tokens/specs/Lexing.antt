-- How a text is cut into tokens, longest first, and where that stops.
use Rattle.std.specs.Prelude.{codes, ℕ, zero, suc, ◌+◌, ◌<◌, ◌≤◌, Bool, false, ◌&&◌, ◌||◌, ◌==◌, nat_lt, nat_eq, List, [], ◌∷◌, length, take, drop, Some, None, if◌then◌else◌}
use Rattle.std.specs.List.{list_any, starts_with}
use Rattle.std.specs.Char.{is_ascii_alphabetic, is_ascii_alphanumeric, is_ascii_digit}
use Rattle.osi_base.specs.Limits.{most_tokens}
use Rattle.notation_tokens.specs.Forms.{is_blank}
use Rattle.notation_tokens.specs.declared.token.Place.{Place}
use Rattle.notation_tokens.specs.declared.faults.NotationKind.{NotationKind}
use Rattle.notation_tokens.specs.declared.faults.NotationKind.TheVariants.{BadCharacter, TooManyTokens}
use Rattle.notation_tokens.specs.declared.token_cutting.Piece.{Piece}
use Rattle.notation_tokens.specs.declared.token_cutting.Piece.TheVariants.{Passed, Cut, Bad}
use Rattle.notation_tokens.specs.declared.token_cutting.Lexed.{Lexed}
use Rattle.notation_tokens.specs.declared.token.Token.{Token}
use Rattle.notation_tokens.specs.declared.token.TokenKind.TheVariants.{Word, Number, Sign}

-- ---- places

-- the place behind an octet: a line feed ends a line
abbrev pub behind_octet : Place → ℕ → Place
behind_octet p c = if c == 10 then record { line = p.line + 1; column = 1 } else record { line = p.line; column = p.column + 1 }

-- the place behind octets
abbrev pub behind_octets : Place → List ℕ → Place
behind_octets p [] = p
behind_octets p (c ∷ cs) = behind_octets (behind_octet p c) cs

abbrev pub first_place : Place
first_place = record { line = 1; column = 1 }

-- ---- the lengths of what stands first

abbrev pub starts_alphanumeric : List ℕ → Bool
starts_alphanumeric [] = false
starts_alphanumeric (c ∷ cs) = is_ascii_alphanumeric c

-- how far a word goes on: letters, digits and single hyphens inside
abbrev pub goes_on_length : List ℕ → ℕ
goes_on_length [] = 0
goes_on_length (c ∷ cs) = if is_ascii_alphanumeric c || c == 45 && starts_alphanumeric cs then suc (goes_on_length cs) else 0

abbrev pub word_length : List ℕ → ℕ
word_length [] = 0
word_length (c ∷ cs) = if is_ascii_alphabetic c then suc (goes_on_length cs) else 0

abbrev pub digits_length : List ℕ → ℕ
digits_length [] = 0
digits_length (c ∷ cs) = if is_ascii_digit c then suc (digits_length cs) else 0

abbrev pub behind_hyphen : ℕ → ℕ
behind_hyphen zero = zero
behind_hyphen (suc n) = suc (suc n)

abbrev pub number_length : List ℕ → ℕ
number_length [] = 0
number_length (c ∷ cs) = if c == 45 then behind_hyphen (digits_length cs) else digits_length (c ∷ cs)

abbrev pub starts : List ℕ → List ℕ → Bool
starts text rest = starts_with nat_eq rest text

abbrev pub single_signs : List ℕ
single_signs = codes "{}()[],;:|"

abbrev pub single_sign_length : List ℕ → ℕ
single_sign_length [] = 0
single_sign_length (c ∷ cs) = if list_any (λ s. nat_eq s c) single_signs then 1 else 0

abbrev pub sign_length : List ℕ → ℕ
sign_length rest =
    if starts (codes "::=") rest then 3 else
    if starts (codes "...") rest then 3 else
    if starts (codes "..") rest then 2 else
    if starts (codes "/*") rest then 2 else single_sign_length rest

-- behind the two hyphens that begin it, a comment goes on to the next two, or to the line's end
abbrev pub comment_length : List ℕ → ℕ
comment_length [] = 0
comment_length (c ∷ cs) = if c == 10 then 0 else if starts (codes "--") (c ∷ cs) then 2 else suc (comment_length cs)

-- ---- cutting

-- what stands first: white space, a comment, a token, or an octet that begins none of them
unfoldable pub piece_of : List ℕ → Piece
piece_of [] = Bad
piece_of (c ∷ cs) =
    if is_blank c then Passed 1 else
    if starts (codes "--") (c ∷ cs) then Passed (2 + comment_length (drop 2 (c ∷ cs))) else
    if nat_lt 0 (word_length (c ∷ cs)) then Cut Word (word_length (c ∷ cs)) else
    if nat_lt 0 (number_length (c ∷ cs)) then Cut Number (number_length (c ∷ cs)) else
    if nat_lt 0 (sign_length (c ∷ cs)) then Cut Sign (sign_length (c ∷ cs)) else Bad

abbrev pub stopped : NotationKind → Place → Lexed
stopped kind place = record { tokens = []; stop = Some kind; place = place }

abbrev pub with_token : Token → Lexed → Lexed
with_token t l = record { tokens = t ∷ l.tokens; stop = l.stop; place = l.place }

-- a piece has an octet at least, and no more than there are
abbrev pub fits_in : Piece → ℕ → Type 0
fits_in (Passed n) most = (0 < n) × (n ≤ most)
fits_in (Cut kind n) most = (0 < n) × (n ≤ most)
fits_in Bad most = Unit {0}

-- one step of cutting, over what cuts the rest
abbrev pub cut_after : (ℕ → ℕ → Place → List ℕ → Lexed) → ℕ → ℕ → Place → List ℕ → Piece → Lexed
cut_after more most from place rest (Passed n) = more most (from + n) (behind_octets place (take n rest)) (drop n rest)
cut_after more zero from place rest (Cut kind n) = stopped TooManyTokens place
cut_after more (suc most) from place rest (Cut kind n) =
    with_token (record { kind = kind; from = from; to = from + n; line = place.line; column = place.column }) (more most (from + n) (behind_octets place (take n rest)) (drop n rest))
cut_after more most from place rest Bad = stopped BadCharacter place

-- the tokens of the rest of a text, from this offset and place on, of which there may be so many; and where cutting stops:
-- at the end, or at the first octet that begins nothing or the first token past the limit. Each turn passes an octet at least.
unfoldable pub cut : ℕ → ℕ → ℕ → Place → List ℕ → Lexed
cut turns most from place [] = record { tokens = []; stop = None; place = place }
cut zero most from place (c ∷ cs) = stopped BadCharacter place
cut (suc turns) most from place (c ∷ cs) = cut_after (cut turns) most from place (c ∷ cs) (piece_of (c ∷ cs))

unfoldable pub lexed_of : List ℕ → Lexed
lexed_of text = cut (length text) most_tokens 0 first_place text
