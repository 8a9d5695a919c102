-- The forms of tokens, as texts of octets.
use Rattle.std.specs.Prelude.{codes, ℕ, Bool, true, false, ◌&&◌, ◌||◌, ◌==◌, if◌then◌else◌, List, [], ◌∷◌}
use Rattle.std.specs.List.{list_any, list_all}
use Rattle.std.specs.Char.{is_ascii_alphabetic, is_ascii_alphanumeric, is_ascii_digit}
use Rattle.std.specs.Str.{bytes_eq}
use Rattle.notation_tokens.specs.declared.token.TokenKind.{TokenKind}
use Rattle.notation_tokens.specs.declared.token.TokenKind.TheVariants.{Word, Number, Sign}

-- letters, digits and hyphens, where no hyphen stands beside another, at the end, or where bare is false
abbrev pub goes_on_well : Bool → List ℕ → Bool
goes_on_well bare [] = bare
goes_on_well bare (c ∷ cs) = if c == 45 then bare && goes_on_well false cs else is_ascii_alphanumeric c && goes_on_well true cs

-- a letter, and then letters, digits and single hyphens inside
abbrev pub is_word : List ℕ → Bool
is_word [] = false
is_word (c ∷ cs) = is_ascii_alphabetic c && goes_on_well true cs

abbrev pub are_digits : List ℕ → Bool
are_digits [] = false
are_digits (d ∷ ds) = is_ascii_digit d && list_all is_ascii_digit ds

-- digits, and a hyphen before them or none
abbrev pub is_number : List ℕ → Bool
is_number [] = false
is_number (c ∷ cs) = if c == 45 then are_digits cs else are_digits (c ∷ cs)

abbrev pub signs : List (List ℕ)
signs = codes "::=" ∷ codes "..." ∷ codes ".." ∷ codes "/*" ∷ codes "{" ∷ codes "}" ∷ codes "(" ∷ codes ")" ∷ codes "[" ∷ codes "]" ∷ codes "," ∷ codes ";" ∷ codes ":" ∷ codes "|" ∷ []

abbrev pub is_sign : List ℕ → Bool
is_sign text = list_any (bytes_eq text) signs

-- a text of a token of this kind
abbrev pub has_form : TokenKind → List ℕ → Bool
has_form Word text = is_word text
has_form Number text = is_number text
has_form Sign text = is_sign text

-- space, tab, carriage return and line feed
abbrev pub is_blank : ℕ → Bool
is_blank c = ((c == 9) || (c == 10)) || ((c == 13) || (c == 32))
