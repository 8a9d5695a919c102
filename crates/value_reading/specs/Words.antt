-- Words of a text, and the spaces around them.
use Rattle.std.specs.Prelude.{ℕ, suc, ◌==◌, Bool, ◌||◌, if◌then◌else◌, List, [], ◌∷◌, take, drop, Option, None, Some}

-- how many octets stand before the first that stops, or all of them
abbrev pub len_until : (ℕ → Bool) → List ℕ → ℕ
len_until stops [] = 0
len_until stops (c ∷ cs) = if stops c then 0 else suc (len_until stops cs)

abbrev pub len_to : ℕ → List ℕ → ℕ
len_to mark text = len_until (λ c. c == mark) text

-- a space, a quote, a comma, a colon or a brace
abbrev pub is_sign : ℕ → Bool
is_sign c = c == 32 || c == 34 || c == 39 || c == 44 || c == 58 || c == 123 || c == 125

abbrev pub word_len : List ℕ → ℕ
word_len text = len_until is_sign text

-- what stands before the first sign
abbrev pub word : List ℕ → List ℕ
word text = take (word_len text) text

abbrev pub behind_word : List ℕ → List ℕ
behind_word text = drop (word_len text) text

abbrev pub after_spaces : List ℕ → List ℕ
after_spaces [] = []
after_spaces (c ∷ cs) = if c == 32 then after_spaces cs else c ∷ cs

-- what follows this sign and the spaces behind it, where a text begins with it
abbrev pub behind_sign : ℕ → List ℕ → Option (List ℕ)
behind_sign sign [] = None
behind_sign sign (c ∷ cs) = if c == sign then Some (after_spaces cs) else None

-- what follows a comma and the spaces around it
abbrev pub after_comma : List ℕ → Option (List ℕ)
after_comma text = behind_sign 44 (after_spaces text)

abbrev pub closed_by : List ℕ → Option (List ℕ)
closed_by [] = None
closed_by (c ∷ cs) = if c == 125 then Some cs else None

-- what follows the brace that closes, and the spaces before it
abbrev pub after_brace : List ℕ → Option (List ℕ)
after_brace text = closed_by (after_spaces text)
