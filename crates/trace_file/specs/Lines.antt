-- Lines of a text, and fields of a line.
use Rattle.std.specs.Prelude.{◌==◌, ℕ, List, [], ◌∷◌, Bool, true, false, filter, codes, bytes_eq, Option, Some, None, if◌then◌else◌}
use Rattle.std.specs.List.{slice_split}
use Rattle.osi_base.specs.declared.layer_words.Side.{Side}
use Rattle.osi_base.specs.declared.layer_words.Side.TheVariants.{A, B}

-- a line feed parts two lines
abbrev pub lines_of : List ℕ → List (List ℕ)
lines_of text = slice_split (λ octet. octet == 10) text

-- what spaces part
abbrev pub pieces_of : List ℕ → List (List ℕ)
pieces_of line = slice_split (λ octet. octet == 32) line

abbrev pub has_any : List ℕ → Bool
has_any [] = false
has_any (octet ∷ octets) = true

-- one or more spaces part two fields
abbrev pub fields_of : List ℕ → List (List ℕ)
fields_of line = filter has_any (pieces_of line)

-- the end that sent what stands behind this word
abbrev pub sender_of : List ℕ → Option Side
sender_of word = if bytes_eq word (codes "A>B") then Some A else (if bytes_eq word (codes "B>A") then Some B else None)
