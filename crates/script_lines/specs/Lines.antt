-- Lines of a text.
use Rattle.std.specs.Prelude.{◌==◌, ℕ, ◌+◌, ◌<◌, ◌^◌, List, [], length, Option, None, Some}
use Rattle.std.specs.List.{slice_split}
use denote.Ref.{Bor}

-- the pieces of a text between its separators
abbrev pub pieces : ℕ → List ℕ → List (List ℕ)
pieces separator text = slice_split (λ octet. octet == separator) text

-- a line feed parts two lines
abbrev pub lines_of : List ℕ → List (List ℕ)
lines_of text = pieces 10 text

-- lines, and the number of the first of them
pub record NumberedLines : Type 0 where
  pub number : ℕ
  pub lines : List (List ℕ)

-- the lines of what is left of a text
abbrev pub numbered : ℕ → Option (Bor (List ℕ)) → NumberedLines
numbered number None = record { number = number; lines = [] }
numbered number (Some rest) = record { number = number; lines = lines_of rest.now }

-- no number of a line that is left passes 32 bits
abbrev pub IsCounted : ℕ → Option (Bor (List ℕ)) → Type 0
IsCounted number None = number < 2 ^ 32
IsCounted number (Some rest) = number + length rest.now + 1 < 2 ^ 32
