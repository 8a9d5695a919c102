-- Fields of a line: one or more spaces part two of them.
use Rattle.std.specs.Prelude.{ℕ, ℤ, ◌==◌, Bool, true, false, if◌then◌else◌, List, [], ◌∷◌, take, drop, Ok, Err}
use Rattle.std.specs.Str.{bytes_eq, is_utf8}
use Rattle.value_text.specs.Numbers.{number_of, identifier_of}
use Rattle.value_reading.specs.Words.{len_to, after_spaces}
use Rattle.script_lines.specs.declared.fault.ScriptKind.TheVariants.{BadNumber, BadField}
use Rattle.script_lines.specs.Reading.{Reading, ◌>>=◌, or_kind}

abbrev pub is_empty : List ℕ → Bool
is_empty [] = true
is_empty (octet ∷ octets) = false

-- no field is left
abbrev pub is_over : List ℕ → Bool
is_over text = is_empty (after_spaces text)

-- the octets up to the next space
abbrev pub up_to_space : List ℕ → List ℕ
up_to_space text = take (len_to 32 text) text

abbrev pub from_space : List ℕ → List ℕ
from_space text = drop (len_to 32 text) text

-- the next field is this word
abbrev pub is_next : List ℕ → List ℕ → Bool
is_next word text = bytes_eq (up_to_space (after_spaces text)) word

-- what follows the next field
abbrev pub skip : List ℕ → List ℕ
skip text = from_space (after_spaces text)

abbrev pub field_here : List ℕ → Reading (List ℕ × List ℕ)
field_here [] = Err BadField
field_here (c ∷ cs) = if is_utf8 (up_to_space (c ∷ cs)) then Ok (up_to_space (c ∷ cs), from_space (c ∷ cs)) else Err BadField

-- the next field, which has to stand and be text
unfoldable pub field_at : List ℕ → Reading (List ℕ × List ℕ)
field_at text = field_here (after_spaces text)

-- a number of 32 bits
unfoldable pub number_at : List ℕ → Reading (ℕ × List ℕ)
number_at text = do
  field ← field_at text
  number ← or_kind BadNumber (number_of field.0)
  Ok (number, field.1)

-- the identifier of an invocation: a number of 63 bits
unfoldable pub identifier_at : List ℕ → Reading (ℤ × List ℕ)
identifier_at text = do
  field ← field_at text
  id ← or_kind BadNumber (identifier_of field.0)
  Ok (id, field.1)

-- this, where no field is left
abbrev pub if_over : {A : Type 0} → A → List ℕ → Reading A
if_over x text = if is_over text then Ok x else Err BadField

-- a value is parted by a space from what follows it
abbrev pub is_parted : List ℕ → Bool
is_parted [] = true
is_parted (c ∷ cs) = c == 32
