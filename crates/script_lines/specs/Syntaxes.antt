-- Transfer syntaxes and object identifiers in a line.
use Rattle.std.specs.Prelude.{ℕ, zero, suc, ◌==◌, Bool, false, ◌||◌, if◌then◌else◌, List, [], ◌∷◌, ◌++◌, length, Option, None, Some, Ok, Err, codes}
use Rattle.std.specs.Str.{bytes_eq, is_utf8}
use Rattle.osi_base.specs.declared.syntax.Syntax.TheVariants.{Ber, Der, Packed}
use Rattle.osi_base.specs.Syntax.{name_of}
use Rattle.asn1_types.specs.Value as tree
use Rattle.asn1_types.specs.Value.{Value}
use Rattle.value_reading.specs.Found.{Found}
use Rattle.value_reading.specs.Forms.{form_at}
use Rattle.value_reading.specs.Words.{after_spaces}
use Rattle.script_lines.specs.declared.fault.ScriptKind.{ScriptKind}
use Rattle.script_lines.specs.declared.fault.ScriptKind.TheVariants.{BadName, BadField}
use Rattle.script_lines.specs.declared.syntax.EndsBefore.{EndsBefore}
use Rattle.script_lines.specs.declared.syntax.EndsBefore.TheVariants as ends
use Rattle.script_lines.specs.Reading.{Reading, ◌>>=◌, or_kind}
use Rattle.script_lines.specs.Fields.{is_over, is_next, is_parted, field_at}

-- ---- object identifiers

-- one that is parted from what follows it, or this kind of fault
abbrev pub identifier_found : ScriptKind → Value → List ℕ → Reading (List ℕ × List ℕ)
identifier_found kind (tree.object_id arcs) rest = if is_parted rest then Ok (arcs, rest) else Err kind
identifier_found kind v rest = Err kind

abbrev pub found_or : ScriptKind → Option Found → Reading (List ℕ × List ℕ)
found_or kind None = Err kind
found_or kind (Some f) = identifier_found kind f.value f.rest

abbrev pub identifier_here : ScriptKind → List ℕ → Reading (List ℕ × List ℕ)
identifier_here kind here = if is_utf8 here then found_or kind (form_at here) else Err BadField

unfoldable pub object_identifier_at : ScriptKind → List ℕ → Reading (List ℕ × List ℕ)
object_identifier_at kind text = identifier_here kind (after_spaces text)

-- ---- transfer syntaxes

-- the name of the syntax that a word names
abbrev pub arcs_of_word : List ℕ → Option (List ℕ)
arcs_of_word word =
    if bytes_eq word (codes "ber") then Some (name_of Ber)
    else if bytes_eq word (codes "der") then Some (name_of Der)
    else if bytes_eq word (codes "packed") then Some (name_of Packed)
    else None

abbrev pub begins_braced : List ℕ → Bool
begins_braced [] = false
begins_braced (c ∷ cs) = c == 123

abbrev pub word_syntax : List ℕ → Reading (List ℕ × List ℕ)
word_syntax text = do
  field ← field_at text
  name ← or_kind BadName (arcs_of_word field.0)
  Ok (name, field.1)

-- a word, or an object identifier
unfoldable pub syntax_at : List ℕ → Reading (List ℕ × List ℕ)
syntax_at text = if begins_braced (after_spaces text) then object_identifier_at BadName text else word_syntax text

-- where a list of syntaxes ends: at the end of the line, or also before the words of an alteration
abbrev pub are_over : EndsBefore → List ℕ → Bool
are_over ends.Nothing text = is_over text
are_over ends.AddOrDelete text = is_over text || is_next (codes "add") text || is_next (codes "delete") text

abbrev pub then_syntax : (List (List ℕ) → List ℕ → Reading (List (List ℕ) × List ℕ)) → List (List ℕ) → Reading (List ℕ × List ℕ) → Reading (List (List ℕ) × List ℕ)
then_syntax next names read = read >>= λ s. next (names ++ s.0 ∷ []) s.1

-- so many syntaxes at most, behind those that were read
abbrev pub more_syntaxes : EndsBefore → ℕ → List (List ℕ) → List ℕ → Reading (List (List ℕ) × List ℕ)
more_syntaxes before zero names text = Ok (names, text)
more_syntaxes before (suc left) names text =
    if are_over before text then Ok (names, text) else then_syntax (more_syntaxes before left) names (syntax_at text)

-- one or more; each has an octet at least
unfoldable pub syntaxes_at : EndsBefore → List ℕ → Reading (List (List ℕ) × List ℕ)
syntaxes_at before text = if are_over before text then Err BadField else more_syntaxes before (length text) [] text
