-- Values in a line: by their type, and those of results by their form where they aren't of it.
use Rattle.std.specs.Prelude.{ℕ, Bool, ◌||◌, ◌&&◌, if◌then◌else◌, List, Option, None, Some, Ok, Err, codes}
use Rattle.std.specs.Str.{is_utf8}
use Rattle.asn1_types.specs.declared.row.TypeId.{TypeId}
use Rattle.asn1_types.specs.declared.row.TypeRow.{TypeRow}
use Rattle.asn1_types.specs.Value.{Value}
use Rattle.stub_tables.specs.declared.operation.Use.{Use}
use Rattle.stub_tables.specs.Uses.{may_lack}
use Rattle.value_reading.specs.Found.{Found}
use Rattle.value_reading.specs.Forms.{form_at}
use Rattle.value_reading.specs.Typed.{value_at}
use Rattle.value_reading.specs.Words.{after_spaces}
use Rattle.script_lines.specs.declared.fault.ScriptKind.{ScriptKind}
use Rattle.script_lines.specs.declared.fault.ScriptKind.TheVariants.{BadValue, BadField}
use Rattle.script_lines.specs.Reading.{Reading}
use Rattle.script_lines.specs.Fields.{is_empty, is_next, is_parted}

-- the value of a type, where there is one, that stands first
abbrev pub typed_at : List TypeRow → Option TypeId → List ℕ → Option Found
typed_at rows None text = None
typed_at rows (Some of) text = value_at rows of.0 text

-- how what is no value is faulty
abbrev pub bad_value : List ℕ → ScriptKind
bad_value here = if is_utf8 here then BadValue else BadField

abbrev pub if_parted : Found → Reading (Option Value × List ℕ)
if_parted f = if is_parted f.rest then Ok (Some f.value, f.rest) else Err BadField

-- ---- arguments and parameters

abbrev pub no_value : Use → List ℕ → Reading (Option Value × List ℕ)
no_value used here = if may_lack used.inner used.optional then Ok (None, here) else Err (bad_value here)

-- nothing stands here, or the word that follows an argument
abbrev pub value_is_over : Bool → List ℕ → Bool
value_is_over links here = is_empty here || (links && is_next (codes "linked") here)

abbrev pub used_found : Use → Bool → List ℕ → Option Found → Reading (Option Value × List ℕ)
used_found used links here (Some f) = if_parted f
used_found used links here None = if value_is_over links here then no_value used here else Err (bad_value here)

abbrev pub used_here : List TypeRow → Use → Bool → List ℕ → Reading (Option Value × List ℕ)
used_here rows used links here = used_found used links here (typed_at rows used.inner here)

-- the value of a use, if one stands; behind it a link may follow
unfoldable pub used_at : List TypeRow → Use → Bool → List ℕ → Reading (Option Value × List ℕ)
used_at rows used links text = used_here rows used links (after_spaces text)

-- ---- results

abbrev pub form_found : Option Found → Reading (Option Value × List ℕ)
form_found None = Err BadValue
form_found (Some f) = if_parted f

abbrev pub by_form : List ℕ → Reading (Option Value × List ℕ)
by_form here = if is_utf8 here then form_found (form_at here) else Err BadField

-- one of the type that is parted from what follows; else by its form
abbrev pub result_found : List ℕ → Option Found → Reading (Option Value × List ℕ)
result_found here None = by_form here
result_found here (Some f) = if is_parted f.rest then Ok (Some f.value, f.rest) else by_form here

abbrev pub result_here : List TypeRow → Option TypeId → List ℕ → Reading (Option Value × List ℕ)
result_here rows of here = if is_empty here then Ok (None, here) else result_found here (typed_at rows of here)

unfoldable pub result_at : List TypeRow → Option TypeId → List ℕ → Reading (Option Value × List ℕ)
result_at rows of text = result_here rows of (after_spaces text)
