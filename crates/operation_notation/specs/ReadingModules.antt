-- Reading a module, with the first fault that is met.
use Rattle.std.specs.Prelude.{ℕ, codes, Bool, true, false, ◌||◌, List, [], ◌∷◌, Option, Some, None, unwrap_or, Ok, if◌then◌else◌}
use Rattle.notation_tokens.specs.Lexeme.{Lexeme, begins, goes_on}
use Rattle.notation_tokens.specs.Words.{is_type_name, is_value_name}
use Rattle.operation_notation.specs.Reading.{◌>>=◌, Read, give, refuse, refuse_as, kind_at, token_at, word_at, type_name_at, value_name_at, number_64_at, int_at, bool_at, maybe_at, all_at, behind, listed_at}
use Rattle.operation_notation.specs.ReadingTypes.{oid_at, starts_name, outer_type_at}
use Rattle.operation_notation.specs.GrammarTypes.{Extent}
use Rattle.operation_notation.specs.GrammarModules.{name_of}
use Rattle.notation_tokens.specs.declared.faults.NotationKind.{NotationKind}
use Rattle.notation_tokens.specs.declared.faults.NotationKind.TheVariants.{Unsupported, UnexpectedToken}
use Rattle.notation_tokens.specs.declared.token.Place.{Place}
use Rattle.notation_tokens.specs.declared.token.Located.{Located}
use Rattle.operation_notation.specs.declared.module.UseText.{UseText}
use Rattle.operation_notation.specs.declared.module.CodeText.{CodeText}
use Rattle.operation_notation.specs.declared.module.OpText.{OpText}
use Rattle.operation_notation.specs.declared.module.ErrText.{ErrText}
use Rattle.operation_notation.specs.declared.bodies.Signature.{Signature}
use Rattle.operation_notation.specs.declared.assignments.Heading.{Heading}
use Rattle.operation_notation.specs.declared.module.Assigned.{Assigned}
use Rattle.operation_notation.specs.declared.module.Assigned.TheVariants as bodies
use Rattle.operation_notation.specs.declared.module.Assignment.{Assignment}
use Rattle.operation_notation.specs.declared.module.ModuleText.{ModuleText}

-- ---- parts of operations and errors

-- a truth value behind a word
unfoldable pub flag_at : List ℕ → List Lexeme → Read Bool
flag_at word = behind word bool_at

-- a truth value behind two words
unfoldable pub flag_2_at : List ℕ → List ℕ → List Lexeme → Read Bool
flag_2_at word next = behind word (behind next bool_at)

-- a type behind a word
unfoldable pub use_at : Extent → List ℕ → List Lexeme → Read UseText
use_at ext word = do
  at ← word_at word
  of ← outer_type_at ext
  optional ← maybe_at (codes "OPTIONAL") (flag_at (codes "OPTIONAL"))
  give (record { line = at.line; column = at.column; of = of; optional = unwrap_or optional false })

-- names in braces
unfoldable pub names_at : List Lexeme → Read (List Located)
names_at = do
  _ ← word_at (codes "{")
  names ← listed_at (codes "|") value_name_at
  _ ← word_at (codes "}")
  give names

-- names in braces behind a word, or none
unfoldable pub named_list_at : List ℕ → List Lexeme → Read (List Located)
named_list_at word ts = if begins word ts then behind word names_at ts else Ok ([], ts)

-- a priority, which isn't kept
unfoldable pub priority_at : List Lexeme → Read Place
priority_at = do
  _ ← word_at (codes "{")
  _ ← number_64_at
  word_at (codes "}")

-- a code: an integer, or an object identifier
unfoldable pub local_at : List Lexeme → Read CodeText
local_at = do
  at ← word_at (codes "local")
  _ ← word_at (codes ":")
  number ← int_at
  give (record { line = at.line; column = at.column; local = Some number; global = None })

unfoldable pub global_at : List Lexeme → Read CodeText
global_at = do
  at ← word_at (codes "global")
  _ ← word_at (codes ":")
  oid ← oid_at
  give (record { line = at.line; column = at.column; local = None; global = Some oid })

unfoldable pub code_value_at : List Lexeme → Read CodeText
code_value_at ts = if begins (codes "local") ts then local_at ts else global_at ts

unfoldable pub code_at : List Lexeme → Read CodeText
code_at = behind (codes "CODE") code_value_at

-- ---- bodies

unfoldable pub maybe_use_at : Extent → List ℕ → List Lexeme → Read (Option UseText)
maybe_use_at ext word = maybe_at word (use_at ext word)

-- a truth value behind two words; true where they don't stand
unfoldable pub flag_or_at : List ℕ → List ℕ → List Lexeme → Read Bool
flag_or_at word next = maybe_at word (flag_2_at word next) >>= λ flag. give (unwrap_or flag true)

-- a truth value behind a word, which isn't kept
unfoldable pub passed_flag_at : List ℕ → List Lexeme → Read (Option Bool)
passed_flag_at word = maybe_at word (flag_at word)

-- a priority behind a word
unfoldable pub passed_priority_at : List ℕ → List Lexeme → Read (Option Place)
passed_priority_at word = maybe_at word (behind word priority_at)

unfoldable pub invoke_priority_at : List Lexeme → Read (Option Place)
invoke_priority_at = maybe_at (codes "INVOKE") (behind (codes "INVOKE") (behind (codes "PRIORITY") priority_at))

unfoldable pub maybe_code_at : List Lexeme → Read (Option CodeText)
maybe_code_at = maybe_at (codes "CODE") code_at

-- what an operation takes and gives
unfoldable pub signature_at : Extent → List Lexeme → Read Signature
signature_at ext = do
  argument ← maybe_use_at ext (codes "ARGUMENT")
  result ← maybe_use_at ext (codes "RESULT")
  returns ← flag_or_at (codes "RETURN") (codes "RESULT")
  give (record { argument = argument; result = result; returns = returns })

-- how an operation is carried out; only whether it always responds is kept
unfoldable pub manner_at : List Lexeme → Read Bool
manner_at = do
  _ ← passed_flag_at (codes "SYNCHRONOUS")
  _ ← passed_flag_at (codes "IDEMPOTENT")
  always ← flag_or_at (codes "ALWAYS") (codes "RESPONDS")
  _ ← invoke_priority_at
  _ ← passed_priority_at (codes "RESULT-PRIORITY")
  give always

unfoldable pub operation_at : Extent → List Lexeme → Read OpText
operation_at ext = do
  signature ← signature_at ext
  errors ← named_list_at (codes "ERRORS")
  linked ← named_list_at (codes "LINKED")
  always ← manner_at
  code ← maybe_code_at
  give (record { argument = signature.argument; result = signature.result; returns = signature.returns; always = always; errors = errors; linked = linked; code = code })

unfoldable pub error_at : Extent → List Lexeme → Read ErrText
error_at ext = do
  parameter ← maybe_use_at ext (codes "PARAMETER")
  _ ← passed_priority_at (codes "PRIORITY")
  code ← maybe_code_at
  give (record { parameter = parameter; code = code })

-- ---- assignments

unfoldable pub typed_at : Extent → List Lexeme → Read Assignment
typed_at ext = do
  name ← type_name_at
  _ ← word_at (codes "::=")
  of ← outer_type_at ext
  give (record { name = name; body = bodies.Typed of })

-- ::= and a brace behind a word
unfoldable pub opens_at : List ℕ → List Lexeme → Read Place
opens_at word = behind word (behind (codes "::=") (word_at (codes "{")))

unfoldable pub operation_body_at : Extent → List Lexeme → Read Assigned
operation_body_at ext = do
  _ ← opens_at (codes "OPERATION")
  operation ← operation_at ext
  _ ← word_at (codes "}")
  give (bodies.Operation operation)

unfoldable pub error_body_at : Extent → List Lexeme → Read Assigned
error_body_at ext = do
  _ ← opens_at (codes "ERROR")
  error ← error_at ext
  _ ← word_at (codes "}")
  give (bodies.Error error)

unfoldable pub body_at : Extent → List Lexeme → Read Assigned
body_at ext ts = if begins (codes "OPERATION") ts then operation_body_at ext ts else error_body_at ext ts

unfoldable pub valued_at : Extent → List Lexeme → Read Assignment
valued_at ext = do
  name ← value_name_at
  body ← body_at ext
  give (record { name = name; body = body })

unfoldable pub assignment_at : Extent → List Lexeme → Read Assignment
assignment_at ext ts = if starts_name ts then valued_at ext ts else typed_at ext ts

-- ---- modules

-- what is wrong with a token that isn't one of the two classes: other names may be imported in full ASN.1
unfoldable pub class_kind : List Lexeme → NotationKind
class_kind [] = UnexpectedToken
class_kind (t ∷ ts) = if is_type_name t.kind t.text || is_value_name t.kind t.text then Unsupported else kind_at (t ∷ ts)

-- an information object class that may be imported
unfoldable pub imported_at : Extent → List Lexeme → Read Place
imported_at ext ts =
    if begins (codes "OPERATION") ts then word_at (codes "OPERATION") ts else
    if begins (codes "ERROR") ts then word_at (codes "ERROR") ts else
    if ext.wide then token_at name_of ts else refuse_as (class_kind ts) ts

unfoldable pub listed_imports_at : Extent → List Lexeme → Read Place
listed_imports_at ext = do
  first ← imported_at ext
  _ ← all_at (begins (codes ",")) (behind (codes ",") (imported_at ext))
  give first

unfoldable pub maybe_oid_at : List Lexeme → Read (Option (List ℕ))
maybe_oid_at = maybe_at (codes "{") oid_at

-- imports, which aren't kept
unfoldable pub imports_at : Extent → List Lexeme → Read Place
imports_at ext = do
  _ ← word_at (codes "IMPORTS")
  _ ← listed_imports_at ext
  _ ← word_at (codes "FROM")
  _ ← type_name_at
  _ ← maybe_oid_at
  word_at (codes ";")

-- whether tags are implicit unless they say otherwise
unfoldable pub tagging_at : List Lexeme → Read Bool
tagging_at ts =
    if begins (codes "EXPLICIT") ts then (behind (codes "EXPLICIT") (word_at (codes "TAGS")) >>= λ _. give false) ts else
    if begins (codes "IMPLICIT") ts then (behind (codes "IMPLICIT") (word_at (codes "TAGS")) >>= λ _. give true) ts else Ok (false, ts)

unfoldable pub maybe_imports_at : Extent → List Lexeme → Read (Option Place)
maybe_imports_at ext = maybe_at (codes "IMPORTS") (imports_at ext)

unfoldable pub assignments_at : Extent → List Lexeme → Read (List Assignment)
assignments_at ext = all_at (goes_on (codes "END")) (assignment_at ext)

-- what stands before a module's ::=
unfoldable pub heading_at : List Lexeme → Read Heading
heading_at = do
  name ← type_name_at
  oid ← oid_at
  _ ← word_at (codes "DEFINITIONS")
  implicit ← tagging_at
  _ ← word_at (codes "::=")
  give (record { name = name; name_oid = oid; implicit = implicit })

unfoldable pub module_at : Extent → List Lexeme → Read ModuleText
module_at ext = do
  heading ← heading_at
  _ ← word_at (codes "BEGIN")
  _ ← maybe_imports_at ext
  assignments ← assignments_at ext
  _ ← word_at (codes "END")
  give (record { name = heading.name; name_oid = heading.name_oid; implicit = heading.implicit; assignments = assignments })

abbrev pub ended_at : ModuleText → List Lexeme → Read ModuleText
ended_at found [] = Ok (found, [])
ended_at found (t ∷ ts) = refuse (t ∷ ts)

-- a module and nothing behind it
unfoldable pub whole_at : Extent → List Lexeme → Read ModuleText
whole_at ext = module_at ext >>= ended_at
