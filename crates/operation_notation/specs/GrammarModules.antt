-- The grammar of modules, operations and errors (X.680 13; X.880 8, in the profile that is supported), to an extent.
use Rattle.std.specs.Prelude.{codes, ℕ, Bool, true, false, ◌||◌, List, [], Option, Some, None, unwrap_or, if◌then◌else◌}
use Rattle.notation_tokens.specs.Lexeme.{Lexeme}
use Rattle.notation_tokens.specs.Words.{place, is_type_name, is_value_name, int_of, bool_of, type_name_of, value_name_of}
use Rattle.operation_notation.specs.Grammar.{◌>>=◌, One, Nothing, Either, Where, Maybe, Many, The, Behind, Listed}
use Rattle.operation_notation.specs.GrammarTypes.{Extent, OidSpelled, Number64, OuterType}
use Rattle.notation_tokens.specs.declared.token.Place.{Place}
use Rattle.notation_tokens.specs.declared.token.Located.{Located}
use Rattle.operation_notation.specs.declared.module.UseText.{UseText}
use Rattle.operation_notation.specs.declared.module.CodeText.{CodeText}
use Rattle.operation_notation.specs.declared.module.OpText.{OpText}
use Rattle.operation_notation.specs.declared.module.ErrText.{ErrText}
use Rattle.operation_notation.specs.declared.bodies.Signature.{Signature}
use Rattle.operation_notation.specs.declared.assignments.Heading.{Heading}
use Rattle.operation_notation.specs.declared.module.Assigned.{Assigned}
use Rattle.operation_notation.specs.declared.module.Assigned.TheVariants as bodies
use Rattle.operation_notation.specs.declared.module.Assignment.{Assignment}
use Rattle.operation_notation.specs.declared.module.ModuleText.{ModuleText}

-- a truth value behind a word
abbrev pub Flag : List ℕ → List Lexeme → Bool → Type 0
Flag word = Behind word (One bool_of)

-- a truth value behind two words, or none, which is TRUE
abbrev pub FlagOr : List ℕ → List ℕ → List Lexeme → Bool → Type 0
FlagOr word next = Maybe (Behind word (Flag next)) >>= λ flag. Nothing (unwrap_or flag true)

-- a word and Type ["OPTIONAL" Bool]; FALSE where no Bool is written
abbrev pub Use : Extent → List ℕ → List Lexeme → UseText → Type 0
Use ext word = do
  at ← The word
  of ← OuterType ext
  optional ← Maybe (Flag (codes "OPTIONAL"))
  Nothing (record { line = at.line; column = at.column; of = of; optional = unwrap_or optional false })

-- Names = "{" name {"|" name} "}"
abbrev pub Names : List Lexeme → List Located → Type 0
Names = do
  _ ← The (codes "{")
  names ← Listed (codes "|") (One value_name_of)
  _ ← The (codes "}")
  Nothing names

-- Names behind a word, or nothing, which is no names
abbrev pub NamedList : List ℕ → List Lexeme → List Located → Type 0
NamedList word = Either (Behind word Names) (Nothing [])

-- Prio = "{" number "}"
abbrev pub Priority : List Lexeme → Place → Type 0
Priority = do
  _ ← The (codes "{")
  _ ← Number64
  The (codes "}")

-- Code = "local" ":" int | "global" ":" Oid
abbrev pub Local : List Lexeme → CodeText → Type 0
Local = do
  at ← The (codes "local")
  _ ← The (codes ":")
  number ← One int_of
  Nothing (record { line = at.line; column = at.column; local = Some number; global = None })

abbrev pub Global : List Lexeme → CodeText → Type 0
Global = do
  at ← The (codes "global")
  _ ← The (codes ":")
  oid ← OidSpelled
  Nothing (record { line = at.line; column = at.column; local = None; global = Some oid })

abbrev pub Code : List Lexeme → CodeText → Type 0
Code = Behind (codes "CODE") (Either Local Global)

-- ["ARGUMENT" Type ["OPTIONAL" Bool]] ["RESULT" Type ["OPTIONAL" Bool]] ["RETURN" "RESULT" Bool]
abbrev pub SignatureSpelled : Extent → List Lexeme → Signature → Type 0
SignatureSpelled ext = do
  argument ← Maybe (Use ext (codes "ARGUMENT"))
  result ← Maybe (Use ext (codes "RESULT"))
  returns ← FlagOr (codes "RETURN") (codes "RESULT")
  Nothing (record { argument = argument; result = result; returns = returns })

-- ["SYNCHRONOUS" Bool] ["IDEMPOTENT" Bool] ["ALWAYS" "RESPONDS" Bool] ["INVOKE" "PRIORITY" Prio] ["RESULT-PRIORITY" Prio];
-- only ALWAYS RESPONDS is kept
abbrev pub Manner : List Lexeme → Bool → Type 0
Manner = do
  _ ← Maybe (Flag (codes "SYNCHRONOUS"))
  _ ← Maybe (Flag (codes "IDEMPOTENT"))
  always ← FlagOr (codes "ALWAYS") (codes "RESPONDS")
  _ ← Maybe (Behind (codes "INVOKE") (Behind (codes "PRIORITY") Priority))
  _ ← Maybe (Behind (codes "RESULT-PRIORITY") Priority)
  Nothing always

-- OpBody: its signature, ["ERRORS" Names] ["LINKED" Names], its manner, ["CODE" Code]
abbrev pub Operation : Extent → List Lexeme → OpText → Type 0
Operation ext = do
  signature ← SignatureSpelled ext
  errors ← NamedList (codes "ERRORS")
  linked ← NamedList (codes "LINKED")
  always ← Manner
  code ← Maybe Code
  Nothing (record { argument = signature.argument; result = signature.result; returns = signature.returns; always = always; errors = errors; linked = linked; code = code })

-- ErrBody
abbrev pub Error : Extent → List Lexeme → ErrText → Type 0
Error ext = do
  parameter ← Maybe (Use ext (codes "PARAMETER"))
  _ ← Maybe (Behind (codes "PRIORITY") Priority)
  code ← Maybe Code
  Nothing (record { parameter = parameter; code = code })

-- Name "::=" Type
abbrev pub Typed : Extent → List Lexeme → Assignment → Type 0
Typed ext = do
  name ← One type_name_of
  _ ← The (codes "::=")
  of ← OuterType ext
  Nothing (record { name = name; body = bodies.Typed of })

-- a word, "::=" and "{"
abbrev pub Opens : List ℕ → List Lexeme → Place → Type 0
Opens word = Behind word (Behind (codes "::=") (The (codes "{")))

-- "OPERATION" "::=" "{" OpBody "}"
abbrev pub OperationBody : Extent → List Lexeme → Assigned → Type 0
OperationBody ext = do
  _ ← Opens (codes "OPERATION")
  operation ← Operation ext
  _ ← The (codes "}")
  Nothing (bodies.Operation operation)

-- "ERROR" "::=" "{" ErrBody "}"
abbrev pub ErrorBody : Extent → List Lexeme → Assigned → Type 0
ErrorBody ext = do
  _ ← Opens (codes "ERROR")
  error ← Error ext
  _ ← The (codes "}")
  Nothing (bodies.Error error)

abbrev pub Valued : Extent → List Lexeme → Assignment → Type 0
Valued ext = do
  name ← One value_name_of
  body ← Either (OperationBody ext) (ErrorBody ext)
  Nothing (record { name = name; body = body })

abbrev pub Assign : Extent → List Lexeme → Assignment → Type 0
Assign ext = Either (Valued ext) (Typed ext)

-- a name of either form
abbrev pub name_of : Lexeme → Option Place
name_of t = if is_type_name t.kind t.text || is_value_name t.kind t.text then Some (place t) else None

-- Class = "OPERATION" | "ERROR", and another name where it may stand
abbrev pub Imported : Extent → List Lexeme → Place → Type 0
Imported ext = Either (The (codes "OPERATION")) (Either (The (codes "ERROR")) (Where ext.wide (One name_of)))

-- Imports = "IMPORTS" Class {"," Class} "FROM" Name [Oid] ";"
abbrev pub Imports : Extent → List Lexeme → Place → Type 0
Imports ext = do
  _ ← The (codes "IMPORTS")
  _ ← Listed (codes ",") (Imported ext)
  _ ← The (codes "FROM")
  _ ← One type_name_of
  _ ← Maybe OidSpelled
  The (codes ";")

-- [("EXPLICIT" | "IMPLICIT") "TAGS"]: whether tags are implicit unless they say otherwise
abbrev pub Tagging : List Lexeme → Bool → Type 0
Tagging = Either (Behind (codes "EXPLICIT") (The (codes "TAGS")) >>= λ _. Nothing false)
    (Either (Behind (codes "IMPLICIT") (The (codes "TAGS")) >>= λ _. Nothing true) (Nothing false))

-- Name Oid "DEFINITIONS" Tagging "::="
abbrev pub HeadingSpelled : List Lexeme → Heading → Type 0
HeadingSpelled = do
  name ← One type_name_of
  oid ← OidSpelled
  _ ← The (codes "DEFINITIONS")
  implicit ← Tagging
  _ ← The (codes "::=")
  Nothing (record { name = name; name_oid = oid; implicit = implicit })

-- Module: its heading, "BEGIN" [Imports] {Assign} "END"
abbrev pub Module : Extent → List Lexeme → ModuleText → Type 0
Module ext = do
  heading ← HeadingSpelled
  _ ← The (codes "BEGIN")
  _ ← Maybe (Imports ext)
  assignments ← Many (Assign ext)
  _ ← The (codes "END")
  Nothing (record { name = heading.name; name_oid = heading.name_oid; implicit = heading.implicit; assignments = assignments })
