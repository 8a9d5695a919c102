-- The tables of a module (X.880 8): its types, and its operations and errors in the order of the text.
use Rattle.std.specs.Prelude.{◌≡◌, ℕ, ◌+◌, ℤ, Bool, true, false, slice_get, Result, Ok, Err, List, [], ◌∷◌, ◌++◌, length, Option, Some, None, replicate}
use Rattle.notation_tokens.specs.declared.token.Located.{Located}
use Rattle.operation_notation.specs.declared.module.Assignment.{Assignment}
use Rattle.operation_notation.specs.declared.module.Assigned.{Assigned}
use Rattle.operation_notation.specs.declared.module.Assigned.TheVariants as bodies
use Rattle.operation_notation.specs.declared.module.CodeText.{CodeText}
use Rattle.operation_notation.specs.declared.module.OpText.{OpText}
use Rattle.operation_notation.specs.declared.module.ErrText.{ErrText}
use Rattle.operation_notation.specs.declared.module.ModuleText.{ModuleText}
use Rattle.stub_tables.specs.declared.operation.Code.{Code}
use Rattle.stub_tables.specs.declared.operation.Code.TheVariants as codes
use Rattle.stub_tables.specs.declared.operation.Operation.{Operation}
use Rattle.stub_tables.specs.declared.operation.ErrorRow.{ErrorRow}
use Rattle.module_compiler.specs.declared.fault.Halt.{Halt}
use Rattle.module_compiler.specs.declared.module_tables.Made.{Made}
use Rattle.module_compiler.specs.declared.module_tables.Whole.{Whole}
use Rattle.module_compiler.specs.declared.module_tables.Sort.{Sort}
use Rattle.module_compiler.specs.declared.module_tables.Sort.TheVariants as sorts
use Rattle.module_faults.specs.Names.{or_none, find}
use Rattle.module_compiler.specs.Scope.{Ground, behind, own_numbers}
use Rattle.module_compiler.specs.Numbering.{NumberedRows, Walk, ◌>>=◌, give, none, row_behind, type_row, use_of}

-- whether a body is an operation's, or an error's
abbrev pub sort_test : Sort → Assigned → Bool
sort_test sorts.Operation (bodies.Operation operation) = true
sort_test sorts.Error (bodies.Error error) = true
sort_test sort body = false

abbrev pub number_if : Bool → Option ℕ → Option ℕ
number_if true number = number
number_if false number = None

-- the number of the operation, or of the error, of a name
unfoldable pub number_by : (Assigned → Bool) → List Assignment → List ℕ → Option ℕ
number_by is assignments name = or_none (find assignments name) (λ place. or_none (slice_get assignments place) (λ a. number_if (is a.body) (slice_get (own_numbers 0 0 assignments) place)))

abbrev pub code_by : Option ℤ → Option (List ℕ) → Option Code
code_by (Some number) global = Some (codes.Local number)
code_by None (Some arcs) = Some (codes.Global arcs)
code_by None None = None

abbrev pub code_of : Option CodeText → Option Code
code_of code = or_none code (λ c. code_by c.local c.global)

-- names as numbers, behind those so far
unfoldable pub numbers_of : (Assigned → Bool) → List Assignment → List ℕ → List Located → Option (List ℕ)
numbers_of is assignments so_far [] = Some so_far
numbers_of is assignments so_far (name ∷ names) = or_none (number_by is assignments name.text) (λ n. numbers_of is assignments (so_far ++ n ∷ []) names)

abbrev pub known_or_none : {A : Type 0} → Option A → Walk A
known_or_none None = none
known_or_none (Some a) = give a

unfoldable pub operation_of : Ground → Located → OpText → Walk Operation
operation_of scope name o = do
  argument ← use_of scope o.argument
  result ← use_of scope o.result
  code ← known_or_none (code_of o.code)
  errors ← known_or_none (numbers_of (sort_test sorts.Error) scope.assignments [] o.errors)
  linked ← known_or_none (numbers_of (sort_test sorts.Operation) scope.assignments [] o.linked)
  give (record { name = name.text; code = code; argument = argument; result = result; returns = o.returns; always = o.always; errors = errors; linked = linked })

unfoldable pub error_of : Ground → Located → ErrText → Walk ErrorRow
error_of scope name e = do
  parameter ← use_of scope e.parameter
  code ← known_or_none (code_of e.code)
  give (record { name = name.text; code = code; parameter = parameter })

abbrev pub with_operation : Made → Operation → Made
with_operation made o = record { operations = made.operations ++ o ∷ []; errors = made.errors }

abbrev pub with_error : Made → ErrorRow → Made
with_error made e = record { operations = made.operations; errors = made.errors ++ e ∷ [] }

-- one assignment, at its place
abbrev pub body_of : Ground → ℕ → Made → Located → Assigned → Walk Made
body_of scope place made name (bodies.Typed of) = row_behind scope (type_row scope) (behind scope.assignments place) >>= λ id. give made
body_of scope place made name (bodies.Operation o) = operation_of scope name o >>= λ row. give (with_operation made row)
body_of scope place made name (bodies.Error e) = error_of scope name e >>= λ row. give (with_error made row)

unfoldable pub assignment_of : Ground → ℕ → Made → Assignment → Walk Made
assignment_of scope place made a = body_of scope place made a.name a.body

-- the assignments from a place on
unfoldable pub walk_all : Ground → ℕ → Made → List Assignment → Walk Made
walk_all scope place made [] = give made
walk_all scope place made (a ∷ more) = assignment_of scope place made a >>= λ now. walk_all scope (place + 1) now more

abbrev pub ground_of : ModuleText → Ground
ground_of m = record { assignments = m.assignments; implicit = m.implicit }

abbrev pub start : List Assignment → NumberedRows
start assignments = record { rows = []; given = replicate (length assignments) None }

abbrev pub whole : Option (Made × NumberedRows) → Option Whole
whole None = None
whole (Some p) = Some (record { types = p.1.rows; operations = p.0.operations; errors = p.0.errors })

-- the rows, the operations and the errors of a module's assignments
unfoldable pub whole_of : Ground → Option Whole
whole_of scope = whole (walk_all scope 0 (record { operations = []; errors = [] }) scope.assignments (start scope.assignments))

-- what was made, and the rows that are left, are what walking gives
abbrev pub GivesMade : Result (Unit {0}) Halt → Made → NumberedRows → Option (Made × NumberedRows) → Type 0
GivesMade (Ok u) made s found = found ≡ Some (made, s)
GivesMade (Err e) made s found = Unit {0}
