-- The first problem of an APDU, over what each end keeps (X.880 9.4, X.882 9).
use Rattle.std.specs.Prelude.{◌≡◌, ℕ, ℤ, length, Bool, true, false, not, ◌&&◌, nat_le, Option, Some, None, is_some}
use Rattle.osi_base.specs.Limits.{most_open}
use Rattle.asn1_types.specs.declared.value.Val.{Val}
use Rattle.asn1_types.specs.declared.table.TypeTable.{TypeTable}
use Rattle.stub_tables.specs.declared.tables.Tables.{Tables}
use Rattle.stub_tables.specs.declared.operation.Code.{Code}
use Rattle.stub_tables.specs.declared.operation.Operation.{Operation}
use Rattle.stub_tables.specs.declared.operation.ErrorRow.{ErrorRow}
use Rattle.stub_tables.specs.declared.operation.Use.{Use}
use Rattle.stub_tables.specs.Codes.{is_silent, is_error_of}
use Rattle.stub_tables.specs.Lookup.{operation_at, error_at, operation_with}
use Rattle.stub_tables.specs.Uses.{is_carried}
use Rattle.stub_tables.specs.Apdus.{placed}
use Rattle.end_wire.specs.end_rules.Base.{Carried, Absent, Spelled, Unspelled}
use Rattle.end_wire.specs.end_rules.State.{is_empty}
use Rattle.end_wire.specs.end_rules.Invoking.{is_linked_to}
use Rattle.end_wire.specs.end_rules.Hearing.{first_problem, problem_if, has_links, is_place}
use Rattle.rose_roles.specs.declared.invoked_with.InvokedWith.{InvokedWith}
use Rattle.rose_roles.specs.declared.apdu_problems.ValueOrProblem as values_or_problems
use Rattle.rose_roles.specs.declared.apdu_problems.ValueOrProblem.TheVariants as value_or_problem
use Rattle.rose_roles.specs.Calls.{Kept, called}

abbrev pub silent : Option Operation → Bool
silent None = false
silent (Some operation) = is_silent operation

abbrev pub operation_called : Tables → Option InvokedWith → Option Operation
operation_called tables None = None
operation_called tables (Some c) = operation_at tables c.operation

-- the linked invocation is open (5), its operation may be linked to (6), by this one (7)
abbrev pub link_problem : Option InvokedWith → Option Operation → ℕ → Option ℕ
link_problem parent operation place =
    first_problem (problem_if (not (is_some parent)) 5)
    (first_problem (problem_if (not (has_links operation)) 6)
    (problem_if (not (is_linked_to operation place)) 7))

abbrev pub linking_problem : Tables → Kept → Option ℤ → ℕ → Option ℕ
linking_problem tables invoked None place = None
linking_problem tables invoked (Some linked) place =
    link_problem (called linked invoked) (operation_called tables (called linked invoked)) place

abbrev pub known_problem : Tables → Kept → Option ℤ → Option ℕ → Option ℕ
known_problem tables invoked linked None = Some 1
known_problem tables invoked linked (Some place) = linking_problem tables invoked linked place

-- all but the argument: duplicate invocation (0), resource limitation (3), unrecognized operation (1), links
abbrev pub early_problem : Tables → Kept → Kept → ℤ → Option ℤ → Option ℕ → Option ℕ
early_problem tables invoked performed id linked place =
    first_problem (problem_if (is_some (called id performed)) 0)
    (first_problem (problem_if (nat_le most_open (length performed) && not (silent (placed (operation_at tables) place))) 3)
    (known_problem tables invoked linked place))

-- ---- values

abbrev pub is_right : TypeTable → Use → Carried → Bool
is_right types used Absent = is_carried types used None
is_right types used (Spelled value) = is_carried types used (Some value)
is_right types used Unspelled = false

-- the value that is right there, or that none is
abbrev pub IsAllowed : Bool → Option Val → Option (Option Val) → Type 0
IsAllowed right value (Some v) = (right ≡ true) × (v ≡ value)
IsAllowed right value None = right ≡ false

-- the problem, or the value where there is none
abbrev pub IsValueOrProblem : Option ℕ → Option Val → values_or_problems.ValueOrProblem → Type 0
IsValueOrProblem problem value (value_or_problem.Right v) = (problem ≡ None) × (v ≡ value)
IsValueOrProblem problem value (value_or_problem.Wrong number) = problem ≡ Some number

abbrev pub operation_argument_problem : Tables → Option Operation → Carried → Option ℕ
operation_argument_problem tables None argument = Some 2
operation_argument_problem tables (Some operation) argument = problem_if (not (is_right tables.types operation.argument argument)) 2

-- all problems of an invocation; the argument's is the last (2)
abbrev pub argument_problem : Tables → Option ℕ → Carried → Option ℕ
argument_problem tables None argument = Some 1
argument_problem tables (Some place) argument = operation_argument_problem tables (operation_at tables place) argument

abbrev pub invoke_problem : Tables → Kept → Kept → ℤ → Option ℤ → Option ℕ → Carried → Option ℕ
invoke_problem tables invoked performed id linked place argument =
    first_problem (early_problem tables invoked performed id linked place) (argument_problem tables place argument)

-- what is right has no earlier problem
abbrev pub IsFree : Option ℕ → values_or_problems.ValueOrProblem → Type 0
IsFree early (value_or_problem.Right v) = early ≡ None
IsFree early (value_or_problem.Wrong number) = Unit {0}

-- a result without a code and a value, or one with the operation's code and a value of its type
abbrev pub right_result : Tables → ℕ → Operation → Option Code → Carried → Bool
right_result tables place operation None value = is_carried tables.types operation.result None
right_result tables place operation (Some code) value =
    is_place (operation_with tables code) place && is_right tables.types operation.result value

abbrev pub result_problem : Tables → ℕ → Option Operation → Option Code → Carried → Option ℕ
result_problem tables place None code value = Some 1
result_problem tables place (Some operation) code value =
    first_problem (problem_if (not operation.returns) 1) (problem_if (not (right_result tables place operation code value)) 2)

abbrev pub parameter_problem : Tables → Option ErrorRow → Carried → Option ℕ
parameter_problem tables None parameter = Some 4
parameter_problem tables (Some error) parameter = problem_if (not (is_right tables.types error.parameter parameter)) 4

abbrev pub known_error_problem : Tables → Operation → Option ℕ → Carried → Option ℕ
known_error_problem tables operation None parameter = Some 2
known_error_problem tables operation (Some place) parameter =
    first_problem (problem_if (not (is_error_of operation place)) 3) (parameter_problem tables (error_at tables place) parameter)

abbrev pub error_problem : Tables → Option Operation → Option ℕ → Carried → Option ℕ
error_problem tables None place parameter = Some 1
error_problem tables (Some operation) place parameter =
    first_problem (problem_if (is_empty operation.errors) 1) (known_error_problem tables operation place parameter)
