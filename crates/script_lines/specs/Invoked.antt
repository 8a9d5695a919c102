-- Which operation an invocation names: by its place among the invocations of its end.
use Rattle.std.specs.Prelude.{ℕ, ℤ, zero, suc, pos, negsuc, ◌==◌, if◌then◌else◌, List, [], ◌∷◌, ◌++◌, length, Option, None, Some, option_and_then, slice_get, slice_set}
use Rattle.osi_base.specs.declared.layer_words.Side.{Side}
use Rattle.osi_base.specs.declared.layer_words.Side.TheVariants.{A, B}
use Rattle.asn1_types.specs.declared.row.TypeId.{TypeId}
use Rattle.stub_tables.specs.declared.operation.Operation.{Operation}
use Rattle.stub_tables.specs.declared.tables.Tables.{Tables}
use Rattle.stub_tables.specs.Lookup.{operation_at}
use Rattle.dialogue.specs.declared.call.Call.{Call}
use Rattle.dialogue.specs.declared.call.Call.TheVariants.{Invoke}
use Rattle.script_lines.specs.Operations.{Operations}

abbrev pub no_operations : Operations
no_operations = record { by_a = []; by_b = [] }

abbrev pub operations_of : Operations → Side → List ℕ
operations_of o A = o.by_a
operations_of o B = o.by_b

-- one invocation more
abbrev pub pushed : Operations → Side → ℕ → Operations
pushed o A operation = record o { by_a = o.by_a ++ operation ∷ [] }
pushed o B operation = record o { by_b = o.by_b ++ operation ∷ [] }

abbrev pub named_in : Operations → Side → Call → Operations
named_in o side (Invoke context operation argument linked) = pushed o side operation
named_in o side call = o

-- ---- by identifier

abbrev pub less_one : ℕ → Option ℕ
less_one zero = None
less_one (suc n) = Some n

-- the place of the invocation with this identifier among those of its end, which count from 1
abbrev pub place_of_id : ℤ → Option ℕ
place_of_id (pos n) = less_one n
place_of_id (negsuc n) = None

-- over the one that stands there, or behind the last
abbrev pub put_at : List ℕ → ℕ → ℕ → List ℕ
put_at operations place operation = if place == length operations then operations ++ operation ∷ [] else slice_set operations place operation

abbrev pub put_at_place : List ℕ → Option ℕ → ℕ → List ℕ
put_at_place operations None operation = operations
put_at_place operations (Some place) operation = put_at operations place operation

abbrev pub noted : List ℕ → ℤ → ℕ → List ℕ
noted operations id operation = put_at_place operations (place_of_id id) operation

-- this end's invocation with this identifier, which is the next or was given before
abbrev pub accepted : Operations → Side → ℤ → ℕ → Operations
accepted o A id operation = record o { by_a = noted o.by_a id operation }
accepted o B id operation = record o { by_b = noted o.by_b id operation }

abbrev pub operation_with_id : Tables → List ℕ → ℤ → Option Operation
operation_with_id tables operations id = option_and_then (operation_at tables) (option_and_then (slice_get operations) (place_of_id id))

abbrev pub result_of : Option Operation → Option TypeId
result_of None = None
result_of (Some operation) = operation.result.inner

-- the type of the result of the operation that the invocation with this identifier names
abbrev pub result_type : Tables → List ℕ → ℤ → Option TypeId
result_type tables operations id = result_of (operation_with_id tables operations id)
