-- The errors and operations of a table file.
use Rattle.std.specs.Prelude.{ℕ, zero, suc, Bool, true, false, ◌||◌, List, [], ◌∷◌, ◌++◌, length, Ok, Option, Some, None, nat_lt, if◌then◌else◌}
use Rattle.std.specs.List.{list_any}
use Rattle.std.specs.Cmp.Lexicographic.{pointwise}
use Rattle.std.specs.Prelude.{nat_eq}
use Rattle.asn1_types.specs.declared.row.TypeId.{TypeId}
use Rattle.asn1_types.specs.declared.row.TypeRow.{TypeRow}
use Rattle.stub_tables.specs.declared.operation.Use.{Use}
use Rattle.stub_tables.specs.declared.operation.Code.{Code}
use Rattle.stub_tables.specs.declared.operation.Code.TheVariants.{Local, Global}
use Rattle.stub_tables.specs.declared.operation.Operation.{Operation}
use Rattle.stub_tables.specs.declared.operation.ErrorRow.{ErrorRow}
use Rattle.stub_tables.specs.Codes.{same_code}
use Rattle.packed_codec.specs.Reading.{Spot}
use Rattle.table_file.specs.Reading.{Reading, ◌>>=◌, refuse}
use Rattle.table_file.specs.Fields.{octet_at, many_at, truth_at, integer_at, object_id_at}
use Rattle.table_file.specs.RowParts.{name_at, row_number_at, list_at, index_at}

abbrev pub code_behind : ℕ → ℕ → Spot → Reading (Code × Spot)
code_behind place zero s = integer_at s >>= λ z. Ok (Local z.0, z.1)
code_behind place (suc zero) s = object_id_at s >>= λ arcs. Ok (Global arcs.0, arcs.1)
code_behind place (suc (suc n)) s = refuse place

unfoldable pub code_at : Spot → Reading (Code × Spot)
code_at s = do
  o ← octet_at s
  code_behind s.place o.0 o.1

-- the number of one of the rows
abbrev pub known_row : List TypeRow → Option TypeId → Option TypeId
known_row types None = None
known_row types (Some id) = if nat_lt id.0 (length types) then Some id else None

abbrev pub some_type : Option TypeId → Option (Option TypeId)
some_type None = None
some_type (Some id) = Some (Some id)

abbrev pub type_if : List TypeRow → Bool × Spot → Reading (Option (Option TypeId) × Spot)
type_if types there = if there.0 then (row_number_at there.1 >>= λ i. Ok (some_type (known_row types i.0), i.1)) else Ok (Some None, there.1)

-- the type that is carried, where there is one; nothing where it is no row
unfoldable pub type_at : List TypeRow → Spot → Reading (Option (Option TypeId) × Spot)
type_at types s = truth_at s >>= type_if types

abbrev pub use_of : Option (Option TypeId) → Bool → Option Use
use_of None optional = None
use_of (Some inner) optional = Some (record { inner = inner; optional = optional })

unfoldable pub use_at : List TypeRow → Spot → Reading (Option Use × Spot)
use_at types s = do
  i ← type_at types s
  o ← truth_at i.1
  Ok (use_of i.0 o.0, o.1)

-- ---- errors

abbrev pub error_of : Option (List ℕ) → Code → Option Use → Option ErrorRow
error_of (Some name) code (Some parameter) = Some (record { name = name; code = code; parameter = parameter })
error_of name code parameter = None

unfoldable pub error_at : List TypeRow → Spot → Reading (Option ErrorRow × Spot)
error_at types s = do
  n ← name_at s
  c ← code_at n.1
  u ← use_at types c.1
  Ok (error_of n.0 c.0 u.0, u.1)

abbrev pub same_name : List ℕ → List ℕ → Bool
same_name = pointwise nat_eq

-- some error has this name, or this code
abbrev pub error_named : List ErrorRow → List ℕ → Bool
error_named errors name = list_any (λ (e : ErrorRow). same_name e.name name) errors

abbrev pub error_coded : List ErrorRow → Code → Bool
error_coded errors code = list_any (λ (e : ErrorRow). same_code e.code code) errors

abbrev pub unless : {A : Type 0} → Bool → ℕ → A → Reading A
unless true place a = refuse place
unless false place a = Ok a

-- the errors, and one more that began at a place, if its name and its code are its own
abbrev pub error_added : ℕ → List ErrorRow → Option ErrorRow → Reading (List ErrorRow)
error_added place errors None = refuse place
error_added place errors (Some e) = unless (error_named errors e.name || error_coded errors e.code) place (errors ++ e ∷ [])

-- one error more, which is judged before the next is read
unfoldable pub adds_error : List TypeRow → List ErrorRow → Spot → Reading (List ErrorRow × Spot)
adds_error types before s = do
  e ← error_at types s
  all ← error_added s.place before e.0
  Ok (all, e.1)

abbrev pub errors_at : List TypeRow → Spot → Reading (List ErrorRow × Spot)
errors_at types = many_at (λ n. adds_error types) []

-- ---- operations

abbrev pub both : {A B : Type 0} → Option A → Option B → Option (A × B)
both None b = None
both (Some a) None = None
both (Some a) (Some b) = Some (a, b)

-- an operation of these, of which each pair is its argument and result, and its errors and linked operations
abbrev pub operation_of : Option (List ℕ) → Code → Option (Use × Use) → Bool → Bool → Option (List ℕ × List ℕ) → Option Operation
operation_of None code uses returns always places = None
operation_of (Some name) code None returns always places = None
operation_of (Some name) code (Some uses) returns always None = None
operation_of (Some name) code (Some uses) returns always (Some places) =
    Some (record { name = name; code = code; argument = uses.0; result = uses.1; returns = returns; always = always; errors = places.0; linked = places.1 })

-- an operation among so many, beside so many errors
unfoldable pub operation_at : List TypeRow → ℕ → ℕ → Spot → Reading (Option Operation × Spot)
operation_at types errors operations s = do
  n ← name_at s
  c ← code_at n.1
  a ← use_at types c.1
  r ← use_at types a.1
  returns ← truth_at r.1
  always ← truth_at returns.1
  e ← list_at (index_at errors) always.1
  l ← list_at (index_at operations) e.1
  Ok (operation_of n.0 c.0 (both a.0 r.0) returns.0 always.0 (both e.0 l.0), l.1)

abbrev pub operation_named : List Operation → List ℕ → Bool
operation_named operations name = list_any (λ (o : Operation). same_name o.name name) operations

abbrev pub operation_coded : List Operation → Code → Bool
operation_coded operations code = list_any (λ (o : Operation). same_code o.code code) operations

-- names are distinct over errors and operations together, codes among operations
abbrev pub operation_added : ℕ → List ErrorRow → List Operation → Option Operation → Reading (List Operation)
operation_added place errors operations None = refuse place
operation_added place errors operations (Some o) =
    unless ((error_named errors o.name || operation_named operations o.name) || operation_coded operations o.code) place (operations ++ o ∷ [])

-- one operation more of so many, which is judged before the next is read
unfoldable pub adds_operation : List TypeRow → List ErrorRow → ℕ → List Operation → Spot → Reading (List Operation × Spot)
adds_operation types errors count before s = do
  o ← operation_at types (length errors) count s
  all ← operation_added s.place errors before o.0
  Ok (all, o.1)

abbrev pub operations_at : List TypeRow → List ErrorRow → Spot → Reading (List Operation × Spot)
operations_at types errors = many_at (adds_operation types errors) []
