-- The listing of a module's operations and errors.
use Rattle.std.specs.Prelude.{ℕ, Bool, List, [], ◌∷◌, ◌++◌, length, Option, Some, None, codes, decimal, flat_map, if◌then◌else◌}
use Rattle.std.specs.Fmt.{signed_decimal}
use Rattle.value_text.specs.Values.{oid_text}
use Rattle.asn1_types.specs.declared.row.TypeId.{TypeId}
use Rattle.stub_tables.specs.declared.operation.Use.{Use}
use Rattle.stub_tables.specs.declared.operation.Code.{Code}
use Rattle.stub_tables.specs.declared.operation.Code.TheVariants.{Local, Global}
use Rattle.stub_tables.specs.declared.operation.Operation.{Operation}
use Rattle.stub_tables.specs.declared.operation.ErrorRow.{ErrorRow}
use Rattle.stub_tables.specs.declared.tables.Tables.{Tables}

-- whether a value is carried: never, perhaps or always
abbrev pub carried_word : Option TypeId → Bool → List ℕ
carried_word None optional = codes "none"
carried_word (Some of) optional = if optional then codes "optional" else codes "yes"

abbrev pub use_word : Use → List ℕ
use_word carried = carried_word carried.inner carried.optional

-- an operation that returns no result has none
abbrev pub result_word : Operation → List ℕ
result_word o = if o.returns then use_word o.result else codes "never"

abbrev pub code_text : Code → List ℕ
code_text (Local number) = codes "local:" ++ signed_decimal number
code_text (Global arcs) = codes "global:" ++ oid_text arcs

unfoldable pub operation_line : Operation → List ℕ
operation_line o =
    codes "operation " ++ o.name ++ codes " " ++ code_text o.code ++ codes " argument " ++ use_word o.argument ++ codes " result " ++ result_word o
    ++ codes " errors " ++ decimal (length o.errors) ++ codes " linked " ++ decimal (length o.linked) ++ 10 ∷ []

unfoldable pub error_line : ErrorRow → List ℕ
error_line e = codes "error " ++ e.name ++ codes " " ++ code_text e.code ++ codes " parameter " ++ use_word e.parameter ++ 10 ∷ []

unfoldable pub count_line : ℕ → ℕ → List ℕ
count_line operations errors = codes "checked " ++ (decimal operations ++ codes " operations ") ++ (decimal errors ++ codes " errors") ++ 10 ∷ []

-- a line for each operation, then one for each error, and how many there are
unfoldable pub listing_of : Tables → List ℕ
listing_of tables = flat_map operation_line tables.operations ++ flat_map error_line tables.errors ++ count_line (length tables.operations) (length tables.errors)
