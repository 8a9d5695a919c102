-- Tables that have a table file, row by row: names and numbers have their forms, and each row may stand behind those before it.
use Rattle.std.specs.Prelude.{◌≡◌, ℕ, ◌+◌, ◌<◌, ◌^◌, ℤ, pos, negsuc, true, false, ◌||◌, List, [], ◌∷◌, ◌++◌, length, Option, Some, None, ◌≤◌}
use Rattle.osi_base.specs.Limits.{most_32, most_signed}
use Rattle.asn1_types.specs.declared.row.Item.{Item}
use Rattle.asn1_types.specs.declared.row.Part.{Part}
use Rattle.asn1_types.specs.declared.row.TypeId.{TypeId}
use Rattle.asn1_types.specs.declared.row.TypeRow.{TypeRow}
use Rattle.asn1_types.specs.declared.row.TypeRow.TheVariants as rows
use Rattle.asn1_types.specs.Fits.{integer_fits, object_id_fits}
use Rattle.asn1_types.specs.Table.{refusal}
use Rattle.asn1_types.specs.Value.{integer, object_id}
use Rattle.notation_tokens.specs.Words.{is_name_of_type, is_name_of_value}
use Rattle.stub_tables.specs.declared.operation.Use.{Use}
use Rattle.stub_tables.specs.declared.operation.Code.{Code}
use Rattle.stub_tables.specs.declared.operation.Code.TheVariants.{Local, Global}
use Rattle.stub_tables.specs.declared.operation.Operation.{Operation}
use Rattle.stub_tables.specs.declared.operation.ErrorRow.{ErrorRow}
use Rattle.table_file.specs.declared.row_parts.Version.{Version}
use Rattle.table_file.specs.declared.row_parts.Version.TheVariants as versions
use Rattle.table_file.specs.Contents.{Contents}
use Rattle.table_file.specs.Sections.{error_named, error_coded, operation_named, operation_coded}

-- ---- lists

-- each of these stands well behind those before it
abbrev pub Along : {A : Type 0} → (List A → A → Type 0) → List A → List A → Type 0
Along V before [] = Unit {0}
Along V before (x ∷ xs) = V before x × Along V (before ++ x ∷ []) xs

abbrev pub Each : {A : Type 0} → (A → Type 0) → List A → Type 0
Each V xs = Along (λ before. V) [] xs

-- how many items the lists of a table have together, of which each item counts for itself and what is in it
abbrev pub sum_of : {A : Type 0} → (A → ℕ) → List A → ℕ
sum_of inner [] = 0
sum_of inner (x ∷ xs) = inner x + sum_of inner xs

abbrev pub counted_in : {A : Type 0} → (A → ℕ) → List A → ℕ
counted_in inner xs = length xs + sum_of inner xs

-- ---- names and numbers

-- a name of a value, and a name of a type; four octets tell how long it is
abbrev pub IsNamed : List ℕ → Type 0
IsNamed name = (is_name_of_value name ≡ true) × (length name < 2 ^ 32)

abbrev pub IsTitled : List ℕ → Type 0
IsTitled name = (is_name_of_type name ≡ true) × (length name < 2 ^ 32)

-- a number of 64 bits
abbrev pub IsNumber : ℤ → Type 0
IsNumber z = integer_fits (negsuc most_signed) (pos most_signed) (integer z) ≡ true

-- a number of 32 bits
abbrev pub IsShortNumber : ℕ → Type 0
IsShortNumber n = n ≤ most_32

-- an object identifier of arcs of 32 bits
abbrev pub AreArcs : List ℕ → Type 0
AreArcs arcs = object_id_fits (object_id arcs) ≡ true

-- ---- rows of types

pub record IsItem (i : Item) : Type 0 where
  pub name : IsNamed i.name
  pub number : IsNumber i.number

-- version 1 has no defaults
abbrev pub IsDefault : Version → Option ℤ → Type 0
IsDefault versions.One default = default ≡ None
IsDefault versions.Two None = Unit {0}
IsDefault versions.Two (Some z) = IsNumber z

pub record IsPart (version : Version) (p : Part) : Type 0 where
  pub name : IsNamed p.name
  pub inner : IsShortNumber p.inner.0
  pub default : IsDefault version p.default

-- version 1 has no SET OF
abbrev pub IsSetOf : Version → TypeId → Type 0
IsSetOf versions.One inner = ⊥
IsSetOf versions.Two inner = IsShortNumber inner.0

-- no version has an `Any`
abbrev pub HasRowForm : Version → TypeRow → Type 0
HasRowForm version rows.Boolean = Unit {0}
HasRowForm version (rows.Integer low high) = IsNumber low × IsNumber high
HasRowForm version (rows.Enumerated items) = Each IsItem items
HasRowForm version rows.Null = Unit {0}
HasRowForm version (rows.OctetString most) = IsShortNumber most
HasRowForm version rows.BitString = Unit {0}
HasRowForm version rows.ObjectId = Unit {0}
HasRowForm version (rows.Text kind) = Unit {0}
HasRowForm version (rows.Sequence parts) = Each (IsPart version) parts
HasRowForm version (rows.Set parts) = Each (IsPart version) parts
HasRowForm version (rows.SequenceOf inner) = IsShortNumber inner.0
HasRowForm version (rows.Choice parts) = Each (IsPart version) parts
HasRowForm version (rows.Tagged class number explicit inner) = IsShortNumber number × IsShortNumber inner.0
HasRowForm version (rows.SetOf inner) = IsSetOf version inner
HasRowForm version rows.Any = ⊥

pub record IsRow (version : Version) (before : List TypeRow) (row : TypeRow) : Type 0 where
  pub form : HasRowForm version row
  pub sound : refusal before row ≡ None

-- how many items are in a row
abbrev pub items_in_row : TypeRow → ℕ
items_in_row rows.Boolean = 0
items_in_row (rows.Integer low high) = 0
items_in_row (rows.Enumerated items) = length items
items_in_row rows.Null = 0
items_in_row (rows.OctetString most) = 0
items_in_row rows.BitString = 0
items_in_row rows.ObjectId = 0
items_in_row (rows.Text kind) = 0
items_in_row (rows.Sequence parts) = length parts
items_in_row (rows.Set parts) = length parts
items_in_row (rows.SequenceOf inner) = 0
items_in_row (rows.Choice parts) = length parts
items_in_row (rows.Tagged class number explicit inner) = 0
items_in_row (rows.SetOf inner) = 0
items_in_row rows.Any = 0

-- ---- errors and operations

abbrev pub IsCode : Code → Type 0
IsCode (Local z) = IsNumber z
IsCode (Global arcs) = AreArcs arcs

-- the number of one of so many rows
abbrev pub IsRowNumber : ℕ → Option TypeId → Type 0
IsRowNumber count None = Unit {0}
IsRowNumber count (Some id) = (id.0 < count) × IsShortNumber id.0

abbrev pub IsUse : ℕ → Use → Type 0
IsUse count u = IsRowNumber count u.inner

-- its name and its code are its own
pub record IsError (types : List TypeRow) (before : List ErrorRow) (e : ErrorRow) : Type 0 where
  pub name : IsNamed e.name
  pub code : IsCode e.code
  pub parameter : IsUse (length types) e.parameter
  pub own : (error_named before e.name || error_coded before e.code) ≡ false

-- the place of one of so many
abbrev pub IsPlace : ℕ → ℕ → Type 0
IsPlace count n = (n < count) × IsShortNumber n

-- its name is its own among errors and operations, and its code among operations
pub record IsOperation (types : List TypeRow) (errors : List ErrorRow) (count : ℕ) (before : List Operation) (o : Operation) : Type 0 where
  pub name : IsNamed o.name
  pub code : IsCode o.code
  pub argument : IsUse (length types) o.argument
  pub result : IsUse (length types) o.result
  pub errors_known : Each (IsPlace (length errors)) o.errors
  pub linked_known : Each (IsPlace count) o.linked
  pub own : ((error_named errors o.name || operation_named before o.name) || operation_coded before o.code) ≡ false

abbrev pub items_in_operation : Operation → ℕ
items_in_operation o = length o.errors + length o.linked

-- ---- tables

pub record AreSound (version : Version) (c : Contents) : Type 0 where
  pub name : IsTitled c.name
  pub name_oid : AreArcs c.name_oid
  pub types : Along (IsRow version) [] c.types
  pub errors : Along (IsError c.types) [] c.errors
  pub operations : Along (IsOperation c.types c.errors (length c.operations)) [] c.operations

-- how many items the lists of tables have together
abbrev pub items_in : Contents → ℕ
items_in c = counted_in items_in_row c.types + (length c.errors + counted_in items_in_operation c.operations)
