-- The octets of table files of each version. After the four octets `OTAB` and the version stands one value in the packed syntax:
-- a SEQUENCE of the module's name and object identifier, the rows of its types, its errors and its operations.
use Rattle.std.specs.Prelude.{ℕ, ℤ, pos, Bool, true, false, List, [], ◌∷◌, ◌++◌, length, Option, Some, None}
use Rattle.std.specs.List.{flat_map}
use Rattle.byteorder.specs.Endian.{big_bytes}
use Rattle.asn1_types.specs.declared.row.Item.{Item}
use Rattle.asn1_types.specs.declared.row.Part.{Part}
use Rattle.asn1_types.specs.declared.row.TypeId.{TypeId}
use Rattle.asn1_types.specs.declared.row.TextKind.{TextKind}
use Rattle.asn1_types.specs.declared.row.TextKind.TheVariants.{Utf8, Ia5, Visible, Printable, Numeric}
use Rattle.asn1_types.specs.declared.row.TypeRow.{TypeRow}
use Rattle.asn1_types.specs.declared.row.TypeRow.TheVariants as rows
use Rattle.asn1_types.specs.Rows.{class_number}
use Rattle.asn1_types.specs.Value as tree
use Rattle.packed_codec.specs.Writing.{counted, number_written, object_id_written}
use Rattle.stub_tables.specs.declared.operation.Use.{Use}
use Rattle.stub_tables.specs.declared.operation.Code.{Code}
use Rattle.stub_tables.specs.declared.operation.Code.TheVariants.{Local, Global}
use Rattle.stub_tables.specs.declared.operation.Operation.{Operation}
use Rattle.stub_tables.specs.declared.operation.ErrorRow.{ErrorRow}
use Rattle.stub_tables.specs.declared.tables.Tables.{Tables}
use Rattle.table_file.specs.declared.row_parts.Version.{Version}
use Rattle.table_file.specs.declared.row_parts.Version.TheVariants as versions
use Rattle.table_file.specs.Contents.{Contents, contents_of}

-- an INTEGER
abbrev pub integer_file : ℤ → List ℕ
integer_file z = number_written (tree.integer z)

abbrev pub number_file : ℕ → List ℕ
number_file n = integer_file (pos n)

-- an OBJECT IDENTIFIER
abbrev pub oid_file : List ℕ → List ℕ
oid_file arcs = object_id_written (tree.object_id arcs)

-- a BOOLEAN
abbrev pub truth_file : Bool → List ℕ
truth_file true = 1 ∷ []
truth_file false = 0 ∷ []

-- a SEQUENCE OF: how many items, and the items
abbrev pub list_file : {A : Type 0} → (A → List ℕ) → List A → List ℕ
list_file item xs = big_bytes 4 (length xs) ++ flat_map item xs

-- a part that may be absent: whether it is there, and the part
abbrev pub maybe_file : {A : Type 0} → (A → List ℕ) → Option A → List ℕ
maybe_file item None = 0 ∷ []
maybe_file item (Some a) = 1 ∷ item a

-- ---- rows of types

abbrev pub kind_number : TextKind → ℕ
kind_number Utf8 = 0
kind_number Ia5 = 1
kind_number Visible = 2
kind_number Printable = 3
kind_number Numeric = 4

unfoldable pub item_file : Item → List ℕ
item_file i = counted i.name ++ integer_file i.number

-- the default of a part, for which version 1 has no room
abbrev pub default_file : Version → Option ℤ → List ℕ
default_file versions.One default = []
default_file versions.Two default = maybe_file integer_file default

unfoldable pub part_file : Version → Part → List ℕ
part_file version p = counted p.name ++ (number_file p.inner.0 ++ (truth_file p.optional ++ default_file version p.default))

-- a SET OF, for which version 1 has no row
abbrev pub set_of_file : Version → TypeId → List ℕ
set_of_file versions.One inner = []
set_of_file versions.Two inner = 13 ∷ number_file inner.0

-- a row of a type, after its number in the CHOICE of rows; an `Any` isn't among them
unfoldable pub row_file : Version → TypeRow → List ℕ
row_file version rows.Boolean = 0 ∷ []
row_file version (rows.Integer low high) = 1 ∷ (integer_file low ++ integer_file high)
row_file version (rows.Enumerated items) = 2 ∷ list_file item_file items
row_file version rows.Null = 3 ∷ []
row_file version (rows.OctetString most) = 4 ∷ number_file most
row_file version rows.BitString = 5 ∷ []
row_file version rows.ObjectId = 6 ∷ []
row_file version (rows.Text kind) = 7 ∷ number_file (kind_number kind)
row_file version (rows.Sequence parts) = 8 ∷ list_file (part_file version) parts
row_file version (rows.Set parts) = 9 ∷ list_file (part_file version) parts
row_file version (rows.SequenceOf inner) = 10 ∷ number_file inner.0
row_file version (rows.Choice parts) = 11 ∷ list_file (part_file version) parts
row_file version (rows.Tagged class number explicit inner) = 12 ∷ (number_file (class_number class) ++ (number_file number ++ (truth_file explicit ++ number_file inner.0)))
row_file version (rows.SetOf inner) = set_of_file version inner
row_file version rows.Any = []

-- ---- errors and operations

abbrev pub code_file : Code → List ℕ
code_file (Local z) = 0 ∷ integer_file z
code_file (Global arcs) = 1 ∷ oid_file arcs

abbrev pub id_file : TypeId → List ℕ
id_file id = number_file id.0

abbrev pub use_file : Use → List ℕ
use_file u = maybe_file id_file u.inner ++ truth_file u.optional

unfoldable pub error_file : ErrorRow → List ℕ
error_file e = counted e.name ++ (code_file e.code ++ use_file e.parameter)

unfoldable pub operation_file : Operation → List ℕ
operation_file o =
    counted o.name ++ (code_file o.code ++ (use_file o.argument ++ (use_file o.result ++ (truth_file o.returns ++ (truth_file o.always
    ++ (list_file number_file o.errors ++ list_file number_file o.linked))))))

-- ---- the file

abbrev pub version_number : Version → ℕ
version_number versions.One = 1
version_number versions.Two = 2

-- `OTAB` and the version
abbrev pub head_file : Version → List ℕ
head_file version = 79 ∷ 84 ∷ 65 ∷ 66 ∷ 0 ∷ version_number version ∷ []

-- the value behind the head
unfoldable pub contents_file : Version → Contents → List ℕ
contents_file version c =
    counted c.name ++ (oid_file c.name_oid ++ (list_file (row_file version) c.types ++ (list_file error_file c.errors ++ list_file operation_file c.operations)))

abbrev pub file_of : Version → Contents → List ℕ
file_of version c = head_file version ++ contents_file version c

-- the table file of tables, in version 2
abbrev pub table_file_of : Tables → List ℕ
table_file_of t = file_of versions.Two (contents_of t)
