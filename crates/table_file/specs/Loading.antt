-- What a table file holds, or where it is at fault. Rows are judged once they are whole, before the next is read.
use Rattle.std.specs.Prelude.{◌≡◌, ℕ, ◌==◌, Bool, true, false, ◌&&◌, List, ◌∷◌, length, take, drop, Result, Ok, Err, nat_lt, nat_eq, if◌then◌else◌}
use Rattle.osi_base.specs.declared.layer_words.Kind.TheVariants.{Missing, Extra, Content}
use Rattle.osi_base.specs.Limits.{text_most, most_items}
use Rattle.notation_tokens.specs.Words.{is_name_of_type}
use Rattle.stub_tables.specs.declared.tables.Tables.{Tables}
use Rattle.table_file.specs.declared.fault.Stop.TheVariants.{Cut, Bad, NoMemory}
use Rattle.table_file.specs.declared.fault.LoadFault.{LoadFault}
use Rattle.table_file.specs.declared.fault.LoadFault.TheVariants as faults
use Rattle.table_file.specs.declared.row_parts.Version.{Version}
use Rattle.table_file.specs.declared.row_parts.Version.TheVariants as versions
use Rattle.table_file.specs.Contents.{Contents, contents_of}
use Rattle.table_file.specs.Files.{file_of}
use Rattle.packed_codec.specs.Reading.{Spot}
use Rattle.table_file.specs.Reading.{Reading, ◌>>=◌, refuse}
use Rattle.table_file.specs.Fields.{text_at, object_id_at}
use Rattle.table_file.specs.Rows.{rows_at}
use Rattle.table_file.specs.Sections.{errors_at, operations_at}

abbrev pub is_magic : ℕ → ℕ → ℕ → ℕ → Bool
is_magic a b c d = ((a == 79) && (b == 84)) && ((c == 65) && (d == 66))

abbrev pub version_of : ℕ → ℕ → Reading Version
version_of high low =
    if (high == 0) && (low == 1) then Ok versions.One else (if (high == 0) && (low == 2) then Ok versions.Two else refuse 4)

-- `OTAB`, and the version, 1 or 2
unfoldable pub version_at : List ℕ → Reading Version
version_at (a ∷ b ∷ c ∷ d ∷ high ∷ low ∷ more) = if is_magic a b c d then version_of high low else refuse 0
version_at bytes = Err Cut

-- the module's name
unfoldable pub module_name_at : Spot → Reading (List ℕ × Spot)
module_name_at s = do
  t ← text_at s
  if is_name_of_type t.0 then Ok t else refuse s.place

-- the value behind the version, which may count 131,072 items
unfoldable pub contents_at : Version → Spot → Reading (Contents × Spot)
contents_at version s = do
  n ← module_name_at s
  i ← object_id_at n.1
  r ← rows_at version i.1
  e ← errors_at r.0 r.1
  o ← operations_at r.0 e.0 e.1
  Ok (record { name = n.0; name_oid = i.0; types = r.0; operations = o.0; errors = e.0 }, o.1)

unfoldable pub file_at : List ℕ → Reading (Contents × Spot)
file_at bytes = do
  version ← version_at bytes
  contents_at version (record { place = 6; rest = drop 6 bytes; left = most_items })

abbrev pub loaded_if : Bool → Contents → LoadFault → Result Contents LoadFault
loaded_if b c e = if b then Ok c else Err e

abbrev pub is_within : Bool → Bool
is_within true = false
is_within false = true

-- The octets within the limit end with the value, or it is told what is wrong; is_long says that there are more
abbrev pub ended : Bool → ℕ → Reading (Contents × Spot) → Result Contents LoadFault
ended is_long size (Ok x) = loaded_if (nat_eq (length x.1.rest) 0 && is_within is_long) x.0 (faults.At x.1.place Extra)
ended is_long size (Err Cut) = Err (faults.At size (if is_long then Extra else Missing))
ended is_long size (Err (Bad place)) = Err (faults.At place Content)
ended is_long size (Err NoMemory) = Err faults.NoMemory

-- a file has at most 16,777,216 octets
unfoldable pub load_of : List ℕ → Result Contents LoadFault
load_of bytes = if nat_lt text_most (length bytes) then ended true text_most (file_at (take text_most bytes)) else ended false (length bytes) (file_at bytes)

-- What `load` answers is what the octets hold, or their first fault, unless memory ran out.
abbrev pub Loads : Result Tables LoadFault → Result Contents LoadFault → Type 0
Loads (Ok tables) found = found ≡ Ok (contents_of tables)
Loads (Err (faults.At place kind)) found = found ≡ Err (faults.At place kind)
Loads (Err faults.NoMemory) found = Unit {0}

-- what a file is migrated to: its tables in the present version, or its first fault
abbrev pub migrated : Result Contents LoadFault → Result (List ℕ) LoadFault
migrated (Ok c) = Ok (file_of versions.Two c)
migrated (Err e) = Err e

-- What `migrate` answers, unless memory ran out.
abbrev pub Migrates : Result (List ℕ) LoadFault → Result Contents LoadFault → Type 0
Migrates (Ok octets) found = migrated found ≡ Ok octets
Migrates (Err (faults.At place kind)) found = found ≡ Err (faults.At place kind)
Migrates (Err faults.NoMemory) found = Unit {0}
