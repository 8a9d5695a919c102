-- The types of a module, a text or a table file.
use Rattle.std.proofs.Common.{ℕ, List, inl, inr}
use Rattle.stub_tables.specs.declared.tables.Tables.{Tables}
use Rattle.packed_codec.specs.Laws.{HasNoAny}
use Rattle.osi_base.specs.Octets.{AreOctets}
use Rattle.table_file.specs.Contents.{contents_of}
use Rattle.table_file.specs.Laws.{LoadedAreFiles}
use Rattle.module_reading.specs.Modules.{HasTables}
use Rattle.typed_modules.proofs.TypedRows.{no_any}
use Rattle.typed_modules.proofs.Assigned.{typed_text}
use Rattle.typed_modules.proofs.Files.{typed_file}

pub module_typed : (bytes : List ℕ) → LoadedAreFiles → AreOctets bytes → (tables : Tables) → HasTables bytes tables → HasNoAny tables.types
module_typed bytes loaded octets tables (inl h) = no_any tables.types (typed_file bytes (contents_of tables) (loaded bytes (contents_of tables) octets h.1))
module_typed bytes loaded octets tables (inr h) = no_any tables.types (typed_text h.1.read tables h.1.has)
