-- What table files are, apart from how they are read.
use Rattle.std.specs.Prelude.{◌≡◌, ℕ, ◌≤◌, List, length, Ok}
use Rattle.osi_base.specs.Limits.{text_most, most_items}
use Rattle.osi_base.specs.Octets.{AreOctets}
use Rattle.table_file.specs.declared.row_parts.Version.{Version}
use Rattle.table_file.specs.declared.row_parts.Version.TheVariants as versions
use Rattle.table_file.specs.Contents.{Contents}
use Rattle.table_file.specs.Files.{file_of}
use Rattle.table_file.specs.Loading.{load_of}
use Rattle.table_file.specs.Sound.{AreSound, items_in}

-- Octets are the table file of these tables: of either version, with sound rows, and within the limits.
pub record IsTableFile (bytes : List ℕ) (c : Contents) : Type 0 where
  pub version : Version
  pub are : bytes ≡ file_of version c
  pub sound : AreSound version c
  pub size : length bytes ≤ text_most
  pub items : items_in c ≤ most_items

-- The octets that are loaded are the table files.
abbrev pub FilesAreLoaded : Type 0
FilesAreLoaded = (bytes : List ℕ) (c : Contents) → IsTableFile bytes c → load_of bytes ≡ Ok c

abbrev pub LoadedAreFiles : Type 0
LoadedAreFiles = (bytes : List ℕ) (c : Contents) → AreOctets bytes → load_of bytes ≡ Ok c → IsTableFile bytes c

-- What is stored of sound tables is loaded again, within the limits.
abbrev pub StoredIsLoaded : Type 0
StoredIsLoaded = (c : Contents) → AreSound versions.Two c → length (file_of versions.Two c) ≤ text_most → items_in c ≤ most_items → load_of (file_of versions.Two c) ≡ Ok c

-- A file's migration holds its tables.
abbrev pub MigratedIsLoaded : Type 0
MigratedIsLoaded = (bytes : List ℕ) (c : Contents) → AreOctets bytes → load_of bytes ≡ Ok c → length (file_of versions.Two c) ≤ text_most → load_of (file_of versions.Two c) ≡ Ok c
