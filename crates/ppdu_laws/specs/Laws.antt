-- The laws of units of the presentation protocol as values of the table's rows.
use Rattle.std.specs.Prelude.{◌≡◌, ℕ, List, true, false, Ok}
use Rattle.osi_base.specs.declared.presentation_word.PresentationWord as units
use Rattle.osi_base.specs.Limits.{most_spelled}
use Rattle.asn1_types.specs.Value.{Value}
use Rattle.ber_spelling.specs.Spelling.{Spells}
use Rattle.presentation_pdus.specs.declared.place.PpduPlace.{PpduPlace}
use Rattle.presentation_pdus.specs.Rows.{ppdu_rows}
use Rattle.presentation_pdus.specs.Words.{unit_in, row_of, value_of, written_ppdu}
use Rattle.presentation_pdus.specs.Units.{SpellsPpdu, ppdu_at}
use Rattle.ppdu_laws.specs.Written.{carries, is_written_whole, IsWritable}
use Rattle.ppdu_laws.specs.Known.{read_as, SpellsKnown}

-- what is written of a unit that may be written is spelled so, where it is carried, and read back
abbrev pub WrittenPpduIsRead : Type 0
WrittenPpduIsRead = (carrier : PpduPlace) (word : units.PresentationWord) → IsWritable carrier word → SpellsPpdu carrier word (written_ppdu word) × (ppdu_at carrier (written_ppdu word) ≡ Ok word)

-- Octets that spell the value of a unit as one of the table's row, in which nothing is passed over, spell the unit, where it
-- is carried.
abbrev pub PlainPpduIsSpelled : Type 0
PlainPpduIsSpelled = (carrier : PpduPlace) (word : units.PresentationWord) (octets : List ℕ) → carries carrier word ≡ true → is_written_whole word ≡ true
    → Spells ppdu_rows (row_of word) false most_spelled (value_of word) octets → SpellsPpdu carrier word octets

-- what octets spell in known fields alone is the unit that they spell
abbrev pub KnownPpduIsSpelled : Type 0
KnownPpduIsSpelled = (carrier : PpduPlace) (word : units.PresentationWord) (octets : List ℕ) → SpellsKnown carrier word octets → SpellsPpdu carrier word octets

-- and a value of the table's row that says it
abbrev pub KnownPpduIsValue : Type 0
KnownPpduIsValue = (carrier : PpduPlace) (word : units.PresentationWord) (octets : List ℕ) → SpellsKnown carrier word octets
    → (value : Value) × (unit_in (read_as word value) ≡ word) × Spells ppdu_rows (row_of word) false most_spelled value octets
