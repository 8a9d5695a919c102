-- The laws of APDUs.
use Rattle.std.specs.Prelude.{◌≡◌, ℕ, List, Bool, true, ◌&&◌}
use Rattle.osi_base.specs.declared.syntax.Syntax.{Syntax}
use Rattle.stub_tables.specs.declared.tables.Tables.{Tables}
use Rattle.stub_tables.specs.declared.apdu.Apdu.{Apdu}
use Rattle.stub_tables.specs.Readable.{IsReadable}
use Rattle.osi_base.specs.Octets.{AreOctets}
use Rattle.apdu_spelling.specs.Heads.{Head, invoke, result, error, reject}
use Rattle.apdu_spelling.specs.Spellings.{SpellsHead, Spells}
use Rattle.apdu_spelling.specs.Writing.{written_apdu, IsWritable, is_identifier, is_identifier_or_none}

-- What is written for an APDU spells it.
abbrev pub WrittenIsSpelled : Type 0
WrittenIsSpelled = (tables : Tables) (syntax : Syntax) (a : Apdu) → IsReadable tables → IsWritable tables syntax a → Spells tables syntax a (written_apdu tables syntax a)

-- Octets spell one head at most.
abbrev pub OneHead : Type 0
OneHead = (syntax : Syntax) (h k : Head) (text : List ℕ) → SpellsHead syntax h text → SpellsHead syntax k text → h ≡ k

-- Octets spell one APDU at most.
abbrev pub OneApdu : Type 0
OneApdu = (tables : Tables) (syntax : Syntax) (a b : Apdu) (text : List ℕ) → IsReadable tables → Spells tables syntax a text → Spells tables syntax b text → a ≡ b

-- The identifiers of a head have 32 bits.
abbrev pub has_identifiers : Head → Bool
has_identifiers (invoke id linked code octets) = is_identifier id && is_identifier_or_none linked
has_identifiers (result id outcome) = is_identifier id
has_identifiers (error id code octets) = is_identifier id
has_identifiers (reject id problem) = is_identifier_or_none id

-- Octets that spell a head have identifiers of 32 bits alone.
abbrev pub HeadsHaveIdentifiers : Type 0
HeadsHaveIdentifiers = (syntax : Syntax) (h : Head) (text : List ℕ) → AreOctets text → SpellsHead syntax h text → has_identifiers h ≡ true
