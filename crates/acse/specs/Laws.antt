-- The laws of APDUs of association control.
use Rattle.std.specs.Prelude.{◌≡◌, ◌↔◌, ℕ, ◌<◌, ◌≤◌, List, length, take, Ok, Err}
use Rattle.osi_base.specs.declared.layer_words.Kind.{Kind}
use Rattle.osi_base.specs.declared.layer_words.Kind.TheVariants.{Missing}
use Rattle.osi_base.specs.declared.acse_word.Acse as apdus
use Rattle.osi_base.specs.Octets.{AreOctets}
use Rattle.fixed_tables.specs.declared.pdu.PduFault.TheVariants as unit
use Rattle.acse.specs.Fields.{SpellsAcse, acse_at}
use Rattle.acse.specs.Known.{SpellsKnown}
use Rattle.acse.specs.Plain.{SpellsPlain}
use Rattle.acse.specs.Written.{IsWritable, written_acse}

-- what is read is spelled by the octets
abbrev pub AcseIsSpelled : Type 0
AcseIsSpelled = (apdu : apdus.Acse) (octets : List ℕ) → AreOctets octets → acse_at octets ≡ Ok apdu → SpellsAcse apdu octets

-- what octets spell is read, so they spell one APDU at most
abbrev pub SpelledAcseIsRead : Type 0
SpelledAcseIsRead = (apdu : apdus.Acse) (octets : List ℕ) → SpellsAcse apdu octets → acse_at octets ≡ Ok apdu

-- A fault has a place inside the octets, and nothing to its left is at fault: octets that end before it only lack what
-- was to follow.
abbrev pub AcseFaultIsFirst : Type 0
AcseFaultIsFirst = (octets : List ℕ) (place : ℕ) (kind : Kind) → acse_at octets ≡ Err (unit.At place kind)
    → (place ≤ length octets) × ((k : ℕ) → k < place → acse_at (take k octets) ≡ Err (unit.At k Missing))

-- octets that spell a value of the table's row of all APDUs have no field that is passed over, and spell what it says
abbrev pub PlainIsSpelled : Type 0
PlainIsSpelled = (apdu : apdus.Acse) (octets : List ℕ) → SpellsPlain apdu octets → SpellsAcse apdu octets

-- APDUs without fields that are passed over and values of the table's row of all APDUs stand for each other
abbrev pub KnownArePlain : Type 0
KnownArePlain = (apdu : apdus.Acse) (octets : List ℕ) → SpellsKnown apdu octets ↔ SpellsPlain apdu octets

-- what is written of an APDU that may be written has no field that is passed over, and is read back
abbrev pub WrittenAcseIsRead : Type 0
WrittenAcseIsRead = (apdu : apdus.Acse) → IsWritable apdu → SpellsPlain apdu (written_acse apdu) × (acse_at (written_acse apdu) ≡ Ok apdu)
