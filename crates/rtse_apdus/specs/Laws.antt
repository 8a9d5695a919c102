-- The laws of APDUs of reliable transfer.
use Rattle.std.specs.Prelude.{◌≡◌, ℕ, List, Ok}
use Rattle.osi_base.specs.declared.rtse_word.Rtse as apdus
use Rattle.osi_base.specs.Octets.{AreOctets}
use Rattle.rtse_apdus.specs.Reading.{SpellsRtse, rtse_at}
use Rattle.rtse_apdus.specs.Written.{IsWritable, written_rtse}

abbrev pub RtseIsSpelled : Type 0
RtseIsSpelled = (apdu : apdus.Rtse) (octets : List ℕ) → AreOctets octets → rtse_at octets ≡ Ok apdu → SpellsRtse apdu octets

abbrev pub SpelledRtseIsRead : Type 0
SpelledRtseIsRead = (apdu : apdus.Rtse) (octets : List ℕ) → SpellsRtse apdu octets → rtse_at octets ≡ Ok apdu

abbrev pub WrittenRtseIsRead : Type 0
WrittenRtseIsRead = (apdu : apdus.Rtse) → IsWritable apdu → SpellsRtse apdu (written_rtse apdu) × (rtse_at (written_rtse apdu) ≡ Ok apdu)
