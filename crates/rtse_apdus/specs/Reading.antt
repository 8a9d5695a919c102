-- The APDUs of reliable transfer as octets (X.228 9).
use Rattle.std.specs.Prelude.{◌≡◌, ◌==◌, ◌||◌, ℕ, false, List, slice_index, Result, Ok, Err, if◌then◌else◌}
use Rattle.osi_base.specs.declared.rtse_word.Rtse as apdus
use Rattle.osi_base.specs.Limits.{tsdu_limit, most_octets}
use Rattle.asn1_types.specs.Value.{Value}
use Rattle.ber_spelling.specs.Spelling.{Spells}
use Rattle.fixed_tables.specs.declared.pdu.PduFault as units
use Rattle.fixed_tables.specs.Whole.{whole_at}
use Rattle.rtse_apdus.specs.Rows.{rtse_row, rtse_rows}
use Rattle.rtse_apdus.specs.Words.{apdu_in}

-- A part of a transfer, an OCTET STRING, may fill a TSDU; other APDUs have at most 262,144 octets.
abbrev pub limit_of : List ℕ → ℕ
limit_of octets = if slice_index octets 0 == 4 || slice_index octets 0 == 36 then tsdu_limit else most_octets

-- octets spell this APDU
pub record SpellsRtse (apdu : apdus.Rtse) (octets : List ℕ) : Type 0 where
  pub value : Value
  pub spelled : Spells rtse_rows rtse_row false (limit_of octets) value octets
  pub says : apdu_in value ≡ apdu

abbrev pub of_value : Result Value units.PduFault → Result apdus.Rtse units.PduFault
of_value (Ok v) = Ok (apdu_in v)
of_value (Err e) = Err e

-- the APDU that all of these octets spell, or their first fault
abbrev pub rtse_at : List ℕ → Result apdus.Rtse units.PduFault
rtse_at octets = of_value (whole_at rtse_rows rtse_row (limit_of octets) octets)
