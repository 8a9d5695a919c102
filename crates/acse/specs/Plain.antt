-- The APDUs of association control as values of one table, where no field is passed over (X.227 9).
use Rattle.std.specs.Prelude.{◌≡◌, ℕ, false, List, Result, Ok, Err}
use Rattle.osi_base.specs.declared.acse_word.Acse as apdus
use Rattle.osi_base.specs.Limits.{most_octets}
use Rattle.asn1_types.specs.Value.{Value}
use Rattle.ber_spelling.specs.Spelling.{Spells}
use Rattle.fixed_tables.specs.declared.pdu.PduFault as units
use Rattle.acse.specs.Rows.{acse_row, acse_rows}
use Rattle.acse.specs.Words.{apdu_in}

-- octets spell this APDU, and nothing in them is passed over
pub record SpellsPlain (apdu : apdus.Acse) (octets : List ℕ) : Type 0 where
  pub value : Value
  pub spelled : Spells acse_rows acse_row false most_octets value octets
  pub says : apdu_in value ≡ apdu

abbrev pub of_value : Result Value units.PduFault → Result apdus.Acse units.PduFault
of_value (Ok v) = Ok (apdu_in v)
of_value (Err e) = Err e
