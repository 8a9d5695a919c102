-- What the octets of a transfer are: one presentation data value with its context (X.226 8.4.2), of at most 262,400 octets.
use Rattle.std.specs.Prelude.{◌≡◌, ℕ, ◌≤◌, true, false, List, length, Result, Ok, Err}
use Rattle.osi_base.specs.declared.presentation_word.Pdv as pdvs
use Rattle.osi_base.specs.Limits.{most_transferred, highest_context}
use Rattle.asn1_types.specs.Fits.{has_form}
use Rattle.asn1_types.specs.Value.{Value}
use Rattle.osi_base.specs.Octets.{AreOctets}
use Rattle.ber_spelling.specs.Spelling.{Spells}
use Rattle.asn1_types.specs.Writing.{written}
use Rattle.fixed_tables.specs.declared.pdu.PduFault as units
use Rattle.fixed_tables.specs.Pdvs.{pdv_in, pdv_value}
use Rattle.fixed_tables.specs.Whole.{whole_at}
use Rattle.rtse_apdus.specs.TransferRows.{transfer_row, transfer_rows}

-- ---- octets

-- octets spell this value with its context
pub record SpellsTransfer (pdv : pdvs.Pdv) (text : List ℕ) : Type 0 where
  pub value : Value
  pub spelled : Spells transfer_rows transfer_row false most_transferred value text
  pub says : pdv_in value ≡ pdv

abbrev pub of_pdv : Result Value units.PduFault → Result pdvs.Pdv units.PduFault
of_pdv (Ok v) = Ok (pdv_in v)
of_pdv (Err e) = Err e

-- the value with its context that all of these octets spell, or their first fault
abbrev pub transfer_at : List ℕ → Result pdvs.Pdv units.PduFault
transfer_at text = of_pdv (whole_at transfer_rows transfer_row most_transferred text)

abbrev pub written_transfer : pdvs.Pdv → List ℕ
written_transfer pdv = written transfer_rows transfer_row (pdv_value pdv)

-- the identifier is one of a context, the value has its form, and its octets are few enough
pub record IsTransfer (pdv : pdvs.Pdv) : Type 0 where
  pub identifier : pdv.id ≤ highest_context
  pub fitting : has_form transfer_rows transfer_row (pdv_value pdv) ≡ true
  pub within : length (written_transfer pdv) ≤ most_transferred

-- ---- laws

abbrev pub TransferIsSpelled : Type 0
TransferIsSpelled = (pdv : pdvs.Pdv) (text : List ℕ) → AreOctets text → transfer_at text ≡ Ok pdv → SpellsTransfer pdv text

abbrev pub SpelledTransferIsRead : Type 0
SpelledTransferIsRead = (pdv : pdvs.Pdv) (text : List ℕ) → SpellsTransfer pdv text → transfer_at text ≡ Ok pdv

abbrev pub WrittenTransferIsRead : Type 0
WrittenTransferIsRead = (pdv : pdvs.Pdv) → IsTransfer pdv → SpellsTransfer pdv (written_transfer pdv) × (transfer_at (written_transfer pdv) ≡ Ok pdv)
