-- What may be written of association control, and as what octets.
use Rattle.std.specs.Prelude.{◌≡◌, ◌&&◌, ℕ, Bool, true, List, Option, Some, None, length, ◌≤◌, nat_lt, nat_le}
use Rattle.std.specs.List.{list_all}
use Rattle.osi_base.specs.declared.bit_string.BitString as strings
use Rattle.osi_base.specs.declared.acse_word.External as externals
use Rattle.osi_base.specs.declared.acse_word.Diagnostic as diagnostics
use Rattle.osi_base.specs.declared.acse_word.Diagnostic.TheVariants as diagnostic
use Rattle.osi_base.specs.declared.acse_word.Acse as apdus
use Rattle.osi_base.specs.declared.acse_word.Acse.TheVariants as apdu
use Rattle.osi_base.specs.Limits.{highest_context, most_octets}
use Rattle.asn1_types.specs.Fits.{is_number, bits_fit, object_id_fits}
use Rattle.asn1_types.specs.Value.{bits, object_id}
use Rattle.asn1_types.specs.Whole.{is_whole}
use Rattle.asn1_types.specs.Writing.{written}
use Rattle.acse.specs.Rows.{acse_row, acse_rows}
use Rattle.acse.specs.Words.{value_of}

abbrev pub is_id : ℕ → Bool
is_id id = nat_lt 0 id && nat_le id highest_context

abbrev pub can_carry : externals.External → Bool
can_carry e = is_id e.id && is_whole e.value

abbrev pub are_bits : Option strings.BitString → Bool
are_bits None = true
are_bits (Some string) = bits_fit (bits string.octets string.unused)

abbrev pub diagnostic_number : diagnostics.Diagnostic → Bool
diagnostic_number (diagnostic.User number) = is_number number
diagnostic_number (diagnostic.Provider number) = is_number number

-- each number and name is one that is read, and what is carried for the user are whole values
abbrev pub can_write : apdus.Acse → Bool
can_write (apdu.AssociateRequest version context user) = are_bits version && object_id_fits (object_id context) && list_all can_carry user
can_write (apdu.AssociateResponse context result reason user) = object_id_fits (object_id context) && nat_lt result 3 && diagnostic_number reason && list_all can_carry user
can_write (apdu.ReleaseRequest reason) = is_number reason
can_write (apdu.ReleaseResponse reason) = is_number reason
can_write (apdu.Abort source user) = nat_lt source 2 && list_all can_carry user

abbrev pub written_acse : apdus.Acse → List ℕ
written_acse apdu = written acse_rows acse_row (value_of apdu)

pub record IsWritable (apdu : apdus.Acse) : Type 0 where
  pub can : can_write apdu ≡ true
  pub within : length (written_acse apdu) ≤ most_octets
