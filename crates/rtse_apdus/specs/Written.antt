-- What may be written of reliable transfer, and as what octets.
use Rattle.std.specs.Prelude.{◌≡◌, ◌&&◌, ℕ, Bool, true, List, length, ◌≤◌, nat_lt, nat_le, ◌+◌}
use Rattle.osi_base.specs.declared.rtse_word.ConnectionData as connections
use Rattle.osi_base.specs.declared.rtse_word.ConnectionData.TheVariants as connection
use Rattle.osi_base.specs.declared.rtse_word.Rtse as apdus
use Rattle.osi_base.specs.declared.rtse_word.Rtse.TheVariants as apdu
use Rattle.osi_base.specs.Limits.{most_32, most_spelled, most_checkpoint, most_window}
use Rattle.asn1_types.specs.Fits.{is_number, octets_fit}
use Rattle.asn1_types.specs.Value.{octets}
use Rattle.asn1_types.specs.Whole.{is_whole}
use Rattle.asn1_types.specs.Writing.{written}
use Rattle.rtse_apdus.specs.Rows.{rtse_row, rtse_rows}
use Rattle.rtse_apdus.specs.Words.{value_of}
use Rattle.rtse_apdus.specs.Reading.{limit_of}

-- octets, at most 4,294,967,295
abbrev pub are_octets : List ℕ → Bool
are_octets os = octets_fit most_spelled (octets os)

abbrev pub can_carry : connections.ConnectionData → Bool
can_carry (connection.Open value) = is_whole value
can_carry (connection.Recover reference common) = are_octets reference && are_octets common

-- each number is one that is read, and what is carried for the user is one whole value
abbrev pub can_write : apdus.Rtse → Bool
can_write (apdu.OpenRequest checkpoint window mode data_) = nat_lt checkpoint (most_checkpoint + 1) && nat_lt window (most_window + 1) && is_number mode && can_carry data_
can_write (apdu.OpenAccept checkpoint window data_) = nat_lt checkpoint (most_checkpoint + 1) && nat_lt window (most_window + 1) && can_carry data_
can_write (apdu.OpenReject reason) = is_number reason
can_write (apdu.Abort reason) = is_number reason
can_write (apdu.TurnPlease priority) = nat_le priority most_32
can_write (apdu.Transfer os) = are_octets os

abbrev pub written_rtse : apdus.Rtse → List ℕ
written_rtse apdu = written rtse_rows rtse_row (value_of apdu)

pub record IsWritable (apdu : apdus.Rtse) : Type 0 where
  pub can : can_write apdu ≡ true
  pub within : length (written_rtse apdu) ≤ limit_of (written_rtse apdu)
