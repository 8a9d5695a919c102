-- Places of faults within fields.
use Rattle.std.proofs.Common.{ℕ, ◌+◌, ◌<◌, ◌^◌, List, length, refl, arith}
use Rattle.asn1_types.specs.declared.row.TypeRow.{TypeRow}
use Rattle.packed_codec.specs.declared.fault.PackedFault.{PackedFault}
use Rattle.packed_codec.specs.declared.fault.PackedFault.TheVariants as packed
use Rattle.packed_codec.specs.Reading.{FailsWith}
use Rattle.packed_codec.specs.Rules.{read_at}
use Rattle.packed_codec.specs.Laws.{FaultIsFirst}
use Rattle.table_file.specs.Fields.{IsNear}

-- a fault within octets stands not behind their end
pub near : FaultIsFirst → (rows : List TypeRow) (n limit : ℕ) (bytes : List ℕ) (start : ℕ) (fault : PackedFault) → start + length bytes < 2 ^ 63
    → FailsWith fault (read_at rows n limit bytes) → IsNear start fault
near law rows n limit bytes start (packed.NotSpelled place kind) lt h =
    let le = (law rows n limit bytes (packed.NotSpelled place kind) place refl h).0 in omega (arith, le, lt)
near law rows n limit bytes start packed.Short lt h = tt
near law rows n limit bytes start (packed.TooLong place) lt h = tt
near law rows n limit bytes start packed.NoMemory lt h = tt
