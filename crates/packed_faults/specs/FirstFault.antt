-- The first fault of octets that are to begin with a packed spelling of a value of a row of a table.
use Rattle.std.specs.Prelude.{ℕ, zero, suc, List, length, Option, Some, None, slice_get}
use Rattle.asn1_types.specs.declared.row.TypeRow.{TypeRow}
use Rattle.asn1_types.specs.Fits.{nothing_fits}
use Rattle.asn1_types.specs.Rows.{along}
use Rattle.asn1_types.specs.Writing.{written}
use Rattle.packed_codec.specs.declared.fault.PackedFault.{PackedFault}
use Rattle.packed_codec.specs.declared.fault.PackedFault.TheVariants.{NotSpelled, Short, TooLong, NoMemory}
use Rattle.packed_codec.specs.Laws.{packs_by}
use Rattle.packed_codec.specs.Rules.{start}
use Rattle.packed_codec.specs.Writing.{nothing_written, write_by}
use Rattle.packed_faults.specs.Values.{Wrong, DeadFault, RowFault}

abbrev pub RowFaultOr : (TypeRow → Wrong) → Option TypeRow → Wrong
RowFaultOr rule None = DeadFault
RowFaultOr rule (Some r) = rule r

-- Each row names only lower rows, so as many turns as there are rows are enough.
abbrev pub FaultBy : List TypeRow → ℕ → ℕ → Wrong
FaultBy rows zero n = DeadFault
FaultBy rows (suc turns) n =
    RowFaultOr (RowFault (written rows) (along nothing_fits (packs_by (written rows)) rows turns) (along nothing_written write_by rows turns) (FaultBy rows turns)) (slice_get rows n)

-- a fault of a field, which has the field's place
abbrev pub HasPlace : PackedFault → Type 0
HasPlace (NotSpelled place kind) = Unit {0}
HasPlace (TooLong place) = Unit {0}
HasPlace Short = ⊥
HasPlace NoMemory = ⊥

abbrev pub FirstFault : List TypeRow → ℕ → ℕ → List ℕ → PackedFault → Type 0
FirstFault rows n limit bytes f = HasPlace f × FaultBy rows (length rows) n limit (start bytes) f
