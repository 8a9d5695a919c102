-- The first fault of octets that are to begin with a value of a row of a table (X.690 8 and 10).
use Rattle.std.specs.Prelude.{ℕ, zero, suc, ◌⊎◌, Bool, true, false, List, length, Option, Some, None, slice_get}
use Rattle.osi_base.specs.declared.layer_words.Kind.TheVariants.{Tag}
use Rattle.osi_base.specs.Limits.{most_octets}
use Rattle.asn1_types.specs.declared.row.TypeRow.{TypeRow}
use Rattle.asn1_types.specs.Rows.{begins}
use Rattle.asn1_types.specs.Writing.{written}
use Rattle.ber_spelling.specs.declared.fault.ReadFault.{ReadFault}
use Rattle.ber_spelling.specs.declared.fault.ReadFault.TheVariants.{NotSpelled, Short, TooDeep, TooLong, NoMemory}
use Rattle.ber_spelling.specs.Reading.{Spot, Opened}
use Rattle.ber_spelling.specs.Rules.{plain, outermost}
use Rattle.ber_spelling.specs.Spelling.{SpelledBy}
use Rattle.ber_faults.specs.Fields.{IdentifierFault, Opens}
use Rattle.ber_faults.specs.Values.{WrongAs, IsAt, RowFault}

-- no identifier begins a value of a row that isn't there
abbrev pub NoRowFault : WrongAs
NoRowFault guise scope o s f = IsAt o.start.place Tag f

abbrev pub RowFaultOr : (TypeRow → WrongAs) → Option TypeRow → WrongAs
RowFaultOr rule None = NoRowFault
RowFaultOr rule (Some r) = rule r

-- Each row names only lower rows, so as many turns as there are rows are enough.
abbrev pub FaultBy : List TypeRow → ℕ → ℕ → WrongAs
FaultBy rows zero n = NoRowFault
FaultBy rows (suc turns) n = RowFaultOr (RowFault (begins rows) (written rows) (SpelledBy rows turns) (FaultBy rows turns)) (slice_get rows n)

-- a fault of a field, which has the field's place
abbrev pub HasPlace : ReadFault → Type 0
HasPlace (NotSpelled place kind) = Unit {0}
HasPlace (TooDeep place) = Unit {0}
HasPlace (TooLong place) = Unit {0}
HasPlace Short = ⊥
HasPlace NoMemory = ⊥

-- the outermost identifier has the fault, or what stands behind it
abbrev pub ValueFault : List TypeRow → ℕ → Bool → ℕ → List ℕ → ReadFault → Type 0
ValueFault rows n strict limit bytes f =
    IdentifierFault (outermost limit strict) 0 bytes f
    ⊎ ((o : Opened) × (s : Spot) × Opens (outermost limit strict) 0 bytes o s × FaultBy rows (length rows) n plain (outermost limit strict) o s f)

abbrev pub FirstFault : List TypeRow → ℕ → Bool → ℕ → List ℕ → ReadFault → Type 0
FirstFault rows n strict limit bytes f = HasPlace f × ValueFault rows n strict limit bytes f

abbrev pub BerFault : List TypeRow → ℕ → List ℕ → ReadFault → Type 0
BerFault rows n bytes f = FirstFault rows n false most_octets bytes f

abbrev pub DerFault : List TypeRow → ℕ → List ℕ → ReadFault → Type 0
DerFault rows n bytes f = FirstFault rows n true most_octets bytes f
