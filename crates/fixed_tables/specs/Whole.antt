-- Values that all of the octets spell, and the first field that breaks the grammar (X.690 8).
use Rattle.std.specs.Prelude.{◌≡◌, ◌==◌, ℕ, false, List, length, Result, Ok, Err, if◌then◌else◌}
use Rattle.osi_base.specs.declared.layer_words.Kind.TheVariants.{Extra}
use Rattle.asn1_types.specs.declared.row.TypeRow.{TypeRow}
use Rattle.asn1_types.specs.Value.{Value}
use Rattle.ber_spelling.specs.Reading.{Reading}
use Rattle.ber_spelling.specs.Rules.{read_at}
use Rattle.fixed_tables.specs.declared.pdu.PduFault as units
use Rattle.fixed_tables.specs.declared.pdu.PduFault.TheVariants as unit
use Rattle.fixed_tables.specs.Faults.{fault_in}

abbrev pub of_whole : ℕ → Reading (Value × ℕ) → Result Value units.PduFault
of_whole end (Ok x) = if x.1 == end then Ok x.0 else Err (unit.At x.1 Extra)
of_whole end (Err fault) = Err (fault_in end fault)

-- the value that all of these octets, within a limit, spell, or their first fault
abbrev pub whole_at : List TypeRow → ℕ → ℕ → List ℕ → Result Value units.PduFault
whole_at rows n limit bytes = of_whole (length bytes) (read_at rows n false limit bytes)

abbrev pub FailsWhole : {A : Type 0} → units.PduFault → Result A units.PduFault → Type 0
FailsWhole unit.NoMemory read = Unit {0}
FailsWhole (unit.At place kind) read = read ≡ Err (unit.At place kind)

-- what a function returned is what reading gives, unless memory ran out
abbrev pub GivesWhole : {A : Type 0} → Result A units.PduFault → Result A units.PduFault → Type 0
GivesWhole (Ok v) read = read ≡ Ok v
GivesWhole (Err e) read = FailsWhole e read
