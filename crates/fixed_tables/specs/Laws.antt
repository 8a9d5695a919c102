-- The laws of whole values.
use Rattle.std.specs.Prelude.{◌≡◌, ℕ, false, List, Ok}
use Rattle.asn1_types.specs.declared.row.TypeRow.{TypeRow}
use Rattle.asn1_types.specs.Table.{AreSoundRows}
use Rattle.asn1_types.specs.Value.{Value}
use Rattle.osi_base.specs.Octets.{AreOctets}
use Rattle.ber_spelling.specs.Spelling.{Spells}
use Rattle.fixed_tables.specs.Whole.{whole_at}

abbrev pub WholeIsSpelled : Type 0
WholeIsSpelled = (rows : List TypeRow) (n limit : ℕ) (bytes : List ℕ) (v : Value) → AreOctets bytes → whole_at rows n limit bytes ≡ Ok v → Spells rows n false limit v bytes

abbrev pub SpelledIsWhole : Type 0
SpelledIsWhole = (rows : List TypeRow) (n limit : ℕ) (bytes : List ℕ) (v : Value) → AreSoundRows rows → Spells rows n false limit v bytes → whole_at rows n limit bytes ≡ Ok v
