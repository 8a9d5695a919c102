-- What the packed spelling of every fitting value keeps, where no `Any` stands in the table.
use Rattle.std.specs.Prelude.{◌≡◌, ◌*◌, ◌≤◌, ℕ, true, List, length}
use Rattle.std.specs.List.{list_all}
use Rattle.asn1_types.specs.declared.row.TypeRow.{TypeRow}
use Rattle.asn1_types.specs.Fits.{fits, is_octet}
use Rattle.asn1_types.specs.Table.{AreSoundRows}
use Rattle.asn1_types.specs.Value.{Value}
use Rattle.asn1_types.specs.Writing.{written}
use Rattle.asn1_types.specs.PackedSize.{packed_size}
use Rattle.packed_codec.specs.Writing.{packed, items}
use Rattle.packed_codec.specs.Laws.{packs, HasNoAny}

-- each value that fits has a packed spelling
abbrev pub FittingIsPacked : Type 0
FittingIsPacked = (rows : List TypeRow) (n : ℕ) (v : Value) → HasNoAny rows → fits rows n v ≡ true → packs rows n v ≡ true

-- An item of a list has two octets at least in DER, those of its identifier and its length (X.690 8.1.1): so a value of
-- 262,144 octets in DER has at most 131,072 items.
abbrev pub ItemsTakeOctets : Type 0
ItemsTakeOctets = (rows : List TypeRow) (n : ℕ) (v : Value) → HasNoAny rows → fits rows n v ≡ true → 2 * items v ≤ length (written rows n v)

-- what is written are octets
abbrev pub PackedAreOctets : Type 0
PackedAreOctets = (rows : List TypeRow) (n : ℕ) (v : Value) → AreSoundRows rows → packs rows n v ≡ true → list_all is_octet (packed rows n v) ≡ true

-- what is written has as many octets as are told
abbrev pub PackedHasSize : Type 0
PackedHasSize = (rows : List TypeRow) (n : ℕ) (v : Value) → packs rows n v ≡ true → length (packed rows n v) ≡ packed_size rows n v
