-- What reading the octets of a value gives.
use Rattle.std.specs.Prelude.{◌≡◌, ℕ, true, false, List, Option, Some, None}
use Rattle.osi_base.specs.declared.syntax.Syntax.{Syntax}
use Rattle.asn1_types.specs.declared.value.Val.{Val}
use Rattle.asn1_types.specs.declared.table.TypeTable.{TypeTable}
use Rattle.asn1_types.specs.Fits.{fits}
use Rattle.end_wire.specs.Heads.{room_in}
use Rattle.stub_tables.specs.declared.operation.Use.{Use}
use Rattle.stub_tables.specs.Uses.{is_carried}
use Rattle.apdu_spelling.specs.Spellings.{SpelledAs, CarriedAs}

-- They spell this value, which fits, or none that does.
abbrev pub IsReadAs : Syntax → TypeTable → ℕ → ℕ → List ℕ → Option Val → Type 0
IsReadAs syntax types room of octets (Some value) = SpelledAs syntax types (room_in syntax room) of value octets × (fits types of value ≡ true)
IsReadAs syntax types room of octets None = (value : Val) → SpelledAs syntax types (room_in syntax room) of value octets → fits types of value ≡ false

-- They carry this value or its lack, as may be carried there, or nothing that may.
abbrev pub IsAllowedIn : Syntax → TypeTable → ℕ → Use → Option (List ℕ) → Option (Option Val) → Type 0
IsAllowedIn syntax types room used octets (Some value) = CarriedAs syntax types (room_in syntax room) (Some used) value octets × (is_carried types used value ≡ true)
IsAllowedIn syntax types room used octets None = (value : Option Val) → CarriedAs syntax types (room_in syntax room) (Some used) value octets → is_carried types used value ≡ false
