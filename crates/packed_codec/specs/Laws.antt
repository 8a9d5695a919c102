-- The packed spellings of values, and the laws of reading and of spellings.
use Rattle.std.specs.Prelude.{◌≡◌, ◌≢◌, ℕ, ◌<◌, ◌≤◌, ◌^◌, ◌⊎◌, Bool, true, false, List, ◌++◌, length, take, Some, Result, Ok, Err, MatchResult, slice_get}
use Rattle.osi_base.specs.Limits.{most_items}
use Rattle.asn1_types.specs.declared.row.TypeRow.{TypeRow}
use Rattle.asn1_types.specs.declared.row.TypeRow.TheVariants as row
use Rattle.asn1_types.specs.Rows.{along}
use Rattle.asn1_types.specs.Fits.{form_by, nothing_fits, has_form}
use Rattle.asn1_types.specs.Value.{Value}
use Rattle.packed_codec.specs.declared.fault.PackedFault.{PackedFault}
use Rattle.packed_codec.specs.declared.fault.PackedFault.TheVariants.{NotSpelled, Short, TooLong, NoMemory}
use Rattle.packed_codec.specs.declared.whole_values.Read.{Read}
use Rattle.osi_base.specs.Octets.{AreOctets}
use Rattle.packed_codec.specs.Rules.{read_at}
use Rattle.packed_codec.specs.Writing.{packed, items}
use Rattle.asn1_types.specs.Writing.{written}

-- ---- spellings

-- as values have the form of their rows, but for an `Any`, which has no packed spelling
abbrev pub packs_by : (ℕ → Value → List ℕ) → (ℕ → Value → Bool) → TypeRow → Value → Bool
packs_by spell inner row.Any v = false
packs_by spell inner r v = form_by spell inner r v

-- a value has the form of row n of a table, and no `Any` stands in it
unfoldable pub packs : List TypeRow → ℕ → Value → Bool
packs rows n = along nothing_fits (packs_by (written rows)) rows (length rows) n

-- octets spell a value of row n of a table, within a limit on their number
pub record Packed (rows : List TypeRow) (n : ℕ) (limit : ℕ) (v : Value) (spelled : List ℕ) : Type 0 where
  pub fit : packs rows n v ≡ true
  pub are : spelled ≡ packed rows n v
  pub within : length spelled ≤ limit
  pub few : items v ≤ most_items

pub record HasNoAny (rows : List TypeRow) : Type 0 where
  pub each : (n : ℕ) → slice_get rows n ≢ Some row.Any

-- unless memory is refused, a call gave this value with this many octets
abbrev pub IsRead : Result Read PackedFault → Value → ℕ → Type 0
IsRead result v used = MatchResult result (λ r. (r.value ≡ v) × (r.used ≡ used)) (λ e. e ≡ NoMemory)

-- ---- laws

-- what is read is spelled by its octets
abbrev pub ReadIsSpelled : Type 0
ReadIsSpelled = (rows : List TypeRow) (n limit : ℕ) (bytes : List ℕ) (v : Value) (used : ℕ) → AreOctets bytes
    → read_at rows n limit bytes ≡ Ok (v, used) → (used ≤ length bytes) × Packed rows n limit v (take used bytes)

-- what is spelled is read, whatever follows; a limit has 32 bits
abbrev pub SpelledIsRead : Type 0
SpelledIsRead = (rows : List TypeRow) (n limit : ℕ) (v : Value) (spelled rest : List ℕ) → limit < 2 ^ 32
    → Packed rows n limit v spelled → read_at rows n limit (spelled ++ rest) ≡ Ok (v, length spelled)

-- a value has one spelling
abbrev pub OneSpelling : Type 0
OneSpelling = (rows : List TypeRow) (n limit more : ℕ) (v : Value) (a b : List ℕ) → Packed rows n limit v a → Packed rows n more v b → a ≡ b

-- no spelling of a row's values begins another, and each spells one value
abbrev pub NoneBegins : Type 0
NoneBegins = (rows : List TypeRow) (n limit : ℕ) (v w : Value) (a b x y : List ℕ) → limit < 2 ^ 32
    → Packed rows n limit v a → Packed rows n limit w b → a ++ x ≡ b ++ y → (a ≡ b) × (v ≡ w)

-- what was read stays so, whatever follows
abbrev pub ReadStays : Type 0
ReadStays = (rows : List TypeRow) (n limit : ℕ) (bytes more : List ℕ) (v : Value) (used : ℕ)
    → read_at rows n limit bytes ≡ Ok (v, used) → read_at rows n limit (bytes ++ more) ≡ Ok (v, used)

-- a fault stays so, whatever follows
abbrev pub FaultStays : Type 0
FaultStays = (rows : List TypeRow) (n limit : ℕ) (bytes more : List ℕ) (fault : PackedFault)
    → fault ≢ Short → read_at rows n limit bytes ≡ Err fault → read_at rows n limit (bytes ++ more) ≡ Err fault

-- a fault stands at this place
abbrev pub IsAt : PackedFault → ℕ → Type 0
IsAt (NotSpelled at kind) place = at ≡ place
IsAt Short place = ⊥
IsAt (TooLong at) place = at ≡ place
IsAt NoMemory place = ⊥

-- a fault is the first: nothing to the left of its place is at fault, since octets that end there are only too few
abbrev pub FaultIsFirst : Type 0
FaultIsFirst = (rows : List TypeRow) (n limit : ℕ) (bytes : List ℕ) (fault : PackedFault) (place : ℕ) → IsAt fault place
    → read_at rows n limit bytes ≡ Err fault → (place ≤ length bytes) × ((k : ℕ) → k < place → read_at rows n limit (take k bytes) ≡ Err Short)

-- a first part of the octets is a spelling
abbrev pub BeginsSpelled : List TypeRow → ℕ → ℕ → List ℕ → Type 0
BeginsSpelled rows n limit bytes = (v : Value) × (used : ℕ) × (used ≤ length bytes) × Packed rows n limit v (take used bytes)

abbrev pub OneHolds : List TypeRow → ℕ → ℕ → List ℕ → Type 0
OneHolds rows n limit bytes =
    (BeginsSpelled rows n limit bytes × ((fault : PackedFault) → read_at rows n limit bytes ≢ Err fault))
    ⊎ (((BeginsSpelled rows n limit bytes → ⊥) × (fault : PackedFault) × (place : ℕ) × IsAt fault place × (read_at rows n limit bytes ≡ Err fault))
    ⊎ ((BeginsSpelled rows n limit bytes → ⊥) × (read_at rows n limit bytes ≡ Err Short)))

-- Of all octets one holds and no other: a first part is a spelling, there is a first fault, or they are too short.
abbrev pub OneOfThree : Type 0
OneOfThree = (rows : List TypeRow) (n limit : ℕ) (bytes : List ℕ) → limit < 2 ^ 32 → AreOctets bytes → OneHolds rows n limit bytes

-- octets that are too short are no more than the limit
abbrev pub ShortIsWithin : Type 0
ShortIsWithin = (rows : List TypeRow) (n limit : ℕ) (bytes : List ℕ) → read_at rows n limit bytes ≡ Err Short → length bytes ≤ limit

-- under a larger limit every answer but TooLong stays
abbrev pub WiderStays : Type 0
WiderStays =
    (rows : List TypeRow) (n limit more : ℕ) (bytes : List ℕ) → limit ≤ more
    → ((place : ℕ) → read_at rows n limit bytes ≢ Err (TooLong place))
    → read_at rows n more bytes ≡ read_at rows n limit bytes

-- and what is read with more octets than the smaller limit is TooLong there
abbrev pub WiderIsLong : Type 0
WiderIsLong = (rows : List TypeRow) (n limit more : ℕ) (bytes : List ℕ) (v : Value) (used : ℕ) → limit ≤ more → read_at rows n more bytes ≡ Ok (v, used) → limit < used
    → (place : ℕ) × (read_at rows n limit bytes ≡ Err (TooLong place))

-- a proper beginning of a spelling is too short
abbrev pub BeginningIsShort : Type 0
BeginningIsShort = (rows : List TypeRow) (n limit : ℕ) (v : Value) (front back : List ℕ) → limit < 2 ^ 32 → AreOctets (front ++ back)
    → Packed rows n limit v (front ++ back) → 0 < length back → read_at rows n limit front ≡ Err Short

-- What is written of a value is read back, whatever follows.
abbrev pub WrittenIsRead : Type 0
WrittenIsRead = (rows : List TypeRow) (n limit : ℕ) (v : Value) (rest : List ℕ) → limit < 2 ^ 32
    → packs rows n v ≡ true → length (packed rows n v) ≤ limit → items v ≤ most_items
    → read_at rows n limit (packed rows n v ++ rest) ≡ Ok (v, length (packed rows n v))

-- in a table without `Any` each value that has the form of its row has a spelling
abbrev pub FittingPacks : Type 0
FittingPacks = (rows : List TypeRow) (n : ℕ) (v : Value) → HasNoAny rows → packs rows n v ≡ has_form rows n v
