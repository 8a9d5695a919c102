-- The laws of reading and of spellings.
use Rattle.std.specs.Prelude.{◌≡◌, ◌≢◌, ℕ, ◌<◌, ◌≤◌, ◌^◌, Bool, true, false, Some, List, ◌∷◌, ◌++◌, ◌-◌, ◌%◌, length, take, Ok, Err, ◌⊎◌, slice_get, slice_index}
use Rattle.osi_base.specs.declared.layer_words.Kind.TheVariants.{Form}
use Rattle.asn1_types.specs.declared.row.TypeRow.{TypeRow}
use Rattle.asn1_types.specs.declared.row.TypeRow.TheVariants.{BitString}
use Rattle.asn1_types.specs.Table.{AreSoundRows}
use Rattle.asn1_types.specs.Value.{Value, bits}
use Rattle.asn1_types.specs.Fits.{are_bits, has_form}
use Rattle.asn1_types.specs.Whole.{is_whole}
use Rattle.ber_spelling.specs.declared.fault.ReadFault.{ReadFault}
use Rattle.ber_spelling.specs.declared.fault.ReadFault.TheVariants.{NotSpelled, Short, TooDeep, TooLong, NoMemory}
use Rattle.ber_spelling.specs.declared.spot.StringKind.TheVariants.{OfBits}
use Rattle.osi_base.specs.Octets.{AreOctets}
use Rattle.ber_spelling.specs.Rules.{read_at, segment_tag, cleared}
use Rattle.ber_spelling.specs.Spelling.{IsDefinite, Spells}
use Rattle.asn1_types.specs.Writing.{written}

-- what is read is spelled by its octets
abbrev pub ReadIsSpelled : Type 0
ReadIsSpelled = (rows : List TypeRow) (n : ℕ) (strict : Bool) (limit : ℕ) (bytes : List ℕ) (v : Value) (used : ℕ) → AreOctets bytes
    → read_at rows n strict limit bytes ≡ Ok (v, used) → (used ≤ length bytes) × Spells rows n strict limit v (take used bytes)

-- what is spelled is read, whatever follows
abbrev pub SpelledIsRead : Type 0
SpelledIsRead = (rows : List TypeRow) (n : ℕ) (strict : Bool) (limit : ℕ) (v : Value) (spelled rest : List ℕ) → AreSoundRows rows
    → Spells rows n strict limit v spelled → read_at rows n strict limit (spelled ++ rest) ≡ Ok (v, length spelled)

-- no spelling of a row's values begins another, and each spells one value
abbrev pub NoneBegins : Type 0
NoneBegins = (rows : List TypeRow) (n : ℕ) (strict : Bool) (limit : ℕ) (v w : Value) (a b x y : List ℕ) → AreSoundRows rows
    → Spells rows n strict limit v a → Spells rows n strict limit w b → a ++ x ≡ b ++ y → (a ≡ b) × (v ≡ w)

-- what was read stays so, whatever follows
abbrev pub ReadStays : Type 0
ReadStays = (rows : List TypeRow) (n : ℕ) (strict : Bool) (limit : ℕ) (bytes more : List ℕ) (v : Value) (used : ℕ)
    → read_at rows n strict limit bytes ≡ Ok (v, used) → read_at rows n strict limit (bytes ++ more) ≡ Ok (v, used)

-- a fault stays so, whatever follows
abbrev pub FaultStays : Type 0
FaultStays = (rows : List TypeRow) (n : ℕ) (strict : Bool) (limit : ℕ) (bytes more : List ℕ) (fault : ReadFault)
    → fault ≢ Short → read_at rows n strict limit bytes ≡ Err fault → read_at rows n strict limit (bytes ++ more) ≡ Err fault

-- a fault stands at this place
abbrev pub IsAt : ReadFault → ℕ → Type 0
IsAt (NotSpelled at kind) place = at ≡ place
IsAt Short place = ⊥
IsAt (TooDeep at) place = at ≡ place
IsAt (TooLong at) place = at ≡ place
IsAt NoMemory place = ⊥

-- Each fault but `Short` has a place inside the octets, and nothing to the left of it is at fault: octets that end
-- before it are only too short.
abbrev pub FaultIsFirst : Type 0
FaultIsFirst = (rows : List TypeRow) (n : ℕ) (strict : Bool) (limit : ℕ) (bytes : List ℕ) (fault : ReadFault) → fault ≢ Short
    → read_at rows n strict limit bytes ≡ Err fault
    → (place : ℕ) × IsAt fault place × (place ≤ length bytes) × ((k : ℕ) → k < place → read_at rows n strict limit (take k bytes) ≡ Err Short)

-- Octets that are too short are no more than the limit, and so is what is read.
abbrev pub ShortIsWithin : Type 0
ShortIsWithin = (rows : List TypeRow) (n : ℕ) (strict : Bool) (limit : ℕ) (bytes : List ℕ) → read_at rows n strict limit bytes ≡ Err Short → length bytes ≤ limit

-- Under a larger limit every answer but TooLong stays.
abbrev pub WiderStays : Type 0
WiderStays = (rows : List TypeRow) (n : ℕ) (strict : Bool) (limit more : ℕ) (bytes : List ℕ) → limit ≤ more → ((place : ℕ) → read_at rows n strict limit bytes ≢ Err (TooLong place))
    → read_at rows n strict more bytes ≡ read_at rows n strict limit bytes

-- And what is read with more octets than the smaller limit is TooLong there.
abbrev pub WiderIsLong : Type 0
WiderIsLong = (rows : List TypeRow) (n : ℕ) (strict : Bool) (limit more : ℕ) (bytes : List ℕ) (v : Value) (used : ℕ) → limit ≤ more → read_at rows n strict more bytes ≡ Ok (v, used) → limit < used
    → (place : ℕ) × (read_at rows n strict limit bytes ≡ Err (TooLong place))

-- a proper beginning of a spelling is too short
abbrev pub BeginningIsShort : Type 0
BeginningIsShort = (rows : List TypeRow) (n : ℕ) (strict : Bool) (limit : ℕ) (v : Value) (front back : List ℕ) → AreSoundRows rows → AreOctets (front ++ back)
    → Spells rows n strict limit v (front ++ back) → 0 < length back → read_at rows n strict limit front ≡ Err Short

-- What is written of a value that has its form is spelled so, as far as lengths have 8 octets.
abbrev pub WrittenIsSpelled : Type 0
WrittenIsSpelled = (rows : List TypeRow) (n : ℕ) (v : Value) → AreSoundRows rows → has_form rows n v ≡ true
    → (strict : Bool) (limit : ℕ) → limit < 2 ^ 64 → length (written rows n v) ≤ limit → Spells rows n strict limit v (written rows n v)

-- what is written of a value that has its form is read back, whatever follows
abbrev pub WrittenIsRead : Type 0
WrittenIsRead = (rows : List TypeRow) (n : ℕ) (v : Value) → AreSoundRows rows → has_form rows n v ≡ true
    → (strict : Bool) (limit : ℕ) (rest : List ℕ) → limit < 2 ^ 64 → length (written rows n v) ≤ limit → read_at rows n strict limit (written rows n v ++ rest) ≡ Ok (v, length (written rows n v))

-- what is spelled in DER is spelled so in BER
abbrev pub DerIsBer : Type 0
DerIsBer = (rows : List TypeRow) (n : ℕ) (limit : ℕ) (v : Value) (spelled : List ℕ) → Spells rows n true limit v spelled → Spells rows n false limit v spelled

-- Read in DER, octets give what they give in BER, or a form is at fault.
abbrev pub DerIsBerInForm : Type 0
DerIsBerInForm = (rows : List TypeRow) (n limit : ℕ) (bytes : List ℕ)
    → (read_at rows n true limit bytes ≡ read_at rows n false limit bytes) ⊎ ((place : ℕ) × (read_at rows n true limit bytes ≡ Err (NotSpelled place Form)))

-- What octets spell has the form of the row, with it each part of it and each unused bit; it fits unless its DER spelling or its
-- packed one is too long.
abbrev pub SpelledFits : Type 0
SpelledFits = (rows : List TypeRow) (n : ℕ) (strict : Bool) (limit : ℕ) (v : Value) (spelled : List ℕ) → AreOctets spelled → Spells rows n strict limit v spelled → has_form rows n v ≡ true

-- One octet holds the unused bits of a BIT STRING, the low ones, and whatever they are the octets stay P.
pub record HoldsUnused (used unused : ℕ) (P : List ℕ → Type 0) (spelled : List ℕ) : Type 0 where
  pub front : List ℕ
  pub octet : ℕ
  pub back : List ℕ
  pub are : spelled ≡ front ++ (octet ∷ back)
  pub has : octet - octet % 2 ^ unused ≡ used
  pub any : (other : ℕ) → other - other % 2 ^ unused ≡ used → P (front ++ (other ∷ back))

-- In BER the unused bits of a BIT STRING may have any values (X.690 8.6.2.3), and the octets spell the value in which
-- they are zeros: in whatever form it stands, with lengths of either form, in segments, under tags.
abbrev pub UnusedBitsAreZeros : Type 0
UnusedBitsAreZeros = (rows : List TypeRow) (n limit unused : ℕ) (os spelled : List ℕ) → Spells rows n false limit (bits os unused) spelled
    → (are_bits os unused ≡ true) × (0 < unused → HoldsUnused (slice_index os (length os - 1)) unused (Spells rows n false limit (bits os unused)) spelled)

-- So a BIT STRING in one segment: contents that tell the unused bits, and octets in which these have any values.
abbrev pub UnusedBitsAreCleared : Type 0
UnusedBitsAreCleared = (rows : List TypeRow) (n limit unused : ℕ) (os spelled : List ℕ) → slice_get rows n ≡ Some BitString → 0 < length os → unused < 8
    → IsDefinite false false (segment_tag OfBits) (λ contents. contents ≡ unused ∷ os) spelled → length spelled ≤ limit
    → Spells rows n false limit (bits (cleared unused os) unused) spelled

-- a first part of the octets is a spelling
abbrev pub BeginsSpelled : List TypeRow → ℕ → Bool → ℕ → List ℕ → Type 0
BeginsSpelled rows n strict limit bytes = (v : Value) × (used : ℕ) × (used ≤ length bytes) × Spells rows n strict limit v (take used bytes)

abbrev pub OneHolds : List TypeRow → ℕ → Bool → ℕ → List ℕ → Type 0
OneHolds rows n strict limit bytes =
    (BeginsSpelled rows n strict limit bytes × ((fault : ReadFault) → read_at rows n strict limit bytes ≢ Err fault))
    ⊎ (((BeginsSpelled rows n strict limit bytes → ⊥) × (fault : ReadFault) × (fault ≢ Short) × (read_at rows n strict limit bytes ≡ Err fault))
    ⊎ ((BeginsSpelled rows n strict limit bytes → ⊥) × (read_at rows n strict limit bytes ≡ Err Short)))

-- Of all octets one holds and no other: a first part is a spelling, there is a first fault, or they are too short.
abbrev pub OneOfThree : Type 0
OneOfThree = (rows : List TypeRow) (n : ℕ) (strict : Bool) (limit : ℕ) (bytes : List ℕ) → AreSoundRows rows → AreOctets bytes → OneHolds rows n strict limit bytes

-- A DER spelling is one whole value of any type: each length is definite, and no tag is UNIVERSAL 0.
abbrev pub DerIsWhole : Type 0
DerIsWhole = (rows : List TypeRow) (n : ℕ) (limit : ℕ) (v : Value) (spelled : List ℕ) → AreSoundRows rows → Spells rows n true limit v spelled → is_whole spelled ≡ true

-- A value has one DER spelling: the one that is written.
abbrev pub DerIsWritten : Type 0
DerIsWritten = (rows : List TypeRow) (n limit : ℕ) (v : Value) (spelled : List ℕ) → AreOctets spelled → Spells rows n true limit v spelled → spelled ≡ written rows n v
