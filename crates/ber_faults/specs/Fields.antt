-- The first fault of single fields (X.690 8.1). A field begins at `place`; the octets are all that stand from there on.
use Rattle.std.specs.Prelude.{◌≡◌, ◌≢◌, ℕ, ◌+◌, ◌-◌, ◌%◌, ◌≤◌, ◌<◌, ◌⊎◌, Bool, true, false, List, [], ◌∷◌, ◌++◌, length, slice_index}
use Rattle.osi_base.specs.declared.layer_words.Kind.TheVariants.{Tag, Length, Form}
use Rattle.asn1_types.specs.Tags.{capped}
use Rattle.asn1_types.specs.Whole.{number_256}
use Rattle.ber_spelling.specs.declared.fault.ReadFault.{ReadFault}
use Rattle.ber_spelling.specs.declared.fault.ReadFault.TheVariants.{NotSpelled, TooDeep, TooLong}
use Rattle.ber_spelling.specs.declared.spot.Scope.{Scope}
use Rattle.ber_spelling.specs.Reading.{Spot, Opened, is_past}
use Rattle.ber_spelling.specs.Fields.{is_end, inside, inside_until}
use Rattle.ber_spelling.specs.Spelling.{AreDigits, number_128, IsIdentifier, IsLength}

-- ---- how far a field may go

-- a place lies within the limit and the enclosing contents
pub record IsWithin (scope : Scope) (place : ℕ) : Type 0 where
  pub limit : place ≤ scope.limit
  pub end : is_past scope.end place ≡ false

-- A field that goes on until here passes the limit, or else the end of the enclosing contents.
abbrev pub Crosses : Scope → ℕ → ℕ → ReadFault → Type 0
Crosses scope place until f =
    ((scope.limit < until) × (f ≡ TooLong place))
    ⊎ ((until ≤ scope.limit) × (is_past scope.end until ≡ true) × (f ≡ NotSpelled place Length))

-- An octet must stand here as the next of a field: it does, or the enclosing contents end here.
abbrev pub GoesOn : Scope → ℕ → List ℕ → Type 0
GoesOn scope from [] = is_end scope.end from ≡ true
GoesOn scope from (octet ∷ more) = Unit {0}

-- ---- identifiers (X.690 8.1.2)

-- digits of seven bits, of which none is the last
abbrev pub AreUnfinishedDigits : List ℕ → Type 0
AreUnfinishedDigits [] = Unit {0}
AreUnfinishedDigits (digit ∷ digits) = (128 ≤ digit) × AreUnfinishedDigits digits

-- a number below 31, or a leading zero digit (X.690 8.1.2.4)
abbrev pub IsLax : List ℕ → Type 0
IsLax digits = (number_128 0 digits < 31) ⊎ (slice_index digits 0 ≡ 128)

-- the digits of a high tag number, from behind the first octet on: the next one crosses, or they are whole and not minimal
abbrev pub DigitsFault : Scope → ℕ → List ℕ → ReadFault → Type 0
DigitsFault scope place octets f =
    (digits : List ℕ) × (more : List ℕ) × (octets ≡ digits ++ more) × IsWithin scope (place + 1 + length digits)
    × ((AreUnfinishedDigits digits × GoesOn scope (place + 1 + length digits) more × Crosses scope place (place + 1 + length digits + 1) f)
    ⊎ (AreDigits digits × IsLax digits × (f ≡ NotSpelled place Tag)))

abbrev pub IdentifierFault : Scope → ℕ → List ℕ → ReadFault → Type 0
IdentifierFault scope place [] f = ⊥
IdentifierFault scope place (first ∷ rest) f =
    ((scope.levels ≡ 0) × (f ≡ TooDeep place))
    ⊎ ((0 < scope.levels) × (Crosses scope place (place + 1) f
    ⊎ (IsWithin scope (place + 1) × (first % 32 ≡ 31) × DigitsFault scope place rest f)))

-- ---- lengths (X.690 8.1.3, 10.1)

-- DER's shortest form (X.690 10.1)
abbrev pub IsLonger : List ℕ → Type 0
IsLonger digits = (number_256 0 digits < 128) ⊎ (slice_index digits 0 ≡ 0)

-- The octets of the number are there, as many as the first octet says.
abbrev pub WholeLongFault : Scope → ℕ → ℕ → List ℕ → ReadFault → Type 0
WholeLongFault scope place size digits f =
    Crosses scope place (place + 1 + size) f
    ⊎ (IsWithin scope (place + 1 + size) × (((8 < size) × (f ≡ NotSpelled place Length))
    ⊎ ((size ≤ 8) × (Crosses scope place (place + 1 + size + number_256 0 digits) f
    ⊎ (IsWithin scope (place + 1 + size + number_256 0 digits) × (scope.strict ≡ true) × IsLonger digits × (f ≡ NotSpelled place Form))))))

-- Some of them lack. Such a field certainly goes on to its own end, where the contents end before that; else to the end of
-- the octets that are there.
abbrev pub CutLongFault : Scope → ℕ → ℕ → ℕ → ReadFault → Type 0
CutLongFault scope place size there f =
    ((is_past scope.end (place + 1 + size) ≡ true) × Crosses scope place (place + 1 + size) f)
    ⊎ ((is_past scope.end (place + 1 + size) ≡ false) × Crosses scope place (place + 1 + there) f)

-- the long form, behind a first octet that says this size
abbrev pub LongFault : Scope → ℕ → ℕ → List ℕ → ReadFault → Type 0
LongFault scope place size rest f =
    ((length rest < size) × CutLongFault scope place size (length rest) f)
    ⊎ ((digits : List ℕ) × (more : List ℕ) × (rest ≡ digits ++ more) × (length digits ≡ size) × WholeLongFault scope place size digits f)

-- behind a first octet that lies within
abbrev pub SizeFault : Scope → ℕ → ℕ → List ℕ → ReadFault → Type 0
SizeFault scope place first rest f =
    ((first < 128) × Crosses scope place (place + 1 + first) f)
    ⊎ ((((first ≡ 128) ⊎ (first ≡ 255)) × (f ≡ NotSpelled place Length))
    ⊎ ((128 < first) × (first ≢ 255) × LongFault scope place (first - 128) rest f))

-- a definite length
abbrev pub LengthFault : Scope → ℕ → List ℕ → ReadFault → Type 0
LengthFault scope place [] f = (is_end scope.end place ≡ true) × Crosses scope place (place + 1) f
LengthFault scope place (first ∷ rest) f = Crosses scope place (place + 1) f ⊎ (IsWithin scope (place + 1) × SizeFault scope place first rest f)

-- a length of either form; DER has no indefinite ones (X.690 10.1)
abbrev pub ExtentFault : Scope → ℕ → List ℕ → ReadFault → Type 0
ExtentFault scope place [] f = (is_end scope.end place ≡ true) × Crosses scope place (place + 1) f
ExtentFault scope place (first ∷ rest) f =
    ((first ≡ 128) × (Crosses scope place (place + 1) f ⊎ (IsWithin scope (place + 1) × (scope.strict ≡ true) × (f ≡ NotSpelled place Form))))
    ⊎ ((first ≢ 128) × LengthFault scope place (first ∷ rest) f)

-- ---- the ends of contents (X.690 8.1.5)

-- behind one zero octet: it is the first of an end-of-contents, or an identifier
abbrev pub SecondFault : Scope → ℕ → List ℕ → ReadFault → Type 0
SecondFault scope place [] f = ⊥
SecondFault scope place (second ∷ rest) f =
    ((second ≡ 0) × Crosses scope place (place + 2) f) ⊎ ((second ≢ 0) × IdentifierFault scope place (0 ∷ second ∷ rest) f)

abbrev pub ZeroFault : Scope → ℕ → List ℕ → ReadFault → Type 0
ZeroFault scope place rest f =
    ((is_past scope.end (place + 2) ≡ true) × Crosses scope place (place + 2) f)
    ⊎ ((is_past scope.end (place + 2) ≡ false) × (Crosses scope place (place + 1) f ⊎ (IsWithin scope (place + 1) × SecondFault scope place rest f)))

abbrev pub MarkFault : Scope → ℕ → List ℕ → ReadFault → Type 0
MarkFault scope place [] f = ⊥
MarkFault scope place (first ∷ rest) f =
    ((first ≡ 0) × ZeroFault scope place rest f) ⊎ ((first ≢ 0) × IdentifierFault scope place (first ∷ rest) f)

-- The field that must stand next in contents, their end or an identifier, has the fault. Where contents end by a mark, and
-- what encloses them ends before it, the mark would cross that end.
abbrev pub AheadFault : Scope → ℕ → List ℕ → ReadFault → Type 0
AheadFault scope place octets f =
    ((scope.marked ≡ true) × (((is_end scope.end place ≡ true) × Crosses scope place (place + 1) f) ⊎ ((is_end scope.end place ≡ false) × MarkFault scope place octets f)))
    ⊎ ((scope.marked ≡ false) × (is_end scope.end place ≡ false) × IdentifierFault scope place octets f)

-- ---- fields that are right

-- an identifier, and where the octets behind it stand; a number past 32 bits is told as 2 ^ 32
pub record Opens (scope : Scope) (place : ℕ) (octets : List ℕ) (opened : Opened) (behind : Spot) : Type 0 where
  pub head : List ℕ
  pub number : ℕ
  pub parts : octets ≡ head ++ behind.rest
  pub onward : behind.place ≡ place + length head
  pub starts : opened.start ≡ record { place = place; rest = octets }
  pub is_identifier : IsIdentifier opened.class opened.constructed number head
  pub is_number : opened.number ≡ capped number
  pub level : 0 < scope.levels
  pub within : IsWithin scope behind.place

-- no mark begins here: the first octet isn't zero, or the second one is there and isn't, and lies within what encloses them
abbrev pub IsNoMark : Scope → ℕ → List ℕ → Type 0
IsNoMark scope place [] = ⊥
IsNoMark scope place (first ∷ []) = first ≢ 0
IsNoMark scope place (first ∷ second ∷ more) = (first ≢ 0) ⊎ ((second ≢ 0) × (is_past scope.end (place + 2) ≡ false))

-- contents go on with a value that begins with this identifier
pub record Begins (scope : Scope) (at : Spot) (opened : Opened) (behind : Spot) : Type 0 where
  pub opens : Opens scope at.place at.rest opened behind
  pub no_mark : scope.marked ≡ true → IsNoMark scope at.place at.rest

-- what closes contents: two zero octets, or nothing where their length says so
abbrev pub closing : Bool → List ℕ
closing true = 0 ∷ 0 ∷ []
closing false = []

-- contents end here
pub record ContentsEnd (scope : Scope) (at behind : Spot) : Type 0 where
  pub parts : at.rest ≡ closing scope.marked ++ behind.rest
  pub onward : behind.place ≡ at.place + length (closing scope.marked)
  pub within : IsWithin scope behind.place
  pub due : scope.marked ≡ false → is_end scope.end at.place ≡ true

-- a length, the scope of the contents that it announces, and where they stand
abbrev pub Extends : Scope → Spot → Scope → Spot → Type 0
Extends scope at x behind =
    ((size : List ℕ) × (n : ℕ) × IsLength scope.strict size n × (at.rest ≡ size ++ behind.rest) × (behind.place ≡ at.place + length size)
    × IsWithin scope (behind.place + n) × (x ≡ inside_until scope (behind.place + n)))
    ⊎ ((scope.strict ≡ false) × (at.rest ≡ 128 ∷ behind.rest) × (behind.place ≡ at.place + 1) × IsWithin scope behind.place × (x ≡ inside scope))

-- contents of a primitive that are all there, and their place
pub record Holds (scope : Scope) (at : Spot) (place : ℕ) (contents : List ℕ) : Type 0 where
  pub size : List ℕ
  pub more : List ℕ
  pub is_length : IsLength scope.strict size (length contents)
  pub parts : at.rest ≡ size ++ (contents ++ more)
  pub onward : place ≡ at.place + length size
  pub within : IsWithin scope (place + length contents)

-- octets from a place on spell this within what encloses them, and others follow
pub record Stands {A : Type 0} (P : Bool → ℕ → A → List ℕ → Type 0) (scope : Scope) (at : Spot) (v : A) (behind : Spot) : Type 0 where
  pub text : List ℕ
  pub parts : at.rest ≡ text ++ behind.rest
  pub onward : behind.place ≡ at.place + length text
  pub spelled : P scope.strict scope.levels v text
  pub within : IsWithin scope behind.place
