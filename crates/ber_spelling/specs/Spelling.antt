-- The spellings of values (X.690 8 and 10): which octets spell which value of which row. A scope of `strict`
-- means DER. Levels are how many more values may stand inside one another.
use Rattle.std.specs.Prelude.{◌≡◌, ◌≢◌, ℕ, zero, suc, ◌+◌, ◌-◌, ◌*◌, ◌^◌, ◌<◌, ◌≤◌, ◌⊎◌, ℤ, ◌≤ℤ◌, Bool, true, false, not, Option, Some, None, List, [], ◌∷◌, ◌++◌, length, nat_lt, nat_eq, slice_index, slice_get, slice_set, if◌then◌else◌}
use Rattle.std.specs.List.{AllByRecursion}
use Rattle.osi_base.specs.Oid.{IsOid}
use Rattle.osi_base.specs.Limits.{most_levels, most_octets}
use Rattle.asn1_types.specs.declared.row.Class.{Class}
use Rattle.asn1_types.specs.declared.row.Class.TheVariants.{Universal}
use Rattle.asn1_types.specs.declared.row.Part.{Part}
use Rattle.asn1_types.specs.declared.row.TypeRow.{TypeRow}
use Rattle.asn1_types.specs.declared.row.TypeRow.TheVariants as row
use Rattle.asn1_types.specs.declared.row.Item.{Item}
use Rattle.asn1_types.specs.Rows.{is_no_tag, text_number}
use Rattle.asn1_types.specs.Defaults.{is_item, may_be_absent, is_default, kept}
use Rattle.asn1_types.specs.Value.{Value, boolean, integer, null, object_id, parts, chosen, any, MaybeValues, no_parts, absent, present}
use Rattle.asn1_types.specs.declared.row.Tag as tags
use Rattle.asn1_types.specs.Tags.{tag_or, front_rank, leading}
use Rattle.asn1_types.specs.Rising.{behind_last}
use Rattle.asn1_types.specs.Whole.{number_256}
use Rattle.ber_spelling.specs.Primitives.{is_padded, signed_of}
use Rattle.ber_spelling.specs.declared.spot.StringKind.{StringKind}
use Rattle.ber_spelling.specs.declared.spot.StringKind.TheVariants.{OfOctets, OfBits}
use Rattle.ber_spelling.specs.declared.spot.Gathered.{Gathered}
use Rattle.ber_spelling.specs.Rules.{Guise, bare, plain, under, always, segment_tag, nothing, segment_rule, string_rule, whole_octets, whole_text, whole_bits, has_zero_bits, list_done, set_of_done, nothing_filled, set_done}
use Rattle.asn1_types.specs.Writing.{written, subidentifiers}
use Rattle.ber_spelling.specs.Order.{Filled}

-- ---- numbers in digits of seven bits (X.690 8.1.2.4.2, 8.19.2)

-- bit 8 is set in all digits but the last
abbrev pub AreDigits : List ℕ → Type 0
AreDigits [] = ⊥
AreDigits (last ∷ []) = last < 128
AreDigits (digit ∷ next ∷ digits) = (128 ≤ digit) × (digit < 256) × AreDigits (next ∷ digits)

abbrev pub low_bits : ℕ → ℕ
low_bits digit = if nat_lt digit 128 then digit else digit - 128

abbrev pub number_128 : ℕ → List ℕ → ℕ
number_128 number [] = number
number_128 number (digit ∷ digits) = number_128 (128 * number + low_bits digit) digits

-- no leading zero digit
pub record IsBase128 (digits : List ℕ) (n : ℕ) : Type 0 where
  pub are : AreDigits digits
  pub shortest : slice_index digits 0 ≢ 128
  pub number : number_128 0 digits ≡ n

-- ---- identifiers (X.690 8.1.2)

-- numbers below 31 in the first octet, others in digits
abbrev pub IsIdentifier : Class → Bool → ℕ → List ℕ → Type 0
IsIdentifier class constructed number [] = ⊥
IsIdentifier class constructed number (first ∷ digits) =
    ((number < 31) × (first ≡ leading class constructed + number) × (digits ≡ []))
    ⊎ ((31 ≤ number) × (first ≡ leading class constructed + 31) × IsBase128 digits number)

-- ---- lengths (X.690 8.1.3, 10.1)

-- behind the first octet in the long form: 1 to 8 octets of the number, in DER no more than it needs
pub record IsLong (strict : Bool) (first : ℕ) (digits : List ℕ) (n : ℕ) : Type 0 where
  pub size : first ≡ 128 + length digits
  pub some : 1 ≤ length digits
  pub few : length digits ≤ 8
  pub number : number_256 0 digits ≡ n
  pub shortest : strict ≡ true → (128 ≤ n) × (0 < slice_index digits 0)

abbrev pub IsLength : Bool → List ℕ → ℕ → Type 0
IsLength strict [] n = ⊥
IsLength strict (first ∷ digits) n = ((first < 128) × (digits ≡ []) × (n ≡ first)) ⊎ IsLong strict first digits n

-- ---- values of either form

-- identifier, length, contents (X.690 8.1.1)
pub record IsDefinite (strict constructed : Bool) (tag : tags.Tag) (P : List ℕ → Type 0) (spelled : List ℕ) : Type 0 where
  pub head : List ℕ
  pub size : List ℕ
  pub contents : List ℕ
  pub is_identifier : IsIdentifier tag.class constructed tag.number head
  pub is_length : IsLength strict size (length contents)
  pub holds : P contents
  pub are : spelled ≡ head ++ (size ++ contents)

-- identifier, `80`, contents, end-of-contents (X.690 8.1.3.6, 8.1.5); not in DER
pub record IsIndefinite (tag : tags.Tag) (P : List ℕ → Type 0) (spelled : List ℕ) : Type 0 where
  pub head : List ℕ
  pub contents : List ℕ
  pub is_identifier : IsIdentifier tag.class true tag.number head
  pub holds : P contents
  pub are : spelled ≡ head ++ (128 ∷ (contents ++ (0 ∷ 0 ∷ [])))

pub record IsPrimitive (tag : tags.Tag) (strict : Bool) (levels : ℕ) (P : List ℕ → Type 0) (spelled : List ℕ) : Type 0 where
  pub level : 0 < levels
  pub small : tag.number < 2 ^ 32
  pub form : IsDefinite strict false tag P spelled

-- the contents have one level less
pub record IsConstructed (tag : tags.Tag) (strict : Bool) (levels : ℕ) (P : ℕ → List ℕ → Type 0) (spelled : List ℕ) : Type 0 where
  pub inner : ℕ
  pub level : levels ≡ suc inner
  pub small : tag.number < 2 ^ 32
  pub form : IsDefinite strict true tag (P inner) spelled ⊎ ((strict ≡ false) × IsIndefinite tag (P inner) spelled)

-- ---- contents of primitive values

-- X.690 8.3: 1 to 8 octets, no more than two's complement needs
pub record IsInteger (contents : List ℕ) (z : ℤ) : Type 0 where
  pub some : 1 ≤ length contents
  pub few : length contents ≤ 8
  pub shortest : is_padded contents ≡ false
  pub number : signed_of contents ≡ z

-- X.690 8.2; TRUE is FF in DER (11.1)
abbrev pub BooleanIs : Bool → Value → List ℕ → Type 0
BooleanIs strict (boolean b) contents = (octet : ℕ) × (contents ≡ octet ∷ []) × (b ≡ not (nat_eq octet 0)) × (strict ≡ true → (octet ≡ 0) ⊎ (octet ≡ 255))
BooleanIs strict v contents = ⊥

-- X.690 8.4: the number of an item
abbrev pub EnumeratedIs : List Item → Value → List ℕ → Type 0
EnumeratedIs items (integer z) contents = IsInteger contents z × (is_item items z ≡ true)
EnumeratedIs items v contents = ⊥

abbrev pub IntegerIs : ℤ → ℤ → Value → List ℕ → Type 0
IntegerIs low high (integer z) contents = IsInteger contents z × (low ≤ℤ z) × (z ≤ℤ high)
IntegerIs low high v contents = ⊥

abbrev pub NullIs : Value → List ℕ → Type 0
NullIs null contents = contents ≡ []
NullIs v contents = ⊥

abbrev pub AreSubidentifiers : List ℕ → List ℕ → Type 0
AreSubidentifiers [] contents = contents ≡ []
AreSubidentifiers (n ∷ ns) contents =
    (first : List ℕ) × (others : List ℕ) × (contents ≡ first ++ others) × IsBase128 first n × AreSubidentifiers ns others

pub record IsObjectId (arcs contents : List ℕ) : Type 0 where
  pub is_oid : IsOid arcs
  pub small : AllByRecursion (λ arc. arc < 2 ^ 32) arcs
  pub are : AreSubidentifiers (subidentifiers arcs) contents

abbrev pub ObjectIdIs : Value → List ℕ → Type 0
ObjectIdIs (object_id arcs) contents = IsObjectId arcs contents
ObjectIdIs v contents = ⊥

-- ---- any one whole value (X.690 8.1)

-- any identifier but UNIVERSAL 0, a definite length, and that many octets
pub record IsSized (spelled : List ℕ) : Type 0 where
  pub class : Class
  pub constructed : Bool
  pub number : ℕ
  pub is_tag : is_no_tag class number ≡ false
  pub head : List ℕ
  pub size : List ℕ
  pub contents : List ℕ
  pub is_identifier : IsIdentifier class constructed number head
  pub is_length : IsLength false size (length contents)
  pub are : spelled ≡ head ++ (size ++ contents)

-- contents that are such values one after the other
abbrev pub AreAll : (List ℕ → Type 0) → List (List ℕ) → List ℕ → Type 0
AreAll P [] contents = contents ≡ []
AreAll P (s ∷ more) contents = (others : List ℕ) × (contents ≡ s ++ others) × P s × AreAll P more others

-- any identifier of a constructed value but UNIVERSAL 0, `80`, such values, and end-of-contents (X.690 8.1.3.6, 8.1.5)
pub record IsMarked (P : List ℕ → Type 0) (spelled : List ℕ) : Type 0 where
  pub class : Class
  pub number : ℕ
  pub is_tag : is_no_tag class number ≡ false
  pub head : List ℕ
  pub values : List (List ℕ)
  pub contents : List ℕ
  pub is_identifier : IsIdentifier class true number head
  pub holds : AreAll P values contents
  pub are : spelled ≡ head ++ (128 ∷ (contents ++ (0 ∷ 0 ∷ [])))

-- Definite contents aren't looked into; indefinite ones are whole values with a level less.
abbrev pub IsWhole : ℕ → List ℕ → Type 0
IsWhole zero spelled = ⊥
IsWhole (suc inner) spelled = IsSized spelled ⊎ IsMarked (IsWhole inner) spelled

-- its levels are counted from 1 on, whatever encloses it
abbrev pub AnyIs : ℕ → Value → List ℕ → Type 0
AnyIs levels (any os) spelled = (0 < levels) × (spelled ≡ os) × IsWhole most_levels os
AnyIs levels v spelled = ⊥

-- ---- strings (X.690 8.6, 8.7, 8.23)

-- Texts one after the other, each of which leads from one state to the next.
abbrev pub Steps : {S : Type 0} → (S → S → List ℕ → Type 0) → List (List ℕ × S) → S → S → List ℕ → Type 0
Steps step [] first last contents = (first ≡ last) × (contents ≡ [])
Steps step (s ∷ more) first last contents = (others : List ℕ) × (contents ≡ s.0 ++ others) × step first s.1 s.0 × Steps step more s.1 last others

-- contents that are values one after the other, and what they are together
abbrev pub ItemsAre : {S T : Type 0} → (S → Option T) → (S → Bool → ℕ → S → List ℕ → Type 0) → S → Bool → ℕ → T → List ℕ → Type 0
ItemsAre {S} done step first strict levels v contents =
    (last : S) × (done last ≡ Some v) × (steps : List (List ℕ × S)) × Steps (λ a b spelled. step a strict levels b spelled) steps first last contents

-- a segment is of the string's own universal type (of OCTET STRING for texts), primitive or of segments
abbrev pub SegmentIs : StringKind → ℕ → Gathered → Bool → ℕ → Gathered → List ℕ → Type 0
SegmentIs kind zero before strict levels after spelled = ⊥
SegmentIs kind (suc depth) before strict levels after spelled =
    IsPrimitive (segment_tag kind) strict levels (λ contents. segment_rule kind before contents ≡ Some after) spelled
    ⊎ IsConstructed (segment_tag kind) strict levels (λ inner contents. ItemsAre (λ (g : Gathered). Some g) (SegmentIs kind depth) before strict inner after contents) spelled

-- one segment, or in BER many
abbrev pub StringIs : StringKind → (Gathered → Option Value) → (List ℕ → Bool) → tags.Tag → Bool → ℕ → Value → List ℕ → Type 0
StringIs kind whole canonical tag strict levels v spelled =
    IsPrimitive tag strict levels (λ contents. (string_rule kind whole contents ≡ Some v) × (strict ≡ true → canonical contents ≡ true)) spelled
    ⊎ ((strict ≡ false) × (g : Gathered) × (whole g ≡ Some v)
    × IsConstructed tag strict levels (λ inner contents. ItemsAre (λ (g : Gathered). Some g) (SegmentIs kind most_levels) nothing strict inner g contents) spelled)

-- ---- each row, from what the rows that it names are spelled as

-- which octets spell which value, with so many levels, standing so
abbrev pub Spelled : Type 1
Spelled = Guise → Bool → ℕ → Value → List ℕ → Type 0

-- in DER no part has its default's value (X.690 11.5)
abbrev pub IsOther : Option ℤ → Bool → Value → Type 0
IsOther default strict v = strict ≡ true → is_default default v ≡ false

-- a part that is left out, or a value; the default's is that of the absent part (X.680 25.9)
abbrev pub PartIs : Spelled → Bool → ℕ → Part → Option Value → List ℕ → Type 0
PartIs inner strict levels p o spelled =
    ((may_be_absent p ≡ true) × (o ≡ None) × (spelled ≡ []))
    ⊎ ((v : Value) × (kept p v ≡ o) × inner (bare p.default) strict levels v spelled)

-- the parts that are there, in the order of the notation (X.690 8.9)
abbrev pub PartsAre : (ℕ → Spelled) → Bool → ℕ → List Part → MaybeValues → List ℕ → Type 0
PartsAre inner strict levels [] no_parts contents = contents ≡ []
PartsAre inner strict levels (p ∷ ps) (absent vs) contents =
    (first : List ℕ) × (others : List ℕ) × (contents ≡ first ++ others) × PartIs (inner p.inner.0) strict levels p None first × PartsAre inner strict levels ps vs others
PartsAre inner strict levels (p ∷ ps) (present v vs) contents =
    (first : List ℕ) × (others : List ℕ) × (contents ≡ first ++ others) × PartIs (inner p.inner.0) strict levels p (Some v) first × PartsAre inner strict levels ps vs others
PartsAre inner strict levels ps vs contents = ⊥

abbrev pub SequenceIs : (ℕ → Spelled) → Bool → List Part → Value → ℕ → List ℕ → Type 0
SequenceIs inner strict ps (parts vs) levels contents = PartsAre inner strict levels ps vs contents
SequenceIs inner strict ps v levels contents = ⊥

-- one value more (X.690 8.10)
abbrev pub ListStep : Spelled → List Value → Bool → ℕ → List Value → List ℕ → Type 0
ListStep inner before strict levels after spelled = (v : Value) × (after ≡ before ++ v ∷ []) × inner plain strict levels v spelled

abbrev pub ListIs : Spelled → Bool → Value → ℕ → List ℕ → Type 0
ListIs inner strict v levels contents = ItemsAre list_done (ListStep inner) [] strict levels v contents

-- one item more of a SET OF (X.690 8.12); in DER they rise (X.690 11.6)
abbrev pub SetItemStep : (Value → List ℕ) → Spelled → List Value → Bool → ℕ → List Value → List ℕ → Type 0
SetItemStep spell inner before strict levels after spelled =
    (v : Value) × (after ≡ before ++ v ∷ []) × inner plain strict levels v spelled × (strict ≡ true → behind_last spell before v ≡ true)

-- the items in any order; the value has them in rising order
abbrev pub SetOfIs : (Value → List ℕ) → Spelled → Bool → Value → ℕ → List ℕ → Type 0
SetOfIs spell inner strict v levels contents = ItemsAre (set_of_done spell) (SetItemStep spell inner) [] strict levels v contents

-- one part more, whose slot is free (X.690 8.11); in DER the tags rise (X.690 10.3)
abbrev pub SetStep : (ℕ → Spelled) → List Part → Filled → Bool → ℕ → Filled → List ℕ → Type 0
SetStep inner ps before strict levels after spelled =
    (which : ℕ) × (p : Part) × (v : Value) × (slice_get ps which ≡ Some p) × (slice_get before.found which ≡ Some None) × inner p.inner.0 (bare p.default) strict levels v spelled
    × (strict ≡ true → before.least ≤ front_rank spelled)
    × (after ≡ record { found = slice_set before.found which (Some v); least = front_rank spelled + 1 })

abbrev pub SetIs : (ℕ → Spelled) → List Part → Bool → Value → ℕ → List ℕ → Type 0
SetIs inner ps strict v levels contents = ItemsAre (set_done ps) (SetStep inner ps) (nothing_filled ps) strict levels v contents

-- a value of the alternative (X.690 8.13)
abbrev pub ChoiceIs : (ℕ → Spelled) → List Part → Bool → ℕ → Value → List ℕ → Type 0
ChoiceIs inner ps strict levels (chosen which v) spelled = (p : Part) × (slice_get ps which ≡ Some p) × inner p.inner.0 plain strict levels v spelled
ChoiceIs inner ps strict levels v spelled = ⊥

-- Over an untagged CHOICE or an `Any` each tag is explicit (X.680 31.2.7).
abbrev pub OrExplicit : (Bool → ℕ → Value → List ℕ → Type 0) → Option tags.Tag → Bool → ℕ → Value → List ℕ → Type 0
OrExplicit P None strict levels v spelled = P strict levels v spelled
OrExplicit P (Some tag) strict levels v spelled = IsConstructed tag strict levels (λ inner contents. P strict inner v contents) spelled

-- X.690 8.14
abbrev pub TaggedIs : Bool → Spelled → Class → ℕ → Spelled
TaggedIs true inner class number guise strict levels v spelled = IsConstructed (tag_or guise.tag class number) strict levels (λ l contents. inner (bare guise.default) strict l v contents) spelled
TaggedIs false inner class number guise strict levels v spelled = inner (under (Some (tag_or guise.tag class number)) guise.default) strict levels v spelled

-- from how values of the rows are spelled in DER as a function, and in which relation
abbrev pub RowIs : (ℕ → Value → List ℕ) → (ℕ → Spelled) → TypeRow → Spelled
RowIs spell inner row.Boolean guise strict levels v spelled = IsPrimitive (tag_or guise.tag Universal 1) strict levels (λ c. BooleanIs strict v c × IsOther guise.default strict v) spelled
RowIs spell inner (row.Integer low high) guise strict levels v spelled = IsPrimitive (tag_or guise.tag Universal 2) strict levels (λ c. IntegerIs low high v c × IsOther guise.default strict v) spelled
RowIs spell inner (row.Enumerated items) guise strict levels v spelled =
    IsPrimitive (tag_or guise.tag Universal 10) strict levels (λ c. EnumeratedIs items v c × IsOther guise.default strict v) spelled
RowIs spell inner row.Null guise strict levels v spelled = IsPrimitive (tag_or guise.tag Universal 5) strict levels (NullIs v) spelled
RowIs spell inner (row.OctetString most) guise strict levels v spelled = StringIs OfOctets (whole_octets most) always (tag_or guise.tag Universal 4) strict levels v spelled
RowIs spell inner row.BitString guise strict levels v spelled = StringIs OfBits whole_bits has_zero_bits (tag_or guise.tag Universal 3) strict levels v spelled
RowIs spell inner row.ObjectId guise strict levels v spelled = IsPrimitive (tag_or guise.tag Universal 6) strict levels (ObjectIdIs v) spelled
RowIs spell inner (row.Text kind) guise strict levels v spelled = StringIs OfOctets (whole_text kind) always (tag_or guise.tag Universal (text_number kind)) strict levels v spelled
RowIs spell inner (row.Sequence ps) guise strict levels v spelled = IsConstructed (tag_or guise.tag Universal 16) strict levels (SequenceIs inner strict ps v) spelled
RowIs spell inner (row.Set ps) guise strict levels v spelled = IsConstructed (tag_or guise.tag Universal 17) strict levels (SetIs inner ps strict v) spelled
RowIs spell inner (row.SequenceOf of) guise strict levels v spelled = IsConstructed (tag_or guise.tag Universal 16) strict levels (ListIs (inner of.0) strict v) spelled
RowIs spell inner (row.SetOf of) guise strict levels v spelled = IsConstructed (tag_or guise.tag Universal 17) strict levels (SetOfIs (spell of.0) (inner of.0) strict v) spelled
RowIs spell inner (row.Choice ps) guise strict levels v spelled = OrExplicit (ChoiceIs inner ps) guise.tag strict levels v spelled
RowIs spell inner (row.Tagged class number explicit of) guise strict levels v spelled = TaggedIs explicit (inner of.0) class number guise strict levels v spelled
RowIs spell inner row.Any guise strict levels v spelled = OrExplicit (λ s. AnyIs) guise.tag strict levels v spelled

abbrev pub RowOr : (TypeRow → Spelled) → Option TypeRow → Spelled
RowOr rule None guise strict levels v spelled = ⊥
RowOr rule (Some r) guise strict levels v spelled = rule r guise strict levels v spelled

-- Each row names only lower rows, so as many turns as there are rows are enough.
abbrev pub SpelledBy : List TypeRow → ℕ → ℕ → Spelled
SpelledBy rows zero n guise strict levels v spelled = ⊥
SpelledBy rows (suc turns) n guise strict levels v spelled = RowOr (RowIs (written rows) (SpelledBy rows turns)) (slice_get rows n) guise strict levels v spelled

-- octets spell a value of row n of a table, within a limit on their number (X.690; `strict` is DER)
pub record Spells (rows : List TypeRow) (n : ℕ) (strict : Bool) (limit : ℕ) (v : Value) (spelled : List ℕ) : Type 0 where
  pub by : SpelledBy rows (length rows) n plain strict most_levels v spelled
  pub within : length spelled ≤ limit

abbrev pub Ber : List TypeRow → ℕ → Value → List ℕ → Type 0
Ber rows n v spelled = Spells rows n false most_octets v spelled

abbrev pub Der : List TypeRow → ℕ → Value → List ℕ → Type 0
Der rows n v spelled = Spells rows n true most_octets v spelled
