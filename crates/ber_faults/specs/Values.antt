-- The first fault of values, row by row (X.690 8 and 10): the fields before it are right, and this field breaks its rule.
use Rattle.std.specs.Prelude.{◌≡◌, ℕ, zero, suc, ◌+◌, ◌^◌, ◌<◌, ◌⊎◌, ℤ, Bool, true, false, Option, Some, None, List, [], ◌∷◌, ◌++◌, length, nat_lt, slice_get}
use Rattle.osi_base.specs.declared.layer_words.Kind.{Kind}
use Rattle.osi_base.specs.declared.layer_words.Kind.TheVariants.{Tag, Missing, Extra, Content, Form}
use Rattle.osi_base.specs.Limits.{most_levels}
use Rattle.asn1_types.specs.declared.row.Class.{Class}
use Rattle.asn1_types.specs.declared.row.Class.TheVariants.{Universal}
use Rattle.asn1_types.specs.declared.row.Item.{Item}
use Rattle.asn1_types.specs.declared.row.Part.{Part}
use Rattle.asn1_types.specs.declared.row.TypeRow.{TypeRow}
use Rattle.asn1_types.specs.declared.row.TypeRow.TheVariants as row
use Rattle.asn1_types.specs.declared.row.Tag as tags
use Rattle.asn1_types.specs.Rows.{is_no_tag, text_number}
use Rattle.asn1_types.specs.Tags.{rank, tag_or}
use Rattle.asn1_types.specs.Defaults.{may_be_absent}
use Rattle.asn1_types.specs.Rising.{behind_last}
use Rattle.asn1_types.specs.Value.{Value}
use Rattle.asn1_types.specs.Whole.{is_marked}
use Rattle.ber_spelling.specs.declared.fault.ReadFault.{ReadFault}
use Rattle.ber_spelling.specs.declared.fault.ReadFault.TheVariants.{NotSpelled}
use Rattle.ber_spelling.specs.declared.spot.Scope.{Scope}
use Rattle.ber_spelling.specs.declared.spot.StringKind.{StringKind}
use Rattle.ber_spelling.specs.declared.spot.StringKind.TheVariants.{OfOctets, OfBits}
use Rattle.ber_spelling.specs.declared.spot.Gathered.{Gathered}
use Rattle.ber_spelling.specs.Reading.{Spot, Opened}
use Rattle.ber_spelling.specs.Order.{Filled}
use Rattle.ber_spelling.specs.Rules.{Guise, bare, plain, under, always, segment_tag, nothing, segment_rule, string_rule, whole_octets, whole_text, whole_bits, has_zero_bits, list_done, set_of_done, nothing_filled, set_done, is_free, anew}
use Rattle.ber_spelling.specs.Spelling.{Spelled, SegmentIs, ItemsAre, BooleanIs, IntegerIs, EnumeratedIs, NullIs, ObjectIdIs, IsOther, ListStep, SetItemStep, SetStep, IsWhole, ChoiceIs, AnyIs}
use Rattle.ber_faults.specs.Fields.{LengthFault, ExtentFault, AheadFault, Begins, ContentsEnd, Extends, Holds, Stands, IsWithin}

-- what is wrong behind an identifier, which was opened
abbrev pub Wrong : Type 1
Wrong = Scope → Opened → Spot → ReadFault → Type 0

-- the same of a value that stands under another tag, or as a part with a default
abbrev pub WrongAs : Type 1
WrongAs = Guise → Wrong

-- what is wrong in contents
abbrev pub WrongIn : Type 1
WrongIn = Scope → Spot → ReadFault → Type 0

-- the field at a place breaks a rule of this kind
abbrev pub IsAt : ℕ → Kind → ReadFault → Type 0
IsAt place kind f = f ≡ NotSpelled place kind

-- ---- tags

-- the identifier is of this tag and form
pub record IsOf (tag : tags.Tag) (constructed : Bool) (o : Opened) : Type 0 where
  pub class : o.class ≡ tag.class
  pub number : o.number ≡ tag.number
  pub small : tag.number < 2 ^ 32
  pub form : o.constructed ≡ constructed

-- ---- primitive values

-- no contents in BER, or contents in BER that are none in DER
abbrev pub RuleFault : (Bool → List ℕ → Type 0) → Bool → ℕ → List ℕ → ReadFault → Type 0
RuleFault P strict place contents f =
    ((P false contents → ⊥) × IsAt place Content f)
    ⊎ (P false contents × (strict ≡ true) × (P true contents → ⊥) × IsAt place Form f)

abbrev pub ContentsFault : (Bool → List ℕ → Type 0) → Scope → Spot → ReadFault → Type 0
ContentsFault P scope s f =
    LengthFault scope s.place s.rest f
    ⊎ ((place : ℕ) × (contents : List ℕ) × Holds scope s place contents × RuleFault P scope.strict place contents f)

abbrev pub PrimitiveFault : tags.Tag → (Bool → List ℕ → Type 0) → Wrong
PrimitiveFault tag P scope o s f =
    ((IsOf tag false o → ⊥) × IsAt o.start.place Tag f)
    ⊎ (IsOf tag false o × ContentsFault P scope s f)

-- ---- constructed values

-- a length of either form, and contents
abbrev pub BodyFault : WrongIn → Scope → Spot → ReadFault → Type 0
BodyFault Inside scope s f =
    ExtentFault scope s.place s.rest f
    ⊎ ((x : Scope) × (b : Spot) × Extends scope s x b × Inside x b f)

abbrev pub ConstructedFault : tags.Tag → WrongIn → Wrong
ConstructedFault tag Inside scope o s f =
    ((IsOf tag true o → ⊥) × IsAt o.start.place Tag f)
    ⊎ (IsOf tag true o × BodyFault Inside scope s f)

-- Values one after the other, each of which leads from one state to the next by P: what stands next is neither a value nor
-- the end; or the end stands where something lacks; or the next value has the fault; or it is right, and the fault is behind.
pub data ItemsFault {S T : Type 0} (P : S → Bool → ℕ → S → List ℕ → Type 0) (done : S → Option T) (W : S → Wrong) (scope : Scope) : S → Spot → ReadFault → Type 0 where
  item_ahead : (state : S) (at : Spot) (f : ReadFault) → AheadFault scope at.place at.rest f → ItemsFault P done W scope state at f
  item_lacks : (state : S) (at behind : Spot) (f : ReadFault) → ContentsEnd scope at behind → done state ≡ None → IsAt at.place Missing f → ItemsFault P done W scope state at f
  item_inside : (state : S) (at : Spot) (o : Opened) (s : Spot) (f : ReadFault) → Begins scope at o s → W state scope o s f → ItemsFault P done W scope state at f
  item_behind : (state next : S) (at to : Spot) (f : ReadFault) → Stands (P state) scope at next to → ItemsFault P done W scope next to f → ItemsFault P done W scope state at f

-- contents that are right up to and with what closes them
pub record Fills {A : Type 0} (P : Bool → ℕ → A → List ℕ → Type 0) (scope : Scope) (at : Spot) (v : A) : Type 0 where
  pub contents : List ℕ
  pub end : Spot
  pub behind : Spot
  pub parts : at.rest ≡ contents ++ end.rest
  pub onward : end.place ≡ at.place + length contents
  pub spelled : P scope.strict scope.levels v contents
  pub within : IsWithin scope end.place
  pub ends : ContentsEnd scope end behind

-- ---- strings (X.690 8.6, 8.7, 8.23)

abbrev pub every_state : {S : Type 0} → S → Option S
every_state s = Some s

-- contents of a segment, behind what was gathered before
abbrev pub SegmentContents : StringKind → Gathered → Bool → List ℕ → Type 0
SegmentContents kind before strict contents = (after : Gathered) × (segment_rule kind before contents ≡ Some after)

-- A segment is primitive, or has segments inside. Behind as many levels as there may be, none stands.
abbrev pub SegmentFault : StringKind → ℕ → Gathered → Wrong
SegmentFault kind zero before scope o s f = IsAt o.start.place Tag f
SegmentFault kind (suc depth) before scope o s f =
    ((o.constructed ≡ true) × ConstructedFault (segment_tag kind) (λ x b g. ItemsFault (SegmentIs kind depth) every_state (SegmentFault kind depth) x before b g) scope o s f)
    ⊎ ((o.constructed ≡ false) × PrimitiveFault (segment_tag kind) (SegmentContents kind before) scope o s f)

-- all segments of a string together
abbrev pub SegmentsAre : StringKind → Bool → ℕ → Gathered → List ℕ → Type 0
SegmentsAre kind strict levels g contents = ItemsAre every_state (SegmentIs kind most_levels) nothing strict levels g contents

-- A segment has the fault, or all are right and together break the rule of the string, which has the place of its identifier.
abbrev pub SegmentsFault : StringKind → (Gathered → Option Value) → ℕ → WrongIn
SegmentsFault kind whole place x b f =
    ItemsFault (SegmentIs kind most_levels) every_state (SegmentFault kind most_levels) x nothing b f
    ⊎ ((g : Gathered) × Fills (SegmentsAre kind) x b g × (whole g ≡ None) × IsAt place Content f)

abbrev pub StringContents : StringKind → (Gathered → Option Value) → (List ℕ → Bool) → Bool → List ℕ → Type 0
StringContents kind whole canonical strict contents = (v : Value) × (string_rule kind whole contents ≡ Some v) × (strict ≡ true → canonical contents ≡ true)

-- one segment, or in BER many (X.690 10.2)
abbrev pub StringFault : StringKind → (Gathered → Option Value) → (List ℕ → Bool) → tags.Tag → Wrong
StringFault kind whole canonical tag scope o s f =
    ((o.constructed ≡ false) × PrimitiveFault tag (StringContents kind whole canonical) scope o s f)
    ⊎ ((o.constructed ≡ true) × (((IsOf tag true o → ⊥) × IsAt o.start.place Tag f)
    ⊎ (IsOf tag true o × (((scope.strict ≡ true) × IsAt o.start.place Form f)
    ⊎ ((scope.strict ≡ false) × BodyFault (SegmentsFault kind whole o.start.place) scope s f)))))

-- ---- SEQUENCE OF and SET OF (X.690 8.10, 8.12, 11.6)

abbrev pub ListFault : Spelled → WrongAs → WrongIn
ListFault inner W x b f = ItemsFault (ListStep inner) list_done (λ before. W plain) x [] b f

-- an item has the fault, or in DER a whole one is less than the one before
abbrev pub SetItemFault : (Value → List ℕ) → Spelled → WrongAs → List Value → Wrong
SetItemFault spell inner W before scope o s f =
    W plain scope o s f
    ⊎ ((scope.strict ≡ true) × (v : Value) × (to : Spot) × Stands (inner plain) scope o.start v to × (behind_last spell before v ≡ false) × IsAt o.start.place Form f)

abbrev pub SetOfFault : (Value → List ℕ) → Spelled → WrongAs → WrongIn
SetOfFault spell inner W x b f = ItemsFault (SetItemStep spell inner) (set_of_done spell) (SetItemFault spell inner W) x [] b f

-- ---- an explicit tag (X.690 8.14): one value in constructed contents

-- behind the one value
abbrev pub CloseFault : WrongIn
CloseFault x to f = AheadFault x to.place to.rest f ⊎ ((o : Opened) × (s : Spot) × Begins x to o s × IsAt to.place Extra f)

abbrev pub OneFault : (Bool → ℕ → Value → List ℕ → Type 0) → Wrong → WrongIn
OneFault P W x b f =
    AheadFault x b.place b.rest f
    ⊎ (((behind : Spot) × ContentsEnd x b behind × IsAt b.place Missing f)
    ⊎ (((o : Opened) × (s : Spot) × Begins x b o s × W x o s f)
    ⊎ ((v : Value) × (to : Spot) × Stands P x b v to × CloseFault x to f)))

abbrev pub ExplicitFault : tags.Tag → (Bool → ℕ → Value → List ℕ → Type 0) → Wrong → Wrong
ExplicitFault tag P W = ConstructedFault tag (OneFault P W)

-- ---- SEQUENCE (X.690 8.9)

-- contents end here, or go on with a value that isn't of this part
abbrev pub IsNoPart : (ℕ → Class → ℕ → Bool) → Part → Scope → Spot → Type 0
IsNoPart begins p scope at =
    ((behind : Spot) × ContentsEnd scope at behind)
    ⊎ ((o : Opened) × (s : Spot) × Begins scope at o s × (begins p.inner.0 o.class o.number ≡ false))

-- The parts in the order of the notation: each is right or may be absent, up to the field that has the fault.
pub data PartsFault (begins : ℕ → Class → ℕ → Bool) (inner : ℕ → Spelled) (W : ℕ → WrongAs) (scope : Scope) : List Part → Spot → ReadFault → Type 0 where
  part_ahead : (ps : List Part) (at : Spot) (f : ReadFault) → AheadFault scope at.place at.rest f → PartsFault begins inner W scope ps at f
  part_extra : (at : Spot) (o : Opened) (s : Spot) (f : ReadFault) → Begins scope at o s → IsAt at.place Extra f → PartsFault begins inner W scope [] at f
  part_missing : (p : Part) (ps : List Part) (at : Spot) (f : ReadFault) → IsNoPart begins p scope at → may_be_absent p ≡ false → IsAt at.place Missing f
      → PartsFault begins inner W scope (p ∷ ps) at f
  part_inside : (p : Part) (ps : List Part) (at : Spot) (o : Opened) (s : Spot) (f : ReadFault) → Begins scope at o s → begins p.inner.0 o.class o.number ≡ true
      → W p.inner.0 (bare p.default) scope o s f → PartsFault begins inner W scope (p ∷ ps) at f
  part_left_out : (p : Part) (ps : List Part) (at : Spot) (f : ReadFault) → IsNoPart begins p scope at → may_be_absent p ≡ true
      → PartsFault begins inner W scope ps at f → PartsFault begins inner W scope (p ∷ ps) at f
  part_behind : (p : Part) (ps : List Part) (at : Spot) (v : Value) (to : Spot) (f : ReadFault) → Stands (inner p.inner.0 (bare p.default)) scope at v to
      → PartsFault begins inner W scope ps to f → PartsFault begins inner W scope (p ∷ ps) at f

-- ---- SET (X.690 8.11)

-- the identifier, as if no octet stood behind it
abbrev pub alone : Opened → Spot → Opened
alone o s = record { start = record { place = s.place; rest = [] }; class = o.class; constructed = o.constructed; number = o.number }

abbrev pub nothing_behind : Spot → Spot
nothing_behind s = record { place = s.place; rest = [] }

-- the identifier alone is already wrong for its part: its number is the part's, its form isn't
abbrev pub IsWrongAlone : Wrong → Scope → Opened → Spot → Type 0
IsWrongAlone W scope o s = (place : ℕ) × W scope (alone o s) (nothing_behind s) (NotSpelled place Tag)

-- a part that may not stand here has this kind of fault, unless its identifier has one of its own, which comes first
abbrev pub LateFault : Kind → Wrong → Wrong
LateFault kind W scope o s f =
    (IsWrongAlone W scope o s × IsAt o.start.place Tag f)
    ⊎ ((IsWrongAlone W scope o s → ⊥) × IsAt o.start.place kind f)

-- in DER the tags of the parts rise (X.690 10.3)
abbrev pub IsBehindOthers : Filled → Scope → Opened → Type 0
IsBehindOthers before scope o = scope.strict ≡ true → nat_lt (rank o.class o.number) before.least ≡ false

-- A part comes once, and in DER behind those of less rank.
abbrev pub FillFault : Wrong → ℕ → Filled → Wrong
FillFault W which before scope o s f =
    ((is_free (slice_get before.found which) ≡ false) × LateFault Extra W scope o s f)
    ⊎ ((is_free (slice_get before.found which) ≡ true)
    × (((scope.strict ≡ true) × (nat_lt (rank o.class o.number) before.least ≡ true) × LateFault Form W scope o s f)
    ⊎ (IsBehindOthers before scope o × W scope o s f)))

-- the part that begins with this identifier
abbrev pub SlotFault : (ℕ → Class → ℕ → Bool) → (ℕ → WrongAs) → ℕ → List Part → Filled → Wrong
SlotFault begins W which [] before scope o s f = IsAt o.start.place Extra f
SlotFault begins W which (p ∷ ps) before scope o s f =
    ((begins p.inner.0 o.class o.number ≡ true) × FillFault (W p.inner.0 (bare p.default)) which before scope o s f)
    ⊎ ((begins p.inner.0 o.class o.number ≡ false) × SlotFault begins W (suc which) ps before scope o s f)

abbrev pub SetFault : (ℕ → Class → ℕ → Bool) → (ℕ → Spelled) → (ℕ → WrongAs) → List Part → WrongIn
SetFault begins inner W ps x b f = ItemsFault (SetStep inner ps) (set_done ps) (SlotFault begins W 0 ps) x (nothing_filled ps) b f

-- ---- CHOICE (X.690 8.13)

abbrev pub ChoiceFault : (ℕ → Class → ℕ → Bool) → (ℕ → WrongAs) → List Part → Wrong
ChoiceFault begins W [] scope o s f = IsAt o.start.place Tag f
ChoiceFault begins W (p ∷ ps) scope o s f =
    ((begins p.inner.0 o.class o.number ≡ true) × W p.inner.0 plain scope o s f)
    ⊎ ((begins p.inner.0 o.class o.number ≡ false) × ChoiceFault begins W ps scope o s f)

-- ---- one whole value of any type (X.690 8.1)

-- one whole value, of so many levels at most
abbrev pub WholeStep : ℕ → Unit {0} → Bool → ℕ → Unit {0} → List ℕ → Type 0
WholeStep depth before strict levels after spelled = (0 < levels) × IsWhole depth spelled

-- A tag, and a length with so many octets, or whole values up to a mark. Levels are its own, and no form is at fault.
abbrev pub WholeFault : ℕ → Wrong
WholeFault zero scope o s f = IsAt o.start.place Tag f
WholeFault (suc depth) scope o s f =
    ((is_no_tag o.class o.number ≡ true) × IsAt o.start.place Tag f)
    ⊎ ((is_no_tag o.class o.number ≡ false)
    × (((is_marked s.rest ≡ true) × (o.constructed ≡ true) × BodyFault (λ x b g. ItemsFault (WholeStep depth) every_state (λ u. WholeFault depth) x tt b g) (anew (suc depth) scope) s f)
    ⊎ ((is_marked s.rest ≡ true → o.constructed ≡ false) × LengthFault (anew (suc depth) scope) s.place s.rest f)))

-- ---- each row, from what is wrong with values of the rows that it names

-- Over an untagged CHOICE or an `Any` each tag is explicit (X.680 31.2.7).
abbrev pub OrExplicitFault : (Bool → ℕ → Value → List ℕ → Type 0) → Wrong → Option tags.Tag → Wrong
OrExplicitFault P W None = W
OrExplicitFault P W (Some tag) = ExplicitFault tag P W

abbrev pub TaggedFault : Bool → Spelled → WrongAs → Class → ℕ → WrongAs
TaggedFault true inner W class number guise = ExplicitFault (tag_or guise.tag class number) (inner (bare guise.default)) (W (bare guise.default))
TaggedFault false inner W class number guise = W (under (Some (tag_or guise.tag class number)) guise.default)

-- contents of BOOLEAN, INTEGER and ENUMERATED; in DER they aren't the default's (X.690 11.5)
abbrev pub BooleanContents : Option ℤ → Bool → List ℕ → Type 0
BooleanContents default strict c = (v : Value) × BooleanIs strict v c × IsOther default strict v

abbrev pub IntegerContents : ℤ → ℤ → Option ℤ → Bool → List ℕ → Type 0
IntegerContents low high default strict c = (v : Value) × IntegerIs low high v c × IsOther default strict v

abbrev pub EnumeratedContents : List Item → Option ℤ → Bool → List ℕ → Type 0
EnumeratedContents items default strict c = (v : Value) × EnumeratedIs items v c × IsOther default strict v

abbrev pub NullContents : Bool → List ℕ → Type 0
NullContents strict c = (v : Value) × NullIs v c

abbrev pub ObjectIdContents : Bool → List ℕ → Type 0
ObjectIdContents strict c = (v : Value) × ObjectIdIs v c

-- from which tags begin values of the rows, how they are spelled in DER, in which relation, and what is wrong with them
abbrev pub RowFault : (ℕ → Class → ℕ → Bool) → (ℕ → Value → List ℕ) → (ℕ → Spelled) → (ℕ → WrongAs) → TypeRow → WrongAs
RowFault begins spell inner W row.Boolean guise = PrimitiveFault (tag_or guise.tag Universal 1) (BooleanContents guise.default)
RowFault begins spell inner W (row.Integer low high) guise = PrimitiveFault (tag_or guise.tag Universal 2) (IntegerContents low high guise.default)
RowFault begins spell inner W (row.Enumerated items) guise = PrimitiveFault (tag_or guise.tag Universal 10) (EnumeratedContents items guise.default)
RowFault begins spell inner W row.Null guise = PrimitiveFault (tag_or guise.tag Universal 5) NullContents
RowFault begins spell inner W (row.OctetString most) guise = StringFault OfOctets (whole_octets most) always (tag_or guise.tag Universal 4)
RowFault begins spell inner W row.BitString guise = StringFault OfBits whole_bits has_zero_bits (tag_or guise.tag Universal 3)
RowFault begins spell inner W row.ObjectId guise = PrimitiveFault (tag_or guise.tag Universal 6) ObjectIdContents
RowFault begins spell inner W (row.Text kind) guise = StringFault OfOctets (whole_text kind) always (tag_or guise.tag Universal (text_number kind))
RowFault begins spell inner W (row.Sequence ps) guise = ConstructedFault (tag_or guise.tag Universal 16) (λ x b f. PartsFault begins inner W x ps b f)
RowFault begins spell inner W (row.Set ps) guise = ConstructedFault (tag_or guise.tag Universal 17) (SetFault begins inner W ps)
RowFault begins spell inner W (row.SequenceOf of) guise = ConstructedFault (tag_or guise.tag Universal 16) (ListFault (inner of.0) (W of.0))
RowFault begins spell inner W (row.SetOf of) guise = ConstructedFault (tag_or guise.tag Universal 17) (SetOfFault (spell of.0) (inner of.0) (W of.0))
RowFault begins spell inner W (row.Choice ps) guise = OrExplicitFault (ChoiceIs inner ps) (ChoiceFault begins W ps) guise.tag
RowFault begins spell inner W (row.Tagged class number explicit of) guise = TaggedFault explicit (inner of.0) (W of.0) class number guise
RowFault begins spell inner W row.Any guise = OrExplicitFault (λ strict. AnyIs) (WholeFault most_levels) guise.tag
