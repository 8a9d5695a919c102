-- What each row is read as, from what the rows that it names are read as.
use Rattle.std.specs.Prelude.{ℕ, zero, suc, ◌+◌, ◌-◌, ◌^◌, ◌%◌, ℤ, Bool, true, false, not, ◌&&◌, ◌||◌, Option, Some, None, option_map, List, [], ◌∷◌, ◌++◌, length, take, drop, Ok, Err, nat_lt, nat_le, nat_eq, int_lt, slice_index, slice_get, slice_set, if◌then◌else◌}
use Rattle.osi_base.specs.declared.layer_words.Kind.{Kind}
use Rattle.osi_base.specs.declared.layer_words.Kind.TheVariants.{Tag, Missing, Extra, Content, Form}
use Rattle.osi_base.specs.Limits.{most_levels}
use Rattle.asn1_types.specs.declared.row.Class.{Class}
use Rattle.asn1_types.specs.declared.row.Class.TheVariants.{Universal}
use Rattle.asn1_types.specs.declared.row.Item.{Item}
use Rattle.asn1_types.specs.declared.row.Part.{Part}
use Rattle.asn1_types.specs.declared.row.TextKind.{TextKind}
use Rattle.asn1_types.specs.declared.row.TypeRow.{TypeRow}
use Rattle.asn1_types.specs.declared.row.TypeRow.TheVariants as row
use Rattle.asn1_types.specs.Rows.{along, begins, same_class, is_no_tag, text_number}
use Rattle.asn1_types.specs.Value.{Value, boolean, integer, null, octets, bits, object_id, text, parts, list, chosen, any}
use Rattle.asn1_types.specs.ValueView.{parts_of, values_of, empty_slots}
use Rattle.asn1_types.specs.Whole.{is_marked}
use Rattle.asn1_types.specs.Defaults.{is_item, may_be_absent, is_default, kept}
use Rattle.asn1_types.specs.Fits.{is_text, are_bits}
use Rattle.asn1_types.specs.Writing.{written}
use Rattle.asn1_types.specs.Rising.{behind_last, sorted}
use Rattle.ber_spelling.specs.declared.fault.ReadFault.TheVariants.{NotSpelled, Short}
use Rattle.ber_spelling.specs.declared.spot.Scope.{Scope}
use Rattle.asn1_types.specs.declared.row.Tag as tags
use Rattle.asn1_types.specs.Tags.{rank, tag_or}
use Rattle.ber_spelling.specs.declared.spot.StringKind.{StringKind}
use Rattle.ber_spelling.specs.declared.spot.StringKind.TheVariants.{OfOctets, OfBits}
use Rattle.ber_spelling.specs.declared.spot.StringRule.{StringRule}
use Rattle.ber_spelling.specs.declared.spot.StringRule.TheVariants.{Octets, Text, Bits}
use Rattle.ber_spelling.specs.declared.spot.Gathered.{Gathered}
use Rattle.ber_spelling.specs.Reading.{Spot, Opened, Ahead, ended, begun, Reading, ◌>>=◌, refuse}
use Rattle.ber_spelling.specs.Fields.{identifier_at, extent_at, contents_at, look_at}
use Rattle.ber_spelling.specs.Primitives.{integer_of, arcs_of}
use Rattle.ber_spelling.specs.Order.{Filled}

-- How a value of a row stands: under another tag, if one is given, and as a part with a default.
pub record Guise : Type 0 where
  pub tag : Option tags.Tag
  pub default : Option ℤ

-- under its row's own tag
abbrev pub bare : Option ℤ → Guise
bare default = record { tag = None; default = default }

abbrev pub plain : Guise
plain = bare None

abbrev pub under : Option tags.Tag → Option ℤ → Guise
under tag default = record { tag = tag; default = default }

-- Reads what stands behind an identifier.
abbrev pub Reader : Type 0
Reader = Guise → Scope → Opened → Spot → Reading (Value × Spot)

-- the identifier is of this tag and form (numbers past 32 bits are no tag's)
abbrev pub is_opened : tags.Tag → Bool → Opened → Bool
is_opened tag constructed opened =
    same_class opened.class tag.class && nat_eq opened.number tag.number && nat_lt tag.number (2 ^ 32) && (if constructed then opened.constructed else not opened.constructed)

abbrev pub expect_at : tags.Tag → Bool → Opened → Reading (Unit {0})
expect_at tag constructed opened = if is_opened tag constructed opened then Ok tt else refuse opened.start.place Tag

-- ---- primitive values

abbrev pub some_or_refuse : {A B : Type 0} → ℕ → (A → B) → Option A → Reading B
some_or_refuse place made None = refuse place Content
some_or_refuse place made (Some x) = Ok (made x)

-- what DER alone refuses
abbrev pub form_at : Scope → ℕ → Bool → Reading (Unit {0})
form_at scope place canonical = if scope.strict && not canonical then refuse place Form else Ok tt

-- contents that a rule takes, and that DER takes if they are canonical
unfoldable pub primitive_at : {A : Type 0} → (List ℕ → Option A) → (List ℕ → Bool) → tags.Tag → Scope → Opened → Spot → Reading (A × Spot)
primitive_at {A} rule canonical tag scope opened spot = do
  _ ← expect_at tag false opened
  c ← contents_at scope spot.place spot.rest
  found ← some_or_refuse c.0 (λ (x : A). x) (rule c.1)
  _ ← form_at scope c.0 (canonical c.1)
  Ok (found, c.2)

abbrev pub always : List ℕ → Bool
always contents = true

-- one octet, FALSE where it is zero (X.690 8.2)
abbrev pub boolean_rule : List ℕ → Option Value
boolean_rule [] = None
boolean_rule (octet ∷ []) = Some (boolean (not (nat_eq octet 0)))
boolean_rule (octet ∷ next ∷ more) = None

-- TRUE is FF (X.690 11.1)
abbrev pub is_strict_boolean : List ℕ → Bool
is_strict_boolean contents = nat_eq (slice_index contents 0) 0 || nat_eq (slice_index contents 0) 255

abbrev pub in_range : ℤ → ℤ → ℤ → Bool
in_range low high z = not (int_lt z low) && not (int_lt high z)

abbrev pub ranged : ℤ → ℤ → Option ℤ → Option Value
ranged low high None = None
ranged low high (Some z) = if in_range low high z then Some (integer z) else None

abbrev pub integer_rule : ℤ → ℤ → List ℕ → Option Value
integer_rule low high contents = ranged low high (integer_of contents)

abbrev pub listed : List Item → Option ℤ → Option Value
listed items None = None
listed items (Some z) = if is_item items z then Some (integer z) else None

-- X.690 8.4
abbrev pub enumerated_rule : List Item → List ℕ → Option Value
enumerated_rule items contents = listed items (integer_of contents)

-- in DER a part doesn't have its default's value (X.690 11.5)
abbrev pub is_other : Option ℤ → Option Value → Bool
is_other default None = true
is_other default (Some v) = not (is_default default v)

abbrev pub null_rule : List ℕ → Option Value
null_rule [] = Some null
null_rule (octet ∷ more) = None

abbrev pub object_id_rule : List ℕ → Option Value
object_id_rule contents = option_map object_id (arcs_of contents)

-- ---- constructed values

-- the identifier's tag, a length of either form, and the contents
abbrev pub constructed_at : {A : Type 0} → (Scope → Spot → Reading (A × Spot)) → tags.Tag → Scope → Opened → Spot → Reading (A × Spot)
constructed_at body tag scope opened spot = do
  _ ← expect_at tag true opened
  x ← extent_at scope spot.place spot.rest
  body x.0 x.1

-- what stands next in contents: their end, or one more value
abbrev pub finish : {T : Type 0} → ℕ → Option T → Reading T
finish place None = refuse place Missing
finish place (Some x) = Ok x

abbrev pub item_at : {S T : Type 0} → (S → Scope → Opened → Spot → Reading (S × Spot)) → (S → Option T) → (S → Spot → Reading (T × Spot)) → S → Scope → Ahead → Reading (T × Spot)
item_at step done more state scope (ended place after) = do
  x ← finish place (done state)
  Ok (x, after)
item_at step done more state scope (begun opened after) = do
  x ← step state scope opened after
  more x.0 x.1

-- Values one after the other up to the end of the contents. Each has an octet at least, so that as many turns as
-- there are octets, and one for the end, are enough.
unfoldable pub items_at : {S T : Type 0} → (S → Scope → Opened → Spot → Reading (S × Spot)) → (S → Option T) → ℕ → S → Scope → Spot → Reading (T × Spot)
items_at step done zero state scope spot = Err Short
items_at step done (suc turns) state scope spot = do
  a ← look_at scope spot.place spot.rest
  item_at step done (λ next after. items_at step done turns next scope after) state scope a

abbrev pub all_items_at : {S T : Type 0} → (S → Scope → Opened → Spot → Reading (S × Spot)) → (S → Option T) → S → Scope → Spot → Reading (T × Spot)
all_items_at step done state scope spot = items_at step done (suc (length spot.rest)) state scope spot

-- ---- strings, primitive or in segments (X.690 8.6, 8.7, 8.23)

abbrev pub segment_tag : StringKind → tags.Tag
segment_tag OfOctets = record { class = Universal; number = 4 }
segment_tag OfBits = record { class = Universal; number = 3 }

-- of bits the first octet says how many of the last octet are unused: 0 to 7, and none where there is no octet
abbrev pub is_segment : StringKind → List ℕ → Bool
is_segment OfOctets contents = true
is_segment OfBits [] = false
is_segment OfBits (unused ∷ []) = nat_eq unused 0
is_segment OfBits (unused ∷ first ∷ more) = nat_lt unused 8

abbrev pub nothing : Gathered
nothing = record { octets = []; unused = 0; spoiled = false }

-- One more segment. Only the last may have unused bits.
abbrev pub gathered : StringKind → Gathered → List ℕ → Gathered
gathered OfOctets before contents = record { octets = before.octets ++ contents; unused = before.unused; spoiled = before.spoiled }
gathered OfBits before contents =
    record { octets = before.octets ++ drop 1 contents; unused = slice_index contents 0; spoiled = before.spoiled || not (nat_eq before.unused 0) }

abbrev pub segment_rule : StringKind → Gathered → List ℕ → Option Gathered
segment_rule kind before contents = if is_segment kind contents then Some (gathered kind before contents) else None

-- a segment is primitive, or has segments inside
unfoldable pub segment_at : StringKind → ℕ → Gathered → Scope → Opened → Spot → Reading (Gathered × Spot)
segment_at kind zero before scope opened spot = refuse opened.start.place Tag
segment_at kind (suc depth) before scope opened spot =
    if opened.constructed then constructed_at (all_items_at (segment_at kind depth) (λ (g : Gathered). Some g) before) (segment_tag kind) scope opened spot
    else primitive_at (segment_rule kind before) always (segment_tag kind) scope opened spot

abbrev pub segments_at : StringKind → tags.Tag → Scope → Opened → Spot → Reading (Gathered × Spot)
segments_at kind tag = constructed_at (all_items_at (segment_at kind most_levels) (λ (g : Gathered). Some g) nothing) tag

-- in segments; not in DER (X.690 10.2)
unfoldable pub segmented_at : StringKind → (Gathered → Option Value) → tags.Tag → Scope → Opened → Spot → Reading (Value × Spot)
segmented_at kind whole tag scope opened spot = do
  _ ← expect_at tag true opened
  _ ← form_at scope opened.start.place false
  x ← extent_at scope spot.place spot.rest
  g ← all_items_at (segment_at kind most_levels) (λ (g : Gathered). Some g) nothing x.0 x.1
  v ← some_or_refuse opened.start.place (λ (v : Value). v) (whole g.0)
  Ok (v, g.1)

abbrev pub and_whole : (Gathered → Option Value) → Option Gathered → Option Value
and_whole whole None = None
and_whole whole (Some g) = whole g

abbrev pub string_rule : StringKind → (Gathered → Option Value) → List ℕ → Option Value
string_rule kind whole contents = and_whole whole (segment_rule kind nothing contents)

unfoldable pub string_at : StringKind → (Gathered → Option Value) → (List ℕ → Bool) → tags.Tag → Scope → Opened → Spot → Reading (Value × Spot)
string_at kind whole canonical tag scope opened spot =
    if opened.constructed then segmented_at kind whole tag scope opened spot else primitive_at (string_rule kind whole) canonical tag scope opened spot

abbrev pub whole_octets : ℕ → Gathered → Option Value
whole_octets most g = if nat_le (length g.octets) most then Some (octets g.octets) else None

abbrev pub whole_text : TextKind → Gathered → Option Value
whole_text kind g = if is_text kind g.octets then Some (text g.octets) else None

-- unused bits, the low ones of the last octet, count as zeros
abbrev pub cleared : ℕ → List ℕ → List ℕ
cleared unused os =
    if nat_eq (length os) 0 then os
    else slice_set os (length os - 1) (slice_index os (length os - 1) - slice_index os (length os - 1) % 2 ^ unused)

abbrev pub whole_bits : Gathered → Option Value
whole_bits g = if g.spoiled || nat_le 8 g.unused then None else Some (bits (cleared g.unused g.octets) g.unused)

-- unused bits are zero (X.690 11.2.1)
abbrev pub has_zero_bits : List ℕ → Bool
has_zero_bits contents = are_bits (drop 1 contents) (slice_index contents 0)

abbrev pub kind_of : StringRule → StringKind
kind_of (Octets most) = OfOctets
kind_of (Text kind) = OfOctets
kind_of Bits = OfBits

abbrev pub whole_by : StringRule → Gathered → Option Value
whole_by (Octets most) g = whole_octets most g
whole_by (Text kind) g = whole_text kind g
whole_by Bits g = whole_bits g

abbrev pub canonical_by : StringRule → List ℕ → Bool
canonical_by (Octets most) contents = true
canonical_by (Text kind) contents = true
canonical_by Bits contents = has_zero_bits contents

-- ---- SEQUENCE OF (X.690 8.10)

abbrev pub list_item_at : Reader → List Value → Scope → Opened → Spot → Reading (List Value × Spot)
list_item_at inner before scope opened spot = do
  v ← inner plain scope opened spot
  Ok (before ++ v.0 ∷ [], v.1)

abbrev pub list_done : List Value → Option Value
list_done vs = Some (list (values_of vs))

abbrev pub list_at : Reader → tags.Tag → Scope → Opened → Spot → Reading (Value × Spot)
list_at inner tag = constructed_at (all_items_at (list_item_at inner) list_done []) tag

-- ---- SET OF (X.690 8.12)

-- in DER the items rise (X.690 11.6); one is judged once it is whole
abbrev pub set_item_at : (Value → List ℕ) → Reader → List Value → Scope → Opened → Spot → Reading (List Value × Spot)
set_item_at spell inner before scope opened spot = do
  v ← inner plain scope opened spot
  _ ← form_at scope opened.start.place (behind_last spell before v.0)
  Ok (before ++ v.0 ∷ [], v.1)

-- items in any order are those in rising order
abbrev pub set_of_done : (Value → List ℕ) → List Value → Option Value
set_of_done spell vs = Some (list (values_of (sorted spell vs)))

abbrev pub set_of_at : (Value → List ℕ) → Reader → tags.Tag → Scope → Opened → Spot → Reading (Value × Spot)
set_of_at spell inner tag = constructed_at (all_items_at (set_item_at spell inner) (set_of_done spell) []) tag

-- ---- an explicit tag (X.690 8.14): one value in constructed contents

abbrev pub value_ahead : Ahead → Reading (Opened × Spot)
value_ahead (ended place after) = refuse place Missing
value_ahead (begun opened after) = Ok (opened, after)

abbrev pub end_ahead : Ahead → Reading Spot
end_ahead (ended place after) = Ok after
end_ahead (begun opened after) = refuse opened.start.place Extra

unfoldable pub open_at : tags.Tag → Scope → Opened → Spot → Reading (Scope × Opened × Spot)
open_at tag scope opened spot = do
  _ ← expect_at tag true opened
  x ← extent_at scope spot.place spot.rest
  a ← look_at x.0 x.1.place x.1.rest
  f ← value_ahead a
  Ok (x.0, f.0, f.1)

unfoldable pub close_at : Scope → Spot → Reading Spot
close_at scope spot = do
  a ← look_at scope spot.place spot.rest
  end_ahead a

unfoldable pub explicit_at : (Scope → Opened → Spot → Reading (Value × Spot)) → tags.Tag → Scope → Opened → Spot → Reading (Value × Spot)
explicit_at inner tag scope opened spot = do
  o ← open_at tag scope opened spot
  v ← inner o.0 o.1 o.2
  after ← close_at o.0 v.1
  Ok (v.0, after)

-- ---- SEQUENCE (X.690 8.9)

abbrev pub is_part : (ℕ → Class → ℕ → Bool) → Part → Ahead → Bool
is_part begins p (ended place after) = false
is_part begins p (begun opened after) = begins p.inner.0 opened.class opened.number

abbrev pub place_of : Ahead → ℕ
place_of (ended place after) = place
place_of (begun opened after) = opened.start.place

-- a part with its default's value is read as absent
abbrev pub present_at : Reader → Part → Scope → Ahead → Reading (Option Value × Ahead)
present_at inner p scope (ended place after) = refuse place Missing
present_at inner p scope (begun opened after) = do
  v ← inner (bare p.default) scope opened after
  a ← look_at scope v.1.place v.1.rest
  Ok (kept p v.0, a)

unfoldable pub part_at : (ℕ → Class → ℕ → Bool) → Reader → Part → Scope → Ahead → Reading (Option Value × Ahead)
part_at begins inner p scope ahead =
    if is_part begins p ahead then present_at inner p scope ahead
    else (if may_be_absent p then Ok (None, ahead) else refuse (place_of ahead) Missing)

unfoldable pub parts_at : (ℕ → Class → ℕ → Bool) → (ℕ → Reader) → Scope → Ahead → List Part → Reading (List (Option Value) × Spot)
parts_at begins inner scope ahead [] = do
  after ← end_ahead ahead
  Ok ([], after)
parts_at begins inner scope ahead (p ∷ ps) = do
  x ← part_at begins (inner p.inner.0) p scope ahead
  more ← parts_at begins inner scope x.1 ps
  Ok (x.0 ∷ more.0, more.1)

unfoldable pub sequence_at : (ℕ → Class → ℕ → Bool) → (ℕ → Reader) → List Part → tags.Tag → Scope → Opened → Spot → Reading (Value × Spot)
sequence_at begins inner ps tag scope opened spot = do
  _ ← expect_at tag true opened
  x ← extent_at scope spot.place spot.rest
  a ← look_at x.0 x.1.place x.1.rest
  found ← parts_at begins inner x.0 a ps
  Ok (parts (parts_of found.0), found.1)

-- ---- SET (X.690 8.11)

abbrev pub nothing_filled : List Part → Filled
nothing_filled ps = record { found = empty_slots ps; least = 0 }

abbrev pub stands : Part → Option Value → Bool
stands p None = may_be_absent p
stands p (Some v) = true

-- each part stands that may not be absent
abbrev pub is_filled : List Part → List (Option Value) → Bool
is_filled [] vs = true
is_filled (p ∷ ps) [] = false
is_filled (p ∷ ps) (o ∷ vs) = stands p o && is_filled ps vs

abbrev pub kept_of : Part → Option Value → Option Value
kept_of p None = None
kept_of p (Some v) = kept p v

-- a part with its default's value is absent
abbrev pub settled : List Part → List (Option Value) → List (Option Value)
settled [] vs = []
settled (p ∷ ps) [] = []
settled (p ∷ ps) (o ∷ vs) = kept_of p o ∷ settled ps vs

abbrev pub set_done : List Part → Filled → Option Value
set_done ps filled = if is_filled ps filled.found then Some (parts (parts_of (settled ps filled.found))) else None

-- an identifier as if no octet stood behind it: what is read of it is a fault of its own, or one behind it
abbrev pub alone : Opened → Spot → Opened
alone opened after = record { start = record { place = after.place; rest = [] }; class = opened.class; constructed = opened.constructed; number = opened.number }

abbrev pub cut_behind : Spot → Spot
cut_behind after = record { place = after.place; rest = [] }

-- the fault of a part that may not stand here: that of its identifier alone comes first
abbrev pub late_kind : Kind → Reading (Value × Spot) → Kind
late_kind kind (Err (NotSpelled place Tag)) = Tag
late_kind kind read = kind

abbrev pub late_at : {A : Type 0} → Kind → (Scope → Opened → Spot → Reading (Value × Spot)) → Scope → Opened → Spot → Reading A
late_at kind inner scope opened spot = refuse opened.start.place (late_kind kind (inner scope (alone opened spot) (cut_behind spot)))

-- in DER the tags of the parts rise (X.690 10.3)
abbrev pub ordered_at : (Scope → Opened → Spot → Reading (Value × Spot)) → ℕ → Scope → Opened → Spot → Reading (Value × Spot)
ordered_at inner least scope opened spot =
    if scope.strict && nat_lt (rank opened.class opened.number) least then late_at Form inner scope opened spot else inner scope opened spot

abbrev pub is_free : Option (Option Value) → Bool
is_free (Some None) = true
is_free slot = false

abbrev pub filled_by : ℕ → Opened → Filled → Value → Filled
filled_by which opened before v = record { found = slice_set before.found which (Some v); least = rank opened.class opened.number + 1 }

-- a part comes once
abbrev pub fill_at : (Scope → Opened → Spot → Reading (Value × Spot)) → ℕ → Filled → Scope → Opened → Spot → Reading (Filled × Spot)
fill_at inner which before scope opened spot =
    if is_free (slice_get before.found which) then (do
      v ← ordered_at inner before.least scope opened spot
      Ok (filled_by which opened before v.0, v.1))
    else late_at Extra inner scope opened spot

-- the part that begins with this identifier, whose slot is free
unfoldable pub slot_at : (ℕ → Class → ℕ → Bool) → (ℕ → Reader) → ℕ → List Part → Filled → Scope → Opened → Spot → Reading (Filled × Spot)
slot_at begins inner which [] before scope opened spot = refuse opened.start.place Extra
slot_at begins inner which (p ∷ ps) before scope opened spot =
    if begins p.inner.0 opened.class opened.number then fill_at (inner p.inner.0 (bare p.default)) which before scope opened spot
    else slot_at begins inner (suc which) ps before scope opened spot

abbrev pub set_at : (ℕ → Class → ℕ → Bool) → (ℕ → Reader) → List Part → tags.Tag → Scope → Opened → Spot → Reading (Value × Spot)
set_at begins inner ps tag = constructed_at (all_items_at (slot_at begins inner 0 ps) (set_done ps) (nothing_filled ps)) tag

-- ---- CHOICE (X.690 8.13)

unfoldable pub choice_at : (ℕ → Class → ℕ → Bool) → (ℕ → Reader) → ℕ → List Part → Scope → Opened → Spot → Reading (Value × Spot)
choice_at begins inner which [] scope opened spot = refuse opened.start.place Tag
choice_at begins inner which (p ∷ ps) scope opened spot =
    if begins p.inner.0 opened.class opened.number then (do
      v ← inner p.inner.0 plain scope opened spot
      Ok (chosen which v.0, v.1))
    else choice_at begins inner (suc which) ps scope opened spot

-- ---- one whole value of any type (X.690 8.1)

-- its levels are its own, and it has no fault of kind Form
abbrev pub anew : ℕ → Scope → Scope
anew levels scope = record { levels = levels; limit = scope.limit; end = scope.end; marked = scope.marked; strict = false }

-- a definite length, and that many octets (X.690 8.1.3.3)
abbrev pub sized_at : Scope → Spot → Reading (Unit {0} × Spot)
sized_at scope spot = do
  c ← contents_at scope spot.place spot.rest
  Ok (tt, c.2)

-- an indefinite length, and contents (X.690 8.1.3.6)
abbrev pub marked_at : (Scope → Spot → Reading (Unit {0} × Spot)) → Scope → Spot → Reading (Unit {0} × Spot)
marked_at body scope spot = do
  x ← extent_at scope spot.place spot.rest
  body x.0 x.1

-- A value is sized, or constructed of whole values up to end-of-contents.
unfoldable pub whole_at : ℕ → Unit {0} → Scope → Opened → Spot → Reading (Unit {0} × Spot)
whole_at zero before scope opened spot = refuse opened.start.place Tag
whole_at (suc inner) before scope opened spot =
    if is_no_tag opened.class opened.number then refuse opened.start.place Tag
    else (if is_marked spot.rest && opened.constructed then marked_at (all_items_at (whole_at inner) (λ (u : Unit {0}). Some u) tt) (anew (suc inner) scope) spot
    else sized_at (anew (suc inner) scope) spot)

-- levels are counted from 1 on
unfoldable pub any_at : Scope → Opened → Spot → Reading (Value × Spot)
any_at scope opened spot = do
  w ← whole_at most_levels tt scope opened spot
  Ok (any (take (length opened.start.rest - length w.1.rest) opened.start.rest), w.1)

-- ---- each row

abbrev pub dead : Reader
dead guise scope opened spot = refuse opened.start.place Tag

abbrev pub or_explicit : (Scope → Opened → Spot → Reading (Value × Spot)) → Option tags.Tag → Scope → Opened → Spot → Reading (Value × Spot)
or_explicit inner None = inner
or_explicit inner (Some tag) = explicit_at inner tag

abbrev pub tagged_at : Bool → Reader → Class → ℕ → Reader
tagged_at true inner class number guise = explicit_at (inner (bare guise.default)) (tag_or guise.tag class number)
tagged_at false inner class number guise = inner (under (Some (tag_or guise.tag class number)) guise.default)

abbrev pub read_by : (ℕ → Class → ℕ → Bool) → (ℕ → Value → List ℕ) → (ℕ → Reader) → TypeRow → Reader
read_by begins spell inner row.Boolean guise = primitive_at boolean_rule (λ c. is_strict_boolean c && is_other guise.default (boolean_rule c)) (tag_or guise.tag Universal 1)
read_by begins spell inner (row.Integer low high) guise = primitive_at (integer_rule low high) (λ c. is_other guise.default (integer_rule low high c)) (tag_or guise.tag Universal 2)
read_by begins spell inner (row.Enumerated items) guise = primitive_at (enumerated_rule items) (λ c. is_other guise.default (enumerated_rule items c)) (tag_or guise.tag Universal 10)
read_by begins spell inner row.Null guise = primitive_at null_rule always (tag_or guise.tag Universal 5)
read_by begins spell inner (row.OctetString most) guise = string_at OfOctets (whole_octets most) always (tag_or guise.tag Universal 4)
read_by begins spell inner row.BitString guise = string_at OfBits whole_bits has_zero_bits (tag_or guise.tag Universal 3)
read_by begins spell inner row.ObjectId guise = primitive_at object_id_rule always (tag_or guise.tag Universal 6)
read_by begins spell inner (row.Text kind) guise = string_at OfOctets (whole_text kind) always (tag_or guise.tag Universal (text_number kind))
read_by begins spell inner (row.Sequence ps) guise = sequence_at begins inner ps (tag_or guise.tag Universal 16)
read_by begins spell inner (row.Set ps) guise = set_at begins inner ps (tag_or guise.tag Universal 17)
read_by begins spell inner (row.SequenceOf of) guise = list_at (inner of.0) (tag_or guise.tag Universal 16)
read_by begins spell inner (row.SetOf of) guise = set_of_at (spell of.0) (inner of.0) (tag_or guise.tag Universal 17)
read_by begins spell inner (row.Choice ps) guise = or_explicit (choice_at begins inner 0 ps) guise.tag
read_by begins spell inner (row.Tagged class number explicit of) guise = tagged_at explicit (inner of.0) class number guise
read_by begins spell inner row.Any guise = or_explicit any_at guise.tag

unfoldable pub reads : List TypeRow → ℕ → Reader
reads rows n = along dead (read_by (begins rows) (written rows)) rows (length rows) n

-- a whole value, from its identifier on
unfoldable pub value_at : List TypeRow → ℕ → Scope → ℕ → List ℕ → Reading (Value × Spot)
value_at rows n scope place rest = do
  x ← identifier_at scope place rest
  reads rows n plain scope x.0 x.1

abbrev pub outermost : ℕ → Bool → Scope
outermost limit strict = record { levels = most_levels; limit = limit; end = None; marked = false; strict = strict }

-- what all octets are read as: a value and how many octets it has
unfoldable pub read_at : List TypeRow → ℕ → Bool → ℕ → List ℕ → Reading (Value × ℕ)
read_at rows n strict limit bytes = do
  x ← value_at rows n (outermost limit strict) 0 bytes
  Ok (x.0, x.1.place)
