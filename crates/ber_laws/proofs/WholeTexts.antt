-- What spells a value in BER is one whole value of any type.
use Rattle.std.proofs.Common.{◌≡◌, ℕ, zero, suc, ◌+◌, Bool, true, false, List, [], ◌∷◌, ◌++◌, length, Option, Some, None, refl, sym, subst, arith, inl, inr}
use Rattle.std.specs.Prelude.{slice_get}
use Rattle.std.proofs.lemmas.List.{append-nil}
use Rattle.osi_base.specs.Limits.{most_levels}
use Rattle.asn1_types.specs.declared.row.Class.TheVariants.{Universal}
use Rattle.asn1_types.specs.declared.row.Part.{Part}
use Rattle.asn1_types.specs.declared.row.TypeRow.{TypeRow}
use Rattle.asn1_types.specs.declared.row.TypeRow.TheVariants as row
use Rattle.asn1_types.specs.declared.row.Tag as tags
use Rattle.asn1_types.specs.Rows.{is_no_tag, text_number}
use Rattle.asn1_types.specs.Table.{AreSoundRows, is_bad_range}
use Rattle.asn1_types.specs.Tags.{tag_or}
use Rattle.asn1_types.specs.Value.{Value, boolean, integer, null, octets, bits, object_id, text, parts, list, chosen, any, MaybeValues, no_parts, absent, present}
use Rattle.asn1_types.specs.Writing.{written}
use Rattle.asn1_types.proofs.Sound.{sound_row}
use Rattle.ber_spelling.specs.declared.spot.StringKind.{StringKind}
use Rattle.ber_spelling.specs.declared.spot.StringKind.TheVariants.{OfOctets, OfBits}
use Rattle.ber_spelling.specs.declared.spot.Gathered.{Gathered}
use Rattle.ber_spelling.specs.Rules.{Guise, bare, plain, under, always, segment_tag, segment_rule, string_rule, nothing, whole_octets, whole_text, whole_bits, has_zero_bits, nothing_filled}
use Rattle.ber_spelling.specs.Spelling.{IsLength, IsDefinite, IsIndefinite, IsPrimitive, IsConstructed, AreAll, IsWhole, Spelled, Steps, ItemsAre, SegmentIs, StringIs, PartIs, PartsAre, SequenceIs, ListStep, ListIs, SetItemStep, SetOfIs, SetStep, SetIs, ChoiceIs, OrExplicit, BooleanIs, IntegerIs, EnumeratedIs, NullIs, ObjectIdIs, IsOther, AnyIs, RowIs, RowOr, SpelledBy, Spells}
use Rattle.ber_spelling.proofs.Lax.{lax_length}
use Rattle.ber_spelling.proofs.RowLaws.{OkTag, tag_ok, text_tag}
use Rattle.ber_laws.specs.Values.{IsValue}
use Rattle.ber_laws.specs.Laws.{SpelledIsValue}

-- ---- more levels do no harm

all_map : (P Q : List ℕ → Type 0) → ((s : List ℕ) → P s → Q s) → (values : List (List ℕ)) (contents : List ℕ) → AreAll P values contents → AreAll Q values contents
all_map P Q f [] contents h = h
all_map P Q f (s ∷ more) contents h = (h.0, h.1, f s h.2, all_map P Q f more h.0 h.3)

one_more : (levels : ℕ) (s : List ℕ) → IsWhole levels s → IsWhole (suc levels) s
one_more zero s h = absurd h
one_more (suc inner) s (inl h) = inl h
one_more (suc inner) s (inr h) = inr (record {
  class = h.class;
  number = h.number;
  is_tag = h.is_tag;
  head = h.head;
  values = h.values;
  contents = h.contents;
  is_identifier = h.is_identifier;
  holds = all_map (IsWhole inner) (IsWhole (suc inner)) (one_more inner) h.values h.contents h.holds;
  are = h.are;
})

more_levels : (others levels : ℕ) (s : List ℕ) → IsWhole levels s → IsWhole (others + levels) s
more_levels zero levels s h = let same : levels ≡ 0 + levels = omega arith in subst (λ (n : ℕ). IsWhole n s) same h
more_levels (suc others) levels s h =
    let next : suc (others + levels) ≡ suc others + levels = omega arith in
    subst (λ (n : ℕ). IsWhole n s) next (one_more (others + levels) s (more_levels others levels s h))

-- values of several levels are all of one number of levels
together : (values : List (List ℕ)) (contents : List ℕ) → AreAll IsValue values contents → (levels : ℕ) × AreAll (IsWhole levels) values contents
together [] contents h = (0, h)
together (s ∷ more) contents h =
    let later = together more h.0 h.3 in
    let all : ℕ = h.2.0 + later.0 in
    let swap : later.0 + h.2.0 ≡ all = omega arith in (
      all,
      (h.0, h.1, subst (λ (n : ℕ). IsWhole n s) swap (more_levels later.0 h.2.0 s h.2.1), all_map (IsWhole later.0) (IsWhole all) (λ t w. more_levels h.2.0 later.0 t w) more h.0 later.1),
    )

-- ---- values of either form

abbrev AreValues : List ℕ → Type 0
AreValues contents = (values : List (List ℕ)) × AreAll IsValue values contents

none_before : AreValues []
none_before = ([], refl)

pub one_before : (s others : List ℕ) → IsValue s → AreValues others → AreValues (s ++ others)
one_before s others is h = (s ∷ h.0, (others, refl, is, h.1))

pub any_length : (strict : Bool) (size : List ℕ) (n : ℕ) → IsLength strict size n → IsLength false size n
any_length true size n h = lax_length size n h
any_length false size n h = h

module _ (strict : Bool) (tag : tags.Tag) (ok : is_no_tag tag.class tag.number ≡ false) where
  definite_value : (constructed : Bool) (P : List ℕ → Type 0) (s : List ℕ) → IsDefinite strict constructed tag P s → IsValue s
  definite_value constructed P s d = (
    1,
    inl (record {
      class = tag.class;
      constructed = constructed;
      number = tag.number;
      is_tag = ok;
      head = d.head;
      size = d.size;
      contents = d.contents;
      is_identifier = d.is_identifier;
      is_length = any_length strict d.size (length d.contents) d.is_length;
      are = d.are;
    }),
  )

  primitive_value : (levels : ℕ) (P : List ℕ → Type 0) (s : List ℕ) → IsPrimitive tag strict levels P s → IsValue s
  primitive_value levels P s p = definite_value false P s p.form

  marked_value : (P : List ℕ → Type 0) (s : List ℕ) → ((c : List ℕ) → P c → AreValues c) → IsIndefinite tag P s → IsValue s
  marked_value P s each i =
      let inside = each i.contents i.holds in
      let all = together inside.0 i.contents inside.1 in (
        suc all.0,
        inr (record {
          class = tag.class;
          number = tag.number;
          is_tag = ok;
          head = i.head;
          values = inside.0;
          contents = i.contents;
          is_identifier = i.is_identifier;
          holds = all.1;
          are = i.are;
        }),
      )

  constructed_value : (levels : ℕ) (P : ℕ → List ℕ → Type 0) (s : List ℕ) → ((l : ℕ) (c : List ℕ) → P l c → AreValues c) → IsConstructed tag strict levels P s → IsValue s
  constructed_value levels P s each p =
      elim p.form [
        | inl d ↦ definite_value true (P p.inner) s d
        | inr i ↦ marked_value (P p.inner) s (each p.inner) i.1
      ]

-- ---- values one after the other

steps_values : {S : Type 0} (step : S → S → List ℕ → Type 0) → ((a b : S) (s : List ℕ) → step a b s → IsValue s) → (steps : List (List ℕ × S)) (first last : S) (contents : List ℕ)
    → Steps step steps first last contents → AreValues contents
steps_values step each [] first last contents h = subst AreValues (sym h.1) none_before
steps_values step each (s ∷ more) first last contents h =
    subst AreValues (sym h.1) (one_before s.0 h.0 (each first s.1 s.0 h.2) (steps_values step each more s.1 last h.0 h.3))

items_values : {S T : Type 0} (done : S → Option T) (step : S → Bool → ℕ → S → List ℕ → Type 0) (first : S) (strict : Bool) → ((a b : S) (levels : ℕ) (s : List ℕ) → step a strict levels b s → IsValue s)
    → (levels : ℕ) (v : T) (contents : List ℕ) → ItemsAre done step first strict levels v contents → AreValues contents
items_values done step first strict each levels v contents h = steps_values (λ a b s. step a strict levels b s) (λ a b s p. each a b levels s p) h.2 first h.0 contents h.3

one_value : (s : List ℕ) → IsValue s → AreValues s
one_value s is = subst AreValues (append-nil s) (one_before s [] is none_before)

-- ---- strings

segment_ok : (kind : StringKind) → is_no_tag (segment_tag kind).class (segment_tag kind).number ≡ false
segment_ok OfOctets = refl
segment_ok OfBits = refl

pub segment_value : (kind : StringKind) (strict : Bool) (depth : ℕ) (before after : Gathered) (levels : ℕ) (s : List ℕ) → SegmentIs kind depth before strict levels after s → IsValue s
segment_value kind strict zero before after levels s h = absurd h
segment_value kind strict (suc depth) before after levels s (inl p) =
    primitive_value strict (segment_tag kind) (segment_ok kind) levels (λ c. segment_rule kind before c ≡ Some after) s p
segment_value kind strict (suc depth) before after levels s (inr p) =
    constructed_value strict (segment_tag kind) (segment_ok kind) levels (λ inner c. ItemsAre (λ (g : Gathered). Some g) (SegmentIs kind depth) before strict inner after c) s
    (λ l c h. items_values (λ (g : Gathered). Some g) (SegmentIs kind depth) before strict (λ a b n t q. segment_value kind strict depth a b n t q) l after c h) p

string_value : (kind : StringKind) (whole : Gathered → Option Value) (canonical : List ℕ → Bool) (strict : Bool) (tag : tags.Tag) (levels : ℕ) (v : Value) (s : List ℕ) → is_no_tag tag.class tag.number ≡ false
    → StringIs kind whole canonical tag strict levels v s → IsValue s
string_value kind whole canonical strict tag levels v s ok (inl p) = primitive_value strict tag ok levels (λ c. (string_rule kind whole c ≡ Some v) × (strict ≡ true → canonical c ≡ true)) s p
string_value kind whole canonical strict tag levels v s ok (inr p) =
    constructed_value strict tag ok levels (λ inner c. ItemsAre (λ (g : Gathered). Some g) (SegmentIs kind most_levels) nothing strict inner p.1 c) s
    (λ l c h. items_values (λ (g : Gathered). Some g) (SegmentIs kind most_levels) nothing strict (λ a b n t q. segment_value kind strict most_levels a b n t q) l p.1 c h) p.3

-- ---- rows

-- what holds of a row: each spelling under a tag that isn't UNIVERSAL 0 is one whole value
pub record AreWhole (rel : Spelled) : Type 0 where
  pub is : (t : Guise) (strict : Bool) (levels : ℕ) (v : Value) (s : List ℕ) → OkTag t.tag → rel t strict levels v s → IsValue s

pub any_value : (levels : ℕ) (v : Value) (s : List ℕ) → AnyIs levels v s → IsValue s
any_value levels (any os) s p = (most_levels, subst (IsWhole most_levels) (sym p.1) p.2)
any_value levels (boolean x) s p = absurd p
any_value levels (integer x) s p = absurd p
any_value levels null s p = absurd p
any_value levels (octets x) s p = absurd p
any_value levels (bits x n) s p = absurd p
any_value levels (object_id x) s p = absurd p
any_value levels (text x) s p = absurd p
any_value levels (parts x) s p = absurd p
any_value levels (list x) s p = absurd p
any_value levels (chosen n x) s p = absurd p

explicit_value : (P : Bool → ℕ → Value → List ℕ → Type 0) (strict : Bool) → ((levels : ℕ) (v : Value) (s : List ℕ) → P strict levels v s → IsValue s) → (t : tags.Tag) (levels : ℕ) (v : Value) (s : List ℕ)
    → is_no_tag t.class t.number ≡ false → IsConstructed t strict levels (λ inner contents. P strict inner v contents) s → IsValue s
explicit_value P strict each t levels v s ok p = constructed_value strict t ok levels (λ inner contents. P strict inner v contents) s (λ l c h. one_value c (each l v c h)) p

or_value : (P : Bool → ℕ → Value → List ℕ → Type 0) (strict : Bool) → ((levels : ℕ) (v : Value) (s : List ℕ) → P strict levels v s → IsValue s) → (t : Option tags.Tag) (levels : ℕ) (v : Value) (s : List ℕ)
    → OkTag t → OrExplicit P t strict levels v s → IsValue s
or_value P strict each None levels v s ok p = each levels v s p
or_value P strict each (Some t) levels v s ok p = explicit_value P strict each t levels v s ok p

module _ (spell : ℕ → Value → List ℕ) (rel : ℕ → Spelled) (each : (m : ℕ) → AreWhole (rel m)) where
  part_values : (strict : Bool) (levels : ℕ) (p : Part) (o : Option Value) (s others : List ℕ) → PartIs (rel p.inner.0) strict levels p o s → AreValues others → AreValues (s ++ others)
  part_values strict levels p o s others (inl h) later = subst (λ (t : List ℕ). AreValues (t ++ others)) (sym h.2) later
  part_values strict levels p o s others (inr h) later = one_before s others ((each p.inner.0).is (bare p.default) strict levels h.0 s tt h.2) later

  parts_values : (strict : Bool) (levels : ℕ) (ps : List Part) (vs : MaybeValues) (c : List ℕ) → PartsAre rel strict levels ps vs c → AreValues c
  parts_values strict levels [] no_parts c h = subst AreValues (sym h) none_before
  parts_values strict levels [] (absent vs) c h = absurd h
  parts_values strict levels [] (present v vs) c h = absurd h
  parts_values strict levels (p ∷ ps) no_parts c h = absurd h
  parts_values strict levels (p ∷ ps) (absent vs) c h =
      subst AreValues (sym h.2) (part_values strict levels p None h.0 h.1 h.3 (parts_values strict levels ps vs h.1 h.4))
  parts_values strict levels (p ∷ ps) (present v vs) c h =
      subst AreValues (sym h.2) (part_values strict levels p (Some v) h.0 h.1 h.3 (parts_values strict levels ps vs h.1 h.4))

  sequence_values : (strict : Bool) (ps : List Part) (v : Value) (levels : ℕ) (c : List ℕ) → SequenceIs rel strict ps v levels c → AreValues c
  sequence_values strict ps (parts vs) levels c h = parts_values strict levels ps vs c h
  sequence_values strict ps (boolean x) levels c h = absurd h
  sequence_values strict ps (integer x) levels c h = absurd h
  sequence_values strict ps null levels c h = absurd h
  sequence_values strict ps (octets x) levels c h = absurd h
  sequence_values strict ps (bits x n) levels c h = absurd h
  sequence_values strict ps (object_id x) levels c h = absurd h
  sequence_values strict ps (text x) levels c h = absurd h
  sequence_values strict ps (list x) levels c h = absurd h
  sequence_values strict ps (chosen n x) levels c h = absurd h
  sequence_values strict ps (any x) levels c h = absurd h

  pub chosen_value : (ps : List Part) (strict : Bool) (levels : ℕ) (v : Value) (s : List ℕ) → ChoiceIs rel ps strict levels v s → IsValue s
  chosen_value ps strict levels (chosen which v) s p = (each p.0.inner.0).is plain strict levels v s tt p.2
  chosen_value ps strict levels (boolean x) s p = absurd p
  chosen_value ps strict levels (integer x) s p = absurd p
  chosen_value ps strict levels null s p = absurd p
  chosen_value ps strict levels (octets x) s p = absurd p
  chosen_value ps strict levels (bits x n) s p = absurd p
  chosen_value ps strict levels (object_id x) s p = absurd p
  chosen_value ps strict levels (text x) s p = absurd p
  chosen_value ps strict levels (parts x) s p = absurd p
  chosen_value ps strict levels (list x) s p = absurd p
  chosen_value ps strict levels (any x) s p = absurd p

  row_value : (r : TypeRow) → is_bad_range r ≡ false → (t : Guise) (strict : Bool) (levels : ℕ) (v : Value) (s : List ℕ) → OkTag t.tag → RowIs spell rel r t strict levels v s → IsValue s
  row_value row.Boolean good t strict levels v s ok p = primitive_value strict (tag_or t.tag Universal 1) (tag_ok t.tag Universal 1 ok refl) levels (λ c. BooleanIs strict v c × IsOther t.default strict v) s p
  row_value (row.Integer low high) good t strict levels v s ok p = primitive_value strict (tag_or t.tag Universal 2) (tag_ok t.tag Universal 2 ok refl) levels (λ c. IntegerIs low high v c × IsOther t.default strict v) s p
  row_value (row.Enumerated items) good t strict levels v s ok p = primitive_value strict (tag_or t.tag Universal 10) (tag_ok t.tag Universal 10 ok refl) levels (λ c. EnumeratedIs items v c × IsOther t.default strict v) s p
  row_value row.Null good t strict levels v s ok p = primitive_value strict (tag_or t.tag Universal 5) (tag_ok t.tag Universal 5 ok refl) levels (NullIs v) s p
  row_value (row.OctetString most) good t strict levels v s ok p = string_value OfOctets (whole_octets most) always strict (tag_or t.tag Universal 4) levels v s (tag_ok t.tag Universal 4 ok refl) p
  row_value row.BitString good t strict levels v s ok p = string_value OfBits whole_bits has_zero_bits strict (tag_or t.tag Universal 3) levels v s (tag_ok t.tag Universal 3 ok refl) p
  row_value row.ObjectId good t strict levels v s ok p = primitive_value strict (tag_or t.tag Universal 6) (tag_ok t.tag Universal 6 ok refl) levels (ObjectIdIs v) s p
  row_value (row.Text kind) good t strict levels v s ok p = string_value OfOctets (whole_text kind) always strict (tag_or t.tag Universal (text_number kind)) levels v s (tag_ok t.tag Universal (text_number kind) ok (text_tag kind)) p
  row_value (row.Sequence ps) good t strict levels v s ok p =
      constructed_value strict (tag_or t.tag Universal 16) (tag_ok t.tag Universal 16 ok refl) levels (SequenceIs rel strict ps v) s (λ l c h. sequence_values strict ps v l c h) p
  row_value (row.Set ps) good t strict levels v s ok p =
      constructed_value strict (tag_or t.tag Universal 17) (tag_ok t.tag Universal 17 ok refl) levels (SetIs rel ps strict v) s
      (λ l c h. items_values _ (SetStep rel ps) (nothing_filled ps) strict (λ a b n u q. (each q.1.inner.0).is (bare q.1.default) strict n q.2 u tt q.5) l v c h) p
  row_value (row.SequenceOf of) good t strict levels v s ok p =
      constructed_value strict (tag_or t.tag Universal 16) (tag_ok t.tag Universal 16 ok refl) levels (ListIs (rel of.0) strict v) s
      (λ l c h. items_values _ (ListStep (rel of.0)) [] strict (λ a b n u q. (each of.0).is plain strict n q.0 u tt q.2) l v c h) p
  row_value (row.SetOf of) good t strict levels v s ok p =
      constructed_value strict (tag_or t.tag Universal 17) (tag_ok t.tag Universal 17 ok refl) levels (SetOfIs (spell of.0) (rel of.0) strict v) s
      (λ l c h. items_values _ (SetItemStep (spell of.0) (rel of.0)) [] strict (λ a b n u q. (each of.0).is plain strict n q.0 u tt q.2) l v c h) p
  row_value (row.Choice ps) good t strict levels v s ok p = or_value (ChoiceIs rel ps) strict (chosen_value ps strict) t.tag levels v s ok p
  row_value (row.Tagged class number true of) good t strict levels v s ok p =
      explicit_value (rel of.0 (bare t.default)) strict (λ l w u q. (each of.0).is (bare t.default) strict l w u tt q) (tag_or t.tag class number) levels v s (tag_ok t.tag class number ok good) p
  row_value (row.Tagged class number false of) good t strict levels v s ok p = (each of.0).is (under (Some (tag_or t.tag class number)) t.default) strict levels v s (tag_ok t.tag class number ok good) p
  row_value row.Any good t strict levels v s ok p = or_value (λ b. AnyIs) strict any_value t.tag levels v s ok p

module _ (rows : List TypeRow) (sound : AreSoundRows rows) where
  pub all_whole : (turns n : ℕ) → AreWhole (SpelledBy rows turns n)
  all_whole zero n = record { is = λ t strict levels v s ok p. absurd p }
  all_whole (suc turns) n = record { is = by_row (slice_get rows n) refl (λ m. all_whole turns m) }
    where
      by_row : (o : Option TypeRow) → slice_get rows n ≡ o → ((m : ℕ) → AreWhole (SpelledBy rows turns m)) → (t : Guise) (strict : Bool) (levels : ℕ) (v : Value) (s : List ℕ) → OkTag t.tag
          → RowOr (RowIs (written rows) (SpelledBy rows turns)) o t strict levels v s → IsValue s
      by_row None g h t strict levels v s ok p = absurd p
      by_row (Some r) g h t strict levels v s ok p = row_value (written rows) (SpelledBy rows turns) h r (sound_row rows sound n r g).range t strict levels v s ok p

  pub spelled_whole : (n : ℕ) (strict : Bool) (limit : ℕ) (v : Value) (s : List ℕ) → Spells rows n strict limit v s → IsValue s
  spelled_whole n strict limit v s p = (all_whole (length rows) n).is plain strict most_levels v s tt p.by

pub spelled_is_value : SpelledIsValue
spelled_is_value rows n strict limit v spelled sound h = spelled_whole rows sound n strict limit v spelled h
