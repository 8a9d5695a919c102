-- Octets are too deep only where as many values stand open as there may be.
use Rattle.std.proofs.Common.{◌≡◌, ℕ, zero, suc, ◌+◌, ◌-◌, ◌≤◌, ◌<◌, Bool, true, false, List, [], ◌∷◌, ◌++◌, length, Option, Some, None, refl, sym, ap, ◌∙◌, subst, arith, append_assoc, length-append, ◌⊎◌, inl, inr}
use Rattle.std.specs.Prelude.{slice_get}
use Rattle.std.proofs.lemmas.Bool.{ltb-false, lt-leb, leb-false}
use Rattle.osi_base.specs.declared.layer_words.Kind.{Kind}
use Rattle.osi_base.specs.declared.layer_words.Kind.TheVariants.{Length}
use Rattle.osi_base.specs.Limits.{most_levels}
use Rattle.asn1_types.specs.declared.row.Class.{Class}
use Rattle.asn1_types.specs.declared.row.Class.TheVariants.{Universal}
use Rattle.asn1_types.specs.declared.row.Part.{Part}
use Rattle.asn1_types.specs.declared.row.TypeRow.{TypeRow}
use Rattle.asn1_types.specs.declared.row.TypeRow.TheVariants as row
use Rattle.asn1_types.specs.declared.row.Tag as tags
use Rattle.asn1_types.specs.Rows.{begins, text_number}
use Rattle.asn1_types.specs.Table.{AreSoundRows, is_bad_range}
use Rattle.asn1_types.specs.Tags.{tag_or}
use Rattle.asn1_types.specs.Value.{Value}
use Rattle.asn1_types.specs.Writing.{written}
use Rattle.asn1_types.proofs.Sound.{sound_row}
use Rattle.ber_spelling.specs.declared.fault.ReadFault.{ReadFault}
use Rattle.ber_spelling.specs.declared.fault.ReadFault.TheVariants.{NotSpelled, TooDeep, TooLong}
use Rattle.ber_spelling.specs.declared.spot.Scope.{Scope}
use Rattle.ber_spelling.specs.declared.spot.StringKind.{StringKind}
use Rattle.ber_spelling.specs.declared.spot.StringKind.TheVariants.{OfOctets, OfBits}
use Rattle.ber_spelling.specs.declared.spot.Gathered.{Gathered}
use Rattle.ber_spelling.specs.Order.{Filled}
use Rattle.ber_spelling.specs.Reading.{Spot, Opened, is_past}
use Rattle.ber_spelling.specs.Fields.{is_end, inside, inside_until}
use Rattle.ber_spelling.specs.Rules.{Guise, bare, plain, under, outermost, segment_tag, nothing, anew, always, whole_octets, whole_text, whole_bits, has_zero_bits, list_done, set_of_done, set_done, nothing_filled}
use Rattle.ber_spelling.specs.Spelling.{Spelled, SpelledBy, IsLength, IsIdentifier, SegmentIs, ListStep, SetItemStep, SetStep, AreAll, ChoiceIs, AnyIs}
use Rattle.ber_spelling.proofs.RowLaws.{OkTag, tag_ok}
use Rattle.ber_faults.specs.Fields.{IsWithin, Crosses, DigitsFault, IdentifierFault, LengthFault, ExtentFault, MarkFault, AheadFault, Opens, Begins, Extends, Stands}
use Rattle.ber_faults.specs.Values.{Wrong, WrongAs, WrongIn, PrimitiveFault, BodyFault, ConstructedFault, ItemsFault, item_ahead, item_lacks, item_inside, item_behind, every_state, SegmentContents, SegmentFault, SegmentsFault, StringContents, StringFault, ListFault, SetItemFault, SetOfFault, CloseFault, OneFault, ExplicitFault, PartsFault, part_ahead, part_extra, part_missing, part_inside, part_left_out, part_behind, LateFault, FillFault, SlotFault, SetFault, ChoiceFault, WholeStep, WholeFault, OrExplicitFault, RowFault, BooleanContents, IntegerContents, EnumeratedContents, NullContents, ObjectIdContents}
use Rattle.ber_faults.specs.FirstFault.{RowFaultOr, FaultBy, FirstFault}
use Rattle.ber_laws.specs.Values.{IsValue}
use Rattle.ber_faults.specs.Nesting.{AreOpen, HasMore, HasAny, IsFull}
use Rattle.ber_laws.proofs.WholeTexts.{AreWhole, any_length, all_whole, segment_value, any_value, chosen_value}

-- a fault of this kind is another
other_fault : {C : Type 0} (place at : ℕ) (kind : Kind) → TooDeep place ≡ NotSpelled at kind → C
other_fault place at kind e = absurd cc

same_place : (place at : ℕ) → TooDeep place ≡ TooDeep at → place ≡ at
same_place place at e = cc

-- ---- which fields are too deep

no_crossing : (scope : Scope) (place until at : ℕ) → Crosses scope place until (TooDeep at) → ⊥
no_crossing scope place until at (inl c) = let wrong : TooDeep at ≡ TooLong place = c.1 in absurd cc
no_crossing scope place until at (inr c) = other_fault at place Length c.2

deep_identifier : (scope : Scope) (place : ℕ) (octets : List ℕ) (at : ℕ) → IdentifierFault scope place octets (TooDeep at) → (scope.levels ≡ 0) × (at ≡ place) × (0 < length octets)
deep_identifier scope place [] at h = absurd h
deep_identifier scope place (first ∷ rest) at (inl h) = (h.0, same_place at place h.1, omega arith)
deep_identifier scope place (first ∷ rest) at (inr h) =
    elim h.1 [
      | inl c ↦ absurd (no_crossing scope place (place + 1) at c)
      | inr d ↦ absurd (no_digits d.2)
    ]
  where
    no_digits : DigitsFault scope place rest (TooDeep at) → ⊥
    no_digits d = elim d.4 [ inl c ↦ no_crossing scope place (place + 1 + length d.0 + 1) at c.2 | inr c ↦ other_fault at place _ c.2 ]

no_length : (scope : Scope) (place : ℕ) (octets : List ℕ) (at : ℕ) → LengthFault scope place octets (TooDeep at) → ⊥
no_length scope place [] at h = no_crossing scope place (place + 1) at h.1
no_length scope place (first ∷ rest) at (inl c) = no_crossing scope place (place + 1) at c
no_length scope place (first ∷ rest) at (inr h) =
    elim h.1 [
      | inl c ↦ no_crossing scope place (place + 1 + first) at c.1
      | inr s ↦ elim s [
        | inl c ↦ other_fault at place Length c.1
        | inr l ↦ elim l.2 [
          | inl c ↦ elim c.1 [ inl x ↦ no_crossing scope place _ at x.1 | inr x ↦ no_crossing scope place _ at x.1 ]
          | inr c ↦ elim c.4 [
            | inl x ↦ no_crossing scope place _ at x
            | inr x ↦ elim x.1 [
              | inl y ↦ other_fault at place Length y.1
              | inr y ↦ elim y.1 [ inl z ↦ no_crossing scope place _ at z | inr z ↦ other_fault at place _ z.3 ]
            ]
          ]
        ]
      ]
    ]

no_extent : (scope : Scope) (place : ℕ) (octets : List ℕ) (at : ℕ) → ExtentFault scope place octets (TooDeep at) → ⊥
no_extent scope place [] at h = no_crossing scope place (place + 1) at h.1
no_extent scope place (first ∷ rest) at (inl h) = elim h.1 [ inl c ↦ no_crossing scope place (place + 1) at c | inr c ↦ other_fault at place _ c.2 ]
no_extent scope place (first ∷ rest) at (inr h) = no_length scope place (first ∷ rest) at h.1

no_primitive : (tag : tags.Tag) (P : Bool → List ℕ → Type 0) (scope : Scope) (o : Opened) (s : Spot) (at : ℕ) → PrimitiveFault tag P scope o s (TooDeep at) → ⊥
no_primitive tag P scope o s at (inl h) = other_fault at o.start.place _ h.1
no_primitive tag P scope o s at (inr h) =
    elim h.1 [
      | inl l ↦ no_length scope s.place s.rest at l
      | inr c ↦ elim c.3 [ inl x ↦ other_fault at c.0 _ x.1 | inr x ↦ other_fault at c.0 _ x.3 ]
    ]

-- what stands next in contents begins a value where no level is left, before the contents end
record IsAhead (scope : Scope) (b : Spot) (at : ℕ) : Type 0 where
  levels : scope.levels ≡ 0
  place : at ≡ b.place
  some : 0 < length b.rest
  ends : is_end scope.end b.place ≡ false

ahead_here : (scope : Scope) (b : Spot) (octets : List ℕ) (at : ℕ) → octets ≡ b.rest → is_end scope.end b.place ≡ false → IdentifierFault scope b.place octets (TooDeep at) → IsAhead scope b at
ahead_here scope b octets at is ends i =
    let d = deep_identifier scope b.place octets at i in
    record { levels = d.0; place = d.1; some = subst (λ (x : List ℕ). 0 < length x) is d.2; ends = ends }

ahead_mark : (scope : Scope) (b : Spot) (octets : List ℕ) (at : ℕ) → octets ≡ b.rest → is_end scope.end b.place ≡ false → MarkFault scope b.place octets (TooDeep at) → IsAhead scope b at
ahead_mark scope b [] at is ends h = absurd h
ahead_mark scope b (first ∷ rest) at is ends (inr h) = ahead_here scope b (first ∷ rest) at is ends h.1
ahead_mark scope b (first ∷ []) at is ends (inl h) =
    elim h.1 [
      | inl c ↦ absurd (no_crossing scope b.place (b.place + 2) at c.1)
      | inr z ↦ elim z.1 [ inl c ↦ absurd (no_crossing scope b.place (b.place + 1) at c) | inr c ↦ absurd c.1 ]
    ]
ahead_mark scope b (first ∷ second ∷ rest) at is ends (inl h) =
    elim h.1 [
      | inl c ↦ absurd (no_crossing scope b.place (b.place + 2) at c.1)
      | inr z ↦ elim z.1 [
        | inl c ↦ absurd (no_crossing scope b.place (b.place + 1) at c)
        | inr c ↦ elim c.1 [
          | inl x ↦ absurd (no_crossing scope b.place (b.place + 2) at x.1)
          | inr x ↦ ahead_here scope b (0 ∷ second ∷ rest) at (ap (λ (n : ℕ). n ∷ second ∷ rest) (sym h.0) ∙ is) ends x.1
        ]
      ]
    ]

deep_ahead : (scope : Scope) (b : Spot) (at : ℕ) → AheadFault scope b.place b.rest (TooDeep at) → IsAhead scope b at
deep_ahead scope b at (inl h) =
    elim h.1 [
      | inl c ↦ absurd (no_crossing scope b.place (b.place + 1) at c.1)
      | inr m ↦ ahead_mark scope b b.rest at refl m.0 m.1
    ]
deep_ahead scope b at (inr h) = ahead_here scope b b.rest at refl h.1 h.2

-- ---- values that stand open from a spot on

-- so many as levels are left, or more in an `Any`
abbrev IsCounted : Type 0 → ℕ → ℕ → Type 0
IsCounted Anys levels depth = (depth ≡ levels) ⊎ (Anys × (most_levels ≤ depth))

counted_suc : (Anys : Type 0) (levels inner depth : ℕ) → levels ≡ suc inner → IsCounted Anys inner depth → IsCounted Anys levels (suc depth)
counted_suc Anys levels inner depth is (inl h) = inl (ap suc h ∙ sym is)
counted_suc Anys levels inner depth is (inr h) = let more : most_levels ≤ suc depth = omega (arith, h.1) in inr (h.0, more)

-- Values stand open in these octets, up to a place where one more would begin, before what encloses all of them ends.
record Reaches (Anys : Type 0) (scope : Scope) (b : Spot) (at : ℕ) : Type 0 where
  text : List ℕ
  back : List ℕ
  depth : ℕ
  parts : b.rest ≡ text ++ back
  place : at ≡ b.place + length text
  some : 0 < length back
  open_values : AreOpen depth text
  counted : IsCounted Anys scope.levels depth
  ends : is_end scope.end at ≡ false

-- the same in contents, behind whole values
record Enters (Anys : Type 0) (scope : Scope) (b : Spot) (at : ℕ) : Type 0 where
  values : List (List ℕ)
  before : List ℕ
  behind : Spot
  parts : b.rest ≡ before ++ behind.rest
  place : behind.place ≡ b.place + length before
  are_values : AreAll IsValue values before
  reaches : Reaches Anys scope behind at

-- values of which the identifier was opened are too deep only so
record DeepAt (Anys : Type 0) (scope : Scope) (W : Wrong) : Type 0 where
  deep_at : (b : Spot) (o : Opened) (s : Spot) (at : ℕ) → Opens scope b.place b.rest o s → W scope o s (TooDeep at) → Reaches Anys scope b at

record Deep (Anys : Type 0) (W : Wrong) : Type 0 where
  deep : (scope : Scope) (b : Spot) (o : Opened) (s : Spot) (at : ℕ) → Opens scope b.place b.rest o s → W scope o s (TooDeep at) → Reaches Anys scope b at

at_scope : (Anys : Type 0) (W : Wrong) → Deep Anys W → (scope : Scope) → DeepAt Anys scope W
at_scope Anys W h scope = record { deep_at = h.deep scope }

record DeepIn (Anys : Type 0) (W : WrongIn) : Type 0 where
  deep : (scope : Scope) (b : Spot) (at : ℕ) → W scope b (TooDeep at) → Enters Anys scope b at

here_at : (Anys : Type 0) (scope : Scope) (b : Spot) (at : ℕ) → Reaches Anys scope b at → Enters Anys scope b at
here_at Anys scope b at r = record { values = []; before = []; behind = b; parts = refl; place = omega arith; are_values = refl; reaches = r }

ahead_reaches : (Anys : Type 0) (scope : Scope) (b : Spot) (at : ℕ) → AheadFault scope b.place b.rest (TooDeep at) → Reaches Anys scope b at
ahead_reaches Anys scope b at h =
    let d = deep_ahead scope b at h in
    let place : at ≡ b.place + length {A = ℕ} [] = omega (arith, d.place) in
    record {
      text = [];
      back = b.rest;
      depth = 0;
      parts = refl;
      place = place;
      some = d.some;
      open_values = refl;
      counted = inl (sym d.levels);
      ends = subst (λ (n : ℕ). is_end scope.end n ≡ false) (sym d.place) d.ends;
    }

ahead_enters : (Anys : Type 0) (scope : Scope) (b : Spot) (at : ℕ) → AheadFault scope b.place b.rest (TooDeep at) → Enters Anys scope b at
ahead_enters Anys scope b at h = here_at Anys scope b at (ahead_reaches Anys scope b at h)

begun_enters : (Anys : Type 0) (W : Wrong) (scope : Scope) → DeepAt Anys scope W → (b : Spot) (o : Opened) (s : Spot) (at : ℕ) → Begins scope b o s → W scope o s (TooDeep at) → Enters Anys scope b at
begun_enters Anys W scope h b o s at begins w = here_at Anys scope b at (h.deep_at b o s at begins.opens w)

-- behind one whole value more
behind_enters : {A : Type 0} (Anys : Type 0) (P : Bool → ℕ → A → List ℕ → Type 0) (scope : Scope) (b : Spot) (v : A) (to : Spot) (at : ℕ) → ((s : List ℕ) → P scope.strict scope.levels v s → IsValue s)
    → Stands P scope b v to → Enters Anys scope to at → Enters Anys scope b at
behind_enters Anys P scope b v to at whole stands e =
    let len : length (stands.text ++ e.before) ≡ length stands.text + length e.before = length-append stands.text e.before in
    let place : e.behind.place ≡ b.place + length (stands.text ++ e.before) = omega (arith, len, e.place, stands.onward) in
    record {
      values = stands.text ∷ e.values;
      before = stands.text ++ e.before;
      behind = e.behind;
      parts = stands.parts ∙ ap (λ (x : List ℕ). stands.text ++ x) e.parts ∙ sym (append_assoc stands.text e.before e.behind.rest);
      place = place;
      are_values = (e.before, refl, whole stands.text stands.spelled, e.are_values);
      reaches = e.reaches;
    }

-- ---- constructed values

before_end : (end : Option ℕ) (until at : ℕ) → is_past end until ≡ false → at < until → is_end end at ≡ false
before_end None until at e lt = refl
before_end (Some end) until at e lt = let le : until ≤ end = ltb-false end until e in let less : at < end = omega arith in lt-leb end at less

-- an identifier, a length, and contents in which values stand open
module _ (Anys : Type 0) (scope : Scope) (b : Spot) (o : Opened) (s : Spot) (c : Spot) (at : ℕ) (opens : Opens scope b.place b.rest o s) (form : o.constructed ≡ true) where
  wrapped : (x : Scope) (size : List ℕ) (e : Enters Anys x c at) → x.levels ≡ scope.levels - 1 → s.rest ≡ size ++ c.rest → c.place ≡ s.place + length size
      → HasMore size (length e.before + length e.reaches.text) → is_end scope.end at ≡ false → Reaches Anys scope b at
  wrapped x size e less parts onward more ends =
      let text : List ℕ = e.reaches.text in
      let back : List ℕ = e.reaches.back in
      let contents : List ℕ = e.before ++ text in
      let whole : List ℕ = opens.head ++ (size ++ contents) in
      let head_is : IsIdentifier o.class true opens.number opens.head = subst (λ (f : Bool). IsIdentifier o.class f opens.number opens.head) form opens.is_identifier in
      let level : 0 < scope.levels = opens.level in
      let deeper : scope.levels ≡ suc x.levels = omega (arith, less) in
      let inside : c.rest ≡ contents ++ back = e.parts ∙ ap (λ (y : List ℕ). e.before ++ y) e.reaches.parts ∙ sym (append_assoc e.before text back) in
      let behind : s.rest ≡ (size ++ contents) ++ back = parts ∙ ap (λ (y : List ℕ). size ++ y) inside ∙ sym (append_assoc size contents back) in
      let all : b.rest ≡ whole ++ back = opens.parts ∙ ap (λ (y : List ℕ). opens.head ++ y) behind ∙ sym (append_assoc opens.head (size ++ contents) back) in
      let len : length whole ≡ length opens.head + (length size + (length e.before + length text)) =
      length-append opens.head (size ++ contents) ∙ ap (λ (n : ℕ). length opens.head + n) (length-append size contents ∙ ap (λ (n : ℕ). length size + n) (length-append e.before text)) in
      let place : at ≡ b.place + length whole = omega (arith, len, e.reaches.place, e.place, onward, opens.onward) in
      record {
        text = whole;
        back = back;
        depth = suc e.reaches.depth;
        parts = all;
        place = place;
        some = e.reaches.some;
        open_values = record {
          class = o.class;
          number = opens.number;
          head = opens.head;
          size = size;
          values = e.values;
          before = e.before;
          inner = text;
          is_identifier = head_is;
          has_more = more;
          are_values = e.are_values;
          holds = e.reaches.open_values;
          are = refl;
        };
        counted = counted_suc Anys scope.levels x.levels e.reaches.depth deeper e.reaches.counted;
        ends = ends;
      }

  sized : (size : List ℕ) (n : ℕ) → IsLength scope.strict size n → s.rest ≡ size ++ c.rest → c.place ≡ s.place + length size → IsWithin scope (c.place + n) → Enters Anys (inside_until scope (c.place + n)) c at → Reaches Anys scope b at
  sized size n is_length parts onward within e =
      let r = e.reaches in
      let until : ℕ = c.place + n in
      let before_until : at < until = leb-false until at r.ends in
      let few : length e.before + length r.text < n = omega (arith, before_until, r.place, e.place) in
      wrapped (inside_until scope until) size e refl parts onward (inr (n, any_length scope.strict size n is_length, few)) (before_end scope.end until at within.end before_until)

  marked : s.rest ≡ 128 ∷ c.rest → c.place ≡ s.place + 1 → Enters Anys (inside scope) c at → Reaches Anys scope b at
  marked parts onward e = let r = e.reaches in wrapped (inside scope) (128 ∷ []) e refl parts onward (inl refl) r.ends

  enclosed : (x : Scope) → Extends scope s x c → Enters Anys x c at → Reaches Anys scope b at
  enclosed x (inl h) e = sized h.0 h.1 h.2 h.3 h.4 h.5 (subst (λ (y : Scope). Enters Anys y c at) h.6 e)
  enclosed x (inr h) e = marked h.1 h.2 (subst (λ (y : Scope). Enters Anys y c at) h.4 e)

body_deep : (Anys : Type 0) (Inside : WrongIn) → DeepIn Anys Inside → (scope : Scope) (b : Spot) (o : Opened) (s : Spot) (at : ℕ) → Opens scope b.place b.rest o s → o.constructed ≡ true → BodyFault Inside scope s (TooDeep at) → Reaches Anys scope b at
body_deep Anys Inside h scope b o s at opens form (inl e) = absurd (no_extent scope s.place s.rest at e)
body_deep Anys Inside h scope b o s at opens form (inr e) = enclosed Anys scope b o s e.1 at opens form e.0 e.2 (h.deep e.0 e.1 at e.3)

constructed_deep : (Anys : Type 0) (tag : tags.Tag) (Inside : WrongIn) → DeepIn Anys Inside → Deep Anys (ConstructedFault tag Inside)
constructed_deep Anys tag Inside h = record {
  deep = λ scope b o s at opens w.
      elim w [
        | inl t ↦ other_fault at o.start.place _ t.1
        | inr t ↦ let is = t.0 in body_deep Anys Inside h scope b o s at opens is.form t.1
      ];
}

primitive_deep : (Anys : Type 0) (tag : tags.Tag) (P : Bool → List ℕ → Type 0) → Deep Anys (PrimitiveFault tag P)
primitive_deep Anys tag P = record { deep = λ scope b o s at opens w. absurd (no_primitive tag P scope o s at w) }

-- ---- values one after the other

module _ {S T : Type 0} (Anys : Type 0) (P : S → Bool → ℕ → S → List ℕ → Type 0) (done : S → Option T) (W : S → Wrong) where
  items_enter : ((a b : S) (strict : Bool) (levels : ℕ) (s : List ℕ) → P a strict levels b s → IsValue s) → (scope : Scope) → ((a : S) → DeepAt Anys scope (W a)) → (state : S) (b : Spot) (f : ReadFault) (at : ℕ) → f ≡ TooDeep at
      → ItemsFault P done W scope state b f → Enters Anys scope b at
  items_enter whole scope each _ _ _ at is (item_ahead state b f c) = ahead_enters Anys scope b at (subst (AheadFault scope b.place b.rest) is c)
  items_enter whole scope each _ _ _ at is (item_lacks state b behind f ends none kind) = other_fault at b.place _ (sym is ∙ kind)
  items_enter whole scope each _ _ _ at is (item_inside state b o s f begins w) = begun_enters Anys (W state) scope (each state) b o s at begins (subst (W state scope o s) is w)
  items_enter whole scope each _ _ _ at is (item_behind state next b to f stands later) =
      behind_enters Anys (P state) scope b next to at (λ s p. whole state next scope.strict scope.levels s p) stands (items_enter whole scope each next to f at is later)

  items_deep : ((a b : S) (strict : Bool) (levels : ℕ) (s : List ℕ) → P a strict levels b s → IsValue s) → ((a : S) → Deep Anys (W a)) → (first : S) → DeepIn Anys (λ x b f. ItemsFault P done W x first b f)
  items_deep whole each first = record { deep = λ scope b at w. items_enter whole scope (λ a. at_scope Anys (W a) (each a) scope) first b (TooDeep at) at refl w }

-- ---- strings

segment_deep : (Anys : Type 0) (kind : StringKind) (depth : ℕ) (before : Gathered) → Deep Anys (SegmentFault kind depth before)
segment_deep Anys kind zero before = record { deep = λ scope b o s at opens w. other_fault at o.start.place _ w }
segment_deep Anys kind (suc depth) before = record {
  deep = λ scope b o s at opens w.
      elim w [
        | inl t ↦ (constructed_deep Anys (segment_tag kind) _ (items_deep Anys (SegmentIs kind depth) every_state (SegmentFault kind depth) (λ a c strict levels u p. segment_value kind strict depth a c levels u p) (λ a. segment_deep Anys kind depth a) before)).deep scope b o s at opens t.1
        | inr t ↦ absurd (no_primitive (segment_tag kind) (SegmentContents kind before) scope o s at t.1)
      ];
}

segments_deep : (Anys : Type 0) (kind : StringKind) (whole : Gathered → Option Value) (place : ℕ) → DeepIn Anys (SegmentsFault kind whole place)
segments_deep Anys kind whole place = record {
  deep = λ scope b at w.
      elim w [
        | inl t ↦ (items_deep Anys (SegmentIs kind most_levels) every_state (SegmentFault kind most_levels) (λ a c strict levels u p. segment_value kind strict most_levels a c levels u p) (λ a. segment_deep Anys kind most_levels a) nothing).deep scope b at t
        | inr t ↦ other_fault at place _ t.3
      ];
}

string_deep : (Anys : Type 0) (kind : StringKind) (whole : Gathered → Option Value) (canonical : List ℕ → Bool) (tag : tags.Tag) → Deep Anys (StringFault kind whole canonical tag)
string_deep Anys kind whole canonical tag = record {
  deep = λ scope b o s at opens w.
      elim w [
        | inl t ↦ absurd (no_primitive tag (StringContents kind whole canonical) scope o s at t.1)
        | inr t ↦ elim t.1 [
          | inl u ↦ other_fault at o.start.place _ u.1
          | inr u ↦ elim u.1 [
            | inl x ↦ other_fault at o.start.place _ x.1
            | inr x ↦ body_deep Anys (SegmentsFault kind whole o.start.place) (segments_deep Anys kind whole o.start.place) scope b o s at opens t.0 x.1
          ]
        ]
      ];
}

-- ---- explicit tags

one_deep : (Anys : Type 0) (P : Bool → ℕ → Value → List ℕ → Type 0) (W : Wrong) → ((strict : Bool) (levels : ℕ) (v : Value) (s : List ℕ) → P strict levels v s → IsValue s) → Deep Anys W → DeepIn Anys (OneFault P W)
one_deep Anys P W whole h = record {
  deep = λ scope b at w.
      elim w [
        | inl t ↦ ahead_enters Anys scope b at t
        | inr t ↦ elim t [
          | inl u ↦ other_fault at b.place _ u.2
          | inr u ↦ elim u [
            | inl x ↦ begun_enters Anys W scope (at_scope Anys W h scope) b x.0 x.1 at x.2 x.3
            | inr x ↦ behind_enters Anys P scope b x.0 x.1 at (λ s p. whole scope.strict scope.levels x.0 s p) x.2 (close_enters scope x.1 at x.3)
          ]
        ]
      ];
}
  where
    close_enters : (scope : Scope) (to : Spot) (at : ℕ) → CloseFault scope to (TooDeep at) → Enters Anys scope to at
    close_enters scope to at (inl c) = ahead_enters Anys scope to at c
    close_enters scope to at (inr c) = other_fault at to.place _ c.3

explicit_deep : (Anys : Type 0) (tag : tags.Tag) (P : Bool → ℕ → Value → List ℕ → Type 0) (W : Wrong) → ((strict : Bool) (levels : ℕ) (v : Value) (s : List ℕ) → P strict levels v s → IsValue s) → Deep Anys W → Deep Anys (ExplicitFault tag P W)
explicit_deep Anys tag P W whole h = constructed_deep Anys tag (OneFault P W) (one_deep Anys P W whole h)

-- ---- one whole value of any type, whose levels are its own

levels_again : (Anys : Type 0) (x y : Scope) (b : Spot) (at : ℕ) → y.levels ≡ x.levels → y.end ≡ x.end → Reaches Anys y b at → Reaches Anys x b at
levels_again Anys x y b at levels end r = record {
  text = r.text;
  back = r.back;
  depth = r.depth;
  parts = r.parts;
  place = r.place;
  some = r.some;
  open_values = r.open_values;
  counted = subst (λ (n : ℕ). IsCounted Anys n r.depth) levels r.counted;
  ends = subst (λ (e : Option ℕ). is_end e at ≡ false) end r.ends;
}

opens_anew : (depth : ℕ) (scope : Scope) (b : Spot) (o : Opened) (s : Spot) → Opens scope b.place b.rest o s → Opens (anew (suc depth) scope) b.place b.rest o s
opens_anew depth scope b o s h =
    let w = h.within in
    let level : 0 < suc depth = omega arith in
    record {
      head = h.head;
      number = h.number;
      parts = h.parts;
      onward = h.onward;
      starts = h.starts;
      is_identifier = h.is_identifier;
      is_number = h.is_number;
      level = level;
      within = record { limit = w.limit; end = w.end };
    }

inside_levels : (depth : ℕ) (scope : Scope) (s : Spot) (x : Scope) (c : Spot) → Extends (anew (suc depth) scope) s x c → depth ≡ x.levels
inside_levels depth scope s x c (inl h) = let one : depth ≡ suc depth - 1 = omega arith in one ∙ sym (ap (λ (y : Scope). y.levels) h.6)
inside_levels depth scope s x c (inr h) = let one : depth ≡ suc depth - 1 = omega arith in one ∙ sym (ap (λ (y : Scope). y.levels) h.4)

whole_step_value : (depth : ℕ) (a b : Unit {0}) (strict : Bool) (levels : ℕ) (s : List ℕ) → WholeStep depth a strict levels b s → IsValue s
whole_step_value depth a b strict levels s p = (depth, p.1)

whole_deep : (Anys : Type 0) (depth : ℕ) (scope : Scope) (b : Spot) (o : Opened) (s : Spot) (at : ℕ) → Opens scope b.place b.rest o s → WholeFault depth scope o s (TooDeep at) → Reaches Anys (anew depth scope) b at
whole_deep Anys zero scope b o s at opens w = other_fault at o.start.place _ w
whole_deep Anys (suc depth) scope b o s at opens (inl w) = other_fault at o.start.place _ w.1
whole_deep Anys (suc depth) scope b o s at opens (inr w) =
    elim w.1 [
      | inr t ↦ absurd (no_length (anew (suc depth) scope) s.place s.rest at t.1)
      | inl t ↦ elim t.2 [
        | inl u ↦ absurd (no_extent (anew (suc depth) scope) s.place s.rest at u)
        | inr u ↦ enclosed Anys (anew (suc depth) scope) b o s u.1 at (opens_anew depth scope b o s opens) t.1 u.0 u.2
            (items_enter Anys (WholeStep depth) every_state (λ _. WholeFault depth) (whole_step_value depth) u.0
            (λ _. record { deep_at = λ c p q k h y. levels_again Anys u.0 (anew depth u.0) c k (inside_levels depth scope s u.0 u.1 u.2) refl (whole_deep Anys depth u.0 c p q k h y) }) tt u.1 (TooDeep at) at refl u.3)
      ]
    ]

any_deep : (Anys : Type 0) → Anys → Deep Anys (WholeFault most_levels)
any_deep Anys there = record {
  deep = λ scope b o s at opens w.
      let r = whole_deep Anys most_levels scope b o s at opens w in
      record {
        text = r.text;
        back = r.back;
        depth = r.depth;
        parts = r.parts;
        place = r.place;
        some = r.some;
        open_values = r.open_values;
        counted = inr (there, at_least r.depth r.counted);
        ends = r.ends;
      };
}
  where
    at_least : (depth : ℕ) → IsCounted Anys most_levels depth → most_levels ≤ depth
    at_least depth (inl h) = omega (arith, h)
    at_least depth (inr h) = h.1

-- ---- SEQUENCE, SET and CHOICE, from the rows that they name

module _ (Anys : Type 0) (starts : ℕ → Class → ℕ → Bool) (rel : ℕ → Spelled) (W : ℕ → WrongAs) (whole : (m : ℕ) → AreWhole (rel m)) (each : (m : ℕ) (t : Guise) → OkTag t.tag → Deep Anys (W m t)) where
  parts_enter : (scope : Scope) (ps : List Part) (b : Spot) (f : ReadFault) (at : ℕ) → f ≡ TooDeep at → PartsFault starts rel W scope ps b f → Enters Anys scope b at
  parts_enter scope _ _ _ at is (part_ahead ps b f c) = ahead_enters Anys scope b at (subst (AheadFault scope b.place b.rest) is c)
  parts_enter scope _ _ _ at is (part_extra b o s f begins kind) = other_fault at b.place _ (sym is ∙ kind)
  parts_enter scope _ _ _ at is (part_missing p ps b f no_part stands kind) = other_fault at b.place _ (sym is ∙ kind)
  parts_enter scope _ _ _ at is (part_inside p ps b o s f begins starts w) =
      begun_enters Anys (W p.inner.0 (bare p.default)) scope (at_scope Anys (W p.inner.0 (bare p.default)) (each p.inner.0 (bare p.default) tt) scope) b o s at begins (subst (W p.inner.0 (bare p.default) scope o s) is w)
  parts_enter scope _ _ _ at is (part_left_out p ps b f no_part absent later) = parts_enter scope ps b f at is later
  parts_enter scope _ _ _ at is (part_behind p ps b v to f stands later) =
      behind_enters Anys (rel p.inner.0 (bare p.default)) scope b v to at (λ s h. (whole p.inner.0).is (bare p.default) scope.strict scope.levels v s tt h) stands (parts_enter scope ps to f at is later)

  parts_deep : (ps : List Part) → DeepIn Anys (λ x b f. PartsFault starts rel W x ps b f)
  parts_deep ps = record { deep = λ scope b at w. parts_enter scope ps b (TooDeep at) at refl w }

  fill_deep : (m : ℕ) (t : Guise) → OkTag t.tag → (which : ℕ) (before : Filled) → Deep Anys (FillFault (W m t) which before)
  fill_deep m t ok which before = record {
    deep = λ scope b o s at opens w.
        elim w [
          | inl u ↦ no_late scope o s at u.1
          | inr u ↦ elim u.1 [ inl x ↦ no_late scope o s at x.2 | inr x ↦ (each m t ok).deep scope b o s at opens x.1 ]
        ];
  }
    where
      no_late : {C : Type 0} {kind : Kind} (scope : Scope) (o : Opened) (s : Spot) (at : ℕ) → LateFault kind (W m t) scope o s (TooDeep at) → C
      no_late scope o s at (inl h) = other_fault at o.start.place _ h.1
      no_late scope o s at (inr h) = other_fault at o.start.place _ h.1

  slot_deep : (which : ℕ) (ps : List Part) (before : Filled) → Deep Anys (SlotFault starts W which ps before)
  slot_deep which [] before = record { deep = λ scope b o s at opens w. other_fault at o.start.place _ w }
  slot_deep which (p ∷ ps) before = record {
    deep = λ scope b o s at opens w.
        elim w [
          | inl t ↦ (fill_deep p.inner.0 (bare p.default) tt which before).deep scope b o s at opens t.1
          | inr t ↦ (slot_deep (suc which) ps before).deep scope b o s at opens t.1
        ];
  }

  choice_deep : (ps : List Part) → Deep Anys (ChoiceFault starts W ps)
  choice_deep [] = record { deep = λ scope b o s at opens w. other_fault at o.start.place _ w }
  choice_deep (p ∷ ps) = record {
    deep = λ scope b o s at opens w.
        elim w [
          | inl t ↦ (each p.inner.0 plain tt).deep scope b o s at opens t.1
          | inr t ↦ (choice_deep ps).deep scope b o s at opens t.1
        ];
  }

set_item_deep : (Anys : Type 0) (spell : Value → List ℕ) (rel : Spelled) (W : WrongAs) → Deep Anys (W plain) → (before : List Value) → Deep Anys (SetItemFault spell rel W before)
set_item_deep Anys spell rel W h before = record {
  deep = λ scope b o s at opens w. elim w [ inl t ↦ h.deep scope b o s at opens t | inr t ↦ other_fault at o.start.place _ t.5 ];
}

or_deep : (Anys : Type 0) (P : Bool → ℕ → Value → List ℕ → Type 0) (W : Wrong) (t : Option tags.Tag) → ((strict : Bool) (levels : ℕ) (v : Value) (s : List ℕ) → P strict levels v s → IsValue s) → Deep Anys W → Deep Anys (OrExplicitFault P W t)
or_deep Anys P W None whole h = h
or_deep Anys P W (Some t) whole h = explicit_deep Anys t P W whole h

-- ---- rows

module _ (rows : List TypeRow) (rel : ℕ → Spelled) (W : ℕ → WrongAs) (whole : (m : ℕ) → AreWhole (rel m)) (each : (m : ℕ) (t : Guise) → OkTag t.tag → Deep (HasAny rows) (W m t)) where
  row_deep : (r : TypeRow) → (r ≡ row.Any → HasAny rows) → is_bad_range r ≡ false → (t : Guise) → OkTag t.tag → Deep (HasAny rows) (RowFault (begins rows) (written rows) rel W r t)
  row_deep row.Boolean any good t ok = primitive_deep (HasAny rows) (tag_or t.tag Universal 1) (BooleanContents t.default)
  row_deep (row.Integer low high) any good t ok = primitive_deep (HasAny rows) (tag_or t.tag Universal 2) (IntegerContents low high t.default)
  row_deep (row.Enumerated items) any good t ok = primitive_deep (HasAny rows) (tag_or t.tag Universal 10) (EnumeratedContents items t.default)
  row_deep row.Null any good t ok = primitive_deep (HasAny rows) (tag_or t.tag Universal 5) NullContents
  row_deep (row.OctetString most) any good t ok = string_deep (HasAny rows) OfOctets (whole_octets most) always (tag_or t.tag Universal 4)
  row_deep row.BitString any good t ok = string_deep (HasAny rows) OfBits whole_bits has_zero_bits (tag_or t.tag Universal 3)
  row_deep row.ObjectId any good t ok = primitive_deep (HasAny rows) (tag_or t.tag Universal 6) ObjectIdContents
  row_deep (row.Text kind) any good t ok = string_deep (HasAny rows) OfOctets (whole_text kind) always (tag_or t.tag Universal (text_number kind))
  row_deep (row.Sequence ps) any good t ok =
      constructed_deep (HasAny rows) (tag_or t.tag Universal 16) (λ x b f. PartsFault (begins rows) rel W x ps b f) (parts_deep (HasAny rows) (begins rows) rel W whole each ps)
  row_deep (row.Set ps) any good t ok =
      constructed_deep (HasAny rows) (tag_or t.tag Universal 17) (SetFault (begins rows) rel W ps)
      (items_deep (HasAny rows) (SetStep rel ps) (set_done ps) (SlotFault (begins rows) W 0 ps) (λ a c strict levels u q. (whole q.1.inner.0).is (bare q.1.default) strict levels q.2 u tt q.5) (λ a. slot_deep (HasAny rows) (begins rows) rel W whole each 0 ps a) (nothing_filled ps))
  row_deep (row.SequenceOf of) any good t ok =
      constructed_deep (HasAny rows) (tag_or t.tag Universal 16) (ListFault (rel of.0) (W of.0))
      (items_deep (HasAny rows) (ListStep (rel of.0)) list_done (λ before. W of.0 plain) (λ a c strict levels u q. (whole of.0).is plain strict levels q.0 u tt q.2) (λ a. each of.0 plain tt) [])
  row_deep (row.SetOf of) any good t ok =
      constructed_deep (HasAny rows) (tag_or t.tag Universal 17) (SetOfFault (written rows of.0) (rel of.0) (W of.0))
      (items_deep (HasAny rows) (SetItemStep (written rows of.0) (rel of.0)) (set_of_done (written rows of.0)) (SetItemFault (written rows of.0) (rel of.0) (W of.0))
      (λ a c strict levels u q. (whole of.0).is plain strict levels q.0 u tt q.2) (λ a. set_item_deep (HasAny rows) (written rows of.0) (rel of.0) (W of.0) (each of.0 plain tt) a) [])
  row_deep (row.Choice ps) any good t ok =
      or_deep (HasAny rows) (ChoiceIs rel ps) (ChoiceFault (begins rows) W ps) t.tag (λ strict. chosen_value (λ m v. []) rel whole ps strict) (choice_deep (HasAny rows) (begins rows) rel W whole each ps)
  row_deep (row.Tagged class number true of) any good t ok =
      explicit_deep (HasAny rows) (tag_or t.tag class number) (rel of.0 (bare t.default)) (W of.0 (bare t.default)) (λ strict levels v s p. (whole of.0).is (bare t.default) strict levels v s tt p) (each of.0 (bare t.default) tt)
  row_deep (row.Tagged class number false of) any good t ok = each of.0 (under (Some (tag_or t.tag class number)) t.default) (tag_ok t.tag class number ok good)
  row_deep row.Any any good t ok = or_deep (HasAny rows) (λ strict. AnyIs) (WholeFault most_levels) t.tag (λ strict levels v s p. any_value levels v s p) (any_deep (HasAny rows) (any refl))

module _ (rows : List TypeRow) (sound : AreSoundRows rows) where
  all_deep : (turns n : ℕ) (t : Guise) → OkTag t.tag → Deep (HasAny rows) (FaultBy rows turns n t)
  all_deep zero n t ok = record { deep = λ scope b o s at opens w. other_fault at o.start.place _ w }
  all_deep (suc turns) n t ok = by_row (slice_get rows n) refl (λ m u y. all_deep turns m u y)
    where
      by_row : (r : Option TypeRow) → slice_get rows n ≡ r → ((m : ℕ) (u : Guise) → OkTag u.tag → Deep (HasAny rows) (FaultBy rows turns m u)) → Deep (HasAny rows) (RowFaultOr (RowFault (begins rows) (written rows) (SpelledBy rows turns) (FaultBy rows turns)) r t)
      by_row None e h = record { deep = λ scope b o s at opens w. other_fault at o.start.place _ w }
      by_row (Some r) e h = row_deep rows (SpelledBy rows turns) (FaultBy rows turns) (λ m. all_whole rows sound turns m) h r (λ is. (n, e ∙ ap Some is)) (sound_row rows sound n r e).range t ok

  -- a first fault of this kind stands where as many values stand open as there may be
  pub first_deep : (n : ℕ) (strict : Bool) (limit : ℕ) (bytes : List ℕ) (place : ℕ) → FirstFault rows n strict limit bytes (TooDeep place) → IsFull rows bytes place
  first_deep n strict limit bytes place h =
      elim h.1 [
        | inl t ↦ let d = deep_identifier (outermost limit strict) 0 bytes place t in let wrong : most_levels ≡ 0 = d.0 in absurd cc
        | inr t ↦
            let r = (all_deep (length rows) n plain tt).deep (outermost limit strict) (record { place = 0; rest = bytes }) t.0 t.1 place t.2 t.3 in
            let place_is : place ≡ length r.text = omega (arith, r.place) in
            record { front = r.text; back = r.back; depth = r.depth; parts = r.parts; place_is = place_is; begins = r.some; open_values = r.open_values; most = r.counted }
      ]
