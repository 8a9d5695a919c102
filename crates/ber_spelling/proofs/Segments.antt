-- Strings and lists: what is read is spelled so, what is spelled so is read, and it stays so.
use Rattle.std.proofs.Common.{◌≡◌, ℕ, zero, suc, ◌+◌, Bool, true, false, cond, List, [], ◌∷◌, ◌++◌, length, Option, Some, Ok, refl, sym, ap, ◌∙◌, subst, inl, inr}
use Rattle.asn1_types.specs.declared.row.Class.{Class}
use Rattle.asn1_types.specs.Rows.{is_no_tag}
use Rattle.asn1_types.specs.Value.{Value}
use Rattle.asn1_types.specs.Rising.{behind_last}
use Rattle.ber_spelling.specs.declared.spot.Scope.{Scope}
use Rattle.asn1_types.specs.declared.row.Tag as tags
use Rattle.ber_spelling.specs.declared.spot.StringKind.{StringKind}
use Rattle.ber_spelling.specs.declared.spot.StringKind.TheVariants.{OfOctets, OfBits}
use Rattle.ber_spelling.specs.declared.spot.Gathered.{Gathered}
use Rattle.ber_spelling.specs.Reading.{Spot, Opened, ◌>>=◌}
use Rattle.ber_spelling.specs.Fields.{extent_at, contents_at}
use Rattle.ber_spelling.specs.Rules.{Reader, expect_at, some_or_refuse, form_at, primitive_at, always, constructed_at, all_items_at, segment_tag, nothing, segment_rule, segment_at, segmented_at, string_rule, string_at, list_item_at, list_done, list_at, plain, set_item_at, set_of_done, set_of_at}
use Rattle.ber_spelling.specs.Spelling.{Spelled, IsConstructed, ItemsAre, SegmentIs, StringIs, ListStep, ListIs, SetItemStep, SetOfIs}
use Rattle.ber_spelling.proofs.Identifiers.{bind_ok, chosen_ok, ok_is}
use Rattle.ber_spelling.proofs.Steady.{RunOf, RelationOf, ReadAs, Found, ReadBack, Only, OfTag, opened_as, judge_is, form_lax, form_passes, prim_found, prim_only, form_ok}
use Rattle.ber_spelling.proofs.Constructed.{BodyOf, ConstructedBy, constructed_found, constructed_only}
use Rattle.ber_spelling.proofs.Growing.{grown, grown_opened, Grows-bind, Grows-same, Grows-cond, with_spot, with_contents, extent_grows, contents_grow}
use Rattle.ber_spelling.proofs.Turns.{bind_is}
use Rattle.ber_spelling.proofs.Items.{GrowsRun, all_found, all_only, all_grow, constructed_grows}

abbrev pub some_gathered : Gathered → Option Gathered
some_gathered g = Some g

cond_then : {A : Type 0} (b : Bool) (r s x : A) → b ≡ true → r ≡ x → cond b r s ≡ x
cond_then true r s x e h = h
cond_then false r s x e h = absurd cc

cond_else : {A : Type 0} (b : Bool) (r s x : A) → b ≡ false → s ≡ x → cond b r s ≡ x
cond_else true r s x e h = absurd cc
cond_else false r s x e h = h

-- ---- segments

abbrev SegmentsAre : StringKind → ℕ → Gathered → RelationOf Gathered
SegmentsAre kind depth before = ItemsAre some_gathered (SegmentIs kind depth) before

pub segment_found : (kind : StringKind) (depth : ℕ) (before : Gathered) → Found (segment_at kind depth before) (SegmentIs kind depth before)
unfolding segment_at
segment_found kind zero before = record { found = λ scope place rest o s v to are opens e. absurd cc }
segment_found kind (suc depth) before = record {
  found = λ scope place rest o s v to are opens e.
      elim (chosen_ok o.constructed _ _ (v, to) e) [
        | inl t ↦
            let r = (constructed_found (all_items_at (segment_at kind depth) some_gathered before) (segment_tag kind) (SegmentsAre kind depth before) (all_found (segment_at kind depth) some_gathered (SegmentIs kind depth) before (segment_found kind depth))).found scope place rest o s v to are opens t.1 in
            record { text = r.text; taken = r.taken; spelled = inr r.spelled; is_in = r.is_in }
        | inr t ↦
            let r = (prim_found (segment_rule kind before) always (segment_tag kind) (λ strict after contents. segment_rule kind before contents ≡ Some after) (λ strict c g o ruled k. ruled)).found scope place rest o s v to are opens t.1 in
            record { text = r.text; taken = r.taken; spelled = inl r.spelled; is_in = r.is_in }
      ];
}

segment_is_tag : (kind : StringKind) → is_no_tag (segment_tag kind).class (segment_tag kind).number ≡ false
segment_is_tag OfOctets = refl
segment_is_tag OfBits = refl

-- what was read of a form was opened so
prim_form : {A : Type 0} (rule : List ℕ → Option A) (canonical : List ℕ → Bool) (tag : tags.Tag) (scope : Scope) (o : Opened) (s : Spot) (x : A × Spot) → primitive_at rule canonical tag scope o s ≡ Ok x → o.constructed ≡ false
unfolding primitive_at
prim_form rule canonical tag scope o s x e = let b = bind_ok (expect_at tag false o) _ x e in (opened_as tag false o b.0 b.1).form

constructed_form : {A : Type 0} (body : BodyOf A) (tag : tags.Tag) (scope : Scope) (o : Opened) (s : Spot) (x : A × Spot) → constructed_at body tag scope o s ≡ Ok x → o.constructed ≡ true
constructed_form body tag scope o s x e = let b = bind_ok (expect_at tag true o) _ x e in (opened_as tag true o b.0 b.1).form

-- the same spelling, read by a reader that agrees
back_as : {A C : Type 0} (B : Class → ℕ → Type 0) (r : RunOf A) (q : RunOf C) (scope : Scope) (place : ℕ) (text rest : List ℕ) (v : A) (w : C) (b : ReadBack B r scope place text rest v)
    → q scope b.opened b.spot ≡ Ok (w, record { place = place + length text; rest = rest }) → ReadBack B q scope place text rest w
back_as B r q scope place text rest v w b e = record { opened = b.opened; spot = b.spot; first = b.first; others = b.others; begins = b.begins; some = b.some; opens = b.opens; allowed = b.allowed; reads = e }

pub segment_only : (kind : StringKind) (depth : ℕ) (before : Gathered) → Only (OfTag (segment_tag kind)) (segment_at kind depth before) (SegmentIs kind depth before)
unfolding segment_at
segment_only kind zero before = record { only = λ scope place v text rest p here. absurd p }
segment_only kind (suc depth) before = record {
  only = λ scope place v text rest p here.
      elim p [
        | inl f ↦
            let r = (prim_only (segment_rule kind before) always (segment_tag kind) (λ strict after contents. segment_rule kind before contents ≡ Some after) (segment_is_tag kind) (λ strict c g ruled. (ruled, λ k. refl))).only scope place v text rest f here in
            back_as (OfTag (segment_tag kind)) (primitive_at (segment_rule kind before) always (segment_tag kind)) (segment_at kind (suc depth) before) scope place text rest v v r
            (cond_else r.opened.constructed _ _ _ (prim_form (segment_rule kind before) always (segment_tag kind) scope r.opened r.spot _ r.reads) r.reads)
        | inr f ↦
            let body = all_items_at (segment_at kind depth) some_gathered before in
            let r = (constructed_only body (segment_tag kind) (SegmentsAre kind depth before) (segment_is_tag kind) (all_only (OfTag (segment_tag kind)) (segment_at kind depth) some_gathered (SegmentIs kind depth) before (segment_only kind depth))).only scope place v text rest f here in
            back_as (OfTag (segment_tag kind)) (constructed_at body (segment_tag kind)) (segment_at kind (suc depth) before) scope place text rest v v r
            (cond_then r.opened.constructed _ _ _ (constructed_form body (segment_tag kind) scope r.opened r.spot _ r.reads) r.reads)
      ];
}

-- ---- strings

abbrev segments_body : StringKind → BodyOf Gathered
segments_body kind = all_items_at (segment_at kind 32) some_gathered nothing

segments_found : (kind : StringKind) (tag : tags.Tag) → Found (constructed_at (segments_body kind) tag) (ConstructedBy tag (SegmentsAre kind 32 nothing))
segments_found kind tag = constructed_found (segments_body kind) tag (SegmentsAre kind 32 nothing) (all_found (segment_at kind 32) some_gathered (SegmentIs kind 32) nothing (segment_found kind 32))

segments_only : (kind : StringKind) (tag : tags.Tag) → is_no_tag tag.class tag.number ≡ false → Only (OfTag tag) (constructed_at (segments_body kind) tag) (ConstructedBy tag (SegmentsAre kind 32 nothing))
segments_only kind tag tagged = constructed_only (segments_body kind) tag (SegmentsAre kind 32 nothing) tagged (all_only (OfTag (segment_tag kind)) (segment_at kind 32) some_gathered (SegmentIs kind 32) nothing (segment_only kind 32))

record InSegments (kind : StringKind) (whole : Gathered → Option Value) (tag : tags.Tag) (scope : Scope) (o : Opened) (s : Spot) (v : Value) (to : Spot) : Type 0 where
  all : Gathered
  lax : scope.strict ≡ false
  is : whole all ≡ Some v
  reads : constructed_at (segments_body kind) tag scope o s ≡ Ok (all, to)

segmented_is : (kind : StringKind) (whole : Gathered → Option Value) (tag : tags.Tag) (scope : Scope) (o : Opened) (s : Spot) (v : Value) (to : Spot) → segmented_at kind whole tag scope o s ≡ Ok (v, to) → InSegments kind whole tag scope o s v to
unfolding segmented_at
segmented_is kind whole tag scope o s v to e =
    let b1 = bind_ok (expect_at tag true o) _ (v, to) e in
    let b2 = bind_ok (form_at scope o.start.place false) _ (v, to) b1.2 in
    let b3 = bind_ok (extent_at scope s.place s.rest) _ (v, to) b2.2 in
    let b4 = bind_ok (segments_body kind b3.0.0 b3.0.1) _ (v, to) b3.2 in
    let b5 = bind_ok (some_or_refuse o.start.place (λ (x : Value). x) (whole b4.0.0)) _ (v, to) b4.2 in
    let same = ok_is {A = Value × Spot} (b5.0, b4.0.1) (v, to) b5.2 in
    let read : constructed_at (segments_body kind) tag scope o s ≡ Ok (b4.0.0, b4.0.1) =
    bind_is (expect_at tag true o) (λ _. extent_at scope s.place s.rest >>= λ x. segments_body kind x.0 x.1) b1.0 b1.1 ∙ bind_is (extent_at scope s.place s.rest) (λ x. segments_body kind x.0 x.1) b3.0 b3.1 ∙ b4.1 in
    record {
      all = b4.0.0;
      lax = form_lax scope o.start.place b2.0 b2.1;
      is = judge_is o.start.place (whole b4.0.0) b5.0 b5.1 ∙ ap (λ (x : Value × Spot). Some x.0) same;
      reads = read ∙ ap (λ (x : Value × Spot). Ok (b4.0.0, x.1)) same;
    }

segmented_again : (kind : StringKind) (whole : Gathered → Option Value) (tag : tags.Tag) (scope : Scope) (o : Opened) (s : Spot) (g : Gathered) (v : Value) (to : Spot) → scope.strict ≡ false → whole g ≡ Some v
    → constructed_at (segments_body kind) tag scope o s ≡ Ok (g, to) → segmented_at kind whole tag scope o s ≡ Ok (v, to)
unfolding segmented_at
segmented_again kind whole tag scope o s g v to lax is e =
    let b1 = bind_ok (expect_at tag true o) (λ _. extent_at scope s.place s.rest >>= λ x. segments_body kind x.0 x.1) (g, to) e in
    let b2 = bind_ok (extent_at scope s.place s.rest) (λ x. segments_body kind x.0 x.1) (g, to) b1.2 in
    bind_is (expect_at tag true o) _ b1.0 b1.1
    ∙ bind_is (form_at scope o.start.place false) _ tt (form_passes scope o.start.place false (λ k. absurd (let wrong : false ≡ true = sym lax ∙ k in cc)))
    ∙ bind_is (extent_at scope s.place s.rest) _ b2.0 b2.1
    ∙ bind_is (segments_body kind b2.0.0 b2.0.1) _ (g, to) b2.2
    ∙ bind_is (some_or_refuse o.start.place (λ (x : Value). x) (whole g)) _ v (ap (some_or_refuse o.start.place (λ (x : Value). x)) is)

pub string_found : (kind : StringKind) (whole : Gathered → Option Value) (canonical : List ℕ → Bool) (tag : tags.Tag) → Found (string_at kind whole canonical tag) (StringIs kind whole canonical tag)
unfolding string_at
string_found kind whole canonical tag = record {
  found = λ scope place rest o s v to are opens e.
      elim (chosen_ok o.constructed _ _ (v, to) e) [
        | inl t ↦
            let i = segmented_is kind whole tag scope o s v to t.1 in
            let r = (segments_found kind tag).found scope place rest o s i.all to are opens i.reads in
            record { text = r.text; taken = r.taken; spelled = inr (i.lax, i.all, i.is, r.spelled); is_in = r.is_in }
        | inr t ↦
            let r = (prim_found (string_rule kind whole) canonical tag (λ strict w contents. (string_rule kind whole contents ≡ Some w) × (strict ≡ true → canonical contents ≡ true)) (λ strict c w o ruled k. (ruled, k))).found scope place rest o s v to are opens t.1 in
            record { text = r.text; taken = r.taken; spelled = inl r.spelled; is_in = r.is_in }
      ];
}

pub string_only : (kind : StringKind) (whole : Gathered → Option Value) (canonical : List ℕ → Bool) (tag : tags.Tag) → is_no_tag tag.class tag.number ≡ false → Only (OfTag tag) (string_at kind whole canonical tag) (StringIs kind whole canonical tag)
unfolding string_at
string_only kind whole canonical tag tagged = record {
  only = λ scope place v text rest p here.
      elim p [
        | inl f ↦
            let r = (prim_only (string_rule kind whole) canonical tag (λ strict w contents. (string_rule kind whole contents ≡ Some w) × (strict ≡ true → canonical contents ≡ true)) tagged (λ strict c w ruled. ruled)).only scope place v text rest f here in
            back_as (OfTag tag) (primitive_at (string_rule kind whole) canonical tag) (string_at kind whole canonical tag) scope place text rest v v r
            (cond_else r.opened.constructed _ _ _ (prim_form (string_rule kind whole) canonical tag scope r.opened r.spot _ r.reads) r.reads)
        | inr f ↦
            let r = (segments_only kind tag tagged).only scope place f.1 text rest f.3 here in
            back_as (OfTag tag) (constructed_at (segments_body kind) tag) (string_at kind whole canonical tag) scope place text rest f.1 v r
            (cond_then r.opened.constructed _ _ _ (constructed_form (segments_body kind) tag scope r.opened r.spot _ r.reads) (segmented_again kind whole tag scope r.opened r.spot f.1 v _ f.0 f.2 r.reads))
      ];
}

-- ---- SEQUENCE OF

list_step_found : (inner : Reader) (rel : Spelled) → Found (inner plain) (rel plain) → (before : List Value) → Found (list_item_at inner before) (ListStep rel before)
list_step_found inner rel h before = record {
  found = λ scope place rest o s vs to are opens e.
      let b = bind_ok (inner plain scope o s) (λ v. Ok (before ++ v.0 ∷ [], v.1)) (vs, to) e in
      let same = ok_is {A = List Value × Spot} (before ++ b.0.0 ∷ [], b.0.1) (vs, to) b.2 in
      let r = h.found scope place rest o s b.0.0 b.0.1 are opens b.1 in
      subst (λ (y : List Value × Spot). ReadAs (ListStep rel before) scope place rest y.0 y.1) same (record { text = r.text; taken = r.taken; spelled = (b.0.0, refl, r.spelled); is_in = r.is_in });
}

pub list_found : (inner : Reader) (rel : Spelled) (tag : tags.Tag) → Found (inner plain) (rel plain) → Found (list_at inner tag) (λ strict levels v text. IsConstructed tag strict levels (ListIs rel strict v) text)
list_found inner rel tag h = constructed_found (all_items_at (list_item_at inner) list_done []) tag (ItemsAre list_done (ListStep rel) []) (all_found (list_item_at inner) list_done (ListStep rel) [] (list_step_found inner rel h))

list_step_only : (B : Class → ℕ → Type 0) (inner : Reader) (rel : Spelled) → Only B (inner plain) (rel plain) → (before : List Value) → Only B (list_item_at inner before) (ListStep rel before)
list_step_only B inner rel h before = record {
  only = λ scope place vs text rest p here.
      let r = h.only scope place p.0 text rest p.2 here in
      back_as B (inner plain) (list_item_at inner before) scope place text rest p.0 vs r
      (rw r.reads (ap (λ (y : List Value). Ok (y, record { place = place + length text; rest = rest })) (sym p.1)));
}

pub list_only : (B : Class → ℕ → Type 0) (inner : Reader) (rel : Spelled) (tag : tags.Tag) → is_no_tag tag.class tag.number ≡ false → Only B (inner plain) (rel plain) → Only (OfTag tag) (list_at inner tag) (λ strict levels v text. IsConstructed tag strict levels (ListIs rel strict v) text)
list_only B inner rel tag tagged h = constructed_only (all_items_at (list_item_at inner) list_done []) tag (ItemsAre list_done (ListStep rel) []) tagged (all_only B (list_item_at inner) list_done (ListStep rel) [] (list_step_only B inner rel h))

-- ---- SET OF

set_step_found : (spell : Value → List ℕ) (inner : Reader) (rel : Spelled) → Found (inner plain) (rel plain) → (before : List Value) → Found (set_item_at spell inner before) (SetItemStep spell rel before)
set_step_found spell inner rel h before = record {
  found = λ scope place rest o s vs to are opens e.
      let b = bind_ok (inner plain scope o s) (λ v. form_at scope o.start.place (behind_last spell before v.0) >>= λ _. Ok (before ++ v.0 ∷ [], v.1)) (vs, to) e in
      let f = bind_ok (form_at scope o.start.place (behind_last spell before b.0.0)) (λ _. Ok (before ++ b.0.0 ∷ [], b.0.1)) (vs, to) b.2 in
      let same = ok_is {A = List Value × Spot} (before ++ b.0.0 ∷ [], b.0.1) (vs, to) f.2 in
      let r = h.found scope place rest o s b.0.0 b.0.1 are opens b.1 in
      subst (λ (y : List Value × Spot). ReadAs (SetItemStep spell rel before) scope place rest y.0 y.1) same (record {
        text = r.text;
        taken = r.taken;
        spelled = (b.0.0, refl, r.spelled, form_ok scope o.start.place (behind_last spell before b.0.0) f.0 f.1);
        is_in = r.is_in;
      });
}

pub set_of_found : (spell : Value → List ℕ) (inner : Reader) (rel : Spelled) (tag : tags.Tag) → Found (inner plain) (rel plain) → Found (set_of_at spell inner tag) (λ strict levels v text. IsConstructed tag strict levels (SetOfIs spell rel strict v) text)
set_of_found spell inner rel tag h =
    constructed_found (all_items_at (set_item_at spell inner) (set_of_done spell) []) tag (ItemsAre (set_of_done spell) (SetItemStep spell rel) []) (all_found (set_item_at spell inner) (set_of_done spell) (SetItemStep spell rel) [] (set_step_found spell inner rel h))

set_step_only : (spell : Value → List ℕ) (B : Class → ℕ → Type 0) (inner : Reader) (rel : Spelled) → Only B (inner plain) (rel plain) → (before : List Value) → Only B (set_item_at spell inner before) (SetItemStep spell rel before)
set_step_only spell B inner rel h before = record {
  only = λ scope place vs text rest p here.
      let r = h.only scope place p.0 text rest p.2 here in
      back_as B (inner plain) (set_item_at spell inner before) scope place text rest p.0 vs r
      (rw (r.reads, form_passes scope r.opened.start.place (behind_last spell before p.0) p.3) (ap (λ (y : List Value). Ok (y, record { place = place + length text; rest = rest })) (sym p.1)));
}

pub set_of_only : (spell : Value → List ℕ) (B : Class → ℕ → Type 0) (inner : Reader) (rel : Spelled) (tag : tags.Tag) → is_no_tag tag.class tag.number ≡ false → Only B (inner plain) (rel plain) → Only (OfTag tag) (set_of_at spell inner tag) (λ strict levels v text. IsConstructed tag strict levels (SetOfIs spell rel strict v) text)
set_of_only spell B inner rel tag tagged h =
    constructed_only (all_items_at (set_item_at spell inner) (set_of_done spell) []) tag (ItemsAre (set_of_done spell) (SetItemStep spell rel) []) tagged (all_only B (set_item_at spell inner) (set_of_done spell) (SetItemStep spell rel) [] (set_step_only spell B inner rel h))

-- ---- it stays so

pub prim_grows : {A : Type 0} (rule : List ℕ → Option A) (canonical : List ℕ → Bool) (tag : tags.Tag) → GrowsRun (primitive_at rule canonical tag)
unfolding primitive_at
prim_grows {A} rule canonical tag = record {
  grows = λ scope o s more.
      Grows-same (with_spot more) (expect_at tag false o) _ _ (λ u e.
      Grows-bind (with_contents more) (with_spot more) (contents_at scope s.place s.rest) (contents_at scope s.place (s.rest ++ more)) _ _ (contents_grow scope s.place s.rest more) (λ c e.
      Grows-same (with_spot more) (some_or_refuse c.0 (λ (x : A). x) (rule c.1)) _ _ (λ v e.
      Grows-same (with_spot more) (form_at scope c.0 (canonical c.1)) _ _ (λ f e. refl))));
}

segment_grows : (kind : StringKind) (depth : ℕ) (before : Gathered) → GrowsRun (segment_at kind depth before)
unfolding segment_at
segment_grows kind zero before = record { grows = λ scope o s more. refl }
segment_grows kind (suc depth) before = record {
  grows = λ scope o s more.
      Grows-cond (with_spot more) o.constructed _ _ _ _
      (λ t. (constructed_grows (all_items_at (segment_at kind depth) some_gathered before) (segment_tag kind) (all_grow (segment_at kind depth) some_gathered (segment_grows kind depth) before)).grows scope o s more)
      (λ t. (prim_grows (segment_rule kind before) always (segment_tag kind)).grows scope o s more);
}

pub string_grows : (kind : StringKind) (whole : Gathered → Option Value) (canonical : List ℕ → Bool) (tag : tags.Tag) → GrowsRun (string_at kind whole canonical tag)
unfolding string_at segmented_at
string_grows kind whole canonical tag = record {
  grows = λ scope o s more.
      Grows-cond (with_spot more) o.constructed _ _ _ _
      (λ t. Grows-same (with_spot more) (expect_at tag true o) _ _ (λ u e.
      Grows-same (with_spot more) (form_at scope o.start.place false) _ _ (λ f e.
      Grows-bind (with_spot more) (with_spot more) (extent_at scope s.place s.rest) (extent_at scope s.place (s.rest ++ more)) _ _ (extent_grows scope s.place s.rest more) (λ x e.
      Grows-bind (with_spot more) (with_spot more) (segments_body kind x.0 x.1) (segments_body kind x.0 (grown more x.1)) _ _ ((all_grow (segment_at kind 32) some_gathered (segment_grows kind 32) nothing).grows x.0 x.1 more) (λ g e.
      Grows-same (with_spot more) (some_or_refuse o.start.place (λ (y : Value). y) (whole g.0)) _ _ (λ v e. refl))))))
      (λ t. (prim_grows (string_rule kind whole) canonical tag).grows scope o s more);
}

list_step_grows : (inner : Reader) → GrowsRun (inner plain) → (before : List Value) → GrowsRun (list_item_at inner before)
list_step_grows inner h before = record {
  grows = λ scope o s more.
      Grows-bind (with_spot more) (with_spot more) (inner plain scope o s) (inner plain scope (grown_opened more o) (grown more s)) _ _ (h.grows scope o s more) (λ v e. refl);
}

pub list_grows : (inner : Reader) (tag : tags.Tag) → GrowsRun (inner plain) → GrowsRun (list_at inner tag)
list_grows inner tag h = constructed_grows (all_items_at (list_item_at inner) list_done []) tag (all_grow (list_item_at inner) list_done (list_step_grows inner h) [])

set_step_grows : (spell : Value → List ℕ) (inner : Reader) → GrowsRun (inner plain) → (before : List Value) → GrowsRun (set_item_at spell inner before)
set_step_grows spell inner h before = record {
  grows = λ scope o s more.
      Grows-bind (with_spot more) (with_spot more) (inner plain scope o s) (inner plain scope (grown_opened more o) (grown more s)) _ _ (h.grows scope o s more) (λ v e.
      Grows-same (with_spot more) (form_at scope o.start.place (behind_last spell before v.0)) _ _ (λ f e. refl));
}

pub set_of_grows : (spell : Value → List ℕ) (inner : Reader) (tag : tags.Tag) → GrowsRun (inner plain) → GrowsRun (set_of_at spell inner tag)
set_of_grows spell inner tag h = constructed_grows (all_items_at (set_item_at spell inner) (set_of_done spell) []) tag (all_grow (set_item_at spell inner) (set_of_done spell) (set_step_grows spell inner h) [])
