-- Strings: a fault of reading is one by the grammar, and the other way round (X.690 8.6, 8.7, 8.23).
use Rattle.std.proofs.Common.{◌≡◌, ℕ, zero, suc, ◌+◌, Bool, true, false, not, ◌&&◌, cond, List, ◌++◌, length, Option, Some, None, Ok, Err, refl, sym, ap, ◌∙◌, subst, arith, append_assoc, length-append, inl, inr}
use Rattle.osi_base.specs.declared.layer_words.Kind.TheVariants.{Tag, Content, Form}
use Rattle.asn1_types.specs.declared.row.Tag as tags
use Rattle.asn1_types.specs.Value.{Value}
use Rattle.ber_spelling.specs.declared.fault.ReadFault.{ReadFault}
use Rattle.ber_spelling.specs.declared.spot.Scope.{Scope}
use Rattle.ber_spelling.specs.declared.spot.StringKind.{StringKind}
use Rattle.ber_spelling.specs.declared.spot.Gathered.{Gathered}
use Rattle.osi_base.specs.Octets.{AreOctets}
use Rattle.ber_spelling.specs.Reading.{Spot, Opened, Reading, ◌>>=◌, refuse}
use Rattle.ber_spelling.specs.Fields.{extent_at}
use Rattle.ber_spelling.specs.Rules.{some_or_refuse, form_at, always, all_items_at, segment_tag, nothing, segment_rule, segment_at, segmented_at, string_rule, string_at}
use Rattle.ber_spelling.specs.Spelling.{SegmentIs}
use Rattle.ber_spelling.proofs.Identifiers.{IsIn, in_before, done}
use Rattle.ber_spelling.proofs.Steady.{OfTag}
use Rattle.ber_spelling.proofs.Ends.{closing, Closes}
use Rattle.ber_spelling.proofs.Constructed.{BodyOf, BodyFound, BodyOnly}
use Rattle.ber_spelling.proofs.Items.{all_found, all_only}
use Rattle.ber_spelling.proofs.Segments.{segment_found, segment_only}
use Rattle.ber_faults.specs.Fields.{IsWithin}
use Rattle.ber_faults.specs.Values.{WrongIn, IsAt, ItemsFault, every_state, SegmentContents, SegmentFault, SegmentsAre, SegmentsFault, StringContents, StringFault}
use Rattle.ber_faults.proofs.Steps.{bind_err, bind_fails, bind_goes, cond_err, cond_yes, cond_no, failed, not_err, in_within, within_in}
use Rattle.ber_faults.proofs.Ends.{ends_of, closes_of, closing_of}
use Rattle.ber_faults.proofs.Readers.{Finds, Tells, BodyFinds, BodyTells, step_finds, step_tells, option_cases, refused, refusal_is, tag_err, tag_fails, primitive_finds, primitive_tells, constructed_finds, constructed_tells, body_err, body_fails}
use Rattle.ber_faults.proofs.Items.{all_finds, all_tells}

-- ---- segments

segment_right : (kind : StringKind) (before : Gathered) (strict : Bool) (c : List ℕ) (g : Gathered) → AreOctets c → segment_rule kind before c ≡ Some g → (strict ≡ true → always c ≡ true) → SegmentContents kind before strict c
segment_right kind before strict c g are e k = (g, e)

segment_back : (kind : StringKind) (before : Gathered) (strict : Bool) (c : List ℕ) → SegmentContents kind before strict c → (g : Gathered) × (segment_rule kind before c ≡ Some g) × (strict ≡ true → always c ≡ true)
segment_back kind before strict c p = (p.0, p.1, λ k. refl)

abbrev SegmentsIn : StringKind → ℕ → Gathered → WrongIn
SegmentsIn kind depth before x b f = ItemsFault (SegmentIs kind depth) every_state (SegmentFault kind depth) x before b f

pub segment_finds : (kind : StringKind) (depth : ℕ) (before : Gathered) → Finds (segment_at kind depth before) (SegmentFault kind depth before)
unfolding segment_at
segment_finds kind zero before = record { finds = λ scope o s f ne are here e. refusal_is {A = Gathered × Spot} o.start.place Tag f e }
segment_finds kind (suc depth) before = record {
  finds = λ scope o s f ne are here e.
      elim (cond_err o.constructed _ _ f e) [
        | inl t ↦ inl (
          t.0,
          (constructed_finds (all_items_at (segment_at kind depth) every_state before) (segment_tag kind) (SegmentsIn kind depth before)
              (all_finds (segment_at kind depth) every_state (SegmentIs kind depth) (SegmentFault kind depth) (segment_found kind depth) (λ g. step_finds (segment_at kind depth g) (SegmentFault kind depth g) (segment_finds kind depth g)) before)).finds scope o s f ne are here t.1,
        )
        | inr t ↦ inr (t.0, (primitive_finds (segment_rule kind before) always (SegmentContents kind before) (segment_right kind before) (segment_back kind before) (segment_tag kind)).finds scope o s f ne are here t.1)
      ];
}

pub segment_tells : (kind : StringKind) (depth : ℕ) (before : Gathered) → Tells (segment_at kind depth before) (SegmentFault kind depth before)
unfolding segment_at
segment_tells kind zero before = record { tells = λ scope o s f are here w. refused {A = Gathered × Spot} o.start.place Tag f w }
segment_tells kind (suc depth) before = record {
  tells = λ scope o s f are here w.
      elim w [
        | inl t ↦ cond_yes o.constructed _ _ _ t.0 ((constructed_tells (all_items_at (segment_at kind depth) every_state before) (segment_tag kind) (SegmentsIn kind depth before)
            (all_tells (segment_at kind depth) every_state (SegmentIs kind depth) (SegmentFault kind depth) (OfTag (segment_tag kind)) (segment_only kind depth) (λ g. step_tells (segment_at kind depth g) (SegmentFault kind depth g) (segment_tells kind depth g)) before)).tells scope o s f are here t.1)
        | inr t ↦ cond_no o.constructed _ _ _ t.0 ((primitive_tells (segment_rule kind before) always (SegmentContents kind before) (segment_right kind before) (segment_back kind before) (segment_tag kind)).tells scope o s f are here t.1)
      ];
}

-- ---- all segments together

abbrev segments : StringKind → BodyOf Gathered
segments kind = all_items_at (segment_at kind 32) every_state nothing

abbrev together : (Gathered → Option Value) → ℕ → Gathered × Spot → Reading (Value × Spot)
together whole place g = some_or_refuse place (λ (v : Value). v) (whole g.0) >>= λ v. done {A = Value × Spot} (v, g.1)

abbrev judged : StringKind → (Gathered → Option Value) → ℕ → BodyOf Value
judged kind whole place x b = segments kind x b >>= together whole place

segments_found : (kind : StringKind) → BodyFound (segments kind) (SegmentsAre kind)
segments_found kind = all_found (segment_at kind 32) every_state (SegmentIs kind 32) nothing (segment_found kind 32)

segments_only : (kind : StringKind) → BodyOnly (segments kind) (SegmentsAre kind)
segments_only kind = all_only (OfTag (segment_tag kind)) (segment_at kind 32) every_state (SegmentIs kind 32) nothing (segment_only kind 32)

segments_finds : (kind : StringKind) → BodyFinds (segments kind) (SegmentsIn kind 32 nothing)
segments_finds kind = all_finds (segment_at kind 32) every_state (SegmentIs kind 32) (SegmentFault kind 32) (segment_found kind 32) (λ g. step_finds (segment_at kind 32 g) (SegmentFault kind 32 g) (segment_finds kind 32 g)) nothing

segments_tells : (kind : StringKind) → BodyTells (segments kind) (SegmentsIn kind 32 nothing)
segments_tells kind = all_tells (segment_at kind 32) every_state (SegmentIs kind 32) (SegmentFault kind 32) (OfTag (segment_tag kind)) (segment_only kind 32) (λ g. step_tells (segment_at kind 32 g) (SegmentFault kind 32 g) (segment_tells kind 32 g)) nothing

judged_err : (whole : Gathered → Option Value) (place : ℕ) (g : Gathered) (to : Spot) (f : ReadFault) → together whole place (g, to) ≡ Err f → (whole g ≡ None) × IsAt place Content f
judged_err whole place g to f e =
    elim (option_cases (whole g)) [
      | inl t ↦ (t, refusal_is {A = Value × Spot} place Content f (sym (ap (λ (o : Option Value). some_or_refuse place (λ (v : Value). v) o >>= λ v. done {A = Value × Spot} (v, to)) t) ∙ e))
      | inr t ↦ absurd (not_err {A = Value × Spot} (t.0, to) f (sym (ap (λ (o : Option Value). some_or_refuse place (λ (v : Value). v) o >>= λ v. done {A = Value × Spot} (v, to)) t.1) ∙ e))
    ]

judged_fails : (whole : Gathered → Option Value) (place : ℕ) (g : Gathered) (to : Spot) (f : ReadFault) → whole g ≡ None → IsAt place Content f → together whole place (g, to) ≡ Err f
judged_fails whole place g to f none is = ap (λ (o : Option Value). some_or_refuse place (λ (v : Value). v) o >>= λ v. done {A = Value × Spot} (v, to)) none ∙ refused {A = Value × Spot} place Content f is

string_body_finds : (kind : StringKind) (whole : Gathered → Option Value) (place : ℕ) → BodyFinds (judged kind whole place) (SegmentsFault kind whole place)
string_body_finds kind whole place = record {
  finds = λ x b f ne are here e.
      elim (bind_err (segments kind x b) (together whole place) f e) [
        | inl t ↦ inl ((segments_finds kind).finds x b f ne are here t)
        | inr t ↦
            let c = (segments_found kind).found x b t.0.0 t.0.1 are here t.1 in
            let j = judged_err whole place t.0.0 t.0.1 f t.2 in
            let at : ℕ = b.place + length c.contents in
            let onward = c.taken.onward in
            let sum = length-append c.contents (closing x.marked) in
            let last : t.0.1.place ≡ at + length (closing x.marked) = omega arith in
            inr (
              t.0.0,
              record {
                contents = c.contents;
                end = record { place = at; rest = closing x.marked ++ t.0.1.rest };
                behind = t.0.1;
                parts = c.taken.parts ∙ append_assoc c.contents (closing x.marked) t.0.1.rest;
                onward = refl;
                spelled = c.spelled;
                within = within_in x at (in_before x at t.0.1.place (omega arith) c.is_in);
                ends = ends_of x at t.0.1 c.closes last c.is_in;
              },
              j.0,
              j.1,
            )
      ];
}

string_body_tells : (kind : StringKind) (whole : Gathered → Option Value) (place : ℕ) → BodyTells (judged kind whole place) (SegmentsFault kind whole place)
string_body_tells kind whole place = record {
  tells = λ x b f are w.
      elim w [
        | inl t ↦ bind_fails (segments kind x b) (together whole place) f ((segments_tells kind).tells x b f are t)
        | inr t ↦
            let h = t.1 in
            let shape : b.rest ≡ h.contents ++ (closing x.marked ++ h.behind.rest) = h.parts ∙ ap (λ (c : List ℕ). h.contents ++ c) (closing_of x h.end h.behind h.ends) in
            let here : IsIn x (b.place + length h.contents) = in_within x (b.place + length h.contents) (subst (IsWithin x) h.onward h.within) in
            let closes = subst (Closes x) h.onward (closes_of x h.end h.behind h.ends) in
            let read = (segments_only kind).only x b.place t.0 h.contents h.behind.rest h.spelled here closes in
            let whole_read : segments kind x b ≡ Ok (t.0, record { place = b.place + length h.contents + length (closing x.marked); rest = h.behind.rest }) = ap (λ (r : List ℕ). segments kind x (record { place = b.place; rest = r })) shape ∙ read in
            bind_goes (segments kind x b) (together whole place) _ (failed f) whole_read (judged_fails whole place t.0 _ f t.2 t.3)
      ];
}

-- ---- strings

string_right : (kind : StringKind) (whole : Gathered → Option Value) (canonical : List ℕ → Bool) (strict : Bool) (c : List ℕ) (v : Value) → AreOctets c → string_rule kind whole c ≡ Some v → (strict ≡ true → canonical c ≡ true) → StringContents kind whole canonical strict c
string_right kind whole canonical strict c v are e k = (v, e, k)

string_back : (kind : StringKind) (whole : Gathered → Option Value) (canonical : List ℕ → Bool) (strict : Bool) (c : List ℕ) → StringContents kind whole canonical strict c → (v : Value) × (string_rule kind whole c ≡ Some v) × (strict ≡ true → canonical c ≡ true)
string_back kind whole canonical strict c p = p

abbrev behind_form : StringKind → (Gathered → Option Value) → Scope → Opened → Spot → Reading (Value × Spot)
behind_form kind whole scope o s = extent_at scope s.place s.rest >>= λ x. judged kind whole o.start.place x.0 x.1

abbrev behind_tag : StringKind → (Gathered → Option Value) → Scope → Opened → Spot → Unit {0} → Reading (Value × Spot)
behind_tag kind whole scope o s u = form_at scope o.start.place false >>= λ _. behind_form kind whole scope o s

form_fails : (s : Bool) (place : ℕ) (f : ReadFault) → s ≡ true → IsAt place Form f → cond {A = Reading (Unit {0})} (s && not false) (refuse place Form) (Ok tt) ≡ Err f
form_fails true place f e is = refused {A = Unit {0}} place Form f is
form_fails false place f e is = absurd cc

form_passes : (s : Bool) (place : ℕ) → s ≡ false → cond {A = Reading (Unit {0})} (s && not false) (refuse place Form) (Ok tt) ≡ Ok tt
form_passes true place e = absurd cc
form_passes false place e = refl

form_err : (s : Bool) (place : ℕ) (f : ReadFault) → cond {A = Reading (Unit {0})} (s && not false) (refuse place Form) (Ok tt) ≡ Err f → (s ≡ true) × IsAt place Form f
form_err true place f e = (refl, refusal_is {A = Unit {0}} place Form f e)
form_err false place f e = absurd (not_err tt f e)

form_ok : (s : Bool) (place : ℕ) (u : Unit {0}) → cond {A = Reading (Unit {0})} (s && not false) (refuse place Form) (Ok tt) ≡ Ok u → s ≡ false
form_ok true place u e = absurd cc
form_ok false place u e = refl

module _ (kind : StringKind) (whole : Gathered → Option Value) (canonical : List ℕ → Bool) (tag : tags.Tag) where
  pub string_finds : Finds (string_at kind whole canonical tag) (StringFault kind whole canonical tag)
  unfolding string_at segmented_at
  string_finds = record {
    finds = λ scope o s f ne are here e.
        elim (cond_err o.constructed _ _ f e) [
          | inl t ↦ inr (
            t.0,
            elim (tag_err tag true o (behind_tag kind whole scope o s) f t.1) [
              | inl u ↦ inl u
              | inr u ↦ inr (
                u.0,
                elim (bind_err (form_at scope o.start.place false) (λ _. behind_form kind whole scope o s) f u.1) [
                  | inl w ↦ inl (form_err scope.strict o.start.place f w)
                  | inr w ↦ inr (
                    form_ok scope.strict o.start.place w.0 w.1,
                    body_err (judged kind whole o.start.place) (SegmentsFault kind whole o.start.place) (string_body_finds kind whole o.start.place) scope s f ne are w.2,
                  )
                ],
              )
            ],
          )
          | inr t ↦ inl (t.0, (primitive_finds (string_rule kind whole) canonical (StringContents kind whole canonical) (string_right kind whole canonical) (string_back kind whole canonical) tag).finds scope o s f ne are here t.1)
        ];
  }

  pub string_tells : Tells (string_at kind whole canonical tag) (StringFault kind whole canonical tag)
  unfolding string_at segmented_at
  string_tells = record {
    tells = λ scope o s f are here w.
        elim w [
          | inl t ↦ cond_no o.constructed _ _ _ t.0 ((primitive_tells (string_rule kind whole) canonical (StringContents kind whole canonical) (string_right kind whole canonical) (string_back kind whole canonical) tag).tells scope o s f are here t.1)
          | inr t ↦ cond_yes o.constructed _ _ _ t.0 (tag_fails tag true o (behind_tag kind whole scope o s) f (elim t.1 [
            | inl u ↦ inl u
            | inr u ↦ inr (
              u.0,
              elim u.1 [
                | inl k ↦ bind_fails (form_at scope o.start.place false) (λ _. behind_form kind whole scope o s) f (form_fails scope.strict o.start.place f k.0 k.1)
                | inr k ↦ bind_goes (form_at scope o.start.place false) (λ _. behind_form kind whole scope o s) tt (failed f) (form_passes scope.strict o.start.place k.0)
                    (body_fails (judged kind whole o.start.place) (SegmentsFault kind whole o.start.place) (string_body_tells kind whole o.start.place) scope s f are k.1)
              ],
            )
          ]))
        ];
  }
