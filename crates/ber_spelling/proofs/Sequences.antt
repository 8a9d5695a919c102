-- SEQUENCE and CHOICE: what is read is spelled so, and what is spelled so is read.
use Rattle.std.proofs.Common.{◌≡◌, ℕ, suc, ◌+◌, Bool, true, cond, List, [], ◌∷◌, ◌++◌, length, Option, Some, None, Ok, Err, refl, sym, ap, ◌∙◌, subst, arith, append_assoc, length-append, inl, inr}
use Rattle.std.specs.Prelude.{slice_get}
use Rattle.osi_base.specs.declared.layer_words.Kind.TheVariants.{Missing}
use Rattle.asn1_types.specs.declared.row.Class.{Class}
use Rattle.asn1_types.specs.declared.row.Part.{Part}
use Rattle.asn1_types.specs.Defaults.{may_be_absent, kept}
use Rattle.asn1_types.specs.Value.{Value, parts, chosen}
use Rattle.asn1_types.specs.ValueView.{parts_of}
use Rattle.ber_spelling.specs.declared.fault.ReadFault.TheVariants as faults
use Rattle.ber_spelling.specs.declared.spot.Scope.{Scope}
use Rattle.osi_base.specs.Octets.{AreOctets}
use Rattle.ber_spelling.specs.Reading.{Spot, Opened, Ahead, ended, begun, Reading, ◌>>=◌}
use Rattle.ber_spelling.specs.Fields.{look_at}
use Rattle.ber_spelling.specs.Rules.{Reader, end_ahead, is_part, place_of, present_at, part_at, parts_at, choice_at, Guise, bare, plain}
use Rattle.ber_spelling.specs.Spelling.{Spelled, PartIs, PartsAre, SequenceIs, ChoiceIs}
use Rattle.ber_spelling.proofs.Identifiers.{IsIn, Taken, bind_ok, chosen_ok, ok_is, done}
use Rattle.ber_spelling.proofs.Ends.{closing, Closes, EndFound, BeginFound, AheadFound, look_found}
use Rattle.ber_spelling.proofs.Steady.{ReadAs, Found, taken_octets, taken_then}
use Rattle.ber_spelling.proofs.Constructed.{Body, ContentsAs, BodyFound, last_ended}

abbrev pub Begins : Type 0
Begins = ℕ → Class → ℕ → Bool

abbrev pub sequence_body : Begins → (ℕ → Reader) → List Part → Body
sequence_body begins inner ps scope s =
    look_at scope s.place s.rest >>= λ a. parts_at begins inner scope a ps >>= λ found. Ok (parts (parts_of found.0), found.1)

-- parts that were read from what stands ahead at a place
pub record PartsAs (rel : ℕ → Spelled) (ps : List Part) (scope : Scope) (place : ℕ) (rest : List ℕ) (vs : List (Option Value)) (to : Spot) : Type 0 where
  pub contents : List ℕ
  pub taken : Taken place rest (contents ++ closing scope.marked) to
  pub spelled : PartsAre rel scope.strict scope.levels ps (parts_of vs) contents
  pub closes : Closes scope (place + length contents)
  pub is_in : IsIn scope to.place

module _ (begins : Begins) (inner : ℕ → Reader) (rel : ℕ → Spelled) (h : (n : ℕ) (t : Guise) → Found (inner n t) (rel n t)) where
  no_more : (scope : Scope) (place : ℕ) (rest : List ℕ) (a : Ahead) (vs : List (Option Value)) (to : Spot) → AheadFound scope place rest a → parts_at begins inner scope a [] ≡ Ok (vs, to) → PartsAs rel [] scope place rest vs to
  unfolding parts_at
  no_more scope place rest a vs to f e =
      let b = bind_ok (end_ahead a) _ (vs, to) e in
      let l = last_ended a b.0 b.1 in
      let g : EndFound scope place rest l.0 b.0 = subst (AheadFound scope place rest) l.1 f in
      let same = ok_is {A = List (Option Value) × Spot} ([], b.0) (vs, to) b.2 in
      subst (λ (y : List (Option Value) × Spot). PartsAs rel [] scope place rest y.0 y.1) same (record {
        contents = [];
        taken = g.taken;
        spelled = refl;
        closes = subst (Closes scope) (omega arith) g.closes;
        is_in = g.is_in;
      })

  is_begun : (p : Part) (a : Ahead) → is_part begins p a ≡ true → (o : Opened) × (s : Spot) × (a ≡ begun o s)
  is_begun p (ended place after) e = absurd cc
  is_begun p (begun o s) e = (o, s, refl)

  -- one part, and those behind it
  put_first : (p : Part) (ps : List Part) (strict : Bool) (levels : ℕ) (o : Option Value) (os : List (Option Value)) (first others : List ℕ)
      → PartIs (rel p.inner.0) strict levels p o first → PartsAre rel strict levels ps (parts_of os) others → PartsAre rel strict levels (p ∷ ps) (parts_of (o ∷ os)) (first ++ others)
  put_first p ps strict levels None os first others x y = (first, others, refl, x, y)
  put_first p ps strict levels (Some v) os first others x y = (first, others, refl, x, y)

  -- a part that is there, and those behind it
  present_found : (p : Part) (ps : List Part) (scope : Scope) (place : ℕ) (rest : List ℕ) (a next : Ahead) (o : Option Value) (vs : List (Option Value)) (to : Spot) → AreOctets rest → IsIn scope place → AheadFound scope place rest a
      → is_part begins p a ≡ true → present_at (inner p.inner.0) p scope a ≡ Ok (o, next)
      → ((mid : Spot) → AreOctets mid.rest → IsIn scope mid.place → look_at scope mid.place mid.rest ≡ Ok next → PartsAs rel ps scope mid.place mid.rest vs to)
      → PartsAs rel (p ∷ ps) scope place rest (o ∷ vs) to
  present_found p ps scope place rest a next o vs to are here f t e others =
      let g = is_begun p a t in
      let bf : BeginFound scope place rest g.0 g.1 = subst (AheadFound scope place rest) g.2 f in
      let read : present_at (inner p.inner.0) p scope (begun g.0 g.1) ≡ Ok (o, next) = ap (present_at (inner p.inner.0) p scope) (sym g.2) ∙ e in
      let b1 = bind_ok (inner p.inner.0 (bare p.default) scope g.0 g.1) (λ v. look_at scope v.1.place v.1.rest >>= λ a. Ok (kept p v.0, a)) (o, next) read in
      let v : Value = b1.0.0 in
      let mid : Spot = b1.0.1 in
      let b2 = bind_ok (look_at scope mid.place mid.rest) (λ a. Ok (kept p v, a)) (o, next) b1.2 in
      let same = ok_is {A = Option Value × Ahead} (kept p v, b2.0) (o, next) b2.2 in
      let o-is : kept p v ≡ o = ap (λ (x : Option Value × Ahead). x.0) same in
      let next-is : b2.0 ≡ next = ap (λ (x : Option Value × Ahead). x.1) same in
      let r = (h p.inner.0 (bare p.default)).found scope place rest g.0 g.1 v mid are bf.opens b1.1 in
      let ih = others mid (taken_octets place rest r.text mid r.taken are) r.is_in (b2.1 ∙ ap (λ (x : Ahead). Ok x) next-is) in
      subst (λ (y : Option Value). PartsAs rel (p ∷ ps) scope place rest (y ∷ vs) to) o-is (record {
        contents = r.text ++ ih.contents;
        taken = subst (λ (y : List ℕ). Taken place rest y to) (sym (append_assoc r.text ih.contents (closing scope.marked))) (taken_then place rest r.text (ih.contents ++ closing scope.marked) mid to r.taken ih.taken);
        spelled = put_first p ps scope.strict scope.levels (kept p v) vs r.text ih.contents (inr (v, refl, r.spelled)) ih.spelled;
        closes = subst (Closes scope) (omega (arith, r.taken.onward, length-append r.text ih.contents)) ih.closes;
        is_in = ih.is_in;
      })

  -- a part that is left out
  absent_found : (p : Part) (ps : List Part) (scope : Scope) (place : ℕ) (rest : List ℕ) (a next : Ahead) (o : Option Value) (vs : List (Option Value)) (to : Spot)
      → cond {A = Reading (Option Value × Ahead)} (may_be_absent p) (Ok (None, a)) (Err (faults.NotSpelled (place_of a) Missing)) ≡ Ok (o, next)
      → (next ≡ a → PartsAs rel ps scope place rest vs to)
      → PartsAs rel (p ∷ ps) scope place rest (o ∷ vs) to
  absent_found p ps scope place rest a next o vs to e others =
      elim (chosen_ok {A = Option Value × Ahead} (may_be_absent p) (Ok (None, a)) (Err (faults.NotSpelled (place_of a) Missing)) (o, next) e) [
        | inl t ↦
            let same = ok_is {A = Option Value × Ahead} (None, a) (o, next) t.1 in
            let ih = others (ap (λ (x : Option Value × Ahead). x.1) (sym same)) in
            subst (λ (y : Option Value × Ahead). PartsAs rel (p ∷ ps) scope place rest (y.0 ∷ vs) to) same (record {
              contents = ih.contents;
              taken = ih.taken;
              spelled = ([], ih.contents, refl, inl (t.0, refl, refl), ih.spelled);
              closes = ih.closes;
              is_in = ih.is_in;
            })
        | inr t ↦ absurd (let wrong : Err (faults.NotSpelled (place_of a) Missing) ≡ done {A = Option Value × Ahead} (o, next) = t.1 in cc)
      ]

  pub parts_found : (ps : List Part) (scope : Scope) (place : ℕ) (rest : List ℕ) (a : Ahead) (vs : List (Option Value)) (to : Spot) → AreOctets rest → IsIn scope place → look_at scope place rest ≡ Ok a
      → parts_at begins inner scope a ps ≡ Ok (vs, to) → PartsAs rel ps scope place rest vs to
  unfolding parts_at part_at
  parts_found [] scope place rest a vs to are here look e = no_more scope place rest a vs to (look_found scope place rest a here look) e
  parts_found (p ∷ ps) scope place rest a vs to are here look e =
      let b = bind_ok (part_at begins (inner p.inner.0) p scope a) _ (vs, to) e in
      let next : Ahead = b.0.1 in
      let c = bind_ok (parts_at begins inner scope next ps) _ (vs, to) b.2 in
      let same = ok_is {A = List (Option Value) × Spot} (b.0.0 ∷ c.0.0, c.0.1) (vs, to) c.2 in
      subst (λ (y : List (Option Value) × Spot). PartsAs rel (p ∷ ps) scope place rest y.0 y.1) same
      (elim (chosen_ok (is_part begins p a) (present_at (inner p.inner.0) p scope a) _ b.0 b.1) [
        | inl t ↦ present_found p ps scope place rest a next b.0.0 c.0.0 c.0.1 are here (look_found scope place rest a here look) t.0 t.1
            (λ mid o i l. parts_found ps scope mid.place mid.rest next c.0.0 c.0.1 o i l c.1)
        | inr t ↦ absent_found p ps scope place rest a next b.0.0 c.0.0 c.0.1 t.1
            (λ n. parts_found ps scope place rest a c.0.0 c.0.1 are here look (ap (λ (x : Ahead). parts_at begins inner scope x ps) (sym n) ∙ c.1))
      ])

  pub sequence_found : (ps : List Part) → BodyFound (sequence_body begins inner ps) (λ strict levels v c. SequenceIs rel strict ps v levels c)
  sequence_found ps = record {
    found = λ scope s v to are here e.
        let b = bind_ok (look_at scope s.place s.rest) _ (v, to) e in
        let c = bind_ok (parts_at begins inner scope b.0 ps) (λ found. Ok (parts (parts_of found.0), found.1)) (v, to) b.2 in
        let same = ok_is {A = Value × Spot} (parts (parts_of c.0.0), c.0.1) (v, to) c.2 in
        let f = parts_found ps scope s.place s.rest b.0 c.0.0 c.0.1 are here b.1 c.1 in
        subst (λ (y : Value × Spot). ContentsAs (λ strict levels v c. SequenceIs rel strict ps v levels c) scope s.place s.rest y.0 y.1) same (record {
          contents = f.contents;
          taken = f.taken;
          spelled = f.spelled;
          closes = f.closes;
          is_in = f.is_in;
        });
  }

  -- the alternative that was read, counted from `which`
  pub choice_at_found : (all ps : List Part) (which : ℕ) → ((i : ℕ) (p : Part) → slice_get ps i ≡ Some p → slice_get all (which + i) ≡ Some p)
      → Found (choice_at begins inner which ps) (ChoiceIs rel all)
  unfolding choice_at
  choice_at_found all [] which there = record { found = λ scope place rest o s v to are opens e. absurd cc }
  choice_at_found all (p ∷ ps) which there = record {
    found = λ scope place rest o s v to are opens e.
        elim (chosen_ok (begins p.inner.0 o.class o.number) _ _ (v, to) e) [
          | inl t ↦
              let b = bind_ok (inner p.inner.0 plain scope o s) (λ x. Ok (chosen which x.0, x.1)) (v, to) t.1 in
              let same = ok_is {A = Value × Spot} (chosen which b.0.0, b.0.1) (v, to) b.2 in
              let r = (h p.inner.0 plain).found scope place rest o s b.0.0 b.0.1 are opens b.1 in
              subst (λ (y : Value × Spot). ReadAs (ChoiceIs rel all) scope place rest y.0 y.1) same (record {
                text = r.text;
                taken = r.taken;
                spelled = (p, (let zero_is : which ≡ which + 0 = omega arith in ap (slice_get all) zero_is ∙ there 0 p refl), r.spelled);
                is_in = r.is_in;
              })
          | inr t ↦ (choice_at_found all ps (suc which) (λ i q g. let next_is : suc which + i ≡ which + suc i = omega arith in ap (slice_get all) next_is ∙ there (suc i) q g)).found scope place rest o s v to are opens t.1
        ];
  }
