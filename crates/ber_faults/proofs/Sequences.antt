-- SEQUENCE and CHOICE: a fault of reading is one by the grammar, and the other way round (X.690 8.9, 8.13).
use Rattle.std.proofs.Common.{◌≡◌, ℕ, suc, Bool, true, false, cond, List, [], ◌∷◌, Option, None, Ok, Err, refl, sym, ap, ◌∙◌, subst, inl, inr, ℤ}
use Rattle.osi_base.specs.declared.layer_words.Kind.{Kind}
use Rattle.osi_base.specs.declared.layer_words.Kind.TheVariants.{Tag, Missing, Extra}
use Rattle.asn1_types.specs.declared.row.Class.{Class}
use Rattle.asn1_types.specs.declared.row.Part.{Part}
use Rattle.asn1_types.specs.Defaults.{may_be_absent, kept}
use Rattle.asn1_types.specs.Value.{Value, parts, chosen}
use Rattle.asn1_types.specs.ValueView.{parts_of}
use Rattle.ber_spelling.specs.declared.fault.ReadFault.{ReadFault}
use Rattle.ber_spelling.specs.declared.fault.ReadFault.TheVariants.{NotSpelled, Short}
use Rattle.ber_spelling.specs.declared.spot.Scope.{Scope}
use Rattle.osi_base.specs.Octets.{AreOctets}
use Rattle.ber_spelling.specs.Reading.{Spot, Opened, Ahead, ended, begun, Reading, ◌>>=◌, refuse}
use Rattle.ber_spelling.specs.Fields.{look_at}
use Rattle.ber_spelling.specs.Rules.{Reader, is_part, place_of, part_at, parts_at, choice_at, Guise, bare, plain}
use Rattle.ber_spelling.specs.Spelling.{Spelled}
use Rattle.ber_spelling.proofs.Identifiers.{IsIn, bind_ok, chosen_ok, ok_is, done}
use Rattle.ber_spelling.proofs.Steady.{Found, Only, taken_octets}
use Rattle.ber_spelling.proofs.Sequences.{sequence_body}
use Rattle.ber_faults.specs.Fields.{Begins}
use Rattle.ber_faults.specs.Values.{WrongAs, IsAt, IsNoPart, PartsFault, part_ahead, part_extra, part_missing, part_inside, part_left_out, part_behind, ChoiceFault}
use Rattle.ber_faults.proofs.Steps.{bind_err, bind_fails, bind_goes, cond_err, cond_yes, cond_no, failed, not_err}
use Rattle.ber_faults.proofs.Identifiers.{opens_read}
use Rattle.ber_faults.proofs.Ends.{look_err, look_fails, begins_found, begins_read, ends_found, ends_read}
use Rattle.ber_faults.proofs.Readers.{Finds, Tells, BodyFinds, BodyTells, step_finds, step_tells, refused, refusal_is}
use Rattle.ber_faults.proofs.Items.{stands_of, octets_of_stands, reads_on}

module _ (begins : ℕ → Class → ℕ → Bool) (inner : ℕ → Reader) (rel : ℕ → Spelled) (W : ℕ → WrongAs) where
  abbrev and_look : Scope → Part → Value × Spot → Reading (Option Value × Ahead)
  and_look scope p v = look_at scope v.1.place v.1.rest >>= λ a. done {A = Option Value × Ahead} (kept p v.0, a)

  abbrev and_parts_at : Scope → List Part → Option Value × Ahead → Reading (List (Option Value) × Spot)
  and_parts_at scope ps x = parts_at begins inner scope x.1 ps >>= λ more. done {A = List (Option Value) × Spot} (x.0 ∷ more.0, more.1)

  abbrev Found_all : Type 0
  Found_all = (n : ℕ) (t : Guise) → Found (inner n t) (rel n t)

  abbrev Finds_all : Type 0
  Finds_all = (n : ℕ) (t : Guise) → Finds (inner n t) (W n t)

  starts_at : (scope : Scope) (at : Spot) (o : Opened) (s : Spot) (kind : Kind) (f : ReadFault) → Begins scope at o s → IsAt o.start.place kind f → IsAt at.place kind f
  starts_at scope at o s kind f h is = subst (λ (y : Spot). IsAt y.place kind f) h.opens.starts is

  -- ---- what is read is a fault by the grammar

  module _ (found : Found_all) (finds : Finds_all) (scope : Scope) (p : Part) (ps : List Part) (at : Spot) (f : ReadFault) (ne : f ≡ Short → ⊥) (are : AreOctets at.rest) (here : IsIn scope at.place) where
    absent_err : (a : Ahead) → IsNoPart begins p scope at → (IsAt (place_of a) Missing f → IsAt at.place Missing f)
        → cond (may_be_absent p) (done {A = Option Value × Ahead} (None, a)) (refuse (place_of a) Missing) ≡ Err f → PartsFault begins rel W scope (p ∷ ps) at f
    absent_err a lacking there e =
        elim (cond_err (may_be_absent p) _ _ f e) [
          | inl t ↦ absurd (not_err {A = Option Value × Ahead} (None, a) f t.1)
          | inr t ↦ part_missing p ps at f lacking t.0 (there (refusal_is {A = Option Value × Ahead} (place_of a) Missing f t.1))
        ]

    present_err : (o : Opened) (s : Spot) → Begins scope at o s → begins p.inner.0 o.class o.number ≡ true → (inner p.inner.0 (bare p.default) scope o s >>= and_look scope p) ≡ Err f → PartsFault begins rel W scope (p ∷ ps) at f
    present_err o s h own e =
        elim (bind_err (inner p.inner.0 (bare p.default) scope o s) (and_look scope p) f e) [
          | inl t ↦ part_inside p ps at o s f h own ((step_finds (inner p.inner.0 (bare p.default)) (W p.inner.0 (bare p.default)) (finds p.inner.0 (bare p.default))).finds scope at o s f ne are h t)
          | inr t ↦
              let r = (found p.inner.0 (bare p.default)).found scope at.place at.rest o s t.0.0 t.0.1 are (opens_read scope at.place at.rest o s h.opens) t.1 in
              elim (bind_err (look_at scope t.0.1.place t.0.1.rest) (λ a. done {A = Option Value × Ahead} (kept p t.0.0, a)) f t.2) [
                | inl u ↦ part_behind p ps at t.0.0 t.0.1 f (stands_of (rel p.inner.0 (bare p.default)) scope at t.0.0 t.0.1 r)
                    (part_ahead ps t.0.1 f (look_err scope t.0.1.place t.0.1.rest f ne (taken_octets at.place at.rest r.text t.0.1 r.taken are) u))
                | inr u ↦ absurd (not_err {A = Option Value × Ahead} (kept p t.0.0, u.0) f u.2)
              ]
        ]

    part_err : (a : Ahead) → look_at scope at.place at.rest ≡ Ok a → part_at begins (inner p.inner.0) p scope a ≡ Err f → PartsFault begins rel W scope (p ∷ ps) at f
    unfolding part_at
    part_err (ended q b) look e =
        let x = ends_found scope at q b here look in
        absent_err (ended q b) (inl (b, x.1)) (λ is. subst (λ (n : ℕ). IsAt n Missing f) x.0 is) e
    part_err (begun o s) look e =
        let h = begins_found scope at o s are here look in
        elim (cond_err (begins p.inner.0 o.class o.number) _ _ f e) [
          | inl t ↦ present_err o s h t.0 t.1
          | inr t ↦ absent_err (begun o s) (inr (o, s, h, t.0)) (starts_at scope at o s Missing f h) t.1
        ]

    abbrev Later : Option Value × Ahead → Type 0
    Later x = (m : Spot) → AreOctets m.rest → IsIn scope m.place → look_at scope m.place m.rest ≡ Ok x.1 → PartsFault begins rel W scope ps m f

    absent_goes : (a : Ahead) (x : Option Value × Ahead) → look_at scope at.place at.rest ≡ Ok a → IsNoPart begins p scope at → Later x
        → cond (may_be_absent p) (done {A = Option Value × Ahead} (None, a)) (refuse (place_of a) Missing) ≡ Ok x → PartsFault begins rel W scope (p ∷ ps) at f
    absent_goes a x look lacking later e =
        elim (chosen_ok (may_be_absent p) _ _ x e) [
          | inl t ↦
              let same = ok_is {A = Option Value × Ahead} (None, a) x t.1 in
              part_left_out p ps at f lacking t.0 (later at are here (look ∙ ap (λ (y : Option Value × Ahead). done y.1) same))
          | inr t ↦ absurd (not_err {A = Option Value × Ahead} x (NotSpelled (place_of a) Missing) (sym t.1))
        ]

    part_goes : (a : Ahead) (x : Option Value × Ahead) → look_at scope at.place at.rest ≡ Ok a → part_at begins (inner p.inner.0) p scope a ≡ Ok x → Later x → PartsFault begins rel W scope (p ∷ ps) at f
    unfolding part_at
    part_goes (ended q b) x look e later = let y = ends_found scope at q b here look in absent_goes (ended q b) x look (inl (b, y.1)) later e
    part_goes (begun o s) x look e later =
        let h = begins_found scope at o s are here look in
        elim (chosen_ok (begins p.inner.0 o.class o.number) _ _ x e) [
          | inl t ↦
              let v = bind_ok (inner p.inner.0 (bare p.default) scope o s) (and_look scope p) x t.1 in
              let l = bind_ok (look_at scope v.0.1.place v.0.1.rest) (λ a. done {A = Option Value × Ahead} (kept p v.0.0, a)) x v.2 in
              let same = ok_is {A = Option Value × Ahead} (kept p v.0.0, l.0) x l.2 in
              let r = (found p.inner.0 (bare p.default)).found scope at.place at.rest o s v.0.0 v.0.1 are (opens_read scope at.place at.rest o s h.opens) v.1 in
              part_behind p ps at v.0.0 v.0.1 f (stands_of (rel p.inner.0 (bare p.default)) scope at v.0.0 v.0.1 r)
              (later v.0.1 (taken_octets at.place at.rest r.text v.0.1 r.taken are) r.is_in (l.1 ∙ ap (λ (y : Option Value × Ahead). done y.1) same))
          | inr t ↦ absent_goes (begun o s) x look (inr (o, s, h, t.0)) later t.1
        ]

  parts_err : Found_all → Finds_all → (scope : Scope) (ps : List Part) (at : Spot) (f : ReadFault) → (f ≡ Short → ⊥) → AreOctets at.rest → IsIn scope at.place → (a : Ahead) → look_at scope at.place at.rest ≡ Ok a
      → parts_at begins inner scope a ps ≡ Err f → PartsFault begins rel W scope ps at f
  unfolding parts_at
  parts_err found finds scope [] at f ne are here (ended p b) look e = absurd (not_err {A = List (Option Value) × Spot} ([], b) f e)
  parts_err found finds scope [] at f ne are here (begun o s) look e =
      let h = begins_found scope at o s are here look in
      part_extra at o s f h (starts_at scope at o s Extra f h (refusal_is {A = List (Option Value) × Spot} o.start.place Extra f e))
  parts_err found finds scope (p ∷ ps) at f ne are here a look e =
      elim (bind_err (part_at begins (inner p.inner.0) p scope a) (and_parts_at scope ps) f e) [
        | inl t ↦ part_err found finds scope p ps at f ne are here a look t
        | inr t ↦ elim (bind_err (parts_at begins inner scope t.0.1 ps) (λ more. done {A = List (Option Value) × Spot} (t.0.0 ∷ more.0, more.1)) f t.2) [
          | inl u ↦ part_goes found finds scope p ps at f ne are here a t.0 look t.1 (λ m o i l. parts_err found finds scope ps m f ne o i t.0.1 l u)
          | inr u ↦ absurd (not_err {A = List (Option Value) × Spot} (t.0.0 ∷ u.0.0, u.0.1) f u.2)
        ]
      ]

  abbrev and_value : List (Option Value) × Spot → Reading (Value × Spot)
  and_value found = done {A = Value × Spot} (parts (parts_of found.0), found.1)

  pub sequence_finds : Found_all → Finds_all → (ps : List Part) → BodyFinds (sequence_body begins inner ps) (λ x b f. PartsFault begins rel W x ps b f)
  sequence_finds found finds ps = record {
    finds = λ x b f ne are here e.
        elim (bind_err (look_at x b.place b.rest) (λ a. parts_at begins inner x a ps >>= and_value) f e) [
          | inl t ↦ part_ahead ps b f (look_err x b.place b.rest f ne are t)
          | inr t ↦ elim (bind_err (parts_at begins inner x t.0 ps) and_value f t.2) [
            | inl u ↦ parts_err found finds x ps b f ne are here t.0 t.1 u
            | inr u ↦ absurd (not_err {A = Value × Spot} (parts (parts_of u.0.0), u.0.1) f u.2)
          ]
        ];
  }

  -- ---- a fault by the grammar is read

  abbrev looked : Scope → List Part → Spot → Reading (List (Option Value) × Spot)
  looked scope ps at = look_at scope at.place at.rest >>= λ a. parts_at begins inner scope a ps

  record NoPartAhead (scope : Scope) (p : Part) (at : Spot) : Type 0 where
    ahead : Ahead
    looks : look_at scope at.place at.rest ≡ Ok ahead
    none : is_part begins p ahead ≡ false
    there : place_of ahead ≡ at.place

  no_part_ahead : (scope : Scope) (p : Part) (at : Spot) → IsNoPart begins p scope at → NoPartAhead scope p at
  no_part_ahead scope p at (inl h) = record { ahead = ended at.place h.0; looks = ends_read scope at h.0 h.1; none = refl; there = refl }
  no_part_ahead scope p at (inr h) = let starts = h.2 in record { ahead = begun h.0 h.1; looks = begins_read scope at h.0 h.1 h.2; none = h.3; there = ap (λ (y : Spot). y.place) starts.opens.starts }

  module _ (only : (n : ℕ) (d : Option ℤ) → Only (λ c k. begins n c k ≡ true) (inner n (bare d)) (rel n (bare d))) (tells : (n : ℕ) (t : Guise) → Tells (inner n t) (W n t)) where
    looks_goes : (scope : Scope) (ps : List Part) (at : Spot) (a : Ahead) (f : ReadFault) → look_at scope at.place at.rest ≡ Ok a → looked scope ps at ≡ Err f → parts_at begins inner scope a ps ≡ Err f
    looks_goes scope ps at a f look e = sym (bind_goes (look_at scope at.place at.rest) (λ a. parts_at begins inner scope a ps) a _ look refl) ∙ e

    parts_fail : (scope : Scope) (ps : List Part) (at : Spot) (f : ReadFault) → AreOctets at.rest → PartsFault begins rel W scope ps at f → looked scope ps at ≡ Err f
    unfolding parts_at part_at
    parts_fail scope _ _ _ are (part_ahead ps at f c) = bind_fails (look_at scope at.place at.rest) (λ a. parts_at begins inner scope a ps) f (look_fails scope at.place at.rest f c)
    parts_fail scope _ _ _ are (part_extra at o s f h is) =
        let there : IsAt o.start.place Extra f = subst (λ (y : Spot). IsAt y.place Extra f) (sym h.opens.starts) is in
        bind_goes (look_at scope at.place at.rest) (λ a. parts_at begins inner scope a []) (begun o s) (failed f) (begins_read scope at o s h) (refused {A = List (Option Value) × Spot} o.start.place Extra f there)
    parts_fail scope _ _ _ are (part_missing p ps at f lacking absent is) =
        let n = no_part_ahead scope p at lacking in
        let there : IsAt (place_of n.ahead) Missing f = subst (λ (q : ℕ). IsAt q Missing f) (sym n.there) is in
        bind_goes (look_at scope at.place at.rest) (λ a. parts_at begins inner scope a (p ∷ ps)) n.ahead (failed f) n.looks
        (bind_fails (part_at begins (inner p.inner.0) p scope n.ahead) (and_parts_at scope ps) f
        (cond_no (is_part begins p n.ahead) _ _ _ n.none (cond_no (may_be_absent p) _ _ _ absent (refused {A = Option Value × Ahead} (place_of n.ahead) Missing f there))))
    parts_fail scope _ _ _ are (part_inside p ps at o s f h own w) =
        bind_goes (look_at scope at.place at.rest) (λ a. parts_at begins inner scope a (p ∷ ps)) (begun o s) (failed f) (begins_read scope at o s h)
        (bind_fails (part_at begins (inner p.inner.0) p scope (begun o s)) (and_parts_at scope ps) f
        (cond_yes (begins p.inner.0 o.class o.number) _ _ _ own (bind_fails (inner p.inner.0 (bare p.default) scope o s) (and_look scope p) f
        ((step_tells (inner p.inner.0 (bare p.default)) (W p.inner.0 (bare p.default)) (tells p.inner.0 (bare p.default))).tells scope at o s f are h w))))
    parts_fail scope _ _ _ are (part_left_out p ps at f lacking absent h) =
        let n = no_part_ahead scope p at lacking in
        let later = looks_goes scope ps at n.ahead f n.looks (parts_fail scope ps at f are h) in
        let goes : part_at begins (inner p.inner.0) p scope n.ahead ≡ Ok (None, n.ahead) = cond_no (is_part begins p n.ahead) _ _ _ n.none (cond_yes (may_be_absent p) _ _ _ absent refl) in
        bind_goes (look_at scope at.place at.rest) (λ a. parts_at begins inner scope a (p ∷ ps)) n.ahead (failed f) n.looks
        (bind_goes (part_at begins (inner p.inner.0) p scope n.ahead) (and_parts_at scope ps) (None, n.ahead) (failed f) goes
        (bind_fails (parts_at begins inner scope n.ahead ps) (λ more. done {A = List (Option Value) × Spot} (None ∷ more.0, more.1)) f later))
    parts_fail scope _ _ _ are (part_behind p ps at v to f stands h) =
        let r = reads_on (λ c k. begins p.inner.0 c k ≡ true) (inner p.inner.0 (bare p.default)) (rel p.inner.0 (bare p.default)) (only p.inner.0 p.default) scope at v to stands in
        let ih = parts_fail scope ps to f (octets_of_stands (rel p.inner.0 (bare p.default)) scope at v to stands are) h in
        bind_goes (look_at scope at.place at.rest) (λ a. parts_at begins inner scope a (p ∷ ps)) (begun r.opened r.spot) (failed f) r.looks
        (elim (bind_err (look_at scope to.place to.rest) (λ a. parts_at begins inner scope a ps) f ih) [
          | inl t ↦ bind_fails (part_at begins (inner p.inner.0) p scope (begun r.opened r.spot)) (and_parts_at scope ps) f
              (cond_yes (begins p.inner.0 r.opened.class r.opened.number) _ _ _ r.allowed
              (bind_goes (inner p.inner.0 (bare p.default) scope r.opened r.spot) (and_look scope p) (v, to) (failed f) r.reads (bind_fails (look_at scope to.place to.rest) (λ a. done {A = Option Value × Ahead} (kept p v, a)) f t)))
          | inr t ↦
              let goes : part_at begins (inner p.inner.0) p scope (begun r.opened r.spot) ≡ Ok (kept p v, t.0) =
              cond_yes (begins p.inner.0 r.opened.class r.opened.number) _ _ _ r.allowed
              (bind_goes (inner p.inner.0 (bare p.default) scope r.opened r.spot) (and_look scope p) (v, to) _ r.reads (bind_goes (look_at scope to.place to.rest) (λ a. done {A = Option Value × Ahead} (kept p v, a)) t.0 _ t.1 refl)) in
              bind_goes (part_at begins (inner p.inner.0) p scope (begun r.opened r.spot)) (and_parts_at scope ps) (kept p v, t.0) (failed f) goes
              (bind_fails (parts_at begins inner scope t.0 ps) (λ more. done {A = List (Option Value) × Spot} (kept p v ∷ more.0, more.1)) f t.2)
        ])

    pub sequence_tells : (ps : List Part) → BodyTells (sequence_body begins inner ps) (λ x b f. PartsFault begins rel W x ps b f)
    sequence_tells ps = record {
      tells = λ x b f are w.
          elim (bind_err (look_at x b.place b.rest) (λ a. parts_at begins inner x a ps) f (parts_fail x ps b f are w)) [
            | inl t ↦ bind_fails (look_at x b.place b.rest) (λ a. parts_at begins inner x a ps >>= and_value) f t
            | inr t ↦ bind_goes (look_at x b.place b.rest) (λ a. parts_at begins inner x a ps >>= and_value) t.0 (failed f) t.1 (bind_fails (parts_at begins inner x t.0 ps) and_value f t.2)
          ];
    }

  -- ---- CHOICE

  pub choice_finds : Finds_all → (which : ℕ) (ps : List Part) → Finds (choice_at begins inner which ps) (ChoiceFault begins W ps)
  unfolding choice_at
  choice_finds finds which [] = record { finds = λ scope o s f ne are here e. refusal_is {A = Value × Spot} o.start.place Tag f e }
  choice_finds finds which (p ∷ ps) = record {
    finds = λ scope o s f ne are here e.
        elim (cond_err (begins p.inner.0 o.class o.number) _ _ f e) [
          | inl t ↦ inl (
            t.0,
            elim (bind_err (inner p.inner.0 plain scope o s) (λ v. done {A = Value × Spot} (chosen which v.0, v.1)) f t.1) [
              | inl u ↦ (finds p.inner.0 plain).finds scope o s f ne are here u
              | inr u ↦ absurd (not_err {A = Value × Spot} (chosen which u.0.0, u.0.1) f u.2)
            ],
          )
          | inr t ↦ inr (t.0, (choice_finds finds (suc which) ps).finds scope o s f ne are here t.1)
        ];
  }

  pub choice_tells : ((n : ℕ) (t : Guise) → Tells (inner n t) (W n t)) → (which : ℕ) (ps : List Part) → Tells (choice_at begins inner which ps) (ChoiceFault begins W ps)
  unfolding choice_at
  choice_tells tells which [] = record { tells = λ scope o s f are here w. refused {A = Value × Spot} o.start.place Tag f w }
  choice_tells tells which (p ∷ ps) = record {
    tells = λ scope o s f are here w.
        elim w [
          | inl t ↦ cond_yes (begins p.inner.0 o.class o.number) _ _ _ t.0 (bind_fails (inner p.inner.0 plain scope o s) (λ v. done {A = Value × Spot} (chosen which v.0, v.1)) f ((tells p.inner.0 plain).tells scope o s f are here t.1))
          | inr t ↦ cond_no (begins p.inner.0 o.class o.number) _ _ _ t.0 ((choice_tells tells (suc which) ps).tells scope o s f are here t.1)
        ];
  }
