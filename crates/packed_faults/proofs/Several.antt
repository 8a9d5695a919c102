-- Values that hold values: a fault of reading is one by the grammar, and the other way round.
use Rattle.std.proofs.Common.{◌≡◌, ℕ, zero, suc, ◌-◌, ◌<◌, ◌≤◌, ◌^◌, Bool, true, false, cond, List, [], ◌∷◌, ◌++◌, Option, Some, None, Ok, Err, refl, sym, ap, ◌∙◌, subst, arith, ◌⊎◌, inl, inr}
use Rattle.std.specs.Prelude.{nat_lt, nat_eq, slice_get}
use Rattle.std.proofs.lemmas.Bool.{lt-ltb, le-ltb, ltb-false, ltb-true, eqb-true, ne_eqb}
use Rattle.osi_base.specs.Limits.{most_items}
use Rattle.asn1_types.specs.declared.row.Part.{Part}
use Rattle.asn1_types.specs.Defaults.{may_be_absent, is_default}
use Rattle.asn1_types.specs.Rising.{behind_last}
use Rattle.asn1_types.specs.Value.{Value, parts, list, chosen}
use Rattle.asn1_types.specs.ValueView.{parts_of, values_of}
use Rattle.packed_codec.specs.declared.fault.PackedFault.{PackedFault}
use Rattle.packed_codec.specs.declared.fault.PackedFault.TheVariants.{NotSpelled, Short}
use Rattle.osi_base.specs.Octets.{AreOctets}
use Rattle.packed_codec.specs.Reading.{Spot, Reading, ◌>>=◌, refuse}
use Rattle.packed_codec.specs.Fields.{octet_at, count_at}
use Rattle.packed_codec.specs.Rules.{Reader, last_size, present_at, marked_at, part_at, parts_at, sequence_at, items_at, spent, list_at, set_item_at, set_items_at, set_of_at, alternative_at, choice_at}
use Rattle.packed_codec.specs.Writing.{Writer}
use Rattle.packed_codec.proofs.Taking.{done, bind_ok, chosen_ok, ok_is}
use Rattle.packed_codec.proofs.Spelled.{Found, Only}
use Rattle.packed_faults.specs.Values.{Wrong, Takes, Stands, OctetFault, PresentFault, IsPresent, PartsFault, part_mark, part_inside, part_absent, part_behind, CountedFault, ItemsFault, item_inside, item_behind, SetItemsFault, set_item_inside, set_item_less, set_item_behind, ListFault, SetOfFault, ChoiceFault}
use Rattle.packed_faults.proofs.Steps.{failed, not_err, bind_err, bind_fails, bind_goes, cond_err, cond_yes, cond_no, option_cases, refused, refusal_is, Finds, Tells}
use Rattle.packed_faults.proofs.Fields.{takes_octets, octet_err, octet_fails, octet_takes, octet_takes_of, count_err, count_fails, count_takes, count_found, stands_of, stands_octets, stands_left, stands_reads}

bool_cases : (b : Bool) → (b ≡ true) ⊎ (b ≡ false)
bool_cases true = inl refl
bool_cases false = inr refl

more_than_one : (o : ℕ) → nat_eq o 0 ≡ false → nat_eq o 1 ≡ false → 2 ≤ o
more_than_one zero e f = absurd cc
more_than_one (suc zero) e f = absurd cc
more_than_one (suc (suc n)) e f = omega arith

takes_left : (limit : ℕ) (s to : Spot) (text : List ℕ) → Takes limit s text to → s.left ≤ most_items → to.left ≤ most_items
takes_left limit s to text h le = let same = h.same_left in omega arith

-- ---- parts

module _ (test : ℕ → Value → Bool) (write : ℕ → Writer) (inner : ℕ → Reader) (W : ℕ → Wrong) where
  abbrev unless_default : Part → Value × Spot → Reading (Option Value × Spot)
  unless_default p v = cond (is_default p.default v.0) (refuse (v.1.place - last_size v.0)) (done {A = Option Value × Spot} (Some v.0, v.1))

  abbrev and_parts : ℕ → List Part → Option Value × Spot → Reading (List (Option Value) × Spot)
  and_parts limit ps x = parts_at inner limit x.1 ps >>= λ more. done {A = List (Option Value) × Spot} (x.0 ∷ more.0, more.1)

  -- what is read of a part
  data PartRead (p : Part) (limit : ℕ) (s : Spot) : Option Value × Spot → Type 0 where
    read_absent : (to : Spot) → may_be_absent p ≡ true → Takes limit s (0 ∷ []) to → PartRead p limit s (None, to)
    read_present : (at : Spot) (v : Value) (to : Spot) → IsPresent p limit s at → Stands (test p.inner.0) (write p.inner.0) limit at v to → is_default p.default v ≡ false → PartRead p limit s (Some v, to)

  module _ (found : (n : ℕ) → Found (test n) (write n) (inner n)) (finds : (n : ℕ) → Finds (inner n) (W n)) (p : Part) (limit : ℕ) (s : Spot) (are : AreOctets s.rest) (here : s.place ≤ limit) where
    octets_present : (at : Spot) → IsPresent p limit s at → AreOctets at.rest × (at.place ≤ limit)
    octets_present at (inl h) = let t = h.1 in (takes_octets limit s at (1 ∷ []) h.1 are, t.within)
    octets_present at (inr h) = (subst (λ (y : Spot). AreOctets y.rest) (sym h.1) are, subst (λ (y : Spot). y.place ≤ limit) (sym h.1) here)

    present_err : (f : PackedFault) → (f ≡ Short → ⊥) → (at : Spot) → IsPresent p limit s at → present_at (inner p.inner.0) p limit at ≡ Err f → PresentFault (test p.inner.0) (write p.inner.0) (W p.inner.0) p limit at f
    unfolding present_at
    present_err f ne at present e =
        let o = octets_present at present in
        elim (bind_err (inner p.inner.0 limit at) (unless_default p) f e) [
          | inl t ↦ inl ((finds p.inner.0).finds limit at f ne o.0 o.1 t)
          | inr t ↦
              let r = (found p.inner.0).found limit at t.0.0 t.0.1 o.0 o.1 t.1 in
              elim (cond_err (is_default p.default t.0.0) _ _ f t.2) [
                | inl u ↦ inr (t.0.0, t.0.1, stands_of (test p.inner.0) (write p.inner.0) limit at t.0.0 t.0.1 r, u.0, refusal_is {A = Option Value × Spot} (t.0.1.place - last_size t.0.0) f u.1)
                | inr u ↦ absurd (not_err {A = Option Value × Spot} (Some t.0.0, t.0.1) f u.1)
              ]
        ]

    present_read : (at : Spot) → IsPresent p limit s at → (x : Option Value × Spot) → present_at (inner p.inner.0) p limit at ≡ Ok x → PartRead p limit s x
    unfolding present_at
    present_read at present x e =
        let o = octets_present at present in
        let b = bind_ok (inner p.inner.0 limit at) (unless_default p) x e in
        let r = (found p.inner.0).found limit at b.0.0 b.0.1 o.0 o.1 b.1 in
        elim (chosen_ok (is_default p.default b.0.0) (refuse (b.0.1.place - last_size b.0.0)) (done {A = Option Value × Spot} (Some b.0.0, b.0.1)) x b.2) [
          | inl u ↦ absurd (not_err {A = Option Value × Spot} x (NotSpelled (b.0.1.place - last_size b.0.0) _) (sym u.1))
          | inr u ↦ subst (PartRead p limit s) (ok_is {A = Option Value × Spot} (Some b.0.0, b.0.1) x u.1) (read_present at b.0.0 b.0.1 present (stands_of (test p.inner.0) (write p.inner.0) limit at b.0.0 b.0.1 r) u.0)
        ]

    part_err : (ps : List Part) (f : PackedFault) → (f ≡ Short → ⊥) → part_at (inner p.inner.0) p limit s ≡ Err f → PartsFault test write W limit (p ∷ ps) s f
    unfolding part_at
    part_err ps f ne e =
        elim (cond_err (may_be_absent p) _ _ f e) [
          | inl t ↦ elim (bind_err (octet_at limit s) (marked_at (inner p.inner.0) p limit s.place) f t.1) [
            | inl u ↦ part_mark p ps s f t.0 (inl (octet_err limit s f ne u))
            | inr u ↦
                let takes = octet_takes_of limit s u.0.1 u.0.0 u.1 in
                elim (cond_err (nat_eq u.0.0 0) _ _ f u.2) [
                  | inl w ↦ absurd (not_err {A = Option Value × Spot} (None, u.0.1) f w.1)
                  | inr w ↦ elim (cond_err (nat_eq u.0.0 1) _ _ f w.1) [
                    | inl x ↦
                        let one : Takes limit s (1 ∷ []) u.0.1 = subst (λ (o : ℕ). Takes limit s (o ∷ []) u.0.1) (eqb-true u.0.0 1 x.0) takes in
                        part_inside p ps s u.0.1 f (inl (t.0, one)) (present_err f ne u.0.1 (inl (t.0, one)) x.1)
                    | inr x ↦ part_mark p ps s f t.0 (inr (u.0.0, u.0.1, takes, more_than_one u.0.0 w.0 x.0, refusal_is {A = Option Value × Spot} s.place f x.1))
                  ]
                ]
          ]
          | inr t ↦ part_inside p ps s s f (inr (t.0, refl)) (present_err f ne s (inr (t.0, refl)) t.1)
        ]

    part_read : (x : Option Value × Spot) → part_at (inner p.inner.0) p limit s ≡ Ok x → PartRead p limit s x
    unfolding part_at
    part_read x e =
        elim (chosen_ok (may_be_absent p) _ _ x e) [
          | inl t ↦
              let u = bind_ok (octet_at limit s) (marked_at (inner p.inner.0) p limit s.place) x t.1 in
              let takes = octet_takes_of limit s u.0.1 u.0.0 u.1 in
              elim (chosen_ok (nat_eq u.0.0 0) _ _ x u.2) [
                | inl w ↦
                    let none : Takes limit s (0 ∷ []) u.0.1 = subst (λ (o : ℕ). Takes limit s (o ∷ []) u.0.1) (eqb-true u.0.0 0 w.0) takes in
                    subst (PartRead p limit s) (ok_is {A = Option Value × Spot} (None, u.0.1) x w.1) (read_absent u.0.1 t.0 none)
                | inr w ↦ elim (chosen_ok (nat_eq u.0.0 1) _ _ x w.1) [
                  | inl y ↦
                      let one : Takes limit s (1 ∷ []) u.0.1 = subst (λ (o : ℕ). Takes limit s (o ∷ []) u.0.1) (eqb-true u.0.0 1 y.0) takes in
                      present_read u.0.1 (inl (t.0, one)) x y.1
                  | inr y ↦ absurd (not_err {A = Option Value × Spot} x (NotSpelled s.place _) (sym y.1))
                ]
              ]
          | inr t ↦ present_read s (inr (t.0, refl)) x t.1
        ]

  part_then : (p : Part) (ps : List Part) (limit : ℕ) (s : Spot) (f : PackedFault) (x : Option Value × Spot) → AreOctets s.rest → s.place ≤ limit → PartRead p limit s x
      → (AreOctets x.1.rest → x.1.place ≤ limit → PartsFault test write W limit ps x.1 f) → PartsFault test write W limit (p ∷ ps) s f
  part_then p ps limit s f _ are here (read_absent to absent takes) later = let t = takes in part_absent p ps s to f absent takes (later (takes_octets limit s to (0 ∷ []) takes are) t.within)
  part_then p ps limit s f _ are here (read_present at v to present stands other) later =
      let at_octets : AreOctets at.rest = elim present [ inl h ↦ takes_octets limit s at (1 ∷ []) h.1 are | inr h ↦ subst (λ (y : Spot). AreOctets y.rest) (sym h.1) are ] in
      let t = stands in
      part_behind p ps s at v to f present stands other (later (stands_octets (test p.inner.0) (write p.inner.0) limit at v to stands at_octets) t.within)

  parts_err : ((n : ℕ) → Found (test n) (write n) (inner n)) → ((n : ℕ) → Finds (inner n) (W n)) → (limit : ℕ) (ps : List Part) (s : Spot) (f : PackedFault) → (f ≡ Short → ⊥) → AreOctets s.rest → s.place ≤ limit
      → parts_at inner limit s ps ≡ Err f → PartsFault test write W limit ps s f
  unfolding parts_at
  parts_err found finds limit [] s f ne are here e = absurd (not_err {A = List (Option Value) × Spot} ([], s) f e)
  parts_err found finds limit (p ∷ ps) s f ne are here e =
      elim (bind_err (part_at (inner p.inner.0) p limit s) (and_parts limit ps) f e) [
        | inl t ↦ part_err found finds p limit s are here ps f ne t
        | inr t ↦ elim (bind_err (parts_at inner limit t.0.1 ps) (λ more. done {A = List (Option Value) × Spot} (t.0.0 ∷ more.0, more.1)) f t.2) [
          | inl u ↦ part_then p ps limit s f t.0 are here (part_read found finds p limit s are here t.0 t.1) (λ o i. parts_err found finds limit ps t.0.1 f ne o i u)
          | inr u ↦ absurd (not_err {A = List (Option Value) × Spot} (t.0.0 ∷ u.0.0, u.0.1) f u.2)
        ]
      ]

  abbrev and_value : List (Option Value) × Spot → Reading (Value × Spot)
  and_value found = done {A = Value × Spot} (parts (parts_of found.0), found.1)

  pub sequence_finds : ((n : ℕ) → Found (test n) (write n) (inner n)) → ((n : ℕ) → Finds (inner n) (W n)) → (ps : List Part) → Finds (sequence_at inner ps) (λ limit s f. PartsFault test write W limit ps s f)
  unfolding sequence_at
  sequence_finds found finds ps = record {
    finds = λ limit s f ne are here e.
        elim (bind_err (parts_at inner limit s ps) and_value f e) [
          | inl t ↦ parts_err found finds limit ps s f ne are here t
          | inr t ↦ absurd (not_err {A = Value × Spot} (parts (parts_of t.0.0), t.0.1) f t.2)
        ];
  }

  -- ---- a fault of parts is read

  module _ (only : (n : ℕ) → Only (test n) (write n) (inner n)) (tells : (n : ℕ) → Tells (inner n) (W n)) (limit : ℕ) (lt : limit < 2 ^ 32) where
    abbrev AtPresent : Part → Spot → Spot → Reading (Option Value × Spot) → Type 0
    AtPresent p s at y = present_at (inner p.inner.0) p limit at ≡ y → part_at (inner p.inner.0) p limit s ≡ y

    at_present : (p : Part) (s at : Spot) (y : Reading (Option Value × Spot)) → IsPresent p limit s at → AtPresent p s at y
    unfolding part_at
    at_present p s at y (inl h) e =
        cond_yes (may_be_absent p) _ _ _ h.0 (bind_goes (octet_at limit s) (marked_at (inner p.inner.0) p limit s.place) (1, at) y (octet_takes limit s at 1 h.1) e)
    at_present p s at y (inr h) e = cond_no (may_be_absent p) _ _ _ h.0 (ap (present_at (inner p.inner.0) p limit) (sym h.1) ∙ e)

    present_octets : (p : Part) (s at : Spot) → IsPresent p limit s at → AreOctets s.rest → s.left ≤ most_items → AreOctets at.rest × (at.left ≤ most_items)
    present_octets p s at (inl h) are most = (takes_octets limit s at (1 ∷ []) h.1 are, takes_left limit s at (1 ∷ []) h.1 most)
    present_octets p s at (inr h) are most = (subst (λ (y : Spot). AreOctets y.rest) (sym h.1) are, subst (λ (y : Spot). y.left ≤ most_items) (sym h.1) most)

    present_fails : (p : Part) (at : Spot) (f : PackedFault) → AreOctets at.rest → at.left ≤ most_items → PresentFault (test p.inner.0) (write p.inner.0) (W p.inner.0) p limit at f → present_at (inner p.inner.0) p limit at ≡ Err f
    unfolding present_at
    present_fails p at f are most (inl w) = bind_fails (inner p.inner.0 limit at) (unless_default p) f ((tells p.inner.0).tells limit at f are lt most w)
    present_fails p at f are most (inr w) =
        bind_goes (inner p.inner.0 limit at) (unless_default p) (w.0, w.1) (failed f) (stands_reads (test p.inner.0) (write p.inner.0) (inner p.inner.0) (only p.inner.0) limit at w.0 w.1 lt most w.2)
        (cond_yes (is_default p.default w.0) _ _ _ w.3 (refused {A = Option Value × Spot} (w.1.place - last_size w.0) f w.4))

    present_goes : (p : Part) (at : Spot) (v : Value) (to : Spot) → at.left ≤ most_items → Stands (test p.inner.0) (write p.inner.0) limit at v to → is_default p.default v ≡ false → present_at (inner p.inner.0) p limit at ≡ Ok (Some v, to)
    unfolding present_at
    present_goes p at v to most stands other =
        bind_goes (inner p.inner.0 limit at) (unless_default p) (v, to) (done (Some v, to)) (stands_reads (test p.inner.0) (write p.inner.0) (inner p.inner.0) (only p.inner.0) limit at v to lt most stands)
        (cond_no (is_default p.default v) _ _ _ other refl)

    mark_fails : (p : Part) (s : Spot) (f : PackedFault) → may_be_absent p ≡ true → OctetFault limit s f → part_at (inner p.inner.0) p limit s ≡ Err f
    unfolding part_at
    mark_fails p s f absent (inl c) = cond_yes (may_be_absent p) _ _ _ absent (bind_fails (octet_at limit s) (marked_at (inner p.inner.0) p limit s.place) f (octet_fails limit s f c))
    mark_fails p s f absent (inr c) =
        let large = c.3 in
        let no_zero : (c.0 ≡ 0 → ⊥) = λ e. omega arith in
        let no_one : (c.0 ≡ 1 → ⊥) = λ e. omega arith in
        cond_yes (may_be_absent p) _ _ _ absent (bind_goes (octet_at limit s) (marked_at (inner p.inner.0) p limit s.place) (c.0, c.1) (failed f) (octet_takes limit s c.1 c.0 c.2)
        (cond_no (nat_eq c.0 0) _ _ _ (ne_eqb c.0 0 no_zero) (cond_no (nat_eq c.0 1) _ _ _ (ne_eqb c.0 1 no_one) (refused {A = Option Value × Spot} s.place f c.4))))

    absent_goes : (p : Part) (s to : Spot) → may_be_absent p ≡ true → Takes limit s (0 ∷ []) to → part_at (inner p.inner.0) p limit s ≡ Ok (None, to)
    unfolding part_at
    absent_goes p s to absent takes = cond_yes (may_be_absent p) _ _ _ absent (bind_goes (octet_at limit s) (marked_at (inner p.inner.0) p limit s.place) (0, to) (done (None, to)) (octet_takes limit s to 0 takes) refl)

    parts_fail : (ps : List Part) (s : Spot) (f : PackedFault) → AreOctets s.rest → s.left ≤ most_items → PartsFault test write W limit ps s f → parts_at inner limit s ps ≡ Err f
    unfolding parts_at
    parts_fail _ _ _ are most (part_mark p ps s f absent w) = bind_fails (part_at (inner p.inner.0) p limit s) (and_parts limit ps) f (mark_fails p s f absent w)
    parts_fail _ _ _ are most (part_inside p ps s to f present w) =
        let o = present_octets p s to present are most in
        bind_fails (part_at (inner p.inner.0) p limit s) (and_parts limit ps) f (at_present p s to (failed f) present (present_fails p to f o.0 o.1 w))
    parts_fail _ _ _ are most (part_absent p ps s to f absent takes h) =
        bind_goes (part_at (inner p.inner.0) p limit s) (and_parts limit ps) (None, to) (failed f) (absent_goes p s to absent takes)
        (bind_fails (parts_at inner limit to ps) (λ more. done {A = List (Option Value) × Spot} (None ∷ more.0, more.1)) f (parts_fail ps to f (takes_octets limit s to (0 ∷ []) takes are) (takes_left limit s to (0 ∷ []) takes most) h))
    parts_fail _ _ _ are most (part_behind p ps s at v to f present stands other h) =
        let o = present_octets p s at present are most in
        bind_goes (part_at (inner p.inner.0) p limit s) (and_parts limit ps) (Some v, to) (failed f) (at_present p s at (done (Some v, to)) present (present_goes p at v to o.1 stands other))
        (bind_fails (parts_at inner limit to ps) (λ more. done {A = List (Option Value) × Spot} (Some v ∷ more.0, more.1)) f
        (parts_fail ps to f (stands_octets (test p.inner.0) (write p.inner.0) limit at v to stands o.0) (stands_left (test p.inner.0) (write p.inner.0) limit at v to stands o.1) h))

  pub sequence_tells : ((n : ℕ) → Only (test n) (write n) (inner n)) → ((n : ℕ) → Tells (inner n) (W n)) → (ps : List Part) → Tells (sequence_at inner ps) (λ limit s f. PartsFault test write W limit ps s f)
  unfolding sequence_at
  sequence_tells only tells ps = record { tells = λ limit s f are lt most w. bind_fails (parts_at inner limit s ps) and_value f (parts_fail only tells limit lt ps s f are most w) }

  -- ---- CHOICE

  pub choice_finds : ((n : ℕ) → Finds (inner n) (W n)) → (ps : List Part) → Finds (choice_at inner ps) (ChoiceFault W ps)
  unfolding choice_at
  choice_finds finds ps = record {
    finds = λ limit s f ne are here e.
        elim (bind_err (octet_at limit s) (λ o. alternative_at inner s.place o.0 (slice_get ps o.0) limit o.1) f e) [
          | inl t ↦ inl (octet_err limit s f ne t)
          | inr t ↦
              let takes = octet_takes_of limit s t.0.1 t.0.0 t.1 in
              inr (
                t.0.0,
                t.0.1,
                takes,
                elim (option_cases (slice_get ps t.0.0)) [
                  | inl u ↦ inl (u, refusal_is {A = Value × Spot} s.place f (sym (ap (λ (o : Option Part). alternative_at inner s.place t.0.0 o limit t.0.1) u) ∙ t.2))
                  | inr u ↦
                      let read : (inner u.0.inner.0 limit t.0.1 >>= λ v. done {A = Value × Spot} (chosen t.0.0 v.0, v.1)) ≡ Err f = sym (ap (λ (o : Option Part). alternative_at inner s.place t.0.0 o limit t.0.1) u.1) ∙ t.2 in
                      inr (
                        u.0,
                        u.1,
                        elim (bind_err (inner u.0.inner.0 limit t.0.1) (λ v. done {A = Value × Spot} (chosen t.0.0 v.0, v.1)) f read) [
                          | inl w ↦ (finds u.0.inner.0).finds limit t.0.1 f ne (takes_octets limit s t.0.1 (t.0.0 ∷ []) takes are) takes.within w
                          | inr w ↦ absurd (not_err {A = Value × Spot} (chosen t.0.0 w.0.0, w.0.1) f w.2)
                        ],
                      )
                ],
              )
        ];
  }

  pub choice_tells : ((n : ℕ) → Tells (inner n) (W n)) → (ps : List Part) → Tells (choice_at inner ps) (ChoiceFault W ps)
  unfolding choice_at
  choice_tells tells ps = record {
    tells = λ limit s f are lt most w.
        elim w [
          | inl c ↦ bind_fails (octet_at limit s) (λ o. alternative_at inner s.place o.0 (slice_get ps o.0) limit o.1) f (octet_fails limit s f c)
          | inr c ↦ bind_goes (octet_at limit s) (λ o. alternative_at inner s.place o.0 (slice_get ps o.0) limit o.1) (c.0, c.1) (failed f) (octet_takes limit s c.1 c.0 c.2) (elim c.3 [
            | inl u ↦ ap (λ (o : Option Part). alternative_at inner s.place c.0 o limit c.1) u.0 ∙ refused {A = Value × Spot} s.place f u.1
            | inr u ↦ ap (λ (o : Option Part). alternative_at inner s.place c.0 o limit c.1) u.1
                ∙ bind_fails (inner u.0.inner.0 limit c.1) (λ v. done {A = Value × Spot} (chosen c.0 v.0, v.1)) f ((tells u.0.inner.0).tells limit c.1 f (takes_octets limit s c.1 (c.0 ∷ []) c.2 are) lt (takes_left limit s c.1 (c.0 ∷ []) c.2 most) u.2)
          ])
        ];
  }

-- ---- a count and its items

module _ (Items : ℕ → Wrong) (read_items : ℕ → ℕ → Spot → Reading (List Value × Spot)) where
  abbrev and_list : List Value × Spot → Reading (Value × Spot)
  and_list found = done {A = Value × Spot} (list (values_of found.0), found.1)

  abbrev counted_items : ℕ → ℕ → ℕ × Spot → Reading (Value × Spot)
  counted_items limit place n = cond (nat_lt n.1.left n.0) (refuse place) (read_items n.0 limit (spent n.0 n.1) >>= and_list)

  counted_err : (limit : ℕ) (s : Spot) (f : PackedFault) → (f ≡ Short → ⊥) → AreOctets s.rest
      → ((n : ℕ) (to : Spot) → AreOctets to.rest → to.place ≤ limit → read_items n limit (spent n to) ≡ Err f → Items n limit (spent n to) f)
      → (count_at limit s >>= counted_items limit s.place) ≡ Err f → CountedFault Items limit s f
  counted_err limit s f ne are items e =
      elim (bind_err (count_at limit s) (counted_items limit s.place) f e) [
        | inl t ↦ inl (count_err limit s f ne t)
        | inr t ↦
            let c = count_found limit s t.0.1 t.0.0 t.1 in
            let takes = c.takes in
            inr (
              t.0.0,
              t.0.1,
              c,
              elim (cond_err (nat_lt t.0.1.left t.0.0) _ _ f t.2) [
                | inl u ↦ inl (ltb-true t.0.1.left t.0.0 u.0, refusal_is {A = Value × Spot} s.place f u.1)
                | inr u ↦ inr (
                  ltb-false t.0.1.left t.0.0 u.0,
                  elim (bind_err (read_items t.0.0 limit (spent t.0.0 t.0.1)) and_list f u.1) [
                    | inl w ↦ items t.0.0 t.0.1 (takes_octets limit s t.0.1 c.text c.takes are) takes.within w
                    | inr w ↦ absurd (not_err {A = Value × Spot} (list (values_of w.0.0), w.0.1) f w.2)
                  ],
                )
              ],
            )
      ]

  counted_fails : (limit : ℕ) (s : Spot) (f : PackedFault) → AreOctets s.rest → s.left ≤ most_items
      → ((n : ℕ) (to : Spot) → AreOctets to.rest → to.left ≤ most_items → Items n limit (spent n to) f → read_items n limit (spent n to) ≡ Err f)
      → CountedFault Items limit s f → (count_at limit s >>= counted_items limit s.place) ≡ Err f
  counted_fails limit s f are most items (inl c) = bind_fails (count_at limit s) (counted_items limit s.place) f (count_fails limit s f c)
  counted_fails limit s f are most items (inr c) =
      let k = c.2 in
      bind_goes (count_at limit s) (counted_items limit s.place) (c.0, c.1) (failed f) (count_takes limit s c.1 c.0 c.2) (elim c.3 [
        | inl u ↦ cond_yes (nat_lt c.1.left c.0) _ _ _ (lt-ltb c.1.left c.0 u.0) (refused {A = Value × Spot} s.place f u.1)
        | inr u ↦ cond_no (nat_lt c.1.left c.0) _ _ _ (le-ltb c.1.left c.0 u.0)
            (bind_fails (read_items c.0 limit (spent c.0 c.1)) and_list f (items c.0 c.1 (takes_octets limit s c.1 k.text k.takes are) (takes_left limit s c.1 k.text k.takes most) u.1))
      ])

spent_left : (n left : ℕ) → left ≤ 131072 → left - n ≤ 131072
spent_left n left le = omega arith

module _ (test : Value → Bool) (write : Writer) (inner : Reader) (W : Wrong) where
  abbrev and_item : Value → List Value × Spot → Reading (List Value × Spot)
  and_item v more = done {A = List Value × Spot} (v ∷ more.0, more.1)

  items_err : Found test write inner → Finds inner W → (limit n : ℕ) (s : Spot) (f : PackedFault) → (f ≡ Short → ⊥) → AreOctets s.rest → s.place ≤ limit → items_at inner n limit s ≡ Err f → ItemsFault test write W limit n s f
  unfolding items_at
  items_err found finds limit zero s f ne are here e = absurd (not_err {A = List Value × Spot} ([], s) f e)
  items_err found finds limit (suc n) s f ne are here e =
      elim (bind_err (inner limit s) (λ x. items_at inner n limit x.1 >>= and_item x.0) f e) [
        | inl t ↦ item_inside n s f (finds.finds limit s f ne are here t)
        | inr t ↦
            let r = found.found limit s t.0.0 t.0.1 are here t.1 in
            let stands = stands_of test write limit s t.0.0 t.0.1 r in
            elim (bind_err (items_at inner n limit t.0.1) (and_item t.0.0) f t.2) [
              | inl u ↦ item_behind n s t.0.0 t.0.1 f stands (items_err found finds limit n t.0.1 f ne (stands_octets test write limit s t.0.0 t.0.1 stands are) r.inside u)
              | inr u ↦ absurd (not_err {A = List Value × Spot} (t.0.0 ∷ u.0.0, u.0.1) f u.2)
            ]
      ]

  items_fail : Only test write inner → Tells inner W → (limit : ℕ) → limit < 2 ^ 32 → (n : ℕ) (s : Spot) (f : PackedFault) → AreOctets s.rest → s.left ≤ most_items → ItemsFault test write W limit n s f → items_at inner n limit s ≡ Err f
  unfolding items_at
  items_fail only tells limit lt _ _ _ are most (item_inside n s f w) = bind_fails (inner limit s) (λ x. items_at inner n limit x.1 >>= and_item x.0) f (tells.tells limit s f are lt most w)
  items_fail only tells limit lt _ _ _ are most (item_behind n s v to f stands h) =
      bind_goes (inner limit s) (λ x. items_at inner n limit x.1 >>= and_item x.0) (v, to) (failed f) (stands_reads test write inner only limit s v to lt most stands)
      (bind_fails (items_at inner n limit to) (and_item v) f (items_fail only tells limit lt n to f (stands_octets test write limit s v to stands are) (stands_left test write limit s v to stands most) h))

  pub list_finds : Found test write inner → Finds inner W → Finds (list_at inner) (ListFault test write W)
  unfolding list_at
  list_finds found finds = record {
    finds = λ limit s f ne are here e.
        counted_err (λ n limit s f. ItemsFault test write W limit n s f) (items_at inner) limit s f ne are (λ n to o i g. items_err found finds limit n (spent n to) f ne o i g) e;
  }

  pub list_tells : Only test write inner → Tells inner W → Tells (list_at inner) (ListFault test write W)
  unfolding list_at
  list_tells only tells = record {
    tells = λ limit s f are lt most w.
        counted_fails (λ n limit s f. ItemsFault test write W limit n s f) (items_at inner) limit s f are most (λ n to o le h. items_fail only tells limit lt n (spent n to) f o (spent_left n to.left le) h) w;
  }

  -- ---- SET OF

  module _ (spell : Value → List ℕ) where
    abbrev in_order : List Value → ℕ → Value × Spot → Reading (Value × Spot)
    in_order before place v = cond (behind_last spell before v.0) (done {A = Value × Spot} v) (refuse place)

    abbrev and_items : List Value → ℕ → ℕ → Value × Spot → Reading (List Value × Spot)
    and_items before n limit x = set_items_at (set_item_at spell inner) (before ++ x.0 ∷ []) n limit x.1 >>= and_item x.0

    set_items_err : Found test write inner → Finds inner W → (limit n : ℕ) (before : List Value) (s : Spot) (f : PackedFault) → (f ≡ Short → ⊥) → AreOctets s.rest → s.place ≤ limit
        → set_items_at (set_item_at spell inner) before n limit s ≡ Err f → SetItemsFault spell test write W limit before n s f
    unfolding set_items_at set_item_at
    set_items_err found finds limit zero before s f ne are here e = absurd (not_err {A = List Value × Spot} ([], s) f e)
    set_items_err found finds limit (suc n) before s f ne are here e =
        elim (bind_err (set_item_at spell inner before limit s) (and_items before n limit) f e) [
          | inl t ↦ elim (bind_err (inner limit s) (in_order before s.place) f t) [
            | inl u ↦ set_item_inside before n s f (finds.finds limit s f ne are here u)
            | inr u ↦
                let stands = stands_of test write limit s u.0.0 u.0.1 (found.found limit s u.0.0 u.0.1 are here u.1) in
                elim (cond_err (behind_last spell before u.0.0) (done {A = Value × Spot} u.0) (refuse s.place) f u.2) [
                  | inl w ↦ absurd (not_err {A = Value × Spot} u.0 f w.1)
                  | inr w ↦ set_item_less before n s u.0.0 u.0.1 f stands w.0 (refusal_is {A = Value × Spot} s.place f w.1)
                ]
          ]
          | inr t ↦
              let u = bind_ok (inner limit s) (in_order before s.place) t.0 t.1 in
              elim (chosen_ok (behind_last spell before u.0.0) (done {A = Value × Spot} u.0) (refuse s.place) t.0 u.2) [
                | inl w ↦
                    let same = ok_is {A = Value × Spot} u.0 t.0 w.1 in
                    let read : inner limit s ≡ Ok t.0 = u.1 ∙ ap (λ (x : Value × Spot). done x) same in
                    let order : behind_last spell before t.0.0 ≡ true = subst (λ (x : Value × Spot). behind_last spell before x.0 ≡ true) same w.0 in
                    let r = found.found limit s t.0.0 t.0.1 are here read in
                    let stands = stands_of test write limit s t.0.0 t.0.1 r in
                    elim (bind_err (set_items_at (set_item_at spell inner) (before ++ t.0.0 ∷ []) n limit t.0.1) (and_item t.0.0) f t.2) [
                      | inl x ↦ set_item_behind before n s t.0.0 t.0.1 f stands order (set_items_err found finds limit n (before ++ t.0.0 ∷ []) t.0.1 f ne (stands_octets test write limit s t.0.0 t.0.1 stands are) r.inside x)
                      | inr x ↦ absurd (not_err {A = List Value × Spot} (t.0.0 ∷ x.0.0, x.0.1) f x.2)
                    ]
                | inr w ↦ absurd (not_err {A = Value × Spot} t.0 (NotSpelled s.place _) (sym w.1))
              ]
        ]

    set_items_fail : Only test write inner → Tells inner W → (limit : ℕ) → limit < 2 ^ 32 → (before : List Value) (n : ℕ) (s : Spot) (f : PackedFault) → AreOctets s.rest → s.left ≤ most_items
        → SetItemsFault spell test write W limit before n s f → set_items_at (set_item_at spell inner) before n limit s ≡ Err f
    unfolding set_items_at set_item_at
    set_items_fail only tells limit lt _ _ _ _ are most (set_item_inside before n s f w) =
        bind_fails (set_item_at spell inner before limit s) (and_items before n limit) f (bind_fails (inner limit s) (in_order before s.place) f (tells.tells limit s f are lt most w))
    set_items_fail only tells limit lt _ _ _ _ are most (set_item_less before n s v to f stands less is) =
        bind_fails (set_item_at spell inner before limit s) (and_items before n limit) f
        (bind_goes (inner limit s) (in_order before s.place) (v, to) (failed f) (stands_reads test write inner only limit s v to lt most stands) (cond_no (behind_last spell before v) _ _ _ less (refused {A = Value × Spot} s.place f is)))
    set_items_fail only tells limit lt _ _ _ _ are most (set_item_behind before n s v to f stands order h) =
        bind_goes (set_item_at spell inner before limit s) (and_items before n limit) (v, to) (failed f)
        (bind_goes (inner limit s) (in_order before s.place) (v, to) (done (v, to)) (stands_reads test write inner only limit s v to lt most stands) (cond_yes (behind_last spell before v) _ _ _ order refl))
        (bind_fails (set_items_at (set_item_at spell inner) (before ++ v ∷ []) n limit to) (and_item v) f
        (set_items_fail only tells limit lt (before ++ v ∷ []) n to f (stands_octets test write limit s v to stands are) (stands_left test write limit s v to stands most) h))

    pub set_of_finds : Found test write inner → Finds inner W → Finds (set_of_at spell inner) (SetOfFault spell test write W)
    unfolding set_of_at
    set_of_finds found finds = record {
      finds = λ limit s f ne are here e.
          counted_err (λ n limit s f. SetItemsFault spell test write W limit [] n s f) (set_items_at (set_item_at spell inner) []) limit s f ne are (λ n to o i g. set_items_err found finds limit n [] (spent n to) f ne o i g) e;
    }

    pub set_of_tells : Only test write inner → Tells inner W → Tells (set_of_at spell inner) (SetOfFault spell test write W)
    unfolding set_of_at
    set_of_tells only tells = record {
      tells = λ limit s f are lt most w.
          counted_fails (λ n limit s f. SetItemsFault spell test write W limit [] n s f) (set_items_at (set_item_at spell inner) []) limit s f are most (λ n to o le h. set_items_fail only tells limit lt [] n (spent n to) f o (spent_left n to.left le) h) w;
    }
