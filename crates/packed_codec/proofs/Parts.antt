-- Values that hold values: what is read is spelled so, and what is spelled so is read.
use Rattle.std.proofs.Common.{◌≡◌, ℕ, zero, suc, ◌+◌, ◌-◌, ◌≤◌, Bool, true, false, not, ◌&&◌, cond, List, [], ◌∷◌, ◌++◌, length, Option, Some, None, Ok, refl, sym, ap, ◌∙◌, subst, arith, length-append, append_assoc, inl, inr}
use Rattle.std.specs.Prelude.{nat_lt, nat_eq, slice_get}
use Rattle.std.proofs.lemmas.Bool.{ltb-false, eqb-true}
use Rattle.byteorder.specs.Endian.{big_bytes}
use Rattle.asn1_types.specs.declared.row.Part.{Part}
use Rattle.asn1_types.specs.Defaults.{may_be_absent, is_default}
use Rattle.asn1_types.specs.Fits.{part_fits, parts_fit, sequence_fits, values_fit, list_fits, alternative_fits, choice_fits}
use Rattle.asn1_types.specs.Value.{Value, parts, list, chosen, MaybeValues, no_parts, absent, present, Values, no_values, value}
use Rattle.asn1_types.specs.ValueView.{parts_of, values_of}
use Rattle.packed_codec.specs.declared.fault.PackedFault.TheVariants as faults
use Rattle.osi_base.specs.Octets.{AreOctets}
use Rattle.osi_base.proofs.OctetLaws.{octets_right}
use Rattle.packed_codec.specs.Reading.{Spot, ◌>>=◌, refuse}
use Rattle.packed_codec.specs.Fields.{octet_at, count_at}
use Rattle.packed_codec.specs.Rules.{Reader, last_size, present_at, marked_at, part_at, parts_at, sequence_at, items_at, spent, list_at, alternative_at, choice_at, set_item_at, set_items_at, set_of_at}
use Rattle.packed_codec.specs.Writing.{Writer, part_written, parts_written, sequence_written, how_many, values_written, list_written, alternative_written, choice_written, items, items_of_parts, items_of_values}
use Rattle.packed_codec.proofs.Taking.{bind_ok, unless_ok, if_ok, chosen_ok, ok_is, Took, took_octets, octet_found, count_found}
use Rattle.packed_codec.proofs.Spelled.{ReadAs, Found}
use Rattle.asn1_types.specs.Rising.{behind_last, set_rises}
use Rattle.ber_spelling.proofs.RisingLaws.{GoOn, up_after, goes_rise}

-- what was read at a spot: octets, a fitting value, and how many items its lists have
pub record Read (limit : ℕ) (s : Spot) (c : List ℕ) (count : ℕ) (fit : Bool) (to : Spot) : Type 0 where
  pub parts : s.rest ≡ c ++ to.rest
  pub onward : to.place ≡ s.place + length c
  pub inside : to.place ≤ limit
  pub spent : s.left ≡ count + to.left
  pub fits : fit ≡ true

pub read_octets : (limit : ℕ) (s to : Spot) (c : List ℕ) (count : ℕ) (fit : Bool) → Read limit s c count fit to → AreOctets s.rest → AreOctets to.rest
read_octets limit s to c count fit r h = octets_right c to.rest (subst AreOctets r.parts h)

both : (a b : Bool) → a ≡ true → b ≡ true → (a && b) ≡ true
both true b e f = f
both false b e f = absurd cc

read_then : (limit : ℕ) (s mid to : Spot) (a b : List ℕ) (m n : ℕ) (f g : Bool) → Read limit s a m f mid → Read limit mid b n g to → Read limit s (a ++ b) (m + n) (f && g) to
read_then limit s mid to a b m n f g t u = record {
  parts = t.parts ∙ ap (λ (x : List ℕ). a ++ x) u.parts ∙ sym (append_assoc a b to.rest);
  onward = omega (arith, t.onward, u.onward, length-append a b);
  inside = u.inside;
  spent = omega (arith, t.spent, u.spent);
  fits = both f g t.fits u.fits;
}

of_took : (limit : ℕ) (s : Spot) (c : List ℕ) (to : Spot) → Took limit s c to → Read limit s c 0 true to
of_took limit s c to t = record { parts = t.parts; onward = t.onward; inside = t.inside; spent = omega (arith, t.left); fits = refl }

of_read : (test : Value → Bool) (write : Writer) (limit : ℕ) (s : Spot) (v : Value) (to : Spot) → ReadAs test write limit s v to → Read limit s (write v) (items v) (test v) to
of_read test write limit s v to r = record { parts = r.parts; onward = r.onward; inside = r.inside; spent = r.spent; fits = r.fit }

abbrev pub items_of_part : Option Value → ℕ
items_of_part None = 0
items_of_part (Some v) = items v

abbrev pub list_of : MaybeValues → List (Option Value)
list_of no_parts = []
list_of (absent vs) = None ∷ list_of vs
list_of (present v vs) = Some v ∷ list_of vs

pub parts_list : (vs : MaybeValues) → parts_of (list_of vs) ≡ vs
parts_list no_parts = refl
parts_list (absent vs) = ap absent (parts_list vs)
parts_list (present v vs) = ap (present v) (parts_list vs)

abbrev pub items_list : Values → List Value
items_list no_values = []
items_list (value v vs) = v ∷ items_list vs

pub values_list : (vs : Values) → values_of (items_list vs) ≡ vs
values_list no_values = refl
values_list (value v vs) = ap (value v) (values_list vs)

module _ (test : ℕ → Value → Bool) (write : ℕ → Writer) (inner : ℕ → Reader) (h : (n : ℕ) → Found (test n) (write n) (inner n)) where
  abbrev fits_present : Part → Value → Bool
  fits_present p v = not (is_default p.default v) && test p.inner.0 v

  present_found : (p : Part) (limit : ℕ) (s : Spot) (o : Option Value) (to : Spot) → AreOctets s.rest → s.place ≤ limit → present_at (inner p.inner.0) p limit s ≡ Ok (o, to)
      → (v : Value) × (o ≡ Some v) × Read limit s (write p.inner.0 v) (items v) (fits_present p v) to
  unfolding present_at
  present_found p limit s o to are here e =
      let n : ℕ = p.inner.0 in
      let b = bind_ok (inner n limit s) (λ v. cond (is_default p.default v.0) (refuse (v.1.place - last_size v.0)) (Ok (Some v.0, v.1))) (o, to) e in
      let u = unless_ok (is_default p.default b.0.0) (faults.NotSpelled (b.0.1.place - last_size b.0.0) _) (Ok (Some b.0.0, b.0.1)) (o, to) b.2 in
      let same = ok_is {A = Option Value × Spot} (Some b.0.0, b.0.1) (o, to) u.1 in
      let r = of_read (test n) (write n) limit s b.0.0 b.0.1 ((h n).found limit s b.0.0 b.0.1 are here b.1) in
      let fit : Read limit s (write n b.0.0) (items b.0.0) (fits_present p b.0.0) b.0.1 =
      record { parts = r.parts; onward = r.onward; inside = r.inside; spent = r.spent; fits = both (not (is_default p.default b.0.0)) (test n b.0.0) (ap not u.0) r.fits } in
      (b.0.0, ap (λ (x : Option Value × Spot). x.0) (sym same), subst (λ (x : Option Value × Spot). Read limit s (write n b.0.0) (items b.0.0) (fits_present p b.0.0) x.1) same fit)

  abbrev PartAs : Part → ℕ → Spot → Option Value → Spot → Type 0
  PartAs p limit s o to = Read limit s (part_written write p o) (items_of_part o) (part_fits test p o) to

  part_found : (p : Part) (limit : ℕ) (s : Spot) (o : Option Value) (to : Spot) → AreOctets s.rest → s.place ≤ limit → part_at (inner p.inner.0) p limit s ≡ Ok (o, to) → PartAs p limit s o to
  unfolding part_at
  part_found p limit s o to are here e = by_mark (may_be_absent p) refl e
    where
      by_mark : (b : Bool) → may_be_absent p ≡ b → cond b (octet_at limit s >>= λ m. marked_at (inner p.inner.0) p limit s.place m) (present_at (inner p.inner.0) p limit s) ≡ Ok (o, to) → PartAs p limit s o to
      by_mark false t e =
          let f = present_found p limit s o to are here e in
          subst (λ (x : Option Value). PartAs p limit s x to) (sym f.1) (rw t f.2)
      by_mark true t e =
          let b = bind_ok (octet_at limit s) (λ m. marked_at (inner p.inner.0) p limit s.place m) (o, to) e in
          let m : ℕ = b.0.0 in
          let mid : Spot = b.0.1 in
          let k = octet_found limit s mid m b.1 in
          elim (chosen_ok (nat_eq m 0) (Ok (None, mid)) _ (o, to) b.2) [
            | inl u ↦
                let same = ok_is {A = Option Value × Spot} (None, mid) (o, to) u.1 in
                let zero_is : m ≡ 0 = eqb-true m 0 u.0 in
                let r : Read limit s (m ∷ []) 0 true mid = of_took limit s (m ∷ []) mid k in
                subst (λ (y : Option Value × Spot). PartAs p limit s y.0 y.1) same
                (rw t (subst (λ (j : ℕ). Read limit s (j ∷ []) 0 true mid) zero_is r))
            | inr u ↦
                let w = if_ok (nat_eq m 1) (faults.NotSpelled s.place _) (present_at (inner p.inner.0) p limit mid) (o, to) u.1 in
                let one_is : m ≡ 1 = eqb-true m 1 w.0 in
                let f = present_found p limit mid o to (took_octets limit s mid (m ∷ []) k are) k.inside w.1 in
                let r = read_then limit s mid to (m ∷ []) (write p.inner.0 f.0) 0 (items f.0) true (fits_present p f.0) (of_took limit s (m ∷ []) mid k) f.2 in
                subst (λ (x : Option Value). PartAs p limit s x to) (sym f.1)
                (rw t (let z : 0 + items f.0 ≡ items f.0 = omega arith in subst (λ (j : ℕ). Read limit s (1 ∷ write p.inner.0 f.0) j (fits_present p f.0) to) z (subst (λ (j : ℕ). Read limit s (j ∷ write p.inner.0 f.0) (0 + items f.0) (fits_present p f.0) to) one_is r)))
          ]

  abbrev PartsAs : List Part → ℕ → Spot → List (Option Value) → Spot → Type 0
  PartsAs ps limit s vs to = Read limit s (parts_written write ps (parts_of vs)) (items_of_parts (parts_of vs)) (parts_fit test ps (parts_of vs)) to

  parts_join : (p : Part) (ps : List Part) (limit : ℕ) (s mid to : Spot) (o : Option Value) (vs : List (Option Value)) → PartAs p limit s o mid → PartsAs ps limit mid vs to → PartsAs (p ∷ ps) limit s (o ∷ vs) to
  parts_join p ps limit s mid to None vs a b =
      let r = read_then limit s mid to (part_written write p None) (parts_written write ps (parts_of vs)) 0 (items_of_parts (parts_of vs)) (may_be_absent p) (parts_fit test ps (parts_of vs)) a b in
      record { parts = r.parts; onward = r.onward; inside = r.inside; spent = omega (arith, r.spent); fits = r.fits }
  parts_join p ps limit s mid to (Some v) vs a b =
      read_then limit s mid to (part_written write p (Some v)) (parts_written write ps (parts_of vs)) (items v) (items_of_parts (parts_of vs)) (fits_present p v) (parts_fit test ps (parts_of vs)) a b

  nothing_read : (limit : ℕ) (s : Spot) → s.place ≤ limit → Read limit s [] 0 true s
  nothing_read limit s here = record { parts = refl; onward = omega arith; inside = here; spent = omega arith; fits = refl }

  parts_found : (ps : List Part) (limit : ℕ) (s : Spot) (vs : List (Option Value)) (to : Spot) → AreOctets s.rest → s.place ≤ limit → parts_at inner limit s ps ≡ Ok (vs, to) → PartsAs ps limit s vs to
  unfolding parts_at
  parts_found [] limit s vs to are here e =
      let same = ok_is {A = List (Option Value) × Spot} ([], s) (vs, to) e in
      subst (λ (y : List (Option Value) × Spot). PartsAs [] limit s y.0 y.1) same (nothing_read limit s here)
  parts_found (p ∷ ps) limit s vs to are here e =
      let b = bind_ok (part_at (inner p.inner.0) p limit s) _ (vs, to) e in
      let mid : Spot = b.0.1 in
      let c = bind_ok (parts_at inner limit mid ps) (λ more. Ok (b.0.0 ∷ more.0, more.1)) (vs, to) b.2 in
      let same = ok_is {A = List (Option Value) × Spot} (b.0.0 ∷ c.0.0, c.0.1) (vs, to) c.2 in
      let f = part_found p limit s b.0.0 mid are here b.1 in
      subst (λ (y : List (Option Value) × Spot). PartsAs (p ∷ ps) limit s y.0 y.1) same
      (parts_join p ps limit s mid c.0.1 b.0.0 c.0.0 f (parts_found ps limit mid c.0.0 c.0.1 (read_octets limit s mid _ _ _ f are) f.inside c.1))

  pub sequence_found : (ps : List Part) → Found (sequence_fits (parts_fit test ps)) (sequence_written write ps) (sequence_at inner ps)
  unfolding sequence_at
  sequence_found ps = record {
    found = λ limit s v to are here e.
        let b = bind_ok (parts_at inner limit s ps) (λ found. Ok (parts (parts_of found.0), found.1)) (v, to) e in
        let same = ok_is {A = Value × Spot} (parts (parts_of b.0.0), b.0.1) (v, to) b.2 in
        let r = parts_found ps limit s b.0.0 b.0.1 are here b.1 in
        subst (λ (y : Value × Spot). ReadAs (sequence_fits (parts_fit test ps)) (sequence_written write ps) limit s y.0 y.1) same
        (record { parts = r.parts; onward = r.onward; inside = r.inside; spent = r.spent; fit = r.fits });
  }

  abbrev ItemsAs : ℕ → ℕ → Spot → List Value → Spot → Type 0
  ItemsAs n limit s vs to = Read limit s (values_written (write n) (values_of vs)) (items_of_values (values_of vs)) (values_fit (test n) (values_of vs)) to

  items_found : (n k limit : ℕ) (s : Spot) (vs : List Value) (to : Spot) → AreOctets s.rest → s.place ≤ limit → items_at (inner n) k limit s ≡ Ok (vs, to) → ItemsAs n limit s vs to × (how_many (values_of vs) ≡ k)
  unfolding items_at
  items_found n zero limit s vs to are here e =
      let same = ok_is {A = List Value × Spot} ([], s) (vs, to) e in
      subst (λ (y : List Value × Spot). ItemsAs n limit s y.0 y.1 × (how_many (values_of y.0) ≡ 0)) same (nothing_read limit s here, refl)
  items_found n (suc k) limit s vs to are here e =
      let b = bind_ok (inner n limit s) _ (vs, to) e in
      let mid : Spot = b.0.1 in
      let c = bind_ok (items_at (inner n) k limit mid) (λ more. Ok (b.0.0 ∷ more.0, more.1)) (vs, to) b.2 in
      let same = ok_is {A = List Value × Spot} (b.0.0 ∷ c.0.0, c.0.1) (vs, to) c.2 in
      let f = of_read (test n) (write n) limit s b.0.0 mid ((h n).found limit s b.0.0 mid are here b.1) in
      let g = items_found n k limit mid c.0.0 c.0.1 (read_octets limit s mid _ _ _ f are) f.inside c.1 in
      subst (λ (y : List Value × Spot). ItemsAs n limit s y.0 y.1 × (how_many (values_of y.0) ≡ suc k)) same
      (read_then limit s mid c.0.1 (write n b.0.0) (values_written (write n) (values_of c.0.0)) (items b.0.0) (items_of_values (values_of c.0.0)) (test n b.0.0) (values_fit (test n) (values_of c.0.0)) f g.0, ap suc g.1)

  pub list_found : (n : ℕ) → Found (list_fits (test n)) (list_written (write n)) (list_at (inner n))
  unfolding list_at
  list_found n = record {
    found = λ limit s v to are here e.
        let b = bind_ok (count_at limit s) _ (v, to) e in
        let k : ℕ = b.0.0 in
        let mid : Spot = b.0.1 in
        let t = count_found limit s mid k are b.1 in
        let u = unless_ok (nat_lt mid.left k) (faults.NotSpelled s.place _) (items_at (inner n) k limit (spent k mid) >>= λ found. Ok (list (values_of found.0), found.1)) (v, to) b.2 in
        let c = bind_ok (items_at (inner n) k limit (spent k mid)) (λ found. Ok (list (values_of found.0), found.1)) (v, to) u.1 in
        let same = ok_is {A = Value × Spot} (list (values_of c.0.0), c.0.1) (v, to) c.2 in
        let enough : k ≤ mid.left = ltb-false mid.left k u.0 in
        let g = items_found n k limit (spent k mid) c.0.0 c.0.1 (took_octets limit s mid (big_bytes 4 k) t are) t.inside c.1 in
        let many : how_many (values_of c.0.0) ≡ k = g.1 in
        let texts : List ℕ = values_written (write n) (values_of c.0.0) in
        subst (λ (y : Value × Spot). ReadAs (list_fits (test n)) (list_written (write n)) limit s y.0 y.1) same
        (record {
          parts = t.parts ∙ ap (λ (x : List ℕ). big_bytes 4 k ++ x) g.0.parts ∙ ap (λ (j : ℕ). (big_bytes 4 j ++ texts) ++ c.0.1.rest) (sym many);
          onward = omega (arith, t.onward, g.0.onward);
          inside = g.0.inside;
          spent = omega (arith, t.left, g.0.spent);
          fit = g.0.fits;
        });
  }

  set_items_found : (spell : Value → List ℕ) (n : ℕ) (before : List Value) (k limit : ℕ) (s : Spot) (vs : List Value) (to : Spot) → AreOctets s.rest → s.place ≤ limit → set_items_at (set_item_at spell (inner n)) before k limit s ≡ Ok (vs, to)
      → ItemsAs n limit s vs to × (how_many (values_of vs) ≡ k) × GoOn spell before (values_of vs)
  unfolding set_items_at set_item_at
  set_items_found spell n before zero limit s vs to are here e =
      let same = ok_is {A = List Value × Spot} ([], s) (vs, to) e in
      subst (λ (y : List Value × Spot). ItemsAs n limit s y.0 y.1 × (how_many (values_of y.0) ≡ 0) × GoOn spell before (values_of y.0)) same (nothing_read limit s here, refl, tt)
  set_items_found spell n before (suc k) limit s vs to are here e =
      let b = bind_ok (set_item_at spell (inner n) before limit s) _ (vs, to) e in
      let a = bind_ok (inner n limit s) _ b.0 b.1 in
      let w = if_ok (behind_last spell before a.0.0) (faults.NotSpelled s.place _) (Ok a.0) b.0 a.2 in
      let same_item = ok_is {A = Value × Spot} a.0 b.0 w.1 in
      let mid : Spot = b.0.1 in
      let read : inner n limit s ≡ Ok (b.0.0, mid) = a.1 ∙ ap (λ (x : Value × Spot). Ok x) same_item in
      let stands : behind_last spell before b.0.0 ≡ true = ap (λ (x : Value × Spot). behind_last spell before x.0) (sym same_item) ∙ w.0 in
      let c = bind_ok (set_items_at (set_item_at spell (inner n)) (before ++ b.0.0 ∷ []) k limit mid) (λ more. Ok (b.0.0 ∷ more.0, more.1)) (vs, to) b.2 in
      let same = ok_is {A = List Value × Spot} (b.0.0 ∷ c.0.0, c.0.1) (vs, to) c.2 in
      let f = of_read (test n) (write n) limit s b.0.0 mid ((h n).found limit s b.0.0 mid are here read) in
      let g = set_items_found spell n (before ++ b.0.0 ∷ []) k limit mid c.0.0 c.0.1 (read_octets limit s mid _ _ _ f are) f.inside c.1 in
      subst (λ (y : List Value × Spot). ItemsAs n limit s y.0 y.1 × (how_many (values_of y.0) ≡ suc k) × GoOn spell before (values_of y.0)) same (
        read_then limit s mid c.0.1 (write n b.0.0) (values_written (write n) (values_of c.0.0)) (items b.0.0) (items_of_values (values_of c.0.0)) (test n b.0.0) (values_fit (test n) (values_of c.0.0)) f g.0,
        ap suc g.1,
        (stands, up_after spell before b.0.0 (values_of c.0.0) g.2),
      )

  pub set_of_found : (spell : Value → List ℕ) (n : ℕ) → Found (λ v. list_fits (test n) v && set_rises spell v) (list_written (write n)) (set_of_at spell (inner n))
  unfolding set_of_at
  set_of_found spell n = record {
    found = λ limit s v to are here e.
        let b = bind_ok (count_at limit s) _ (v, to) e in
        let k : ℕ = b.0.0 in
        let mid : Spot = b.0.1 in
        let t = count_found limit s mid k are b.1 in
        let u = unless_ok (nat_lt mid.left k) (faults.NotSpelled s.place _) (set_items_at (set_item_at spell (inner n)) [] k limit (spent k mid) >>= λ found. Ok (list (values_of found.0), found.1)) (v, to) b.2 in
        let c = bind_ok (set_items_at (set_item_at spell (inner n)) [] k limit (spent k mid)) (λ found. Ok (list (values_of found.0), found.1)) (v, to) u.1 in
        let same = ok_is {A = Value × Spot} (list (values_of c.0.0), c.0.1) (v, to) c.2 in
        let enough : k ≤ mid.left = ltb-false mid.left k u.0 in
        let g = set_items_found spell n [] k limit (spent k mid) c.0.0 c.0.1 (took_octets limit s mid (big_bytes 4 k) t are) t.inside c.1 in
        let many : how_many (values_of c.0.0) ≡ k = g.1 in
        let texts : List ℕ = values_written (write n) (values_of c.0.0) in
        subst (λ (y : Value × Spot). ReadAs (λ v. list_fits (test n) v && set_rises spell v) (list_written (write n)) limit s y.0 y.1) same
        (record {
          parts = t.parts ∙ ap (λ (x : List ℕ). big_bytes 4 k ++ x) g.0.parts ∙ ap (λ (j : ℕ). (big_bytes 4 j ++ texts) ++ c.0.1.rest) (sym many);
          onward = omega (arith, t.onward, g.0.onward);
          inside = g.0.inside;
          spent = omega (arith, t.left, g.0.spent);
          fit = rw (g.0.fits, goes_rise spell (values_of c.0.0) g.2) refl;
        });
  }

  slot_found : (ps : List Part) (limit : ℕ) (s mid : Spot) (which : ℕ) (v : Value) (to : Spot) → AreOctets mid.rest → Took limit s (which ∷ []) mid → (o : Option Part) → slice_get ps which ≡ o → alternative_at inner s.place which o limit mid ≡ Ok (v, to)
      → ReadAs (choice_fits (λ k. alternative_fits test (slice_get ps k))) (choice_written write ps) limit s v to
  slot_found ps limit s mid which v to are t None g e = absurd cc
  slot_found ps limit s mid which v to are t (Some p) g e =
      let b = bind_ok (inner p.inner.0 limit mid) (λ x. Ok (chosen which x.0, x.1)) (v, to) e in
      let same = ok_is {A = Value × Spot} (chosen which b.0.0, b.0.1) (v, to) b.2 in
      let r = (h p.inner.0).found limit mid b.0.0 b.0.1 are t.inside b.1 in
      let text : alternative_written write which (slice_get ps which) b.0.0 ≡ which ∷ write p.inner.0 b.0.0 = ap (λ (o : Option Part). alternative_written write which o b.0.0) g in
      subst (λ (y : Value × Spot). ReadAs (choice_fits (λ k. alternative_fits test (slice_get ps k))) (choice_written write ps) limit s y.0 y.1) same
      (record {
        parts = t.parts ∙ ap (λ (x : List ℕ). which ∷ x) r.parts ∙ ap (λ (x : List ℕ). x ++ b.0.1.rest) (sym text);
        onward = omega (arith, t.onward, r.onward, ap length text);
        inside = r.inside;
        spent = omega (arith, t.left, r.spent);
        fit = ap (λ (o : Option Part). alternative_fits test o b.0.0) g ∙ r.fit;
      })

  pub choice_found : (ps : List Part) → Found (choice_fits (λ k. alternative_fits test (slice_get ps k))) (choice_written write ps) (choice_at inner ps)
  unfolding choice_at
  choice_found ps = record {
    found = λ limit s v to are here e.
        let b = bind_ok (octet_at limit s) _ (v, to) e in
        let t = octet_found limit s b.0.1 b.0.0 b.1 in
        slot_found ps limit s b.0.1 b.0.0 v to (took_octets limit s b.0.1 (b.0.0 ∷ []) t are) t (slice_get ps b.0.0) refl b.2;
  }
