-- Parts of a SET in DER, spelled one after the other, are its parts by rising tags.
use Rattle.std.proofs.Common.{◌≡◌, ◌≢◌, ℕ, zero, suc, ◌+◌, ◌<◌, ◌≤◌, Bool, true, false, cond, List, [], ◌∷◌, ◌++◌, Option, Some, None, refl, sym, ap, ◌∙◌, subst, arith, append_assoc, append-nil, ◌⊎◌, inl, inr}
use Rattle.std.specs.Prelude.{slice_get, slice_set, nat_eq}
use Rattle.std.proofs.lemmas.Bool.{eq-eqb, ne_eqb, cases_lt}
use Rattle.asn1_types.specs.declared.row.Part.{Part}
use Rattle.asn1_types.specs.Defaults.{is_default}
use Rattle.asn1_types.specs.Tags.{front_rank}
use Rattle.asn1_types.specs.Value.{Value}
use Rattle.asn1_types.specs.ValueView.{parts_of, empty_slots}
use Rattle.asn1_types.specs.Writing.{Writer, of_rank, parts_contents, risen_parts}
use Rattle.ber_spelling.specs.Rules.{settled}

module _ (f : ℕ → Writer) where
  -- the parts found have ranks below one, and none is its default's value
  abbrev pub Found : ℕ → List Part → List (Option Value) → Type 0
  Found least [] [] = Unit {0}
  Found least [] (o ∷ os) = ⊥
  Found least (p ∷ ps) [] = ⊥
  Found least (p ∷ ps) (None ∷ os) = Found least ps os
  Found least (p ∷ ps) (Some v ∷ os) = (front_rank (f p.inner.0 None v) < least) × (is_default p.default v ≡ false) × Found least ps os

  pub none_found : (ps : List Part) → Found 0 ps (empty_slots ps)
  none_found [] = tt
  none_found (p ∷ ps) = none_found ps

  pub settled_same : (least : ℕ) (ps : List Part) (os : List (Option Value)) → Found least ps os → settled ps os ≡ os
  settled_same least [] [] h = refl
  settled_same least [] (o ∷ os) h = absurd h
  settled_same least (p ∷ ps) [] h = absurd h
  settled_same least (p ∷ ps) (None ∷ os) h = ap (λ (l : List (Option Value)). None ∷ l) (settled_same least ps os h)
  settled_same least (p ∷ ps) (Some v ∷ os) h = λ i. cond (h.1 i) None (Some v) ∷ settled_same least ps os h.2 i

  abbrev ranked : ℕ → List Part → List (Option Value) → List ℕ
  ranked k ps os = parts_contents (of_rank k f) ps (parts_of os)

  not_ranked : (k least : ℕ) (ps : List Part) (os : List (Option Value)) → least ≤ k → Found least ps os → ranked k ps os ≡ []
  not_ranked k least [] os le h = refl
  not_ranked k least (p ∷ ps) [] le h = refl
  not_ranked k least (p ∷ ps) (None ∷ os) le h = not_ranked k least ps os le h
  not_ranked k least (p ∷ ps) (Some v ∷ os) le h =
      let lt : front_rank (f p.inner.0 None v) < least = h.0 in
      let other : nat_eq (front_rank (f p.inner.0 None v)) k ≡ false = ne_eqb (front_rank (f p.inner.0 None v)) k (λ e. omega arith) in
      ap (λ (b : Bool). cond b (f p.inner.0 None v) [] ++ ranked k ps os) other ∙ not_ranked k least ps os le h.2

  other_rank : (k r : ℕ) (ps : List Part) (os : List (Option Value)) (which : ℕ) (p : Part) (v : Value) → k ≢ r → slice_get ps which ≡ Some p → slice_get os which ≡ Some None → front_rank (f p.inner.0 None v) ≡ r
      → ranked k ps (slice_set os which (Some v)) ≡ ranked k ps os
  other_rank k r [] os which p v ne there free e = absurd cc
  other_rank k r (q ∷ ps) [] which p v ne there free e = absurd cc
  other_rank k r (q ∷ ps) (Some u ∷ os) zero p v ne there free e = absurd cc
  other_rank k r (q ∷ ps) (None ∷ os) zero p v ne there free e =
      let same : q ≡ p = cc in
      let own : front_rank (f q.inner.0 None v) ≡ r = ap (λ (x : Part). front_rank (f x.inner.0 None v)) same ∙ e in
      let other : nat_eq (front_rank (f q.inner.0 None v)) k ≡ false = ne_eqb (front_rank (f q.inner.0 None v)) k (λ g. ne (sym g ∙ own)) in
      ap (λ (b : Bool). cond b (f q.inner.0 None v) [] ++ ranked k ps os) other
  other_rank k r (q ∷ ps) (None ∷ os) (suc which) p v ne there free e = other_rank k r ps os which p v ne there free e
  other_rank k r (q ∷ ps) (Some u ∷ os) (suc which) p v ne there free e = ap (λ (l : List ℕ). of_rank k f q.inner.0 None u ++ l) (other_rank k r ps os which p v ne there free e)

  own_rank : (r least : ℕ) (ps : List Part) (os : List (Option Value)) (which : ℕ) (p : Part) (v : Value) → least ≤ r → Found least ps os → slice_get ps which ≡ Some p → slice_get os which ≡ Some None → front_rank (f p.inner.0 None v) ≡ r
      → ranked r ps (slice_set os which (Some v)) ≡ f p.inner.0 None v
  own_rank r least [] os which p v le h there free e = absurd cc
  own_rank r least (q ∷ ps) [] which p v le h there free e = absurd cc
  own_rank r least (q ∷ ps) (Some u ∷ os) zero p v le h there free e = absurd cc
  own_rank r least (q ∷ ps) (None ∷ os) zero p v le h there free e =
      let same : q ≡ p = cc in
      let own : nat_eq (front_rank (f q.inner.0 None v)) r ≡ true = eq-eqb (front_rank (f q.inner.0 None v)) r (ap (λ (x : Part). front_rank (f x.inner.0 None v)) same ∙ e) in
      (λ i. cond (own i) (f q.inner.0 None v) [] ++ not_ranked r least ps os le h i) ∙ append-nil (f q.inner.0 None v) ∙ ap (λ (x : Part). f x.inner.0 None v) same
  own_rank r least (q ∷ ps) (None ∷ os) (suc which) p v le h there free e = own_rank r least ps os which p v le h there free e
  own_rank r least (q ∷ ps) (Some u ∷ os) (suc which) p v le h there free e =
      let lt : front_rank (f q.inner.0 None u) < least = h.0 in
      let other : nat_eq (front_rank (f q.inner.0 None u)) r ≡ false = ne_eqb (front_rank (f q.inner.0 None u)) r (λ g. omega arith) in
      ap (λ (b : Bool). cond b (f q.inner.0 None u) [] ++ ranked r ps (slice_set os which (Some v))) other ∙ own_rank r least ps os which p v le h.2 there free e

  still_found : (least more : ℕ) (ps : List Part) (os : List (Option Value)) → least ≤ more → Found least ps os → Found more ps os
  still_found least more [] [] le h = tt
  still_found least more [] (o ∷ os) le h = absurd h
  still_found least more (p ∷ ps) [] le h = absurd h
  still_found least more (p ∷ ps) (None ∷ os) le h = still_found least more ps os le h
  still_found least more (p ∷ ps) (Some v ∷ os) le h = let lt = h.0 in (omega arith, h.1, still_found least more ps os le h.2)

  pub found_more : (least more : ℕ) (ps : List Part) (os : List (Option Value)) (which : ℕ) (p : Part) (v : Value) → least ≤ more → Found least ps os → slice_get ps which ≡ Some p → slice_get os which ≡ Some None → front_rank (f p.inner.0 None v) < more → is_default p.default v ≡ false
      → Found more ps (slice_set os which (Some v))
  found_more least more [] os which p v le h there free lt d = absurd cc
  found_more least more (q ∷ ps) [] which p v le h there free lt d = absurd cc
  found_more least more (q ∷ ps) (Some u ∷ os) zero p v le h there free lt d = absurd cc
  found_more least more (q ∷ ps) (None ∷ os) zero p v le h there free lt d =
      let same : p ≡ q = cc in
      (subst (λ (x : Part). front_rank (f x.inner.0 None v) < more) same lt, subst (λ (x : Part). is_default x.default v ≡ false) same d, still_found least more ps os le h)
  found_more least more (q ∷ ps) (None ∷ os) (suc which) p v le h there free lt d = found_more least more ps os which p v le h there free lt d
  found_more least more (q ∷ ps) (Some u ∷ os) (suc which) p v le h there free lt d =
      let low = h.0 in
      (omega arith, h.1, found_more least more ps os which p v le h.2 there free lt d)

  -- ---- all ranks

  pub none_risen : (many from least : ℕ) (ps : List Part) (os : List (Option Value)) → least ≤ from → Found least ps os → risen_parts f many from ps (parts_of os) ≡ []
  unfolding risen_parts
  none_risen zero from least ps os le h = refl
  none_risen (suc many) from least ps os le h = λ i. not_ranked from least ps os le h i ++ none_risen many (suc from) least ps os (omega arith) h i

  -- one part more, whose rank is above those of the parts found
  pub risen_more : (many from r least : ℕ) (ps : List Part) (os : List (Option Value)) (which : ℕ) (p : Part) (v : Value) → from ≤ r → r < from + many → least ≤ r → Found least ps os
      → slice_get ps which ≡ Some p → slice_get os which ≡ Some None → front_rank (f p.inner.0 None v) ≡ r → is_default p.default v ≡ false
      → risen_parts f many from ps (parts_of (slice_set os which (Some v))) ≡ risen_parts f many from ps (parts_of os) ++ f p.inner.0 None v
  unfolding risen_parts
  risen_more zero from r least ps os which p v low high le h there free e d = absurd (omega arith)
  risen_more (suc many) from r least ps os which p v low high le h there free e d = by_case (cases_lt from r) (risen_more many (suc from) r least ps os which p v)
    where
      w : List ℕ
      w = f p.inner.0 None v

      after : List (Option Value)
      after = slice_set os which (Some v)

      by_case : (from < r) ⊎ (r ≤ from)
          → (suc from ≤ r → r < suc from + many → least ≤ r → Found least ps os → slice_get ps which ≡ Some p → slice_get os which ≡ Some None → front_rank w ≡ r → is_default p.default v ≡ false
          → risen_parts f many (suc from) ps (parts_of after) ≡ risen_parts f many (suc from) ps (parts_of os) ++ w)
          → ranked from ps after ++ risen_parts f many (suc from) ps (parts_of after) ≡ (ranked from ps os ++ risen_parts f many (suc from) ps (parts_of os)) ++ w
      by_case (inl lt) next =
          let ne : from ≢ r = λ g. omega arith in
          let more = next (omega arith) (omega arith) le h there free e d in
          (λ i. other_rank from r ps os which p v ne there free e i ++ more i) ∙ sym (append_assoc (ranked from ps os) (risen_parts f many (suc from) ps (parts_of os)) w)
      by_case (inr ge) next =
          let same : r ≡ from = omega arith in
          let top : front_rank w ≡ from = e ∙ same in
          let up : least ≤ from = omega arith in
          let here = own_rank from least ps os which p v up h there free top in
          let found = found_more least (suc from) ps os which p v (omega arith) h there free (omega arith) d in
          let rest = none_risen many (suc from) (suc from) ps after (omega arith) found in
          let before = not_ranked from least ps os up h in
          let none = none_risen many (suc from) least ps os (omega arith) h in
          (λ i. here i ++ rest i) ∙ append-nil w ∙ sym (λ i. (before i ++ none i) ++ w)
