-- How many octets the parts of a SET have.
use Rattle.std.proofs.Common.{◌≡◌, ℕ, zero, suc, ◌+◌, ◌-◌, ◌%◌, ◌<◌, ◌≤◌, Bool, true, false, cond, List, [], ◌∷◌, ◌++◌, length, None, refl, sym, ap, ◌∙◌, arith, length-append, inl, inr}
use Rattle.std.specs.Prelude.{nat_eq}
use Rattle.std.proofs.lemmas.Bool.{cases_lt, eq-eqb, ne_eqb}
use Rattle.asn1_types.specs.declared.row.Class.{Class}
use Rattle.asn1_types.specs.declared.row.Class.TheVariants.{Universal, Application, Context, Private}
use Rattle.asn1_types.specs.declared.row.Part.{Part}
use Rattle.asn1_types.specs.Value.{Value, boolean, integer, null, octets, bits, object_id, text, parts, list, chosen, any, MaybeValues, no_parts, absent, present}
use Rattle.asn1_types.specs.declared.row.Tag as tags
use Rattle.asn1_types.specs.Writing.{Writer, parts_contents, sequence_contents, of_rank, risen_parts, set_parts, identifier, length_octets, definite}
use Rattle.asn1_types.specs.Tags.{class_of, rank, ranks, front_number, front_rank}
use Rattle.ber_spelling.proofs.WriteLaws.{risen_next}

-- ---- each rank is one

rank_below : (class : Class) (number : ℕ) → rank class number < ranks
rank_below Universal number = omega arith
rank_below Application number = omega arith
rank_below Context number = omega arith
rank_below Private number = omega arith

front_below : (l : List ℕ) → front_rank l < ranks
unfolding front_rank
front_below [] = omega arith
front_below (first ∷ rest) = by_test (nat_eq (first % 32) 31) (rank_below (class_of first) (front_number 0 rest)) (rank_below (class_of first) (first % 32))
  where
    by_test : (x : Bool) {a b : ℕ} → a < ranks → b < ranks → cond x a b < ranks
    by_test true h k = h
    by_test false h k = k

-- how many octets of a text have a rank from `least` on, among `many` ranks
count : ℕ → ℕ → List ℕ → ℕ
count zero least l = 0
count (suc many) least l = length (cond (nat_eq (front_rank l) least) l []) + count many (suc least) l

count_past : (many least : ℕ) (l : List ℕ) → front_rank l < least → count many least l ≡ 0
unfolding count
count_past zero least l lt = refl
count_past (suc many) least l lt =
    let h = count_past many (suc least) l (omega arith) in
    let none : length (cond (nat_eq (front_rank l) least) l []) ≡ 0 = rw (ne_eqb (front_rank l) least (λ e. omega arith)) refl in
    omega arith

count_here : (many least : ℕ) (l : List ℕ) → front_rank l ≡ least → count (suc many) least l ≡ length l
unfolding count
count_here many least l e =
    let none = count_past many (suc least) l (omega arith) in
    let whole : length (cond (nat_eq (front_rank l) least) l []) ≡ length l = rw (eq-eqb (front_rank l) least e) refl in
    omega arith

count_later : (many least : ℕ) (l : List ℕ) → least < front_rank l → count (suc many) least l ≡ count many (suc least) l
unfolding count
count_later many least l lt =
    let none : length (cond (nat_eq (front_rank l) least) l []) ≡ 0 = rw (ne_eqb (front_rank l) least (λ e. omega arith)) refl in
    omega arith

count_all : (many least : ℕ) (l : List ℕ) → least ≤ front_rank l → front_rank l < least + many → count many least l ≡ length l
count_all zero least l le lt = absurd (omega arith)
count_all (suc many) least l le lt = elim (cases_lt least (front_rank l)) [ inl more ↦ count_later many least l more ∙ count_all many (suc least) l more (omega arith) | inr ge ↦ count_here many least l (omega arith) ]

module _ (f : ℕ → Writer) where
  risen_none : (many least : ℕ) (vs : MaybeValues) → length (risen_parts f many least [] vs) ≡ 0
  unfolding risen_parts
  risen_none zero least vs = refl
  risen_none (suc many) least vs = risen_none many (suc least) vs

  risen_few : (many least : ℕ) (p : Part) (ps : List Part) → length (risen_parts f many least (p ∷ ps) no_parts) ≡ 0
  unfolding risen_parts
  risen_few zero least p ps = refl
  risen_few (suc many) least p ps = risen_few many (suc least) p ps

  risen_absent : (many least : ℕ) (p : Part) (ps : List Part) (vs : MaybeValues) → length (risen_parts f many least (p ∷ ps) (absent vs)) ≡ length (risen_parts f many least ps vs)
  unfolding risen_parts
  risen_absent zero least p ps vs = refl
  risen_absent (suc many) least p ps vs =
      let h = risen_absent many (suc least) p ps vs in
      let a = length-append (parts_contents (of_rank least f) ps vs) (risen_parts f many (suc least) (p ∷ ps) (absent vs)) in
      let b = length-append (parts_contents (of_rank least f) ps vs) (risen_parts f many (suc least) ps vs) in
      omega arith

  risen_present : (many least : ℕ) (p : Part) (ps : List Part) (v : Value) (vs : MaybeValues) → length (risen_parts f many least (p ∷ ps) (present v vs)) ≡ count many least (f p.inner.0 None v) + length (risen_parts f many least ps vs)
  unfolding risen_parts count
  risen_present zero least p ps v vs = omega arith
  risen_present (suc many) least p ps v vs =
      let l : List ℕ = f p.inner.0 None v in
      let one : List ℕ = cond (nat_eq (front_rank l) least) l [] in
      let more : List ℕ = parts_contents (of_rank least f) ps vs in
      let h = risen_present many (suc least) p ps v vs in
      let a = length-append (one ++ more) (risen_parts f many (suc least) (p ∷ ps) (present v vs)) in
      let b = length-append one more in
      let d = length-append more (risen_parts f many (suc least) ps vs) in
      omega arith

  risen_length : (total : ℕ) → ((l : List ℕ) → front_rank l < total) → (ps : List Part) (vs : MaybeValues) → length (risen_parts f total 0 ps vs) ≡ length (parts_contents f ps vs)
  risen_length total below [] vs = risen_none total 0 vs
  risen_length total below (p ∷ ps) no_parts = risen_few total 0 p ps
  risen_length total below (p ∷ ps) (absent vs) = risen_absent total 0 p ps vs ∙ risen_length total below ps vs
  risen_length total below (p ∷ ps) (present v vs) =
      let l : List ℕ = f p.inner.0 None v in
      let h = risen_length total below ps vs in
      let lt = below l in
      let a = risen_present total 0 p ps v vs in
      let b = count_all total 0 l (omega arith) (omega arith) in
      let d = length-append l (parts_contents f ps vs) in
      omega arith

  pub set_length : (ps : List Part) (vs : MaybeValues) → length (set_parts f ps vs) ≡ length (parts_contents f ps vs)
  unfolding set_parts
  set_length ps vs = risen_length ranks front_below ps vs

  pub contents_length : (ps : List Part) (v : Value) → length (sequence_contents (set_parts f ps) v) ≡ length (sequence_contents (parts_contents f ps) v)
  contents_length ps (parts vs) = set_length ps vs
  contents_length ps null = refl
  contents_length ps (boolean b) = refl
  contents_length ps (integer z) = refl
  contents_length ps (octets os) = refl
  contents_length ps (bits os n) = refl
  contents_length ps (object_id os) = refl
  contents_length ps (text os) = refl
  contents_length ps (list vs) = refl
  contents_length ps (chosen n v) = refl
  contents_length ps (any os) = refl

  -- A SET has as many octets as a SEQUENCE of the same parts.
  pub as_sequence : (tag : tags.Tag) (ps : List Part) (v : Value) → length (definite true tag (sequence_contents (set_parts f ps) v)) ≡ length (definite true tag (sequence_contents (parts_contents f ps) v))
  as_sequence tag ps v =
      let e = contents_length ps v in
      let n : ℕ = length (sequence_contents (parts_contents f ps) v) in
      headed (sequence_contents (set_parts f ps) v) ∙ ap (λ (k : ℕ). length (identifier tag.class true tag.number) + (length (length_octets k) + k)) e ∙ sym (headed (sequence_contents (parts_contents f ps) v))
    where
      headed : (c : List ℕ) → length (definite true tag c) ≡ length (identifier tag.class true tag.number) + (length (length_octets (length c)) + length c)
      headed c =
          let a = length-append (identifier tag.class true tag.number) (length_octets (length c) ++ c) in
          let b = length-append (length_octets (length c)) c in
          omega arith

-- ---- room for the next lower rank

module _ (f : ℕ → Writer) (ps : List Part) (vs : MaybeValues) where
  risen_within : (d from many total least : ℕ) → total ≡ d + many → least ≡ from + d → length (risen_parts f many least ps vs) ≤ length (risen_parts f total from ps vs)
  unfolding risen_parts
  risen_within zero from many total least e g =
      let same : total ≡ many = omega arith in
      let here : least ≡ from = omega arith in
      rw (same, here) (omega arith)
  risen_within (suc d) from many total least e g =
      let one : total ≡ suc (d + many) = omega arith in
      let h = risen_within d (suc from) many (d + many) least refl (omega arith) in
      let a = length-append (parts_contents (of_rank from f) ps vs) (risen_parts f (d + many) (suc from) ps vs) in
      rw one (omega arith)

  pub risen_room : (bound r : ℕ) → r < bound → bound ≤ ranks → ((k : ℕ) → r + 1 ≤ k → k < bound → parts_contents (of_rank k f) ps vs ≡ [])
      → length (parts_contents (of_rank r f) ps vs) + length (risen_parts f (ranks - bound) bound ps vs) ≤ length (set_parts f ps vs)
  unfolding set_parts
  risen_room bound r lt le none = by_total ranks le
    where
      by_total : (total : ℕ) → bound ≤ total → length (parts_contents (of_rank r f) ps vs) + length (risen_parts f (total - bound) bound ps vs) ≤ length (risen_parts f total 0 ps vs)
      by_total total le =
          let e = ap length (risen_next f ps vs total bound r lt le none) ∙ length-append (parts_contents (of_rank r f) ps vs) (risen_parts f (total - bound) bound ps vs) in
          let h = risen_within r 0 (total - r) total r (omega arith) (omega arith) in
          omega arith
