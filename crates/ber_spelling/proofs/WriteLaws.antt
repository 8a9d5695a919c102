-- What a row is written as goes by its rule.
use Rattle.std.proofs.Common.{◌≡◌, ℕ, zero, suc, ◌+◌, ◌-◌, ◌<◌, ◌≤◌, ◌∙◌, min, true, false, cond, List, [], ◌∷◌, ◌++◌, length, drop, get_or, Option, Some, None, refl, sym, ap, arith, ◌⊎◌, inl, inr}
use Rattle.std.specs.Prelude.{slice_get, nat_eq}
use Rattle.std.specs.List.{AllByRecursion}
use Rattle.std.proofs.lemmas.Option.{slice_get_past}
use Rattle.std.proofs.lemmas.Bool.{cases_lt}
use Rattle.asn1_types.specs.declared.row.Class.TheVariants.{Universal}
use Rattle.asn1_types.specs.declared.row.Part.{Part}
use Rattle.asn1_types.specs.declared.row.TypeRow.{TypeRow}
use Rattle.asn1_types.specs.declared.row.TypeRow.TheVariants.{Boolean, Integer, Enumerated, Null, OctetString, BitString, ObjectId, Text, Sequence, Set, SequenceOf, SetOf, Choice, Tagged, Any}
use Rattle.asn1_types.specs.Rows.{along, names_of, rows_of_parts}
use Rattle.asn1_types.specs.Table.{AreSoundRows}
use Rattle.asn1_types.specs.Value.{Value, MaybeValues, no_parts, absent, present}
use Rattle.asn1_types.specs.ValueView.{parts_of, values_of}
use Rattle.asn1_types.proofs.Along.{settled}
use Rattle.asn1_types.proofs.Sound.{is_down}
use Rattle.asn1_types.specs.declared.row.Tag as tags
use Rattle.asn1_types.specs.Writing.{Writer, part_contents, parts_contents, sequence_contents, values_contents, list_contents, alternative_written, choice_written, definite, under, tagged_written, nothing_written, write_by, writes, of_rank, risen_parts, set_parts}
use Rattle.asn1_types.specs.Tags.{tag_or, ranks, front_rank}

module _ (f g : ℕ → Writer) where
  parts_same : (ps : List Part) → AllByRecursion (λ m. f m ≡ g m) (rows_of_parts ps) → (vs : MaybeValues) → parts_contents f ps vs ≡ parts_contents g ps vs
  parts_same [] h vs = refl
  parts_same (p ∷ ps) h no_parts = refl
  parts_same (p ∷ ps) h (absent vs) = parts_same ps h.1 vs
  parts_same (p ∷ ps) h (present v vs) = λ i. h.0 i None v ++ parts_same ps h.1 vs i

  ranked_same : (r : ℕ) (ps : List Part) → AllByRecursion (λ m. f m ≡ g m) (rows_of_parts ps) → (vs : MaybeValues) → parts_contents (of_rank r f) ps vs ≡ parts_contents (of_rank r g) ps vs
  ranked_same r [] h vs = refl
  ranked_same r (p ∷ ps) h no_parts = refl
  ranked_same r (p ∷ ps) h (absent vs) = ranked_same r ps h.1 vs
  ranked_same r (p ∷ ps) h (present v vs) = λ i. cond (nat_eq (front_rank (h.0 i None v)) r) (h.0 i None v) [] ++ ranked_same r ps h.1 vs i

  risen_same : (many least : ℕ) (ps : List Part) → AllByRecursion (λ m. f m ≡ g m) (rows_of_parts ps) → (vs : MaybeValues) → risen_parts f many least ps vs ≡ risen_parts g many least ps vs
  unfolding risen_parts
  risen_same zero least ps h vs = refl
  risen_same (suc many) least ps h vs = λ i. ranked_same least ps h vs i ++ risen_same many (suc least) ps h vs i

  set_same : (ps : List Part) → AllByRecursion (λ m. f m ≡ g m) (rows_of_parts ps) → (vs : MaybeValues) → set_parts f ps vs ≡ set_parts g ps vs
  unfolding set_parts
  set_same ps h vs = risen_same ranks 0 ps h vs

  alternative_same : (ps : List Part) → AllByRecursion (λ m. f m ≡ g m) (rows_of_parts ps) → (which : ℕ) → alternative_written f (slice_get ps which) ≡ alternative_written g (slice_get ps which)
  alternative_same [] h which = refl
  alternative_same (p ∷ ps) h zero = λ i. h.0 i None
  alternative_same (p ∷ ps) h (suc which) = alternative_same ps h.1 which

pub write_cong : (row : TypeRow) (f g : ℕ → Writer) → AllByRecursion (λ m. f m ≡ g m) (names_of row) → write_by f row ≡ write_by g row
write_cong Boolean f g h = refl
write_cong (Integer low high) f g h = refl
write_cong (Enumerated items) f g h = refl
write_cong Null f g h = refl
write_cong (OctetString most) f g h = refl
write_cong BitString f g h = refl
write_cong ObjectId f g h = refl
write_cong (Text kind) f g h = refl
write_cong (Sequence ps) f g h = λ i tag v. definite true (tag_or tag Universal 16) (sequence_contents (λ vs. parts_same f g ps h vs i) v)
write_cong (Set ps) f g h = λ i tag v. definite true (tag_or tag Universal 17) (sequence_contents (λ vs. set_same f g ps h vs i) v)
write_cong (SequenceOf inner) f g h = λ i tag v. definite true (tag_or tag Universal 16) (list_contents (h.0 i) v)
write_cong (SetOf inner) f g h = λ i tag v. definite true (tag_or tag Universal 17) (list_contents (h.0 i) v)
write_cong (Choice ps) f g h = λ i. under (choice_written (λ which. alternative_same f g ps h which i))
write_cong (Tagged class number true inner) f g h = λ i. tagged_written true (h.0 i) class number
write_cong (Tagged class number false inner) f g h = λ i. tagged_written false (h.0 i) class number
write_cong Any f g h = refl

pub writes_at : (rows : List TypeRow) → AreSoundRows rows → (n : ℕ) (row : TypeRow) → slice_get rows n ≡ Some row → writes rows n ≡ write_by (writes rows) row
unfolding writes
writes_at rows sound n row e = settled nothing_written write_by write_cong rows (is_down rows sound) n row e

along_past : (rows : List TypeRow) (turns n : ℕ) (tag : Option tags.Tag) (v : Value) → length rows ≤ n → along nothing_written write_by rows turns n tag v ≡ []
along_past rows zero n tag v le = refl
along_past rows (suc turns) n tag v le = rw (slice_get_past rows n le) refl

pub writes_past : (rows : List TypeRow) (n : ℕ) (tag : Option tags.Tag) (v : Value) → length rows ≤ n → writes rows n tag v ≡ []
unfolding writes
writes_past rows n tag v le = along_past rows (length rows) n tag v le

-- parts and numbers one before the other
pub parts_before : (f : ℕ → Writer) (ps : List Part) (vs : List (Option Value)) (i : ℕ) (p : Part) (o : Option Value) → i < length ps → i < length vs → p ≡ get_or ps i p → o ≡ get_or vs i o
    → parts_contents f (drop i ps) (parts_of (drop i vs)) ≡ part_contents f p o ++ parts_contents f (drop (suc i) ps) (parts_of (drop (suc i) vs))
parts_before f [] vs i p o lt more e d = absurd (omega arith)
parts_before f (q ∷ ps) [] i p o lt more e d = absurd (omega arith)
parts_before f (q ∷ ps) (None ∷ vs) zero p o lt more e d = rw (e, d) refl
parts_before f (q ∷ ps) (Some v ∷ vs) zero p o lt more e d = rw (e, d) refl
parts_before f (q ∷ ps) (w ∷ vs) (suc i) p o lt more e d = parts_before f ps vs i p o (omega arith) (omega arith) e d

pub parts_none : (f : ℕ → Writer) (ps : List Part) (vs : List (Option Value)) (i : ℕ) → (length ps ≤ i) ⊎ (length vs ≤ i) → parts_contents f (drop i ps) (parts_of (drop i vs)) ≡ []
parts_none f [] vs zero h = refl
parts_none f [] vs (suc i) h = refl
parts_none f (p ∷ ps) [] zero h = refl
parts_none f (p ∷ ps) [] (suc i) h = by_rest (drop i ps)
  where
    by_rest : (qs : List Part) → parts_contents f qs no_parts ≡ []
    by_rest [] = refl
    by_rest (q ∷ qs) = refl
parts_none f (p ∷ ps) (v ∷ vs) zero (inl h) = absurd (omega arith)
parts_none f (p ∷ ps) (v ∷ vs) zero (inr h) = absurd (omega arith)
parts_none f (p ∷ ps) (v ∷ vs) (suc i) (inl h) = parts_none f ps vs i (inl (omega arith))
parts_none f (p ∷ ps) (v ∷ vs) (suc i) (inr h) = parts_none f ps vs i (inr (omega arith))

pub values_before : (f : Writer) (vs : List Value) (i : ℕ) (v : Value) → i < length vs → v ≡ get_or vs i v → values_contents f (values_of (drop i vs)) ≡ f None v ++ values_contents f (values_of (drop (suc i) vs))
values_before f [] i v lt e = absurd (omega arith)
values_before f (w ∷ vs) zero v lt e = rw e refl
values_before f (w ∷ vs) (suc i) v lt e = values_before f vs i v (omega arith) e

-- ---- parts by rising rank

module _ (f : ℕ → Writer) (ps : List Part) (vs : MaybeValues) where
  risen_gap : (d from total : ℕ) → ((k : ℕ) → from ≤ k → k < from + d → parts_contents (of_rank k f) ps vs ≡ []) → from + d ≤ total
      → risen_parts f (total - from) from ps vs ≡ risen_parts f (total - (from + d)) (from + d) ps vs
  unfolding risen_parts
  risen_gap zero from total none le = let same : from + 0 ≡ from = omega arith in ap (λ (n : ℕ). risen_parts f (total - n) n ps vs) (sym same)
  risen_gap (suc d) from total none le =
      let one : total - from ≡ suc (total - suc from) = omega arith in
      let next : suc from + d ≡ from + suc d = omega arith in
      let lower : from < from + suc d = omega arith in
      let here : parts_contents (of_rank from f) ps vs ≡ [] = none from (omega arith) lower in
      ap (λ (n : ℕ). risen_parts f n from ps vs) one
      ∙ ap (λ (x : List ℕ). x ++ risen_parts f (total - suc from) (suc from) ps vs) here
      ∙ risen_gap d (suc from) total (λ k ge lt. none k (omega arith) (omega arith)) (omega arith)
      ∙ ap (λ (n : ℕ). risen_parts f (total - n) n ps vs) next

  pub risen_begin : (total : ℕ) → risen_parts f (total - total) total ps vs ≡ []
  unfolding risen_parts
  risen_begin total = let none : total - total ≡ 0 = omega arith in ap (λ (n : ℕ). risen_parts f n total ps vs) none

  -- the next lower rank that a part has
  pub risen_next : (total bound r : ℕ) → r < bound → bound ≤ total → ((k : ℕ) → r + 1 ≤ k → k < bound → parts_contents (of_rank k f) ps vs ≡ [])
      → risen_parts f (total - r) r ps vs ≡ parts_contents (of_rank r f) ps vs ++ risen_parts f (total - bound) bound ps vs
  unfolding risen_parts
  risen_next total bound r lt le none =
      let one : total - r ≡ suc (total - suc r) = omega arith in
      let up : suc r + (bound - suc r) ≡ bound = omega arith in
      let gap : risen_parts f (total - suc r) (suc r) ps vs ≡ risen_parts f (total - bound) bound ps vs =
      risen_gap (bound - suc r) (suc r) total (λ k ge l. none k (omega arith) (omega arith)) (omega arith) ∙ ap (λ (k : ℕ). risen_parts f (total - k) k ps vs) up in
      ap (λ (k : ℕ). risen_parts f k r ps vs) one ∙ ap (λ (x : List ℕ). parts_contents (of_rank r f) ps vs ++ x) gap

  -- no part has a rank below the bound
  pub risen_end : (bound : ℕ) → bound ≤ ranks → ((k : ℕ) → k < bound → parts_contents (of_rank k f) ps vs ≡ []) → risen_parts f (ranks - bound) bound ps vs ≡ set_parts f ps vs
  unfolding set_parts
  risen_end bound le none = by_total ranks le
    where
      by_total : (total : ℕ) → bound ≤ total → risen_parts f (total - bound) bound ps vs ≡ risen_parts f total 0 ps vs
      by_total total le =
          let up : 0 + bound ≡ bound = omega arith in
          let all : total - 0 ≡ total = omega arith in
          sym (ap (λ (k : ℕ). risen_parts f k 0 ps vs) (sym all) ∙ risen_gap bound 0 total (λ k ge lt. none k (omega arith)) (omega arith) ∙ ap (λ (k : ℕ). risen_parts f (total - k) k ps vs) up)

-- ---- no part of a rank

pub parts_past : (f : ℕ → Writer) (ps : List Part) (vs : List (Option Value)) (i : ℕ) → i ≡ min (length ps) (length vs) → parts_contents f (drop i ps) (parts_of (drop i vs)) ≡ []
parts_past f ps vs i e = parts_none f ps vs i (past (length ps) (length vs) i e)
  where
    past : (a b i : ℕ) → i ≡ min a b → (a ≤ i) ⊎ (b ≤ i)
    past a b i e = elim (cases_lt a b) [ inl lt ↦ inl (omega arith) | inr ge ↦ inr (omega arith) ]

pub parts_still : (f : ℕ → Writer) (ps : List Part) (vs : List (Option Value)) (i : ℕ) (p : Part) (o : Option Value) → 0 < i → i ≤ length ps → i ≤ length vs → p ≡ get_or ps (i - 1) p → o ≡ get_or vs (i - 1) o
    → part_contents f p o ≡ [] → parts_contents f (drop i ps) (parts_of (drop i vs)) ≡ [] → parts_contents f (drop (i - 1) ps) (parts_of (drop (i - 1) vs)) ≡ []
parts_still f ps vs i p o some le more e d none h =
    let up : suc (i - 1) ≡ i = omega arith in
    parts_before f ps vs (i - 1) p o (omega arith) (omega arith) e d
    ∙ ap (λ (x : List ℕ). x ++ parts_contents f (drop (suc (i - 1)) ps) (parts_of (drop (suc (i - 1)) vs))) none
    ∙ ap (λ (n : ℕ). parts_contents f (drop n ps) (parts_of (drop n vs))) up ∙ h
