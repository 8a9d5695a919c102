-- The octets of a text in two parts.
use Rattle.std.proofs.Common.{Bool, true, false, cond, ◌≡◌, ℕ, zero, suc, ◌+◌, ◌-◌, ◌<◌, ◌≤◌, List, [], ◌∷◌, ◌++◌, length, drop, get_or, Option, Some, None, refl, sym, ap, ◌∙◌, append_assoc, length-append, arith}
use Rattle.std.specs.List.{flat_map}
use Rattle.std.proofs.lemmas.List.{get_or_append_left, get_or-append_right, get_or_past}
use Rattle.std.specs.Prelude.{nat_eq}
use Rattle.asn1_types.specs.declared.row.Part.{Part}
use Rattle.asn1_types.specs.declared.row.Tag as tags
use Rattle.asn1_types.specs.Tags.{ranks, front_rank}
use Rattle.asn1_types.specs.Value.{Value, MaybeValues}
use Rattle.asn1_types.specs.ValueView.{parts_of}
use Rattle.asn1_types.specs.Writing.{identifier, length_octets, definite, Writer, of_rank, part_contents, parts_contents, risen_parts, set_parts}
use Rattle.ber_spelling.proofs.WriteLaws.{parts_before, risen_next}

pub front_octet : (a b whole : List ℕ) (at : ℕ) → whole ≡ a ++ b → at < length a → get_or whole at 0 ≡ get_or a at 0
front_octet a b whole at e lt = ap (λ (l : List ℕ). get_or l at 0) e ∙ get_or_append_left a b 0 at lt

pub back_octet : (a b whole : List ℕ) (at len : ℕ) → whole ≡ a ++ b → length a ≡ len → len ≤ at → get_or whole at 0 ≡ get_or b (at - len) 0
back_octet a b whole at len e f le = ap (λ (l : List ℕ). get_or l at 0) e ∙ get_or-append_right a b len at 0 f le

pub each_step : (f : ℕ → List ℕ) (ns : List ℕ) (i : ℕ) → i < length ns → flat_map f (drop i ns) ≡ f (get_or ns i 0) ++ flat_map f (drop (suc i) ns)
each_step f [] i lt = absurd (omega arith)
each_step f (n ∷ ns) zero lt = refl
each_step f (n ∷ ns) (suc i) lt = each_step f ns i (omega arith)

pub no_octet : (at : ℕ) → get_or {A = ℕ} [] at 0 ≡ 0
no_octet at = get_or_past [] at 0 (omega arith)

pub drop_none : {A : Type 0} (xs : List A) (i : ℕ) → length xs ≤ i → drop i xs ≡ []
drop_none [] zero le = refl
drop_none [] (suc i) le = refl
drop_none (x ∷ xs) zero le = absurd (omega arith)
drop_none (x ∷ xs) (suc i) le = drop_none xs i (omega arith)

pub behind_one : (x : ℕ) (l : List ℕ) (at : ℕ) → 0 < at → get_or (x ∷ l) at 0 ≡ get_or l (at - 1) 0
behind_one x l zero lt = absurd (omega arith)
behind_one x l (suc at) lt = let e : suc at - 1 ≡ at = omega arith in ap (λ (k : ℕ). get_or l k 0) (sym e)

pub within_definite : (constructed : Bool) (tag : tags.Tag) (contents : List ℕ) → length contents ≤ length (definite constructed tag contents)
within_definite constructed tag contents =
    let a = length-append (identifier tag.class constructed tag.number) (length_octets (length contents) ++ contents) in
    let b = length-append (length_octets (length contents)) contents in
    omega arith

-- ---- one part

pub part_short : (f : ℕ → Writer) (ps : List Part) (vs : List (Option Value)) (i most : ℕ) (p : Part) (o : Option Value) → i < length ps → i < length vs → p ≡ get_or ps i p → o ≡ get_or vs i o
    → length (parts_contents f (drop i ps) (parts_of (drop i vs))) ≤ most → length (part_contents f p o) ≤ most
part_short f ps vs i most p o lt more e g le =
    let both = ap length (parts_before f ps vs i p o lt more e g) ∙ length-append (part_contents f p o) (parts_contents f (drop (suc i) ps) (parts_of (drop (suc i) vs))) in
    omega arith

-- what has octets of a rank has that rank
pub ranked_same : (f : ℕ → Writer) (r : ℕ) (p : Part) (o : Option Value) → 0 < length (part_contents (of_rank r f) p o) → part_contents (of_rank r f) p o ≡ part_contents f p o
ranked_same f r p None lt = refl
ranked_same f r p (Some v) lt = by_test (nat_eq (front_rank (f p.inner.0 None v)) r) (f p.inner.0 None v) lt
  where
    by_test : (b : Bool) (l : List ℕ) → 0 < length (cond b l []) → cond b l [] ≡ l
    by_test true l lt = refl
    by_test false l lt = absurd (omega arith)

-- ---- parts of a SET by rank

module _ (f : ℕ → Writer) (ps : List Part) (vs : MaybeValues) where
  front_from : (d from many total least : ℕ) → total ≡ d + many → least ≡ from + d → (front : List ℕ) × (risen_parts f total from ps vs ≡ front ++ risen_parts f many least ps vs)
  unfolding risen_parts
  front_from zero from many total least e g =
      let same : total ≡ many = omega arith in
      let here : from ≡ least = omega arith in
      ([], λ i. risen_parts f (same i) (here i) ps vs)
  front_from (suc d) from many total least e g =
      let one : total ≡ suc (d + many) = omega arith in
      let h = front_from d (suc from) many (d + many) least refl (omega arith) in (
        parts_contents (of_rank from f) ps vs ++ h.0,
        ap (λ (k : ℕ). risen_parts f k from ps vs) one ∙ ap (λ (l : List ℕ). parts_contents (of_rank from f) ps vs ++ l) h.1 ∙ sym (append_assoc (parts_contents (of_rank from f) ps vs) h.0 (risen_parts f many least ps vs)),
      )

  -- what stands before the parts of this rank and those of higher ones
  risen_front : (total r : ℕ) → r ≤ total → (front : List ℕ) × (risen_parts f total 0 ps vs ≡ front ++ risen_parts f (total - r) r ps vs)
  risen_front total r le = front_from r 0 (total - r) total r (omega arith) (omega arith)

  -- an octet of the parts of a rank
  pub ranked_octet : (total bound r at start count : ℕ) → r < bound → bound ≤ total → ((k : ℕ) → r + 1 ≤ k → k < bound → parts_contents (of_rank k f) ps vs ≡ [])
      → count ≡ length (risen_parts f total 0 ps vs) → start + length (parts_contents (of_rank r f) ps vs) + length (risen_parts f (total - bound) bound ps vs) ≡ count
      → start ≤ at → at < start + length (parts_contents (of_rank r f) ps vs) → get_or (risen_parts f total 0 ps vs) at 0 ≡ get_or (parts_contents (of_rank r f) ps vs) (at - start) 0
  ranked_octet total bound r at start count lt le none whole all from until =
      let one : List ℕ = parts_contents (of_rank r f) ps vs in
      let tail : List ℕ = risen_parts f (total - bound) bound ps vs in
      let low : r ≤ total = omega arith in
      let p = risen_front total r low in
      let next = risen_next f ps vs total bound r lt le none in
      let rest : risen_parts f total 0 ps vs ≡ p.0 ++ (one ++ tail) = p.1 ∙ ap (λ (l : List ℕ). p.0 ++ l) next in
      let len = ap length rest ∙ length-append p.0 (one ++ tail) in
      let len2 = length-append one tail in
      let size : length p.0 ≡ start = omega arith in
      back_octet p.0 (one ++ tail) (risen_parts f total 0 ps vs) at start rest size from ∙ front_octet one tail (one ++ tail) (at - start) refl (omega arith)

  -- an octet of the parts of a rank in a SET
  pub set_octet : (bound r at start count : ℕ) → r < bound → bound ≤ ranks → ((k : ℕ) → r + 1 ≤ k → k < bound → parts_contents (of_rank k f) ps vs ≡ [])
      → count ≡ length (set_parts f ps vs) → start + length (parts_contents (of_rank r f) ps vs) + length (risen_parts f (ranks - bound) bound ps vs) ≡ count
      → start ≤ at → at < start + length (parts_contents (of_rank r f) ps vs) → get_or (set_parts f ps vs) at 0 ≡ get_or (parts_contents (of_rank r f) ps vs) (at - start) 0
  unfolding set_parts
  set_octet bound r at start count lt le none whole all from until = ranked_octet ranks bound r at start count lt le none whole all from until
