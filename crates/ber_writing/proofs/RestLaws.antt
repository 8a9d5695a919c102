-- What stands behind a place in the contents of two values, told from the last piece to the first.
use Rattle.std.proofs.Common.{◌≡◌, ◌≢◌, ℕ, zero, suc, ◌+◌, ◌-◌, ◌<◌, ◌≤◌, List, [], ◌∷◌, ◌++◌, length, get_or, drop, min, Option, None, refl, sym, ap, ◌∙◌, subst, arith, append_assoc, length-append, ◌⊎◌, inl, inr}
use Rattle.std.proofs.lemmas.Bool.{cases_lt}
use Rattle.std.specs.declared.cmp.Ordering.{Ordering}
use Rattle.std.specs.declared.cmp.Ordering.TheVariants.{Equal}
use Rattle.asn1_types.specs.declared.row.Part.{Part}
use Rattle.asn1_types.specs.Value.{Value, MaybeValues}
use Rattle.asn1_types.specs.ValueView.{parts_of, values_of}
use Rattle.asn1_types.specs.Writing.{Writer, saturated, identifier, part_contents, parts_contents, values_contents, of_rank, risen_parts}
use Rattle.ber_spelling.proofs.WriteLaws.{parts_before, values_before, risen_next}
use Rattle.ber_writing.specs.declared.pieces.Compared.{Compared}
use Rattle.ber_writing.specs.declared.pieces.Rest.{Rest}
use Rattle.ber_writing.specs.declared.pieces.TheConstants.{END}
use Rattle.ber_writing.specs.declared.head.Head.{Head}
use Rattle.ber_writing.specs.Comparing.{compared, Decides, IsCompared, Leads, IsRest}
use Rattle.ber_writing.proofs.ComparedLaws.{heads_decide, so_compared}

-- ---- what octets begin with

pub leads_more : (head : Head) (xs ys : List ℕ) → Leads head xs → Leads head (xs ++ ys)
leads_more head xs ys h = record {
  behind = h.behind ++ ys;
  are = ap (λ (l : List ℕ). l ++ ys) h.are ∙ append_assoc (identifier head.tag.class head.constructed head.tag.number) h.behind ys;
}

-- octets with other identifiers decide
pub leads_decide : (o : Ordering) (a b : Head) (xs ys : List ℕ) → Leads a xs → Leads b ys
    → o ≡ compared (identifier a.tag.class a.constructed a.tag.number) (identifier b.tag.class b.constructed b.tag.number) → o ≢ Equal → Decides o xs ys
leads_decide o a b xs ys h k is ne =
    subst (λ (l : List ℕ). Decides o l ys) (sym h.are)
    (subst (λ (l : List ℕ). Decides o (identifier a.tag.class a.constructed a.tag.number ++ h.behind) l) (sym k.are)
    (heads_decide o a.tag.class a.constructed a.tag.number b.tag.class b.constructed b.tag.number h.behind k.behind is ne))

pub leads_told : (o : Ordering) (a b : Head) (xs ys : List ℕ) → Leads a xs → Leads b ys
    → o ≡ compared (identifier a.tag.class a.constructed a.tag.number) (identifier b.tag.class b.constructed b.tag.number) → o ≢ Equal → compared xs ys ≡ o
leads_told o a b xs ys h k is ne = sym (so_compared o xs ys (leads_decide o a b xs ys h k is ne))

-- ---- a piece of one value alone

pub told_here : (told behind : Compared) (w xs ys : List ℕ) (len : ℕ) → len ≡ saturated (length w) → told.len ≡ saturated (len + behind.len) → told.other ≡ behind.other → IsCompared behind xs ys → compared (w ++ xs) ys ≡ told.order → IsCompared told (w ++ xs) ys
told_here told behind w xs ys len e l o h is =
    let both = length-append w xs in
    record { len = omega (arith, e, l, h.len, both); other = o ∙ h.other; order = λ a b. sym is }

pub told_there : (told behind : Compared) (w xs ys : List ℕ) (len : ℕ) → len ≡ saturated (length w) → told.len ≡ behind.len → told.other ≡ saturated (len + behind.other) → IsCompared behind xs ys → compared xs (w ++ ys) ≡ told.order → IsCompared told xs (w ++ ys)
told_there told behind w xs ys len e l o h is =
    let both = length-append w ys in
    record { len = l ∙ h.len; other = omega (arith, e, o, h.other, both); order = λ a b. sym is }

-- ---- parts, from the last to the first

-- a step, with the octets behind it
abbrev pub Step : Rest → Rest → List ℕ → List ℕ → Type 0
Step behind rest a b = (xs ys : List ℕ) → IsRest behind xs ys → IsRest rest (a ++ xs) (b ++ ys)

module _ (f : ℕ → Writer) (ps : List Part) (vs ws : List (Option Value)) (i k : ℕ) (p : Part) (o q : Option Value) (behind rest : Rest) where
  pub parts_step : k ≡ suc i → i < length ps → i < length vs → i < length ws → p ≡ get_or ps i p → o ≡ get_or vs i o → q ≡ get_or ws i q → Step behind rest (part_contents f p o) (part_contents f p q)
      → IsRest behind (parts_contents f (drop k ps) (parts_of (drop k vs))) (parts_contents f (drop k ps) (parts_of (drop k ws)))
      → IsRest rest (parts_contents f (drop i ps) (parts_of (drop i vs))) (parts_contents f (drop i ps) (parts_of (drop i ws)))
  parts_step up lt more others e d g step h =
      let a = parts_before f ps vs i p o lt more e d in
      let b = parts_before f ps ws i p q lt others e g in
      subst (λ (l : List ℕ). IsRest rest l (parts_contents f (drop i ps) (parts_of (drop i ws)))) (sym a)
      (subst (λ (l : List ℕ). IsRest rest (part_contents f p o ++ parts_contents f (drop (suc i) ps) (parts_of (drop (suc i) vs))) l) (sym b)
      (step (parts_contents f (drop (suc i) ps) (parts_of (drop (suc i) vs))) (parts_contents f (drop (suc i) ps) (parts_of (drop (suc i) ws)))
      (subst (λ (n : ℕ). IsRest behind (parts_contents f (drop n ps) (parts_of (drop n vs))) (parts_contents f (drop n ps) (parts_of (drop n ws)))) up h)))

  -- with what stands behind all parts
  pub parts_step_behind : (xs ys : List ℕ) → k ≡ suc i → i < length ps → i < length vs → i < length ws → p ≡ get_or ps i p → o ≡ get_or vs i o → q ≡ get_or ws i q → Step behind rest (part_contents f p o) (part_contents f p q)
      → IsRest behind (parts_contents f (drop k ps) (parts_of (drop k vs)) ++ xs) (parts_contents f (drop k ps) (parts_of (drop k ws)) ++ ys)
      → IsRest rest (parts_contents f (drop i ps) (parts_of (drop i vs)) ++ xs) (parts_contents f (drop i ps) (parts_of (drop i ws)) ++ ys)
  parts_step_behind xs ys up lt more others e d g step h =
      let a = ap (λ (l : List ℕ). l ++ xs) (parts_before f ps vs i p o lt more e d) ∙ append_assoc (part_contents f p o) (parts_contents f (drop (suc i) ps) (parts_of (drop (suc i) vs))) xs in
      let b = ap (λ (l : List ℕ). l ++ ys) (parts_before f ps ws i p q lt others e g) ∙ append_assoc (part_contents f p q) (parts_contents f (drop (suc i) ps) (parts_of (drop (suc i) ws))) ys in
      subst (λ (l : List ℕ). IsRest rest l (parts_contents f (drop i ps) (parts_of (drop i ws)) ++ ys)) (sym a)
      (subst (λ (l : List ℕ). IsRest rest (part_contents f p o ++ (parts_contents f (drop (suc i) ps) (parts_of (drop (suc i) vs)) ++ xs)) l) (sym b)
      (step (parts_contents f (drop (suc i) ps) (parts_of (drop (suc i) vs)) ++ xs) (parts_contents f (drop (suc i) ps) (parts_of (drop (suc i) ws)) ++ ys)
      (subst (λ (n : ℕ). IsRest behind (parts_contents f (drop n ps) (parts_of (drop n vs)) ++ xs) (parts_contents f (drop n ps) (parts_of (drop n ws)) ++ ys)) up h)))

-- parts of the next lower rank
pub risen_step : (f : ℕ → Writer) (ps : List Part) (vs ws : MaybeValues) (total bound r : ℕ) (behind rest : Rest) → r < bound → bound ≤ total
    → ((k : ℕ) → r + 1 ≤ k → k < bound → parts_contents (of_rank k f) ps vs ≡ []) → ((k : ℕ) → r + 1 ≤ k → k < bound → parts_contents (of_rank k f) ps ws ≡ [])
    → Step behind rest (parts_contents (of_rank r f) ps vs) (parts_contents (of_rank r f) ps ws)
    → IsRest behind (risen_parts f (total - bound) bound ps vs) (risen_parts f (total - bound) bound ps ws)
    → IsRest rest (risen_parts f (total - r) r ps vs) (risen_parts f (total - r) r ps ws)
risen_step f ps vs ws total bound r behind rest lt le none others step h =
    let a = risen_next f ps vs total bound r lt le none in
    let b = risen_next f ps ws total bound r lt le others in
    subst (λ (l : List ℕ). IsRest rest l (risen_parts f (total - r) r ps ws)) (sym a)
    (subst (λ (l : List ℕ). IsRest rest (parts_contents (of_rank r f) ps vs ++ risen_parts f (total - bound) bound ps vs) l) (sym b)
    (step (risen_parts f (total - bound) bound ps vs) (risen_parts f (total - bound) bound ps ws) h))

-- ---- items, from the last to the first

values_none : (f : Writer) (vs : List Value) (i : ℕ) → length vs ≤ i → values_contents f (values_of (drop i vs)) ≡ []
values_none f [] zero le = refl
values_none f [] (suc i) le = refl
values_none f (v ∷ vs) zero le = absurd (omega arith)
values_none f (v ∷ vs) (suc i) le = values_none f vs i (omega arith)

pub values_end : (f : Writer) (vs ws : List Value) (i : ℕ) → i ≡ min (length vs) (length ws) → (values_contents f (values_of (drop i vs)) ≡ []) ⊎ (values_contents f (values_of (drop i ws)) ≡ [])
values_end f vs ws i e = elim (cases_lt (length vs) (length ws)) [
  | inl lt ↦ inl (values_none f vs i (omega arith))
  | inr ge ↦ inr (values_none f ws i (omega arith))
]

pub values_step : (f : Writer) (vs ws : List Value) (i k : ℕ) (v w : Value) (behind told : Compared) → k ≡ suc i → i < length vs → i < length ws → v ≡ get_or vs i v → w ≡ get_or ws i w
    → ((xs ys : List ℕ) → IsCompared behind xs ys → IsCompared told (f None v ++ xs) (f None w ++ ys))
    → IsCompared behind (values_contents f (values_of (drop k vs))) (values_contents f (values_of (drop k ws))) → IsCompared told (values_contents f (values_of (drop i vs))) (values_contents f (values_of (drop i ws)))
values_step f vs ws i k v w behind told up lt more e d step h =
    let a = values_before f vs i v lt e in
    let b = values_before f ws i w more d in
    subst (λ (l : List ℕ). IsCompared told l (values_contents f (values_of (drop i ws)))) (sym a)
    (subst (λ (l : List ℕ). IsCompared told (f None v ++ values_contents f (values_of (drop (suc i) vs))) l) (sym b)
    (step (values_contents f (values_of (drop (suc i) vs))) (values_contents f (values_of (drop (suc i) ws)))
    (subst (λ (n : ℕ). IsCompared behind (values_contents f (values_of (drop n vs))) (values_contents f (values_of (drop n ws)))) up h)))

-- ---- behind the last

pub end_compared : IsCompared END.told [] []
end_compared = record { len = refl; other = refl; order = λ a b. refl }

pub end_is : (xs ys : List ℕ) → xs ≡ [] → ys ≡ [] → IsRest END xs ys
end_is xs ys e d =
    subst (λ (l : List ℕ). IsRest END l ys) (sym e) (subst (λ (l : List ℕ). IsRest END [] l) (sym d) (record { told = end_compared; lead = refl; other = refl }))
