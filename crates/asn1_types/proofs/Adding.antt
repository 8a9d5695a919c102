-- A table with one row more.
use Rattle.std.proofs.Common.{◌≡◌, ℕ, zero, suc, ◌<◌, List, [], ◌∷◌, ◌++◌, length, Some, None, refl, sym, ap, ◌∙◌, subst, arith, length-append, ◌⊎◌, inl, inr}
use Rattle.std.proofs.lemmas.Bool.{cases_lt}
use Rattle.std.specs.Prelude.{slice_get, slice_index}
use Rattle.std.specs.List.{AllByRecursion}
use Rattle.std.proofs.lemmas.List.{take-append-le, take_at}
use Rattle.asn1_types.specs.declared.row.TypeRow.{TypeRow}
use Rattle.asn1_types.specs.Rows.{names_of, nesting, nesting_by}
use Rattle.asn1_types.specs.Table.{first_from, refusal, HasShortTag, AreSoundRows}
use Rattle.asn1_types.specs.Inside.{IsKept}
use Rattle.asn1_types.proofs.Along.{SameTo, agree}
use Rattle.asn1_types.proofs.Sound.{names_below, nesting_cong, nesting_at, is_down, taken}

pub kept_names : (count : ℕ) (ns : List ℕ) → first_from count ns ≡ None → AllByRecursion (λ m. m < count) ns
kept_names count ns e = names_below count count ns (omega arith) e

alike : (rows : List TypeRow) (nestings : List ℕ) → IsKept rows nestings → (ns : List ℕ) → AllByRecursion (λ m. m < length rows) ns → AllByRecursion (λ m. slice_index nestings m ≡ nesting rows m) ns
alike rows nestings k [] h = tt
alike rows nestings k (n ∷ ns) h = (k.each n h.0, alike rows nestings k ns h.1)

pub kept_nesting : (rows : List TypeRow) (nestings : List ℕ) → IsKept rows nestings → (row : TypeRow) → AllByRecursion (λ m. m < length rows) (names_of row) → nesting_by (λ n. slice_index nestings n) row ≡ nesting_by (nesting rows) row
kept_nesting rows nestings k row h = nesting_cong row (λ n. slice_index nestings n) (nesting rows) (alike rows nestings k (names_of row) h)

slice_get-push : (rows : List TypeRow) (row : TypeRow) (n : ℕ) → n < length rows → slice_get (rows ++ row ∷ []) n ≡ slice_get rows n
slice_get-push [] row n lt = absurd (omega arith)
slice_get-push (r ∷ rows) row zero lt = refl
slice_get-push (r ∷ rows) row (suc n) lt = slice_get-push rows row n (omega arith)

slice_get-last : (rows : List TypeRow) (row : TypeRow) → slice_get (rows ++ row ∷ []) (length rows) ≡ Some row
slice_get-last [] row = refl
slice_get-last (r ∷ rows) row = slice_get-last rows row

push_cases : (rows : List TypeRow) (row r : TypeRow) (n : ℕ) → slice_get (rows ++ row ∷ []) n ≡ Some r → ((n < length rows) × (slice_get rows n ≡ Some r)) ⊎ ((n ≡ length rows) × (row ≡ r))
push_cases [] row r zero e = let same : row ≡ r = let s : Some row ≡ Some r = e in cc in inr (refl, same)
push_cases [] row r (suc n) e = absurd cc
push_cases (x ∷ rows) row r zero e = inl (omega arith, e)
push_cases (x ∷ rows) row r (suc n) e =
    elim (push_cases rows row r n e) [
      | inl t ↦ let lt = t.0 in inl (omega arith, t.1)
      | inr t ↦ inr (ap (λ (k : ℕ). suc k) t.0, t.1)
    ]

pub sound_push : (rows : List TypeRow) (row : TypeRow) → AreSoundRows rows → refusal rows row ≡ None → HasShortTag row → AreSoundRows (rows ++ row ∷ [])
sound_push rows row s e short = record {
  each = λ n r g.
      elim (push_cases rows row r n g) [
        | inl t ↦ let lt = t.0 in ap (λ (x : List TypeRow). refusal x r) (take-append-le n rows (row ∷ []) (omega arith)) ∙ s.each n r t.1
        | inr t ↦ ap (λ (x : List TypeRow). refusal x r) (take_at rows (row ∷ []) n (sym t.0)) ∙ ap (refusal rows) (sym t.1) ∙ e
      ];
  short = λ n r g. elim (push_cases rows row r n g) [ inl t ↦ s.short n r t.1 | inr t ↦ subst HasShortTag t.1 short ];
}

same_push : (rows : List TypeRow) (row : TypeRow) (n : ℕ) → n < length rows → SameTo (rows ++ row ∷ []) rows n
same_push rows row n lt = record { same = λ m le. slice_get-push rows row m (omega arith) }

nesting_push : (rows : List TypeRow) (row : TypeRow) → AreSoundRows (rows ++ row ∷ []) → (n : ℕ) → n < length rows → nesting (rows ++ row ∷ []) n ≡ nesting rows n
unfolding nesting
nesting_push rows row s n lt =
    agree 0 nesting_by nesting_cong (rows ++ row ∷ []) rows (is_down (rows ++ row ∷ []) s) n (length (rows ++ row ∷ [])) (length rows) (omega (arith, length-append rows (row ∷ []))) lt (same_push rows row n lt)

alike_push : (rows : List TypeRow) (row : TypeRow) → AreSoundRows (rows ++ row ∷ []) → (ns : List ℕ) → AllByRecursion (λ m. m < length rows) ns → AllByRecursion (λ m. nesting (rows ++ row ∷ []) m ≡ nesting rows m) ns
alike_push rows row s [] h = tt
alike_push rows row s (n ∷ ns) h = (nesting_push rows row s n h.0, alike_push rows row s ns h.1)

nesting_last : (rows : List TypeRow) (row : TypeRow) → AreSoundRows (rows ++ row ∷ []) → AllByRecursion (λ m. m < length rows) (names_of row) → nesting (rows ++ row ∷ []) (length rows) ≡ nesting_by (nesting rows) row
nesting_last rows row s h =
    whole ∙ nesting_cong row (nesting (rows ++ row ∷ [])) (nesting rows) (alike_push rows row s (names_of row) h)
  where
    whole : nesting (rows ++ row ∷ []) (length rows) ≡ nesting_by (nesting (rows ++ row ∷ [])) row
    whole = nesting_at (rows ++ row ∷ []) s (length rows) row (slice_get-last rows row)

index_push : (ns : List ℕ) (x n : ℕ) → n < length ns → slice_index (ns ++ x ∷ []) n ≡ slice_index ns n
index_push [] x n lt = absurd (omega arith)
index_push (y ∷ ns) x zero lt = refl
index_push (y ∷ ns) x (suc n) lt = index_push ns x n (omega arith)

index_last : (ns : List ℕ) (x n : ℕ) → n ≡ length ns → slice_index (ns ++ x ∷ []) n ≡ x
index_last [] x n e = ap (slice_index (x ∷ [])) e
index_last (y ∷ ns) x n e = ap (slice_index (y ∷ (ns ++ x ∷ []))) e ∙ index_last ns x (length ns) refl

pub kept_push : (rows : List TypeRow) (nestings : List ℕ) (row : TypeRow) (x : ℕ) → IsKept rows nestings → refusal rows row ≡ None → HasShortTag row → x ≡ nesting_by (nesting rows) row → IsKept (rows ++ row ∷ []) (nestings ++ x ∷ [])
kept_push rows nestings row x k e short same =
    let s = sound_push rows row k.sound e short in
    let names = kept_names (length rows) (names_of row) (taken rows row e).names in
    record {
      sound = s;
      len = omega (arith, length-append rows (row ∷ []), length-append nestings (x ∷ []), k.len);
      each = λ n lt. elim (cases_lt n (length rows)) [
        | inl l ↦ index_push nestings x n (omega (arith, k.len)) ∙ k.each n l ∙ sym (nesting_push rows row s n l)
        | inr g ↦
            let at : n ≡ length rows = omega (arith, length-append rows (row ∷ [])) in
            index_last nestings x n (omega (arith, k.len)) ∙ same ∙ sym (nesting_last rows row s names) ∙ ap (nesting (rows ++ row ∷ [])) (sym at)
      ];
    }
