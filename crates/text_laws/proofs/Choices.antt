-- Alternatives of a CHOICE that are read back.
use Rattle.std.proofs.Common.{◌≡◌, ℕ, zero, suc, ◌+◌, ◌^◌, ◌<◌, Bool, true, false, List, [], ◌∷◌, ◌++◌, length, Option, None, Some, refl, ap, sym, ◌∙◌, subst, arith, append_assoc, nat_lt, slice_get}
use Rattle.std.specs.List.{list_all, AllByRecursion}
use Rattle.std.proofs.lemmas.Bool.Decides.{nat_tests}
use Rattle.asn1_types.specs.declared.row.Part.{Part}
use Rattle.asn1_types.specs.Fits.{alternative_fits}
use Rattle.asn1_types.specs.Rows.{rows_of_parts}
use Rattle.asn1_types.specs.Table.{parts_agree, agrees_later}
use Rattle.asn1_types.specs.Value.{Value, chosen}
use Rattle.value_text.specs.Printed.{alternative_text, choice_text}
use Rattle.value_reading.specs.Found.{Reader}
use Rattle.value_reading.specs.Words.{word, behind_word, after_spaces}
use Rattle.value_reading.specs.Typed.{place_of, chosen_at, alternative_at, named_alternative, choice_at}
use Rattle.text_laws.specs.Laws.{may_follow, is_name, are_named}
use Rattle.text_laws.proofs.Tests.{both_true}
use Rattle.text_laws.proofs.Words.{word_is, behind_is}
use Rattle.text_laws.proofs.Starts.{starts, spaces_kept, name_starts, name_plain, Inner}
use Rattle.text_laws.proofs.Parts.{found_place}

name_at : (ps : List Part) (i : ℕ) (p : Part) → list_all (λ (p : Part). is_name p.name) ps ≡ true → slice_get ps i ≡ Some p → is_name p.name ≡ true
name_at [] i p h e = absurd (let no : ⊥ = cc in no)
name_at (q ∷ qs) zero p h e = let same : q ≡ p = cc in ap (λ (x : Part). is_name x.name) (sym same) ∙ (both_true (is_name q.name) (list_all (λ (p : Part). is_name p.name) qs) h).0
name_at (q ∷ qs) (suc i) p h e = name_at qs i p (both_true (is_name q.name) (list_all (λ (p : Part). is_name p.name) qs) h).1 e

module _ (fit : ℕ → Value → Bool) (text : ℕ → Value → List ℕ) (read : ℕ → Reader) where
  inner_at : (ps : List Part) (i : ℕ) (p : Part) → AllByRecursion (λ m. Inner (fit m) (text m) (read m)) (rows_of_parts ps) → slice_get ps i ≡ Some p
      → Inner (fit p.inner.0) (text p.inner.0) (read p.inner.0)
  inner_at [] i p h e = absurd (let no : ⊥ = cc in no)
  inner_at (q ∷ qs) zero p h e = let same : q ≡ p = cc in subst (λ (x : Part). Inner (fit x.inner.0) (text x.inner.0) (read x.inner.0)) same h.0
  inner_at (q ∷ qs) (suc i) p h e = inner_at qs i p h.1 e

  by_part : (ps : List Part) (which : ℕ) (o : Option Part) (v : Value) (rest : List ℕ) → slice_get ps which ≡ o → alternative_fits fit o v ≡ true → may_follow rest ≡ true → are_named ps ≡ true
      → agrees_later parts_agree ps ≡ false → AllByRecursion (λ m. Inner (fit m) (text m) (read m)) (rows_of_parts ps)
      → choice_at read ps (alternative_text text o v ++ rest) ≡ Some (record { value = chosen which v; rest = rest })
  by_part ps which None v rest e f m n apart inner = absurd (let no : ⊥ = cc in no)
  by_part ps which (Some p) v rest e f m n apart inner =
      let ns = both_true (list_all (λ (p : Part). is_name p.name) ps) (nat_lt (length ps) (2 ^ 32)) n in
      let short : length ps < 2 ^ 32 = grind (arith, nat_tests, ns.1) in
      let name = name_at ps which p ns.0 e in
      let i = inner_at ps which p inner e in
      let value_text = text p.inner.0 v in
      let tail = 32 ∷ 58 ∷ 32 ∷ (value_text ++ rest) in
      let same : (p.name ++ (32 ∷ 58 ∷ 32 ∷ value_text)) ++ rest ≡ p.name ++ tail = append_assoc p.name (32 ∷ 58 ∷ 32 ∷ value_text) rest in
      let place : place_of ps (word (p.name ++ tail)) ≡ Some which = ap (place_of ps) (word_is p.name tail (name_plain p.name name) refl) ∙ found_place ps which p apart short e in
      let b : behind_word (p.name ++ tail) ≡ tail = behind_is p.name tail (name_plain p.name name) refl in
      let kept : after_spaces (value_text ++ rest) ≡ value_text ++ rest = spaces_kept value_text rest (i.start v f) in
      ap (choice_at read ps) same ∙ ap (λ o. named_alternative read ps o (behind_word (p.name ++ tail))) place
      ∙ ap (named_alternative read ps (Some which)) b ∙ ap (λ o. alternative_at read which o (Some (after_spaces (value_text ++ rest)))) e
      ∙ ap (λ x. chosen_at which (read p.inner.0 x)) kept ∙ ap (chosen_at which) (i.back v rest f m)

  pub choice_back : (ps : List Part) (which : ℕ) (v : Value) (rest : List ℕ) → alternative_fits fit (slice_get ps which) v ≡ true → may_follow rest ≡ true → are_named ps ≡ true
      → agrees_later parts_agree ps ≡ false → AllByRecursion (λ m. Inner (fit m) (text m) (read m)) (rows_of_parts ps)
      → choice_at read ps (choice_text text ps (chosen which v) ++ rest) ≡ Some (record { value = chosen which v; rest = rest })
  choice_back ps which v rest f m n apart inner = by_part ps which (slice_get ps which) v rest refl f m n apart inner

  starts_by : (ps : List Part) (which : ℕ) (o : Option Part) (v : Value) → slice_get ps which ≡ o → alternative_fits fit o v ≡ true → are_named ps ≡ true → starts (alternative_text text o v) ≡ true
  starts_by ps which None v e f n = absurd (let no : ⊥ = cc in no)
  starts_by ps which (Some p) v e f n =
      name_starts p.name (32 ∷ 58 ∷ 32 ∷ text p.inner.0 v) (name_at ps which p (both_true (list_all (λ (p : Part). is_name p.name) ps) (nat_lt (length ps) (2 ^ 32)) n).0 e)

  pub choice_starts : (ps : List Part) (which : ℕ) (v : Value) → alternative_fits fit (slice_get ps which) v ≡ true → are_named ps ≡ true → starts (choice_text text ps (chosen which v)) ≡ true
  choice_starts ps which v f n = starts_by ps which (slice_get ps which) v refl f n
