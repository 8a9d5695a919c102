-- A table each of whose rows may stand behind those before it is sound.
use Rattle.std.proofs.Common.{◌≡◌, ℕ, zero, suc, ◌^◌, true, List, [], ◌∷◌, ◌++◌, take, Option, Some, None, refl, sym, ap, ◌∙◌, subst, append_assoc}
use Rattle.std.specs.Prelude.{slice_get, is_none}
use Rattle.std.proofs.lemmas.Bool.{and_parts, ltb-true}
use Rattle.std.proofs.lemmas.List.{append-nil}
use Rattle.asn1_types.specs.declared.row.TypeRow.{TypeRow}
use Rattle.asn1_types.specs.declared.row.TypeRow.TheVariants.{Tagged}
use Rattle.asn1_types.specs.declared.refusal.RowRefusal.{RowRefusal}
use Rattle.asn1_types.specs.Table.{refusal, AreSoundRows, HasShortTag}
use Rattle.fixed_tables.specs.Rows.{all_added, has_short_tag, are_short}

none_is : (o : Option RowRefusal) → is_none o ≡ true → o ≡ None
none_is None e = refl
none_is (Some r) e = absurd cc

added_each : (before rows : List TypeRow) (n : ℕ) (row : TypeRow) → all_added before rows ≡ true → slice_get rows n ≡ Some row → refusal (before ++ take n rows) row ≡ None
added_each before [] n row a e = absurd cc
added_each before (r ∷ rs) zero row a e =
    let p = and_parts (is_none (refusal before r)) (all_added (before ++ r ∷ []) rs) a in
    let same : r ≡ row = cc in
    let here : before ++ take zero (r ∷ rs) ≡ before = append-nil before in
    ap (λ (x : List TypeRow). refusal x row) here ∙ ap (refusal before) (sym same) ∙ none_is (refusal before r) p.0
added_each before (r ∷ rs) (suc n) row a e =
    let p = and_parts (is_none (refusal before r)) (all_added (before ++ r ∷ []) rs) a in
    ap (λ (x : List TypeRow). refusal x row) (sym (append_assoc before (r ∷ []) (take n rs))) ∙ added_each (before ++ r ∷ []) rs n row p.1 e

short_is : (row : TypeRow) → has_short_tag row ≡ true → HasShortTag row
short_is (Tagged class number explicit inner) e = ltb-true number (2 ^ 32) e
short_is _ e = tt

short_each : (rows : List TypeRow) (n : ℕ) (row : TypeRow) → are_short rows ≡ true → slice_get rows n ≡ Some row → HasShortTag row
short_each [] n row a e = absurd cc
short_each (r ∷ rs) zero row a e =
    let p = and_parts (has_short_tag r) (are_short rs) a in
    let same : r ≡ row = cc in
    subst HasShortTag same (short_is r p.0)
short_each (r ∷ rs) (suc n) row a e = let p = and_parts (has_short_tag r) (are_short rs) a in short_each rs n row p.1 e

pub sound_of : (rows : List TypeRow) → all_added [] rows ≡ true → are_short rows ≡ true → AreSoundRows rows
sound_of rows a s = record {
  each = λ n row e. added_each [] rows n row a e;
  short = λ n row e. short_each rows n row s e;
}
