-- Fields that don't stand, and those behind so many.
use Rattle.std.proofs.Common.{◌≡◌, ℕ, zero, suc, ◌-◌, ◌<◌, List, [], ◌∷◌, ◌++◌, length, drop, Option, None, refl, sym, ap, ◌∙◌, arith, append_assoc}
use Rattle.asn1_types.specs.declared.row.TypeRow.{TypeRow}
use Rattle.asn1_types.specs.Value.{Value}
use Rattle.passed_fields.specs.declared.field.Field as known
use Rattle.passed_fields.specs.Known.{HaveRows}
use Rattle.passed_fields.specs.Passing.{nones}

pub nones_some : (n : ℕ) → 0 < n → nones n ≡ None ∷ nones (n - 1)
nones_some zero lt = absurd (omega arith)
nones_some (suc n) lt = let less : suc n - 1 ≡ n = omega arith in rw less refl

-- one more, and then the others
pub nones_more : (before more : List (Option Value)) (n : ℕ) → 0 < n → more ≡ before ++ None ∷ [] → more ++ nones (n - 1) ≡ before ++ nones n
nones_more before more n lt e =
    ap (λ (x : List (Option Value)). x ++ nones (n - 1)) e ∙ append_assoc before (None ∷ []) (nones (n - 1)) ∙ ap (λ (x : List (Option Value)). before ++ x) (sym (nones_some n lt))

pub drop_past : {A : Type 0} (n : ℕ) (xs : List A) → length xs < n → drop n xs ≡ []
drop_past zero xs lt = absurd (omega arith)
drop_past (suc n) [] lt = refl
drop_past (suc n) (x ∷ xs) lt = drop_past n xs (omega arith)

pub rows_behind : (rows : List TypeRow) (fields : List known.Field) (n : ℕ) → HaveRows rows fields → HaveRows rows (drop n fields)
rows_behind rows fields zero h = h
rows_behind rows [] (suc n) h = h
rows_behind rows (f ∷ fs) (suc n) h = rows_behind rows fs n h.1
