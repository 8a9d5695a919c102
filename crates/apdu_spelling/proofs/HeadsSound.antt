-- The fixed table of heads is sound.
use Rattle.std.proofs.Common.{◌≡◌, ℕ, zero, suc, List, [], ◌∷◌, ◌++◌, take, Some, None, refl, sym, ap, subst, ◌∙◌, arith, slice_get, append_assoc}
use Rattle.std.specs.List.{AllByRecursion}
use Rattle.std.proofs.lemmas.List.{append-nil}
use Rattle.asn1_types.specs.declared.row.TypeRow.{TypeRow}
use Rattle.asn1_types.specs.Rows.{nesting, openings}
use Rattle.asn1_types.specs.Table.{HasShortTag, AreSoundRows, refusal}
use Rattle.apdu_spelling.specs.Rows.{head_rows}

-- each row can be added behind those before it
abbrev AreAdded : List TypeRow → List TypeRow → Type 0
AreAdded front [] = Unit {0}
AreAdded front (row ∷ rows) = (refusal front row ≡ None) × AreAdded (front ++ row ∷ []) rows

some_is : {X : Type 0} (a b : X) → Some a ≡ Some b → a ≡ b
some_is a b h = cc

added : (front rows : List TypeRow) → AreAdded front rows → (n : ℕ) (row : TypeRow) → slice_get rows n ≡ Some row → refusal (front ++ take n rows) row ≡ None
added front [] h n row e = absurd cc
added front (r ∷ rows) h zero row e =
    subst (λ (x : TypeRow). refusal (front ++ []) x ≡ None) (some_is r row e) (ap (λ (x : List TypeRow). refusal x r) (append-nil front) ∙ h.0)
added front (r ∷ rows) h (suc n) row e =
    ap (λ (x : List TypeRow). refusal x row) (sym (append_assoc front (r ∷ []) (take n rows))) ∙ added (front ++ r ∷ []) rows h.1 n row e

heads_added : AreAdded [] head_rows
unfolding refusal nesting openings
heads_added = (refl, (refl, (refl, (refl, (refl, (refl, (refl, (refl, (refl, (refl, (refl, (refl, (refl, (refl, (refl, (refl, (refl, (refl, (refl, (refl, (refl, (refl, (refl, (refl, (refl, (refl, (refl, (refl, (refl, (refl, (refl, tt)))))))))))))))))))))))))))))))

short_at : (rows : List TypeRow) → AllByRecursion HasShortTag rows → (n : ℕ) (row : TypeRow) → slice_get rows n ≡ Some row → HasShortTag row
short_at [] h n row e = absurd cc
short_at (r ∷ rows) h zero row e = subst HasShortTag (some_is r row e) h.0
short_at (r ∷ rows) h (suc n) row e = short_at rows h.1 n row e

heads_short : AllByRecursion HasShortTag head_rows
heads_short = search arith

pub heads_sound : AreSoundRows head_rows
heads_sound = record { each = added [] head_rows heads_added; short = short_at head_rows heads_short }
