-- Going down a table ends, and gives at each row what its rule gives from the rows that it names.
use Rattle.std.proofs.Common.{◌≡◌, ℕ, zero, suc, ◌<◌, ◌≤◌, List, [], ◌∷◌, length, Option, Some, None, refl, ap, ◌∙◌, arith}
use Rattle.std.specs.Prelude.{slice_get}
use Rattle.std.specs.List.{AllByRecursion}
use Rattle.std.proofs.lemmas.Option.{slice_get_within}
use Rattle.asn1_types.specs.declared.row.TypeRow.{TypeRow}
use Rattle.asn1_types.specs.Rows.{of_row, along, names_of}

-- each row names only lower ones
pub record IsDown (rows : List TypeRow) : Type 0 where
  pub lower : (n : ℕ) (row : TypeRow) → slice_get rows n ≡ Some row → AllByRecursion (λ m. m < n) (names_of row)

-- two tables have the same rows up to n
pub record SameTo (a b : List TypeRow) (n : ℕ) : Type 0 where
  pub same : (m : ℕ) → m ≤ n → slice_get a m ≡ slice_get b m

module _ {A : Type 0} (none : A) (rule : (ℕ → A) → TypeRow → A)
    (cong : (row : TypeRow) (f g : ℕ → A) → AllByRecursion (λ m. f m ≡ g m) (names_of row) → rule f row ≡ rule g row)
  where
    pub each_name : (ns : List ℕ) (n : ℕ) (f g : ℕ → A) → AllByRecursion (λ m. m < n) ns → ((m : ℕ) → m < n → f m ≡ g m) → AllByRecursion (λ m. f m ≡ g m) ns
    each_name [] n f g h e = tt
    each_name (m ∷ ns) n f g h e = (e m h.0, each_name ns n f g h.1 e)

    at_this : (a b : List TypeRow) → IsDown a → (n : ℕ) (f g : ℕ → A) → ((m : ℕ) → m < n → f m ≡ g m) → (o : Option TypeRow) → slice_get a n ≡ o → of_row none (rule f) o ≡ of_row none (rule g) o
    at_this a b down n f g same None e = refl
    at_this a b down n f g same (Some row) e = cong row f g (each_name (names_of row) n f g (down.lower n row e) same)

    pub agree_by : (a b : List TypeRow) → IsDown a → (bound n k l : ℕ) → n < bound → n < k → n < l → SameTo a b n → along none rule a k n ≡ along none rule b l n
    agree_by a b down zero n k l nb nk nl same = absurd (omega arith)
    agree_by a b down (suc bound) n zero l nb nk nl same = absurd (omega arith)
    agree_by a b down (suc bound) n (suc k) zero nb nk nl same = absurd (omega arith)
    agree_by a b down (suc bound) n (suc k) (suc l) nb nk nl same =
        at_this a b down n (along none rule a k) (along none rule b l)
        (λ m lt. agree_by a b down bound m k l (omega arith) (omega arith) (omega arith) (record { same = λ i le. same.same i (omega arith) }))
        (slice_get a n) refl ∙ ap (λ o. of_row none (rule (along none rule b l)) o) (same.same n (omega arith))

    pub agree : (a b : List TypeRow) → IsDown a → (n k l : ℕ) → n < k → n < l → SameTo a b n → along none rule a k n ≡ along none rule b l n
    agree a b down n k l nk nl same = agree_by a b down (suc n) n k l (omega arith) nk nl same

    -- what stands at a row, by its rule
    pub settled : (rows : List TypeRow) → IsDown rows → (n : ℕ) (row : TypeRow) → slice_get rows n ≡ Some row → along none rule rows (length rows) n ≡ rule (along none rule rows (length rows)) row
    settled rows down n row e =
        let more : along none rule rows (length rows) n ≡ along none rule rows (suc (length rows)) n = agree rows rows down n (length rows) (suc (length rows)) (slice_get_within rows n row e) (let lt = slice_get_within rows n row e in omega arith) (record { same = λ m le. refl }) in
        more ∙ ap (λ o. of_row none (rule (along none rule rows (length rows))) o) e
