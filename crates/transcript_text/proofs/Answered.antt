-- Pairs of two lists, one after the other.
use Rattle.std.proofs.Common.{◌≡◌, ℕ, zero, suc, ◌+◌, ◌<◌, List, [], ◌∷◌, ◌++◌, length, take, get_or, refl, ap, sym, ◌∙◌, append_assoc, append-nil, add-one, arith}
use Rattle.std.specs.List.{flat_map, zip, slice_get}
use Rattle.transcript_text.specs.Indications.{answered}

zip_none : {X Y : Type 0} (xs : List X) → zip {X = Y} xs [] ≡ []
zip_none [] = refl
zip_none (x ∷ xs) = refl

step : {X Y : Type 0} (f : X × Y → List ℕ) (xs : List X) (ys : List Y) (i : ℕ) (d : X) → i < length xs
    → flat_map f (zip (take (suc i) xs) ys) ≡ flat_map f (zip (take i xs) ys) ++ answered f (get_or xs i d) (slice_get ys i)
step f [] ys i d h = absurd (omega arith)
step f (x ∷ xs) [] i d h = rw (zip_none (take i (x ∷ xs))) refl
step f (x ∷ xs) (y ∷ ys) zero d h = append-nil (f (x, y))
step f (x ∷ xs) (y ∷ ys) (suc i) d h = ap (λ more. f (x, y) ++ more) (step f xs ys i d (omega arith)) ∙ sym (append_assoc (f (x, y)) _ _)

-- one item more is printed
pub zip_push : {Y : Type 0} (f : ℕ × Y → List ℕ) (start text longer : List ℕ) (xs : List ℕ) (ys : List Y) (i : ℕ) → i < length xs
    → text ≡ start ++ flat_map f (zip (take i xs) ys)
    → longer ≡ text ++ answered f (get_or xs i 0) (slice_get ys i)
    → longer ≡ start ++ flat_map f (zip (take (i + 1) xs) ys)
zip_push f start text longer xs ys i h before now =
    let next : flat_map f (zip (take (i + 1) xs) ys) ≡ flat_map f (zip (take i xs) ys) ++ answered f (get_or xs i 0) (slice_get ys i)
    = rw add-one (step f xs ys i 0 h) in
    now ∙ rw (before, next) (append_assoc start (flat_map f (zip (take i xs) ys)) (answered f (get_or xs i 0) (slice_get ys i)))
