-- Rows put one behind the other.
use Rattle.std.proofs.Common.{◌≡◌, ℕ, zero, suc, ◌+◌, List, [], ◌∷◌, ◌++◌, take, Some, refl, sym, ap, ◌∙◌, append_assoc, arith}
use Rattle.std.specs.Prelude.{slice_get}
use Rattle.std.specs.List.{flat_map}

nothing_behind : (xs : List ℕ) → xs ++ [] ≡ xs
nothing_behind [] = refl
nothing_behind (x ∷ xs) = ap (λ (l : List ℕ). x ∷ l) (nothing_behind xs)

some_is : {X : Type 0} (a b : X) → Some a ≡ Some b → a ≡ b
some_is a b h = cc

row_more : {X : Type 0} (f : X → List ℕ) (xs : List X) (i : ℕ) (x : X) → slice_get xs i ≡ Some x → flat_map f (take (i + 1) xs) ≡ flat_map f (take i xs) ++ f x
row_more f [] i x h = absurd cc
row_more f (y ∷ ys) zero x h = nothing_behind (f y) ∙ ap f (some_is y x h)
row_more f (y ∷ ys) (suc i) x h =
    let e : suc i + 1 ≡ suc (i + 1) = omega arith in
    ap (λ (k : ℕ). flat_map f (take k (y ∷ ys))) e ∙ ap (λ (l : List ℕ). f y ++ l) (row_more f ys i x h) ∙ sym (append_assoc (f y) (flat_map f (take i ys)) (f x))

pub put_more : {X : Type 0} (f : X → List ℕ) (xs : List X) (i n : ℕ) (x : X) (head first before after : List ℕ) → n ≡ i → slice_get xs n ≡ Some x
    → before ≡ first ++ (head ++ flat_map f (take i xs)) → after ≡ before ++ f x → after ≡ first ++ (head ++ flat_map f (take (i + 1) xs))
put_more f xs i n x head first before after same there was put =
    let there_i : slice_get xs i ≡ Some x = ap (λ (k : ℕ). slice_get xs k) (sym same) ∙ there in
    put
    ∙ ap (λ (l : List ℕ). l ++ f x) was
    ∙ append_assoc first (head ++ flat_map f (take i xs)) (f x)
    ∙ ap (λ (l : List ℕ). first ++ l) (append_assoc head (flat_map f (take i xs)) (f x) ∙ ap (λ (l : List ℕ). head ++ l) (sym (row_more f xs i x there_i)))
