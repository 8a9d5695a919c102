-- A child is put at the place of its parent.
use Rattle.std.proofs.Common.{◌≡◌, ℕ, zero, suc, ◌+◌, ◌≤◌, Bool, true, false, cond, List, [], ◌∷◌, ◌++◌, Some, None, refl, ap, ◌∙◌, arith}
use Rattle.std.specs.Prelude.{insert}
use Rattle.std.specs.List.{position_from}
use Rattle.rose_roles.specs.end_rules.State.{OpenCall, is_parent_of, before_parent}

some_is : (a b : ℕ) → Some a ≡ Some b → a ≡ b
some_is a b e = cc

later : (p : OpenCall → Bool) (n m : ℕ) (xs : List OpenCall) → position_from p n xs ≡ Some m → n ≤ m
later p n m [] h = absurd cc
later p n m (x ∷ xs) h = go (p x) h (later p (n + 1) m xs)
  where
    go : (b : Bool) → cond b (Some n) (position_from p (n + 1) xs) ≡ Some m → (position_from p (n + 1) xs ≡ Some m → n + 1 ≤ m) → n ≤ m
    go true h next = let e = some_is n m h in omega arith
    go false h next = let e = next h in omega arith

module _ (child : OpenCall) where
  put_step : (n k : ℕ) (x : OpenCall) (xs : List OpenCall) (b : Bool) → is_parent_of child x ≡ b → cond b (Some n) (position_from (is_parent_of child) (n + 1) xs) ≡ Some (n + k)
      → ((j : ℕ) → position_from (is_parent_of child) (n + 1) xs ≡ Some (n + 1 + j) → insert xs j child ≡ before_parent child xs) → insert (x ∷ xs) k child ≡ before_parent child (x ∷ xs)
  put_step n zero x xs true p h next = rw p refl
  put_step n (suc k) x xs true p h next = absurd (let e = some_is n (n + suc k) h in omega arith)
  put_step n zero x xs false p h next = absurd (let e = later (is_parent_of child) (n + 1) (n + 0) xs h in omega arith)
  put_step n (suc k) x xs false p h next =
      let e : insert xs k child ≡ before_parent child xs = next k (h ∙ ap Some (omega arith)) in rw p (ap (λ (l : List OpenCall). x ∷ l) e)

  put_at : (n k : ℕ) (xs : List OpenCall) → position_from (is_parent_of child) n xs ≡ Some (n + k) → insert xs k child ≡ before_parent child xs
  put_at n k [] h = absurd cc
  put_at n k (x ∷ xs) h = put_step n k x xs (is_parent_of child x) refl h (λ j e. put_at (n + 1) j xs e)

  pub put_here : (k : ℕ) (xs : List OpenCall) → position_from (is_parent_of child) 0 xs ≡ Some k → insert xs k child ≡ before_parent child xs
  put_here k xs h = put_at 0 k xs (h ∙ ap Some (omega arith))

  last_step : (n : ℕ) (x : OpenCall) (xs : List OpenCall) (b : Bool) → is_parent_of child x ≡ b → cond b (Some n) (position_from (is_parent_of child) (n + 1) xs) ≡ None
      → (position_from (is_parent_of child) (n + 1) xs ≡ None → xs ++ child ∷ [] ≡ before_parent child xs) → (x ∷ xs) ++ child ∷ [] ≡ before_parent child (x ∷ xs)
  last_step n x xs true p h next = absurd cc
  last_step n x xs false p h next = rw p (ap (λ (l : List OpenCall). x ∷ l) (next h))

  last_from : (n : ℕ) (xs : List OpenCall) → position_from (is_parent_of child) n xs ≡ None → xs ++ child ∷ [] ≡ before_parent child xs
  last_from n [] h = refl
  last_from n (x ∷ xs) h = last_step n x xs (is_parent_of child x) refl h (λ e. last_from (n + 1) xs e)

  pub put_last : (xs : List OpenCall) → position_from (is_parent_of child) 0 xs ≡ None → xs ++ child ∷ [] ≡ before_parent child xs
  put_last xs h = last_from 0 xs h
