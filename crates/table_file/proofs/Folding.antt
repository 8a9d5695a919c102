-- Many steps, one after the other.
use Rattle.std.proofs.Common.{◌≡◌, ℕ, zero, suc, ◌+◌, ◌-◌, ◌<◌, ◌≤◌, Ok, refl, sym, ap, subst, ◌∙◌, arith}
use Rattle.table_file.specs.declared.fault.Stop.{Stop}
use Rattle.table_file.specs.declared.fault.Stop.TheVariants.{Cut, Bad, NoMemory}
use Rattle.packed_codec.specs.Reading.{Spot}
use Rattle.table_file.specs.Reading.{Reading, ◌>>=◌, FailsWith, fold_at}
use Rattle.table_file.specs.Fields.{counted_at, many_at}

-- a fault of the first is one of both
pub fails_first : {A B : Type 0} (e : Stop) (r : Reading A) (f : A → Reading B) → FailsWith e r → FailsWith e (r >>= f)
fails_first Cut r f h = ap (λ x. x >>= f) h
fails_first (Bad place) r f h = ap (λ x. x >>= f) h
fails_first NoMemory r f h = tt

pub fails_as : {A : Type 0} (e : Stop) (r q : Reading A) → r ≡ q → FailsWith e q → FailsWith e r
fails_as e r q same h = subst (FailsWith e) (sym same) h

module _ {A : Type 0} (step : ℕ → A → Spot → Reading (A × Spot)) where
  less : (n i : ℕ) → i < n → n - i ≡ suc (n - (i + 1))
  less n i lt = omega arith

  fold_suc : (m k : ℕ) (a : A) (s : Spot) → fold_at (step m) (suc k) a s ≡ (step m a s >>= λ x. fold_at (step m) k x.0 x.1)
  unfolding fold_at
  fold_suc m k a s = refl

  pub fold_next : (n i : ℕ) (a b : A) (s t : Spot) → i < n → step n a s ≡ Ok (b, t) → fold_at (step n) (n - i) a s ≡ fold_at (step n) (n - (i + 1)) b t
  fold_next n i a b s t lt e =
      ap (λ (k : ℕ). fold_at (step n) k a s) (less n i lt) ∙ fold_suc n (n - (i + 1)) a s ∙ ap (λ (r : Reading (A × Spot)). r >>= λ x. fold_at (step n) (n - (i + 1)) x.0 x.1) e

  fold_fails : (n i : ℕ) (a : A) (s : Spot) (e : Stop) → i < n → FailsWith e (step n a s) → FailsWith e (fold_at (step n) (n - i) a s)
  fold_fails n i a s e lt h =
      fails_as e (fold_at (step n) (n - i) a s) (step n a s >>= λ x. fold_at (step n) (n - (i + 1)) x.0 x.1)
      (ap (λ (k : ℕ). fold_at (step n) k a s) (less n i lt) ∙ fold_suc n (n - (i + 1)) a s)
      (fails_first e (step n a s) (λ x. fold_at (step n) (n - (i + 1)) x.0 x.1) h)

  fold_zero : (m : ℕ) (a : A) (s : Spot) → fold_at (step m) zero a s ≡ Ok (a, s)
  unfolding fold_at
  fold_zero m a s = refl

  many_is : (n : ℕ) (a : A) (s b : Spot) → counted_at s ≡ Ok (n, b) → many_at step a s ≡ fold_at (step n) n a b
  unfolding many_at
  many_is n a s b e = ap (λ (r : Reading (ℕ × Spot)). r >>= λ x. fold_at (step x.0) x.0 a x.1) e

  -- what was counted, and i steps were done
  pub record Goes (first : A) (s : Spot) (n i : ℕ) (a : A) (t : Spot) : Type 0 where
    pub rest : many_at step first s ≡ fold_at (step n) (n - i) a t

  pub goes_first : (n : ℕ) (a : A) (s b : Spot) → counted_at s ≡ Ok (n, b) → Goes a s n 0 a b
  goes_first n a s b e = record { rest = many_is n a s b e ∙ ap (λ (k : ℕ). fold_at (step n) k a b) (zero_off n) }
    where
      zero_off : (n : ℕ) → n ≡ n - 0
      zero_off n = omega arith

  pub goes_on : (first : A) (s : Spot) (n i : ℕ) (a b : A) (t u : Spot) → Goes first s n i a t → i < n → step n a t ≡ Ok (b, u) → Goes first s n (i + 1) b u
  goes_on first s n i a b t u g lt e = record { rest = g.rest ∙ fold_next n i a b t u lt e }

  pub goes_wrong : (first : A) (s : Spot) (n i : ℕ) (a : A) (t : Spot) (e : Stop) → Goes first s n i a t → i < n → FailsWith e (step n a t) → FailsWith e (many_at step first s)
  goes_wrong first s n i a t e g lt h = fails_as e (many_at step first s) (fold_at (step n) (n - i) a t) g.rest (fold_fails n i a t e lt h)

  pub goes_out : (first : A) (s : Spot) (n i : ℕ) (a : A) (t : Spot) → Goes first s n i a t → n ≤ i → many_at step first s ≡ Ok (a, t)
  goes_out first s n i a t g le = g.rest ∙ ap (λ (k : ℕ). fold_at (step n) k a t) (none_left n i le) ∙ fold_zero n a t
    where
      none_left : (n i : ℕ) → n ≤ i → n - i ≡ 0
      none_left n i le = omega arith

  pub uncounted : (first : A) (s : Spot) (e : Stop) → FailsWith e (counted_at s) → FailsWith e (many_at step first s)
  unfolding many_at
  uncounted first s e h = fails_first e (counted_at s) (λ x. fold_at (step x.0) x.0 first x.1) h
