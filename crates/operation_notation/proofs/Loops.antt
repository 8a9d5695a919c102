-- Loops that take one more while a test holds.
use Rattle.std.proofs.Common.{◌≡◌, ℕ, zero, suc, ◌+◌, ◌-◌, ◌<◌, ◌≤◌, Bool, true, false, List, [], ◌∷◌, ◌++◌, length, Ok, Err, refl, sym, ap, ◌∙◌, append_assoc, arith}
use Rattle.std.proofs.lemmas.List.{append-nil}
use Rattle.notation_tokens.specs.Lexeme.{Lexeme, begins}
use Rattle.operation_notation.specs.Reading.{◌>>=◌, after, give, Failure, Read, FailsWith, many_at, all_at, listed_at, behind}
use Rattle.operation_notation.specs.declared.fault.Refusal.{Refusal}
use Rattle.operation_notation.specs.declared.fault.Refusal.TheVariants as refusals

-- what was read before, and what is read now
abbrev pub with_front : {A : Type 0} → List A → Read (List A) → Read (List A)
with_front front read = after read (λ more. give (front ++ more))

pub with_front_nothing : {A : Type 0} (read : Read (List A)) → with_front [] read ≡ read
with_front_nothing (Ok x) = refl
with_front_nothing (Err e) = refl

regroup : {A : Type 0} (front : List A) (a : A) (read : Read (List A)) → with_front front (after read (λ more. give (a ∷ more))) ≡ with_front (front ++ a ∷ []) read
regroup front a (Ok x) = ap (λ (l : List _). Ok (l, x.1)) (sym (append_assoc front (a ∷ []) x.0))
regroup front a (Err e) = refl

-- what is read so far, and the rest of it
pub record Going {A : Type 0} (test : List Lexeme → Bool) (r : List Lexeme → Read A) (front : List A) (ts : List Lexeme) (total : Read (List A)) : Type 0 where
  pub turns : ℕ
  pub enough : length ts ≤ turns
  pub so_far : with_front front (many_at test r turns ts) ≡ total

pub starts : {A : Type 0} (test : List Lexeme → Bool) (r : List Lexeme → Read A) (ts : List Lexeme) → Going test r [] ts (all_at test r ts)
starts test r ts = record { turns = length ts; enough = omega arith; so_far = with_front_nothing (many_at test r (length ts) ts) }

-- one step of many_at
many_step : {A : Type 0} (test : List Lexeme → Bool) (r : List Lexeme → Read A) (n : ℕ) (ts : List Lexeme) (a : A) (rest : List Lexeme) → test ts ≡ true → r ts ≡ Ok (a, rest)
    → many_at test r (suc n) ts ≡ after (many_at test r n rest) (λ more. give (a ∷ more))
unfolding many_at
many_step test r n ts a rest t e = rw (t, e) refl

some_turns : {A : Type 0} (test : List Lexeme → Bool) (r : List Lexeme → Read A) (front : List A) (n : ℕ) (ts : List Lexeme) (total : Read (List A)) (a : A) (rest : List Lexeme)
    → length ts ≤ n → with_front front (many_at test r n ts) ≡ total → test ts ≡ true → r ts ≡ Ok (a, rest) → length rest < length ts → Going test r (front ++ a ∷ []) rest total
some_turns test r front zero ts total a rest le h t e lt = absurd (omega arith)
some_turns test r front (suc n) ts total a rest le h t e lt = record {
  turns = n;
  enough = omega arith;
  so_far = sym (regroup front a (many_at test r n rest)) ∙ ap (with_front front) (sym (many_step test r n ts a rest t e)) ∙ h;
}

pub goes : {A : Type 0} (test : List Lexeme → Bool) (r : List Lexeme → Read A) (front : List A) (ts : List Lexeme) (total : Read (List A)) (a : A) (rest : List Lexeme)
    → Going test r front ts total → test ts ≡ true → r ts ≡ Ok (a, rest) → length rest < length ts → Going test r (front ++ a ∷ []) rest total
goes test r front ts total a rest g t e lt = some_turns test r front g.turns ts total a rest g.enough g.so_far t e lt

stop_at : {A : Type 0} (test : List Lexeme → Bool) (r : List Lexeme → Read A) (n : ℕ) (ts : List Lexeme) → test ts ≡ false → many_at test r n ts ≡ Ok ([], ts)
unfolding many_at
stop_at test r zero ts t = refl
stop_at test r (suc n) ts t = rw t refl

pub stops : {A : Type 0} (test : List Lexeme → Bool) (r : List Lexeme → Read A) (front : List A) (ts : List Lexeme) (total : Read (List A)) → Going test r front ts total → test ts ≡ false → total ≡ Ok (front, ts)
stops test r front ts total g t = sym g.so_far ∙ ap (with_front front) (stop_at test r g.turns ts t) ∙ ap (λ (l : List _). Ok (l, ts)) (append-nil front)

fail_at : {A : Type 0} (test : List Lexeme → Bool) (r : List Lexeme → Read A) (n : ℕ) (ts : List Lexeme) (e : Failure) → length ts ≤ n → test [] ≡ false → test ts ≡ true → r ts ≡ Err e → many_at test r n ts ≡ Err e
unfolding many_at
fail_at test r zero [] e le none t f = absurd cc
fail_at test r zero (x ∷ ts) e le none t f = absurd (omega arith)
fail_at test r (suc n) ts e le none t f = rw (t, f) refl

-- where one more can't be read, the whole can't
pub fails : {A : Type 0} (test : List Lexeme → Bool) (r : List Lexeme → Read A) (front : List A) (ts : List Lexeme) (total : Read (List A)) (why : Refusal) (rest : List Lexeme)
    → Going test r front ts total → test [] ≡ false → test ts ≡ true → FailsWith why rest (r ts) → FailsWith why rest total
fails test r front ts total refusals.NoMemory rest g none t f = tt
fails test r front ts total (refusals.Fault kind) rest g none t f = sym g.so_far ∙ ap (with_front front) (fail_at test r g.turns ts _ g.enough none t f)

-- ---- lists parted by a word

pub listed_starts : {A : Type 0} (word : List ℕ) (r : List Lexeme → Read A) (ts : List Lexeme) (a : A) (rest : List Lexeme) → r ts ≡ Ok (a, rest) → Going (begins word) (behind word r) (a ∷ []) rest (listed_at word r ts)
listed_starts word r ts a rest e = record { turns = length rest; enough = omega arith; so_far = rw e refl }

-- ---- a counted loop

pub counted_goes : {A : Type 0} (test : List Lexeme → Bool) (r : List Lexeme → Read A) (front : List A) (most i : ℕ) (ts : List Lexeme) (total : Read (List A)) (a : A) (rest : List Lexeme)
    → i < most → with_front front (many_at test r (most - i) ts) ≡ total → test ts ≡ true → r ts ≡ Ok (a, rest) → with_front (front ++ a ∷ []) (many_at test r (most - (i + 1)) rest) ≡ total
counted_goes test r front most i ts total a rest lt h t e =
    let k : most - i ≡ suc (most - (i + 1)) = omega arith in
    sym (regroup front a (many_at test r (most - (i + 1)) rest)) ∙ ap (with_front front) (sym (many_step test r (most - (i + 1)) ts a rest t e) ∙ ap (λ (n : ℕ). many_at test r n ts) (sym k)) ∙ h

pub counted_stops : {A : Type 0} (test : List Lexeme → Bool) (r : List Lexeme → Read A) (front : List A) (n : ℕ) (ts : List Lexeme) (total : Read (List A)) → with_front front (many_at test r n ts) ≡ total → test ts ≡ false → total ≡ Ok (front, ts)
counted_stops test r front n ts total h t = sym h ∙ ap (with_front front) (stop_at test r n ts t) ∙ ap (λ (l : List _). Ok (l, ts)) (append-nil front)

pub counted_done : {A : Type 0} (test : List Lexeme → Bool) (r : List Lexeme → Read A) (front : List A) (n : ℕ) (ts : List Lexeme) (total : Read (List A)) → with_front front (many_at test r n ts) ≡ total → n ≡ 0 → total ≡ Ok (front, ts)
unfolding many_at
counted_done test r front n ts total h e = sym h ∙ ap (λ (k : ℕ). with_front front (many_at test r k ts)) e ∙ ap (λ (l : List _). Ok (l, ts)) (append-nil front)

fail_now : {A : Type 0} (test : List Lexeme → Bool) (r : List Lexeme → Read A) (n : ℕ) (ts : List Lexeme) (e : Failure) → test ts ≡ true → r ts ≡ Err e → many_at test r (suc n) ts ≡ Err e
unfolding many_at
fail_now test r n ts e t f = rw (t, f) refl

pub counted_fails : {A : Type 0} (test : List Lexeme → Bool) (r : List Lexeme → Read A) (front : List A) (most i : ℕ) (ts : List Lexeme) (total : Read (List A)) (why : Refusal) (rest : List Lexeme)
    → i < most → with_front front (many_at test r (most - i) ts) ≡ total → test ts ≡ true → FailsWith why rest (r ts) → FailsWith why rest total
counted_fails test r front most i ts total refusals.NoMemory rest lt h t f = tt
counted_fails test r front most i ts total (refusals.Fault kind) rest lt h t f =
    let k : most - i ≡ suc (most - (i + 1)) = omega arith in
    sym h ∙ ap (λ (n : ℕ). with_front front (many_at test r n ts)) k ∙ ap (with_front front) (fail_now test r (most - (i + 1)) ts _ t f)

-- what fails behind a reading that succeeded
pub fails_behind : {A B : Type 0} (r : List Lexeme → Read A) (f : A → List Lexeme → Read B) (ts : List Lexeme) (a : A) (mid : List Lexeme) (why : Refusal) (rest : List Lexeme)
    → r ts ≡ Ok (a, mid) → FailsWith why rest (f a mid) → FailsWith why rest ((r >>= f) ts)
fails_behind r f ts a mid refusals.NoMemory rest e h = tt
fails_behind r f ts a mid (refusals.Fault kind) rest e h = rw e h

pub fails_before : {A B : Type 0} (r : List Lexeme → Read A) (f : A → List Lexeme → Read B) (ts : List Lexeme) (why : Refusal) (rest : List Lexeme) → FailsWith why rest (r ts) → FailsWith why rest ((r >>= f) ts)
fails_before r f ts refusals.NoMemory rest h = tt
fails_before r f ts (refusals.Fault kind) rest h = rw h refl
