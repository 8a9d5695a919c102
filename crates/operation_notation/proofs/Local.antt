-- How far reading looks: a token that it doesn't take decides, and nothing further does.
use Rattle.std.proofs.Common.{◌≡◌, ℕ, zero, suc, ◌+◌, ◌<◌, ◌≤◌, Bool, true, false, List, [], ◌∷◌, ◌++◌, length, Option, Some, None, Ok, Err, refl, sym, ap, ◌∙◌, append_assoc, arith, inl, inr}
use Rattle.std.specs.Prelude.{◌⊎◌, if◌then◌else◌}
use Rattle.std.proofs.lemmas.List.{length-append, append_cancel_right}
use Rattle.notation_tokens.specs.Lexeme.{Lexeme, begins, goes_on}
use Rattle.notation_tokens.specs.Words.{word_of}
use Rattle.operation_notation.specs.Reading.{◌>>=◌, after, give, here, place_of, Failure, Read, taken, token_at, refuse, refuse_as, kind_at, word_at, many_at, all_at, behind, listed_at, maybe_at}
use Rattle.notation_tokens.specs.declared.faults.NotationKind.{NotationKind}
use Rattle.operation_notation.proofs.Means.{ok_is, after_ok, law_word}
use Rattle.operation_notation.proofs.Leaves.{Leaves, left_by, no_cut, leaves_one, leaves_then, leaves_choice, leaves_all}

abbrev pub fault : List Lexeme → NotationKind → Failure
fault rest kind = record { rest = rest; kind = kind }

-- what stands behind a token that isn't taken doesn't matter
pub record Looks {A : Type 0} (f : List Lexeme → Read A) : Type 0 where
  pub ok : (x y : List Lexeme) (t : Lexeme) (u v : List Lexeme) (a : A) → f (x ++ t ∷ u) ≡ Ok (a, y ++ t ∷ u) → f (x ++ t ∷ v) ≡ Ok (a, y ++ t ∷ v)
  pub err : (x y : List Lexeme) (t : Lexeme) (u v : List Lexeme) (k : NotationKind) → f (x ++ t ∷ u) ≡ Err (fault (y ++ t ∷ u) k) → f (x ++ t ∷ v) ≡ Err (fault (y ++ t ∷ v) k)

pub record Local {A : Type 0} (f : List Lexeme → Read A) : Type 0 where
  pub leaves : Leaves f
  pub looks : Looks f

abbrev pub failed : {A : Type 0} → Failure → Read A
failed e = Err e

pub fault_is : {A : Type 0} (d e : Failure) → failed {A = A} d ≡ failed e → d ≡ e
fault_is d e h = cc

-- ---- what is wrong with a token

pub kind_local : (x : List Lexeme) (t : Lexeme) (u v : List Lexeme) → kind_at (x ++ t ∷ u) ≡ kind_at (x ++ t ∷ v)
unfolding kind_at
kind_local [] t u v = refl
kind_local (s ∷ x) t u v = refl

-- a refusal whose kind looks no further
pub refuse_by : {A : Type 0} (kind : List Lexeme → NotationKind) → ((x : List Lexeme) (t : Lexeme) (u v : List Lexeme) → kind (x ++ t ∷ u) ≡ kind (x ++ t ∷ v)) → Local {A = A} (λ ts. refuse_as (kind ts) ts)
refuse_by {A = A} kind same_kind = record {
  leaves = no_cut;
  looks = record {
    ok = λ x y t u v a e. absurd cc;
    err = λ x y t u v k e.
        let d = fault_is (fault (x ++ t ∷ u) (kind (x ++ t ∷ u))) (fault (y ++ t ∷ u) k) e in
        let front : x ≡ y = append_cancel_right x y (t ∷ u) (ap (λ (z : Failure). z.rest) d) in
        let kind_is : kind (x ++ t ∷ v) ≡ k = sym (same_kind x t u v) ∙ ap (λ (z : Failure). z.kind) d in
        ap (λ (z : List Lexeme). failed (fault (z ++ t ∷ v) (kind (x ++ t ∷ v)))) front ∙ ap (λ (z : NotationKind). failed (fault (y ++ t ∷ v) z)) kind_is;
  };
}

pub local_refuse : {A : Type 0} → Local {A = A} refuse
local_refuse = refuse_by kind_at kind_local

-- ---- nothing, and one token

pub local_give : {A : Type 0} (a : A) → Local (give a)
local_give a = record {
  leaves = no_cut;
  looks = record {
    ok = λ x y t u v b e.
        let p = ok_is (a, x ++ t ∷ u) (b, y ++ t ∷ u) e in
        let front : x ≡ y = append_cancel_right x y (t ∷ u) (ap (λ (z : _ × List Lexeme). z.1) p) in
        ap (λ (z : List Lexeme). Ok (a, z ++ t ∷ v)) front ∙ ap (λ (c : _). Ok (c, y ++ t ∷ v)) (ap (λ (z : _ × List Lexeme). z.0) p);
    err = λ x y t u v k e. absurd cc;
  };
}

too_long : (y : List Lexeme) (t : Lexeme) (u : List Lexeme) → u ≡ y ++ t ∷ u → ⊥
too_long y t u e = absurd (omega (arith, ap length e, length-append y (t ∷ u)))

record Took {A : Type 0} (o : Option A) (s : Lexeme) (ts : List Lexeme) (a : A) (rest : List Lexeme) : Type 0 where
  is : o ≡ Some a
  left : ts ≡ rest

took : {A : Type 0} (o : Option A) (s : Lexeme) (ts : List Lexeme) (a : A) (rest : List Lexeme) → taken o s ts ≡ Ok (a, rest) → Took o s ts a rest
took (Some b) s ts a rest e =
    let p = ok_is (b, ts) (a, rest) e in
    record { is = ap (λ (z : _ × List Lexeme). Some z.0) p; left = ap (λ (z : _ × List Lexeme). z.1) p }
took None s ts a rest e = absurd cc

pub left_out : {A : Type 0} (o : Option A) (s : Lexeme) (ts : List Lexeme) (d : Failure) → taken o s ts ≡ Err d → (o ≡ None) × (failed {A = A} (fault (s ∷ ts) (kind_at (s ∷ ts))) ≡ Err d)
left_out (Some b) s ts d e = absurd cc
left_out None s ts d e = (refl, e)

module _ {A : Type 0} (test : Lexeme → Option A) where
  one_ok : (x y : List Lexeme) (t : Lexeme) (u v : List Lexeme) (a : A) → token_at test (x ++ t ∷ u) ≡ Ok (a, y ++ t ∷ u) → token_at test (x ++ t ∷ v) ≡ Ok (a, y ++ t ∷ v)
  one_ok [] y t u v a e = absurd (too_long y t u (took (test t) t u a (y ++ t ∷ u) e).left)
  one_ok (s ∷ x) y t u v a e =
      let p = took (test s) s (x ++ t ∷ u) a (y ++ t ∷ u) e in
      ap (λ (o : Option A). taken o s (x ++ t ∷ v)) p.is ∙ ap (λ (z : List Lexeme). Ok (a, z ++ t ∷ v)) (append_cancel_right x y (t ∷ u) p.left)

  one_err : (x y : List Lexeme) (t : Lexeme) (u v : List Lexeme) (k : NotationKind) → token_at test (x ++ t ∷ u) ≡ Err (fault (y ++ t ∷ u) k) → token_at test (x ++ t ∷ v) ≡ Err (fault (y ++ t ∷ v) k)
  one_err [] y t u v k e =
      let p = left_out (test t) t u (fault (y ++ t ∷ u) k) e in
      ap (λ (o : Option A). taken o t v) p.0 ∙ (local_refuse {A = A}).looks.err [] y t u v k p.1
  one_err (s ∷ x) y t u v k e =
      let p = left_out (test s) s (x ++ t ∷ u) (fault (y ++ t ∷ u) k) e in
      ap (λ (o : Option A). taken o s (x ++ t ∷ v)) p.0 ∙ (local_refuse {A = A}).looks.err (s ∷ x) y t u v k p.1

  pub looks_one : Looks (token_at test)
  looks_one = record { ok = one_ok; err = one_err }

  pub local_one : Local (token_at test)
  local_one = record { leaves = leaves_one test; looks = looks_one }

-- ---- one behind the other

pub after_err : {A B : Type 0} (x : Read A) (k : A → List Lexeme → Read B) (d : Failure) → after x k ≡ Err d → (failed d ≡ x) ⊎ ((p : A × List Lexeme) × (x ≡ Ok p) × (k p.0 p.1 ≡ Err d))
after_err (Ok p) k d e = inr (p, refl, e)
after_err (Err c) k d e = inl (ap failed (sym (fault_is c d e)))

module _ {A B : Type 0} (f : List Lexeme → Read A) (h : A → List Lexeme → Read B) (lf : Looks f) (lh : (a : A) → Local (h a)) where
  then_ok : (x y : List Lexeme) (t : Lexeme) (u v : List Lexeme) (b : B) → (f >>= h) (x ++ t ∷ u) ≡ Ok (b, y ++ t ∷ u) → (f >>= h) (x ++ t ∷ v) ≡ Ok (b, y ++ t ∷ v)
  then_ok x y t u v b e =
      let p = after_ok (f (x ++ t ∷ u)) h b (y ++ t ∷ u) e in
      let w = left_by (h p.value) (lh p.value).leaves p.mid (Ok (b, y ++ t ∷ u)) p.behind in
      let mid : p.mid ≡ (w.text ++ y) ++ t ∷ u = w.is ∙ sym (append_assoc w.text y (t ∷ u)) in
      let one = lf.ok x (w.text ++ y) t u v p.value (p.is ∙ ap (λ (z : List Lexeme). Ok (p.value, z)) mid) in
      let two = (lh p.value).looks.ok (w.text ++ y) y t u v b (ap (h p.value) (sym mid) ∙ p.behind) in
      ap (λ (z : Read A). after z h) one ∙ two

  then_err_in : (x y : List Lexeme) (t : Lexeme) (u v : List Lexeme) (k : NotationKind) → (p : A × List Lexeme) → f (x ++ t ∷ u) ≡ Ok p → h p.0 p.1 ≡ Err (fault (y ++ t ∷ u) k) → (f >>= h) (x ++ t ∷ v) ≡ Err (fault (y ++ t ∷ v) k)
  then_err_in x y t u v k p is e =
      let w = left_by (h p.0) (lh p.0).leaves p.1 (Err (fault (y ++ t ∷ u) k)) e in
      let mid : p.1 ≡ (w.text ++ y) ++ t ∷ u = w.is ∙ sym (append_assoc w.text y (t ∷ u)) in
      let one = lf.ok x (w.text ++ y) t u v p.0 (is ∙ ap (λ (z : List Lexeme). Ok (p.0, z)) mid) in
      let two = (lh p.0).looks.err (w.text ++ y) y t u v k (ap (h p.0) (sym mid) ∙ e) in
      ap (λ (z : Read A). after z h) one ∙ two

  then_err : (x y : List Lexeme) (t : Lexeme) (u v : List Lexeme) (k : NotationKind) → (f >>= h) (x ++ t ∷ u) ≡ Err (fault (y ++ t ∷ u) k) → (f >>= h) (x ++ t ∷ v) ≡ Err (fault (y ++ t ∷ v) k)
  then_err x y t u v k e =
      elim (after_err (f (x ++ t ∷ u)) h (fault (y ++ t ∷ u) k) e) [
        | inl q ↦ ap (λ (z : Read A). after z h) (lf.err x y t u v k (sym q))
        | inr q ↦ then_err_in x y t u v k q.0 q.1 q.2
      ]

  pub looks_then : Looks (f >>= h)
  looks_then = record { ok = then_ok; err = then_err }

-- ---- choices

module _ {A : Type 0} (test : List Lexeme → Bool) (f g : List Lexeme → Read A) (far : (x : List Lexeme) (t : Lexeme) (u v : List Lexeme) → test (x ++ t ∷ u) ≡ test (x ++ t ∷ v)) (lf : Looks f) (lg : Looks g) where
  abbrev chosen : Bool → List Lexeme → Read A
  chosen b ts = if b then f ts else g ts

  chosen_ok : (b : Bool) (x y : List Lexeme) (t : Lexeme) (u v : List Lexeme) (a : A) → chosen b (x ++ t ∷ u) ≡ Ok (a, y ++ t ∷ u) → chosen b (x ++ t ∷ v) ≡ Ok (a, y ++ t ∷ v)
  chosen_ok true = lf.ok
  chosen_ok false = lg.ok

  chosen_err : (b : Bool) (x y : List Lexeme) (t : Lexeme) (u v : List Lexeme) (k : NotationKind) → chosen b (x ++ t ∷ u) ≡ Err (fault (y ++ t ∷ u) k) → chosen b (x ++ t ∷ v) ≡ Err (fault (y ++ t ∷ v) k)
  chosen_err true = lf.err
  chosen_err false = lg.err

  pub looks_choice : Looks (λ ts. if test ts then f ts else g ts)
  looks_choice = record {
    ok = λ x y t u v a e. ap (λ (b : Bool). chosen b (x ++ t ∷ v)) (sym (far x t u v)) ∙ chosen_ok (test (x ++ t ∷ u)) x y t u v a e;
    err = λ x y t u v k e. ap (λ (b : Bool). chosen b (x ++ t ∷ v)) (sym (far x t u v)) ∙ chosen_err (test (x ++ t ∷ u)) x y t u v k e;
  }

pub local_choice : {A : Type 0} (test : List Lexeme → Bool) (f g : List Lexeme → Read A) → ((x : List Lexeme) (t : Lexeme) (u v : List Lexeme) → test (x ++ t ∷ u) ≡ test (x ++ t ∷ v)) → Local f → Local g → Local (λ ts. if test ts then f ts else g ts)
local_choice test f g far lf lg = record { leaves = leaves_choice test f g lf.leaves lg.leaves; looks = looks_choice test f g far lf.looks lg.looks }

-- ---- what is looked at and not taken

pub local_peek : {A : Type 0} (q : List Lexeme → A) → ((x : List Lexeme) (t : Lexeme) (u v : List Lexeme) → q (x ++ t ∷ u) ≡ q (x ++ t ∷ v)) → Local (λ ts. Ok (q ts, ts))
local_peek q far = record {
  leaves = no_cut;
  looks = record {
    ok = λ x y t u v b e.
        let p = ok_is (q (x ++ t ∷ u), x ++ t ∷ u) (b, y ++ t ∷ u) e in
        let front : x ≡ y = append_cancel_right x y (t ∷ u) (ap (λ (z : _ × List Lexeme). z.1) p) in
        ap (λ (z : List Lexeme). Ok (q (x ++ t ∷ v), z ++ t ∷ v)) front ∙ ap (λ (c : _). Ok (c, y ++ t ∷ v)) (sym (far x t u v) ∙ ap (λ (z : _ × List Lexeme). z.0) p);
    err = λ x y t u v k e. absurd cc;
  };
}

place_far : (x : List Lexeme) (t : Lexeme) (u v : List Lexeme) → place_of (x ++ t ∷ u) ≡ place_of (x ++ t ∷ v)
place_far [] t u v = refl
place_far (s ∷ x) t u v = refl

pub local_here : Local here
local_here = local_peek place_of place_far

begins_far : (w : List ℕ) (x : List Lexeme) (t : Lexeme) (u v : List Lexeme) → begins w (x ++ t ∷ u) ≡ begins w (x ++ t ∷ v)
begins_far w [] t u v = refl
begins_far w (s ∷ x) t u v = refl

pub goes_on_far : (w : List ℕ) (x : List Lexeme) (t : Lexeme) (u v : List Lexeme) → goes_on w (x ++ t ∷ u) ≡ goes_on w (x ++ t ∷ v)
goes_on_far w [] t u v = refl
goes_on_far w (s ∷ x) t u v = refl

-- ---- with less to write

pub lthen : {A B : Type 0} {f : List Lexeme → Read A} {h : A → List Lexeme → Read B} → Local f → ((a : A) → Local (h a)) → Local (f >>= h)
lthen {f = f} {h = h} lf lh = record { leaves = leaves_then f h lf.leaves (λ a. (lh a).leaves); looks = looks_then f h lf.looks lh }

pub lpick : {A : Type 0} {f g : List Lexeme → Read A} (w : List ℕ) → Local f → Local g → Local (λ ts. if begins w ts then f ts else g ts)
lpick {f = f} {g = g} w lf lg = local_choice (begins w) f g (begins_far w) lf lg

pub lmaybe : {A : Type 0} {f : List Lexeme → Read A} (w : List ℕ) → Local f → Local (maybe_at w f)
lmaybe w lf = lpick w (lthen lf (λ a. local_give (Some a))) (local_give None)

pub lword : (w : List ℕ) → Local (word_at w)
unfolding word_at
lword w = local_one (word_of w)

pub lbehind : {A : Type 0} {f : List Lexeme → Read A} (w : List ℕ) → Local f → Local (behind w f)
lbehind w lf = lthen (lword w) (λ p. lf)

-- ---- again and again

local_many : {A : Type 0} (test : List Lexeme → Bool) (f : List Lexeme → Read A) → ((x : List Lexeme) (t : Lexeme) (u v : List Lexeme) → test (x ++ t ∷ u) ≡ test (x ++ t ∷ v)) → Local f → (n : ℕ) → Local (many_at test f n)
unfolding many_at
local_many test f far lf zero = local_give []
local_many test f far lf (suc n) = local_choice test _ _ far (lthen lf (λ a. lthen (local_many test f far lf n) (λ more. local_give (a ∷ more)))) (local_give [])

pub local_counted : {A : Type 0} (test : List Lexeme → Bool) (f : List Lexeme → Read A) → ((x : List Lexeme) (t : Lexeme) (u v : List Lexeme) → test (x ++ t ∷ u) ≡ test (x ++ t ∷ v)) → Local f → (n : ℕ) → Local (many_at test f n)
local_counted = local_many

abbrev pub Takes : {A : Type 0} → (List Lexeme → Read A) → Type 0
Takes f = (ts : List Lexeme) (a : _) (rest : List Lexeme) → f ts ≡ Ok (a, rest) → length rest < length ts

after_same : {A B : Type 0} (r : Read A) (h k : A → List Lexeme → Read B) → ((a : A) (rest : List Lexeme) → r ≡ Ok (a, rest) → h a rest ≡ k a rest) → after r h ≡ after r k
after_same (Ok p) h k e = e p.0 p.1 refl
after_same (Err d) h k e = refl

-- turns beyond the tokens change nothing
enough : {A : Type 0} (test : List Lexeme → Bool) (f : List Lexeme → Read A) → test [] ≡ false → Takes f → (n m : ℕ) (ts : List Lexeme) → length ts ≤ n → length ts ≤ m → many_at test f n ts ≡ many_at test f m ts
unfolding many_at
enough test f none takes zero zero ts p q = refl
enough test f none takes zero (suc m) [] p q = sym (ap (λ (b : Bool). if b then (f >>= λ a. many_at test f m >>= λ more. give (a ∷ more)) [] else Ok ([], [])) none)
enough test f none takes zero (suc m) (c ∷ ts) p q = absurd (omega arith)
enough test f none takes (suc n) zero [] p q = ap (λ (b : Bool). if b then (f >>= λ a. many_at test f n >>= λ more. give (a ∷ more)) [] else Ok ([], [])) none
enough test f none takes (suc n) zero (c ∷ ts) p q = absurd (omega arith)
enough test f none takes (suc n) (suc m) ts p q = ap (λ (r : Read (List _)). if test ts then r else Ok ([], ts))
    (after_same (f ts) (λ a. many_at test f n >>= λ more. give (a ∷ more)) (λ a. many_at test f m >>= λ more. give (a ∷ more))
    (λ a rest e. let lt = takes ts a rest e in ap (λ (r : Read (List _)). after r (λ more. give (a ∷ more))) (enough test f none takes n m rest (omega arith) (omega arith))))

pub local_all : {A : Type 0} (test : List Lexeme → Bool) (f : List Lexeme → Read A) → ((x : List Lexeme) (t : Lexeme) (u v : List Lexeme) → test (x ++ t ∷ u) ≡ test (x ++ t ∷ v)) → test [] ≡ false → Takes f → Local f → Local (all_at test f)
local_all test f far none takes lf = record {
  leaves = leaves_all test f lf.leaves;
  looks = record {
    ok = λ x y t u v z e.
        let n = length (x ++ t ∷ u) + length (x ++ t ∷ v) in
        enough test f none takes (length (x ++ t ∷ v)) n (x ++ t ∷ v) (omega arith) (omega arith)
        ∙ (local_many test f far lf n).looks.ok x y t u v z (enough test f none takes n (length (x ++ t ∷ u)) (x ++ t ∷ u) (omega arith) (omega arith) ∙ e);
    err = λ x y t u v k e.
        let n = length (x ++ t ∷ u) + length (x ++ t ∷ v) in
        enough test f none takes (length (x ++ t ∷ v)) n (x ++ t ∷ v) (omega arith) (omega arith)
        ∙ (local_many test f far lf n).looks.err x y t u v k (enough test f none takes n (length (x ++ t ∷ u)) (x ++ t ∷ u) (omega arith) (omega arith) ∙ e);
  };
}

behind_takes : {A : Type 0} (w : List ℕ) (f : List Lexeme → Read A) → Local f → Takes (behind w f)
behind_takes w f lf ts a rest e =
    let p = after_ok (word_at w ts) (λ q. f) a rest e in
    let x = (law_word w).found ts p.value p.mid p.is in
    let y = left_by f lf.leaves p.mid (Ok (a, rest)) p.behind in
    omega (arith, ap length x.parts, length-append x.text p.mid, ap length x.spelled.alone, ap length y.is, length-append y.text rest)

pub llisted : {A : Type 0} {f : List Lexeme → Read A} (w : List ℕ) → Local f → Local (listed_at w f)
llisted {f = f} w lf = lthen lf (λ first. lthen (local_all (begins w) (behind w f) (begins_far w) refl (behind_takes w f lf) (lbehind w lf)) (λ others. local_give (first ∷ others)))

pub lmore : {A : Type 0} {f : List Lexeme → Read A} (w : List ℕ) → Local f → Local (all_at (begins w) (behind w f))
lmore {f = f} w lf = local_all (begins w) (behind w f) (begins_far w) refl (behind_takes w f lf) (lbehind w lf)
