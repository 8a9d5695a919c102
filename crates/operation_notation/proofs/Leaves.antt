-- Reading takes tokens from the front: what it leaves is the end of what it was given.
use Rattle.std.proofs.Common.{◌≡◌, ℕ, zero, suc, Bool, true, false, List, [], ◌∷◌, ◌++◌, length, Option, Some, None, Ok, Err, refl, sym, ap, subst, ◌∙◌, append_assoc}
use Rattle.std.specs.Prelude.{if◌then◌else◌}
use Rattle.notation_tokens.specs.Lexeme.{Lexeme}
use Rattle.operation_notation.specs.Reading.{◌>>=◌, after, give, Read, taken, token_at, many_at, all_at}

-- some tokens, and then the rest
pub record Cut (ts rest : List Lexeme) : Type 0 where
  pub text : List Lexeme
  pub is : ts ≡ text ++ rest

-- the tokens that reading left, whether it stopped or not
abbrev pub leftover : {A : Type 0} → Read A → List Lexeme
leftover (Ok x) = x.1
leftover (Err e) = e.rest

abbrev pub Leaves : {A : Type 0} → (List Lexeme → Read A) → Type 0
Leaves f = (ts : List Lexeme) → Cut ts (leftover (f ts))

pub left_by : {A : Type 0} (f : List Lexeme → Read A) → Leaves f → (ts : List Lexeme) (x : Read A) → f ts ≡ x → Cut ts (leftover x)
left_by f c ts x e = subst (λ (z : Read _). Cut ts (leftover z)) e (c ts)

pub no_cut : (ts : List Lexeme) → Cut ts ts
no_cut ts = record { text = []; is = refl }

join_cut : (a b c : List Lexeme) → Cut a b → Cut b c → Cut a c
join_cut a b c p q = record { text = p.text ++ q.text; is = p.is ∙ ap (λ (z : List Lexeme). p.text ++ z) q.is ∙ sym (append_assoc p.text q.text c) }

pub leaves_one : {A : Type 0} (test : Lexeme → Option A) → Leaves (token_at test)
leaves_one test [] = no_cut []
leaves_one {A = A} test (t ∷ ts) = go (test t)
  where
    go : (o : Option A) → Cut (t ∷ ts) (leftover (taken o t ts))
    go (Some a) = record { text = t ∷ []; is = refl }
    go None = no_cut (t ∷ ts)

pub leaves_then : {A B : Type 0} (f : List Lexeme → Read A) (h : A → List Lexeme → Read B) → Leaves f → ((a : A) → Leaves (h a)) → Leaves (f >>= h)
leaves_then {A = A} f h cf ch ts = go (f ts) (cf ts)
  where
    go : (x : Read A) → Cut ts (leftover x) → Cut ts (leftover (after x h))
    go (Ok p) c = join_cut ts p.1 (leftover (h p.0 p.1)) c (ch p.0 p.1)
    go (Err d) c = c

pub leaves_choice : {A : Type 0} (test : List Lexeme → Bool) (f g : List Lexeme → Read A) → Leaves f → Leaves g → Leaves (λ ts. if test ts then f ts else g ts)
leaves_choice test f g cf cg ts = go (test ts)
  where
    go : (b : Bool) → Cut ts (leftover (if b then f ts else g ts))
    go true = cf ts
    go false = cg ts

leaves_many : {A : Type 0} (test : List Lexeme → Bool) (f : List Lexeme → Read A) → Leaves f → (n : ℕ) → Leaves (many_at test f n)
unfolding many_at
leaves_many test f cf zero = no_cut
leaves_many test f cf (suc n) = leaves_choice test (f >>= λ a. many_at test f n >>= λ more. give (a ∷ more)) (λ ts. Ok ([], ts))
    (leaves_then f (λ a. many_at test f n >>= λ more. give (a ∷ more)) cf (λ a. leaves_then (many_at test f n) (λ more. give (a ∷ more)) (leaves_many test f cf n) (λ more. no_cut))) no_cut

pub leaves_all : {A : Type 0} (test : List Lexeme → Bool) (f : List Lexeme → Read A) → Leaves f → Leaves (all_at test f)
leaves_all test f cf ts = leaves_many test f cf (length ts) ts
