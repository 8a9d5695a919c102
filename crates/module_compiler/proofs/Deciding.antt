-- It is decided which types reach themselves, so a module has a least fault or none.
use Rattle.std.proofs.Common.{◌≡◌, ℕ, zero, suc, ◌<◌, Bool, true, false, List, [], ◌∷◌, length, Option, None, Some, refl, sym, ap, subst, ◌∙◌, arith, inl, inr}
use Rattle.std.specs.Prelude.{◌⊎◌, ◌&&◌, ◌||◌, nat_eq}
use Rattle.std.specs.List.{list_any}
use Rattle.operation_notation.specs.declared.module.Assignment.{Assignment}
use Rattle.operation_notation.specs.declared.module.ModuleText.{ModuleText}
use Rattle.module_faults.specs.declared.least.Found.{Found}
use Rattle.module_faults.specs.Least.{least}
use Rattle.module_faults.specs.Recursion.{bodies_uses, list_at, Uses, Reaches, at_once, over, SaysRecursion}
use Rattle.module_faults.specs.Faults.{faults_by}
use Rattle.module_faults.proofs.Recursing.{ways}
use Rattle.module_compiler.specs.Refusals.{HasNoFault}
use Rattle.module_compiler.specs.Laws.{HasLeastFault}
use Rattle.module_compiler.proofs.Least.{no_faults}

both : (a b : Bool) → (a && b) ≡ true → (a ≡ true) × (b ≡ true)
both true b h = (refl, h)
both false b h = absurd cc

either : (a b : Bool) → (a || b) ≡ true → (a ≡ true) ⊎ (b ≡ true)
either true b h = inl refl
either false b h = inr h

left : (a b : Bool) → a ≡ true → (a || b) ≡ true
left true b h = refl
left false b h = absurd cc

right : (a b c : Bool) → b ≡ true → c ≡ true → (a || (b && c)) ≡ true
right true b c h k = refl
right false b c h k = ap (λ (x : Bool). x && c) h ∙ k

module _ (lists : List (List ℕ)) where
  -- one place reaches another over places below a number, by whether that is so over those below the number before
  over_next : (ℕ → ℕ → Bool) → ℕ → ℕ → ℕ → Bool
  over_next way k p q = way p q || (way p k && way k q)

  way_below : ℕ → ℕ → ℕ → Bool
  way_below zero p q = list_any (nat_eq q) (list_at lists p)
  way_below (suc k) p q = over_next (way_below k) k p q

  is_way : (k p q : ℕ) → way_below k p q ≡ true → Reaches lists p q
  unfolding way_below over_next
  is_way zero p q h = at_once p q h
  is_way (suc k) p q h =
      elim (either (way_below k p q) (way_below k p k && way_below k k q) h) as (λ z. Reaches lists p q) [
        | inl e ↦ is_way k p q e
        | inr f ↦ let g = both (way_below k p k) (way_below k k q) f in ways lists p k q (is_way k p k g.0) (is_way k k q g.1)
      ]

  way_more : (k p q : ℕ) → way_below k p q ≡ true → way_below (suc k) p q ≡ true
  unfolding way_below over_next
  way_more k p q h = left (way_below k p q) (way_below k p k && way_below k k q) h

  way_at_once : (k p q : ℕ) → Uses lists p q → way_below k p q ≡ true
  unfolding way_below over_next
  way_at_once zero p q u = u
  way_at_once (suc k) p q u = left (way_below k p q) (way_below k p k && way_below k k q) (way_at_once k p q u)

  -- to the number's place, and from it, there is a way over those below it
  to_last : (k p : ℕ) → way_below (suc k) p k ≡ true → way_below k p k ≡ true
  unfolding way_below over_next
  to_last k p h = elim (either (way_below k p k) (way_below k p k && way_below k k k) h) as (λ z. way_below k p k ≡ true) [ inl e ↦ e | inr f ↦ (both (way_below k p k) (way_below k k k) f).0 ]

  from_last : (k q : ℕ) → way_below (suc k) k q ≡ true → way_below k k q ≡ true
  unfolding way_below over_next
  from_last k q h = elim (either (way_below k k q) (way_below k k k && way_below k k q) h) as (λ z. way_below k k q ≡ true) [ inl e ↦ e | inr f ↦ (both (way_below k k k) (way_below k k q) f).1 ]

  last : (k p q : ℕ) → way_below k p k ≡ true → way_below k k q ≡ true → way_below (suc k) p q ≡ true
  unfolding way_below over_next
  last k p q h e = right (way_below k p q) (way_below k p k) (way_below k k q) h e

  -- over the places below a number, or by its place
  abbrev Parts : ℕ → ℕ → ℕ → Type 0
  Parts k p q = (way_below k p q ≡ true) ⊎ ((way_below k p k ≡ true) × (way_below k k q ≡ true))

  split : (k p q : ℕ) → way_below (suc k) p q ≡ true → Parts k p q
  unfolding way_below over_next
  split k p q h = elim (either (way_below k p q) (way_below k p k && way_below k k q) h) as (λ z. Parts k p q) [ inl e ↦ inl e | inr f ↦ let g = both (way_below k p k) (way_below k k q) f in inr (g.0, g.1) ]

  two_parts : (k m p q : ℕ) → ((a b : ℕ) → way_below k a m ≡ true → way_below k m b ≡ true → way_below k a b ≡ true) → Parts k p m → Parts k m q → way_below (suc k) p q ≡ true
  two_parts k m p q more (inl a) (inl b) = way_more k p q (more p q a b)
  two_parts k m p q more (inl a) (inr b) = last k p q (more p k a b.0) b.1
  two_parts k m p q more (inr a) (inl b) = last k p q a.0 (more k q a.1 b)
  two_parts k m p q more (inr a) (inr b) = last k p q a.0 b.1

  order : (m k : ℕ) → m < suc k → (m < k) ⊎ (m ≡ k)
  order zero zero lt = inr refl
  order zero (suc k) lt = inl (omega arith)
  order (suc m) zero lt = absurd (omega arith)
  order (suc m) (suc k) lt = elim (order m k (omega arith)) as (λ z. (suc m < suc k) ⊎ (suc m ≡ suc k)) [ inl a ↦ inl (omega arith) | inr b ↦ inr (ap suc b) ]

  -- a way goes on by another
  two_ways : (k m p q : ℕ) → m < k → way_below k p m ≡ true → way_below k m q ≡ true → way_below k p q ≡ true
  two_ways zero m p q lt h e = absurd (omega arith)
  two_ways (suc k) m p q lt h e =
      elim (order m k lt) as (λ z. way_below (suc k) p q ≡ true) [
        | inl small ↦ two_parts k m p q (λ a b x y. two_ways k m a b small x y) (split k p m h) (split k m q e)
        | inr same ↦ last k p q (to_last k p (subst (λ (z : ℕ). way_below (suc k) p z ≡ true) same h)) (from_last k q (subst (λ (z : ℕ). way_below (suc k) z q ≡ true) same e))
      ]

  module _ (count : ℕ) (below : (p q : ℕ) → Uses lists p q → p < count) where
    begins_below : (p q : ℕ) → Reaches lists p q → p < count
    begins_below _ _ (at_once from to u) = below from to u
    begins_below _ _ (over from next to u r) = below from next u

    has_way : (p q : ℕ) → Reaches lists p q → way_below count p q ≡ true
    has_way _ _ (at_once from to u) = way_at_once count from to u
    has_way _ _ (over from next to u r) = two_ways count next from to (begins_below next to r) (way_at_once count from next u) (has_way next to r)

place_in : (lists : List (List ℕ)) (p q : ℕ) → Uses lists p q → p < length lists
place_in [] p q u = absurd cc
place_in (l ∷ lists) zero q u = omega arith
place_in (l ∷ lists) (suc p) q u = let r : p < length lists = place_in lists p q u in omega arith

-- whether the type at a place reaches itself
reaches_itself : List Assignment → ℕ → Bool
reaches_itself all p = way_below (bodies_uses all all) (length (bodies_uses all all)) p p

is_decided : (all : List Assignment) → SaysRecursion all (reaches_itself all)
unfolding reaches_itself
is_decided all =
    let lists : List (List ℕ) = bodies_uses all all in
    record {
      sound = λ place h. is_way lists (length lists) place place h;
      whole = λ place r. has_way lists (length lists) (place_in lists) place place r;
    }

pub fault_or_none : (m : ModuleText) → HasNoFault m ⊎ HasLeastFault m
fault_or_none m = by_least (least (faults_by m.assignments (reaches_itself m.assignments))) refl
  where
    by_least : (o : Option Found) → least (faults_by m.assignments (reaches_itself m.assignments)) ≡ o → HasNoFault m ⊎ HasLeastFault m
    by_least None e = inl (record { recursive = reaches_itself m.assignments; says = is_decided m.assignments; none = no_faults (faults_by m.assignments (reaches_itself m.assignments)) (sym e) })
    by_least (Some f) e = inr (record {
      line = f.place.line;
      column = f.place.column;
      kind = f.kind;
      is = record { recursive = reaches_itself m.assignments; says = is_decided m.assignments; is = sym e };
    })
