-- Where no type reaches itself, the places on the way to one by names are at most as many as assignments; so what is known of a type over
-- that many names is the same over more.
use Rattle.std.proofs.Common.{◌≡◌, ℕ, zero, suc, ◌+◌, ◌<◌, ◌≤◌, Bool, true, false, List, [], ◌∷◌, length, Option, None, Some, refl, sym, ap, subst, ◌∙◌, arith, eqb, inl, inr}
use Rattle.std.specs.Prelude.{◌⊎◌, ◌||◌, nat_eq, slice_get, if◌then◌else◌}
use Rattle.std.specs.List.{list_any, list_all, AllByRecursion, IsDistinct}
use Rattle.std.proofs.lemmas.Bool.{eqb-true, eq-eqb}
use Rattle.std.proofs.lemmas.Option.{slice_get_within}
use Rattle.std.proofs.lemmas.Map.Keys.{IsDistinct-cons}
use Rattle.std.proofs.lemmas.Map.Steps.{length-le_from_distinct_below}
use Rattle.operation_notation.specs.Tree.{TypeTree}
use Rattle.operation_notation.specs.declared.module.Assignment.{Assignment}
use Rattle.operation_notation.specs.declared.module.Assigned.{Assigned}
use Rattle.operation_notation.specs.declared.module.Assigned.TheVariants as bodies
use Rattle.module_faults.specs.declared.kind.TableKind.TheVariants as kinds
use Rattle.module_faults.specs.Least.{at_name}
use Rattle.module_faults.specs.Names.{or_none, find, typed, type_at, type_place}
use Rattle.module_faults.specs.Recursion.{listed, type_uses, body_uses, bodies_uses, list_at, Uses, Reaches, at_once, SaysRecursion}
use Rattle.module_faults.specs.Facts.{Facts, nothing, type_facts, facts_by, facts_at, name_facts, env_of}
use Rattle.module_faults.specs.Faults.{first_recursive}
use Rattle.module_faults.proofs.Recursing.{ways}
use Rattle.module_faults.proofs.Settling.{facts_same}

either : (a b : Bool) → (a || b) ≡ true → (a ≡ true) ⊎ (b ≡ true)
either true b h = inl refl
either false b h = inr h

-- ---- trails

module _ (lists : List (List ℕ)) (count : ℕ) where
  -- The places on the way to one: each reaches it, none is there twice, and all are below a count.
  pub record Trail (seen : List ℕ) (p : ℕ) : Type 0 where
    pub apart : IsDistinct eqb (p ∷ seen)
    pub below : AllByRecursion (λ q. q < count) (p ∷ seen)
    pub reach : AllByRecursion (λ q. Reaches lists q p) seen

  one_apart : (p : ℕ) → IsDistinct eqb (p ∷ [])
  unfolding IsDistinct
  one_apart p = (tt, tt)

  pub trail_start : (p : ℕ) → p < count → Trail [] p
  trail_start p lt = record { apart = one_apart p; below = (lt, tt); reach = tt }

  all_reach : (seen : List ℕ) (p q : ℕ) → Uses lists p q → AllByRecursion (λ x. Reaches lists x p) seen → AllByRecursion (λ x. Reaches lists x q) seen
  all_reach [] p q u h = tt
  all_reach (x ∷ seen) p q u h = (ways lists x p q h.0 (at_once p q u), all_reach seen p q u h.1)

  not_seen : (seen : List ℕ) (q : ℕ) → (Reaches lists q q → ⊥) → AllByRecursion (λ x. Reaches lists x q) seen → AllByRecursion (λ y. eqb q y ≡ false) seen
  not_seen [] q never h = tt
  not_seen (x ∷ seen) q never h = (go (eqb q x) refl, not_seen seen q never h.1)
    where
      go : (b : Bool) → eqb q x ≡ b → eqb q x ≡ false
      go false e = e
      go true e = absurd (never (subst (λ (z : ℕ). Reaches lists z q) (sym (eqb-true q x e)) h.0))

  pub trail_step : (seen : List ℕ) (p q : ℕ) → Trail seen p → Uses lists p q → q < count → (Reaches lists q q → ⊥) → Trail (p ∷ seen) q
  trail_step seen p q t u lt never =
      let reach : AllByRecursion (λ x. Reaches lists x q) (p ∷ seen) = (at_once p q u, all_reach seen p q u t.reach) in
      record { apart = IsDistinct-cons eqb q (p ∷ seen) (not_seen (p ∷ seen) q never reach) t.apart; below = (lt, t.below); reach = reach }

  below_any : (xs : List ℕ) (q : ℕ) → AllByRecursion (λ z. z < count) xs → list_any (eqb q) xs ≡ true → q < count
  below_any [] q h e = absurd cc
  below_any (x ∷ xs) q h e =
      elim (either (eqb q x) (list_any (eqb q) xs) e) as (λ z. q < count) [
        | inl s ↦ subst (λ (z : ℕ). z < count) (sym (eqb-true q x s)) h.0
        | inr r ↦ below_any xs q h.1 r
      ]

  pub trail_short : (seen : List ℕ) (p : ℕ) → Trail seen p → length seen < count
  trail_short seen p t =
      let few : length (p ∷ seen) ≤ count = length-le_from_distinct_below (p ∷ seen) count t.apart (λ q m. below_any (p ∷ seen) q t.below m) in
      omega arith

-- ---- what is found

-- the type that a name is assigned first, and its place
pub record IsTyped (all : List Assignment) (name : List ℕ) (q : ℕ) : Type 0 where
  pub found : find all name ≡ Some q
  pub of : TypeTree
  pub at : type_at all q ≡ Some of

pub place_typed : (all : List Assignment) (name : List ℕ) (q : ℕ) → type_place all name ≡ Some q → IsTyped all name q
place_typed all name q e = go (find all name) refl e
  where
    at : (p : ℕ) (o : Option TypeTree) → find all name ≡ Some p → type_at all p ≡ o → or_none o (λ of. Some p) ≡ Some q → IsTyped all name q
    at p None f t h = absurd cc
    at p (Some of) f t h =
        let same : p ≡ q = cc in
        record { found = f ∙ ap Some same; of = of; at = subst (λ (z : ℕ). type_at all z ≡ Some of) same t }

    go : (o : Option ℕ) → find all name ≡ o → or_none o (λ place. or_none (type_at all place) (λ of. Some place)) ≡ Some q → IsTyped all name q
    go None f h = absurd cc
    go (Some p) f h = at p (type_at all p) f refl h

pub typed_below : (all : List Assignment) (q : ℕ) (of : TypeTree) → type_at all q ≡ Some of → q < length all
typed_below all q of e = go (slice_get all q) refl e
  where
    go : (o : Option Assignment) → slice_get all q ≡ o → or_none o (λ a. typed a.body) ≡ Some of → q < length all
    go None s h = absurd cc
    go (Some a) s h = slice_get_within all q a s

-- what a type names is what its assignment names
uses_body : (all : List Assignment) (b : Assigned) (of : TypeTree) → typed b ≡ Some of → body_uses all b ≡ type_uses all 256 of
uses_body all (bodies.Typed t) of e = let same : t ≡ of = cc in ap (type_uses all 256) same
uses_body all (bodies.Operation o) of e = absurd cc
uses_body all (bodies.Error o) of e = absurd cc

pub uses_at : (all xs : List Assignment) (q : ℕ) (of : TypeTree) → type_at xs q ≡ Some of → list_at (bodies_uses all xs) q ≡ type_uses all 256 of
uses_at all [] q of e = absurd cc
uses_at all (a ∷ xs) zero of e = uses_body all a.body of e
uses_at all (a ∷ xs) (suc q) of e = uses_at all xs q of e

any_here : (x : ℕ) (vs : List ℕ) → list_any (nat_eq x) (x ∷ vs) ≡ true
any_here x vs = ap (λ (b : Bool). b || list_any (nat_eq x) vs) (eq-eqb x x refl)

any_behind : (b c : Bool) → c ≡ true → (b || c) ≡ true
any_behind true c h = refl
any_behind false c h = h

all_members : (t : ℕ → Bool) (vs : List ℕ) → ((q : ℕ) → list_any (nat_eq q) vs ≡ true → t q ≡ true) → list_all t vs ≡ true
all_members t [] h = refl
all_members t (x ∷ vs) h =
    both (h x (any_here x vs)) (all_members t vs (λ q m. h q (any_behind (nat_eq q x) (list_any (nat_eq q) vs) m)))
  where
    both : t x ≡ true → list_all t vs ≡ true → list_all t (x ∷ vs) ≡ true
    both e f = cc

-- ---- no type reaches itself

none_said : (recursive : ℕ → Bool) (place : ℕ) (xs : List Assignment) → first_recursive recursive place xs ≡ [] → (i : ℕ) → i < length xs → recursive (place + i) ≡ false
none_said recursive place [] e i lt = absurd (omega arith)
none_said recursive place (a ∷ xs) e i lt = go (recursive place) refl (λ r k l. none_said recursive (place + 1) xs r k l) i lt
  where
    rest : (b : Bool) → recursive place ≡ b → b ≡ false → first_recursive recursive (place + 1) xs ≡ []
    rest true s f = absurd cc
    rest false s f = sym (ap (λ (c : Bool). if c then at_name a.name kinds.Recursive ∷ [] else first_recursive recursive (place + 1) xs) s) ∙ e

    go : (b : Bool) → recursive place ≡ b → (first_recursive recursive (place + 1) xs ≡ [] → (k : ℕ) → k < length xs → recursive (place + 1 + k) ≡ false) → (k : ℕ) → k < suc (length xs) → recursive (place + k) ≡ false
    go true s more k h = let f = sym (ap (λ (c : Bool). if c then at_name a.name kinds.Recursive ∷ [] else first_recursive recursive (place + 1) xs) s) ∙ e in absurd cc
    go false s more zero h = let zeroth : place + zero ≡ place = omega arith in ap recursive zeroth ∙ s
    go false s more (suc k) h =
        let next : place + suc k ≡ place + 1 + k = omega arith in
        ap recursive next ∙ more (rest false s refl) k (omega arith)

module _ (all : List Assignment) (recursive : ℕ → Bool) (says : SaysRecursion all recursive) (none : first_recursive recursive 0 all ≡ []) where
  abbrev lists : List (List ℕ)
  lists = bodies_uses all all

  said : (q : ℕ) → q < length all → recursive q ≡ false
  said q lt = let same : q ≡ 0 + q = omega arith in ap recursive same ∙ none_said recursive 0 all none q lt

  pub never : (q : ℕ) → q < length all → Reaches lists q q → ⊥
  never q lt r = let is : recursive q ≡ true = says.whole q r in let isnt = said q lt in cc

  abbrev known : ℕ → List ℕ → Facts
  known k = name_facts all recursive k

  by_said : (b : Bool) → b ≡ false → (f : Facts) → (if b then nothing else f) ≡ f
  by_said true e f = absurd cc
  by_said false e f = refl

  -- the facts of a name are those of its type
  pub name_is : (k : ℕ) (name : List ℕ) (q : ℕ) (of : TypeTree) → type_place all name ≡ Some q → type_at all q ≡ Some of → known (suc k) name ≡ type_facts (known k) 256 of
  unfolding name_facts
  name_is k name q of e t =
      ap (facts_at all recursive (known k)) e
      ∙ by_said (recursive q) (said q (typed_below all q of t)) (facts_by (known k) (type_at all q))
      ∙ ap (facts_by (known k)) t

  name_none : (k : ℕ) (name : List ℕ) → type_place all name ≡ None → known (suc k) name ≡ nothing
  unfolding name_facts
  name_none k name e = ap (facts_at all recursive (known k)) e

  -- over enough names the facts of a type are the same
  pub same_known : (k : ℕ) (seen : List ℕ) (p : ℕ) → Trail lists (length all) seen p → length all ≤ length seen + k → (i j : ℕ) → k ≤ i → k ≤ j → (of : TypeTree) → type_at all p ≡ Some of → type_facts (known i) 256 of ≡ type_facts (known j) 256 of
  same_known zero seen p t enough i j a b of at = let short = trail_short lists (length all) seen p t in absurd (omega arith)
  same_known (suc k) seen p t enough zero j a b of at = absurd (omega arith)
  same_known (suc k) seen p t enough (suc i) zero a b of at = absurd (omega arith)
  same_known (suc k) seen p t enough (suc i) (suc j) a b of at =
      facts_same all (λ q. list_any (nat_eq q) (type_uses all 256 of)) (known (suc i)) (known (suc j)) (agree (λ q next u e. same_known k (p ∷ seen) q next (omega arith) i j (omega arith) (omega arith) u e)) 256 of (all_members (λ q. list_any (nat_eq q) (type_uses all 256 of)) (type_uses all 256 of) (λ q m. m))
    where
      used : (q : ℕ) → list_any (nat_eq q) (type_uses all 256 of) ≡ true → Uses lists p q
      used q m = ap (list_any (nat_eq q)) (uses_at all all p of at) ∙ m

      first : (t : ℕ → Bool) (q : ℕ) → list_all t (q ∷ []) ≡ true → t q ≡ true
      first t q h = go (t q) refl
        where
          go : (b : Bool) → t q ≡ b → t q ≡ true
          go true e = e
          go false e = absurd cc

      by_place : ((q : ℕ) → Trail lists (length all) (p ∷ seen) q → (u : TypeTree) → type_at all q ≡ Some u → type_facts (known i) 256 u ≡ type_facts (known j) 256 u) → (name : List ℕ) (o : Option ℕ) → type_place all name ≡ o → list_all (λ q. list_any (nat_eq q) (type_uses all 256 of)) (listed o) ≡ true → known (suc i) name ≡ known (suc j) name
      by_place more name None e h = name_none i name e ∙ sym (name_none j name e)
      by_place more name (Some q) e h =
          let m = first (λ q. list_any (nat_eq q) (type_uses all 256 of)) q h in
          let n = place_typed all name q e in
          let lt = typed_below all q n.of n.at in
          name_is i name q n.of e n.at
          ∙ more q (trail_step lists (length all) seen p q t (used q m) lt (never q lt)) n.of n.at
          ∙ sym (name_is j name q n.of e n.at)

      agree : ((q : ℕ) → Trail lists (length all) (p ∷ seen) q → (u : TypeTree) → type_at all q ≡ Some u → type_facts (known i) 256 u ≡ type_facts (known j) 256 u) → (name : List ℕ) → list_all (λ q. list_any (nat_eq q) (type_uses all 256 of)) (listed (type_place all name)) ≡ true → known (suc i) name ≡ known (suc j) name
      agree more name h = by_place more name (type_place all name) refl h

  -- the facts of a name, by those of all names
  pub env_is : (name : List ℕ) (q : ℕ) (of : TypeTree) → type_place all name ≡ Some q → type_at all q ≡ Some of → env_of all recursive name ≡ type_facts (env_of all recursive) 256 of
  env_is name q of e t =
      let lt = typed_below all q of t in
      let more : length all + 1 ≡ suc (length all) = omega arith in
      let env : ℕ → List ℕ → Facts = λ n. known n in
      ap (λ (n : ℕ). env n name) more
      ∙ name_is (length all) name q of e t
      ∙ same_known (length all) [] q (trail_start lists (length all) q lt) (omega arith) (length all) (length all + 1) (omega arith) (omega arith) of t
