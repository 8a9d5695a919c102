-- What is checked of how assignments stand says which of them reach themselves.
use Rattle.std.proofs.Common.{◌≡◌, ℕ, zero, suc, ◌<◌, ◌≤◌, Bool, true, false, List, [], ◌∷◌, length, Option, Some, None, refl, sym, ap, subst, ◌∙◌, arith, inl, inr}
use Rattle.std.specs.Prelude.{◌⊎◌, ◌&&◌, ◌||◌, not, nat_eq, nat_lt, slice_get}
use Rattle.std.specs.List.{list_any, list_all}
use Rattle.std.proofs.lemmas.Bool.{eqb-true, eq-eqb, ltb-true}
use Rattle.std.proofs.lemmas.Option.{slice_get_within}
use Rattle.operation_notation.specs.declared.module.Assignment.{Assignment}
use Rattle.module_faults.specs.declared.reach_search.Standing.{Standing}
use Rattle.module_faults.specs.Recursion.{bodies_uses, list_at, Uses, Reaches, at_once, over, SaysRecursion}
use Rattle.module_faults.specs.Standings.{flag, says, falls_to, all_fall, is_lower, leads_to, goes_on, is_earlier, is_place, comes_from, is_shown_by, is_shown_at, AreShown}
use Rattle.module_faults.specs.ReachSets.{IsRightSurvey}

-- ---- tests

pub both : (a b : Bool) → (a && b) ≡ true → (a ≡ true) × (b ≡ true)
both true b h = (refl, h)
both false b h = absurd cc

pub either : (a b : Bool) → (a || b) ≡ true → (a ≡ true) ⊎ (b ≡ true)
either true b h = inl refl
either false b h = inr h

pub right : (a b : Bool) → b ≡ true → (a || b) ≡ true
right true b h = refl
right false b h = h

implied : (a b : Bool) → (not a || b) ≡ true → a ≡ true → b ≡ true
implied true b h e = h
implied false b h e = absurd cc

-- what a list has passes a test that all of it pass
pub all_any : (t : ℕ → Bool) (q : ℕ) (us : List ℕ) → list_all t us ≡ true → list_any (nat_eq q) us ≡ true → t q ≡ true
all_any t q [] a u = absurd cc
all_any t q (x ∷ us) a u =
    let k = both (t x) (list_all t us) a in
    elim (either (nat_eq q x) (list_any (nat_eq q) us) u) as (λ z. t q ≡ true) [ inl e ↦ ap t (eqb-true q x e) ∙ k.0 | inr v ↦ all_any t q us k.1 v ]

any_at : (us : List ℕ) (i q : ℕ) → slice_get us i ≡ Some q → list_any (nat_eq q) us ≡ true
any_at [] i q e = absurd cc
any_at (x ∷ us) zero q e = let s : x ≡ q = cc in ap (λ (b : Bool). b || list_any (nat_eq q) us) (eq-eqb q x (sym s))
any_at (x ∷ us) (suc i) q e = let r = any_at us i q e in right (nat_eq q x) (list_any (nat_eq q) us) r

pub place_in : (lists : List (List ℕ)) (p q : ℕ) → Uses lists p q → p < length lists
place_in [] p q u = absurd cc
place_in (l ∷ lists) zero q u = omega arith
place_in (l ∷ lists) (suc p) q u = let r : p < length lists = place_in lists p q u in omega arith

flagged : (o : Option Standing) → flag o ≡ true → (s : Standing) × (o ≡ Some s) × (s.is_recursive ≡ true)
flagged None h = absurd cc
flagged (Some s) h = (s, refl, h)

pub flagged_within : (standings : List Standing) (p : ℕ) → says standings p ≡ true → p < length standings
flagged_within standings p h = let k = flagged (slice_get standings p) h in slice_get_within standings p k.0 k.1

-- ---- ways

pub ways : (lists : List (List ℕ)) (p q r : ℕ) → Reaches lists p q → Reaches lists q r → Reaches lists p r
ways lists _ _ r (at_once from to u) b = over from to r u b
ways lists _ _ r (over from next to u a) b = over from next r u (ways lists next to r a b)

module _ (lists : List (List ℕ)) (standings : List Standing) (shown : AreShown lists standings) where
  -- how a place stands
  record Stands (p : ℕ) : Type 0 where
    s : Standing
    is : slice_get standings p ≡ Some s
    falls : all_fall standings s (list_at lists p) ≡ true
    goes : s.is_recursive ≡ true → (goes_on lists standings p s && comes_from lists standings p s) ≡ true

  stands : (p : ℕ) → p < length lists → Stands p
  stands p lt = go (slice_get standings p) refl
    where
      go : (o : Option Standing) → slice_get standings p ≡ o → Stands p
      go None e = let h : is_shown_at lists standings p None ≡ true = ap (λ (z : Option Standing). is_shown_at lists standings p z) (sym e) ∙ shown.shown p lt in absurd cc
      go (Some s) e =
          let h : is_shown_by lists standings p s ≡ true = ap (λ (z : Option Standing). is_shown_at lists standings p z) (sym e) ∙ shown.shown p lt in
          let k = both (all_fall standings s (list_at lists p)) (not s.is_recursive || (goes_on lists standings p s && comes_from lists standings p s)) h in
          record { s = s; is = e; falls = k.0; goes = implied s.is_recursive (goes_on lists standings p s && comes_from lists standings p s) k.1 }

  -- ---- one that isn't said to reach itself doesn't

  number_by : Option Standing → ℕ
  number_by None = 0
  number_by (Some s) = s.component

  number : ℕ → ℕ
  number p = number_by (slice_get standings p)

  record Falls (a b : ℕ) (c : Bool) : Type 0 where
    le : b ≤ a
    lt : c ≡ false → b < a

  fall_by : (from to : Option Standing) (s : Standing) → from ≡ Some s → falls_to s to ≡ true → Falls (number_by from) (number_by to) (flag from)
  unfolding number_by
  fall_by from None s e f = absurd cc
  fall_by from (Some t) s e f =
      subst (λ (z : Option Standing). Falls (number_by z) t.component (flag z)) (sym e)
      (elim (either (nat_lt t.component s.component) (s.is_recursive && nat_eq t.component s.component) f) as (λ z. Falls s.component t.component s.is_recursive) [
        | inl l ↦ let lt : t.component < s.component = ltb-true _ _ l in record { le = omega arith; lt = λ c. lt }
        | inr r ↦ let k = both s.is_recursive (nat_eq t.component s.component) r in
            let same : t.component ≡ s.component = eqb-true t.component s.component k.1 in
            record { le = omega arith; lt = λ (c : s.is_recursive ≡ false). absurd (not_both s.is_recursive k.0 c) }
      ])
    where
      not_both : (b : Bool) → b ≡ true → b ≡ false → ⊥
      not_both true e f = cc
      not_both false e f = cc

  fall : (p q : ℕ) → Uses lists p q → Falls (number p) (number q) (says standings p)
  unfolding number
  fall p q u =
      let st = stands p (place_in lists p q u) in
      fall_by (slice_get standings p) (slice_get standings q) st.s st.is (all_any (λ (to : ℕ). falls_to st.s (slice_get standings to)) q (list_at lists p) st.falls u)

  reach_le : (p q : ℕ) → Reaches lists p q → number q ≤ number p
  reach_le _ _ (at_once from to u) = (fall from to u).le
  reach_le _ _ (over from next to u r) = let a : number to ≤ number next = reach_le next to r in let b : number next ≤ number from = (fall from next u).le in omega arith

  reach_lt : (p q : ℕ) → says standings p ≡ false → Reaches lists p q → number q < number p
  reach_lt _ _ n (at_once from to u) = (fall from to u).lt n
  reach_lt _ _ n (over from next to u r) = let a : number to ≤ number next = reach_le next to r in let b : number next < number from = (fall from next u).lt n in omega arith

  pub whole : (p : ℕ) → Reaches lists p p → says standings p ≡ true
  whole p r = go (says standings p) refl
    where
      go : (b : Bool) → says standings p ≡ b → b ≡ true
      go true e = refl
      go false e = let a : number p < number p = reach_lt p p e r in absurd (omega arith)

  -- ---- one that is said to reach itself does

  is_lower_of : (s : Standing) (to : Option Standing) → is_lower s to ≡ true → (t : Standing) × (to ≡ Some t) × (t.is_recursive ≡ true) × (t.root ≡ s.root) × (t.height < s.height)
  is_lower_of s None h = absurd cc
  is_lower_of s (Some t) h =
      let k = both t.is_recursive (nat_eq t.root s.root && nat_lt t.height s.height) h in
      let m = both (nat_eq t.root s.root) (nat_lt t.height s.height) k.1 in
      (t, refl, k.0, eqb-true t.root s.root m.0, ltb-true _ _ m.1)

  is_earlier_of : (s : Standing) (to : Option Standing) → is_earlier s to ≡ true → (t : Standing) × (to ≡ Some t) × (t.is_recursive ≡ true) × (t.root ≡ s.root) × (t.met < s.met)
  is_earlier_of s None h = absurd cc
  is_earlier_of s (Some t) h =
      let k = both t.is_recursive (nat_eq t.root s.root && nat_lt t.met s.met) h in
      let m = both (nat_eq t.root s.root) (nat_lt t.met s.met) k.1 in
      (t, refl, k.0, eqb-true t.root s.root m.0, ltb-true _ _ m.1)

  place_of : (p : ℕ) (s : Standing) → slice_get standings p ≡ Some s → p < length lists
  place_of p s e = let a : p < length standings = slice_get_within standings p s e in let c : length standings ≡ length lists = shown.count in omega arith

  some_same : (a b : Standing) → Some a ≡ Some b → a ≡ b
  some_same a b e = cc

  -- both ways of one that is said to reach itself
  both_ways : (p : ℕ) (s : Standing) → slice_get standings p ≡ Some s → s.is_recursive ≡ true → (goes_on lists standings p s ≡ true) × (comes_from lists standings p s ≡ true)
  both_ways p s e r =
      let st = stands p (place_of p s e) in
      let same : st.s ≡ s = some_same st.s s (sym st.is ∙ e) in
      let P : Standing → Type 0 = λ z. z.is_recursive ≡ true → (goes_on lists standings p z && comes_from lists standings p z) ≡ true in
      let g : s.is_recursive ≡ true → (goes_on lists standings p s && comes_from lists standings p s) ≡ true = subst P same st.goes in
      both (goes_on lists standings p s) (comes_from lists standings p s) (g r)

  to_root : (turns p : ℕ) (s : Standing) → slice_get standings p ≡ Some s → s.is_recursive ≡ true → s.height < turns → Reaches lists p s.root
  to_root zero p s e r lt = absurd (omega arith)
  to_root (suc turns) p s e r lt = by_way (slice_get (list_at lists p) s.way) refl (both_ways p s e r).0 (to_root turns)
    where
      by_way : (o : Option ℕ) → slice_get (list_at lists p) s.way ≡ o → leads_to standings s (slice_get (list_at lists p) s.way) ≡ true
          → ((q : ℕ) (t : Standing) → slice_get standings q ≡ Some t → t.is_recursive ≡ true → t.height < turns → Reaches lists q t.root) → Reaches lists p s.root
      by_way None at h more = let f : leads_to standings s None ≡ true = ap (leads_to standings s) (sym at) ∙ h in absurd cc
      by_way (Some q) at h more =
          let f : leads_to standings s (Some q) ≡ true = ap (leads_to standings s) (sym at) ∙ h in
          let u : Uses lists p q = any_at (list_at lists p) s.way q at in
          elim (either (nat_eq q s.root) (is_lower s (slice_get standings q)) f) as (λ z. Reaches lists p s.root) [
            | inl n ↦ subst (λ (z : ℕ). Reaches lists p z) (eqb-true q s.root n) (at_once p q u)
            | inr l ↦ let k = is_lower_of s (slice_get standings q) l in
                let small : k.0.height < turns = let a : k.0.height < s.height = k.4 in omega arith in
                over p q s.root u (subst (λ (z : ℕ). Reaches lists q z) k.3 (more q k.0 k.1 k.2 small))
          ]

  from_root : (turns p : ℕ) (s : Standing) → slice_get standings p ≡ Some s → s.is_recursive ≡ true → s.met < turns → (p ≡ s.root) ⊎ Reaches lists s.root p
  from_root zero p s e r lt = absurd (omega arith)
  from_root (suc turns) p s e r lt =
      elim (either (nat_eq p s.root) (is_place p (slice_get (list_at lists s.before) s.branch) && (nat_eq s.before s.root || is_earlier s (slice_get standings s.before))) (both_ways p s e r).1) as (λ z. (p ≡ s.root) ⊎ Reaches lists s.root p) [
        | inl n ↦ inl (eqb-true p s.root n)
        | inr h ↦ let k = both (is_place p (slice_get (list_at lists s.before) s.branch)) (nat_eq s.before s.root || is_earlier s (slice_get standings s.before)) h in
            inr (by_before (used (slice_get (list_at lists s.before) s.branch) refl k.0) k.1 (from_root turns))
      ]
    where
      used : (o : Option ℕ) → slice_get (list_at lists s.before) s.branch ≡ o → is_place p (slice_get (list_at lists s.before) s.branch) ≡ true → Uses lists s.before p
      used None at h = let f : is_place p None ≡ true = ap (is_place p) (sym at) ∙ h in absurd cc
      used (Some q) at h =
          let f : nat_eq q p ≡ true = ap (is_place p) (sym at) ∙ h in
          subst (λ (z : ℕ). Uses lists s.before z) (eqb-true q p f) (any_at (list_at lists s.before) s.branch q at)

      by_use : (a b : ℕ) → (a ≡ b) ⊎ Reaches lists b a → Uses lists a p → Reaches lists b p
      by_use a b (inl same) u = subst (λ (z : ℕ). Reaches lists z p) same (at_once a p u)
      by_use a b (inr way) u = ways lists b a p way (at_once a p u)

      by_before : Uses lists s.before p → (nat_eq s.before s.root || is_earlier s (slice_get standings s.before)) ≡ true
          → ((q : ℕ) (t : Standing) → slice_get standings q ≡ Some t → t.is_recursive ≡ true → t.met < turns → (q ≡ t.root) ⊎ Reaches lists t.root q) → Reaches lists s.root p
      by_before u h more =
          elim (either (nat_eq s.before s.root) (is_earlier s (slice_get standings s.before)) h) as (λ z. Reaches lists s.root p) [
            | inl n ↦ subst (λ (z : ℕ). Reaches lists z p) (eqb-true s.before s.root n) (at_once s.before p u)
            | inr l ↦ let k = is_earlier_of s (slice_get standings s.before) l in
                let small : k.0.met < turns = let a : k.0.met < s.met = k.4 in omega arith in
                by_use s.before s.root (subst (λ (z : ℕ). (s.before ≡ z) ⊎ Reaches lists z s.before) k.3 (more s.before k.0 k.1 k.2 small)) u
          ]

  pub sound : (p : ℕ) → says standings p ≡ true → Reaches lists p p
  sound p h =
      let k = flagged (slice_get standings p) h in
      let s : Standing = k.0 in
      let a : Reaches lists p s.root = to_root (suc s.height) p s k.1 k.2 (omega arith) in
      close p s.root a (from_root (suc s.met) p s k.1 k.2 (omega arith))
    where
      close : (p root : ℕ) → Reaches lists p root → (p ≡ root) ⊎ Reaches lists root p → Reaches lists p p
      close p root a (inl same) = subst (λ (z : ℕ). Reaches lists p z) (sym same) a
      close p root a (inr b) = ways lists p root p a b

-- a survey that passes the check is right
pub shown_survey : (lists : List (List ℕ)) (standings : List Standing) → AreShown lists standings → IsRightSurvey lists standings
shown_survey lists standings shown = record {
  sound = sound lists standings shown;
  whole = whole lists standings shown;
  depth = number lists standings shown;
  falls = λ from to u n m. (fall lists standings shown from to u).lt n;
}

pub says_recursion : (all : List Assignment) (lists : List (List ℕ)) (standings : List Standing) → lists ≡ bodies_uses all all → IsRightSurvey lists standings → SaysRecursion all (says standings)
says_recursion all lists standings e survey =
    let right : IsRightSurvey (bodies_uses all all) standings = subst (λ (z : List (List ℕ)). IsRightSurvey z standings) e survey in
    record { sound = right.sound; whole = right.whole }
