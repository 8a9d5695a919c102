-- The sets of what is reached say which assignments reach themselves.
use Rattle.std.proofs.Common.{◌≡◌, ℕ, zero, suc, ◌<◌, ◌≤◌, Bool, true, false, List, [], ◌∷◌, ◌++◌, ◌+◌, length, take, drop, replicate, Option, Some, None, refl, sym, ap, subst, ◌∙◌, arith, inl, inr}
use Rattle.std.specs.Prelude.{◌⊎◌, ◌||◌, nat_eq, slice_get, slice_set, if◌then◌else◌}
use Rattle.std.specs.List.{list_any}
use Rattle.std.proofs.lemmas.Bool.{eqb-true, eq-eqb, cases_lt}
use Rattle.module_faults.specs.declared.reach_search.Standing.{Standing}
use Rattle.module_faults.specs.Recursion.{list_at, Uses, Reaches, at_once, over}
use Rattle.module_faults.specs.Standings.{says}
use Rattle.module_faults.specs.ReachSets.{lacks, is_in, first_out, first_from, IsNext, IsClosed, outs, AreReached, IsReach, IsSurveyedBySet, IsRightSurvey}
use Rattle.module_faults.proofs.Loops.{written_back}
use Rattle.module_faults.proofs.Recursing.{either, right, place_in, flagged_within, ways}

-- ---- sets

put_in : (reached : List Bool) (to q : ℕ) → is_in (slice_set reached to true) q ≡ true → (q ≡ to) ⊎ (is_in reached q ≡ true)
put_in [] to q h = absurd cc
put_in (x ∷ xs) zero zero h = inl refl
put_in (x ∷ xs) zero (suc q) h = inr h
put_in (x ∷ xs) (suc to) zero h = inr h
put_in (x ∷ xs) (suc to) (suc q) h = elim (put_in xs to q h) as (λ z. (suc q ≡ suc to) ⊎ (is_in xs q ≡ true)) [ inl e ↦ inl (ap suc e) | inr k ↦ inr k ]

put_length : (reached : List Bool) (to : ℕ) → length (slice_set reached to true) ≡ length reached
put_length [] to = refl
put_length (x ∷ xs) zero = refl
put_length (x ∷ xs) (suc to) = ap suc (put_length xs to)

outs_put : (reached : List Bool) (to : ℕ) → lacks (slice_get reached to) ≡ true → outs (slice_set reached to true) < outs reached
outs_put [] to h = absurd cc
outs_put (true ∷ xs) zero h = absurd cc
outs_put (false ∷ xs) zero h = omega arith
outs_put (true ∷ xs) (suc to) h = outs_put xs to h
outs_put (false ∷ xs) (suc to) h = let r : outs (slice_set xs to true) < outs xs = outs_put xs to h in omega arith

none_in : (n q : ℕ) → is_in (replicate n false) q ≡ true → ⊥
none_in zero q h = cc
none_in (suc n) zero h = cc
none_in (suc n) (suc q) h = none_in n q h

held : (reached : List Bool) (to : ℕ) → lacks (slice_get reached to) ≡ false → to < length reached → is_in reached to ≡ true
held [] to h lt = absurd (omega arith)
held (true ∷ xs) zero h lt = refl
held (false ∷ xs) zero h lt = absurd cc
held (x ∷ xs) (suc to) h lt = held xs to h (omega arith)

in_within : (reached : List Bool) (q : ℕ) → is_in reached q ≡ true → q < length reached
in_within [] q h = absurd cc
in_within (x ∷ xs) zero h = omega arith
in_within (x ∷ xs) (suc q) h = let r : q < length xs = in_within xs q h in omega arith

-- what is put, as a vector has it
pub put_back : (items written : List Bool) (n to : ℕ) → n ≡ length items → written ≡ slice_set items to true → take n (written ++ drop (length written) items) ≡ slice_set items to true
put_back items written n to long e = written_back items written n long (ap length e ∙ put_length items to) ∙ e

-- ---- the first that a set lacks

first_some : (b : Bool) (x y : Option ℕ) (to : ℕ) → (if b then x else y) ≡ Some to → ((b ≡ true) × (x ≡ Some to)) ⊎ ((b ≡ false) × (y ≡ Some to))
first_some true x y to h = inl (refl, h)
first_some false x y to h = inr (refl, h)

first_none : (b : Bool) (x y : Option ℕ) → (if b then x else y) ≡ None → ((b ≡ true) × (x ≡ None)) ⊎ ((b ≡ false) × (y ≡ None))
first_none true x y h = inl (refl, h)
first_none false x y h = inr (refl, h)

lacks_named : (reached : List Bool) (us : List ℕ) (to : ℕ) → first_out reached us ≡ Some to → (lacks (slice_get reached to) ≡ true) × (list_any (nat_eq to) us ≡ true)
lacks_named reached [] to h = absurd cc
lacks_named reached (u ∷ us) to h = elim (first_some (lacks (slice_get reached u)) (Some u) (first_out reached us) to h) as (λ z. (lacks (slice_get reached to) ≡ true) × (list_any (nat_eq to) (u ∷ us) ≡ true)) [
  | inl p ↦ let s : u ≡ to = cc in (subst (λ (z : ℕ). lacks (slice_get reached z) ≡ true) s p.0, ap (λ (b : Bool). b || list_any (nat_eq to) us) (eq-eqb to u (sym s)))
  | inr p ↦ let r = lacks_named reached us to p.1 in (r.0, right (nat_eq to u) (list_any (nat_eq to) us) r.1)
]

none_lacked : (reached : List Bool) (us : List ℕ) (to : ℕ) → first_out reached us ≡ None → list_any (nat_eq to) us ≡ true → lacks (slice_get reached to) ≡ false
none_lacked reached [] to h a = absurd cc
none_lacked reached (u ∷ us) to h a = elim (first_none (lacks (slice_get reached u)) (Some u) (first_out reached us) h) as (λ z. lacks (slice_get reached to) ≡ false) [
  | inl p ↦ absurd (no_some u p.1)
  | inr p ↦ elim (either (nat_eq to u) (list_any (nat_eq to) us) a) as (λ z. lacks (slice_get reached to) ≡ false) [
    | inl s ↦ subst (λ (z : ℕ). lacks (slice_get reached z) ≡ false) (sym (eqb-true to u s)) p.0
    | inr v ↦ none_lacked reached us to p.1 v
  ]
]
  where
    no_some : (u : ℕ) → Some u ≡ None → ⊥
    no_some u e = cc

-- ---- the set of a place

module _ (lists : List (List ℕ)) (place : ℕ) (reached : List Bool) where
  -- what is next is lacked, and reached
  next_parts : (from to : ℕ) → first_from lists place reached from ≡ Some to → ((nat_eq from place || is_in reached from) ≡ true) × (first_out reached (list_at lists from) ≡ Some to)
  next_parts from to h = elim (first_some (nat_eq from place || is_in reached from) (first_out reached (list_at lists from)) None to h) as (λ z. ((nat_eq from place || is_in reached from) ≡ true) × (first_out reached (list_at lists from) ≡ Some to)) [ inl p ↦ p | inr p ↦ absurd (no_some p.1) ]
    where
      no_some : None ≡ Some to → ⊥
      no_some e = cc

  pub fewer_out : (to : ℕ) → IsNext lists place reached to → outs (slice_set reached to true) < outs reached
  fewer_out to next = outs_put reached to (lacks_named reached (list_at lists next.from) to (next_parts next.from to next.first).1).0

  next_reached : (to : ℕ) → AreReached lists place reached → IsNext lists place reached to → Reaches lists place to
  next_reached to are next =
      let p = next_parts next.from to next.first in
      let u : Uses lists next.from to = (lacks_named reached (list_at lists next.from) to p.1).1 in
      elim (either (nat_eq next.from place) (is_in reached next.from) p.0) as (λ z. Reaches lists place to) [
        | inl e ↦ subst (λ (z : ℕ). Reaches lists z to) (eqb-true next.from place e) (at_once next.from to u)
        | inr i ↦ ways lists place next.from to (are.sound next.from i) (at_once next.from to u)
      ]

  pub one_more : (to : ℕ) → AreReached lists place reached → IsNext lists place reached to → AreReached lists place (slice_set reached to true)
  one_more to are next = record {
    count = put_length reached to ∙ are.count;
    sound = λ q h. elim (put_in reached to q h) as (λ z. Reaches lists place q) [ inl e ↦ subst (λ (z : ℕ). Reaches lists place z) (sym e) (next_reached to are next) | inr i ↦ are.sound q i ];
  }

  -- one that reaches something is there
  reach_in : (from to : ℕ) → Reaches lists from to → from < length lists
  reach_in _ _ (at_once from to u) = place_in lists from to u
  reach_in _ _ (over from next to u r) = place_in lists from next u

  -- a closed set has all that is reached
  module _ (are : AreReached lists place reached) (closed : IsClosed lists place reached) where
    use_in : (from to : ℕ) → Uses lists from to → (nat_eq from place || is_in reached from) ≡ true → to < length lists → is_in reached to ≡ true
    use_in from to u g lt =
        let within : to < length reached = let c : length reached ≡ length lists = are.count in omega arith in
        elim (first_none (nat_eq from place || is_in reached from) (first_out reached (list_at lists from)) None (closed from (place_in lists from to u))) as (λ z. is_in reached to ≡ true) [
          | inl p ↦ held reached to (none_lacked reached (list_at lists from) to p.1 u) within
          | inr p ↦ absurd (apart (nat_eq from place || is_in reached from) g p.0)
        ]
      where
        apart : (b : Bool) → b ≡ true → b ≡ false → ⊥
        apart true e f = cc
        apart false e f = cc

    all_in : (from to : ℕ) → Reaches lists from to → (nat_eq from place || is_in reached from) ≡ true → to < length lists → is_in reached to ≡ true
    all_in _ _ (at_once from to u) g lt = use_in from to u g lt
    all_in _ _ (over from next to u r) g lt =
        let n : is_in reached next ≡ true = use_in from next u g (reach_in next to r) in
        all_in next to r (right (nat_eq next place) (is_in reached next) n) lt

    pub is_reach : IsReach lists place reached
    is_reach = record {
      are = are;
      whole = λ to r lt. all_in place to r (ap (λ (b : Bool). b || is_in reached place) (eq-eqb place place refl)) lt;
    }

pub none_reached : (lists : List (List ℕ)) (place : ℕ) (reached : List Bool) → reached ≡ replicate (length lists) false → AreReached lists place reached
none_reached lists place reached e = record {
  count = ap length e ∙ long (length lists);
  sound = λ to h. absurd (none_in (length lists) to (sym (ap (λ (z : List Bool). is_in z to) e) ∙ h));
}
  where
    long : (n : ℕ) → length (replicate n false) ≡ n
    long zero = refl
    long (suc n) = ap suc (long n)

-- ---- how much sets have

ins : List Bool → ℕ
ins [] = 0
ins (true ∷ reached) = suc (ins reached)
ins (false ∷ reached) = ins reached

unequal : false ≡ true → ⊥
unequal e = cc

ins_le : (xs ys : List Bool) → length xs ≡ length ys → ((q : ℕ) → is_in xs q ≡ true → is_in ys q ≡ true) → ins xs ≤ ins ys
unfolding ins
ins_le [] ys e h = omega arith
ins_le (x ∷ xs) [] e h = absurd (omega arith)
ins_le (true ∷ xs) (true ∷ ys) e h = let r : ins xs ≤ ins ys = ins_le xs ys (omega arith) (λ q k. h (suc q) k) in omega arith
ins_le (true ∷ xs) (false ∷ ys) e h = absurd (unequal (h zero refl))
ins_le (false ∷ xs) (true ∷ ys) e h = let r : ins xs ≤ ins ys = ins_le xs ys (omega arith) (λ q k. h (suc q) k) in omega arith
ins_le (false ∷ xs) (false ∷ ys) e h = ins_le xs ys (omega arith) (λ q k. h (suc q) k)

ins_lt : (xs ys : List Bool) → length xs ≡ length ys → ((q : ℕ) → is_in xs q ≡ true → is_in ys q ≡ true) → (to : ℕ) → is_in xs to ≡ false → is_in ys to ≡ true → ins xs < ins ys
unfolding ins
ins_lt xs [] e h to a b = absurd (unequal b)
ins_lt [] (y ∷ ys) e h to a b = absurd (omega arith)
ins_lt (true ∷ xs) (y ∷ ys) e h zero a b = absurd (unequal (sym a))
ins_lt (false ∷ xs) (false ∷ ys) e h zero a b = absurd (unequal b)
ins_lt (false ∷ xs) (true ∷ ys) e h zero a b = let r : ins xs ≤ ins ys = ins_le xs ys (omega arith) (λ q k. h (suc q) k) in omega arith
ins_lt (true ∷ xs) (true ∷ ys) e h (suc to) a b = let r : ins xs < ins ys = ins_lt xs ys (omega arith) (λ q k. h (suc q) k) to a b in omega arith
ins_lt (true ∷ xs) (false ∷ ys) e h (suc to) a b = absurd (unequal (h zero refl))
ins_lt (false ∷ xs) (true ∷ ys) e h (suc to) a b = let r : ins xs < ins ys = ins_lt xs ys (omega arith) (λ q k. h (suc q) k) to a b in omega arith
ins_lt (false ∷ xs) (false ∷ ys) e h (suc to) a b = ins_lt xs ys (omega arith) (λ q k. h (suc q) k) to a b

-- ---- what the sets of all places say

module _ (lists : List (List ℕ)) (standings : List Standing) (count : length standings ≡ length lists) (surveyed : (place : ℕ) → place < length lists → IsSurveyedBySet lists standings place) where
  sound_by : (place : ℕ) → says standings place ≡ true → Reaches lists place place
  sound_by place h =
      let lt : place < length lists = let s : place < length standings = flagged_within standings place h in omega arith in
      let t = surveyed place lt in
      t.is.are.sound place (sym t.agrees ∙ h)

  whole_by : (place : ℕ) → Reaches lists place place → says standings place ≡ true
  whole_by place r =
      let lt : place < length lists = reach_in lists place [] place place r in
      let t = surveyed place lt in
      t.agrees ∙ t.is.whole place r lt

  depth_by : (place : ℕ) → ((place < length lists) ⊎ (length lists ≤ place)) → ℕ
  depth_by place (inl lt) = suc (ins (surveyed place lt).reached)
  depth_by place (inr le) = 0

  falls_by : (from to : ℕ) → Uses lists from to → says standings to ≡ false → (a : (from < length lists) ⊎ (length lists ≤ from)) (b : (to < length lists) ⊎ (length lists ≤ to)) → depth_by to b < depth_by from a
  unfolding depth_by
  falls_by from to u n (inr le) b = let lt : from < length lists = place_in lists from to u in absurd (omega arith)
  falls_by from to u n (inl lt) (inr le) = omega arith
  falls_by from to u n (inl lt) (inl less) =
      let f = surveyed from lt in
      let t = surveyed to less in
      let same : length t.reached ≡ length f.reached = t.is.are.count ∙ sym f.is.are.count in
      let within : (q : ℕ) → is_in t.reached q ≡ true → q < length lists = λ q k. let s : q < length t.reached = in_within t.reached q k in let c : length t.reached ≡ length lists = t.is.are.count in omega arith in
      let less : ins t.reached < ins f.reached = ins_lt t.reached f.reached same (λ q k. f.is.whole q (over from to q u (t.is.are.sound q k)) (within q k)) to (sym t.agrees ∙ n) (f.is.whole to (at_once from to u) less) in
      omega arith

  pub survey_of_sets : IsRightSurvey lists standings
  survey_of_sets = record {
    sound = sound_by;
    whole = whole_by;
    depth = λ place. depth_by place (cases_lt place (length lists));
    falls = λ from to u m n. falls_by from to u n (cases_lt from (length lists)) (cases_lt to (length lists));
  }

-- ---- one standing more

said_before : (standings : List Standing) (more : List Standing) (place : ℕ) → place < length standings → says (standings ++ more) place ≡ says standings place
said_before [] more place lt = absurd (omega arith)
said_before (s ∷ ss) more zero lt = refl
said_before (s ∷ ss) more (suc place) lt = said_before ss more place (omega arith)

said_last : (standings : List Standing) (s : Standing) (place : ℕ) → place ≡ length standings → says (standings ++ s ∷ []) place ≡ s.is_recursive
said_last [] s zero e = refl
said_last [] s (suc place) e = absurd (omega arith)
said_last (x ∷ ss) s zero e = absurd (omega arith)
said_last (x ∷ ss) s (suc place) e = said_last ss s place (omega arith)

pub one_surveyed : (lists : List (List ℕ)) (standings : List Standing) (s : Standing) (reached : List Bool) (place : ℕ) → place ≡ length standings → IsReach lists place reached → s.is_recursive ≡ is_in reached place
    → ((q : ℕ) → q < place → IsSurveyedBySet lists standings q) → (q : ℕ) → q < place + 1 → IsSurveyedBySet lists (standings ++ s ∷ []) q
one_surveyed lists standings s reached place e is said before q lt =
    elim (cases_lt q place) as (λ z. IsSurveyedBySet lists (standings ++ s ∷ []) q) [
      | inl less ↦ let t = before q less in let within : q < length standings = omega arith in record { reached = t.reached; is = t.is; agrees = said_before standings (s ∷ []) q within ∙ t.agrees }
      | inr le ↦ let same : place ≡ q = omega arith in
          subst (λ (z : ℕ). IsSurveyedBySet lists (standings ++ s ∷ []) z) same (record { reached = reached; is = is; agrees = said_last standings s place e ∙ said })
    ]
