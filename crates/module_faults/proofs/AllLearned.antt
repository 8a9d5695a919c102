-- All types that don't reach themselves are learned.
use Rattle.std.proofs.Common.{◌≡◌, ℕ, zero, suc, ◌+◌, ◌<◌, Bool, true, false, List, [], ◌∷◌, ◌++◌, length, replicate, Option, Some, None, refl, sym, ap, ◌∙◌, arith}
use Rattle.std.specs.Prelude.{◌&&◌, ◌||◌, is_some, nat_eq, slice_get, slice_set, if◌then◌else◌}
use Rattle.std.specs.List.{list_any, list_all}
use Rattle.std.proofs.lemmas.Bool.{eq-eqb}
use Rattle.operation_notation.specs.Tree.{TypeTree, type_tree, PlainTree, boolean, null, integer, enumerated, octets, bits, object_id, text, sequence_of, set_of, sequence, set, choice, named, PartTrees, no_parts, part}
use Rattle.operation_notation.specs.declared.module.Assignment.{Assignment}
use Rattle.operation_notation.specs.declared.module.Assigned.{Assigned}
use Rattle.operation_notation.specs.declared.module.Assigned.TheVariants as bodies
use Rattle.operation_notation.specs.declared.module.UseText.{UseText}
use Rattle.module_faults.specs.declared.type_facts.Facts.{Facts as FactsGiven}
use Rattle.module_faults.specs.declared.reach_search.Standing.{Standing}
use Rattle.module_faults.specs.Names.{or_none, find, typed, type_at}
use Rattle.module_faults.specs.Recursion.{listed, parts_uses, plain_uses, type_uses, use_uses, body_uses, bodies_uses, list_at, Uses}
use Rattle.module_faults.specs.Standings.{says}
use Rattle.module_faults.specs.ReachSets.{IsRightSurvey}
use Rattle.module_faults.specs.Facts.{type_facts}
use Rattle.module_faults.specs.Known.{facts_of, is_known, known_env, settles, AreKnown, unknowns, AreLearned, ready_by, ready, AreAllLearned, is_type, AreSettled}
use Rattle.module_faults.proofs.Recursing.{both, all_any, right}
use Rattle.module_faults.proofs.Settling.{known_none, known_more, learned}

-- ---- tests

all_join : (t : ℕ → Bool) (xs ys : List ℕ) → list_all t xs ≡ true → list_all t ys ≡ true → list_all t (xs ++ ys) ≡ true
all_join t [] ys h k = k
all_join t (x ∷ xs) ys h k =
    let p = both (t x) (list_all t xs) h in
    ap (λ (b : Bool). b && list_all t (xs ++ ys)) p.0 ∙ all_join t xs ys p.1 k

all_where : (t u : ℕ → Bool) → ((q : ℕ) → t q ≡ true → u q ≡ true) → (xs : List ℕ) → list_all t xs ≡ true → list_all u xs ≡ true
all_where t u f [] h = refl
all_where t u f (x ∷ xs) h =
    let p = both (t x) (list_all t xs) h in
    ap (λ (b : Bool). b && list_all u xs) (f x p.0) ∙ all_where t u f xs p.1

-- one of a list that doesn't pass
record Failing (t : ℕ → Bool) (xs : List ℕ) : Type 0 where
  q : ℕ
  is_there : list_any (nat_eq q) xs ≡ true
  fails : t q ≡ false

failing : (t : ℕ → Bool) (xs : List ℕ) → list_all t xs ≡ false → Failing t xs
failing t [] h = absurd cc
failing t (x ∷ xs) h = by (t x) refl h (failing t xs)
  where
    by : (b : Bool) → t x ≡ b → (t x && list_all t xs) ≡ false → (list_all t xs ≡ false → Failing t xs) → Failing t (x ∷ xs)
    by false e h more = record { q = x; is_there = ap (λ (b : Bool). b || list_any (nat_eq x) xs) (eq-eqb x x refl); fails = e }
    by true e h more =
        let r = more (sym (ap (λ (b : Bool). b && list_all t xs) e) ∙ h) in
        record { q = r.q; is_there = right (nat_eq r.q x) (list_any (nat_eq r.q) xs) r.is_there; fails = r.fails }

-- ---- the places that types name are those of types

module _ (all : List Assignment) where
  name_typed : (o : Option ℕ) → list_all (is_type all) (listed (or_none o (λ place. or_none (type_at all place) (λ of. Some place)))) ≡ true
  name_typed None = refl
  name_typed (Some place) = by (type_at all place) refl
    where
      by : (o : Option TypeTree) → type_at all place ≡ o → list_all (is_type all) (listed (or_none o (λ of. Some place))) ≡ true
      by None e = refl
      by (Some of) e = ap (λ (o : Option TypeTree). is_some o && true) e

  parts_typed : (u : TypeTree → List ℕ) → ((of : TypeTree) → list_all (is_type all) (u of) ≡ true) → (ps : PartTrees) → list_all (is_type all) (parts_uses u ps) ≡ true
  parts_typed u inner no_parts = refl
  parts_typed u inner (part name of optional dflt more) = all_join (is_type all) (u of) (parts_uses u more) (inner of) (parts_typed u inner more)

  plain_typed : (u : TypeTree → List ℕ) → ((of : TypeTree) → list_all (is_type all) (u of) ≡ true) → (plain : PlainTree) → list_all (is_type all) (plain_uses all u plain) ≡ true
  plain_typed u inner boolean = refl
  plain_typed u inner null = refl
  plain_typed u inner (integer range) = refl
  plain_typed u inner (enumerated items) = refl
  plain_typed u inner (octets size) = refl
  plain_typed u inner bits = refl
  plain_typed u inner object_id = refl
  plain_typed u inner (text kind) = refl
  plain_typed u inner (sequence_of item) = inner item
  plain_typed u inner (set_of item) = inner item
  plain_typed u inner (sequence ps) = parts_typed u inner ps
  plain_typed u inner (set ps) = parts_typed u inner ps
  plain_typed u inner (choice ps) = parts_typed u inner ps
  plain_typed u inner (named name) = name_typed (find all name.text)

  pub uses_typed : (levels : ℕ) (of : TypeTree) → list_all (is_type all) (type_uses all levels of) ≡ true
  unfolding type_uses
  uses_typed zero of = refl
  uses_typed (suc levels) (type_tree line column tag plain) = plain_typed (type_uses all levels) (uses_typed levels) plain

  use_typed : (o : Option UseText) → list_all (is_type all) (use_uses all o) ≡ true
  use_typed None = refl
  use_typed (Some u) = uses_typed 256 u.of

  body_typed : (body : Assigned) → list_all (is_type all) (body_uses all body) ≡ true
  body_typed (bodies.Typed of) = uses_typed 256 of
  body_typed (bodies.Operation o) = all_join (is_type all) (use_uses all o.argument) (use_uses all o.result) (use_typed o.argument) (use_typed o.result)
  body_typed (bodies.Error p) = use_typed p.parameter

  -- all that is named is settled, where all types are
  pub body_settled : (standings : List Standing) (known : List (Option FactsGiven)) → AreSettled all standings known → (body : Assigned) → list_all (settles standings known) (body_uses all body) ≡ true
  body_settled standings known settled body = all_where (is_type all) (settles standings known) settled.all_are (body_uses all body) (body_typed body)

  -- what a type names is what its assignment does
  uses_at : (more : List Assignment) (place : ℕ) (of : TypeTree) → type_at more place ≡ Some of → list_at (bodies_uses all more) place ≡ type_uses all 256 of
  uses_at [] place of h = absurd cc
  uses_at (a ∷ more) zero of h = by a.body h
    where
      by : (body : Assigned) → typed body ≡ Some of → body_uses all body ≡ type_uses all 256 of
      by (bodies.Typed own) e = let same : own ≡ of = cc in ap (type_uses all 256) same
      by (bodies.Operation o) e = absurd cc
      by (bodies.Error p) e = absurd cc
  uses_at (a ∷ more) (suc place) of h = uses_at more place of h

  type_within : (more : List Assignment) (place : ℕ) (of : TypeTree) → type_at more place ≡ Some of → place < length more
  type_within [] place of h = absurd cc
  type_within (a ∷ more) zero of h = omega arith
  type_within (a ∷ more) (suc place) of h = let r : place < length more = type_within more place of h in omega arith

-- ---- one more is learned

fewer : (known : List (Option FactsGiven)) (place : ℕ) (f : FactsGiven) → place < length known → is_known (slice_get known place) ≡ false → suc (unknowns (slice_set known place (Some f))) ≡ unknowns known
fewer [] place f lt h = absurd (omega arith)
fewer (None ∷ known) zero f lt h = refl
fewer (Some g ∷ known) zero f lt h = absurd cc
fewer (None ∷ known) (suc place) f lt h = ap suc (fewer known place f (omega arith) h)
fewer (Some g ∷ known) (suc place) f lt h = fewer known place f (omega arith) h

set_length : (known : List (Option FactsGiven)) (place : ℕ) (v : Option FactsGiven) → length (slice_set known place v) ≡ length known
set_length [] place v = refl
set_length (x ∷ known) zero v = refl
set_length (x ∷ known) (suc place) v = ap suc (set_length known place v)

-- nothing is known of so many types
abbrev pub unlearned : ℕ → List (Option FactsGiven)
unlearned n = replicate n None

none_known : (n place : ℕ) → is_known (slice_get (unlearned n) place) ≡ false
none_known zero place = refl
none_known (suc n) zero = refl
none_known (suc n) (suc place) = none_known n place

none_counted : (n : ℕ) → unknowns (unlearned n) ≡ n
none_counted zero = refl
none_counted (suc n) = ap suc (none_counted n)

none_long : (n : ℕ) → length (unlearned n) ≡ n
none_long zero = refl
none_long (suc n) = ap suc (none_long n)

neither : (a b : Bool) → (a || b) ≡ false → (a ≡ false) × (b ≡ false)
neither true b h = absurd cc
neither false b h = (refl, h)

module _ (all : List Assignment) (standings : List Standing) (known : List (Option FactsGiven)) where
  record Ready (place : ℕ) (of : TypeTree) : Type 0 where
    here : type_at all place ≡ Some of
    unsettled : settles standings known place ≡ false
    uses : list_all (settles standings known) (type_uses all 256 of) ≡ true

  ready_parts : (place : ℕ) (of : TypeTree) → ready all standings known place ≡ Some of → Ready place of
  ready_parts place of h = by_type (type_at all place) refl h
    where
      by_uses : (own : TypeTree) (b : Bool) → type_at all place ≡ Some own → settles standings known place ≡ false → list_all (settles standings known) (type_uses all 256 own) ≡ b → (if b then Some own else None) ≡ Some of → Ready place of
      by_uses own true e s u h = let same : own ≡ of = cc in record { here = e ∙ ap Some same; unsettled = s; uses = ap (λ (z : TypeTree). list_all (settles standings known) (type_uses all 256 z)) (sym same) ∙ u }
      by_uses own false e s u h = absurd cc

      by_settled : (own : TypeTree) (b : Bool) → type_at all place ≡ Some own → settles standings known place ≡ b → (if b then None else (if list_all (settles standings known) (type_uses all 256 own) then Some own else None)) ≡ Some of → Ready place of
      by_settled own true e s h = absurd cc
      by_settled own false e s h = by_uses own (list_all (settles standings known) (type_uses all 256 own)) e s refl h

      by_type : (o : Option TypeTree) → type_at all place ≡ o → ready_by all standings known place o ≡ Some of → Ready place of
      by_type None e h = absurd cc
      by_type (Some own) e h = by_settled own (settles standings known place) e refl h

  pub none_learned : known ≡ unlearned (length all) → AreLearned all standings known
  none_learned e = let counted : unknowns known ≡ length all = ap unknowns e ∙ none_counted (length all) in record {
    turns = 0;
    are = known_none all standings known 0 (λ place. ap (λ (z : List (Option FactsGiven)). is_known (slice_get z place)) e ∙ none_known (length all) place);
    count = omega arith;
    long = ap length e ∙ none_long (length all);
  }

  pub record Learns (after : List (Option FactsGiven)) : Type 0 where
    pub are : AreLearned all standings after
    pub fewer : unknowns after < unknowns known

  pub one_learned : (place : ℕ) (of : TypeTree) (f : FactsGiven) → AreLearned all standings known → ready all standings known place ≡ Some of → facts_of f ≡ type_facts (known_env all standings known) 256 of → Learns (slice_set known place (Some f))
  one_learned place of f a h e =
      let r = ready_parts place of h in
      let lt : place < length known = let w : place < length all = type_within all all place of r.here in let l : length known ≡ length all = a.long in omega arith in
      let n = neither (says standings place) (is_known (slice_get known place)) r.unsettled in
      let one : suc (unknowns (slice_set known place (Some f))) ≡ unknowns known = fewer known place f lt n.1 in
      let whole : a.turns + unknowns known ≡ length all = a.count in
      record {
        are = record {
          turns = a.turns + 1;
          are = learned all standings known a.turns place of f a.are r.here r.uses e;
          count = omega arith;
          long = set_length known place (Some f) ∙ a.long;
        };
        fewer = omega arith;
      }

  pub learned_known : AreLearned all standings known → AreKnown all standings known (length all)
  learned_known a = let whole : a.turns + unknowns known ≡ length all = a.count in known_more all standings known a.turns (length all) (omega arith) a.are

  -- ---- where nothing more can be learned all is settled

  module _ (survey : IsRightSurvey (bodies_uses all all) standings) (done : AreAllLearned all standings known) where
    named_unsettled : (place : ℕ) (of : TypeTree) → type_at all place ≡ Some of → settles standings known place ≡ false → Failing (settles standings known) (type_uses all 256 of)
    named_unsettled place of here s = failing (settles standings known) (type_uses all 256 of) (by (list_all (settles standings known) (type_uses all 256 of)) (sym none ∙ done place (type_within all all place of here)))
      where
        none : ready all standings known place ≡ (if list_all (settles standings known) (type_uses all 256 of) then Some of else None)
        none = ap (ready_by all standings known place) here ∙ ap (λ (b : Bool). if b then None else (if list_all (settles standings known) (type_uses all 256 of) then Some of else None)) s

        by : (b : Bool) → (if b then Some of else None) ≡ None → b ≡ false
        by true e = absurd cc
        by false e = refl

    settled_in : (turns place : ℕ) → survey.depth place < turns → is_type all place ≡ true → settles standings known place ≡ true
    settled_in zero place lt t = absurd (omega arith)
    settled_in (suc turns) place lt t = by (settles standings known place) (type_at all place) refl refl t (settled_in turns)
      where
        apart : (b : Bool) → b ≡ true → b ≡ false → ⊥
        apart true e f = cc
        apart false e f = cc

        by : (b : Bool) (o : Option TypeTree) → settles standings known place ≡ b → type_at all place ≡ o → is_some o ≡ true → ((q : ℕ) → survey.depth q < turns → is_type all q ≡ true → settles standings known q ≡ true) → b ≡ true
        by true o s here t more = refl
        by false None s here t more = absurd cc
        by false (Some of) s here t more =
            let f = named_unsettled place of here s in
            let u : Uses (bodies_uses all all) place f.q = ap (list_any (nat_eq f.q)) (uses_at all all place of here) ∙ f.is_there in
            let p = neither (says standings place) (is_known (slice_get known place)) s in
            let q = neither (says standings f.q) (is_known (slice_get known f.q)) f.fails in
            let falls : survey.depth f.q < survey.depth place = survey.falls place f.q u p.0 q.0 in
            let small : survey.depth f.q < turns = omega arith in
            absurd (apart (settles standings known f.q) (more f.q small (all_any (is_type all) f.q (type_uses all 256 of) (uses_typed all 256 of) f.is_there)) f.fails)

    pub all_settled : AreSettled all standings known
    all_settled = record { all_are = λ place t. settled_in (suc (survey.depth place)) place (omega arith) t }
