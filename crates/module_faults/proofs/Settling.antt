-- What is known of settled types is what they are.
use Rattle.std.proofs.Common.{◌≡◌, ℕ, zero, suc, ◌+◌, ◌≤◌, Bool, true, false, List, [], ◌∷◌, ◌++◌, length, Option, Some, None, refl, sym, ap, ◌∙◌, arith, inl, inr}
use Rattle.std.specs.Prelude.{◌⊎◌, ◌&&◌, ◌||◌, max, slice_get, slice_set, if◌then◌else◌}
use Rattle.std.specs.List.{list_all}
use Rattle.notation_tokens.specs.declared.token.Located.{Located}
use Rattle.operation_notation.specs.Tree.{TypeTree, type_tree, PlainTree, boolean, null, integer, enumerated, octets, bits, object_id, text, sequence_of, set_of, sequence, set, choice, named, PartTrees, no_parts, part}
use Rattle.operation_notation.specs.declared.module.Assignment.{Assignment}
use Rattle.operation_notation.specs.declared.module.Assigned.{Assigned}
use Rattle.operation_notation.specs.declared.module.Assigned.TheVariants as bodies
use Rattle.operation_notation.specs.declared.module.UseText.{UseText}
use Rattle.module_faults.specs.declared.kind.TableKind.TheVariants as kinds
use Rattle.module_faults.specs.declared.type_facts.Facts.{Facts as FactsGiven}
use Rattle.module_faults.specs.declared.least.Found.{Found}
use Rattle.module_faults.specs.declared.reach_search.Standing.{Standing}
use Rattle.module_faults.specs.declared.tags.Tag.{Tag}
use Rattle.module_faults.specs.Least.{at_name, if_so}
use Rattle.module_faults.specs.Names.{type_at, type_place}
use Rattle.module_faults.specs.Recursion.{listed, parts_uses, plain_uses, type_uses, use_uses, body_uses}
use Rattle.module_faults.specs.Standings.{says}
use Rattle.module_faults.specs.Facts.{other, Facts, deeper, simple, with_tags, clash, tags_behind, default_faults, parts_nesting, parts_tags, plain_facts, tagged, type_facts, parts_show, plain_shows, type_shows, nothing, facts_by, facts_at, name_facts, env_of}
use Rattle.module_faults.specs.Known.{facts_of, known_by, is_known, env_at, known_env, settles, AreKnown}
use Rattle.module_faults.specs.Faults.{use_shows, use_nesting, too_deep, body_shows}

both : (a b : Bool) → (a && b) ≡ true → (a ≡ true) × (b ≡ true)
both true b h = (refl, h)
both false b h = absurd cc

all_split : (t : ℕ → Bool) (xs ys : List ℕ) → list_all t (xs ++ ys) ≡ true → (list_all t xs ≡ true) × (list_all t ys ≡ true)
all_split t [] ys h = (refl, h)
all_split t (x ∷ xs) ys h =
    let k = both (t x) (list_all t (xs ++ ys)) h in
    let m = all_split t xs ys k.1 in
    (ap (λ (b : Bool). b && list_all t xs) k.0 ∙ m.0, m.1)

-- ---- types whose names have the same facts

module _ (t : ℕ → Bool) (u : TypeTree → List ℕ) (i j : TypeTree → Facts) (same : (of : TypeTree) → list_all t (u of) ≡ true → i of ≡ j of) where
  nesting_same : (n : ℕ) (ps : PartTrees) → list_all t (parts_uses u ps) ≡ true → parts_nesting i n ps ≡ parts_nesting j n ps
  nesting_same n no_parts h = refl
  nesting_same n (part name of optional dflt more) h =
      let k = all_split t (u of) (parts_uses u more) h in
      ap (λ (x : Facts). parts_nesting i (max n x.nesting) more) (same of k.0) ∙ nesting_same (max n (j of).nesting) more k.1

  tags_same : (runs : Bool) (before : List Tag) (ps : PartTrees) → list_all t (parts_uses u ps) ≡ true → parts_tags i runs before ps ≡ parts_tags j runs before ps
  tags_same runs before no_parts h = refl
  tags_same runs before (part name of optional dflt more) h =
      let k = all_split t (u of) (parts_uses u more) h in
      ap (λ (x : Facts). parts_tags i runs (tags_behind runs optional dflt (with_tags before x.tags)) more) (same of k.0) ∙ tags_same runs (tags_behind runs optional dflt (with_tags before (j of).tags)) more k.1

  module _ (v w : TypeTree → List Found) (shows : (of : TypeTree) → list_all t (u of) ≡ true → v of ≡ w of) where
    parts_same : (runs : Bool) (before : List Tag) (ps : PartTrees) → list_all t (parts_uses u ps) ≡ true → parts_show i v runs before ps ≡ parts_show j w runs before ps
    parts_same runs before no_parts h = refl
    parts_same runs before (part name of optional dflt more) h =
        let k = all_split t (u of) (parts_uses u more) h in
        ap (λ (x : Facts). (v of ++ (if_so (clash before x.tags) (at_name name kinds.TagsNotDistinct) ++ default_faults x.base dflt)) ++ parts_show i v runs (tags_behind runs optional dflt (with_tags before x.tags)) more) (same of k.0)
        ∙ ap (λ (x : List Found). (x ++ (if_so (clash before (j of).tags) (at_name name kinds.TagsNotDistinct) ++ default_faults (j of).base dflt)) ++ parts_show i v runs (tags_behind runs optional dflt (with_tags before (j of).tags)) more) (shows of k.0)
        ∙ ap (λ (x : List Found). (w of ++ (if_so (clash before (j of).tags) (at_name name kinds.TagsNotDistinct) ++ default_faults (j of).base dflt)) ++ x) (parts_same runs (tags_behind runs optional dflt (with_tags before (j of).tags)) more k.1)

    plain_shows_same : (all : List Assignment) (plain : PlainTree) → list_all t (plain_uses all u plain) ≡ true → plain_shows i v plain ≡ plain_shows j w plain
    plain_shows_same all boolean h = refl
    plain_shows_same all null h = refl
    plain_shows_same all (integer range) h = refl
    plain_shows_same all (enumerated items) h = refl
    plain_shows_same all (octets size) h = refl
    plain_shows_same all bits h = refl
    plain_shows_same all object_id h = refl
    plain_shows_same all (text kind) h = refl
    plain_shows_same all (sequence_of item) h = shows item h
    plain_shows_same all (set_of item) h = shows item h
    plain_shows_same all (sequence ps) h = parts_same true [] ps h
    plain_shows_same all (set ps) h = parts_same false [] ps h
    plain_shows_same all (choice ps) h = parts_same false [] ps h
    plain_shows_same all (named name) h = refl

module _ (all : List Assignment) (t : ℕ → Bool) (e f : List ℕ → Facts) (agree : (name : List ℕ) → list_all t (listed (type_place all name)) ≡ true → e name ≡ f name) where
  plain_same : (u : TypeTree → List ℕ) (i j : TypeTree → Facts) (same : (of : TypeTree) → list_all t (u of) ≡ true → i of ≡ j of) (plain : PlainTree) → list_all t (plain_uses all u plain) ≡ true → plain_facts e i plain ≡ plain_facts f j plain
  plain_same u i j same boolean h = refl
  plain_same u i j same null h = refl
  plain_same u i j same (integer range) h = refl
  plain_same u i j same (enumerated items) h = refl
  plain_same u i j same (octets size) h = refl
  plain_same u i j same bits h = refl
  plain_same u i j same object_id h = refl
  plain_same u i j same (text kind) h = refl
  plain_same u i j same (sequence_of item) h = ap (λ (x : Facts). simple 16 (deeper x.nesting) other) (same item h)
  plain_same u i j same (set_of item) h = ap (λ (x : Facts). simple 17 (deeper x.nesting) other) (same item h)
  plain_same u i j same (sequence ps) h = ap (λ (n : ℕ). simple 16 (deeper n) other) (nesting_same t u i j same 0 ps h)
  plain_same u i j same (set ps) h = ap (λ (n : ℕ). simple 17 (deeper n) other) (nesting_same t u i j same 0 ps h)
  plain_same u i j same (choice ps) h =
      let tag_of : ℕ → List Tag → Facts = λ n tags. record { nesting = deeper n; tags = tags; base = other } in
      ap (λ (n : ℕ). tag_of n (parts_tags i false [] ps)) (nesting_same t u i j same 0 ps h)
      ∙ ap (λ (tags : List Tag). tag_of (parts_nesting j 0 ps) tags) (tags_same t u i j same false [] ps h)
  plain_same u i j same (named name) h = agree name.text h

  pub facts_same : (levels : ℕ) (of : TypeTree) → list_all t (type_uses all levels of) ≡ true → type_facts e levels of ≡ type_facts f levels of
  unfolding type_uses type_facts
  facts_same zero of h = refl
  facts_same (suc levels) (type_tree line column tag plain) h = ap (tagged tag) (plain_same (type_uses all levels) (type_facts e levels) (type_facts f levels) (facts_same levels) plain h)

  pub shows_same : (levels : ℕ) (of : TypeTree) → list_all t (type_uses all levels of) ≡ true → type_shows e levels of ≡ type_shows f levels of
  unfolding type_uses type_shows
  shows_same zero of h = refl
  shows_same (suc levels) (type_tree line column tag plain) h =
      plain_shows_same t (type_uses all levels) (type_facts e levels) (type_facts f levels) (facts_same levels) (type_shows e levels) (type_shows f levels) (shows_same levels) all plain h

  -- ---- what is assigned

  use_same : (o : Option UseText) → list_all t (use_uses all o) ≡ true → (use_shows e o ≡ use_shows f o) × (use_nesting e o ≡ use_nesting f o)
  use_same None h = (refl, refl)
  use_same (Some u) h = (shows_same 256 u.of h, ap (λ (x : Facts). x.nesting) (facts_same 256 u.of h))

  pub body_same : (name : Located) (body : Assigned) → list_all t (body_uses all body) ≡ true → body_shows e name body ≡ body_shows f name body
  body_same name (bodies.Typed of) h =
      ap (λ (x : List Found). x ++ too_deep name (type_facts e 256 of).nesting) (shows_same 256 of h)
      ∙ ap (λ (x : Facts). type_shows f 256 of ++ too_deep name x.nesting) (facts_same 256 of h)
  body_same name (bodies.Operation o) h =
      let k = all_split t (use_uses all o.argument) (use_uses all o.result) h in
      let a = use_same o.argument k.0 in
      let r = use_same o.result k.1 in
      ap (λ (x : List Found). (x ++ use_shows e o.result) ++ too_deep name (max (use_nesting e o.argument) (use_nesting e o.result))) a.0
      ∙ ap (λ (x : List Found). (use_shows f o.argument ++ x) ++ too_deep name (max (use_nesting e o.argument) (use_nesting e o.result))) r.0
      ∙ ap (λ (n : ℕ). (use_shows f o.argument ++ use_shows f o.result) ++ too_deep name (max n (use_nesting e o.result))) a.1
      ∙ ap (λ (n : ℕ). (use_shows f o.argument ++ use_shows f o.result) ++ too_deep name (max (use_nesting f o.argument) n)) r.1
  body_same name (bodies.Error p) h =
      let r = use_same p.parameter h in
      ap (λ (x : List Found). x ++ too_deep name (use_nesting e p.parameter)) r.0
      ∙ ap (λ (n : ℕ). use_shows f p.parameter ++ too_deep name n) r.1

-- ---- what is known

module _ (all : List Assignment) (standings : List Standing) (known : List (Option FactsGiven)) where
  settled_by : (b k : Bool) (x y : Facts) → ((b || k) && true) ≡ true → (k ≡ true → x ≡ y) → (if b then nothing else y) ≡ (if b then nothing else x)
  settled_by true k x y h e = refl
  settled_by false true x y h e = sym (e refl)
  settled_by false false x y h e = absurd cc

  agrees_at : (turns n : ℕ) → AreKnown all standings known turns → turns ≤ n → (o : Option ℕ) → list_all (settles standings known) (listed o) ≡ true → env_at standings known o ≡ facts_at all (says standings) (name_facts all (says standings) n) o
  agrees_at turns n a le None h = refl
  agrees_at turns n a le (Some q) h =
      settled_by (says standings q) (is_known (slice_get known q)) (facts_by (name_facts all (says standings) n) (type_at all q)) (known_by (slice_get known q)) h (λ (k : is_known (slice_get known q) ≡ true). a.so q k n le)

  agrees : (turns n : ℕ) → AreKnown all standings known turns → turns ≤ n → (name : List ℕ) → list_all (settles standings known) (listed (type_place all name)) ≡ true → known_env all standings known name ≡ name_facts all (says standings) (suc n) name
  unfolding name_facts
  agrees turns n a le name h = agrees_at turns n a le (type_place all name) h

  -- over more names the same
  pub known_more : (turns more : ℕ) → turns ≤ more → AreKnown all standings known turns → AreKnown all standings known more
  known_more turns more le a = record { so = λ place k n m. a.so place k n (omega arith) }

  -- where nothing is known
  pub known_none : (turns : ℕ) → ((place : ℕ) → is_known (slice_get known place) ≡ false) → AreKnown all standings known turns
  known_none turns none = record { so = λ place k n m. absurd (apart (is_known (slice_get known place)) k (none place)) }
    where
      apart : (b : Bool) → b ≡ true → b ≡ false → ⊥
      apart true e f = cc
      apart false e f = cc

  -- what is assigned, where all that it names is settled
  pub judged : (name : Located) (body : Assigned) → AreKnown all standings known (length all) → list_all (settles standings known) (body_uses all body) ≡ true → body_shows (known_env all standings known) name body ≡ body_shows (env_of all (says standings)) name body
  judged name body a h =
      let one : suc (length all) ≡ length all + 1 = omega arith in
      body_same all (settles standings known) (known_env all standings known) (name_facts all (says standings) (suc (length all))) (agrees (length all) (length all) a (omega arith)) name body h
      ∙ ap (λ (n : ℕ). body_shows (name_facts all (says standings) n) name body) one

  -- one more type
  fresh : (turns n : ℕ) (of : TypeTree) (f : FactsGiven) → AreKnown all standings known turns → list_all (settles standings known) (type_uses all 256 of) ≡ true → facts_of f ≡ type_facts (known_env all standings known) 256 of
      → turns + 1 ≤ n → type_facts (name_facts all (says standings) n) 256 of ≡ facts_of f
  fresh turns zero of f a h e le = absurd (omega arith)
  fresh turns (suc n) of f a h e le =
      sym (facts_same all (settles standings known) (known_env all standings known) (name_facts all (says standings) (suc n)) (agrees turns n a (omega arith)) 256 of h) ∙ sym e

  set_at : {X : Type 0} (xs : List X) (i : ℕ) (v : X) (k : ℕ) → (slice_get (slice_set xs i v) k ≡ slice_get xs k) ⊎ ((k ≡ i) × (slice_get (slice_set xs i v) k ≡ Some v))
  set_at [] i v k = inl refl
  set_at (x ∷ xs) zero v zero = inr (refl, refl)
  set_at (x ∷ xs) zero v (suc k) = inl refl
  set_at (x ∷ xs) (suc i) v zero = inl refl
  set_at (x ∷ xs) (suc i) v (suc k) = elim (set_at xs i v k) as (λ z. (slice_get (slice_set xs i v) k ≡ slice_get xs k) ⊎ ((suc k ≡ suc i) × (slice_get (slice_set xs i v) k ≡ Some v))) [ inl e ↦ inl e | inr p ↦ inr (ap suc p.0, p.1) ]

  pub learned : (turns place : ℕ) (of : TypeTree) (f : FactsGiven) → AreKnown all standings known turns → type_at all place ≡ Some of → list_all (settles standings known) (type_uses all 256 of) ≡ true → facts_of f ≡ type_facts (known_env all standings known) 256 of
      → AreKnown all standings (slice_set known place (Some f)) (turns + 1)
  learned turns place of f a here h e = record { so = λ q k n le. known_q q k n le (set_at known place (Some f) q) }
    where
      known_q : (q : ℕ) → is_known (slice_get (slice_set known place (Some f)) q) ≡ true → (n : ℕ) → turns + 1 ≤ n
          → ((slice_get (slice_set known place (Some f)) q ≡ slice_get known q) ⊎ ((q ≡ place) × (slice_get (slice_set known place (Some f)) q ≡ Some (Some f))))
          → facts_by (name_facts all (says standings) n) (type_at all q) ≡ known_by (slice_get (slice_set known place (Some f)) q)
      known_q q k n le (inl same) = a.so q (ap is_known (sym same) ∙ k) n (omega arith) ∙ sym (ap known_by same)
      known_q q k n le (inr p) =
          ap (λ (z : ℕ). facts_by (name_facts all (says standings) n) (type_at all z)) p.0
          ∙ ap (facts_by (name_facts all (says standings) n)) here
          ∙ fresh turns n of f a h e le
          ∙ sym (ap known_by p.1)
