-- A module without a fault: its types, and what stands behind its aliases.
use Rattle.std.proofs.Common.{◌≡◌, ℕ, zero, suc, ◌+◌, ◌≤◌, Bool, false, List, [], ◌∷◌, length, Option, None, Some, refl, sym, ap, ◌∙◌, arith}
use Rattle.std.specs.Prelude.{◌||◌, not, nat_eq, is_some}
use Rattle.std.specs.List.{list_any}
use Rattle.std.proofs.lemmas.Bool.{eq-eqb}
use Rattle.notation_tokens.specs.declared.token.Located.{Located}
use Rattle.operation_notation.specs.Tree.{TypeTree, type_tree, PlainTree, named}
use Rattle.operation_notation.specs.WellFormed.{IsWellType}
use Rattle.operation_notation.specs.declared.module.Assignment.{Assignment}
use Rattle.module_faults.specs.declared.kind.TableKind.TheVariants as kinds
use Rattle.module_faults.specs.Least.{at_name, if_so}
use Rattle.module_faults.specs.Names.{or_none, find, type_at, type_place}
use Rattle.module_faults.specs.Locals.{name_faults, type_faults}
use Rattle.module_faults.specs.Recursion.{listed, type_uses, bodies_uses, Uses, SaysRecursion}
use Rattle.module_faults.specs.Facts.{Facts, type_facts, type_shows, env_of}
use Rattle.module_faults.specs.Faults.{first_recursive}
use Rattle.module_compiler.specs.Scope.{alias, beyond, behind_by, behind}
use Rattle.module_compiler.proofs.Aliases.{behind_step}
use Rattle.module_compiler.proofs.Trails.{Trail, trail_start, trail_step, trail_short, IsTyped, place_typed, typed_below, uses_at, never, env_is}

-- a type in which there is no fault, and none by what is known of its names
pub record IsFine (all : List Assignment) (env : List ℕ → Facts) (levels : ℕ) (of : TypeTree) : Type 0 where
  pub faults : type_faults all levels of ≡ []
  pub shows : type_shows env levels of ≡ []
  pub well : IsWellType of
  pub nests : (type_facts env levels of).nesting ≤ 32

-- no type reaches itself, and all types that are assigned are without a fault
pub record AreFine (all : List Assignment) (recursive : ℕ → Bool) : Type 0 where
  pub says : SaysRecursion all recursive
  pub none : first_recursive recursive 0 all ≡ []
  pub fine : (q : ℕ) (of : TypeTree) → type_at all q ≡ Some of → IsFine all (env_of all recursive) 256 of

-- ---- aliases

pub data AliasOrNot : TypeTree → Type 0 where
  is_alias : (line column : ℕ) (name : Located) → AliasOrNot (type_tree line column None (named name))
  no_alias : (of : TypeTree) → alias of ≡ None → AliasOrNot of

pub alias_or_not : (of : TypeTree) → AliasOrNot of
alias_or_not (type_tree line column (Some tag) plain) = no_alias (type_tree line column (Some tag) plain) refl
alias_or_not (type_tree line column None (named name)) = is_alias line column name
alias_or_not (type_tree line column None plain) = no_alias (type_tree line column None plain) refl

-- 1 of a Name
abbrev pub slack : PlainTree → ℕ
slack (named name) = 1
slack plain = 0

-- 1 of an alias
abbrev pub alias_slack : TypeTree → ℕ
alias_slack (type_tree line column None plain) = slack plain
alias_slack (type_tree line column (Some tag) plain) = 0

pub no_slack : (of : TypeTree) → alias of ≡ None → alias_slack of ≡ 0
no_slack (type_tree line column (Some tag) plain) e = refl
no_slack (type_tree line column None (named name)) e = absurd cc
no_slack (type_tree line column None plain) e = refl

pub slack_small : (plain : PlainTree) → slack plain ≤ 1
slack_small (named name) = omega arith
slack_small plain = omega arith

pub alias_slack_small : (of : TypeTree) → alias_slack of ≤ 1
alias_slack_small (type_tree line column None plain) = slack_small plain
alias_slack_small (type_tree line column (Some tag) plain) = omega arith

-- a Name without a fault is assigned a type
pub name_known : (all : List Assignment) (name : Located) → name_faults all name ≡ [] → (q : ℕ) × (type_place all name.text ≡ Some q)
name_known all name e = go (type_place all name.text) refl e
  where
    go : (o : Option ℕ) → type_place all name.text ≡ o → if_so (not (is_some o)) (at_name name kinds.UnknownName) ≡ [] → (q : ℕ) × (type_place all name.text ≡ Some q)
    go None t h = absurd cc
    go (Some q) t h = (q, t)

alias_faults : (all : List Assignment) (levels line column : ℕ) (name : Located) → type_faults all (suc levels) (type_tree line column None (named name)) ≡ name_faults all name
unfolding type_faults
alias_faults all levels line column name = refl

alias_facts : (env : List ℕ → Facts) (levels line column : ℕ) (name : Located) → type_facts env (suc levels) (type_tree line column None (named name)) ≡ env name.text
unfolding type_facts
alias_facts env levels line column name = refl

alias_uses : (all : List Assignment) (levels line column : ℕ) (name : Located) → type_uses all (suc levels) (type_tree line column None (named name)) ≡ listed (type_place all name.text)
unfolding type_uses
alias_uses all levels line column name = refl

behind_here : (all : List Assignment) (k p : ℕ) (of : TypeTree) → type_at all p ≡ Some of → alias of ≡ None → behind_by all (suc k) p ≡ Some p
unfolding behind_by
behind_here all k p of at e =
    ap (λ (o : Option TypeTree). or_none o (λ t. beyond all (behind_by all k) p t (alias t))) at
    ∙ ap (λ (n : Option (List ℕ)). beyond all (behind_by all k) p of n) e

-- a type that is no alias stands behind a place, over at most so many aliases; and has these facts
pub record StandsBehind (all : List Assignment) (env : List ℕ → Facts) (k p : ℕ) (facts : Facts) : Type 0 where
  pub place : ℕ
  pub of : TypeTree
  pub found : behind_by all k p ≡ Some place
  pub at : type_at all place ≡ Some of
  pub plain : alias of ≡ None
  pub same : type_facts env 256 of ≡ facts

module _ (all : List Assignment) (recursive : ℕ → Bool) (fine : AreFine all recursive) where
  abbrev env : List ℕ → Facts
  env = env_of all recursive

  used_at : (p q line column : ℕ) (name : Located) → type_at all p ≡ Some (type_tree line column None (named name)) → type_place all name.text ≡ Some q → Uses (bodies_uses all all) p q
  used_at p q line column name at e =
      ap (list_any (nat_eq q)) (uses_at all all p (type_tree line column None (named name)) at ∙ alias_uses all 255 line column name ∙ ap listed e)
      ∙ ap (λ (b : Bool). b || false) (eq-eqb q q refl)

  stands_behind : (k : ℕ) (seen : List ℕ) (p : ℕ) → Trail (bodies_uses all all) (length all) seen p → length all ≤ length seen + k → (of : TypeTree) → type_at all p ≡ Some of → StandsBehind all env k p (type_facts env 256 of)
  stands_behind zero seen p t enough of at = let short = trail_short (bodies_uses all all) (length all) seen p t in absurd (omega arith)
  stands_behind (suc k) seen p t enough of at = by_sort (λ q next u e. stands_behind k (p ∷ seen) q next (omega arith) u e) of (alias_or_not of) at
    where
      over_alias : ((q : ℕ) → Trail (bodies_uses all all) (length all) (p ∷ seen) q → (u : TypeTree) → type_at all q ≡ Some u → StandsBehind all env k q (type_facts env 256 u)) → (line column : ℕ) (name : Located) → type_at all p ≡ Some (type_tree line column None (named name)) → StandsBehind all env (suc k) p (type_facts env 256 (type_tree line column None (named name)))
      over_alias more line column name here =
          let faults : name_faults all name ≡ [] = sym (alias_faults all 255 line column name) ∙ (fine.fine p (type_tree line column None (named name)) here).faults in
          let known = name_known all name faults in
          let q : ℕ = known.0 in
          let n = place_typed all name.text q known.1 in
          let lt = typed_below all q n.of n.at in
          let next = trail_step (bodies_uses all all) (length all) seen p q t (used_at p q line column name here known.1) lt (never all recursive fine.says fine.none q lt) in
          let b = more q next n.of n.at in
          let one : or_none (or_none (type_at all p) alias) (find all) ≡ Some q = ap (λ (o : Option TypeTree). or_none (or_none o alias) (find all)) here ∙ n.found in
          record {
            place = b.place;
            of = b.of;
            found = behind_step all k p q one ∙ b.found;
            at = b.at;
            plain = b.plain;
            same = b.same ∙ sym (env_is all recursive fine.says fine.none name.text q n.of known.1 n.at) ∙ sym (alias_facts env 255 line column name);
          }

      by_sort : ((q : ℕ) → Trail (bodies_uses all all) (length all) (p ∷ seen) q → (u : TypeTree) → type_at all q ≡ Some u → StandsBehind all env k q (type_facts env 256 u)) → (t : TypeTree) → AliasOrNot t → type_at all p ≡ Some t → StandsBehind all env (suc k) p (type_facts env 256 t)
      by_sort more _ (is_alias line column name) here = over_alias more line column name here
      by_sort more t (no_alias _ e) here = record { place = p; of = t; found = behind_here all k p t here e; at = here; plain = e; same = refl }

  -- what stands behind the type of a place
  pub stands : (p : ℕ) (of : TypeTree) → type_at all p ≡ Some of → StandsBehind all env (length all) p (type_facts env 256 of)
  stands p of at = stands_behind (length all) [] p (trail_start (bodies_uses all all) (length all) p (typed_below all p of at)) (omega arith) of at

  pub behind_is : (p : ℕ) (facts : Facts) (b : StandsBehind all env (length all) p facts) → behind all p ≡ Some b.place
  unfolding behind
  behind_is p facts b = b.found

  -- the facts of a Name are those of what stands behind it
  pub name_stands : (name : Located) (q : ℕ) (n : IsTyped all name.text q) → type_place all name.text ≡ Some q → StandsBehind all env (length all) q (env name.text)
  name_stands name q n e =
      let b = stands q n.of n.at in
      record { place = b.place; of = b.of; found = b.found; at = b.at; plain = b.plain; same = b.same ∙ sym (env_is all recursive fine.says fine.none name.text q n.of e n.at) }
