-- Which types name which, and which of them reach themselves.
use Rattle.std.specs.Prelude.{◌≡◌, ℕ, zero, suc, nat_eq, Bool, true, List, [], ◌∷◌, ◌++◌, Option, None, Some, slice_get}
use Rattle.std.specs.List.{list_any}
use Rattle.osi_base.specs.Limits.{most_type_levels}
use Rattle.operation_notation.specs.Tree.{TypeTree, type_tree, PlainTree, sequence_of, set_of, sequence, set, choice, named, PartTrees, no_parts, part}
use Rattle.operation_notation.specs.declared.module.Assignment.{Assignment}
use Rattle.operation_notation.specs.declared.module.Assigned.{Assigned}
use Rattle.operation_notation.specs.declared.module.Assigned.TheVariants as bodies
use Rattle.operation_notation.specs.declared.module.UseText.{UseText}
use Rattle.module_faults.specs.Names.{type_place}

-- ---- the places of the types that a type names

abbrev pub listed : Option ℕ → List ℕ
listed None = []
listed (Some place) = place ∷ []

abbrev pub parts_uses : (TypeTree → List ℕ) → PartTrees → List ℕ
parts_uses inner no_parts = []
parts_uses inner (part name of optional dflt more) = inner of ++ parts_uses inner more

abbrev pub plain_uses : List Assignment → (TypeTree → List ℕ) → PlainTree → List ℕ
plain_uses all inner (sequence_of item) = inner item
plain_uses all inner (set_of item) = inner item
plain_uses all inner (sequence ps) = parts_uses inner ps
plain_uses all inner (set ps) = parts_uses inner ps
plain_uses all inner (choice ps) = parts_uses inner ps
plain_uses all inner (named name) = listed (type_place all name.text)
plain_uses all inner plain = []

abbrev pub uses_over : List Assignment → (TypeTree → List ℕ) → TypeTree → List ℕ
uses_over all inner (type_tree line column tag plain) = plain_uses all inner plain

-- those in a type, at most so many levels deep
unfoldable pub type_uses : List Assignment → ℕ → TypeTree → List ℕ
type_uses all zero of = []
type_uses all (suc levels) of = uses_over all (type_uses all levels) of

abbrev pub use_uses : List Assignment → Option UseText → List ℕ
use_uses all None = []
use_uses all (Some u) = type_uses all most_type_levels u.of

-- those in what is assigned; LINKED and ERRORS don't count
abbrev pub body_uses : List Assignment → Assigned → List ℕ
body_uses all (bodies.Typed of) = type_uses all most_type_levels of
body_uses all (bodies.Operation operation) = use_uses all operation.argument ++ use_uses all operation.result
body_uses all (bodies.Error error) = use_uses all error.parameter

abbrev pub bodies_uses : List Assignment → List Assignment → List (List ℕ)
bodies_uses all [] = []
bodies_uses all (a ∷ more) = body_uses all a.body ∷ bodies_uses all more

abbrev pub list_by : Option (List ℕ) → List ℕ
list_by None = []
list_by (Some list) = list

abbrev pub list_at : List (List ℕ) → ℕ → List ℕ
list_at lists place = list_by (slice_get lists place)

-- what is assigned at a place names the type at another
abbrev pub Uses : List (List ℕ) → ℕ → ℕ → Type 0
Uses lists from to = list_any (nat_eq to) (list_at lists from) ≡ true

-- what is assigned at a place reaches the type at another by names used as types
pub data Reaches (lists : List (List ℕ)) : ℕ → ℕ → Type 0 where
  at_once : (from to : ℕ) → Uses lists from to → Reaches lists from to
  over : (from next to : ℕ) → Uses lists from next → Reaches lists next to → Reaches lists from to

-- a test of places says which types reach themselves
pub record SaysRecursion (all : List Assignment) (test : ℕ → Bool) : Type 0 where
  pub sound : (place : ℕ) → test place ≡ true → Reaches (bodies_uses all all) place place
  pub whole : (place : ℕ) → Reaches (bodies_uses all all) place place → test place ≡ true
