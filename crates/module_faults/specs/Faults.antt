-- The faults of a module that reads, and the least of them.
use Rattle.std.specs.Prelude.{◌≡◌, ℕ, ◌+◌, Bool, true, false, max, List, [], ◌∷◌, ◌++◌, Option, None, Some, if◌then◌else◌}
use Rattle.osi_base.specs.Limits.{most_type_levels}
use Rattle.notation_tokens.specs.declared.token.Located.{Located}
use Rattle.operation_notation.specs.declared.module.Assignment.{Assignment}
use Rattle.operation_notation.specs.declared.module.Assigned.{Assigned}
use Rattle.operation_notation.specs.declared.module.Assigned.TheVariants as bodies
use Rattle.operation_notation.specs.declared.module.UseText.{UseText}
use Rattle.module_faults.specs.declared.kind.TableKind.TheVariants as kinds
use Rattle.module_faults.specs.declared.least.Found.{Found}
use Rattle.module_faults.specs.Least.{at_name, if_so, least}
use Rattle.module_faults.specs.Met.{no_codes}
use Rattle.module_faults.specs.Locals.{bodies_faults, double_names, double_codes}
use Rattle.module_faults.specs.Recursion.{SaysRecursion}
use Rattle.module_faults.specs.Facts.{Facts, is_too_deep, type_facts, type_shows, env_of}

-- ---- types as a whole

abbrev pub use_shows : (List ℕ → Facts) → Option UseText → List Found
use_shows env None = []
use_shows env (Some u) = type_shows env most_type_levels u.of

abbrev pub use_nesting : (List ℕ → Facts) → Option UseText → ℕ
use_nesting env None = 0
use_nesting env (Some u) = (type_facts env most_type_levels u.of).nesting

abbrev pub too_deep : Located → ℕ → List Found
too_deep name nesting = if_so (is_too_deep nesting) (at_name name kinds.TooNested)

abbrev pub body_shows : (List ℕ → Facts) → Located → Assigned → List Found
body_shows env name (bodies.Typed of) = type_shows env most_type_levels of ++ too_deep name (type_facts env most_type_levels of).nesting
body_shows env name (bodies.Operation operation) =
    (use_shows env operation.argument ++ use_shows env operation.result)
    ++ too_deep name (max (use_nesting env operation.argument) (use_nesting env operation.result))
body_shows env name (bodies.Error error) = use_shows env error.parameter ++ too_deep name (use_nesting env error.parameter)

abbrev pub bodies_show : (List ℕ → Facts) → List Assignment → List Found
bodies_show env [] = []
bodies_show env (a ∷ more) = body_shows env a.name a.body ++ bodies_show env more

-- ---- recursion

-- the first assignment, from a place on, of those that are said to reach themselves
abbrev pub first_recursive : (ℕ → Bool) → ℕ → List Assignment → List Found
first_recursive recursive place [] = []
first_recursive recursive place (a ∷ more) = if recursive place then at_name a.name kinds.Recursive ∷ [] else first_recursive recursive (place + 1) more

-- ---- the whole of it

-- the faults of a module's assignments, of which this test says which reach themselves
abbrev pub faults_by : List Assignment → (ℕ → Bool) → List Found
faults_by all recursive =
    double_names all 0 all
    ++ (bodies_faults all all
    ++ (double_codes false no_codes all
    ++ (double_codes true no_codes all
    ++ (first_recursive recursive 0 all ++ bodies_show (env_of all recursive) all))))

-- The least fault of a module with these assignments, by line, column and the order of kinds; or none, if it has no fault.
pub record IsLeastFault (all : List Assignment) (found : Option Found) : Type 0 where
  pub recursive : ℕ → Bool
  pub says : SaysRecursion all recursive
  pub is : found ≡ least (faults_by all recursive)
