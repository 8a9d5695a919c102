-- The least of all faults of a module.
use Rattle.std.proofs.Common.{◌≡◌, ℕ, List, ◌++◌, Option, None, subst, ap, ◌∙◌}
use Rattle.operation_notation.specs.declared.module.Assignment.{Assignment}
use Rattle.module_faults.specs.declared.least.Found.{Found}
use Rattle.module_faults.specs.declared.reach_search.Standing.{Standing}
use Rattle.module_faults.specs.Least.{least_from}
use Rattle.module_faults.specs.Met.{no_codes}
use Rattle.module_faults.specs.Locals.{bodies_faults, double_names, double_codes}
use Rattle.module_faults.specs.Recursion.{bodies_uses}
use Rattle.module_faults.specs.Standings.{says}
use Rattle.module_faults.specs.ReachSets.{IsRightSurvey}
use Rattle.module_faults.specs.Facts.{env_of}
use Rattle.module_faults.specs.Faults.{bodies_show, first_recursive, IsLeastFault}
use Rattle.module_faults.proofs.LeastLaws.{least_two}
use Rattle.module_faults.proofs.Recursing.{says_recursion}
use Rattle.std.specs.Prelude.{true, false}

-- the faults of each pass, one behind the other
pub record Passes (all : List Assignment) (standings : List Standing) (a b c d e f g : Option Found) : Type 0 where
  pub none : a ≡ None
  pub names : b ≡ least_from a (double_names all 0 all)
  pub bodies : c ≡ least_from b (bodies_faults all all)
  pub operations : d ≡ least_from c (double_codes false no_codes all)
  pub errors : e ≡ least_from d (double_codes true no_codes all)
  pub recursive : f ≡ least_from e (first_recursive (says standings) 0 all)
  pub shown : g ≡ least_from f (bodies_show (env_of all (says standings)) all)

pub of_all : (all : List Assignment) (lists : List (List ℕ)) (standings : List Standing) (a b c d e f g : Option Found) → Passes all standings a b c d e f g → lists ≡ bodies_uses all all → IsRightSurvey lists standings → IsLeastFault all g
of_all all lists standings a b c d e f g p same shown =
    let shows : List Found = bodies_show (env_of all (says standings)) all in
    let recursion : List Found = first_recursive (says standings) 0 all in
    let errors : List Found = double_codes true no_codes all in
    let operations : List Found = double_codes false no_codes all in
    let bodies : List Found = bodies_faults all all in
    let names : List Found = double_names all 0 all in
    let five : g ≡ least_from e (recursion ++ shows) = least_two e f g recursion shows p.recursive p.shown in
    let four : g ≡ least_from d (errors ++ (recursion ++ shows)) = least_two d e g errors (recursion ++ shows) p.errors five in
    let three : g ≡ least_from c (operations ++ (errors ++ (recursion ++ shows))) = least_two c d g operations (errors ++ (recursion ++ shows)) p.operations four in
    let two : g ≡ least_from b (bodies ++ (operations ++ (errors ++ (recursion ++ shows)))) = least_two b c g bodies (operations ++ (errors ++ (recursion ++ shows))) p.bodies three in
    let one : g ≡ least_from a (names ++ (bodies ++ (operations ++ (errors ++ (recursion ++ shows))))) = least_two a b g names (bodies ++ (operations ++ (errors ++ (recursion ++ shows)))) p.names two in
    record {
      recursive = says standings;
      says = says_recursion all lists standings same shown;
      is = subst (λ (z : Option Found). g ≡ least_from z (names ++ (bodies ++ (operations ++ (errors ++ (recursion ++ shows)))))) p.none one;
    }

-- the same, where some passes go by the names of the assignments
pub record Mixed (all names : List Assignment) (standings : List Standing) (a b c d e f g : Option Found) : Type 0 where
  pub none : a ≡ None
  pub names_twice : b ≡ least_from a (double_names names 0 names)
  pub bodies : c ≡ least_from b (bodies_faults names names)
  pub operations : d ≡ least_from c (double_codes false no_codes all)
  pub errors : e ≡ least_from d (double_codes true no_codes all)
  pub recursive : f ≡ least_from e (first_recursive (says standings) 0 all)
  pub shown : g ≡ least_from f (bodies_show (env_of names (says standings)) names)

pub of_names : (all names : List Assignment) (lists : List (List ℕ)) (standings : List Standing) (a b c d e f g : Option Found) → names ≡ all → Mixed all names standings a b c d e f g → lists ≡ bodies_uses names names → IsRightSurvey lists standings → IsLeastFault all g
of_names all names lists standings a b c d e f g same m used shown =
    of_all all lists standings a b c d e f g (record {
      none = m.none;
      names = m.names_twice ∙ ap (λ (z : List Assignment). least_from a (double_names z 0 z)) same;
      bodies = m.bodies ∙ ap (λ (z : List Assignment). least_from b (bodies_faults z z)) same;
      operations = m.operations;
      errors = m.errors;
      recursive = m.recursive;
      shown = m.shown ∙ ap (λ (z : List Assignment). least_from f (bodies_show (env_of z (says standings)) z)) same;
    }) (used ∙ ap (λ (z : List Assignment). bodies_uses z z) same) shown
