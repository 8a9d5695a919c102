-- The names and codes that were seen.
use Rattle.std.specs.Prelude.{ℕ, Bool, List, nat_eq}
use Rattle.std.specs.Ordering.{int_eq}
use Rattle.std.specs.Cmp.Lexicographic.{pointwise}
use Rattle.std.specs.HashSet.{contains_by}
use Rattle.stub_tables.specs.declared.operation.Code.{Code}
use Rattle.stub_tables.specs.declared.operation.Code.TheVariants.{Local, Global}
use Rattle.table_file.specs.declared.names_and_codes.Codes.{Codes}
use Rattle.table_file.specs.declared.names_and_codes.Names.{Names}

abbrev pub has_code : Codes → Code → Bool
has_code codes (Local number) = contains_by (λ n. int_eq number n) codes.locals
has_code codes (Global arcs) = contains_by (λ k. pointwise nat_eq arcs k.items) codes.globals

abbrev pub has_name : Names → List ℕ → Bool
has_name names name = contains_by (λ k. pointwise nat_eq name k.items) names.names
