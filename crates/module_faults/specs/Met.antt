-- Names, numbers and codes that were seen, each once.
use Rattle.std.specs.Prelude.{ℕ, ℤ, Bool, false, nat_eq, List, [], ◌∷◌, ◌++◌, Option, None, Some, if◌then◌else◌}
use Rattle.std.specs.List.{list_any}
use Rattle.std.specs.Ordering.{int_eq}
use Rattle.std.specs.Cmp.Lexicographic.{pointwise}
use Rattle.operation_notation.specs.declared.module.CodeText.{CodeText}

-- lists of numbers: the octets of names, and the arcs of object identifiers
abbrev pub has_list : List (List ℕ) → List ℕ → Bool
has_list seen wanted = list_any (λ (one : List ℕ). pointwise nat_eq wanted one) seen

abbrev pub with_list : List (List ℕ) → List ℕ → List (List ℕ)
with_list seen one = if has_list seen one then seen else seen ++ one ∷ []

abbrev pub has_number : List ℤ → ℤ → Bool
has_number seen wanted = list_any (int_eq wanted) seen

abbrev pub with_number : List ℤ → ℤ → List ℤ
with_number seen one = if has_number seen one then seen else seen ++ one ∷ []

-- local codes and global ones
pub record Codes : Type 0 where
  pub locals : List ℤ
  pub globals : List (List ℕ)

abbrev pub no_codes : Codes
no_codes = record { locals = []; globals = [] }

abbrev pub has_by : Codes → Option ℤ → Option (List ℕ) → Bool
has_by seen (Some number) global = has_number seen.locals number
has_by seen None (Some arcs) = has_list seen.globals arcs
has_by seen None None = false

-- a code is one that was seen: the same number, or the same object identifier
abbrev pub has_code : Codes → CodeText → Bool
has_code seen code = has_by seen code.local code.global

abbrev pub with_by : Codes → Option ℤ → Option (List ℕ) → Codes
with_by seen (Some number) global = record { locals = with_number seen.locals number; globals = seen.globals }
with_by seen None (Some arcs) = record { locals = seen.locals; globals = with_list seen.globals arcs }
with_by seen None None = seen

abbrev pub with_code : Codes → CodeText → Codes
with_code seen code = with_by seen code.local code.global
