-- What codes name (X.880 8.5).
use Rattle.std.specs.Prelude.{ℕ, Bool, true, false, not, ◌&&◌, List, [], ◌∷◌, Option, nat_eq, if◌then◌else◌}
use Rattle.std.specs.Ordering.{int_eq}
use Rattle.std.specs.Cmp.Lexicographic.{pointwise}
use Rattle.std.specs.List.{list_any, position_from}
use Rattle.stub_tables.specs.declared.operation.Code.{Code}
use Rattle.stub_tables.specs.declared.operation.Code.TheVariants.{Local, Global}
use Rattle.stub_tables.specs.declared.operation.Operation.{Operation}

-- the two are one code
abbrev pub same_code : Code → Code → Bool
same_code (Local a) (Local b) = int_eq a b
same_code (Global a) (Global b) = pointwise nat_eq a b
same_code _ _ = false

-- the place of the first item with the code
abbrev pub place_with : {X : Type 0} → (X → Code) → Code → List X → Option ℕ
place_with code_of code xs = position_from (λ x. same_code (code_of x) code) 0 xs

-- no two items have one code
abbrev pub have_own_codes : {X : Type 0} → (X → Code) → List X → Bool
have_own_codes code_of [] = true
have_own_codes code_of (x ∷ xs) = not (list_any (λ y. same_code (code_of x) (code_of y)) xs) && have_own_codes code_of xs

-- An operation is silent where it returns no result and no error (X.880 8.2.4, 8.2.5).
abbrev pub is_silent : Operation → Bool
is_silent operation = if operation.returns then false else is_none operation.errors
  where
    is_none : List ℕ → Bool
    is_none [] = true
    is_none (e ∷ es) = false

-- the error at this place is one of the operation's
abbrev pub is_error_of : Operation → ℕ → Bool
is_error_of operation error = list_any (λ place. nat_eq place error) operation.errors
