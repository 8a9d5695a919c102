-- The names of the transfer syntaxes (X.690 12; the packed syntax is this project's own) and of the abstract syntaxes
-- of ACSE and RTSE, and names among others.
use Rattle.std.specs.Prelude.{ℕ, Bool, List, [], ◌∷◌, nat_eq, if◌then◌else◌, Option, Some, None}
use Rattle.std.specs.List.{list_any}
use Rattle.std.specs.Cmp.Lexicographic.{pointwise}
use Rattle.osi_base.specs.declared.syntax.Syntax.{Syntax}
use Rattle.osi_base.specs.declared.syntax.Syntax.TheVariants.{Ber, Der, Packed}

-- the object identifier of a transfer syntax
abbrev pub name_of : Syntax → List ℕ
name_of Ber = 2 ∷ 1 ∷ 1 ∷ []
name_of Der = 2 ∷ 1 ∷ 2 ∷ 1 ∷ []
name_of Packed = 2 ∷ 999 ∷ 5 ∷ 1 ∷ []

-- the syntax with this name, where it is one of the three
abbrev pub syntax_named : List ℕ → Option Syntax
syntax_named name =
    if pointwise nat_eq name (name_of Ber) then Some Ber
    else (if pointwise nat_eq name (name_of Der) then Some Der
    else (if pointwise nat_eq name (name_of Packed) then Some Packed
    else None))

-- the abstract syntax of ACSE (X.227 9),
-- {joint-iso-itu-t association-control(2) abstract-syntax(1) apdus(0) version1(1)}
abbrev pub acse_name : List ℕ
acse_name = 2 ∷ 2 ∷ 1 ∷ 0 ∷ 1 ∷ []

-- the abstract syntax of RTSE, this project's own name
abbrev pub rtse_name : List ℕ
rtse_name = 2 ∷ 999 ∷ 5 ∷ 2 ∷ []

-- the name stands in the list
abbrev pub is_listed : List ℕ → List (List ℕ) → Bool
is_listed name names = list_any (pointwise nat_eq name) names
