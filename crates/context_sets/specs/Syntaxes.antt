-- Names of abstract syntaxes compared. The names themselves, and which transfer syntaxes an end knows, stand in `Syntax`
-- of `osi_base`.
use Rattle.std.specs.Prelude.{ℕ, Bool, ◌||◌, List}
use Rattle.std.specs.Str.{bytes_eq}
use Rattle.osi_base.specs.Syntax.{acse_name, rtse_name}

-- two object identifiers are one
abbrev pub is_same : List ℕ → List ℕ → Bool
is_same a b = bytes_eq a b

-- contexts of ACSE and RTSE are never deleted (this project's own rule)
abbrev pub is_fixed : List ℕ → Bool
is_fixed name = is_same name acse_name || is_same name rtse_name
