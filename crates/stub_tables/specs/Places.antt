-- Places by codes.
use Rattle.std.specs.Prelude.{◌≡◌, ℕ, ℤ, List, Option}
use Rattle.std.specs.Ordering.{int_cmp, nat_cmp}
use Rattle.std.specs.Cmp.Lexicographic.{slice_cmp}
use Rattle.std.specs.Global.{Vec}
use Rattle.std.specs.Map.{lookup}
use Rattle.std.specs.BTreeMap.{is_at}
use Rattle.stub_tables.specs.declared.operation.Code.{Code}
use Rattle.stub_tables.specs.declared.operation.Code.TheVariants.{Local, Global}
use Rattle.stub_tables.specs.declared.code_places.CodePlaces.{CodePlaces}
use Rattle.stub_tables.specs.Codes.{place_with}

abbrev pub local_place : List (ℤ × ℕ) → ℤ → Option ℕ
local_place entries number = lookup (is_at (int_cmp number)) entries

abbrev pub global_place : List (Vec ℕ × ℕ) → List ℕ → Option ℕ
global_place entries arcs = lookup (is_at (λ (key : Vec ℕ). slice_cmp nat_cmp arcs key.items)) entries

-- the place of a code
abbrev pub place_in : CodePlaces → Code → Option ℕ
place_in places (Local number) = local_place places.locals.entries number
place_in places (Global arcs) = global_place places.globals.entries arcs

-- each code has the place of the first row with it
pub record ArePlaces {X : Type 0} (code_of : X → Code) (rows : List X) (places : CodePlaces) : Type 0 where
  pub each : (code : Code) → place_in places code ≡ place_with code_of code rows
