-- How the octets of two spellings compare (X.690 11.6).
use Rattle.std.specs.Prelude.{◌≡◌, ℕ, ◌<◌, ◌^◌, ◌++◌, List, [], ◌∷◌, length}
use Rattle.std.specs.Ordering.{nat_cmp, ordering_then}
use Rattle.std.specs.declared.cmp.Ordering.{Ordering}
use Rattle.std.specs.declared.cmp.Ordering.TheVariants.{Less, Equal, Greater}
use Rattle.asn1_types.specs.Writing.{saturated, identifier}
use Rattle.ber_writing.specs.declared.pieces.Compared.{Compared}
use Rattle.ber_writing.specs.declared.pieces.Rest.{Rest}
use Rattle.ber_writing.specs.declared.head.Head.{Head}
use Rattle.ber_writing.specs.declared.head.Lead.{Lead}
use Rattle.ber_writing.specs.declared.head.Lead.TheVariants.{Nothing, Identifier, Unknown}

-- the first octet that differs decides, else the shorter are less
abbrev pub compared : List ℕ → List ℕ → Ordering
compared [] [] = Equal
compared [] (y ∷ ys) = Less
compared (x ∷ xs) [] = Greater
compared (x ∷ xs) (y ∷ ys) = ordering_then (nat_cmp x y) (compared xs ys)

-- they are one, or whatever follows them compares as they do
abbrev pub Decides : Ordering → List ℕ → List ℕ → Type 0
Decides Equal xs ys = xs ≡ ys
Decides Less xs ys = (x y : List ℕ) → compared (xs ++ x) (ys ++ y) ≡ Less
Decides Greater xs ys = (x y : List ℕ) → compared (xs ++ x) (ys ++ y) ≡ Greater

-- the lengths of two lots of octets, and how these compare if their lengths have 64 bits
pub record IsCompared (told : Compared) (xs ys : List ℕ) : Type 0 where
  pub len : told.len ≡ saturated (length xs)
  pub other : told.other ≡ saturated (length ys)
  pub order : length xs < 2 ^ 64 → length ys < 2 ^ 64 → told.order ≡ compared xs ys

-- and neither of them begins the other
pub record IsApart (told : Compared) (xs ys : List ℕ) : Type 0 where
  pub len : told.len ≡ saturated (length xs)
  pub other : told.other ≡ saturated (length ys)
  pub order : length xs < 2 ^ 64 → length ys < 2 ^ 64 → Decides told.order xs ys

-- octets begin with this identifier
pub record Leads (head : Head) (xs : List ℕ) : Type 0 where
  pub behind : List ℕ
  pub are : xs ≡ identifier head.tag.class head.constructed head.tag.number ++ behind

abbrev pub LeadsOr : Lead → List ℕ → Type 0
LeadsOr Nothing xs = xs ≡ []
LeadsOr (Identifier head) xs = Leads head xs
LeadsOr Unknown xs = Unit {0}

-- what stands behind a place in the contents of two values
pub record IsRest (rest : Rest) (xs ys : List ℕ) : Type 0 where
  pub told : IsCompared rest.told xs ys
  pub lead : LeadsOr rest.lead xs
  pub other : LeadsOr rest.other ys
