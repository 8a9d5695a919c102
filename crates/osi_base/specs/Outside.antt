-- What the objects outside tell: counts of faults, octets written, logs of calls.
use Rattle.std.specs.Prelude.{Option, ◌≡◌, ℕ, ◌+◌, ◌<◌, ◌≤◌, min, List, ◌∷◌, ◌++◌, length, take, None, Some, IsSomeAnd}
use Rattle.osi_base.specs.Limits.{last_count}

-- a count of faults rose by one or more, or stands at its last value
abbrev pub FaultsRose : ℕ → ℕ → Type 0
FaultsRose old new = min (old + 1) last_count ≤ new

-- the opposite of a rise: the object didn't fail
abbrev pub IsCalm : ℕ → ℕ → Type 0
IsCalm old new = new < min (old + 1) last_count

-- the contents of files by their names
abbrev pub FileMap : Type 0
FileMap = List ℕ → Option (List ℕ)

-- a map of files is told, and has no file of this name
abbrev pub Lacks : Option FileMap → List ℕ → Type 0
Lacks told name = IsSomeAnd told (λ files. files name ≡ None)

-- a map of files is told, and has these contents under the name
abbrev pub Holds : Option FileMap → List ℕ → List ℕ → Type 0
Holds told name contents = IsSomeAnd told (λ files. files name ≡ Some contents)

-- what is told once these octets were put at the end
abbrev pub grown : Option (List ℕ) → List ℕ → Option (List ℕ)
grown None bytes = None
grown (Some octets) bytes = Some (octets ++ bytes)

-- what is told grew by a beginning of these octets
pub record GrewPart (old new : Option (List ℕ)) (bytes : List ℕ) : Type 0 where
  pub count : ℕ
  pub within : count ≤ length bytes
  pub is_grown : new ≡ grown old (take count bytes)

-- a log of calls, the newest first, once this call was made
abbrev pub logged : {Call : Type 0} → Call → Option (List Call) → Option (List Call)
logged call None = None
logged call (Some log) = Some (call ∷ log)

-- how many octets were read, once so many more are: the number stands still at its last value
abbrev pub counted : ℕ → ℕ → ℕ
counted old more = min (old + more) last_count
