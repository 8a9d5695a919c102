-- Reading from the left: what the readers give is a function of the octets.
use Rattle.std.specs.Prelude.{◌≡◌, ℕ, zero, suc, Result, Ok, Err}
use Rattle.packed_codec.specs.Reading.{Spot}
use Rattle.table_file.specs.declared.fault.Stop.{Stop}
use Rattle.table_file.specs.declared.fault.Stop.TheVariants as stops
use Rattle.table_file.specs.declared.spot.Spot as code

-- where the code stands, as a spot of the packed syntax
abbrev pub spot_of : code.Spot → Spot
spot_of s = record { place = s.place; rest = s.rest.now; left = s.left }

abbrev pub Reading : Type 0 → Type 0
Reading A = Result A Stop

infixl 10 ◌>>=◌
abbrev pub ◌>>=◌ : {A B : Type 0} → Reading A → (A → Reading B) → Reading B
(Ok x) >>= f = f x
(Err e) >>= f = Err e

-- the field or the row at this place breaks its rule
abbrev pub refuse : {A : Type 0} → ℕ → Reading A
refuse place = Err (stops.Bad place)

-- so many steps, each from what the one before gave
unfoldable pub fold_at : {A : Type 0} → (A → Spot → Reading (A × Spot)) → ℕ → A → Spot → Reading (A × Spot)
fold_at step zero a s = Ok (a, s)
fold_at step (suc n) a s = do
  x ← step a s
  fold_at step n x.0 x.1

-- What a function returned, seen by view, is what reading gives, unless memory ran out.
abbrev pub FailsWith : {Y : Type 0} → Stop → Reading Y → Type 0
FailsWith stops.Cut read = read ≡ Err stops.Cut
FailsWith (stops.Bad place) read = read ≡ Err (stops.Bad place)
FailsWith stops.NoMemory read = Unit {0}

abbrev pub Gives : {X Y : Type 0} → (X → Y) → Result X Stop → Reading Y → Type 0
Gives view (Ok x) read = read ≡ Ok (view x)
Gives view (Err e) read = FailsWith e read
