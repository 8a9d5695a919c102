-- Reading from the left: what the readers give is a function of the octets.
use Rattle.std.specs.Prelude.{◌≡◌, ℕ, ◌+◌, ◌≤◌, List, length, Result, Ok, Err, nat_lt, if◌then◌else◌}
use Rattle.osi_base.specs.declared.layer_words.Kind.TheVariants.{Content}
use Rattle.packed_codec.specs.declared.fault.PackedFault.{PackedFault}
use Rattle.packed_codec.specs.declared.fault.PackedFault.TheVariants as faults
use Rattle.packed_codec.specs.declared.spot.Spot as code

-- a place, the octets from there on, and how many items of lists may still be counted
pub record Spot : Type 0 where
  pub place : ℕ
  pub rest : List ℕ
  pub left : ℕ

abbrev pub spot_of : code.Spot → Spot
spot_of s = record { place = s.place; rest = s.rest.now; left = s.left }

abbrev pub Reading : Type 0 → Type 0
Reading A = Result A PackedFault

infixl 10 ◌>>=◌
abbrev pub ◌>>=◌ : {A B : Type 0} → Reading A → (A → Reading B) → Reading B
(Ok x) >>= f = f x
(Err e) >>= f = Err e

-- What a function returned, seen by view, is what reading gives, unless memory ran out.
abbrev pub FailsWith : {Y : Type 0} → PackedFault → Reading Y → Type 0
FailsWith (faults.NotSpelled place kind) read = read ≡ Err (faults.NotSpelled place kind)
FailsWith faults.Short read = read ≡ Err faults.Short
FailsWith (faults.TooLong place) read = read ≡ Err (faults.TooLong place)
FailsWith faults.NoMemory read = Unit {0}

abbrev pub Gives : {X Y : Type 0} → (X → Y) → Result X PackedFault → Reading Y → Type 0
Gives view (Ok x) read = read ≡ Ok (view x)
Gives view (Err e) read = FailsWith e read

-- the field at this place breaks the rule of its type
abbrev pub refuse : {A : Type 0} → ℕ → Reading A
refuse place = Err (faults.NotSpelled place Content)

-- A field at a place, or what it announces, goes on until here: past the limit, or within it.
unfoldable pub within : ℕ → ℕ → ℕ → Reading (Unit {0})
within limit place until = if nat_lt limit until then Err (faults.TooLong place) else Ok tt

-- Reading went on from a place with this many octets behind it, and came here.
pub record GoesOn (place len : ℕ) (to : code.Spot) : Type 0 where
  pub whole : to.place + length to.rest.now ≡ place + len
  pub onward : place ≤ to.place
