-- Reading from the left: what the readers give is a function of the octets.
use Rattle.std.specs.Prelude.{◌≡◌, ◌≢◌, ℕ, ◌+◌, ◌≤◌, Bool, false, Option, Some, None, List, length, Result, Ok, Err, IfOk, IfErr, nat_lt, if◌then◌else◌}
use Rattle.osi_base.specs.OctetPlaces.{HasPlaces}
use Rattle.osi_base.specs.declared.layer_words.Kind.{Kind}
use Rattle.osi_base.specs.declared.layer_words.Kind.TheVariants.{Length}
use Rattle.asn1_types.specs.declared.row.Class.{Class}
use Rattle.ber_spelling.specs.declared.fault.ReadFault.{ReadFault}
use Rattle.ber_spelling.specs.declared.fault.ReadFault.TheVariants as faults
use Rattle.ber_spelling.specs.declared.spot.Scope.{Scope}
use Rattle.ber_spelling.specs.declared.spot.Spot as code
use Rattle.ber_spelling.specs.declared.spot.Opened as codes
use Rattle.ber_spelling.specs.declared.spot.Ahead as aheads
use Rattle.ber_spelling.specs.declared.spot.Ahead.TheVariants as ahead

-- a place, and the octets from there on
pub record Spot : Type 0 where
  pub place : ℕ
  pub rest : List ℕ

-- an identifier, and the spot where it begins
pub record Opened : Type 0 where
  pub start : Spot
  pub class : Class
  pub constructed : Bool
  pub number : ℕ

pub data Ahead : Type 0 where
  ended : ℕ → Spot → Ahead
  begun : Opened → Spot → Ahead

abbrev pub spot_of : code.Spot → Spot
spot_of s = record { place = s.place; rest = s.rest.now }

-- where reading goes on, and nothing else
abbrev pub behind_of : code.Spot → Unit {0} × Spot
behind_of s = (tt, spot_of s)

abbrev pub opened_of : codes.Opened → Opened
opened_of o = record { start = spot_of o.start; class = o.class; constructed = o.constructed; number = o.number }

abbrev pub ahead_of : aheads.Ahead → Ahead
ahead_of (ahead.Ended place after) = ended place (spot_of after)
ahead_of (ahead.Begun opened after) = begun (opened_of opened) (spot_of after)

abbrev pub Reading : Type 0 → Type 0
Reading A = Result A ReadFault

infixl 10 ◌>>=◌
abbrev pub ◌>>=◌ : {A B : Type 0} → Reading A → (A → Reading B) → Reading B
(Ok x) >>= f = f x
(Err e) >>= f = Err e

-- What a function returned, seen by view, is what reading gives, unless memory ran out.
abbrev pub FailsWith : {Y : Type 0} → ReadFault → Reading Y → Type 0
FailsWith (faults.NotSpelled place kind) read = read ≡ Err (faults.NotSpelled place kind)
FailsWith faults.Short read = read ≡ Err faults.Short
FailsWith (faults.TooDeep place) read = read ≡ Err (faults.TooDeep place)
FailsWith (faults.TooLong place) read = read ≡ Err (faults.TooLong place)
FailsWith faults.NoMemory read = Unit {0}

abbrev pub Gives : {X Y : Type 0} → (X → Y) → Result X ReadFault → Reading Y → Type 0
Gives view (Ok x) read = read ≡ Ok (view x)
Gives view (Err e) read = FailsWith e read

abbrev pub refuse : {A : Type 0} → ℕ → Kind → Reading A
refuse place kind = Err (faults.NotSpelled place kind)

abbrev pub is_past : Option ℕ → ℕ → Bool
is_past None until = false
is_past (Some end) until = nat_lt end until

-- A field at a place goes on until here: past the limit, past the end of the contents, or within both.
unfoldable pub within : Scope → ℕ → ℕ → Reading (Unit {0})
within scope place until =
    if nat_lt scope.limit until then Err (faults.TooLong place)
    else (if is_past scope.end until then refuse place Length else Ok tt)

-- Reading went on from a place with this many octets behind it, and came here.
pub record GoesOn (place len : ℕ) (to : code.Spot) : Type 0 where
  pub whole : to.place + length to.rest.now ≡ place + len
  pub onward : place ≤ to.place

-- Reading from a place with this many octets behind it never wants memory, and goes on behind what it read.
pub record GoesOnWithoutMemory {X : Type 0} (place len : ℕ) (result : Reading (X × code.Spot)) : Type 0 where
  pub no_memory : IfErr result (λ e. e ≢ faults.NoMemory)
  pub stops : IfOk result (λ x. GoesOn place len x.1)

-- Reading went on from this identifier to this spot, whose octets all have places.
pub record IsBehind (opened : codes.Opened) (spot : code.Spot) : Type 0 where
  pub whole : HasPlaces spot.place spot.rest.now
  pub start : GoesOn opened.start.place (length opened.start.rest.now) spot

-- An identifier began at a place with this many octets behind it, and reading goes on here.
pub record Opens (place len : ℕ) (opened : codes.Opened) (to : code.Spot) : Type 0 where
  pub start : opened.start.place ≡ place
  pub rest : length opened.start.rest.now ≡ len
  pub behind : GoesOn place len to

abbrev pub LiesIn : ℕ → ℕ → aheads.Ahead → Type 0
LiesIn place len (ahead.Ended at after) = GoesOn place len after
LiesIn place len (ahead.Begun opened after) = Opens place len opened after
