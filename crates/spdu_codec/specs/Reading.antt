-- Reading the units of a TSDU from left to right, with the first field that breaks the grammar (X.225 8.2).
use Rattle.std.specs.Prelude.{◌≡◌, ℕ, zero, suc, ◌+◌, ◌-◌, ◌*◌, ◌==◌, ◌&&◌, ◌||◌, Bool, true, false, not, List, [], ◌∷◌, length, take, drop, Option, Some, None, Result, Ok, Err, nat_lt, if◌then◌else◌}
use Rattle.osi_base.specs.declared.layer_words.Kind.{Kind}
use Rattle.osi_base.specs.declared.layer_words.Kind.TheVariants as why
use Rattle.osi_base.specs.declared.session_word.SessionWord.{SessionWord}
use Rattle.spdu_codec.specs.declared.fault.SFault.{SFault}
use Rattle.spdu_codec.specs.declared.fault.SFault.TheVariants as faults
use Rattle.spdu_codec.specs.declared.kind.SpduKind.{SpduKind}
use Rattle.spdu_codec.specs.declared.parameters.Slot.{Slot}
use Rattle.spdu_codec.specs.declared.parameters.Parameters.{Parameters}
use Rattle.spdu_codec.specs.Tables.{row_of, first_units, second_units, parameters_of, items_of}
use Rattle.spdu_codec.specs.Parameters.{none_yet, is_free, put}
use Rattle.spdu_codec.specs.Words.{word_of, has_information, leads}

-- the first field that breaks the grammar
pub record UnitFault : Type 0 where
  pub place : ℕ
  pub kind : Kind

abbrev pub at : ℕ → Kind → UnitFault
at place kind = record { place = place; kind = kind }

infixl 10 ◌>>=◌
abbrev pub ◌>>=◌ : {A B : Type 0} → Result A UnitFault → (A → Result B UnitFault) → Result B UnitFault
(Ok x) >>= f = f x
(Err e) >>= f = Err e

-- What a function returned, seen by view, is what reading gives, unless memory ran out.
abbrev pub FailsWith : {Y : Type 0} → SFault → Result Y UnitFault → Type 0
FailsWith faults.NoMemory read = Unit {0}
FailsWith (faults.At place kind) read = read ≡ Err (at place kind)

abbrev pub Gives : {Y : Type 0} → Result Y SFault → Result Y UnitFault → Type 0
Gives (Ok x) read = read ≡ Ok x
Gives (Err e) read = FailsWith e read

abbrev pub GivesBy : {X Y : Type 0} → (X → Y) → Result X SFault → Result Y UnitFault → Type 0
GivesBy view (Ok x) read = read ≡ Ok (view x)
GivesBy view (Err e) read = FailsWith e read

-- In each function the octets end at the place `end`; so a field at their front has the place `end` less their number.
abbrev pub front : ℕ → List ℕ → ℕ
front end octets = end - length octets

-- a length: one octet up to 254, else FF and two octets, the higher first (X.225 8.2.5)
unfoldable pub length_at : ℕ → List ℕ → Result (ℕ × List ℕ) UnitFault
length_at place [] = Err (at place why.Length)
length_at place (n ∷ []) = if n == 255 then Err (at place why.Length) else Ok (n, [])
length_at place (n ∷ high ∷ []) = if n == 255 then Err (at place why.Length) else Ok (n, high ∷ [])
length_at place (n ∷ high ∷ low ∷ rest) = if n == 255 then Ok (256 * high + low, rest) else Ok (n, high ∷ low ∷ rest)

-- a length, so many octets, and what follows them
unfoldable pub value_at : ℕ → List ℕ → Result (List ℕ × List ℕ) UnitFault
value_at end octets = do
  n ← length_at (front end octets) octets
  if nat_lt (length n.1) n.0 then Err (at (front end octets) why.Length) else Ok (take n.0 n.1, drop n.0 n.1)

-- a parameter that is looked at stands once
abbrev pub checked_free : ℕ → Option Slot → Parameters → Result (Option Slot) UnitFault
checked_free place None p = Ok None
checked_free place (Some slot) p = if is_free slot p then Ok (Some slot) else Err (at place why.Extra)

abbrev pub filled : ℕ → Option Parameters → Result Parameters UnitFault
filled place None = Err (at place why.Content)
filled place (Some p) = Ok p

-- a parameter with its value, which begins at this place
abbrev pub put_at : ℕ → Option Slot → List ℕ → Parameters → Result Parameters UnitFault
put_at place None value p = Ok p
put_at place (Some slot) value p = filled place (put slot value p)

-- The parameters in octets, of which those in the table are looked at, and what take makes of each; the fuel is at least
-- the number of octets. take is given the end of what follows, the value, and what follows.
unfoldable pub scan : (ℕ → Option Slot → List ℕ → Parameters → Result Parameters UnitFault) → List (ℕ × Slot) → ℕ → ℕ → Parameters → List ℕ → Result Parameters UnitFault
scan take_one table fuel end p [] = Ok p
scan take_one table zero end p (code ∷ rest) = Ok p
scan take_one table (suc fuel) end p (code ∷ rest) = do
  slot ← checked_free (front end (code ∷ rest)) (row_of code table) p
  v ← value_at end rest
  next ← take_one (front end v.1) slot v.0 p
  scan take_one table fuel end next v.1

-- a parameter inside a group: the value ends at this place
abbrev pub item_taken : ℕ → Option Slot → List ℕ → Parameters → Result Parameters UnitFault
item_taken end slot value p = put_at (front end value) slot value p

abbrev pub items_at : List (ℕ × Slot) → ℕ → Parameters → List ℕ → Result Parameters UnitFault
items_at table end p octets = scan item_taken table (length octets) end p octets

-- what is inside a group
abbrev pub inside : Option (List (ℕ × Slot)) → ℕ → List ℕ → Parameters → Result Parameters UnitFault
inside None end value p = Ok p
inside (Some table) end value p = items_at table end p value

abbrev pub group_inside : ℕ → Option Slot → List ℕ → Parameters → Result Parameters UnitFault
group_inside end None value p = Ok p
group_inside end (Some slot) value p = inside (items_of slot) end value p

-- a parameter of a unit, which may be a group: the value ends at this place
abbrev pub parameter_taken : ℕ → Option Slot → List ℕ → Parameters → Result Parameters UnitFault
parameter_taken end slot value p = item_taken end slot value p >>= λ next. group_inside end slot value next

abbrev pub parameters_at : SpduKind → ℕ → List ℕ → Result Parameters UnitFault
parameters_at kind end octets = scan parameter_taken (parameters_of kind) (length octets) end none_yet octets

-- ---- units

abbrev pub known : ℕ → Option SpduKind → Result SpduKind UnitFault
known place None = Err (at place why.Tag)
known place (Some kind) = Ok kind

-- A unit that stands in the table: its code, its length, its parameters; and what follows them.
unfoldable pub unit_at : List (ℕ × SpduKind) → ℕ → List ℕ → Result (SpduKind × Parameters × List ℕ) UnitFault
unit_at table end [] = Err (at end why.Missing)
unit_at table end (code ∷ rest) = do
  kind ← known (front end (code ∷ rest)) (row_of code table)
  v ← value_at end rest
  p ← parameters_at kind (front end v.1) v.0
  Ok (kind, p, v.1)

abbrev pub worded : ℕ → Option SessionWord → Result SessionWord UnitFault
worded place None = Err (at place why.Missing)
worded place (Some word) = Ok word

-- the word of a unit behind which no other follows
abbrev pub last_word : ℕ → SpduKind → Parameters → List ℕ → Result SessionWord UnitFault
last_word end kind p behind = worded (front end behind) (word_of kind true p behind) >>= λ word.
    if has_information kind || length behind == 0 then Ok word else Err (at (front end behind) why.Extra)

-- another unit follows
abbrev pub is_first : SpduKind → List ℕ → Bool
is_first kind behind = leads kind && not (length behind == 0)

abbrev pub second_at : ℕ → List ℕ → Result SessionWord UnitFault
second_at end octets = unit_at second_units end octets >>= λ u. last_word end u.0 u.1 u.2

abbrev pub behind_first : ℕ → SpduKind × Parameters × List ℕ → Result (List SessionWord) UnitFault
behind_first end u =
    if is_first u.0 u.2 then
    (worded (front end u.2) (word_of u.0 false u.1 []) >>= λ first. second_at end u.2 >>= λ second. Ok (first ∷ second ∷ []))
    else (last_word end u.0 u.1 u.2 >>= λ word. Ok (word ∷ []))

-- the units of a TSDU
unfoldable pub units_at : List ℕ → Result (List SessionWord) UnitFault
units_at octets = unit_at first_units (length octets) octets >>= behind_first (length octets)
