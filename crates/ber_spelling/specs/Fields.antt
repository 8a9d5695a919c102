-- Identifiers, lengths and the ends of contents, read from the left (X.690 8.1).
use Rattle.std.specs.Prelude.{ℕ, ◌+◌, ◌-◌, ◌*◌, ◌/◌, ◌%◌, Bool, true, false, not, ◌&&◌, ◌||◌, Option, Some, None, List, [], ◌∷◌, length, take, drop, Ok, Err, nat_lt, nat_le, nat_eq, slice_index, if◌then◌else◌}
use Rattle.osi_base.specs.declared.layer_words.Kind.TheVariants.{Tag, Length, Form}
use Rattle.asn1_types.specs.Tags.{class_of, capped}
use Rattle.asn1_types.specs.Whole.{number_256}
use Rattle.ber_spelling.specs.declared.fault.ReadFault.TheVariants.{Short, TooDeep}
use Rattle.ber_spelling.specs.declared.spot.Scope.{Scope}
use Rattle.ber_spelling.specs.Reading.{Spot, Opened, Ahead, ended, begun, Reading, ◌>>=◌, refuse, is_past, within}

abbrev pub is_constructed : ℕ → Bool
is_constructed first = nat_eq (first / 32 % 2) 1

-- a field at a place that goes on until here at least, and that is cut off
abbrev pub cut_off : {A : Type 0} → Scope → ℕ → ℕ → Reading A
cut_off scope place until = do
  _ ← within scope place until
  Err Short

abbrev pub is_end : Option ℕ → ℕ → Bool
is_end None place = false
is_end (Some end) place = nat_le end place

-- no octet where one of the field at a place must stand
abbrev pub lacking_from : {A : Type 0} → Scope → ℕ → ℕ → Reading A
lacking_from scope place from =
    if is_end scope.end from then cut_off scope place (from + 1) else Err Short

abbrev pub lacking : {A : Type 0} → Scope → ℕ → Reading A
lacking scope place = lacking_from scope place place

-- the octets of a high tag number, seven bits each, with bit 8 set in all but the last (X.690 8.1.2.4)
unfoldable pub digits_at : Scope → ℕ → ℕ → ℕ → List ℕ → Reading (ℕ × Spot)
digits_at scope place number from [] = lacking_from scope place from
digits_at scope place number from (digit ∷ rest) = do
  _ ← within scope place (from + 1)
  if nat_lt digit 128 then Ok (capped (128 * number + digit), record { place = from + 1; rest = rest })
      else digits_at scope place (capped (128 * number + (digit - 128))) (from + 1) rest

abbrev pub opened_at : ℕ → List ℕ → ℕ → ℕ → Opened
opened_at place rest first number = record { start = record { place = place; rest = rest }; class = class_of first; constructed = is_constructed first; number = number }

-- a high tag number is 31 or more, and has no leading zero digit
abbrev pub is_lax : List ℕ → ℕ → Bool
is_lax digits number = nat_lt number 31 || nat_eq (slice_index digits 0) 128

unfoldable pub high_at : Scope → ℕ → ℕ → List ℕ → Reading (Opened × Spot)
high_at scope place first digits = do
  number ← digits_at scope place 0 (place + 1) digits
  if is_lax digits number.0 then refuse place Tag else Ok (opened_at place (first ∷ digits) first number.0, number.1)

unfoldable pub identifier_at : Scope → ℕ → List ℕ → Reading (Opened × Spot)
identifier_at scope place [] = Err Short
identifier_at scope place (first ∷ rest) =
    if nat_eq scope.levels 0 then Err (TooDeep place) else (do
      _ ← within scope place (place + 1)
      if nat_eq (first % 32) 31 then high_at scope place first rest
          else Ok (opened_at place (first ∷ rest) first (first % 32), record { place = place + 1; rest = rest }))

-- a length that is announced: its contents end within what encloses them
unfoldable pub announced_at : Scope → ℕ → ℕ → Bool → ℕ → List ℕ → Reading (ℕ × Spot)
announced_at scope place count minimal from rest = do
  _ ← within scope place (from + count)
  if scope.strict && not minimal then refuse place Form else Ok (count, record { place = from; rest = rest })

-- How far a field certainly goes of which octets lack: to its end, where the contents end before it, else to the end
-- of the octets that are there.
abbrev pub sure_reach : Option ℕ → ℕ → ℕ → ℕ
sure_reach end until there = if is_past end until then until else there

-- the long form (X.690 8.1.3.5), DER's shortest (X.690 10.1)
unfoldable pub long_at : Scope → ℕ → ℕ → List ℕ → Reading (ℕ × Spot)
long_at scope place size rest =
    if nat_lt (length rest) size then cut_off scope place (sure_reach scope.end (place + 1 + size) (place + 1 + length rest))
    else (do
      _ ← within scope place (place + 1 + size)
      if nat_lt 8 size then refuse place Length
          else announced_at scope place (number_256 0 (take size rest))
          (nat_le 128 (number_256 0 (take size rest)) && nat_lt 0 (slice_index (take size rest) 0)) (place + 1 + size) (drop size rest))

-- a definite length (X.690 8.1.3.3)
unfoldable pub definite_at : Scope → ℕ → List ℕ → Reading (ℕ × Spot)
definite_at scope place [] = lacking scope place
definite_at scope place (first ∷ rest) = do
  _ ← within scope place (place + 1)
  if nat_lt first 128 then announced_at scope place first true (place + 1) rest
      else (if nat_eq first 128 || nat_eq first 255 then refuse place Length
      else long_at scope place (first - 128) rest)

abbrev pub inside : Scope → Scope
inside scope = record { levels = scope.levels - 1; limit = scope.limit; end = scope.end; marked = true; strict = scope.strict }

abbrev pub inside_until : Scope → ℕ → Scope
inside_until scope end = record { levels = scope.levels - 1; limit = scope.limit; end = Some end; marked = false; strict = scope.strict }

-- the length of a constructed value, definite or indefinite (X.690 8.1.3.6), and the scope of its contents
unfoldable pub extent_at : Scope → ℕ → List ℕ → Reading (Scope × Spot)
extent_at scope place [] = lacking scope place
extent_at scope place (first ∷ rest) =
    if nat_eq first 128 then (do
      _ ← within scope place (place + 1)
      if scope.strict then refuse place Form else Ok (inside scope, record { place = place + 1; rest = rest }))
    else (do
      n ← definite_at scope place (first ∷ rest)
      Ok (inside_until scope (n.1.place + n.0), n.1))

-- contents of a primitive: their place, the octets, and what follows
unfoldable pub contents_at : Scope → ℕ → List ℕ → Reading (ℕ × List ℕ × Spot)
contents_at scope place rest = do
  n ← definite_at scope place rest
  if nat_lt (length n.1.rest) n.0 then Err Short
      else Ok (n.1.place, take n.0 n.1.rest, record { place = n.1.place + n.0; rest = drop n.0 n.1.rest })

-- ---- the ends of contents

abbrev pub begin_at : Scope → ℕ → List ℕ → Reading Ahead
begin_at scope place rest = do
  x ← identifier_at scope place rest
  Ok (begun x.0 x.1)

-- behind a zero octet: end-of-contents are two (X.690 8.1.5)
abbrev pub second_zero_at : Scope → ℕ → List ℕ → List ℕ → Reading Ahead
second_zero_at scope place whole [] = Err Short
second_zero_at scope place whole (second ∷ rest) =
    if nat_eq second 0 then (do
      _ ← within scope place (place + 2)
      Ok (ended place (record { place = place + 2; rest = rest })))
    else begin_at scope place whole

abbrev pub mark_at : Scope → ℕ → List ℕ → Reading Ahead
mark_at scope place [] = Err Short
mark_at scope place (first ∷ rest) =
    if nat_eq first 0 then
    (if is_past scope.end (place + 2) then cut_off scope place (place + 2)
    else (do
      _ ← within scope place (place + 1)
      second_zero_at scope place (first ∷ rest) rest))
    else begin_at scope place (first ∷ rest)

-- whether contents end, or what begins there
unfoldable pub look_at : Scope → ℕ → List ℕ → Reading Ahead
look_at scope place rest =
    if scope.marked then (if is_end scope.end place then cut_off scope place (place + 1) else mark_at scope place rest)
    else (if is_end scope.end place then Ok (ended place (record { place = place; rest = rest })) else begin_at scope place rest)
