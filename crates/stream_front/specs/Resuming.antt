-- Reading that is left somewhere in a value, and goes on there: what the octets that follow make of it.
use Rattle.std.specs.Prelude.{◌≡◌, ℕ, zero, suc, ◌+◌, ◌-◌, ◌<◌, ◌≤◌, ◌^◌, Bool, true, false, ◌&&◌, ◌||◌, Some, None, List, [], ◌∷◌, ◌++◌, length, take, drop, Ok, Err, nat_lt, nat_eq, slice_index, if◌then◌else◌}
use Rattle.osi_base.specs.declared.layer_words.Kind.TheVariants.{Tag, Length}
use Rattle.osi_base.specs.Limits.{most_octets, most_levels}
use Rattle.asn1_types.specs.Whole.{is_marked, number_256}
use Rattle.ber_spelling.specs.declared.fault.ReadFault.TheVariants as faults
use Rattle.ber_spelling.specs.declared.spot.Scope.{Scope}
use Rattle.ber_spelling.specs.Reading.{Spot, Reading, ◌>>=◌, refuse, within}
use Rattle.ber_spelling.specs.Fields.{identifier_at, digits_at, announced_at, contents_at, cut_off}
use Rattle.ber_spelling.specs.Rules.{all_items_at, whole_at}
use Rattle.stream_front.specs.declared.first_value.FirstValue.{FirstValue}
use Rattle.stream_front.specs.declared.first_value.FirstValue.TheVariants.{Short, Whole, Faulty}
use Rattle.stream_front.specs.declared.scanner.Scanner.{Scanner}
use Rattle.stream_front.specs.declared.scanner.ScanStage as stages
use Rattle.stream_front.specs.declared.scanner.ScanStage.TheVariants as stage
use Rattle.stream_front.specs.Fronts.{front_at, faulty}

-- how far reading came
abbrev pub End : Type 0
End = Unit {0} × Spot

abbrev pub spot : ℕ → List ℕ → Spot
spot place rest = record { place = place; rest = rest }

-- ---- inside so many open indefinite lengths

abbrev pub is_inside : ℕ → Bool
is_inside zero = false
is_inside (suc depth) = true

abbrev pub scope_in : ℕ → Scope
scope_in depth = record { levels = most_levels - depth; limit = most_octets; end = None; marked = is_inside depth; strict = false }

-- values up to end-of-contents (X.690 8.1.3.6)
abbrev pub values_in : ℕ → Spot → Reading End
values_in depth s = all_items_at (whole_at (most_levels - depth)) (λ (u : Unit {0}). Some u) tt (scope_in depth) s

-- behind a whole value: more values up to end-of-contents, and so on outwards
abbrev pub goes_on : ℕ → Spot → Reading End
goes_on zero s = Ok (tt, s)
goes_on (suc depth) s = values_in (suc depth) s >>= λ x. goes_on depth x.1

-- the value itself, from its identifier on
abbrev pub outermost : Spot → Reading End
outermost s = identifier_at (scope_in 0) s.place s.rest >>= λ x. whole_at most_levels tt (scope_in 0) x.0 x.1

-- where a value or an end-of-contents stands next
abbrev pub next_at : ℕ → Spot → Reading End
next_at zero s = outermost s
next_at (suc depth) s = goes_on (suc depth) s

-- ---- inside a field

-- behind a zero octet, which begins an end-of-contents or a value of no tag (X.690 8.1.5)
abbrev pub zero_at : ℕ → ℕ → ℕ → List ℕ → Reading End
zero_at depth field place [] = Err faults.Short
zero_at depth field place (second ∷ rest) =
    if nat_eq second 0 then (do
      _ ← within (scope_in depth) field (place + 1)
      goes_on (depth - 1) (spot (place + 1) rest))
    else refuse field Tag

-- behind an identifier: an indefinite length, or a definite one and that many octets
abbrev pub length_at : ℕ → Bool → Spot → Reading End
length_at depth constructed s =
    if is_marked s.rest && constructed then (do
      _ ← within (scope_in depth) s.place (s.place + 1)
      next_at (suc depth) (spot (s.place + 1) (drop 1 s.rest)))
    else contents_at (scope_in depth) s.place s.rest >>= λ c. goes_on depth c.2

-- behind the digits of a tag number
abbrev pub number_then : ℕ → Bool → ℕ → Bool → ℕ × Spot → Reading End
number_then depth constructed field padded x =
    if nat_lt x.0 31 || padded then refuse field Tag else length_at depth constructed x.1

-- so many octets of contents are left
abbrev pub contents_left : ℕ → ℕ → ℕ → List ℕ → Reading End
contents_left depth count place rest =
    if nat_lt (length rest) count then Err faults.Short else goes_on depth (spot (place + count) (drop count rest))

abbrev pub counted : ℕ → ℕ × Spot → Reading End
counted depth n = contents_left depth n.0 n.1.place n.1.rest

-- so many octets of a length of this size are left (X.690 8.1.3.5)
abbrev pub size_left : ℕ → ℕ → ℕ → ℕ → ℕ → ℕ → List ℕ → Reading End
size_left depth field size left number place rest =
    if nat_lt (length rest) left then cut_off (scope_in depth) field (place + length rest)
    else (do
      _ ← within (scope_in depth) field (place + left)
      if nat_lt 8 size then refuse field Length
          else announced_at (scope_in depth) field (number_256 number (take left rest)) true (place + left) (drop left rest) >>= counted depth)

-- ---- where a scanner stands

abbrev pub resume : Scanner → List ℕ → Reading End
resume s rest = elim s.stage [
  | stage.Next ↦ next_at s.depth (spot s.seen rest)
  | stage.Zero ↦ zero_at s.depth s.field s.seen rest
  | stage.High constructed ↦ digits_at (scope_in s.depth) s.field 0 s.seen rest >>= λ x. number_then s.depth constructed s.field (nat_eq (slice_index rest 0) 128) x
  | stage.Digits constructed padded number ↦ digits_at (scope_in s.depth) s.field number s.seen rest >>= number_then s.depth constructed s.field padded
  | stage.Length constructed ↦ length_at s.depth constructed (spot s.seen rest)
  | stage.Size size left number ↦ size_left s.depth s.field size left number s.seen rest
  | stage.Contents left ↦ contents_left s.depth left s.seen rest
  | stage.Whole ↦ Ok (tt, spot s.seen rest)
  | stage.Faulty place ↦ refuse place Tag
]

abbrev pub outcome : Reading End → FirstValue
outcome (Ok x) = Whole x.1.place
outcome (Err fault) = faulty fault

-- ---- what holds of a scanner

-- At most 32 indefinite lengths are open; only inside one of them a zero octet may begin an end-of-contents. A length
-- that isn't whole lies within the limit.
abbrev pub IsSoundStage : stages.ScanStage → ℕ → ℕ → Type 0
IsSoundStage stage.Next seen depth = depth ≤ most_levels
IsSoundStage stage.Zero seen depth = depth ≤ most_levels
IsSoundStage (stage.High constructed) seen depth = depth < most_levels
IsSoundStage (stage.Digits constructed padded number) seen depth = (depth < most_levels) × (number ≤ 2 ^ 32)
IsSoundStage (stage.Length constructed) seen depth = depth < most_levels
IsSoundStage (stage.Size size left number) seen depth = (depth < most_levels) × (0 < left) × (number ≤ 2 ^ 32) × (seen ≤ most_octets)
IsSoundStage (stage.Contents left) seen depth = (depth < most_levels) × (0 < left)
IsSoundStage stage.Whole seen depth = Unit {0}
IsSoundStage (stage.Faulty place) seen depth = Unit {0}

-- what stands first is known
abbrev pub is_done : stages.ScanStage → Bool
is_done stage.Whole = true
is_done (stage.Faulty place) = true
is_done _ = false

abbrev pub first_value_of : stages.ScanStage → ℕ → FirstValue
first_value_of stage.Whole seen = Whole seen
first_value_of (stage.Faulty place) seen = Faulty place
first_value_of _ seen = Short

-- These are the first octets that it has seen, and what they say however they go on is what reading on says.
pub record HasSeen (s : Scanner) (octets : List ℕ) : Type 0 where
  pub sound : IsSoundStage s.stage s.seen s.depth
  pub within : s.seen ≤ length octets
  pub reads : (strict : Bool) (more : List ℕ) → front_at strict (take s.seen octets ++ more) ≡ outcome (resume s more)
