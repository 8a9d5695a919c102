-- What one octet makes of a scanner.
use Rattle.std.specs.Prelude.{ℕ, ◌+◌, ◌-◌, ◌*◌, ◌%◌, Bool, ◌&&◌, ◌||◌, nat_lt, nat_le, nat_eq, if◌then◌else◌}
use Rattle.osi_base.specs.Limits.{most_octets, most_levels}
use Rattle.asn1_types.specs.Rows.{is_no_tag}
use Rattle.ber_spelling.specs.Fields.{is_constructed}
use Rattle.asn1_types.specs.Tags.{class_of, capped}
use Rattle.stream_front.specs.declared.scanner.Scanner.{Scanner}
use Rattle.stream_front.specs.declared.scanner.ScanStage.{ScanStage}
use Rattle.stream_front.specs.declared.scanner.ScanStage.TheVariants as stage
use Rattle.stream_front.specs.Resuming.{is_inside}

-- in the same field
abbrev pub on : Scanner → ScanStage → Scanner
on s kept = record { seen = s.seen + 1; field = s.field; depth = s.depth; stage = kept }

abbrev pub faulty_at : Scanner → ℕ → Scanner
faulty_at s place = on s (stage.Faulty place)

-- behind a field, inside so many
abbrev pub at_field : Scanner → ℕ → ScanStage → Scanner
at_field s depth kept = record { seen = s.seen + 1; field = s.seen + 1; depth = depth; stage = kept }

-- in a field that begins with this octet
abbrev pub in_field : Scanner → ScanStage → Scanner
in_field s kept = record { seen = s.seen + 1; field = s.seen; depth = s.depth; stage = kept }

-- within the limit of 262,144 octets
abbrev pub limited : Scanner → ℕ → Scanner → Scanner
limited s field further = if nat_lt most_octets (s.seen + 1) then faulty_at s field else further

-- behind a whole value or an end-of-contents
abbrev pub behind : Scanner → ℕ → Scanner
behind s depth = at_field s depth (if is_inside depth then stage.Next else stage.Whole)

-- contents of so many octets
abbrev pub contents : Scanner → ℕ → Scanner
contents s count = if nat_eq count 0 then behind s s.depth else at_field s s.depth (stage.Contents count)

-- a length whose contents end within the limit
abbrev pub announced : Scanner → ℕ → ℕ → Scanner
announced s field count = if nat_lt most_octets (s.seen + 1 + count) then faulty_at s field else contents s count

-- a value begins
abbrev pub begun : Scanner → ℕ → Scanner
begun s octet =
    if nat_eq (octet % 32) 31 then in_field s (stage.High (is_constructed octet))
    else (if is_no_tag (class_of octet) (octet % 32) then faulty_at s s.seen else at_field s s.depth (stage.Length (is_constructed octet)))

abbrev pub first_octet : Scanner → ℕ → Scanner
first_octet s octet =
    if nat_eq octet 0 && is_inside s.depth then limited s s.seen (in_field s stage.Zero)
    else (if nat_le most_levels s.depth then faulty_at s s.seen else limited s s.seen (begun s octet))

-- the second octet of an end-of-contents
abbrev pub second_zero : Scanner → ℕ → Scanner
second_zero s octet = if nat_eq octet 0 then limited s s.field (behind s (s.depth - 1)) else faulty_at s s.field

-- a digit of a tag number
abbrev pub digit : Scanner → Bool → Bool → ℕ → ℕ → Scanner
digit s constructed padded number octet =
    limited s s.field
    (if nat_lt octet 128 then (if nat_lt (capped (128 * number + octet)) 31 || padded then faulty_at s s.field else at_field s s.depth (stage.Length constructed))
    else on s (stage.Digits constructed padded (capped (128 * number + (octet - 128)))))

-- the first octet of a length
abbrev pub length_octet : Scanner → Bool → ℕ → Scanner
length_octet s constructed octet =
    limited s s.seen
    (if nat_lt octet 128 then announced s s.seen octet
    else (if nat_eq octet 128 then (if constructed then at_field s (s.depth + 1) stage.Next else faulty_at s s.seen)
    else (if nat_eq octet 255 then faulty_at s s.seen
    else in_field s (stage.Size (octet - 128) (octet - 128) 0))))

-- a further octet of a length
abbrev pub size_octet : Scanner → ℕ → ℕ → ℕ → ℕ → Scanner
size_octet s size left number octet =
    limited s s.field
    (if nat_eq left 1 then (if nat_lt 8 size then faulty_at s s.field else announced s s.field (256 * number + octet))
    else on s (stage.Size size (left - 1) (capped (256 * number + octet))))

-- an octet of contents
abbrev pub content : Scanner → ℕ → Scanner
content s left = if nat_eq left 1 then behind s s.depth else on s (stage.Contents (left - 1))

unfoldable pub step : Scanner → ℕ → Scanner
step s octet = elim s.stage [
  | stage.Next ↦ first_octet s octet
  | stage.Zero ↦ second_zero s octet
  | stage.High constructed ↦ digit s constructed (nat_eq octet 128) 0 octet
  | stage.Digits constructed padded number ↦ digit s constructed padded number octet
  | stage.Length constructed ↦ length_octet s constructed octet
  | stage.Size size left number ↦ size_octet s size left number octet
  | stage.Contents left ↦ content s left
  | stage.Whole ↦ s
  | stage.Faulty place ↦ s
]
