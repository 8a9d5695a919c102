-- Lengths and contents that come octet by octet.
use Rattle.std.proofs.Common.{◌≡◌, ℕ, suc, ◌+◌, ◌*◌, ◌^◌, ◌<◌, ◌≤◌, inl, inr, Bool, true, false, List, [], ◌∷◌, length, take, drop, Ok, Err, refl, sym, ap, ◌∙◌, arith}
use Rattle.std.proofs.lemmas.Bool.Decides.{nat_tests}
use Rattle.std.specs.Prelude.{nat_lt, if◌then◌else◌}
use Rattle.osi_base.specs.declared.layer_words.Kind.TheVariants.{Length}
use Rattle.asn1_types.specs.Whole.{number_256}
use Rattle.ber_spelling.specs.declared.fault.ReadFault.TheVariants as faults
use Rattle.ber_spelling.specs.Reading.{Spot, Reading, ◌>>=◌, refuse}
use Rattle.ber_spelling.specs.Fields.{announced_at, definite_at, contents_at}
use Rattle.asn1_types.specs.Tags.{capped}
use Rattle.stream_front.specs.declared.first_value.FirstValue.TheVariants.{Short, Faulty}
use Rattle.stream_front.specs.Resuming.{End, spot, scope_in, goes_on, contents_left, counted, size_left, outcome}
use Rattle.stream_front.proofs.Shrinking.{bind_same}
use Rattle.stream_front.proofs.Turning.{bool_is, bind_bind}
use Rattle.stream_front.proofs.Fields.{past, within_limit}

-- ---- contents

-- nothing is left
pub none_left : (depth place : ℕ) (rest : List ℕ) → contents_left depth 0 place rest ≡ goes_on depth (spot place rest)
none_left depth place rest =
    let short : nat_lt (length rest) 0 ≡ false = grind (arith, nat_tests) in
    let same : place + 0 ≡ place = omega arith in
    rw (short, same) refl

pub one_less : (depth count place octet : ℕ) (rest : List ℕ) → contents_left depth (suc count) place (octet ∷ rest) ≡ contents_left depth count (place + 1) rest
one_less depth count place octet rest =
    let short : nat_lt (suc (length rest)) (suc count) ≡ nat_lt (length rest) count = grind (arith, nat_tests) in
    let same : place + suc count ≡ place + 1 + count = omega arith in
    rw (short, same) refl

-- ---- lengths

-- so many octets of contents follow
abbrev pub announced_then : ℕ → ℕ → ℕ → ℕ → List ℕ → Reading End
announced_then depth field count place rest =
    if nat_lt 262144 (place + count) then Err (faults.TooLong field) else contents_left depth count place rest

pub announced_by : (depth field count place : ℕ) (minimal : Bool) (rest : List ℕ) → (announced_at (scope_in depth) field count minimal place rest >>= counted depth) ≡ announced_then depth field count place rest
unfolding announced_at
announced_by depth field count place minimal rest =
    elim (bool_is (nat_lt 262144 (place + count))) [
      | inl h ↦ rw (h, past depth field (place + count) h) refl
      | inr h ↦ rw (h, within_limit depth field (place + count) h) refl
    ]

-- the octets behind a length
abbrev read_contents : ℕ × Spot → Reading (ℕ × List ℕ × Spot)
read_contents n = if nat_lt (length n.1.rest) n.0 then Err faults.Short else Ok (n.1.place, take n.0 n.1.rest, spot (n.1.place + n.0) (drop n.0 n.1.rest))

abbrev go_on : ℕ → ℕ × List ℕ × Spot → Reading End
go_on depth c = goes_on depth c.2

contents_then : (depth : ℕ) (n : ℕ × Spot) → (read_contents n >>= go_on depth) ≡ counted depth n
contents_then depth n =
    elim (bool_is (nat_lt (length n.1.rest) n.0)) [
      | inl h ↦ rw h refl
      | inr h ↦ rw h refl
    ]

pub contents_counted : (depth place : ℕ) (rest : List ℕ) → (contents_at (scope_in depth) place rest >>= λ c. goes_on depth c.2) ≡ (definite_at (scope_in depth) place rest >>= counted depth)
unfolding contents_at
contents_counted depth place rest =
    bind_bind (definite_at (scope_in depth) place rest) read_contents (go_on depth)
    ∙ bind_same (definite_at (scope_in depth) place rest) _ _ (λ n h. contents_then depth n)

-- so many octets of the length are left, of which none may be there
pub size_short : (depth field size left number place : ℕ) (rest : List ℕ) → nat_lt (length rest) left ≡ true
    → outcome (size_left depth field size left number place rest) ≡ (if nat_lt 262144 (place + length rest) then Faulty field else Short)
size_short depth field size left number place rest short =
    elim (bool_is (nat_lt 262144 (place + length rest))) [
      | inl h ↦ rw (short, h, past depth field (place + length rest) h) refl
      | inr h ↦ rw (short, h, within_limit depth field (place + length rest) h) refl
    ]

-- all of them are there
abbrev pub sized_then : ℕ → ℕ → ℕ → ℕ → ℕ → List ℕ → Reading End
sized_then depth field size number place rest =
    if nat_lt 262144 place then Err (faults.TooLong field)
    else (if nat_lt 8 size then refuse field Length else announced_then depth field number place rest)

pub size_there : (depth field size left number place : ℕ) (rest : List ℕ) → nat_lt (length rest) left ≡ false
    → size_left depth field size left number place rest ≡ sized_then depth field size (number_256 number (take left rest)) (place + left) (drop left rest)
size_there depth field size left number place rest there =
    elim (bool_is (nat_lt 262144 (place + left))) [
      | inl h ↦ rw (there, h, past depth field (place + left) h) refl
      | inr h ↦
          rw (there, h, within_limit depth field (place + left) h) (elim (bool_is (nat_lt 8 size)) [
            | inl k ↦ rw k refl
            | inr k ↦ rw k (announced_by depth field (number_256 number (take left rest)) (place + left) true (drop left rest))
          ])
    ]

-- an octet of the length lies past the limit
pub size_past : (depth field size left number place octet : ℕ) (rest : List ℕ) → 0 < left → nat_lt 262144 (place + 1) ≡ true
    → outcome (size_left depth field size left number place (octet ∷ rest)) ≡ Faulty field
size_past depth field size left number place octet rest some long =
    elim (bool_is (nat_lt (suc (length rest)) left)) [
      | inl h ↦
          let far : nat_lt 262144 (place + suc (length rest)) ≡ true = grind (arith, nat_tests) in
          size_short depth field size left number place (octet ∷ rest) h ∙ rw far refl
      | inr h ↦
          let far : nat_lt 262144 (place + left) ≡ true = grind (arith, nat_tests) in
          ap outcome (size_there depth field size left number place (octet ∷ rest) h) ∙ rw far refl
    ]

-- an octet that isn't the last
pub size_less : (depth field size left number place octet : ℕ) (rest : List ℕ) → 0 < left
    → outcome (size_left depth field size (suc left) number place (octet ∷ rest)) ≡ outcome (size_left depth field size left (256 * number + octet) (place + 1) rest)
size_less depth field size left number place octet rest some =
    let further : nat_lt (suc (length rest)) (suc left) ≡ nat_lt (length rest) left = grind (arith, nat_tests) in
    let there : place + suc (length rest) ≡ place + 1 + length rest = omega arith in
    let all : place + suc left ≡ place + 1 + left = omega arith in
    elim (bool_is (nat_lt (length rest) left)) [
      | inl h ↦
          size_short depth field size (suc left) number place (octet ∷ rest) (further ∙ h)
          ∙ rw there (sym (size_short depth field size left (256 * number + octet) (place + 1) rest h))
      | inr h ↦
          ap outcome (size_there depth field size (suc left) number place (octet ∷ rest) (further ∙ h))
          ∙ rw all (ap outcome (sym (size_there depth field size left (256 * number + octet) (place + 1) rest h)))
    ]

-- the last octet
pub size_last : (depth field size number place octet : ℕ) (rest : List ℕ)
    → size_left depth field size 1 number place (octet ∷ rest) ≡ sized_then depth field size (256 * number + octet) (place + 1) rest
size_last depth field size number place octet rest =
    let there : nat_lt (suc (length rest)) 1 ≡ false = grind (arith, nat_tests) in
    size_there depth field size 1 number place (octet ∷ rest) there

-- numbers past 32 bits are all too large
number_grows : (number : ℕ) (octets : List ℕ) → number ≤ number_256 number octets
number_grows number [] = omega arith
number_grows number (octet ∷ octets) = let i = number_grows (256 * number + octet) octets in omega arith

sized_large : (depth field size number place : ℕ) (rest : List ℕ) → 262144 < number
    → sized_then depth field size number place rest ≡ (if nat_lt 262144 place then Err (faults.TooLong field) else (if nat_lt 8 size then refuse field Length else Err (faults.TooLong field)))
sized_large depth field size number place rest large = let far : nat_lt 262144 (place + number) ≡ true = grind (arith, nat_tests) in rw far refl

pub size_capped : (depth field size left number place : ℕ) (rest : List ℕ)
    → outcome (size_left depth field size left number place rest) ≡ outcome (size_left depth field size left (capped number) place rest)
size_capped depth field size left number place rest =
    elim (bool_is (nat_lt (2 ^ 32) number)) [
      | inr k ↦ let same : number ≡ capped number = grind (arith, nat_tests) in ap (λ (n : ℕ). outcome (size_left depth field size left n place rest)) same
      | inl k ↦
          let large : 262144 < number = grind (arith, nat_tests) in
          let capped_large : 262144 < capped number = grind (arith, nat_tests) in
          let i = number_grows number (take left rest) in
          let j = number_grows (capped number) (take left rest) in
          elim (bool_is (nat_lt (length rest) left)) [
            | inl h ↦ size_short depth field size left number place rest h ∙ sym (size_short depth field size left (capped number) place rest h)
            | inr h ↦
                ap outcome (size_there depth field size left number place rest h ∙ sized_large depth field size _ (place + left) (drop left rest) (omega arith)
                ∙ sym (size_there depth field size left (capped number) place rest h ∙ sized_large depth field size _ (place + left) (drop left rest) (omega arith)))
          ]
    ]
