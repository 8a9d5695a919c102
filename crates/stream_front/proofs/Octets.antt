-- What one octet makes of a scanner is what reading makes of it.
use Rattle.std.proofs.Common.{◌≡◌, ℕ, zero, suc, ◌+◌, ◌-◌, ◌*◌, ◌%◌, ◌<◌, ◌≤◌, inl, inr, Bool, true, false, ◌&&◌, ◌||◌, List, [], ◌∷◌, length, take, drop, Ok, Err, refl, sym, ap, ◌∙◌, arith}
use Rattle.std.proofs.lemmas.Bool.Decides.{nat_tests}
use Rattle.std.specs.Prelude.{nat_lt, nat_le, nat_eq, if◌then◌else◌}
use Rattle.osi_base.specs.declared.layer_words.Kind.TheVariants.{Length}
use Rattle.asn1_types.specs.Rows.{is_no_tag}
use Rattle.asn1_types.specs.Whole.{number_256}
use Rattle.ber_spelling.specs.declared.fault.ReadFault.TheVariants as faults
use Rattle.ber_spelling.specs.Reading.{Spot, begun, Reading, ◌>>=◌, within}
use Rattle.ber_spelling.specs.Fields.{identifier_at, digits_at, definite_at, long_at, cut_off, begin_at, look_at, second_zero_at}
use Rattle.asn1_types.specs.Tags.{class_of, capped}
use Rattle.ber_spelling.specs.Rules.{whole_at}
use Rattle.stream_front.specs.declared.first_value.FirstValue.TheVariants.{Whole, Faulty}
use Rattle.stream_front.specs.declared.scanner.Scanner.{Scanner}
use Rattle.stream_front.specs.declared.scanner.ScanStage as stages
use Rattle.stream_front.specs.declared.scanner.ScanStage.TheVariants as stage
use Rattle.stream_front.specs.Resuming.{End, spot, scope_in, goes_on, next_at, zero_at, outermost, length_at, number_then, contents_left, counted, size_left, outcome, resume, IsSoundStage}
use Rattle.stream_front.specs.Steps as steps
use Rattle.stream_front.specs.Steps.{step}
use Rattle.stream_front.proofs.Shrinking.{bind_same}
use Rattle.stream_front.proofs.Turning.{bool_is, bind_bind, next_in, after_look}
use Rattle.stream_front.proofs.Fields.{past, within_limit, begins_at, opened_then, begins_then, begins_past, begins_deep}
use Rattle.stream_front.proofs.Lengths.{none_left, one_less, announced_then, announced_by, contents_counted, size_past, size_less, size_last, sized_then, size_capped}

-- a scanner at this stage
abbrev standing : ℕ → ℕ → ℕ → stages.ScanStage → Scanner
standing seen field depth kept = record { seen = seen; field = field; depth = depth; stage = kept }

and_false : (b : Bool) → (b && false) ≡ false
and_false true = refl
and_false false = refl

-- ---- behind a value

behind_is : (s : Scanner) (depth : ℕ) (rest : List ℕ) → goes_on depth (spot (s.seen + 1) rest) ≡ resume (steps.behind s depth) rest
behind_is s zero rest = refl
behind_is s (suc depth) rest = refl

contents_is : (s : Scanner) (count : ℕ) (rest : List ℕ) → contents_left s.depth count (s.seen + 1) rest ≡ resume (steps.contents s count) rest
contents_is s zero rest = none_left s.depth (s.seen + 1) rest ∙ behind_is s s.depth rest
contents_is s (suc count) rest = let some : nat_eq (suc count) 0 ≡ false = grind (arith, nat_tests) in rw some refl

announced_is : (s : Scanner) (field count : ℕ) (rest : List ℕ) → outcome (announced_then s.depth field count (s.seen + 1) rest) ≡ outcome (resume (steps.announced s field count) rest)
announced_is s field count rest =
    elim (bool_is (nat_lt 262144 (s.seen + 1 + count))) [
      | inl h ↦ rw h refl
      | inr h ↦ rw h (ap outcome (contents_is s count rest))
    ]

content_is : (s : Scanner) (left octet : ℕ) (rest : List ℕ) → 0 < left → contents_left s.depth left s.seen (octet ∷ rest) ≡ resume (steps.content s left) rest
content_is s zero octet rest some = absurd (omega arith)
content_is s (suc zero) octet rest some = one_less s.depth 0 s.seen octet rest ∙ none_left s.depth (s.seen + 1) rest ∙ behind_is s s.depth rest
content_is s (suc (suc left)) octet rest some =
    let more : nat_eq (suc (suc left)) 1 ≡ false = grind (arith, nat_tests) in
    let less : suc (suc left) - 1 ≡ suc left = omega arith in
    one_less s.depth (suc left) s.seen octet rest ∙ rw (more, less) refl

-- ---- lengths

last_is : (s : Scanner) (size number octet : ℕ) (rest : List ℕ) → nat_lt 262144 (s.seen + 1) ≡ false
    → outcome (sized_then s.depth s.field size (256 * number + octet) (s.seen + 1) rest)
    ≡ outcome (resume (if nat_lt 8 size then steps.faulty_at s s.field else steps.announced s s.field (256 * number + octet)) rest)
last_is s size number octet rest h =
    elim (bool_is (nat_lt 8 size)) [
      | inl k ↦ rw (h, k) refl
      | inr k ↦ rw (h, k) (announced_is s s.field (256 * number + octet) rest)
    ]

size_within : (s : Scanner) (size left number octet : ℕ) (rest : List ℕ) → 0 < left → nat_lt 262144 (s.seen + 1) ≡ false
    → outcome (size_left s.depth s.field size left number s.seen (octet ∷ rest))
    ≡ outcome (resume (if nat_eq left 1 then (if nat_lt 8 size then steps.faulty_at s s.field else steps.announced s s.field (256 * number + octet))
    else steps.on s (stage.Size size (left - 1) (capped (256 * number + octet)))) rest)
size_within s size zero number octet rest some h = absurd (omega arith)
size_within s size (suc zero) number octet rest some h = ap outcome (size_last s.depth s.field size number s.seen octet rest) ∙ last_is s size number octet rest h
size_within s size (suc (suc left)) number octet rest some h =
    let more : nat_eq (suc (suc left)) 1 ≡ false = grind (arith, nat_tests) in
    let less : suc (suc left) - 1 ≡ suc left = omega arith in
    size_less s.depth s.field size (suc left) number s.seen octet rest (omega arith)
    ∙ size_capped s.depth s.field size (suc left) (256 * number + octet) (s.seen + 1) rest ∙ rw (more, less) refl

size_is : (s : Scanner) (size left number octet : ℕ) (rest : List ℕ) → 0 < left
    → outcome (size_left s.depth s.field size left number s.seen (octet ∷ rest)) ≡ outcome (resume (steps.size_octet s size left number octet) rest)
size_is s size left number octet rest some =
    elim (bool_is (nat_lt 262144 (s.seen + 1))) [
      | inl h ↦ size_past s.depth s.field size left number s.seen octet rest some h ∙ rw h refl
      | inr h ↦ rw h (size_within s size left number octet rest some h)
    ]

cut_off_is : (depth field until : ℕ) → (cut_off {A = ℕ × Spot} (scope_in depth) field until >>= counted depth) ≡ cut_off (scope_in depth) field until
cut_off_is depth field until = bind_bind (within (scope_in depth) field until) _ _

long_is : (depth field size : ℕ) (rest : List ℕ) → (long_at (scope_in depth) field size rest >>= counted depth) ≡ size_left depth field size size 0 (field + 1) rest
unfolding long_at
long_is depth field size rest =
    elim (bool_is (nat_lt (length rest) size)) [
      | inl h ↦ rw h (cut_off_is depth field (field + 1 + length rest))
      | inr h ↦
          elim (bool_is (nat_lt 262144 (field + 1 + size))) [
            | inl k ↦ rw (h, past depth field (field + 1 + size) k) refl
            | inr k ↦
                rw (h, within_limit depth field (field + 1 + size) k) (elim (bool_is (nat_lt 8 size)) [
                  | inl l ↦ rw l refl
                  | inr l ↦ rw l (announced_by depth field (number_256 0 (take size rest)) (field + 1 + size) _ (drop size rest) ∙ sym (announced_by depth field (number_256 0 (take size rest)) (field + 1 + size) true (drop size rest)))
                ])
          ]
    ]

-- the first octet of a definite length
definite_is : (s : Scanner) (octet : ℕ) (rest : List ℕ) → nat_lt 262144 (s.seen + 1) ≡ false
    → outcome (definite_at (scope_in s.depth) s.seen (octet ∷ rest) >>= counted s.depth)
    ≡ outcome (resume (if nat_lt octet 128 then steps.announced s s.seen octet
    else (if nat_eq octet 128 then steps.faulty_at s s.seen
    else (if nat_eq octet 255 then steps.faulty_at s s.seen else standing (s.seen + 1) s.seen s.depth (stage.Size (octet - 128) (octet - 128) 0)))) rest)
unfolding definite_at
definite_is s octet rest h =
    rw (within_limit s.depth s.seen (s.seen + 1) h) (elim (bool_is (nat_lt octet 128)) [
      | inl a ↦ rw a (ap outcome (announced_by s.depth s.seen octet (s.seen + 1) true rest) ∙ announced_is s s.seen octet rest)
      | inr a ↦
          rw a (elim (bool_is (nat_eq octet 128)) [
            | inl b ↦ rw b refl
            | inr b ↦
                rw b (elim (bool_is (nat_eq octet 255)) [
                  | inl c ↦ rw c refl
                  | inr c ↦ rw c (ap outcome (long_is s.depth s.seen (octet - 128) rest))
                ])
          ])
    ])

definite_past : (depth place octet : ℕ) (rest : List ℕ) → nat_lt 262144 (place + 1) ≡ true → outcome (definite_at (scope_in depth) place (octet ∷ rest) >>= counted depth) ≡ Faulty place
unfolding definite_at
definite_past depth place octet rest h = rw (past depth place (place + 1) h) refl

-- an indefinite length
opened_is : (s : Scanner) (rest : List ℕ) → nat_lt 262144 (s.seen + 1) ≡ false
    → (within (scope_in s.depth) s.seen (s.seen + 1) >>= λ _. next_at (suc s.depth) (spot (s.seen + 1) rest)) ≡ resume (steps.at_field s (s.depth + 1) stage.Next) rest
opened_is s rest h =
    let one : s.depth + 1 ≡ suc s.depth = omega arith in
    rw (within_limit s.depth s.seen (s.seen + 1) h, one) refl

limited_is : (s : Scanner) (field : ℕ) (t : Scanner) (rest : List ℕ) → nat_lt 262144 (s.seen + 1) ≡ false → outcome (resume t rest) ≡ outcome (resume (steps.limited s field t) rest)
limited_is s field t rest h = rw h refl

same_branch : (b c : Bool) (x y z : Scanner) → (b && c) ≡ false → (if b then y else z) ≡ (if b then (if c then x else y) else z)
same_branch true true x y z h = absurd (let wrong : true ≡ false = h in cc)
same_branch true false x y z h = refl
same_branch false c x y z h = refl

abbrev further : Scanner → Bool → ℕ → Scanner
further s constructed octet =
    if nat_lt octet 128 then steps.announced s s.seen octet
    else (if nat_eq octet 128 then (if constructed then steps.at_field s (s.depth + 1) stage.Next else steps.faulty_at s s.seen)
    else (if nat_eq octet 255 then steps.faulty_at s s.seen else standing (s.seen + 1) s.seen s.depth (stage.Size (octet - 128) (octet - 128) 0)))

definite_by : (s : Scanner) (constructed : Bool) (octet : ℕ) (rest : List ℕ) → (nat_eq octet 128 && constructed) ≡ false
    → outcome (definite_at (scope_in s.depth) s.seen (octet ∷ rest) >>= counted s.depth) ≡ outcome (resume (steps.length_octet s constructed octet) rest)
definite_by s constructed octet rest m =
    elim (bool_is (nat_lt 262144 (s.seen + 1))) [
      | inl h ↦ definite_past s.depth s.seen octet rest h ∙ rw h refl
      | inr h ↦
          definite_is s octet rest h
          ∙ ap (λ (t : Scanner). outcome (resume (if nat_lt octet 128 then steps.announced s s.seen octet else t) rest))
          (same_branch (nat_eq octet 128) constructed (steps.at_field s (s.depth + 1) stage.Next) (steps.faulty_at s s.seen)
          (if nat_eq octet 255 then steps.faulty_at s s.seen else standing (s.seen + 1) s.seen s.depth (stage.Size (octet - 128) (octet - 128) 0)) m)
          ∙ limited_is s s.seen (further s constructed octet) rest h
    ]

indefinite_is : (s : Scanner) (rest : List ℕ)
    → outcome (within (scope_in s.depth) s.seen (s.seen + 1) >>= λ _. next_at (suc s.depth) (spot (s.seen + 1) rest)) ≡ outcome (resume (steps.length_octet s true 128) rest)
indefinite_is s rest =
    elim (bool_is (nat_lt 262144 (s.seen + 1))) [
      | inl h ↦ rw (h, past s.depth s.seen (s.seen + 1) h) refl
      | inr h ↦ ap outcome (opened_is s rest h) ∙ limited_is s s.seen (steps.at_field s (s.depth + 1) stage.Next) rest h
    ]

length_is : (s : Scanner) (constructed : Bool) (octet : ℕ) (rest : List ℕ) → outcome (length_at s.depth constructed (spot s.seen (octet ∷ rest))) ≡ outcome (resume (steps.length_octet s constructed octet) rest)
length_is s false octet rest =
    let plain : (nat_eq octet 128 && false) ≡ false = and_false (nat_eq octet 128) in
    rw plain (ap outcome (contents_counted s.depth s.seen (octet ∷ rest)) ∙ definite_by s false octet rest plain)
length_is s true octet rest =
    elim (bool_is (nat_eq octet 128)) [
      | inl h ↦ let e : octet ≡ 128 = grind (arith, nat_tests) in rw e (indefinite_is s rest)
      | inr h ↦
          let plain : (nat_eq octet 128 && true) ≡ false = rw h refl in
          rw plain (ap outcome (contents_counted s.depth s.seen (octet ∷ rest)) ∙ definite_by s true octet rest plain)
    ]

-- ---- identifiers

digit_is : (s : Scanner) (constructed padded : Bool) (number octet : ℕ) (rest : List ℕ)
    → outcome (digits_at (scope_in s.depth) s.field number s.seen (octet ∷ rest) >>= number_then s.depth constructed s.field padded) ≡ outcome (resume (steps.digit s constructed padded number octet) rest)
unfolding digits_at
digit_is s constructed padded number octet rest =
    elim (bool_is (nat_lt 262144 (s.seen + 1))) [
      | inl h ↦ rw (h, past s.depth s.field (s.seen + 1) h) refl
      | inr h ↦
          rw (h, within_limit s.depth s.field (s.seen + 1) h) (elim (bool_is (nat_lt octet 128)) [
            | inr k ↦ rw k refl
            | inl k ↦
                rw k (elim (bool_is (nat_lt (capped (128 * number + octet)) 31 || padded)) [
                  | inl l ↦ rw l refl
                  | inr l ↦ rw l refl
                ])
          ])
    ]

begun_is : (s : Scanner) (octet : ℕ) (rest : List ℕ) → outcome (opened_then s.depth s.seen octet rest) ≡ outcome (resume (steps.begun s octet) rest)
begun_is s octet rest =
    elim (bool_is (nat_eq (octet % 32) 31)) [
      | inl h ↦ rw h refl
      | inr h ↦
          rw h (elim (bool_is (is_no_tag (class_of octet) (octet % 32))) [
            | inl k ↦ rw k refl
            | inr k ↦ rw k refl
          ])
    ]

value_is : (s : Scanner) (octet : ℕ) (rest : List ℕ) → outcome (begins_at s.depth s.seen (octet ∷ rest))
    ≡ outcome (resume (if nat_le 32 s.depth then steps.faulty_at s s.seen else steps.limited s s.seen (steps.begun s octet)) rest)
value_is s octet rest =
    elim (bool_is (nat_le 32 s.depth)) [
      | inl d ↦ let deep : 32 ≤ s.depth = grind (arith, nat_tests) in begins_deep s.depth s.seen octet rest deep ∙ rw d refl
      | inr d ↦
          elim (bool_is (nat_lt 262144 (s.seen + 1))) [
            | inl h ↦ begins_past s.depth s.seen octet rest h ∙ rw (d, h) refl
            | inr h ↦
                let level : s.depth < 32 = grind (arith, nat_tests) in
                ap outcome (begins_then s.depth s.seen octet rest level h) ∙ rw (d, h) (begun_is s octet rest)
          ]
    ]

-- ---- what begins in contents

zero_then : (depth seen second : ℕ) (rest : List ℕ) → nat_lt 262144 (seen + 1) ≡ false
    → outcome (begins_at (suc depth) seen (0 ∷ second ∷ rest)) ≡ Faulty seen
zero_then depth seen second rest h =
    elim (bool_is (nat_le 32 (suc depth))) [
      | inl d ↦ let deep : 32 ≤ suc depth = grind (arith, nat_tests) in begins_deep (suc depth) seen 0 (second ∷ rest) deep
      | inr d ↦ let level : suc depth < 32 = grind (arith, nat_tests) in ap outcome (begins_then (suc depth) seen 0 (second ∷ rest) level h)
    ]

begin_then : (depth seen : ℕ) (octets : List ℕ) → (begin_at (scope_in (suc depth)) seen octets >>= after_look depth) ≡ begins_at (suc depth) seen octets
begin_then depth seen octets = bind_bind (identifier_at (scope_in (suc depth)) seen octets) _ _

zero_is : (depth seen : ℕ) (rest : List ℕ) → nat_lt 262144 (seen + 1) ≡ false
    → outcome (second_zero_at (scope_in (suc depth)) seen (0 ∷ rest) rest >>= after_look depth) ≡ outcome (zero_at (suc depth) seen (seen + 1) rest)
zero_is depth seen [] h = refl
zero_is depth seen (second ∷ rest) h =
    elim (bool_is (nat_eq second 0)) [
      | inr k ↦ rw k (ap outcome (begin_then depth seen (0 ∷ second ∷ rest)) ∙ zero_then depth seen second rest h)
      | inl k ↦
          let two : seen + 1 + 1 ≡ seen + 2 = omega arith in
          let less : suc depth - 1 ≡ depth = omega arith in
          rw (k, two, less) (ap outcome (bind_bind (within (scope_in (suc depth)) seen (seen + 2)) _ _))
    ]

inside_zero : (seen field depth : ℕ) (kept : stages.ScanStage) (rest : List ℕ)
    → outcome (look_at (scope_in (suc depth)) seen (0 ∷ rest) >>= after_look depth) ≡ outcome (resume (steps.first_octet (standing seen field (suc depth) kept) 0) rest)
unfolding look_at
inside_zero seen field depth kept rest =
    elim (bool_is (nat_lt 262144 (seen + 1))) [
      | inl h ↦ rw (h, past (suc depth) seen (seen + 1) h) refl
      | inr h ↦ rw (h, within_limit (suc depth) seen (seen + 1) h) (zero_is depth seen rest h)
    ]

inside_value : (seen field depth : ℕ) (kept : stages.ScanStage) (octet : ℕ) (rest : List ℕ) → nat_eq octet 0 ≡ false
    → outcome (look_at (scope_in (suc depth)) seen (octet ∷ rest) >>= after_look depth) ≡ outcome (resume (steps.first_octet (standing seen field (suc depth) kept) octet) rest)
unfolding look_at
inside_value seen field depth kept octet rest h =
    rw h (ap outcome (begin_then depth seen (octet ∷ rest)) ∙ value_is (standing seen field (suc depth) kept) octet rest)

inside_is : (seen field depth : ℕ) (kept : stages.ScanStage) (octet : ℕ) (rest : List ℕ)
    → outcome (look_at (scope_in (suc depth)) seen (octet ∷ rest) >>= after_look depth) ≡ outcome (resume (steps.first_octet (standing seen field (suc depth) kept) octet) rest)
inside_is seen field depth kept octet rest =
    elim (bool_is (nat_eq octet 0)) [
      | inl h ↦ let e : octet ≡ 0 = grind (arith, nat_tests) in rw e (inside_zero seen field depth kept rest)
      | inr h ↦ inside_value seen field depth kept octet rest h
    ]

end_same : (r : Reading End) → r ≡ (r >>= λ y. goes_on 0 y.1)
end_same (Ok x) = refl
end_same (Err e) = refl

outermost_is : (seen : ℕ) (octets : List ℕ) → outermost (spot seen octets) ≡ begins_at 0 seen octets
outermost_is seen octets = bind_same (identifier_at (scope_in 0) seen octets) _ _ (λ x h. end_same (whole_at 32 tt (scope_in 0) x.0 x.1))

first_is : (seen field depth : ℕ) (kept : stages.ScanStage) (octet : ℕ) (rest : List ℕ)
    → outcome (next_at depth (spot seen (octet ∷ rest))) ≡ outcome (resume (steps.first_octet (standing seen field depth kept) octet) rest)
first_is seen field zero kept octet rest =
    ap outcome (outermost_is seen (octet ∷ rest)) ∙ rw (and_false (nat_eq octet 0)) (value_is (standing seen field 0 kept) octet rest)
first_is seen field (suc depth) kept octet rest = ap outcome (next_in depth (spot seen (octet ∷ rest))) ∙ inside_is seen field depth kept octet rest

second_is : (s : Scanner) (octet : ℕ) (rest : List ℕ) → outcome (zero_at s.depth s.field s.seen (octet ∷ rest)) ≡ outcome (resume (steps.second_zero s octet) rest)
second_is s octet rest =
    elim (bool_is (nat_eq octet 0)) [
      | inr k ↦ rw k refl
      | inl k ↦
          elim (bool_is (nat_lt 262144 (s.seen + 1))) [
            | inl h ↦ rw (k, h, past s.depth s.field (s.seen + 1) h) refl
            | inr h ↦ rw (k, h, within_limit s.depth s.field (s.seen + 1) h) (ap outcome (behind_is s (s.depth - 1) rest))
          ]
    ]

-- ---- each stage

step_at : (seen field depth : ℕ) (kept : stages.ScanStage) (octet : ℕ) (rest : List ℕ) → IsSoundStage kept seen depth
    → outcome (resume (standing seen field depth kept) (octet ∷ rest)) ≡ outcome (resume (step (standing seen field depth kept) octet) rest)
unfolding step
step_at seen field depth stage.Next octet rest sound = first_is seen field depth stage.Next octet rest
step_at seen field depth stage.Zero octet rest sound = second_is (standing seen field depth stage.Zero) octet rest
step_at seen field depth (stage.High constructed) octet rest sound = digit_is (standing seen field depth (stage.High constructed)) constructed (nat_eq octet 128) 0 octet rest
step_at seen field depth (stage.Digits constructed padded number) octet rest sound =
    digit_is (standing seen field depth (stage.Digits constructed padded number)) constructed padded number octet rest
step_at seen field depth (stage.Length constructed) octet rest sound = length_is (standing seen field depth (stage.Length constructed)) constructed octet rest
step_at seen field depth (stage.Size size left number) octet rest sound =
    size_is (standing seen field depth (stage.Size size left number)) size left number octet rest sound.1
step_at seen field depth (stage.Contents left) octet rest sound = ap outcome (content_is (standing seen field depth (stage.Contents left)) left octet rest sound.1)
step_at seen field depth stage.Whole octet rest sound = refl
step_at seen field depth (stage.Faulty place) octet rest sound = refl

pub step_is : (s : Scanner) (octet : ℕ) (rest : List ℕ) → IsSoundStage s.stage s.seen s.depth → outcome (resume s (octet ∷ rest)) ≡ outcome (resume (step s octet) rest)
step_is s octet rest sound = step_at s.seen s.field s.depth s.stage octet rest sound
