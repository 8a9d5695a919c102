-- What holds of a scanner holds after one more octet.
use Rattle.std.proofs.Common.{◌≡◌, ℕ, zero, suc, ◌+◌, ◌-◌, ◌*◌, ◌%◌, ◌^◌, ◌<◌, ◌≤◌, Bool, true, false, ◌&&◌, ◌||◌, refl, arith}
use Rattle.std.proofs.lemmas.Bool.Decides.{nat_tests}
use Rattle.std.specs.Prelude.{nat_lt, nat_le, nat_eq, if◌then◌else◌}
use Rattle.asn1_types.specs.Rows.{is_no_tag}
use Rattle.ber_spelling.specs.Fields.{is_constructed}
use Rattle.asn1_types.specs.Tags.{class_of, capped}
use Rattle.stream_front.specs.declared.scanner.Scanner.{Scanner}
use Rattle.stream_front.specs.declared.scanner.ScanStage as stages
use Rattle.stream_front.specs.declared.scanner.ScanStage.TheVariants as stage
use Rattle.stream_front.specs.Resuming.{is_inside, is_done, IsSoundStage}
use Rattle.stream_front.specs.Steps as steps
use Rattle.stream_front.specs.Steps.{step}

-- it is sound, and it has seen one octet more
pub record IsNext (s t : Scanner) : Type 0 where
  pub sound : IsSoundStage t.stage t.seen t.depth
  pub seen : t.seen ≡ s.seen + 1

branch : (s : Scanner) (b : Bool) (x y : Scanner) → (b ≡ true → IsNext s x) → (b ≡ false → IsNext s y) → IsNext s (if b then x else y)
branch s true x y f g = f refl
branch s false x y f g = g refl

faulty : (s : Scanner) (place : ℕ) → IsNext s (steps.faulty_at s place)
faulty s place = record { sound = tt; seen = refl }

limit : (s : Scanner) (field : ℕ) (t : Scanner) → (s.seen + 1 ≤ 262144 → IsNext s t) → IsNext s (steps.limited s field t)
limit s field t f = branch s (nat_lt 262144 (s.seen + 1)) (steps.faulty_at s field) t (λ h. faulty s field) (λ h. f (grind (arith, nat_tests)))

behind : (s : Scanner) (depth : ℕ) → depth ≤ 32 → IsNext s (steps.behind s depth)
behind s zero le = record { sound = tt; seen = refl }
behind s (suc depth) le = record { sound = le; seen = refl }

contents : (s : Scanner) (count : ℕ) → s.depth < 32 → IsNext s (steps.contents s count)
contents s count lt =
    branch s (nat_eq count 0) (steps.behind s s.depth) (steps.at_field s s.depth (stage.Contents count)) (λ h. behind s s.depth (omega arith))
    (λ h. record { sound = (lt, grind (arith, nat_tests)); seen = refl })

announced : (s : Scanner) (field count : ℕ) → s.depth < 32 → IsNext s (steps.announced s field count)
announced s field count lt =
    branch s (nat_lt 262144 (s.seen + 1 + count)) (steps.faulty_at s field) (steps.contents s count) (λ h. faulty s field) (λ h. contents s count lt)

length_next : (s : Scanner) (constructed : Bool) → s.depth < 32 → IsNext s (steps.at_field s s.depth (stage.Length constructed))
length_next s constructed lt = record { sound = lt; seen = refl }

begun : (s : Scanner) (octet : ℕ) → s.depth < 32 → IsNext s (steps.begun s octet)
begun s octet lt =
    branch s (nat_eq (octet % 32) 31) _ _ (λ h. record { sound = lt; seen = refl })
    (λ h. branch s (is_no_tag (class_of octet) (octet % 32)) _ _ (λ k. faulty s s.seen) (λ k. length_next s (is_constructed octet) lt))

first : (s : Scanner) (octet : ℕ) → s.depth ≤ 32 → IsNext s (steps.first_octet s octet)
first s octet le =
    branch s (nat_eq octet 0 && is_inside s.depth) _ _ (λ h. limit s s.seen _ (λ k. record { sound = le; seen = refl }))
    (λ h. branch s (nat_le 32 s.depth) _ _ (λ k. faulty s s.seen) (λ k. limit s s.seen _ (λ l. begun s octet (grind (arith, nat_tests)))))

second : (s : Scanner) (octet : ℕ) → s.depth ≤ 32 → IsNext s (steps.second_zero s octet)
second s octet le = branch s (nat_eq octet 0) _ _ (λ h. limit s s.field _ (λ k. behind s (s.depth - 1) (omega arith))) (λ h. faulty s s.field)

small : (number : ℕ) → capped number ≤ 2 ^ 32
small number = grind arith

digit : (s : Scanner) (constructed padded : Bool) (number octet : ℕ) → s.depth < 32 → IsNext s (steps.digit s constructed padded number octet)
digit s constructed padded number octet lt =
    limit s s.field _
    (λ h.
    branch s (nat_lt octet 128) _ _
    (λ k. branch s (nat_lt (capped (128 * number + octet)) 31 || padded) _ _ (λ l. faulty s s.field) (λ l. length_next s constructed lt))
    (λ k. record { sound = (lt, small (128 * number + (octet - 128))); seen = refl }))

indefinite : (s : Scanner) (constructed : Bool) → s.depth < 32 → IsNext s (if constructed then steps.at_field s (s.depth + 1) stage.Next else steps.faulty_at s s.seen)
indefinite s constructed lt = branch s constructed _ _ (λ h. record { sound = omega arith; seen = refl }) (λ h. faulty s s.seen)

size : (s : Scanner) (octet : ℕ) → s.depth < 32 → s.seen + 1 ≤ 262144 → 0 < octet - 128
    → IsNext s (record { seen = s.seen + 1; field = s.seen; depth = s.depth; stage = stage.Size (octet - 128) (octet - 128) 0 })
size s octet lt within some = record { sound = (lt, some, omega arith, within); seen = refl }

length_octet : (s : Scanner) (constructed : Bool) (octet : ℕ) → s.depth < 32 → IsNext s (steps.length_octet s constructed octet)
length_octet s constructed octet lt =
    limit s s.seen _
    (λ h.
    branch s (nat_lt octet 128) _ _ (λ k. announced s s.seen octet lt)
    (λ k. branch s (nat_eq octet 128) _ _ (λ l. indefinite s constructed lt)
    (λ l. branch s (nat_eq octet 255) _ _ (λ m. faulty s s.seen) (λ m. size s octet lt h (grind (arith, nat_tests))))))

size_octet : (s : Scanner) (count left number octet : ℕ) → s.depth < 32 → 0 < left → IsNext s (steps.size_octet s count left number octet)
size_octet s count left number octet lt some =
    limit s s.field _
    (λ h.
    branch s (nat_eq left 1) _ _
    (λ k. branch s (nat_lt 8 count) _ _ (λ l. faulty s s.field) (λ l. announced s s.field (256 * number + octet) lt))
    (λ k. record { sound = (lt, grind (arith, nat_tests), small (256 * number + octet), h); seen = refl }))

content : (s : Scanner) (left : ℕ) → s.depth < 32 → 0 < left → IsNext s (steps.content s left)
content s left lt some =
    branch s (nat_eq left 1) _ _ (λ h. behind s s.depth (omega arith)) (λ h. record { sound = (lt, grind (arith, nat_tests)); seen = refl })

abbrev standing : ℕ → ℕ → ℕ → stages.ScanStage → Scanner
standing seen field depth kept = record { seen = seen; field = field; depth = depth; stage = kept }

next_at : (seen field depth : ℕ) (kept : stages.ScanStage) (octet : ℕ) → IsSoundStage kept seen depth → is_done kept ≡ false → IsNext (standing seen field depth kept) (step (standing seen field depth kept) octet)
unfolding step
next_at seen field depth stage.Next octet sound on = first (standing seen field depth stage.Next) octet sound
next_at seen field depth stage.Zero octet sound on = second (standing seen field depth stage.Zero) octet sound
next_at seen field depth (stage.High constructed) octet sound on = digit (standing seen field depth (stage.High constructed)) constructed (nat_eq octet 128) 0 octet sound
next_at seen field depth (stage.Digits constructed padded number) octet sound on = digit (standing seen field depth (stage.Digits constructed padded number)) constructed padded number octet sound.0
next_at seen field depth (stage.Length constructed) octet sound on = length_octet (standing seen field depth (stage.Length constructed)) constructed octet sound
next_at seen field depth (stage.Size count left number) octet sound on = size_octet (standing seen field depth (stage.Size count left number)) count left number octet sound.0 sound.1
next_at seen field depth (stage.Contents left) octet sound on = content (standing seen field depth (stage.Contents left)) left sound.0 sound.1
next_at seen field depth stage.Whole octet sound on = absurd (let wrong : true ≡ false = on in cc)
next_at seen field depth (stage.Faulty place) octet sound on = absurd (let wrong : true ≡ false = on in cc)

pub next : (s : Scanner) (octet : ℕ) → IsSoundStage s.stage s.seen s.depth → is_done s.stage ≡ false → IsNext s (step s octet)
next s octet sound on = next_at s.seen s.field s.depth s.stage octet sound on
