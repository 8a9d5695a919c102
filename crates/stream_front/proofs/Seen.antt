-- What a scanner has seen of octets.
use Rattle.std.proofs.Common.{◌≡◌, ℕ, zero, suc, ◌+◌, ◌-◌, ◌*◌, ◌%◌, ◌<◌, ◌≤◌, inl, inr, Bool, true, false, List, [], ◌∷◌, ◌++◌, length, take, drop, get_or, Some, Ok, Err, refl, sym, ap, ◌∙◌, arith, append_assoc, length-append}
use Rattle.std.proofs.lemmas.Bool.Decides.{nat_tests}
use Rattle.std.proofs.Math.ListN.{drop_of_length-le}
use Rattle.std.proofs.lemmas.Option.{slice_get_within, get_or_from_slice_get}
use Rattle.osi_base.specs.declared.layer_words.Kind.TheVariants.{Tag}
use Rattle.std.proofs.lemmas.List.{take_more, take-append-drop, take-append-le}
use Rattle.std.specs.Prelude.{nat_lt, nat_eq, slice_get, if◌then◌else◌}
use Rattle.asn1_types.specs.Value.{Value, any}
use Rattle.ber_spelling.specs.declared.fault.ReadFault.TheVariants as faults
use Rattle.ber_spelling.specs.Reading.{Spot, Opened, Reading, ◌>>=◌, within, refuse}
use Rattle.ber_spelling.specs.Fields.{identifier_at, high_at, digits_at, is_lax, opened_at, definite_at, contents_at, look_at}
use Rattle.asn1_types.specs.Tags.{capped}
use Rattle.ber_spelling.specs.Rules.{whole_at, any_at, reads, plain, value_at, read_at, outermost as outermost_scope}
use Rattle.stub_tables.specs.AnyValue.{any_value_rows, any_value_row}
use Rattle.stream_front.specs.declared.first_value.FirstValue.TheVariants.{Short, Whole, Faulty}
use Rattle.stream_front.specs.declared.scanner.Scanner.{Scanner}
use Rattle.stream_front.specs.declared.scanner.ScanStage as stages
use Rattle.stream_front.specs.declared.scanner.ScanStage.TheVariants as stage
use Rattle.stream_front.specs.Fronts.{front_of, front_at}
use Rattle.stream_front.specs.Resuming.{End, spot, scope_in, next_at, outcome, resume, is_done, first_value_of, IsSoundStage, HasSeen}
use Rattle.stream_front.specs.Steps as steps
use Rattle.stream_front.proofs.Turning.{bool_is, next_in}
use Rattle.stream_front.proofs.Lengths.{size_short}
use Rattle.stream_front.proofs.Octets.{step_is}
use Rattle.stream_front.proofs.Sound.{next}

-- ---- the whole reading

abbrev made : (End → Value) → End → Reading (Value × Spot)
made f w = Ok (f w, w.1)

abbrev with_place : Value × Spot → Reading (Value × ℕ)
with_place x = Ok (x.0, x.1.place)

whole_outcome : (r : Reading End) (f : End → Value) → front_of ((r >>= made f) >>= with_place) ≡ outcome r
whole_outcome (Ok x) f = refl
whole_outcome (Err e) f = refl

whole_lax : (strict : Bool) (o : Opened) (t : Spot) → whole_at 32 tt (outermost_scope 262144 strict) o t ≡ whole_at 32 tt (scope_in 0) o t
unfolding whole_at
whole_lax strict o t = refl

read_then : (strict : Bool) (x : Reading (Opened × Spot)) → front_of ((x >>= λ y. reads any_value_rows any_value_row plain (outermost_scope 262144 strict) y.0 y.1) >>= with_place)
    ≡ outcome (x >>= λ y. whole_at 32 tt (scope_in 0) y.0 y.1)
unfolding reads any_at
read_then strict (Ok y) = whole_outcome (whole_at 32 tt (outermost_scope 262144 strict) y.0 y.1) (λ w. any (take (length y.0.start.rest - length w.1.rest) y.0.start.rest)) ∙ ap outcome (whole_lax strict y.0 y.1)
read_then strict (Err e) = refl

digits_lax : (strict : Bool) (place number from : ℕ) (digits : List ℕ) → digits_at (outermost_scope 262144 strict) place number from digits ≡ digits_at (scope_in 0) place number from digits
unfolding digits_at within
digits_lax strict place number from [] = refl
digits_lax strict place number from (digit ∷ rest) =
    ap (λ (r : Reading (ℕ × Spot)). within (scope_in 0) place (from + 1) >>= λ _. (if nat_lt digit 128 then Ok (capped (128 * number + digit), spot (from + 1) rest) else r))
    (digits_lax strict place (capped (128 * number + (digit - 128))) (from + 1) rest)

high_lax : (strict : Bool) (place first : ℕ) (digits : List ℕ) → high_at (outermost_scope 262144 strict) place first digits ≡ high_at (scope_in 0) place first digits
unfolding high_at
high_lax strict place first digits =
    ap (λ (r : Reading (ℕ × Spot)). r >>= λ number. (if is_lax digits number.0 then refuse place Tag else Ok (opened_at place (first ∷ digits) first number.0, number.1)))
    (digits_lax strict place 0 (place + 1) digits)

identifier_lax : (strict : Bool) (octets : List ℕ) → identifier_at (outermost_scope 262144 strict) 0 octets ≡ identifier_at (scope_in 0) 0 octets
unfolding identifier_at within
identifier_lax strict [] = refl
identifier_lax strict (first ∷ rest) =
    ap (λ (r : Reading (Opened × Spot)). within (scope_in 0) 0 (0 + 1) >>= λ _. (if nat_eq (first % 32) 31 then r else Ok (opened_at 0 (first ∷ rest) first (first % 32), spot (0 + 1) rest)))
    (high_lax strict 0 first rest)

pub front_is : (strict : Bool) (octets : List ℕ) → front_at strict octets ≡ outcome (next_at 0 (spot 0 octets))
unfolding front_at read_at value_at
front_is strict octets =
    read_then strict (identifier_at (outermost_scope 262144 strict) 0 octets)
    ∙ ap (λ (x : Reading (Opened × Spot)). outcome (x >>= λ y. whole_at 32 tt (scope_in 0) y.0 y.1)) (identifier_lax strict octets)

-- ---- octets behind a stage

nothing_left : (seen field depth : ℕ) (kept : stages.ScanStage) → IsSoundStage kept seen depth → is_done kept ≡ false → outcome (resume (record { seen = seen; field = field; depth = depth; stage = kept }) []) ≡ Short
unfolding identifier_at digits_at contents_at definite_at look_at
nothing_left seen field zero stage.Next sound on = refl
nothing_left seen field (suc depth) stage.Next sound on = ap outcome (next_in depth (spot seen []))
nothing_left seen field depth stage.Zero sound on = refl
nothing_left seen field depth (stage.High constructed) sound on = refl
nothing_left seen field depth (stage.Digits constructed padded number) sound on = refl
nothing_left seen field depth (stage.Length constructed) sound on = refl
nothing_left seen field depth (stage.Size size left number) sound on =
    let short : nat_lt 0 left ≡ true = grind (arith, nat_tests, sound.1) in
    let near : nat_lt 262144 (seen + 0) ≡ false = grind (arith, nat_tests, sound.3) in
    size_short depth field size left number seen [] short ∙ rw near refl
nothing_left seen field depth (stage.Contents left) sound on = let short : nat_lt 0 left ≡ true = grind (arith, nat_tests, sound.1) in rw short refl
nothing_left seen field depth stage.Whole sound on = absurd (let wrong : true ≡ false = on in cc)
nothing_left seen field depth (stage.Faulty place) sound on = absurd (let wrong : true ≡ false = on in cc)

done_value : (seen field depth : ℕ) (kept : stages.ScanStage) (rest : List ℕ) → is_done kept ≡ true → first_value_of kept seen ≡ outcome (resume (record { seen = seen; field = field; depth = depth; stage = kept }) rest)
done_value seen field depth stage.Whole rest done = refl
done_value seen field depth (stage.Faulty place) rest done = refl
done_value seen field depth stage.Next rest done = absurd (let wrong : false ≡ true = done in cc)
done_value seen field depth stage.Zero rest done = absurd (let wrong : false ≡ true = done in cc)
done_value seen field depth (stage.High constructed) rest done = absurd (let wrong : false ≡ true = done in cc)
done_value seen field depth (stage.Digits constructed padded number) rest done = absurd (let wrong : false ≡ true = done in cc)
done_value seen field depth (stage.Length constructed) rest done = absurd (let wrong : false ≡ true = done in cc)
done_value seen field depth (stage.Size size left number) rest done = absurd (let wrong : false ≡ true = done in cc)
done_value seen field depth (stage.Contents left) rest done = absurd (let wrong : false ≡ true = done in cc)

short_value : (kept : stages.ScanStage) (seen : ℕ) → is_done kept ≡ false → first_value_of kept seen ≡ Short
short_value stage.Whole seen on = absurd (let wrong : true ≡ false = on in cc)
short_value (stage.Faulty place) seen on = absurd (let wrong : true ≡ false = on in cc)
short_value stage.Next seen on = refl
short_value stage.Zero seen on = refl
short_value (stage.High constructed) seen on = refl
short_value (stage.Digits constructed padded number) seen on = refl
short_value (stage.Length constructed) seen on = refl
short_value (stage.Size size left number) seen on = refl
short_value (stage.Contents left) seen on = refl

-- ---- what was seen

pub new_seen : (octets : List ℕ) → HasSeen (record { seen = 0; field = 0; depth = 0; stage = stage.Next }) octets
new_seen octets = record { sound = omega arith; within = omega arith; reads = λ strict more. front_is strict more }

pub more_seen : (s : Scanner) (octets more : List ℕ) → HasSeen s octets → HasSeen s (octets ++ more)
more_seen s octets more h =
    record {
      sound = h.sound;
      within = let i = length-append octets more in let j = h.within in omega arith;
      reads = λ strict rest. ap (λ (x : List ℕ). front_at strict (x ++ rest)) (take-append-le s.seen octets more h.within) ∙ h.reads strict rest;
    }

pub step_seen : (s : Scanner) (octets : List ℕ) (octet : ℕ) → HasSeen s octets → is_done s.stage ≡ false → s.seen < length octets → octet ≡ get_or octets s.seen 0 → HasSeen (steps.step s octet) octets
step_seen s octets octet h on lt e =
    let n = next s octet h.sound on in
    record {
      sound = n.sound;
      within = let j = n.seen in omega arith;
      reads = λ strict more.
          ap (λ (k : ℕ). front_at strict (take k octets ++ more)) n.seen
          ∙ ap (λ (x : List ℕ). front_at strict (x ++ more)) (take_more octets s.seen 0 lt)
          ∙ ap (front_at strict) (append_assoc (take s.seen octets) (get_or octets s.seen 0 ∷ []) more)
          ∙ h.reads strict (get_or octets s.seen 0 ∷ more)
          ∙ ap (λ (x : ℕ). outcome (resume s (x ∷ more))) (sym e)
          ∙ step_is s octet more h.sound;
    }

all_read : (s : Scanner) (octets : List ℕ) (strict : Bool) → HasSeen s octets → front_at strict octets ≡ outcome (resume s (drop s.seen octets))
all_read s octets strict h = ap (front_at strict) (sym (take-append-drop s.seen octets)) ∙ h.reads strict (drop s.seen octets)

pub value_done : (s : Scanner) (octets : List ℕ) (strict : Bool) → HasSeen s octets → is_done s.stage ≡ true → first_value_of s.stage s.seen ≡ front_at strict octets
value_done s octets strict h done = done_value s.seen s.field s.depth s.stage (drop s.seen octets) done ∙ sym (all_read s octets strict h)

pub value_all : (s : Scanner) (octets : List ℕ) (strict : Bool) → HasSeen s octets → length octets ≤ s.seen → first_value_of s.stage s.seen ≡ front_at strict octets
value_all s octets strict h all =
    elim (bool_is (is_done s.stage)) [
      | inl done ↦ value_done s octets strict h done
      | inr on ↦
          let none : drop s.seen octets ≡ [] = drop_of_length-le octets all in
          short_value s.stage s.seen on ∙ sym (all_read s octets strict h ∙ ap (λ (x : List ℕ). outcome (resume s x)) none ∙ nothing_left s.seen s.field s.depth s.stage h.sound on)
    ]

-- ---- the next octet

pub octet_seen : (s : Scanner) (octets : List ℕ) (octet : ℕ) → HasSeen s octets → is_done s.stage ≡ false → slice_get octets s.seen ≡ Some octet → HasSeen (steps.step s octet) octets
octet_seen s octets octet h on e = step_seen s octets octet h on (slice_get_within octets s.seen octet e) (sym (get_or_from_slice_get octets s.seen octet 0 e))

pub octet_less : (s : Scanner) (octets : List ℕ) (octet : ℕ) → HasSeen s octets → is_done s.stage ≡ false → slice_get octets s.seen ≡ Some octet
    → length octets - (steps.step s octet).seen < length octets - s.seen
octet_less s octets octet h on e = let n = (next s octet h.sound on).seen in let lt = slice_get_within octets s.seen octet e in omega arith
