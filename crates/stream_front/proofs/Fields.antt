-- Fields that come octet by octet.
use Rattle.std.proofs.Common.{◌≡◌, ℕ, ◌+◌, ◌-◌, ◌%◌, ◌<◌, ◌≤◌, inl, inr, Bool, true, false, ◌&&◌, ◌||◌, List, ◌∷◌, Ok, Err, refl, sym, ap, ◌∙◌, arith}
use Rattle.std.proofs.lemmas.Bool.Decides.{nat_tests}
use Rattle.std.specs.Prelude.{nat_lt, nat_eq, slice_index, if◌then◌else◌}
use Rattle.osi_base.specs.declared.layer_words.Kind.TheVariants.{Tag}
use Rattle.asn1_types.specs.declared.row.Class.{Class}
use Rattle.asn1_types.specs.Rows.{is_no_tag, same_class}
use Rattle.asn1_types.specs.declared.row.Class.TheVariants.{Universal}
use Rattle.ber_spelling.specs.declared.fault.ReadFault.TheVariants as faults
use Rattle.ber_spelling.specs.Reading.{Spot, Opened, Reading, ◌>>=◌, within, refuse}
use Rattle.ber_spelling.specs.Fields.{identifier_at, high_at, digits_at, is_lax, opened_at, is_constructed}
use Rattle.asn1_types.specs.Tags.{class_of}
use Rattle.ber_spelling.specs.Rules.{whole_at}
use Rattle.ber_spelling.proofs.Turns.{whole_no_tag}
use Rattle.stream_front.specs.declared.first_value.FirstValue.TheVariants.{Faulty}
use Rattle.stream_front.specs.Resuming.{End, spot, scope_in, goes_on, length_at, number_then, outcome}
use Rattle.stream_front.proofs.Shrinking.{bind_same}
use Rattle.stream_front.proofs.Turning.{bool_is, bind_bind, whole_then}

pub past : (depth place until : ℕ) → nat_lt 262144 until ≡ true → within (scope_in depth) place until ≡ Err (faults.TooLong place)
unfolding within
past depth place until h = rw h refl

pub within_limit : (depth place until : ℕ) → nat_lt 262144 until ≡ false → within (scope_in depth) place until ≡ Ok tt
unfolding within
within_limit depth place until h = rw h refl

-- ---- identifiers

-- a value begins here, and goes on inside so many
abbrev pub begins_at : ℕ → ℕ → List ℕ → Reading End
begins_at depth place rest = identifier_at (scope_in depth) place rest >>= λ x. (whole_at (32 - depth) tt (scope_in depth) x.0 x.1 >>= λ y. goes_on depth y.1)

high_is_tag : (class : Class) (number : ℕ) (b : Bool) → (nat_lt number 31 || b) ≡ false → is_no_tag class number ≡ false
high_is_tag class number b h =
    elim (bool_is (nat_lt number 31)) [
      | inl k ↦ absurd (let wrong : true ≡ false = sym (ap (λ (x : Bool). x || b) k) ∙ h in cc)
      | inr k ↦ let some : nat_eq number 0 ≡ false = grind (arith, nat_tests) in rw some (never (same_class class Universal))
    ] where
      never : (a : Bool) → (a && false) ≡ false
      never true = refl
      never false = refl

-- the identifier behind its digits
abbrev numbered : ℕ → ℕ → List ℕ → ℕ × Spot → Reading (Opened × Spot)
numbered place octet more x = if is_lax more x.0 then refuse place Tag else Ok (opened_at place (octet ∷ more) octet x.0, x.1)

-- its value, and so on outwards
abbrev value_then : ℕ → Opened × Spot → Reading End
value_then depth x = whole_at (32 - depth) tt (scope_in depth) x.0 x.1 >>= λ y. goes_on depth y.1

number_by : (depth place octet : ℕ) (more : List ℕ) (x : ℕ × Spot) (b : Bool) → depth < 32 → is_lax more x.0 ≡ b
    → (numbered place octet more x >>= value_then depth) ≡ number_then depth (is_constructed octet) place (nat_eq (slice_index more 0) 128) x
number_by depth place octet more x true lt h = rw h refl
number_by depth place octet more x false lt h =
    rw h (whole_then depth (opened_at place (octet ∷ more) octet x.0) x.1 lt (high_is_tag (class_of octet) x.0 (nat_eq (slice_index more 0) 128) h))

high_then : (depth place octet : ℕ) (more : List ℕ) → depth < 32
    → (high_at (scope_in depth) place octet more >>= value_then depth)
    ≡ (digits_at (scope_in depth) place 0 (place + 1) more >>= λ x. number_then depth (is_constructed octet) place (nat_eq (slice_index more 0) 128) x)
unfolding high_at
high_then depth place octet more lt =
    bind_bind (digits_at (scope_in depth) place 0 (place + 1) more) (numbered place octet more) (value_then depth)
    ∙ bind_same (digits_at (scope_in depth) place 0 (place + 1) more) _ _ (λ x h. number_by depth place octet more x (is_lax more x.0) lt refl)

-- the identifier's first octet is there, within the limit
abbrev pub opened_then : ℕ → ℕ → ℕ → List ℕ → Reading End
opened_then depth place octet more =
    if nat_eq (octet % 32) 31 then (digits_at (scope_in depth) place 0 (place + 1) more >>= λ x. number_then depth (is_constructed octet) place (nat_eq (slice_index more 0) 128) x)
    else (if is_no_tag (class_of octet) (octet % 32) then refuse place Tag else length_at depth (is_constructed octet) (spot (place + 1) more))

low_then : (depth place octet : ℕ) (more : List ℕ) (b : Bool) → depth < 32 → is_no_tag (class_of octet) (octet % 32) ≡ b
    → (whole_at (32 - depth) tt (scope_in depth) (opened_at place (octet ∷ more) octet (octet % 32)) (spot (place + 1) more) >>= λ z. goes_on depth z.1)
    ≡ (if is_no_tag (class_of octet) (octet % 32) then refuse place Tag else length_at depth (is_constructed octet) (spot (place + 1) more))
low_then depth place octet more true lt h =
    ap (λ (r : Reading End). r >>= λ (z : End). goes_on depth z.1) (whole_no_tag (32 - depth) (scope_in depth) (opened_at place (octet ∷ more) octet (octet % 32)) (spot (place + 1) more) h) ∙ rw h refl
low_then depth place octet more false lt h = whole_then depth (opened_at place (octet ∷ more) octet (octet % 32)) (spot (place + 1) more) lt h ∙ rw h refl

pub begins_then : (depth place octet : ℕ) (more : List ℕ) → depth < 32 → nat_lt 262144 (place + 1) ≡ false → begins_at depth place (octet ∷ more) ≡ opened_then depth place octet more
unfolding identifier_at
begins_then depth place octet more lt short =
    let level : nat_eq (32 - depth) 0 ≡ false = grind (arith, nat_tests) in
    rw (level, within_limit depth place (place + 1) short) (elim (bool_is (nat_eq (octet % 32) 31)) [
      | inl h ↦ rw h (high_then depth place octet more lt)
      | inr h ↦ rw h (low_then depth place octet more (is_no_tag (class_of octet) (octet % 32)) lt refl)
    ])

pub begins_past : (depth place octet : ℕ) (more : List ℕ) → nat_lt 262144 (place + 1) ≡ true → outcome (begins_at depth place (octet ∷ more)) ≡ Faulty place
unfolding identifier_at
begins_past depth place octet more long =
    elim (bool_is (nat_eq (32 - depth) 0)) [
      | inl h ↦ rw h refl
      | inr h ↦ rw (h, past depth place (place + 1) long) refl
    ]

pub begins_deep : (depth place octet : ℕ) (more : List ℕ) → 32 ≤ depth → outcome (begins_at depth place (octet ∷ more)) ≡ Faulty place
unfolding identifier_at
begins_deep depth place octet more deep = let level : nat_eq (32 - depth) 0 ≡ true = grind (arith, nat_tests) in rw level refl
