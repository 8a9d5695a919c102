-- Tags below 31, which stand in the first octet.
use Rattle.std.proofs.Common.{◌≡◌, ℕ, zero, suc, ◌+◌, ◌%◌, ◌<◌, Bool, true, false, ◌||◌, List, [], ◌∷◌, ◌++◌, length, Ok, sym, ap, ◌∙◌, arith, length-append, inl, inr}
use Rattle.std.specs.Prelude.{nat_lt, nat_eq, slice_index}
use Rattle.std.proofs.lemmas.Bool.{lt-ltb, eqb-true}
use Rattle.osi_base.specs.declared.layer_words.Kind.TheVariants.{Tag}
use Rattle.asn1_types.specs.declared.row.Class.{Class}
use Rattle.ber_spelling.specs.declared.fault.ReadFault.TheVariants as faults
use Rattle.ber_spelling.specs.declared.spot.Scope.{Scope}
use Rattle.asn1_types.specs.declared.row.Tag as tags
use Rattle.ber_spelling.specs.Reading.{Spot, Opened, within}
use Rattle.asn1_types.specs.Tags.{class_of}
use Rattle.ber_spelling.specs.Fields.{identifier_at, high_at, digits_at, is_lax, opened_at}
use Rattle.ber_spelling.specs.Spelling.{IsIdentifier, IsConstructed, IsWhole}
use Rattle.ber_spelling.proofs.Identifiers.{bind_ok, chosen_ok, unless_ok, ok_is}
use Rattle.ber_spelling.proofs.Heads.{Headed}
use Rattle.passed_fields.specs.Spelling.{HasTag}

-- what was read of the first octet: a tag below 31 is its own, and it tells of one that is
pub record FirstTells (first : ℕ) (o : Opened) : Type 0 where
  pub down : o.number < 31 → (o.class ≡ class_of first) × (o.number ≡ first % 32)
  pub up : first % 32 < 31 → (o.class ≡ class_of first) × (o.number ≡ first % 32)

pub first_tells : (scope : Scope) (place first : ℕ) (rest : List ℕ) (o : Opened) (s : Spot) → identifier_at scope place (first ∷ rest) ≡ Ok (o, s) → FirstTells first o
unfolding identifier_at high_at
first_tells scope place first rest o s e =
    let u = unless_ok (nat_eq scope.levels 0) (faults.TooDeep place) _ (o, s) e in
    let b = bind_ok (within scope place (place + 1)) _ (o, s) u.1 in
    elim (chosen_ok (nat_eq (first % 32) 31) _ _ (o, s) b.2) [
      | inl t ↦
          let high : first % 32 ≡ 31 = eqb-true (first % 32) 31 t.0 in
          let d = bind_ok (digits_at scope place 0 (place + 1) rest) _ (o, s) t.1 in
          let l = unless_ok (is_lax rest d.0.0) (faults.NotSpelled place Tag) _ (o, s) d.2 in
          let same = ok_is {A = Opened × Spot} (opened_at place (first ∷ rest) first d.0.0, d.0.1) (o, s) l.1 in
          let number : d.0.0 ≡ o.number = ap (λ (x : Opened × Spot). x.0.number) same in
          record {
            down = λ lt. absurd (not_low d.0.0 (nat_eq (slice_index rest 0) 128) (let k : d.0.0 < 31 = omega arith in k) l.0);
            up = λ lt. absurd (omega arith);
          }
      | inr t ↦
          let same = ok_is {A = Opened × Spot} (opened_at place (first ∷ rest) first (first % 32), record { place = place + 1; rest = rest }) (o, s) t.1 in
          let both : (o.class ≡ class_of first) × (o.number ≡ first % 32) = (ap (λ (x : Opened × Spot). x.0.class) (sym same), ap (λ (x : Opened × Spot). x.0.number) (sym same)) in
          record { down = λ lt. both; up = λ lt. both }
    ]
  where
    not_low : (n : ℕ) (b : Bool) → n < 31 → (nat_lt n 31 || b) ≡ false → ⊥
    not_low n b lt h = let wrong : true ≡ false = sym (ap (λ (x : Bool). x || b) (lt-ltb n 31 lt)) ∙ h in cc

-- ---- octets that are some

identifier_some : (class : Class) (constructed : Bool) (number : ℕ) (head : List ℕ) → IsIdentifier class constructed number head → 0 < length head
identifier_some class constructed number [] h = absurd h
identifier_some class constructed number (first ∷ digits) h = omega arith

front_some : (head tail text : List ℕ) → 0 < length head → text ≡ head ++ tail → 0 < length text
front_some head tail text some e = let len : length text ≡ length head + length tail = ap length e ∙ length-append head tail in omega arith

pub headed_some : (text : List ℕ) → Headed text → 0 < length text
headed_some text h = front_some h.head h.tail text (identifier_some h.class h.constructed h.number h.head h.is_identifier) h.are

pub constructed_some : (tag : tags.Tag) (strict : Bool) (levels : ℕ) (P : ℕ → List ℕ → Type 0) (text : List ℕ) → IsConstructed tag strict levels P text → 0 < length text
constructed_some tag strict levels P text p =
    elim p.form [
      | inl f ↦ front_some f.head (f.size ++ f.contents) text (identifier_some tag.class true tag.number f.head f.is_identifier) f.are
      | inr f ↦ front_some f.1.head (128 ∷ (f.1.contents ++ (0 ∷ 0 ∷ []))) text (identifier_some tag.class true tag.number f.1.head f.1.is_identifier) f.1.are
    ]

pub whole_some : (inner : ℕ) (text : List ℕ) → IsWhole inner text → 0 < length text
whole_some zero text w = absurd w
whole_some (suc inner) text (inl w) = front_some w.head (w.size ++ w.contents) text (identifier_some w.class w.constructed w.number w.head w.is_identifier) w.are
whole_some (suc inner) text (inr w) = front_some w.head (128 ∷ (w.contents ++ (0 ∷ 0 ∷ []))) text (identifier_some w.class true w.number w.head w.is_identifier) w.are

-- ---- the tag of a text that was read, and the other way round

pub text_tag : (scope : Scope) (place : ℕ) (rest : List ℕ) (o : Opened) (s : Spot) (text tail : List ℕ) → identifier_at scope place rest ≡ Ok (o, s) → rest ≡ text ++ tail → 0 < length text → o.number < 31 → HasTag o.class o.number text
text_tag scope place rest o s [] tail opens parts some low = absurd (omega arith)
text_tag scope place rest o s (first ∷ others) tail opens parts some low =
    let t = (first_tells scope place first (others ++ tail) o s (ap (identifier_at scope place) (sym parts) ∙ opens)).down low in
    record { low = low; class_is = sym t.0; number_is = sym t.1 }

pub tag_opens : (scope : Scope) (place : ℕ) (text rest : List ℕ) (first : ℕ) (others : List ℕ) (o : Opened) (s : Spot) (class : Class) (number : ℕ) → text ≡ first ∷ others → identifier_at scope place (text ++ rest) ≡ Ok (o, s) → HasTag class number text
    → (o.class ≡ class) × (o.number ≡ number)
tag_opens scope place text rest first others o s class number begins opens h =
    let is_first : slice_index text 0 ≡ first = ap (λ (x : List ℕ). slice_index x 0) begins in
    let low : first % 32 < 31 = let n = h.number_is in let l = h.low in omega arith in
    let t = (first_tells scope place first (others ++ rest) o s (ap (λ (x : List ℕ). identifier_at scope place (x ++ rest)) (sym begins) ∙ opens)).up low in
    (t.0 ∙ ap class_of (sym is_first) ∙ h.class_is, t.1 ∙ ap (λ (x : ℕ). x % 32) (sym is_first) ∙ h.number_is)
