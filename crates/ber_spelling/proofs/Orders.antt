-- The rank of the tag that octets begin with.
use Rattle.std.proofs.Common.{◌≡◌, ℕ, ◌+◌, ◌-◌, ◌*◌, ◌%◌, ◌^◌, ◌<◌, ◌≤◌, Bool, true, false, cond, List, [], ◌∷◌, ◌++◌, length, None, Ok, refl, ap, ◌∙◌, arith, inl, inr}
use Rattle.std.specs.Prelude.{nat_lt, nat_eq}
use Rattle.osi_base.specs.declared.layer_words.Kind.TheVariants.{Tag}
use Rattle.asn1_types.specs.declared.row.Class.{Class}
use Rattle.asn1_types.specs.declared.row.Class.TheVariants.{Universal, Application, Context, Private}
use Rattle.asn1_types.specs.Rows.{class_number}
use Rattle.ber_spelling.specs.declared.fault.ReadFault.TheVariants as faults
use Rattle.ber_spelling.specs.declared.spot.Scope.{Scope}
use Rattle.asn1_types.specs.declared.row.Tag as tags
use Rattle.ber_spelling.specs.Reading.{Spot, Opened, refuse, within}
use Rattle.ber_spelling.specs.Fields.{digits_at, opened_at, is_lax, high_at, identifier_at}
use Rattle.ber_spelling.specs.Spelling.{IsIdentifier}
use Rattle.asn1_types.specs.Writing.{identifier, length_octets, definite}
use Rattle.asn1_types.specs.Tags.{capped, class_of, rank, front_number, front_rank}
use Rattle.ber_spelling.proofs.Growing.{lacking_not_ok}
use Rattle.ber_spelling.proofs.Identifiers.{bind_ok, chosen_ok, unless_ok, ok_is, identifier_again}
use Rattle.ber_spelling.proofs.WrittenFields.{identifier_is}

digits_front : (scope : Scope) (place number from : ℕ) (ds : List ℕ) (n : ℕ) (s : Spot) → digits_at scope place number from ds ≡ Ok (n, s) → front_number number ds ≡ n
unfolding digits_at
digits_front scope place number from [] n s e = absurd (lacking_not_ok scope place from (n, s) e)
digits_front scope place number from (d ∷ ds) n s e =
    let b = bind_ok (within scope place (from + 1)) _ (n, s) e in
    elim (chosen_ok (nat_lt d 128) _ _ (n, s) b.2) [
      | inl t ↦
          let same = ok_is (capped (128 * number + d), record { place = from + 1; rest = ds }) (n, s) t.1 in
          rw t.0 (ap (λ (x : ℕ × Spot). x.0) same)
      | inr t ↦ rw t.0 (digits_front scope place (capped (128 * number + (d - 128))) (from + 1) ds n s t.1)
    ]

-- what is read as an identifier has its rank
pub front_read : (scope : Scope) (place : ℕ) (octets : List ℕ) (o : Opened) (s : Spot) → identifier_at scope place octets ≡ Ok (o, s) → front_rank octets ≡ rank o.class o.number
unfolding identifier_at high_at front_rank
front_read scope place [] o s e = absurd cc
front_read scope place (first ∷ rest) o s e =
    let l = unless_ok (nat_eq scope.levels 0) (faults.TooDeep place) _ (o, s) e in
    let w = bind_ok (within scope place (place + 1)) _ (o, s) l.1 in
    elim (chosen_ok (nat_eq (first % 32) 31) _ _ (o, s) w.2) [
      | inl t ↦
          let b = bind_ok (digits_at scope place 0 (place + 1) rest) (λ number. cond (is_lax rest number.0) (refuse place Tag) (Ok (opened_at place (first ∷ rest) first number.0, number.1))) (o, s) t.1 in
          let x : ℕ × Spot = b.0 in
          let u = unless_ok (is_lax rest x.0) (faults.NotSpelled place Tag) (Ok (opened_at place (first ∷ rest) first x.0, x.1)) (o, s) b.2 in
          let same = ok_is {A = Opened × Spot} (opened_at place (first ∷ rest) first x.0, x.1) (o, s) u.1 in
          rw t.0 (ap (rank (class_of first)) (digits_front scope place 0 (place + 1) rest x.0 x.1 b.1) ∙ ap (λ (y : Opened × Spot). rank y.0.class y.0.number) same)
      | inr t ↦
          let same = ok_is {A = Opened × Spot} (opened_at place (first ∷ rest) first (first % 32), record { place = place + 1; rest = rest }) (o, s) t.1 in
          rw t.0 (ap (λ (y : Opened × Spot). rank y.0.class y.0.number) same)
    ]

abbrev free : ℕ → Scope
free limit = record { levels = 1; limit = limit; end = None; marked = false; strict = false }

-- what begins with an identifier has its rank, whatever follows
pub front_head : (class : Class) (constructed : Bool) (number : ℕ) (head x : List ℕ) → IsIdentifier class constructed number head → front_rank (head ++ x) ≡ rank class number
front_head class constructed number head x h =
    let again = identifier_again (free (length head)) 0 class constructed number head x h (omega arith) (record { limit = omega arith; end = refl }) in
    front_read (free (length head)) 0 (head ++ x) _ _ again ∙ (let twice : capped (capped number) ≡ capped number = omega arith in ap (λ (n : ℕ). 2 ^ 33 * class_number class + n) twice)

-- what is written with a tag has its rank
pub definite_rank : (constructed : Bool) (tag : tags.Tag) (contents : List ℕ) → front_rank (definite constructed tag contents) ≡ rank tag.class tag.number
definite_rank constructed tag contents = front_head tag.class constructed tag.number (identifier tag.class constructed tag.number) (length_octets (length contents) ++ contents) (identifier_is tag.class constructed tag.number)

pub nothing_rank : front_rank [] ≡ 0
unfolding front_rank
nothing_rank = refl

pub rank_below : (class : Class) (number : ℕ) → rank class number < 2 ^ 35
rank_below Universal number = omega arith
rank_below Application number = omega arith
rank_below Context number = omega arith
rank_below Private number = omega arith

pub front_below : (octets : List ℕ) → front_rank octets < 2 ^ 35
unfolding front_rank
front_below [] = omega arith
front_below (first ∷ rest) = by_test (nat_eq (first % 32) 31)
  where
    by_test : (b : Bool) → cond b (rank (class_of first) (front_number 0 rest)) (rank (class_of first) (first % 32)) < 2 ^ 35
    by_test true = rank_below (class_of first) (front_number 0 rest)
    by_test false = rank_below (class_of first) (first % 32)

pub same_class_of : (a b : Class) (n m : ℕ) → rank a n ≡ rank b m → class_number a ≡ class_number b
same_class_of a b n m e = omega arith

pub class_is : (a b : Class) → class_number a ≡ class_number b → a ≡ b
class_is Universal Universal e = refl
class_is Universal Application e = absurd (omega arith)
class_is Universal Context e = absurd (omega arith)
class_is Universal Private e = absurd (omega arith)
class_is Application Universal e = absurd (omega arith)
class_is Application Application e = refl
class_is Application Context e = absurd (omega arith)
class_is Application Private e = absurd (omega arith)
class_is Context Universal e = absurd (omega arith)
class_is Context Application e = absurd (omega arith)
class_is Context Context e = refl
class_is Context Private e = absurd (omega arith)
class_is Private Universal e = absurd (omega arith)
class_is Private Application e = absurd (omega arith)
class_is Private Context e = absurd (omega arith)
class_is Private Private e = refl

-- two tags of one rank are one
pub rank_is : (a b : Class) (n m : ℕ) → n ≤ 2 ^ 32 → m ≤ 2 ^ 32 → rank a n ≡ rank b m → (a ≡ b) × (n ≡ m)
rank_is a b n m ln lm e = let same = same_class_of a b n m e in (class_is a b same, omega arith)

number_small : (number : ℕ) (ds : List ℕ) → number ≤ 2 ^ 32 → front_number number ds ≤ 2 ^ 32
number_small number [] le = le
number_small number (d ∷ ds) le = by_test (nat_lt d 128) (number_small (capped (128 * number + (d - 128))) ds (omega arith))
  where
    by_test : (b : Bool) → front_number (capped (128 * number + (d - 128))) ds ≤ 2 ^ 32 → cond b (capped (128 * number + d)) (front_number (capped (128 * number + (d - 128))) ds) ≤ 2 ^ 32
    by_test true h = omega arith
    by_test false h = h

-- numbers that are read have at most 33 bits
pub opened_small : (scope : Scope) (place : ℕ) (octets : List ℕ) (o : Opened) (s : Spot) → identifier_at scope place octets ≡ Ok (o, s) → o.number ≤ 2 ^ 32
unfolding identifier_at high_at
opened_small scope place [] o s e = absurd cc
opened_small scope place (first ∷ rest) o s e =
    let l = unless_ok (nat_eq scope.levels 0) (faults.TooDeep place) _ (o, s) e in
    let w = bind_ok (within scope place (place + 1)) _ (o, s) l.1 in
    elim (chosen_ok (nat_eq (first % 32) 31) _ _ (o, s) w.2) [
      | inl t ↦
          let b = bind_ok (digits_at scope place 0 (place + 1) rest) (λ number. cond (is_lax rest number.0) (refuse place Tag) (Ok (opened_at place (first ∷ rest) first number.0, number.1))) (o, s) t.1 in
          let x : ℕ × Spot = b.0 in
          let u = unless_ok (is_lax rest x.0) (faults.NotSpelled place Tag) (Ok (opened_at place (first ∷ rest) first x.0, x.1)) (o, s) b.2 in
          let same = ok_is {A = Opened × Spot} (opened_at place (first ∷ rest) first x.0, x.1) (o, s) u.1 in
          let number-is : x.0 ≡ o.number = ap (λ (y : Opened × Spot). y.0.number) same in
          let front-is = digits_front scope place 0 (place + 1) rest x.0 x.1 b.1 in
          let small = number_small 0 rest (omega arith) in
          omega arith
      | inr t ↦
          let same = ok_is {A = Opened × Spot} (opened_at place (first ∷ rest) first (first % 32), record { place = place + 1; rest = rest }) (o, s) t.1 in
          let number-is : first % 32 ≡ o.number = ap (λ (y : Opened × Spot). y.0.number) same in
          omega arith
    ]
