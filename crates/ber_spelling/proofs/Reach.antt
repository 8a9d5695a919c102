-- Fields that end too early have no octet past the limit, and what is read of a field is within it.
use Rattle.std.proofs.Common.{◌≡◌, ℕ, ◌+◌, ◌-◌, ◌*◌, ◌%◌, ◌≤◌, ◌<◌, Bool, true, false, not, ◌&&◌, ◌||◌, cond, ltb, List, [], ◌∷◌, Option, Some, None, length, take, drop, Ok, Err, refl, arith}
use Rattle.std.specs.Prelude.{nat_lt, nat_eq}
use Rattle.std.proofs.lemmas.Bool.{ltb-false, ltb-true, lt-ltb, leb-true}
use Rattle.std.proofs.lemmas.List.{length-drop}
use Rattle.osi_base.specs.declared.layer_words.Kind.TheVariants.{Length}
use Rattle.asn1_types.specs.Whole.{number_256}
use Rattle.ber_spelling.specs.declared.fault.ReadFault.TheVariants as faults
use Rattle.ber_spelling.specs.declared.spot.Scope.{Scope}
use Rattle.ber_spelling.specs.Reading.{Spot, Opened, Ahead, ended, begun, Reading, ◌>>=◌, is_past, within}
use Rattle.ber_spelling.specs.Fields.{digits_at, is_lax, high_at, identifier_at, announced_at, sure_reach, long_at, is_end, cut_off, lacking_from, definite_at, extent_at, contents_at, begin_at, second_zero_at, mark_at, look_at}
use Rattle.asn1_types.specs.Tags.{capped}

-- Octets that end here are too short only where they end within the limit.
abbrev pub Bounded : {A : Type 0} → (A → Type 0) → ℕ → ℕ → Reading A → Type 0
Bounded P limit end (Ok x) = P x
Bounded P limit end (Err (faults.NotSpelled place kind)) = Unit {0}
Bounded P limit end (Err faults.Short) = end ≤ limit
Bounded P limit end (Err (faults.TooDeep place)) = Unit {0}
Bounded P limit end (Err (faults.TooLong place)) = Unit {0}
Bounded P limit end (Err faults.NoMemory) = Unit {0}

pub Bounded-bind : {A B : Type 0} (P : A → Type 0) (Q : B → Type 0) (limit end : ℕ) (r : Reading A) (f : A → Reading B) → Bounded P limit end r → ((x : A) → P x → Bounded Q limit end (f x)) → Bounded Q limit end (r >>= f)
Bounded-bind P Q limit end (Ok x) f a b = b x a
Bounded-bind P Q limit end (Err (faults.NotSpelled place kind)) f a b = tt
Bounded-bind P Q limit end (Err faults.Short) f a b = a
Bounded-bind P Q limit end (Err (faults.TooDeep place)) f a b = tt
Bounded-bind P Q limit end (Err (faults.TooLong place)) f a b = tt
Bounded-bind P Q limit end (Err faults.NoMemory) f a b = tt

pub Bounded-cond : {B : Type 0} (Q : B → Type 0) (limit end : ℕ) (b : Bool) (r s : Reading B) → (b ≡ true → Bounded Q limit end r) → (b ≡ false → Bounded Q limit end s) → Bounded Q limit end (cond b r s)
Bounded-cond Q limit end true r s p q = p refl
Bounded-cond Q limit end false r s p q = q refl

-- Reading stands at a place from here on, within the limit, in octets that end here.
pub record Stands (limit end from : ℕ) (s : Spot) : Type 0 where
  pub ends : s.place + length s.rest ≡ end
  pub onward : from ≤ s.place
  pub short : s.place ≤ limit

pub later : (limit end a b : ℕ) (s : Spot) → a ≤ b → Stands limit end b s → Stands limit end a s
later limit end a b s le h = record { ends = h.ends; onward = omega (arith, h.onward); short = h.short }

-- a spot in a scope of this limit
pub record StandsIn (limit end from : ℕ) (x : Scope × Spot) : Type 0 where
  pub same : x.0.limit ≡ limit
  pub spot : Stands limit end from x.1

abbrev pub second : {A : Type 0} → ℕ → ℕ → ℕ → A × Spot → Type 0
second limit end from x = Stands limit end from x.1

-- behind a field that stays within
pub then_bounded : {B : Type 0} (Q : B → Type 0) (limit end : ℕ) (scope : Scope) (place until : ℕ) (f : Unit {0} → Reading B) → scope.limit ≡ limit → (until ≤ limit → Bounded Q limit end (f tt)) → Bounded Q limit end (within scope place until >>= f)
unfolding within
then_bounded Q limit end scope place until f same h = by_tests (nat_lt scope.limit until) (is_past scope.end until) (λ t. h (omega (arith, ltb-false scope.limit until t)))
  where
    by_tests : (a b : Bool) → (a ≡ false → Bounded Q limit end (f tt)) → Bounded Q limit end (cond a (Err (faults.TooLong place)) (cond b (Err (faults.NotSpelled place Length)) (Ok tt)) >>= f)
    by_tests true b k = tt
    by_tests false true k = tt
    by_tests false false k = k refl

cut_bounded : {B : Type 0} (Q : B → Type 0) (limit end : ℕ) (scope : Scope) (place until : ℕ) → scope.limit ≡ limit → (until ≤ limit → end ≤ limit) → Bounded Q limit end (cut_off {A = B} scope place until)
cut_bounded Q limit end scope place until same h = then_bounded Q limit end scope place until (λ _. Err faults.Short) same h

-- no field ends past the end of the contents
past_bounded : {B : Type 0} (Q : B → Type 0) (limit end : ℕ) (scope : Scope) (place until : ℕ) → is_past scope.end until ≡ true → Bounded Q limit end (cut_off {A = B} scope place until)
unfolding within
past_bounded Q limit end scope place until e = by_tests (nat_lt scope.limit until) (is_past scope.end until) e
  where
    by_tests : (a b : Bool) → b ≡ true → Bounded Q limit end (cond a (Err (faults.TooLong place)) (cond b (Err (faults.NotSpelled place Length)) (Ok tt)) >>= λ (u : Unit {0}). Err faults.Short)
    by_tests true b k = tt
    by_tests false true k = tt
    by_tests false false k = absurd cc

ends_past : (end : Option ℕ) (place : ℕ) → is_end end place ≡ true → is_past end (place + 1) ≡ true
ends_past None place e = absurd cc
ends_past (Some n) place e = lt-ltb n (place + 1) (omega (arith, leb-true n place e))

lacking_bounded : {B : Type 0} (Q : B → Type 0) (limit end : ℕ) (scope : Scope) (place from : ℕ) → scope.limit ≡ limit → from ≡ end → from ≤ limit → Bounded Q limit end (lacking_from {A = B} scope place from)
lacking_bounded Q limit end scope place from same e le = Bounded-cond Q limit end (is_end scope.end from) _ _ (λ t. cut_bounded Q limit end scope place (from + 1) same (λ k. omega arith)) (λ t. omega arith)

-- ---- identifiers

digits_bounded : (limit end base : ℕ) (scope : Scope) (place number from : ℕ) (digits : List ℕ) → scope.limit ≡ limit → base ≤ from → from ≤ limit → from + length digits ≡ end → Bounded (second limit end base) limit end (digits_at scope place number from digits)
unfolding digits_at
digits_bounded limit end base scope place number from [] same lo le e = lacking_bounded (second limit end base) limit end scope place from same (omega arith) le
digits_bounded limit end base scope place number from (d ∷ ds) same lo le e =
    then_bounded (second limit end base) limit end scope place (from + 1) _ same (λ k.
    Bounded-cond (second limit end base) limit end (nat_lt d 128) _ _
    (λ t. record { ends = omega arith; onward = omega arith; short = k })
    (λ t. digits_bounded limit end base scope place (capped (128 * number + (d - 128))) (from + 1) ds same (omega arith) k (omega arith)))

high_bounded : (limit end base : ℕ) (scope : Scope) (place first : ℕ) (rest : List ℕ) → scope.limit ≡ limit → base ≤ place + 1 → place + 1 ≤ limit → place + 1 + length rest ≡ end → Bounded (second limit end base) limit end (high_at scope place first rest)
unfolding high_at
high_bounded limit end base scope place first rest same lo le e =
    Bounded-bind (second limit end base) (second limit end base) limit end (digits_at scope place 0 (place + 1) rest) _ (digits_bounded limit end base scope place 0 (place + 1) rest same lo le e) (λ x k.
    Bounded-cond (second limit end base) limit end (is_lax rest x.0) _ _ (λ t. tt) (λ t. k))

-- an identifier has an octet at least
pub identifier_bounded : (limit end : ℕ) (scope : Scope) (place : ℕ) (rest : List ℕ) → scope.limit ≡ limit → place ≤ limit → place + length rest ≡ end → Bounded (second limit end (place + 1)) limit end (identifier_at scope place rest)
unfolding identifier_at
identifier_bounded limit end scope place [] same le e = omega arith
identifier_bounded limit end scope place (first ∷ rest) same le e =
    let Q : Opened × Spot → Type 0 = second limit end (place + 1) in
    Bounded-cond Q limit end (nat_eq scope.levels 0) _ _ (λ t. tt) (λ t.
    then_bounded Q limit end scope place (place + 1) _ same (λ k.
    Bounded-cond Q limit end (nat_eq (first % 32) 31) _ _ (λ t. high_bounded limit end (place + 1) scope place first rest same (omega arith) k (omega arith)) (λ t. record { ends = omega arith; onward = omega arith; short = k })))

-- ---- lengths: what is announced ends within the limit

pub record Announced (limit end from : ℕ) (x : ℕ × Spot) : Type 0 where
  pub spot : Stands limit end from x.1
  pub all : x.1.place + x.0 ≤ limit

announced_bounded : (limit end base : ℕ) (scope : Scope) (place count : ℕ) (minimal : Bool) (from : ℕ) (rest : List ℕ) → scope.limit ≡ limit → base ≤ from → from + length rest ≡ end → Bounded (Announced limit end base) limit end (announced_at scope place count minimal from rest)
unfolding announced_at
announced_bounded limit end base scope place count minimal from rest same lo e =
    then_bounded (Announced limit end base) limit end scope place (from + count) _ same (λ k.
    Bounded-cond (Announced limit end base) limit end (scope.strict && not minimal) _ _ (λ t. tt) (λ t. record { spot = record { ends = e; onward = lo; short = omega arith }; all = k }))

reaches : (end : Option ℕ) (until there : ℕ) → there ≤ until → there ≤ sure_reach end until there
reaches end until there le = by_test (is_past end until)
  where
    by_test : (b : Bool) → there ≤ cond b until there
    by_test true = le
    by_test false = omega arith

long_bounded : (limit end base : ℕ) (scope : Scope) (place size : ℕ) (rest : List ℕ) → scope.limit ≡ limit → base ≤ place + 1 → place + 1 + length rest ≡ end → Bounded (Announced limit end base) limit end (long_at scope place size rest)
unfolding long_at
long_bounded limit end base scope place size rest same lo e =
    let Q : ℕ × Spot → Type 0 = Announced limit end base in
    Bounded-cond Q limit end (ltb (length rest) size) _ _
    (λ t. cut_bounded Q limit end scope place (sure_reach scope.end (place + 1 + size) (place + 1 + length rest)) same (λ k.
    let lack : length rest < size = ltb-true (length rest) size t in
    let r = reaches scope.end (place + 1 + size) (place + 1 + length rest) (omega arith) in
    omega (arith, r)))
    (λ t.
    let enough : size ≤ length rest = ltb-false (length rest) size t in
    then_bounded Q limit end scope place (place + 1 + size) _ same (λ k.
    Bounded-cond Q limit end (nat_lt 8 size) _ _ (λ t. tt) (λ t.
    announced_bounded limit end base scope place (number_256 0 (take size rest)) _ (place + 1 + size) (drop size rest) same (omega arith) (omega (arith, length-drop size rest)))))

definite_bounded : (limit end : ℕ) (scope : Scope) (place : ℕ) (rest : List ℕ) → scope.limit ≡ limit → place ≤ limit → place + length rest ≡ end → Bounded (Announced limit end place) limit end (definite_at scope place rest)
unfolding definite_at
definite_bounded limit end scope place [] same le e = lacking_bounded (Announced limit end place) limit end scope place place same (omega arith) le
definite_bounded limit end scope place (first ∷ rest) same le e =
    let Q : ℕ × Spot → Type 0 = Announced limit end place in
    then_bounded Q limit end scope place (place + 1) _ same (λ k.
    Bounded-cond Q limit end (nat_lt first 128) _ _ (λ t. announced_bounded limit end place scope place first true (place + 1) rest same (omega arith) (omega arith)) (λ t.
    Bounded-cond Q limit end (nat_eq first 128 || nat_eq first 255) _ _ (λ t. tt) (λ t. long_bounded limit end place scope place (first - 128) rest same (omega arith) (omega arith))))

pub extent_bounded : (limit end : ℕ) (scope : Scope) (place : ℕ) (rest : List ℕ) → scope.limit ≡ limit → place ≤ limit → place + length rest ≡ end → Bounded (StandsIn limit end place) limit end (extent_at scope place rest)
unfolding extent_at
extent_bounded limit end scope place [] same le e = lacking_bounded (StandsIn limit end place) limit end scope place place same (omega arith) le
extent_bounded limit end scope place (first ∷ rest) same le e =
    let Q : Scope × Spot → Type 0 = StandsIn limit end place in
    Bounded-cond Q limit end (nat_eq first 128) _ _
    (λ t. then_bounded Q limit end scope place (place + 1) _ same (λ k. Bounded-cond Q limit end scope.strict _ _ (λ t. tt) (λ t. record { same = same; spot = record { ends = omega arith; onward = omega arith; short = k } })))
    (λ t. Bounded-bind (Announced limit end place) Q limit end (definite_at scope place (first ∷ rest)) _ (definite_bounded limit end scope place (first ∷ rest) same le e) (λ x k. record { same = same; spot = k.spot }))

abbrev pub third : ℕ → ℕ → ℕ → ℕ × List ℕ × Spot → Type 0
third limit end from x = Stands limit end from x.2

pub contents_bounded : (limit end : ℕ) (scope : Scope) (place : ℕ) (rest : List ℕ) → scope.limit ≡ limit → place ≤ limit → place + length rest ≡ end → Bounded (third limit end place) limit end (contents_at scope place rest)
unfolding contents_at
contents_bounded limit end scope place rest same le e =
    let Q : ℕ × List ℕ × Spot → Type 0 = third limit end place in
    Bounded-bind (Announced limit end place) Q limit end (definite_at scope place rest) _ (definite_bounded limit end scope place rest same le e) (λ x k.
    Bounded-cond Q limit end (ltb (length x.1.rest) x.0) _ _
    (λ t. let lack : length x.1.rest < x.0 = ltb-true (length x.1.rest) x.0 t in omega (arith, k.all, k.spot.ends))
    (λ t.
    let enough : x.0 ≤ length x.1.rest = ltb-false (length x.1.rest) x.0 t in
    record { ends = omega (arith, k.spot.ends, length-drop x.0 x.1.rest); onward = omega (arith, k.spot.onward); short = k.all }))

-- ---- the ends of contents

-- what begins is an octet behind at least
abbrev pub Looked : ℕ → ℕ → ℕ → Ahead → Type 0
Looked limit end from (ended place after) = Stands limit end from after
Looked limit end from (begun o s) = Stands limit end (from + 1) s

begin_bounded : (limit end : ℕ) (scope : Scope) (place : ℕ) (rest : List ℕ) → scope.limit ≡ limit → place ≤ limit → place + length rest ≡ end → Bounded (Looked limit end place) limit end (begin_at scope place rest)
begin_bounded limit end scope place rest same le e = Bounded-bind (second limit end (place + 1)) (Looked limit end place) limit end (identifier_at scope place rest) _ (identifier_bounded limit end scope place rest same le e) (λ x k. k)

zero_bounded : (limit end : ℕ) (scope : Scope) (place first : ℕ) (rest : List ℕ) → scope.limit ≡ limit → place + 1 ≤ limit → place + length (first ∷ rest) ≡ end → Bounded (Looked limit end place) limit end (second_zero_at scope place (first ∷ rest) rest)
zero_bounded limit end scope place first [] same le e = omega arith
zero_bounded limit end scope place first (next ∷ rest) same le e =
    let Q : Ahead → Type 0 = Looked limit end place in
    Bounded-cond Q limit end (nat_eq next 0) _ _
    (λ t. then_bounded Q limit end scope place (place + 2) _ same (λ k. record { ends = omega arith; onward = omega arith; short = k }))
    (λ t. begin_bounded limit end scope place (first ∷ next ∷ rest) same (omega arith) e)

mark_bounded : (limit end : ℕ) (scope : Scope) (place : ℕ) (rest : List ℕ) → scope.limit ≡ limit → place ≤ limit → place + length rest ≡ end → Bounded (Looked limit end place) limit end (mark_at scope place rest)
mark_bounded limit end scope place [] same le e = omega arith
mark_bounded limit end scope place (first ∷ rest) same le e =
    let Q : Ahead → Type 0 = Looked limit end place in
    Bounded-cond Q limit end (nat_eq first 0) _ _
    (λ t. Bounded-cond Q limit end (is_past scope.end (place + 2)) _ _ (λ u. past_bounded Q limit end scope place (place + 2) u) (λ u. then_bounded Q limit end scope place (place + 1) _ same (λ k. zero_bounded limit end scope place first rest same k e)))
    (λ t. begin_bounded limit end scope place (first ∷ rest) same le e)

pub look_bounded : (limit end : ℕ) (scope : Scope) (place : ℕ) (rest : List ℕ) → scope.limit ≡ limit → place ≤ limit → place + length rest ≡ end → Bounded (Looked limit end place) limit end (look_at scope place rest)
unfolding look_at
look_bounded limit end scope place rest same le e =
    let Q : Ahead → Type 0 = Looked limit end place in
    Bounded-cond Q limit end scope.marked _ _
    (λ t. Bounded-cond Q limit end (is_end scope.end place) _ _ (λ u. past_bounded Q limit end scope place (place + 1) (ends_past scope.end place u)) (λ t. mark_bounded limit end scope place rest same le e))
    (λ t. Bounded-cond Q limit end (is_end scope.end place) _ _ (λ t. record { ends = e; onward = omega arith; short = le }) (λ t. begin_bounded limit end scope place rest same le e))
