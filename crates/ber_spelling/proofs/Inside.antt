-- Reading stays inside the octets: a fault's place, and where reading goes on.
use Rattle.std.proofs.Common.{◌≡◌, ℕ, ◌+◌, ◌-◌, ◌*◌, ◌%◌, ◌≤◌, Bool, true, false, not, ◌&&◌, ◌||◌, cond, ltb, List, [], ◌∷◌, length, take, drop, Ok, Err, refl, arith}
use Rattle.std.specs.Prelude.{nat_lt, nat_eq}
use Rattle.std.proofs.lemmas.Bool.{ltb-false}
use Rattle.std.proofs.lemmas.List.{length-drop}
use Rattle.asn1_types.specs.Whole.{number_256}
use Rattle.ber_spelling.specs.declared.fault.ReadFault.TheVariants as faults
use Rattle.ber_spelling.specs.declared.spot.Scope.{Scope}
use Rattle.ber_spelling.specs.Reading.{Spot, Opened, Ahead, ended, begun, Reading, ◌>>=◌, is_past, within}
use Rattle.ber_spelling.specs.Fields.{digits_at, is_lax, high_at, identifier_at, announced_at, long_at, is_end, cut_off, lacking_from, definite_at, extent_at, contents_at, begin_at, second_zero_at, mark_at, look_at}
use Rattle.asn1_types.specs.Tags.{capped}

-- the octets from a spot on end here
abbrev pub EndsAt : ℕ → Spot → Type 0
EndsAt end s = s.place + length s.rest ≡ end

-- A fault has a place inside the octets, or they are too short; no other comes.
abbrev pub Inside : {A : Type 0} → (A → Type 0) → ℕ → Reading A → Type 0
Inside P end (Ok x) = P x
Inside P end (Err (faults.NotSpelled place kind)) = place ≤ end
Inside P end (Err faults.Short) = Unit {0}
Inside P end (Err (faults.TooDeep place)) = place ≤ end
Inside P end (Err (faults.TooLong place)) = place ≤ end
Inside P end (Err faults.NoMemory) = ⊥

pub Inside-bind : {A B : Type 0} (P : A → Type 0) (Q : B → Type 0) (end : ℕ) (r : Reading A) (f : A → Reading B) → Inside P end r → ((x : A) → P x → Inside Q end (f x)) → Inside Q end (r >>= f)
Inside-bind P Q end (Ok x) f a b = b x a
Inside-bind P Q end (Err (faults.NotSpelled place kind)) f a b = a
Inside-bind P Q end (Err faults.Short) f a b = tt
Inside-bind P Q end (Err (faults.TooDeep place)) f a b = a
Inside-bind P Q end (Err (faults.TooLong place)) f a b = a
Inside-bind P Q end (Err faults.NoMemory) f a b = a

pub Inside-cond : {B : Type 0} (Q : B → Type 0) (end : ℕ) (b : Bool) (r s : Reading B) → (b ≡ true → Inside Q end r) → (b ≡ false → Inside Q end s) → Inside Q end (cond b r s)
Inside-cond Q end true r s p q = p refl
Inside-cond Q end false r s p q = q refl

abbrev pub nowhere : Unit {0} → Type 0
nowhere u = Unit {0}

abbrev pub second : {A : Type 0} → ℕ → A × Spot → Type 0
second end x = EndsAt end x.1

pub within_inside : (scope : Scope) (place until end : ℕ) → place ≤ end → Inside nowhere end (within scope place until)
unfolding within
within_inside scope place until end le =
    Inside-cond nowhere end (nat_lt scope.limit until) _ _ (λ t. le) (λ t. Inside-cond nowhere end (is_past scope.end until) _ _ (λ t. le) (λ t. tt))

-- behind a field that stays within
pub then_inside : {B : Type 0} (Q : B → Type 0) (scope : Scope) (place until end : ℕ) (f : Unit {0} → Reading B) → place ≤ end → Inside Q end (f tt) → Inside Q end (within scope place until >>= f)
then_inside Q scope place until end f le h = Inside-bind nowhere Q end (within scope place until) f (within_inside scope place until end le) (λ u k. h)

cut_inside : {B : Type 0} (Q : B → Type 0) (scope : Scope) (place until end : ℕ) → place ≤ end → Inside Q end (cut_off {A = B} scope place until)
cut_inside Q scope place until end le = then_inside Q scope place until end (λ _. Err faults.Short) le tt

lacking_inside : {B : Type 0} (Q : B → Type 0) (scope : Scope) (place from end : ℕ) → place ≤ end → Inside Q end (lacking_from {A = B} scope place from)
lacking_inside Q scope place from end le = Inside-cond Q end (is_end scope.end from) _ _ (λ t. cut_inside Q scope place (from + 1) end le) (λ t. tt)

-- ---- identifiers

digits_inside : (scope : Scope) (place number from : ℕ) (digits : List ℕ) (end : ℕ) → place ≤ end → from + length digits ≡ end → Inside (second end) end (digits_at scope place number from digits)
unfolding digits_at
digits_inside scope place number from [] end le e = lacking_inside (second end) scope place from end le
digits_inside scope place number from (d ∷ ds) end le e =
    then_inside (second end) scope place (from + 1) end _ le
    (Inside-cond (second end) end (nat_lt d 128) _ _ (λ t. omega arith) (λ t. digits_inside scope place (capped (128 * number + (d - 128))) (from + 1) ds end le (omega arith)))

abbrev pub Begun : ℕ → Opened × Spot → Type 0
Begun end x = (x.0.start.place ≤ end) × EndsAt end x.1

high_inside : (scope : Scope) (place first : ℕ) (rest : List ℕ) (end : ℕ) → place + 1 + length rest ≡ end → Inside (Begun end) end (high_at scope place first rest)
unfolding high_at
high_inside scope place first rest end e =
    let le : place ≤ end = omega arith in
    Inside-bind (second end) (Begun end) end (digits_at scope place 0 (place + 1) rest) _ (digits_inside scope place 0 (place + 1) rest end le e) (λ x k.
    Inside-cond (Begun end) end (is_lax rest x.0) _ _ (λ t. le) (λ t. (le, k)))

pub identifier_inside : (scope : Scope) (place : ℕ) (rest : List ℕ) (end : ℕ) → place + length rest ≡ end → Inside (Begun end) end (identifier_at scope place rest)
unfolding identifier_at
identifier_inside scope place [] end e = tt
identifier_inside scope place (first ∷ rest) end e =
    let le : place ≤ end = omega arith in
    Inside-cond (Begun end) end (nat_eq scope.levels 0) _ _ (λ t. le) (λ t.
    then_inside (Begun end) scope place (place + 1) end _ le
    (Inside-cond (Begun end) end (nat_eq (first % 32) 31) _ _ (λ t. high_inside scope place first rest end (omega arith)) (λ t. (le, omega arith))))

-- ---- lengths

announced_inside : (scope : Scope) (place count : ℕ) (minimal : Bool) (from : ℕ) (rest : List ℕ) (end : ℕ) → place ≤ end → from + length rest ≡ end → Inside (second end) end (announced_at scope place count minimal from rest)
unfolding announced_at
announced_inside scope place count minimal from rest end le e =
    then_inside (second end) scope place (from + count) end _ le (Inside-cond (second end) end (scope.strict && not minimal) _ _ (λ t. le) (λ t. e))

long_inside : (scope : Scope) (place size : ℕ) (rest : List ℕ) (end : ℕ) → place + 1 + length rest ≡ end → Inside (second end) end (long_at scope place size rest)
unfolding long_at
long_inside scope place size rest end e =
    let le : place ≤ end = omega arith in
    Inside-cond (second end) end (ltb (length rest) size) _ _ (λ t. cut_inside (second end) scope place _ end le) (λ t.
    let enough : size ≤ length rest = ltb-false (length rest) size t in
    then_inside (second end) scope place (place + 1 + size) end _ le
    (Inside-cond (second end) end (nat_lt 8 size) _ _ (λ t. le) (λ t.
    announced_inside scope place (number_256 0 (take size rest)) _ (place + 1 + size) (drop size rest) end le (omega (arith, length-drop size rest)))))

definite_inside : (scope : Scope) (place : ℕ) (rest : List ℕ) (end : ℕ) → place + length rest ≡ end → Inside (second end) end (definite_at scope place rest)
unfolding definite_at
definite_inside scope place [] end e = lacking_inside (second end) scope place place end (omega arith)
definite_inside scope place (first ∷ rest) end e =
    let le : place ≤ end = omega arith in
    then_inside (second end) scope place (place + 1) end _ le
    (Inside-cond (second end) end (nat_lt first 128) _ _ (λ t. announced_inside scope place first true (place + 1) rest end le (omega arith)) (λ t.
    Inside-cond (second end) end (nat_eq first 128 || nat_eq first 255) _ _ (λ t. le) (λ t. long_inside scope place (first - 128) rest end (omega arith))))

pub extent_inside : (scope : Scope) (place : ℕ) (rest : List ℕ) (end : ℕ) → place + length rest ≡ end → Inside (second end) end (extent_at scope place rest)
unfolding extent_at
extent_inside scope place [] end e = lacking_inside (second end) scope place place end (omega arith)
extent_inside scope place (first ∷ rest) end e =
    let le : place ≤ end = omega arith in
    Inside-cond (second end) end (nat_eq first 128) _ _
    (λ t. then_inside (second end) scope place (place + 1) end _ le (Inside-cond (second end) end scope.strict _ _ (λ t. le) (λ t. omega arith)))
    (λ t. Inside-bind (second end) (second end) end (definite_at scope place (first ∷ rest)) _ (definite_inside scope place (first ∷ rest) end e) (λ x k. k))

abbrev pub Contained : ℕ → ℕ × List ℕ × Spot → Type 0
Contained end x = (x.0 ≤ end) × EndsAt end x.2

pub contents_inside : (scope : Scope) (place : ℕ) (rest : List ℕ) (end : ℕ) → place + length rest ≡ end → Inside (Contained end) end (contents_at scope place rest)
unfolding contents_at
contents_inside scope place rest end e =
    Inside-bind (second end) (Contained end) end (definite_at scope place rest) _ (definite_inside scope place rest end e) (λ x k.
    Inside-cond (Contained end) end (ltb (length x.1.rest) x.0) _ _ (λ t. tt) (λ t.
    let enough : x.0 ≤ length x.1.rest = ltb-false (length x.1.rest) x.0 t in
    (omega arith, omega (arith, length-drop x.0 x.1.rest))))

-- ---- the ends of contents

abbrev pub Looked : ℕ → Ahead → Type 0
Looked end (ended place after) = (place ≤ end) × EndsAt end after
Looked end (begun o s) = Begun end (o, s)

begin_inside : (scope : Scope) (place : ℕ) (rest : List ℕ) (end : ℕ) → place + length rest ≡ end → Inside (Looked end) end (begin_at scope place rest)
begin_inside scope place rest end e = Inside-bind (Begun end) (Looked end) end (identifier_at scope place rest) _ (identifier_inside scope place rest end e) (λ x k. k)

zero_inside : (scope : Scope) (place first : ℕ) (rest : List ℕ) (end : ℕ) → place + length (first ∷ rest) ≡ end → Inside (Looked end) end (second_zero_at scope place (first ∷ rest) rest)
zero_inside scope place first [] end e = tt
zero_inside scope place first (next ∷ rest) end e =
    let le : place ≤ end = omega arith in
    Inside-cond (Looked end) end (nat_eq next 0) _ _ (λ t. then_inside (Looked end) scope place (place + 2) end _ le (le, omega arith)) (λ t. begin_inside scope place (first ∷ next ∷ rest) end e)

mark_inside : (scope : Scope) (place : ℕ) (rest : List ℕ) (end : ℕ) → place + length rest ≡ end → Inside (Looked end) end (mark_at scope place rest)
mark_inside scope place [] end e = tt
mark_inside scope place (first ∷ rest) end e =
    Inside-cond (Looked end) end (nat_eq first 0) _ _
    (λ t. Inside-cond (Looked end) end (is_past scope.end (place + 2)) _ _ (λ t. cut_inside (Looked end) scope place (place + 2) end (omega arith)) (λ t. then_inside (Looked end) scope place (place + 1) end _ (omega arith) (zero_inside scope place first rest end e)))
    (λ t. begin_inside scope place (first ∷ rest) end e)

pub look_inside : (scope : Scope) (place : ℕ) (rest : List ℕ) (end : ℕ) → place + length rest ≡ end → Inside (Looked end) end (look_at scope place rest)
unfolding look_at
look_inside scope place rest end e =
    let le : place ≤ end = omega arith in
    Inside-cond (Looked end) end scope.marked _ _
    (λ t. Inside-cond (Looked end) end (is_end scope.end place) _ _ (λ t. cut_inside (Looked end) scope place (place + 1) end le) (λ t. mark_inside scope place rest end e))
    (λ t. Inside-cond (Looked end) end (is_end scope.end place) _ _ (λ t. (le, e)) (λ t. begin_inside scope place rest end e))
