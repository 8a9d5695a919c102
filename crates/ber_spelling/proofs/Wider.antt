-- Under a larger limit a field is read as it was, unless it was too long.
use Rattle.std.proofs.Common.{◌≡◌, ◌≤◌, ℕ, ◌+◌, ◌-◌, ◌*◌, ◌%◌, Bool, true, false, not, ◌&&◌, ◌||◌, cond, ltb, List, [], ◌∷◌, length, take, drop, Ok, Err, refl, sym, ap, arith}
use Rattle.std.proofs.lemmas.Bool.{le-ltb, ltb-false}
use Rattle.std.specs.Prelude.{nat_lt, nat_eq}
use Rattle.osi_base.specs.declared.layer_words.Kind.TheVariants.{Length, Form}
use Rattle.asn1_types.specs.Whole.{number_256}
use Rattle.ber_spelling.specs.declared.fault.ReadFault.TheVariants as faults
use Rattle.ber_spelling.specs.declared.spot.Scope.{Scope}
use Rattle.ber_spelling.specs.Reading.{Spot, Reading, ◌>>=◌, refuse, is_past, within}
use Rattle.asn1_types.specs.Tags.{capped}
use Rattle.ber_spelling.specs.Fields.{digits_at, is_lax, high_at, identifier_at, announced_at, long_at, is_end, cut_off, lacking_from, lacking, inside, sure_reach, definite_at, extent_at, contents_at, begin_at, second_zero_at, mark_at, look_at}

-- a scope with another limit
abbrev pub wide : ℕ → Scope → Scope
wide m scope = record { levels = scope.levels; limit = m; end = scope.end; marked = scope.marked; strict = scope.strict }

-- What was read, and what is read under a larger limit: the same, seen by a function, unless it was too long.
abbrev pub Wider : {A : Type 0} → (A → A) → Reading A → Reading A → Type 0
Wider g (Ok x) read = read ≡ Ok (g x)
Wider g (Err (faults.NotSpelled place kind)) read = read ≡ Err (faults.NotSpelled place kind)
Wider g (Err faults.Short) read = read ≡ Err faults.Short
Wider g (Err (faults.TooDeep place)) read = read ≡ Err (faults.TooDeep place)
Wider g (Err (faults.TooLong place)) read = Unit {0}
Wider g (Err faults.NoMemory) read = read ≡ Err faults.NoMemory

abbrev pub same : {A : Type 0} → A → A
same x = x

pub Wider-bind : {A B : Type 0} (g : A → A) (h : B → B) (r s : Reading A) (f k : A → Reading B) → Wider g r s → ((x : A) → r ≡ Ok x → Wider h (f x) (k (g x))) → Wider h (r >>= f) (s >>= k)
Wider-bind g h (Ok x) s f k a b = rw a (b x refl)
Wider-bind g h (Err (faults.NotSpelled place kind)) s f k a b = rw a refl
Wider-bind g h (Err faults.Short) s f k a b = rw a refl
Wider-bind g h (Err (faults.TooDeep place)) s f k a b = rw a refl
Wider-bind g h (Err (faults.TooLong place)) s f k a b = tt
Wider-bind g h (Err faults.NoMemory) s f k a b = rw a refl

-- a step that asks for no limit
pub Wider-same : {A B : Type 0} (h : B → B) (r : Reading A) (f k : A → Reading B) → ((x : A) → Wider h (f x) (k x)) → Wider h (r >>= f) (r >>= k)
Wider-same h (Ok x) f k b = b x
Wider-same h (Err (faults.NotSpelled place kind)) f k b = refl
Wider-same h (Err faults.Short) f k b = refl
Wider-same h (Err (faults.TooDeep place)) f k b = refl
Wider-same h (Err (faults.TooLong place)) f k b = tt
Wider-same h (Err faults.NoMemory) f k b = refl

pub Wider-cond : {B : Type 0} (h : B → B) (b : Bool) (r s x y : Reading B) → (b ≡ true → Wider h r x) → (b ≡ false → Wider h s y) → Wider h (cond b r s) (cond b x y)
Wider-cond h true r s x y p q = p refl
Wider-cond h false r s x y p q = q refl

pub Wider-refl : {A : Type 0} (r : Reading A) → Wider same r r
Wider-refl (Ok x) = refl
Wider-refl (Err (faults.NotSpelled place kind)) = refl
Wider-refl (Err faults.Short) = refl
Wider-refl (Err (faults.TooDeep place)) = refl
Wider-refl (Err (faults.TooLong place)) = tt
Wider-refl (Err faults.NoMemory) = refl

abbrev passed : Reading (Unit {0})
passed = Ok tt

test_wide : (m place until : ℕ) (t b : Bool) → (t ≡ false → nat_lt m until ≡ false)
    → Wider {A = Unit {0}} same (cond t (Err (faults.TooLong place)) (cond b (refuse place Length) passed)) (cond (nat_lt m until) (Err (faults.TooLong place)) (cond b (refuse place Length) passed))
test_wide m place until true b k = tt
test_wide m place until false true k = rw (k refl) refl
test_wide m place until false false k = rw (k refl) refl

low_wide : (limit m until : ℕ) → limit ≤ m → nat_lt limit until ≡ false → nat_lt m until ≡ false
low_wide limit m until le t = le-ltb m until (let low : until ≤ limit = ltb-false limit until t in omega arith)

pub within_wide : (m : ℕ) (scope : Scope) (place until : ℕ) → scope.limit ≤ m → Wider same (within scope place until) (within (wide m scope) place until)
unfolding within
within_wide m scope place until le = test_wide m place until (nat_lt scope.limit until) (is_past scope.end until) (low_wide scope.limit m until le)

-- behind a field that stays within
then_wide : {B : Type 0} (h : B → B) (m : ℕ) (scope : Scope) (place until : ℕ) (f k : Unit {0} → Reading B) → scope.limit ≤ m → Wider h (f tt) (k tt) → Wider h (within scope place until >>= f) (within (wide m scope) place until >>= k)
then_wide h m scope place until f k le b = Wider-bind same h (within scope place until) (within (wide m scope) place until) f k (within_wide m scope place until le) (λ u e. b)

cut_wide : (A : Type 0) (m : ℕ) (scope : Scope) (place until : ℕ) → scope.limit ≤ m → Wider {A = A} same (cut_off scope place until) (cut_off (wide m scope) place until)
cut_wide A m scope place until le = then_wide same m scope place until (λ _. Err faults.Short) (λ _. Err faults.Short) le refl

lacking_wide : (A : Type 0) (m : ℕ) (scope : Scope) (place from : ℕ) → scope.limit ≤ m → Wider {A = A} same (lacking_from scope place from) (lacking_from (wide m scope) place from)
lacking_wide A m scope place from le = Wider-cond same (is_end scope.end from) _ _ _ _ (λ t. cut_wide A m scope place (from + 1) le) (λ t. refl)

-- ---- identifiers

digits_wide : (m : ℕ) (scope : Scope) (place number from : ℕ) (digits : List ℕ) → scope.limit ≤ m → Wider same (digits_at scope place number from digits) (digits_at (wide m scope) place number from digits)
unfolding digits_at
digits_wide m scope place number from [] le = lacking_wide (ℕ × Spot) m scope place from le
digits_wide m scope place number from (d ∷ ds) le =
    then_wide same m scope place (from + 1) _ _ le (Wider-cond same (nat_lt d 128) _ _ _ _ (λ t. refl) (λ t. digits_wide m scope place (capped (128 * number + (d - 128))) (from + 1) ds le))

high_wide : (m : ℕ) (scope : Scope) (place first : ℕ) (digits : List ℕ) → scope.limit ≤ m → Wider same (high_at scope place first digits) (high_at (wide m scope) place first digits)
unfolding high_at
high_wide m scope place first digits le =
    Wider-bind same same (digits_at scope place 0 (place + 1) digits) (digits_at (wide m scope) place 0 (place + 1) digits) _ _ (digits_wide m scope place 0 (place + 1) digits le) (λ x e.
    Wider-cond same (is_lax digits x.0) _ _ _ _ (λ t. refl) (λ t. refl))

pub identifier_wide : (m : ℕ) (scope : Scope) (place : ℕ) (rest : List ℕ) → scope.limit ≤ m → Wider same (identifier_at scope place rest) (identifier_at (wide m scope) place rest)
unfolding identifier_at
identifier_wide m scope place [] le = refl
identifier_wide m scope place (first ∷ rest) le =
    Wider-cond same (nat_eq scope.levels 0) _ _ _ _ (λ t. refl) (λ t.
    then_wide same m scope place (place + 1) _ _ le (
    Wider-cond same (nat_eq (first % 32) 31) _ _ _ _ (λ t. high_wide m scope place first rest le) (λ t. refl)))

-- ---- lengths

announced_wide : (m : ℕ) (scope : Scope) (place count : ℕ) (minimal : Bool) (from : ℕ) (rest : List ℕ) → scope.limit ≤ m → Wider same (announced_at scope place count minimal from rest) (announced_at (wide m scope) place count minimal from rest)
unfolding announced_at
announced_wide m scope place count minimal from rest le = then_wide same m scope place (from + count) _ _ le (Wider-cond same (scope.strict && not minimal) _ _ _ _ (λ t. refl) (λ t. refl))

long_wide : (m : ℕ) (scope : Scope) (place size : ℕ) (rest : List ℕ) → scope.limit ≤ m → Wider same (long_at scope place size rest) (long_at (wide m scope) place size rest)
unfolding long_at
long_wide m scope place size rest le =
    Wider-cond same (ltb (length rest) size) _ _ _ _ (λ t. cut_wide (ℕ × Spot) m scope place (sure_reach scope.end (place + 1 + size) (place + 1 + length rest)) le) (λ t.
    then_wide same m scope place (place + 1 + size) _ _ le (
    Wider-cond same (nat_lt 8 size) _ _ _ _ (λ t. refl) (λ t. announced_wide m scope place (number_256 0 (take size rest)) _ (place + 1 + size) (drop size rest) le)))

definite_wide : (m : ℕ) (scope : Scope) (place : ℕ) (rest : List ℕ) → scope.limit ≤ m → Wider same (definite_at scope place rest) (definite_at (wide m scope) place rest)
unfolding definite_at
definite_wide m scope place [] le = lacking_wide (ℕ × Spot) m scope place place le
definite_wide m scope place (first ∷ rest) le =
    then_wide same m scope place (place + 1) _ _ le (
    Wider-cond same (nat_lt first 128) _ _ _ _ (λ t. announced_wide m scope place first true (place + 1) rest le) (λ t.
    Wider-cond same (nat_eq first 128 || nat_eq first 255) _ _ _ _ (λ t. refl) (λ t. long_wide m scope place (first - 128) rest le)))

abbrev pub wide_extent : ℕ → Scope × Spot → Scope × Spot
wide_extent m x = (wide m x.0, x.1)

pub extent_wide : (m : ℕ) (scope : Scope) (place : ℕ) (rest : List ℕ) → scope.limit ≤ m → Wider (wide_extent m) (extent_at scope place rest) (extent_at (wide m scope) place rest)
unfolding extent_at
extent_wide m scope place [] le =
    Wider-cond (wide_extent m) (is_end scope.end place) _ _ _ _ (λ t. then_wide (wide_extent m) m scope place (place + 1) (λ _. Err faults.Short) (λ _. Err faults.Short) le refl) (λ t. refl)
extent_wide m scope place (first ∷ rest) le =
    Wider-cond (wide_extent m) (nat_eq first 128) _ _ _ _
    (λ t. then_wide (wide_extent m) m scope place (place + 1) _ _ le (Wider-cond (wide_extent m) scope.strict _ _ _ _ (λ t. refl) (λ t. refl)))
    (λ t. Wider-bind same (wide_extent m) (definite_at scope place (first ∷ rest)) (definite_at (wide m scope) place (first ∷ rest)) _ _ (definite_wide m scope place (first ∷ rest) le) (λ x e. refl))

-- the contents have the limit of what encloses them
keeps_by : (b : Bool) (limit : ℕ) (x : Scope × Spot) (r : Reading (Unit {0})) (s : Reading (ℕ × Spot)) (f : Unit {0} → Reading (Scope × Spot)) (k : ℕ × Spot → Reading (Scope × Spot))
    → ((u : Unit {0}) → f u ≡ Ok x → x.0.limit ≡ limit) → ((n : ℕ × Spot) → k n ≡ Ok x → x.0.limit ≡ limit) → cond b (r >>= f) (s >>= k) ≡ Ok x → x.0.limit ≡ limit
keeps_by true limit x (Ok u) s f k a b e = a u e
keeps_by true limit x (Err (faults.NotSpelled place kind)) s f k a b e = absurd cc
keeps_by true limit x (Err faults.Short) s f k a b e = absurd cc
keeps_by true limit x (Err (faults.TooDeep place)) s f k a b e = absurd cc
keeps_by true limit x (Err (faults.TooLong place)) s f k a b e = absurd cc
keeps_by true limit x (Err faults.NoMemory) s f k a b e = absurd cc
keeps_by false limit x r (Ok n) f k a b e = b n e
keeps_by false limit x r (Err (faults.NotSpelled place kind)) f k a b e = absurd cc
keeps_by false limit x r (Err faults.Short) f k a b e = absurd cc
keeps_by false limit x r (Err (faults.TooDeep place)) f k a b e = absurd cc
keeps_by false limit x r (Err (faults.TooLong place)) f k a b e = absurd cc
keeps_by false limit x r (Err faults.NoMemory) f k a b e = absurd cc

abbrev scope_of : Scope → Reading (Scope × Spot) → Scope
scope_of s (Ok x) = x.0
scope_of s (Err e) = s

lacking_nothing : (scope : Scope) (place : ℕ) (x : Scope × Spot) → lacking {A = Scope × Spot} scope place ≡ Ok x → ⊥
unfolding within
lacking_nothing scope place x e = by_tests (is_end scope.end place) (nat_lt scope.limit (place + 1)) (is_past scope.end (place + 1)) e
  where
    by_tests : (a b c : Bool) → (cond a (cond b (Err (faults.TooLong place)) (cond c (refuse place Length) (Ok tt)) >>= λ (u : Unit {0}). Err faults.Short) (Err faults.Short)) ≡ Ok x → ⊥
    by_tests true true c e = cc
    by_tests true false true e = cc
    by_tests true false false e = cc
    by_tests false b c e = cc

pub extent_keeps : (scope : Scope) (place : ℕ) (rest : List ℕ) (x : Scope × Spot) → extent_at scope place rest ≡ Ok x → x.0.limit ≡ scope.limit
unfolding extent_at
extent_keeps scope place [] x e = absurd (lacking_nothing scope place x e)
extent_keeps scope place (first ∷ rest) x e =
    keeps_by (nat_eq first 128) scope.limit x (within scope place (place + 1)) (definite_at scope place (first ∷ rest)) _ _ (λ u f. by_form scope.strict f) (λ n f. ap (λ (r : Reading (Scope × Spot)). (scope_of scope r).limit) (sym f)) e
  where
    by_form : (b : Bool) → cond b (refuse place Form) (Ok (inside scope, record { place = place + 1; rest = rest })) ≡ Ok x → x.0.limit ≡ scope.limit
    by_form true f = absurd cc
    by_form false f = ap (λ (r : Reading (Scope × Spot)). (scope_of scope r).limit) (sym f)

pub contents_wide : (m : ℕ) (scope : Scope) (place : ℕ) (rest : List ℕ) → scope.limit ≤ m → Wider same (contents_at scope place rest) (contents_at (wide m scope) place rest)
unfolding contents_at
contents_wide m scope place rest le =
    Wider-bind same same (definite_at scope place rest) (definite_at (wide m scope) place rest) _ _ (definite_wide m scope place rest le) (λ x e.
    Wider-cond same (ltb (length x.1.rest) x.0) _ _ _ _ (λ t. refl) (λ t. refl))

-- ---- the ends of contents

begin_wide : (m : ℕ) (scope : Scope) (place : ℕ) (rest : List ℕ) → scope.limit ≤ m → Wider same (begin_at scope place rest) (begin_at (wide m scope) place rest)
begin_wide m scope place rest le = Wider-bind same same (identifier_at scope place rest) (identifier_at (wide m scope) place rest) _ _ (identifier_wide m scope place rest le) (λ x e. refl)

zero_wide : (m : ℕ) (scope : Scope) (place : ℕ) (whole rest : List ℕ) → scope.limit ≤ m → Wider same (second_zero_at scope place whole rest) (second_zero_at (wide m scope) place whole rest)
zero_wide m scope place whole [] le = refl
zero_wide m scope place whole (next ∷ rest) le =
    Wider-cond same (nat_eq next 0) _ _ _ _ (λ t. then_wide same m scope place (place + 2) _ _ le (refl)) (λ t. begin_wide m scope place whole le)

mark_wide : (m : ℕ) (scope : Scope) (place : ℕ) (rest : List ℕ) → scope.limit ≤ m → Wider same (mark_at scope place rest) (mark_at (wide m scope) place rest)
mark_wide m scope place [] le = refl
mark_wide m scope place (first ∷ rest) le =
    Wider-cond same (nat_eq first 0) _ _ _ _
    (λ t. Wider-cond same (is_past scope.end (place + 2)) _ _ _ _ (λ t. then_wide same m scope place (place + 2) _ _ le (refl)) (λ t. then_wide same m scope place (place + 1) _ _ le (zero_wide m scope place (first ∷ rest) rest le)))
    (λ t. begin_wide m scope place (first ∷ rest) le)

pub look_wide : (m : ℕ) (scope : Scope) (place : ℕ) (rest : List ℕ) → scope.limit ≤ m → Wider same (look_at scope place rest) (look_at (wide m scope) place rest)
unfolding look_at
look_wide m scope place rest le =
    Wider-cond same scope.marked _ _ _ _
    (λ t. Wider-cond same (is_end scope.end place) _ _ _ _ (λ t. then_wide same m scope place (place + 1) _ _ le (refl)) (λ t. mark_wide m scope place rest le))
    (λ t. Wider-cond same (is_end scope.end place) _ _ _ _ (λ t. refl) (λ t. begin_wide m scope place rest le))
