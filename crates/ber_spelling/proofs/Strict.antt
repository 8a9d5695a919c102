-- Reading strictly is reading, or a fault of form.
use Rattle.std.proofs.Common.{◌≡◌, ◌≢◌, ◌⊎◌, ℕ, ◌+◌, ◌-◌, ◌*◌, ◌%◌, Bool, true, false, not, ◌&&◌, ◌||◌, cond, ltb, List, [], ◌∷◌, length, take, drop, Ok, Err, refl, inl, inr}
use Rattle.std.specs.Prelude.{nat_lt, nat_eq}
use Rattle.osi_base.specs.declared.layer_words.Kind.TheVariants.{Tag, Length, Form}
use Rattle.asn1_types.specs.Whole.{number_256}
use Rattle.ber_spelling.specs.declared.fault.ReadFault.TheVariants as faults
use Rattle.ber_spelling.specs.declared.spot.Scope.{Scope}
use Rattle.ber_spelling.specs.Reading.{Spot, Reading, ◌>>=◌, refuse, is_past, within}
use Rattle.ber_spelling.specs.Fields.{digits_at, is_lax, high_at, identifier_at, announced_at, long_at, is_end, lacking, sure_reach, definite_at, extent_at, contents_at, begin_at, second_zero_at, mark_at, look_at}
use Rattle.asn1_types.specs.Tags.{capped}

-- the scope of BER
abbrev pub lax : Scope → Scope
lax scope = record { levels = scope.levels; limit = scope.limit; end = scope.end; marked = scope.marked; strict = false }

-- What was read in a scope, and what is read in that of BER: the same, seen by a function, unless a form is at fault.
abbrev pub Formal : {A : Type 0} → (A → A) → Reading A → Reading A → Type 0
Formal g (Ok x) read = read ≡ Ok (g x)
Formal g (Err (faults.NotSpelled place kind)) read = (kind ≡ Form) ⊎ (read ≡ Err (faults.NotSpelled place kind))
Formal g (Err faults.Short) read = read ≡ Err faults.Short
Formal g (Err (faults.TooDeep place)) read = read ≡ Err (faults.TooDeep place)
Formal g (Err (faults.TooLong place)) read = read ≡ Err (faults.TooLong place)
Formal g (Err faults.NoMemory) read = read ≡ Err faults.NoMemory

abbrev pub same : {A : Type 0} → A → A
same x = x

pub Formal-bind : {A B : Type 0} (g : A → A) (h : B → B) (r s : Reading A) (f k : A → Reading B) → Formal g r s → ((x : A) → Formal h (f x) (k (g x))) → Formal h (r >>= f) (s >>= k)
Formal-bind g h (Ok x) s f k a b = rw a (b x)
Formal-bind g h (Err (faults.NotSpelled place kind)) s f k (inl e) b = inl e
Formal-bind g h (Err (faults.NotSpelled place kind)) s f k (inr e) b = inr (rw e refl)
Formal-bind g h (Err faults.Short) s f k a b = rw a refl
Formal-bind g h (Err (faults.TooDeep place)) s f k a b = rw a refl
Formal-bind g h (Err (faults.TooLong place)) s f k a b = rw a refl
Formal-bind g h (Err faults.NoMemory) s f k a b = rw a refl

-- a step that asks for no form
pub Formal-same : {A B : Type 0} (h : B → B) (r : Reading A) (f k : A → Reading B) → ((x : A) → Formal h (f x) (k x)) → Formal h (r >>= f) (r >>= k)
Formal-same h (Ok x) f k b = b x
Formal-same h (Err (faults.NotSpelled place kind)) f k b = inr refl
Formal-same h (Err faults.Short) f k b = refl
Formal-same h (Err (faults.TooDeep place)) f k b = refl
Formal-same h (Err (faults.TooLong place)) f k b = refl
Formal-same h (Err faults.NoMemory) f k b = refl

pub Formal-cond : {B : Type 0} (h : B → B) (b : Bool) (r s x y : Reading B) → (b ≡ true → Formal h r x) → (b ≡ false → Formal h s y) → Formal h (cond b r s) (cond b x y)
Formal-cond h true r s x y p q = p refl
Formal-cond h false r s x y p q = q refl

-- a form that is asked for
pub Formal-asked : {B : Type 0} (h : B → B) (b : Bool) (place : ℕ) (s y : Reading B) → Formal h s y → Formal h (cond b (refuse place Form) s) y
Formal-asked h true place s y f = inl refl
Formal-asked h false place s y f = f

pub Formal-refl : {A : Type 0} (r : Reading A) → Formal same r r
Formal-refl (Ok x) = refl
Formal-refl (Err (faults.NotSpelled place kind)) = inr refl
Formal-refl (Err faults.Short) = refl
Formal-refl (Err (faults.TooDeep place)) = refl
Formal-refl (Err (faults.TooLong place)) = refl
Formal-refl (Err faults.NoMemory) = refl

-- ---- identifiers ask for no form

digits_lax : (scope : Scope) (place number from : ℕ) (digits : List ℕ) → Formal same (digits_at scope place number from digits) (digits_at (lax scope) place number from digits)
unfolding digits_at within
digits_lax scope place number from [] = Formal-refl _
digits_lax scope place number from (d ∷ ds) =
    Formal-same same (within scope place (from + 1)) _ _ (λ u. Formal-cond same (nat_lt d 128) _ _ _ _ (λ t. refl) (λ t. digits_lax scope place (capped (128 * number + (d - 128))) (from + 1) ds))

high_lax : (scope : Scope) (place first : ℕ) (digits : List ℕ) → Formal same (high_at scope place first digits) (high_at (lax scope) place first digits)
unfolding high_at
high_lax scope place first digits =
    Formal-bind same same (digits_at scope place 0 (place + 1) digits) (digits_at (lax scope) place 0 (place + 1) digits) _ _ (digits_lax scope place 0 (place + 1) digits) (λ x.
    Formal-cond same (is_lax digits x.0) _ _ _ _ (λ t. inr refl) (λ t. refl))

pub identifier_lax : (scope : Scope) (place : ℕ) (rest : List ℕ) → Formal same (identifier_at scope place rest) (identifier_at (lax scope) place rest)
unfolding identifier_at within
identifier_lax scope place [] = refl
identifier_lax scope place (first ∷ rest) =
    Formal-cond same (nat_eq scope.levels 0) _ _ _ _ (λ t. refl) (λ t.
    Formal-same same (within scope place (place + 1)) _ _ (λ u.
    Formal-cond same (nat_eq (first % 32) 31) _ _ _ _ (λ t. high_lax scope place first rest) (λ t. refl)))

-- ---- lengths

announced_lax : (scope : Scope) (place count : ℕ) (minimal : Bool) (from : ℕ) (rest : List ℕ) → Formal same (announced_at scope place count minimal from rest) (announced_at (lax scope) place count minimal from rest)
unfolding announced_at within
announced_lax scope place count minimal from rest = Formal-same same (within scope place (from + count)) _ _ (λ u. Formal-asked same (scope.strict && not minimal) place _ _ refl)

long_lax : (scope : Scope) (place size : ℕ) (rest : List ℕ) → Formal same (long_at scope place size rest) (long_at (lax scope) place size rest)
unfolding long_at within
long_lax scope place size rest =
    Formal-cond same (ltb (length rest) size) _ _ _ _ (λ t. Formal-same same (within scope place (sure_reach scope.end (place + 1 + size) (place + 1 + length rest))) _ _ (λ u. refl)) (λ t.
    Formal-same same (within scope place (place + 1 + size)) _ _ (λ u.
    Formal-cond same (nat_lt 8 size) _ _ _ _ (λ t. inr refl) (λ t. announced_lax scope place (number_256 0 (take size rest)) _ (place + 1 + size) (drop size rest))))

lacking_lax : (A : Type 0) (scope : Scope) (place : ℕ) → Formal {A = A} same (lacking scope place) (lacking (lax scope) place)
unfolding within
lacking_lax A scope place = Formal-refl (lacking {A = A} scope place)

definite_lax : (scope : Scope) (place : ℕ) (rest : List ℕ) → Formal same (definite_at scope place rest) (definite_at (lax scope) place rest)
unfolding definite_at within
definite_lax scope place [] = lacking_lax (ℕ × Spot) scope place
definite_lax scope place (first ∷ rest) =
    Formal-same same (within scope place (place + 1)) _ _ (λ u.
    Formal-cond same (nat_lt first 128) _ _ _ _ (λ t. announced_lax scope place first true (place + 1) rest) (λ t.
    Formal-cond same (nat_eq first 128 || nat_eq first 255) _ _ _ _ (λ t. inr refl) (λ t. long_lax scope place (first - 128) rest)))

abbrev pub lax_extent : Scope × Spot → Scope × Spot
lax_extent x = (lax x.0, x.1)

pub extent_lax : (scope : Scope) (place : ℕ) (rest : List ℕ) → Formal lax_extent (extent_at scope place rest) (extent_at (lax scope) place rest)
unfolding extent_at within
extent_lax scope place [] = Formal-cond lax_extent (is_end scope.end place) _ _ _ _ (λ t. Formal-same lax_extent (within scope place (place + 1)) _ _ (λ u. refl)) (λ t. refl)
extent_lax scope place (first ∷ rest) =
    Formal-cond lax_extent (nat_eq first 128) _ _ _ _
    (λ t. Formal-same lax_extent (within scope place (place + 1)) _ _ (λ u. Formal-asked lax_extent scope.strict place _ _ refl))
    (λ t. Formal-bind same lax_extent (definite_at scope place (first ∷ rest)) (definite_at (lax scope) place (first ∷ rest)) _ _ (definite_lax scope place (first ∷ rest)) (λ x. refl))

pub contents_lax : (scope : Scope) (place : ℕ) (rest : List ℕ) → Formal same (contents_at scope place rest) (contents_at (lax scope) place rest)
unfolding contents_at
contents_lax scope place rest =
    Formal-bind same same (definite_at scope place rest) (definite_at (lax scope) place rest) _ _ (definite_lax scope place rest) (λ x.
    Formal-cond same (ltb (length x.1.rest) x.0) _ _ _ _ (λ t. refl) (λ t. refl))

-- ---- the ends of contents

begin_lax : (scope : Scope) (place : ℕ) (rest : List ℕ) → Formal same (begin_at scope place rest) (begin_at (lax scope) place rest)
begin_lax scope place rest = Formal-bind same same (identifier_at scope place rest) (identifier_at (lax scope) place rest) _ _ (identifier_lax scope place rest) (λ x. refl)

zero_lax : (scope : Scope) (place : ℕ) (whole rest : List ℕ) → Formal same (second_zero_at scope place whole rest) (second_zero_at (lax scope) place whole rest)
unfolding within
zero_lax scope place whole [] = refl
zero_lax scope place whole (next ∷ rest) =
    Formal-cond same (nat_eq next 0) _ _ _ _ (λ t. Formal-same same (within scope place (place + 2)) _ _ (λ u. refl)) (λ t. begin_lax scope place whole)

mark_lax : (scope : Scope) (place : ℕ) (rest : List ℕ) → Formal same (mark_at scope place rest) (mark_at (lax scope) place rest)
unfolding within
mark_lax scope place [] = refl
mark_lax scope place (first ∷ rest) =
    Formal-cond same (nat_eq first 0) _ _ _ _
    (λ t. Formal-cond same (is_past scope.end (place + 2)) _ _ _ _ (λ t. Formal-same same (within scope place (place + 2)) _ _ (λ u. refl)) (λ t. Formal-same same (within scope place (place + 1)) _ _ (λ u. zero_lax scope place (first ∷ rest) rest)))
    (λ t. begin_lax scope place (first ∷ rest))

pub look_lax : (scope : Scope) (place : ℕ) (rest : List ℕ) → Formal same (look_at scope place rest) (look_at (lax scope) place rest)
unfolding look_at within
look_lax scope place rest =
    Formal-cond same scope.marked _ _ _ _
    (λ t. Formal-cond same (is_end scope.end place) _ _ _ _ (λ t. Formal-same same (within scope place (place + 1)) _ _ (λ u. refl)) (λ t. mark_lax scope place rest))
    (λ t. Formal-cond same (is_end scope.end place) _ _ _ _ (λ t. refl) (λ t. begin_lax scope place rest))

-- ---- no octets: a fault, and none of a tag

abbrev pub NoTag : {A : Type 0} → Reading A → Type 0
NoTag (Ok x) = ⊥
NoTag (Err (faults.NotSpelled place kind)) = kind ≢ Tag
NoTag (Err faults.Short) = Unit {0}
NoTag (Err (faults.TooDeep place)) = Unit {0}
NoTag (Err (faults.TooLong place)) = Unit {0}
NoTag (Err faults.NoMemory) = Unit {0}

pub NoTag-bind : {A B : Type 0} (r : Reading A) (f : A → Reading B) → NoTag r → NoTag (r >>= f)
NoTag-bind (Ok x) f a = absurd a
NoTag-bind (Err (faults.NotSpelled place kind)) f a = a
NoTag-bind (Err faults.Short) f a = tt
NoTag-bind (Err (faults.TooDeep place)) f a = tt
NoTag-bind (Err (faults.TooLong place)) f a = tt
NoTag-bind (Err faults.NoMemory) f a = tt

lacking_no_tag : (A : Type 0) (scope : Scope) (place : ℕ) → NoTag (lacking {A = A} scope place)
unfolding within
lacking_no_tag A scope place = by_tests (is_end scope.end place) (nat_lt scope.limit (place + 1)) (is_past scope.end (place + 1))
  where
    by_tests : (a b c : Bool) → NoTag {A = A} (cond a (cond b (Err (faults.TooLong place)) (cond c (Err (faults.NotSpelled place Length)) (Ok tt)) >>= λ (u : Unit {0}). Err faults.Short) (Err faults.Short))
    by_tests true true c = tt
    by_tests true false true = λ e. cc
    by_tests true false false = tt
    by_tests false b c = tt

pub extent_no_tag : (scope : Scope) (place : ℕ) → NoTag (extent_at scope place [])
unfolding extent_at
extent_no_tag scope place = lacking_no_tag (Scope × Spot) scope place

pub contents_no_tag : (scope : Scope) (place : ℕ) → NoTag (contents_at scope place [])
unfolding contents_at definite_at
contents_no_tag scope place = NoTag-bind (lacking {A = ℕ × Spot} scope place) _ (lacking_no_tag (ℕ × Spot) scope place)
