-- What reading gives stays what it is, whatever octets follow, unless the octets were too few.
use Rattle.std.proofs.Common.{◌≡◌, ℕ, ◌+◌, ◌-◌, ◌≤◌, Bool, true, false, not, ◌&&◌, ◌||◌, ◌*◌, ◌%◌, cond, ltb, List, [], ◌∷◌, ◌++◌, length, take, drop, Option, Some, None, Ok, Err, refl, arith, length-append, inl, inr, ◌⊎◌, ◌<◌}
use Rattle.std.specs.Prelude.{nat_lt, nat_eq}
use Rattle.std.proofs.lemmas.Bool.{cases_lt, lt-ltb, le-ltb, ltb-false, leb-true}
use Rattle.std.proofs.lemmas.List.{take-append-le, drop-append-le}
use Rattle.osi_base.specs.declared.layer_words.Kind.TheVariants.{Length}
use Rattle.asn1_types.specs.Whole.{number_256}
use Rattle.ber_spelling.specs.declared.fault.ReadFault.{ReadFault}
use Rattle.ber_spelling.specs.declared.fault.ReadFault.TheVariants as faults
use Rattle.ber_spelling.specs.declared.spot.Scope.{Scope}
use Rattle.ber_spelling.specs.Reading.{Spot, Opened, Ahead, ended, begun, Reading, ◌>>=◌, is_past, within}
use Rattle.ber_spelling.specs.Fields.{digits_at, is_lax, high_at, identifier_at, announced_at, long_at, is_end, cut_off, lacking_from, sure_reach, definite_at, extent_at, contents_at, begin_at, second_zero_at, mark_at, look_at}
use Rattle.asn1_types.specs.Tags.{capped}

abbrev pub grown : List ℕ → Spot → Spot
grown more s = record { place = s.place; rest = s.rest ++ more }

abbrev pub grown_opened : List ℕ → Opened → Opened
grown_opened more o = record { start = grown more o.start; class = o.class; constructed = o.constructed; number = o.number }

abbrev pub grown_ahead : List ℕ → Ahead → Ahead
grown_ahead more (ended place after) = ended place (grown more after)
grown_ahead more (begun opened after) = begun (grown_opened more opened) (grown more after)

-- what was read with fewer octets, and what is read with more
abbrev pub Grows : {A : Type 0} → (A → A) → Reading A → Reading A → Type 0
Grows g (Ok x) read = read ≡ Ok (g x)
Grows g (Err (faults.NotSpelled place kind)) read = read ≡ Err (faults.NotSpelled place kind)
Grows g (Err faults.Short) read = Unit {0}
Grows g (Err (faults.TooDeep place)) read = read ≡ Err (faults.TooDeep place)
Grows g (Err (faults.TooLong place)) read = read ≡ Err (faults.TooLong place)
Grows g (Err faults.NoMemory) read = read ≡ Err faults.NoMemory

pub Grows-bind : {A B : Type 0} (g : A → A) (h : B → B) (r s : Reading A) (f k : A → Reading B) → Grows g r s → ((x : A) → r ≡ Ok x → Grows h (f x) (k (g x))) → Grows h (r >>= f) (s >>= k)
Grows-bind g h (Ok x) s f k a b = rw a (b x refl)
Grows-bind g h (Err (faults.NotSpelled place kind)) s f k a b = rw a refl
Grows-bind g h (Err faults.Short) s f k a b = tt
Grows-bind g h (Err (faults.TooDeep place)) s f k a b = rw a refl
Grows-bind g h (Err (faults.TooLong place)) s f k a b = rw a refl
Grows-bind g h (Err faults.NoMemory) s f k a b = rw a refl

-- a step that looks at no octets
pub Grows-same : {A B : Type 0} (h : B → B) (r : Reading A) (f k : A → Reading B) → ((x : A) → r ≡ Ok x → Grows h (f x) (k x)) → Grows h (r >>= f) (r >>= k)
Grows-same h (Ok x) f k b = b x refl
Grows-same h (Err (faults.NotSpelled place kind)) f k b = refl
Grows-same h (Err faults.Short) f k b = tt
Grows-same h (Err (faults.TooDeep place)) f k b = refl
Grows-same h (Err (faults.TooLong place)) f k b = refl
Grows-same h (Err faults.NoMemory) f k b = refl

pub Grows-cond : {B : Type 0} (h : B → B) (b : Bool) (r s x y : Reading B) → (b ≡ true → Grows h r x) → (b ≡ false → Grows h s y) → Grows h (cond b r s) (cond b x y)
Grows-cond h true r s x y p q = p refl
Grows-cond h false r s x y p q = q refl

abbrev pub with_spot : {A : Type 0} → List ℕ → A × Spot → A × Spot
with_spot more x = (x.0, grown more x.1)

-- enough octets now are enough later
pub Grows-enough : {B : Type 0} (h : B → B) (rest more : List ℕ) (n : ℕ) (s y : Reading B) → (n ≤ length rest → Grows h s y) → Grows h (cond (ltb (length rest) n) (Err faults.Short) s) (cond (ltb (length (rest ++ more)) n) (Err faults.Short) y)
Grows-enough h rest more n s y q =
    elim (cases_lt (length rest) n) [
      | inl lt ↦ rw (lt-ltb (length rest) n lt) tt
      | inr le ↦ let longer : n ≤ length (rest ++ more) = omega (arith, length-append rest more) in rw (le-ltb (length rest) n le, le-ltb (length (rest ++ more)) n longer) (q le)
    ]

-- past the end nothing is within
pub end_past : (end : Option ℕ) (place : ℕ) → is_end end place ≡ true → is_past end (place + 1) ≡ true
end_past None place e = absurd cc
end_past (Some end) place e = let le : end ≤ place = leb-true end place e in lt-ltb end (place + 1) (omega arith)

within_tests : (a b : Bool) (x : Unit {0}) (e f : ReadFault) → cond a (Err e) (cond b (Err f) (Ok tt)) ≡ Ok x → (a ≡ false) × (b ≡ false)
within_tests true b x e f eq = absurd cc
within_tests false true x e f eq = absurd cc
within_tests false false x e f eq = (refl, refl)

-- what being within says
pub within_ok : (scope : Scope) (place until : ℕ) (x : Unit {0}) → within scope place until ≡ Ok x → (until ≤ scope.limit) × (is_past scope.end until ≡ false)
unfolding within
within_ok scope place until x e =
    let t = within_tests (nat_lt scope.limit until) (is_past scope.end until) x (faults.TooLong place) (faults.NotSpelled place Length) e in
    (ltb-false scope.limit until t.0, t.1)

pub within_is : (scope : Scope) (place until : ℕ) → until ≤ scope.limit → is_past scope.end until ≡ false → within scope place until ≡ Ok tt
unfolding within
within_is scope place until le past = rw (le-ltb scope.limit until le, past) refl

-- a field that is cut off by the end is cut off whatever follows
pub cut_first : {B : Type 0} (h : B → B) (scope : Scope) (place until : ℕ) (f : Unit {0} → Reading B) → is_past scope.end until ≡ true → Grows h (cut_off scope place until) (within scope place until >>= f)
cut_first h scope place until f past =
    Grows-same h (within scope place until) (λ _. Err faults.Short) f (λ x e. let free : is_past scope.end until ≡ false = (within_ok scope place until x e).1 in absurd cc)

pub lacking_first : {B : Type 0} (h : B → B) (scope : Scope) (place from : ℕ) (read : Reading B) (f : Unit {0} → Reading B) → read ≡ (within scope place (from + 1) >>= f) → Grows h (lacking_from scope place from) read
lacking_first h scope place from read f same =
    by_end (is_end scope.end from) refl
  where
    by_end : (b : Bool) → is_end scope.end from ≡ b → Grows h (cond b (cut_off scope place (from + 1)) (Err faults.Short)) read
    by_end true e = rw same (cut_first h scope place (from + 1) f (end_past scope.end from e))
    by_end false e = tt

pub lacking_same : {B : Type 0} (h : B → B) (scope : Scope) (place from : ℕ) → Grows h (lacking_from scope place from) (lacking_from scope place from)
lacking_same h scope place from =
    Grows-cond h (is_end scope.end from) _ _ _ _ (λ t. Grows-same h (within scope place (from + 1)) (λ _. Err faults.Short) (λ _. Err faults.Short) (λ x e. tt)) (λ t. tt)

pub short_not_ok : {A B : Type 0} (r : Reading A) (x : B) → (r >>= λ _. Err faults.Short) ≡ Ok x → ⊥
short_not_ok (Ok y) x e = absurd cc
short_not_ok (Err f) x e = absurd cc

pub lacking_not_ok : {B : Type 0} (scope : Scope) (place from : ℕ) (x : B) → lacking_from scope place from ≡ Ok x → ⊥
lacking_not_ok {B} scope place from x e = by_end (is_end scope.end from) e
  where
    by_end : (b : Bool) → cond {A = Reading B} b (cut_off scope place (from + 1)) (Err faults.Short) ≡ Ok x → ⊥
    by_end true e = short_not_ok (within scope place (from + 1)) x e
    by_end false e = absurd cc

-- a field whose octets lack stays cut off whatever follows
too_long : {B : Type 0} (scope : Scope) (place until : ℕ) (f : Unit {0} → Reading B) → scope.limit < until → (within scope place until >>= f) ≡ Err (faults.TooLong place)
unfolding within
too_long scope place until f lt = rw (lt-ltb scope.limit until lt) refl

cut_short : {B : Type 0} (scope : Scope) (place until : ℕ) → until ≤ scope.limit → is_past scope.end until ≡ false → cut_off {A = B} scope place until ≡ Err faults.Short
cut_short scope place until le past = rw (within_is scope place until le past) refl

past_less : (end : Option ℕ) (a b : ℕ) → a ≤ b → is_past end b ≡ false → is_past end a ≡ false
past_less None a b le e = refl
past_less (Some end) a b le e = let ge : b ≤ end = ltb-false end b e in le-ltb end a (omega arith)

pub sure_first : {B : Type 0} (h : B → B) (scope : Scope) (place until there : ℕ) (read : Reading B) → there ≤ until → (is_past scope.end until ≡ true → Grows h (cut_off scope place until) read)
    → (scope.limit < there → read ≡ Err (faults.TooLong place)) → Grows h (cut_off scope place (sure_reach scope.end until there)) read
sure_first {B} h scope place until there read le past long = by_past (is_past scope.end until) refl
  where
    by_limit : is_past scope.end until ≡ false → (scope.limit < there) ⊎ (there ≤ scope.limit) → Grows h (cut_off scope place there) read
    by_limit p (inl lt) = rw (too_long {B = B} scope place there (λ _. Err faults.Short) lt) (long lt)
    by_limit p (inr ge) = rw (cut_short {B = B} scope place there ge (past_less scope.end there until le p)) tt

    by_past : (b : Bool) → is_past scope.end until ≡ b → Grows h (cut_off scope place (cond b until there)) read
    by_past true p = past p
    by_past false p = by_limit p (cases_lt scope.limit there)

-- ---- identifiers

abbrev pub with_opened : List ℕ → Opened × Spot → Opened × Spot
with_opened more x = (grown_opened more x.0, grown more x.1)

pub digits_grow : (scope : Scope) (place number from : ℕ) (digits more : List ℕ) → Grows (with_spot more) (digits_at scope place number from digits) (digits_at scope place number from (digits ++ more))
unfolding digits_at
digits_grow scope place number from [] [] = lacking_same (with_spot []) scope place from
digits_grow scope place number from [] (d ∷ more) = lacking_first (with_spot (d ∷ more)) scope place from _ _ refl
digits_grow scope place number from (d ∷ ds) more =
    Grows-same (with_spot more) (within scope place (from + 1)) _ _ (λ x e.
    Grows-cond (with_spot more) (nat_lt d 128) _ _ _ _ (λ t. refl) (λ t. digits_grow scope place (capped (128 * number + (d - 128))) (from + 1) ds more))

high_grows : (scope : Scope) (place first : ℕ) (rest more : List ℕ) → Grows (with_opened more) (high_at scope place first rest) (high_at scope place first (rest ++ more))
unfolding high_at digits_at
high_grows scope place first [] more =
    Grows-bind (with_spot more) (with_opened more) (digits_at scope place 0 (place + 1) []) (digits_at scope place 0 (place + 1) more) _ _ (digits_grow scope place 0 (place + 1) [] more)
    (λ x e. absurd (lacking_not_ok scope place (place + 1) x e))
high_grows scope place first (d ∷ ds) more =
    Grows-bind (with_spot more) (with_opened more) (digits_at scope place 0 (place + 1) (d ∷ ds)) (digits_at scope place 0 (place + 1) (d ∷ (ds ++ more))) _ _ (digits_grow scope place 0 (place + 1) (d ∷ ds) more)
    (λ x e. Grows-cond (with_opened more) (is_lax (d ∷ ds) x.0) _ _ _ _ (λ t. refl) (λ t. refl))

pub identifier_grows : (scope : Scope) (place : ℕ) (rest more : List ℕ) → Grows (with_opened more) (identifier_at scope place rest) (identifier_at scope place (rest ++ more))
unfolding identifier_at
identifier_grows scope place [] more = tt
identifier_grows scope place (first ∷ rest) more =
    Grows-cond (with_opened more) (nat_eq scope.levels 0) _ _ _ _ (λ t. refl) (λ t.
    Grows-same (with_opened more) (within scope place (place + 1)) _ _ (λ x e.
    Grows-cond (with_opened more) (nat_eq (first % 32) 31) _ _ _ _ (λ t. high_grows scope place first rest more) (λ t. refl)))

-- ---- lengths

pub announced_grows : (scope : Scope) (place count : ℕ) (minimal : Bool) (from : ℕ) (rest more : List ℕ) → Grows (with_spot more) (announced_at scope place count minimal from rest) (announced_at scope place count minimal from (rest ++ more))
unfolding announced_at
announced_grows scope place count minimal from rest more =
    Grows-same (with_spot more) (within scope place (from + count)) _ _ (λ x e. Grows-cond (with_spot more) (scope.strict && not minimal) _ _ _ _ (λ t. refl) (λ t. refl))

pub long_grows : (scope : Scope) (place size : ℕ) (rest more : List ℕ) → Grows (with_spot more) (long_at scope place size rest) (long_at scope place size (rest ++ more))
unfolding long_at
long_grows scope place size rest more =
    elim (cases_lt (length rest) size) [
      | inl lt ↦ rw (lt-ltb (length rest) size lt) (sure_first (with_spot more) scope place (place + 1 + size) (place + 1 + length rest) _ (omega arith) (past lt) (long lt))
      | inr le ↦
          let longer : size ≤ length (rest ++ more) = omega (arith, length-append rest more) in
          rw (le-ltb (length rest) size le, le-ltb (length (rest ++ more)) size longer)
          (Grows-same (with_spot more) (within scope place (place + 1 + size)) _ _ (λ x e.
          rw (take-append-le size rest more le, drop-append-le size rest more le) (Grows-cond (with_spot more) (nat_lt 8 size) _ _ _ _ (λ t. refl) (λ t. announced_grows scope place (number_256 0 (take size rest)) _ (place + 1 + size) (drop size rest) more))))
    ]
  where
    -- the contents end before the field does
    past : length rest < size → is_past scope.end (place + 1 + size) ≡ true → Grows (with_spot more) (cut_off scope place (place + 1 + size)) (long_at scope place size (rest ++ more))
    past lt p = elim (cases_lt (length (rest ++ more)) size) [
      | inl short ↦ rw (lt-ltb (length (rest ++ more)) size short, p) (Grows-same (with_spot more) (within scope place (place + 1 + size)) (λ _. Err faults.Short) (λ _. Err faults.Short) (λ x e. tt))
      | inr le ↦ rw (le-ltb (length (rest ++ more)) size le) (cut_first (with_spot more) scope place (place + 1 + size) _ p)
    ]

    sure_more : (b : Bool) → length (rest ++ more) < size → scope.limit < place + 1 + length rest → scope.limit < cond b (place + 1 + size) (place + 1 + length (rest ++ more))
    sure_more true short over = omega (arith, length-append rest more)
    sure_more false short over = omega (arith, length-append rest more)

    -- the limit lies among the octets that are there
    long : length rest < size → scope.limit < place + 1 + length rest → long_at scope place size (rest ++ more) ≡ Err (faults.TooLong place)
    long lt over = elim (cases_lt (length (rest ++ more)) size) [
      | inl short ↦ rw (lt-ltb (length (rest ++ more)) size short) (too_long scope place (sure_reach scope.end (place + 1 + size) (place + 1 + length (rest ++ more))) (λ _. Err faults.Short) (sure_more (is_past scope.end (place + 1 + size)) short over))
      | inr le ↦ rw (le-ltb (length (rest ++ more)) size le) (too_long scope place (place + 1 + size) _ (omega (arith, length-append rest more)))
    ]

pub definite_grows : (scope : Scope) (place : ℕ) (rest more : List ℕ) → Grows (with_spot more) (definite_at scope place rest) (definite_at scope place (rest ++ more))
unfolding definite_at
definite_grows scope place [] [] = lacking_same (with_spot []) scope place place
definite_grows scope place [] (o ∷ more) = lacking_first (with_spot (o ∷ more)) scope place place _ _ refl
definite_grows scope place (first ∷ rest) more =
    Grows-same (with_spot more) (within scope place (place + 1)) _ _ (λ x e.
    Grows-cond (with_spot more) (nat_lt first 128) _ _ _ _ (λ t. announced_grows scope place first true (place + 1) rest more) (λ t.
    Grows-cond (with_spot more) (nat_eq first 128 || nat_eq first 255) _ _ _ _ (λ t. refl) (λ t. long_grows scope place (first - 128) rest more)))

join : {A B C : Type 0} (c : Bool) (w : Reading A) (f : A → Reading C) (g : A → Reading B) (h : B → Reading C) → cond c (w >>= f) ((w >>= g) >>= h) ≡ (w >>= λ x. cond c (f x) (g x >>= h))
join true (Ok x) f g h = refl
join true (Err e) f g h = refl
join false (Ok x) f g h = refl
join false (Err e) f g h = refl

pub extent_grows : (scope : Scope) (place : ℕ) (rest more : List ℕ) → Grows (with_spot more) (extent_at scope place rest) (extent_at scope place (rest ++ more))
unfolding extent_at definite_at
extent_grows scope place [] [] = lacking_same (with_spot []) scope place place
extent_grows scope place [] (o ∷ more) =
    lacking_first (with_spot (o ∷ more)) scope place place _ _ (join (nat_eq o 128) (within scope place (place + 1)) _ _ _)
extent_grows scope place (first ∷ rest) more =
    Grows-cond (with_spot more) (nat_eq first 128) _ _ _ _
    (λ t. Grows-same (with_spot more) (within scope place (place + 1)) _ _ (λ x e. Grows-cond (with_spot more) scope.strict _ _ _ _ (λ t. refl) (λ t. refl)))
    (λ t. Grows-bind (with_spot more) (with_spot more) (definite_at scope place (first ∷ rest)) (definite_at scope place (first ∷ (rest ++ more))) _ _ (definite_grows scope place (first ∷ rest) more) (λ x e. refl))

abbrev pub with_contents : List ℕ → ℕ × List ℕ × Spot → ℕ × List ℕ × Spot
with_contents more x = (x.0, x.1, grown more x.2)

pub contents_grow : (scope : Scope) (place : ℕ) (rest more : List ℕ) → Grows (with_contents more) (contents_at scope place rest) (contents_at scope place (rest ++ more))
unfolding contents_at
contents_grow scope place rest more =
    Grows-bind (with_spot more) (with_contents more) (definite_at scope place rest) (definite_at scope place (rest ++ more)) _ _ (definite_grows scope place rest more) (λ x e.
    Grows-enough (with_contents more) x.1.rest more x.0 _ _ (λ le. rw (take-append-le x.0 x.1.rest more le, drop-append-le x.0 x.1.rest more le) refl))

-- ---- the ends of contents

pub begin_grows : (scope : Scope) (place : ℕ) (rest more : List ℕ) → Grows (grown_ahead more) (begin_at scope place rest) (begin_at scope place (rest ++ more))
begin_grows scope place rest more =
    Grows-bind (with_opened more) (grown_ahead more) (identifier_at scope place rest) (identifier_at scope place (rest ++ more)) _ _ (identifier_grows scope place rest more) (λ x e. refl)

second_grows : (scope : Scope) (place : ℕ) (whole rest more : List ℕ) → Grows (grown_ahead more) (second_zero_at scope place whole rest) (second_zero_at scope place (whole ++ more) (rest ++ more))
second_grows scope place whole [] more = tt
second_grows scope place whole (second ∷ rest) more =
    Grows-cond (grown_ahead more) (nat_eq second 0) _ _ _ _ (λ t. Grows-same (grown_ahead more) (within scope place (place + 2)) _ _ (λ x e. refl)) (λ t. begin_grows scope place whole more)

mark_grows : (scope : Scope) (place : ℕ) (rest more : List ℕ) → Grows (grown_ahead more) (mark_at scope place rest) (mark_at scope place (rest ++ more))
mark_grows scope place [] more = tt
mark_grows scope place (first ∷ rest) more =
    Grows-cond (grown_ahead more) (nat_eq first 0) _ _ _ _
    (λ t. Grows-cond (grown_ahead more) (is_past scope.end (place + 2)) _ _ _ _ (λ t. Grows-same (grown_ahead more) (within scope place (place + 2)) _ _ (λ x e. tt)) (λ t. Grows-same (grown_ahead more) (within scope place (place + 1)) _ _ (λ x e. second_grows scope place (first ∷ rest) rest more)))
    (λ t. begin_grows scope place (first ∷ rest) more)

pub look_grows : (scope : Scope) (place : ℕ) (rest more : List ℕ) → Grows (grown_ahead more) (look_at scope place rest) (look_at scope place (rest ++ more))
unfolding look_at
look_grows scope place rest more =
    Grows-cond (grown_ahead more) scope.marked _ _ _ _
    (λ t. Grows-cond (grown_ahead more) (is_end scope.end place) _ _ _ _ (λ t. Grows-same (grown_ahead more) (within scope place (place + 1)) _ _ (λ x e. tt)) (λ t. mark_grows scope place rest more))
    (λ t. Grows-cond (grown_ahead more) (is_end scope.end place) _ _ _ _ (λ t. refl) (λ t. begin_grows scope place rest more))
