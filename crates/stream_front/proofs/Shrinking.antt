-- Reading leaves no more octets than there were, and an identifier takes one at least.
use Rattle.std.proofs.Common.{◌≡◌, ℕ, zero, suc, ◌+◌, ◌-◌, ◌*◌, ◌<◌, ◌≤◌, ◌%◌, Bool, true, false, ◌&&◌, ◌||◌, not, cond, List, [], ◌∷◌, length, drop, Option, Some, Ok, Err, refl, subst, arith}
use Rattle.std.proofs.lemmas.List.{length-drop}
use Rattle.std.specs.Prelude.{nat_lt, nat_eq}
use Rattle.asn1_types.specs.Rows.{is_no_tag}
use Rattle.asn1_types.specs.Whole.{is_marked}
use Rattle.ber_spelling.specs.declared.spot.Scope.{Scope}
use Rattle.ber_spelling.specs.Reading.{Spot, Opened, Ahead, ended, begun, Reading, ◌>>=◌, within, is_past}
use Rattle.ber_spelling.specs.Fields.{digits_at, high_at, identifier_at, announced_at, long_at, definite_at, extent_at, contents_at, look_at, mark_at, second_zero_at, begin_at, lacking_from, cut_off, is_lax, is_end}
use Rattle.asn1_types.specs.Tags.{capped}
use Rattle.ber_spelling.specs.Rules.{item_at, items_at, anew, whole_at}

-- ---- what holds of what is read

abbrev pub Holds : {A : Type 0} → (A → Type 0) → Reading A → Type 0
Holds P (Ok x) = P x
Holds P (Err e) = Unit {0}

holds_bind : {A B : Type 0} (P : B → Type 0) (r : Reading A) (f : A → Reading B) → ((x : A) → r ≡ Ok x → Holds P (f x)) → Holds P (r >>= f)
holds_bind P (Ok x) f h = h x refl
holds_bind P (Err e) f h = tt

holds_cond : {A : Type 0} (P : A → Type 0) (b : Bool) (r s : Reading A) → Holds P r → Holds P s → Holds P (cond b r s)
holds_cond P true r s h k = h
holds_cond P false r s h k = k

holds_read : {A : Type 0} (P : A → Type 0) (r : Reading A) (x : A) → r ≡ Ok x → Holds P r → P x
holds_read P r x e h = subst (Holds P) e h

weaker : {A : Type 0} (P Q : A → Type 0) (r : Reading A) → ((x : A) → P x → Q x) → Holds P r → Holds Q r
weaker P Q (Ok x) f h = f x h
weaker P Q (Err e) f h = tt

cut_holds : {A : Type 0} (P : A → Type 0) (scope : Scope) (place until : ℕ) → Holds P (cut_off scope place until)
cut_holds P scope place until = holds_bind P (within scope place until) _ (λ u h. tt)

lacking_holds : {A : Type 0} (P : A → Type 0) (scope : Scope) (place from : ℕ) → Holds P (lacking_from scope place from)
lacking_holds P scope place from = holds_cond P (is_end scope.end from) _ _ (cut_holds P scope place (from + 1)) tt

-- ---- fields

digits_leave : (scope : Scope) (place number from : ℕ) (digits : List ℕ) → Holds (λ (x : ℕ × Spot). length x.1.rest ≤ length digits) (digits_at scope place number from digits)
unfolding digits_at
digits_leave scope place number from [] = lacking_holds (λ (x : ℕ × Spot). length x.1.rest ≤ 0) scope place from
digits_leave scope place number from (digit ∷ rest) =
    holds_bind (λ (x : ℕ × Spot). length x.1.rest ≤ suc (length rest)) (within scope place (from + 1)) _
    (λ u h.
    holds_cond (λ (x : ℕ × Spot). length x.1.rest ≤ suc (length rest)) (nat_lt digit 128) _ _ (omega arith)
    (weaker (λ (x : ℕ × Spot). length x.1.rest ≤ length rest) (λ (x : ℕ × Spot). length x.1.rest ≤ suc (length rest)) _ (λ x k. omega arith) (digits_leave scope place (capped (128 * number + (digit - 128))) (from + 1) rest)))

high_leaves : (scope : Scope) (place first : ℕ) (digits : List ℕ) → Holds (λ (x : Opened × Spot). length x.1.rest ≤ length digits) (high_at scope place first digits)
unfolding high_at
high_leaves scope place first digits =
    holds_bind (λ (x : Opened × Spot). length x.1.rest ≤ length digits) (digits_at scope place 0 (place + 1) digits) _
    (λ n h.
    holds_cond (λ (x : Opened × Spot). length x.1.rest ≤ length digits) (is_lax digits n.0) _ _ tt
    (holds_read (λ (x : ℕ × Spot). length x.1.rest ≤ length digits) (digits_at scope place 0 (place + 1) digits) n h (digits_leave scope place 0 (place + 1) digits)))

identifier_leaves : (scope : Scope) (place : ℕ) (rest : List ℕ) → Holds (λ (x : Opened × Spot). length x.1.rest < length rest) (identifier_at scope place rest)
unfolding identifier_at
identifier_leaves scope place [] = tt
identifier_leaves scope place (first ∷ rest) =
    holds_cond (λ (x : Opened × Spot). length x.1.rest < suc (length rest)) (nat_eq scope.levels 0) _ _ tt
    (holds_bind (λ (x : Opened × Spot). length x.1.rest < suc (length rest)) (within scope place (place + 1)) _
    (λ u h.
    holds_cond (λ (x : Opened × Spot). length x.1.rest < suc (length rest)) (nat_eq (first % 32) 31) _ _
    (weaker (λ (x : Opened × Spot). length x.1.rest ≤ length rest) (λ (x : Opened × Spot). length x.1.rest < suc (length rest)) _ (λ x k. omega arith) (high_leaves scope place first rest)) (omega arith)))

announced_leaves : (scope : Scope) (place count : ℕ) (minimal : Bool) (from : ℕ) (rest : List ℕ) → Holds (λ (x : ℕ × Spot). length x.1.rest ≤ length rest) (announced_at scope place count minimal from rest)
unfolding announced_at
announced_leaves scope place count minimal from rest =
    holds_bind (λ (x : ℕ × Spot). length x.1.rest ≤ length rest) (within scope place (from + count)) _
    (λ u h. holds_cond (λ (x : ℕ × Spot). length x.1.rest ≤ length rest) (scope.strict && not minimal) _ _ tt (omega arith))

long_leaves : (scope : Scope) (place size : ℕ) (rest : List ℕ) → Holds (λ (x : ℕ × Spot). length x.1.rest ≤ length rest) (long_at scope place size rest)
unfolding long_at
long_leaves scope place size rest =
    let d = length-drop size rest in
    holds_cond (λ (x : ℕ × Spot). length x.1.rest ≤ length rest) (nat_lt (length rest) size) _ _ (cut_holds (λ (x : ℕ × Spot). length x.1.rest ≤ length rest) scope place _)
    (holds_bind (λ (x : ℕ × Spot). length x.1.rest ≤ length rest) (within scope place (place + 1 + size)) _
    (λ u h.
    holds_cond (λ (x : ℕ × Spot). length x.1.rest ≤ length rest) (nat_lt 8 size) _ _ tt
    (weaker (λ (x : ℕ × Spot). length x.1.rest ≤ length (drop size rest)) (λ (x : ℕ × Spot). length x.1.rest ≤ length rest) _ (λ x k. omega arith) (announced_leaves scope place _ _ _ (drop size rest)))))

definite_leaves : (scope : Scope) (place : ℕ) (rest : List ℕ) → Holds (λ (x : ℕ × Spot). length x.1.rest ≤ length rest) (definite_at scope place rest)
unfolding definite_at
definite_leaves scope place [] = lacking_holds (λ (x : ℕ × Spot). length x.1.rest ≤ 0) scope place place
definite_leaves scope place (first ∷ rest) =
    holds_bind (λ (x : ℕ × Spot). length x.1.rest ≤ suc (length rest)) (within scope place (place + 1)) _
    (λ u h.
    weaker (λ (x : ℕ × Spot). length x.1.rest ≤ length rest) (λ (x : ℕ × Spot). length x.1.rest ≤ suc (length rest)) _ (λ x k. omega arith)
    (holds_cond (λ (x : ℕ × Spot). length x.1.rest ≤ length rest) (nat_lt first 128) _ _ (announced_leaves scope place first true (place + 1) rest)
    (holds_cond (λ (x : ℕ × Spot). length x.1.rest ≤ length rest) (nat_eq first 128 || nat_eq first 255) _ _ tt (long_leaves scope place (first - 128) rest))))

extent_leaves : (scope : Scope) (place : ℕ) (rest : List ℕ) → Holds (λ (x : Scope × Spot). length x.1.rest ≤ length rest) (extent_at scope place rest)
unfolding extent_at
extent_leaves scope place [] = lacking_holds (λ (x : Scope × Spot). length x.1.rest ≤ 0) scope place place
extent_leaves scope place (first ∷ rest) =
    holds_cond (λ (x : Scope × Spot). length x.1.rest ≤ suc (length rest)) (nat_eq first 128) _ _
    (holds_bind (λ (x : Scope × Spot). length x.1.rest ≤ suc (length rest)) (within scope place (place + 1)) _
    (λ u h. holds_cond (λ (x : Scope × Spot). length x.1.rest ≤ suc (length rest)) (scope.strict) _ _ tt (omega arith)))
    (holds_bind (λ (x : Scope × Spot). length x.1.rest ≤ suc (length rest)) (definite_at scope place (first ∷ rest)) _
    (λ n h. holds_read (λ (x : ℕ × Spot). length x.1.rest ≤ suc (length rest)) (definite_at scope place (first ∷ rest)) n h (definite_leaves scope place (first ∷ rest))))

contents_leave : (scope : Scope) (place : ℕ) (rest : List ℕ) → Holds (λ (x : ℕ × List ℕ × Spot). length x.2.rest ≤ length rest) (contents_at scope place rest)
unfolding contents_at
contents_leave scope place rest =
    holds_bind (λ (x : ℕ × List ℕ × Spot). length x.2.rest ≤ length rest) (definite_at scope place rest) _
    (λ n h.
    let i = holds_read (λ (x : ℕ × Spot). length x.1.rest ≤ length rest) (definite_at scope place rest) n h (definite_leaves scope place rest) in
    let d = length-drop n.0 n.1.rest in
    holds_cond (λ (x : ℕ × List ℕ × Spot). length x.2.rest ≤ length rest) (nat_lt (length n.1.rest) n.0) _ _ tt (omega arith))

-- ---- what is looked at

-- the end of contents leaves what is there, a value takes an octet at least
abbrev Looks : ℕ → Ahead → Type 0
Looks most (ended place t) = length t.rest ≤ most
Looks most (begun o t) = length t.rest < most

begin_looks : (scope : Scope) (place : ℕ) (rest : List ℕ) → Holds (Looks (length rest)) (begin_at scope place rest)
begin_looks scope place rest =
    holds_bind (Looks (length rest)) (identifier_at scope place rest) _
    (λ x h. holds_read (λ (x : Opened × Spot). length x.1.rest < length rest) (identifier_at scope place rest) x h (identifier_leaves scope place rest))

second_looks : (scope : Scope) (place : ℕ) (whole rest : List ℕ) → length rest ≤ length whole → Holds (Looks (length whole)) (second_zero_at scope place whole rest)
second_looks scope place whole [] le = tt
second_looks scope place whole (second ∷ rest) le =
    holds_cond (Looks (length whole)) (nat_eq second 0) _ _ (holds_bind (Looks (length whole)) (within scope place (place + 2)) _ (λ u h. omega arith)) (begin_looks scope place whole)

mark_looks : (scope : Scope) (place : ℕ) (rest : List ℕ) → Holds (Looks (length rest)) (mark_at scope place rest)
mark_looks scope place [] = tt
mark_looks scope place (first ∷ rest) =
    holds_cond (Looks (suc (length rest))) (nat_eq first 0) _ _
    (holds_cond (Looks (suc (length rest))) (is_past scope.end (place + 2)) _ _ (cut_holds (Looks (suc (length rest))) scope place (place + 2))
    (holds_bind (Looks (suc (length rest))) (within scope place (place + 1)) _ (λ u h. second_looks scope place (first ∷ rest) rest (omega arith)))) (begin_looks scope place (first ∷ rest))

look_looks : (scope : Scope) (place : ℕ) (rest : List ℕ) → Holds (Looks (length rest)) (look_at scope place rest)
unfolding look_at
look_looks scope place rest =
    holds_cond (Looks (length rest)) scope.marked _ _
    (holds_cond (Looks (length rest)) (is_end scope.end place) _ _ (cut_holds (Looks (length rest)) scope place (place + 1)) (mark_looks scope place rest))
    (holds_cond (Looks (length rest)) (is_end scope.end place) _ _ (omega arith) (begin_looks scope place rest))

pub look_shrink : (scope : Scope) (place : ℕ) (rest : List ℕ) (o : Opened) (t : Spot) → look_at scope place rest ≡ Ok (begun o t) → length t.rest < length rest
look_shrink scope place rest o t e = holds_read (Looks (length rest)) (look_at scope place rest) (begun o t) e (look_looks scope place rest)

-- ---- whole values

abbrev pub some_unit : Unit {0} → Option (Unit {0})
some_unit u = Some u

abbrev Shrinks : ℕ → Type 0
Shrinks n = (scope : Scope) (o : Opened) (s : Spot) → Holds (λ (x : Unit {0} × Spot). length x.1.rest ≤ length s.rest) (whole_at n tt scope o s)

module _ (n : ℕ) (shrinks : Shrinks n) where
  item_leaves : (turns : ℕ) (scope : Scope) (s : Spot) → ((t : Spot) → Holds (λ (x : Unit {0} × Spot). length x.1.rest ≤ length t.rest) (items_at (whole_at n) some_unit turns tt scope t))
      → (a : Ahead) → Looks (length s.rest) a
      → Holds (λ (x : Unit {0} × Spot). length x.1.rest ≤ length s.rest) (item_at (whole_at n) some_unit (λ next after. items_at (whole_at n) some_unit turns next scope after) tt scope a)
  item_leaves turns scope s more (ended p t) l = l
  item_leaves turns scope s more (begun o t) l =
      holds_bind (λ (x : Unit {0} × Spot). length x.1.rest ≤ length s.rest) (whole_at n tt scope o t) _
      (λ x h.
      let i = holds_read (λ (y : Unit {0} × Spot). length y.1.rest ≤ length t.rest) (whole_at n tt scope o t) x h (shrinks scope o t) in
      weaker (λ (y : Unit {0} × Spot). length y.1.rest ≤ length x.1.rest) (λ (y : Unit {0} × Spot). length y.1.rest ≤ length s.rest) _ (λ y k. omega arith) (more x.1))

  items_leave : (turns : ℕ) (scope : Scope) (s : Spot) → Holds (λ (x : Unit {0} × Spot). length x.1.rest ≤ length s.rest) (items_at (whole_at n) some_unit turns tt scope s)
  unfolding items_at
  items_leave zero scope s = tt
  items_leave (suc turns) scope s =
      holds_bind (λ (x : Unit {0} × Spot). length x.1.rest ≤ length s.rest) (look_at scope s.place s.rest) _
      (λ a h. item_leaves turns scope s (λ t. items_leave turns scope t) a (holds_read (Looks (length s.rest)) (look_at scope s.place s.rest) a h (look_looks scope s.place s.rest)))

whole_leaves : (n : ℕ) → Shrinks n
unfolding whole_at
whole_leaves zero scope o s = tt
whole_leaves (suc n) scope o s =
    holds_cond (λ (x : Unit {0} × Spot). length x.1.rest ≤ length s.rest) (is_no_tag o.class o.number) _ _ tt
    (holds_cond (λ (x : Unit {0} × Spot). length x.1.rest ≤ length s.rest) (is_marked s.rest && o.constructed) _ _
    (holds_bind (λ (x : Unit {0} × Spot). length x.1.rest ≤ length s.rest) (extent_at (anew (suc n) scope) s.place s.rest) _
    (λ x h.
    let i = holds_read (λ (y : Scope × Spot). length y.1.rest ≤ length s.rest) (extent_at (anew (suc n) scope) s.place s.rest) x h (extent_leaves (anew (suc n) scope) s.place s.rest) in
    weaker (λ (y : Unit {0} × Spot). length y.1.rest ≤ length x.1.rest) (λ (y : Unit {0} × Spot). length y.1.rest ≤ length s.rest) _ (λ y k. omega arith) (items_leave n (whole_leaves n) (suc (length x.1.rest)) x.0 x.1)))
    (holds_bind (λ (x : Unit {0} × Spot). length x.1.rest ≤ length s.rest) (contents_at (anew (suc n) scope) s.place s.rest) _
    (λ c h. holds_read (λ (x : ℕ × List ℕ × Spot). length x.2.rest ≤ length s.rest) (contents_at (anew (suc n) scope) s.place s.rest) c h (contents_leave (anew (suc n) scope) s.place s.rest))))

pub whole_shrink : (n : ℕ) (scope : Scope) (o : Opened) (s : Spot) (x : Unit {0} × Spot) → whole_at n tt scope o s ≡ Ok x → length x.1.rest ≤ length s.rest
whole_shrink n scope o s x e = holds_read (λ (y : Unit {0} × Spot). length y.1.rest ≤ length s.rest) (whole_at n tt scope o s) x e (whole_leaves n scope o s)

-- ---- as many turns as there are octets are enough

pub bind_same : {A B : Type 0} (r : Reading A) (f g : A → Reading B) → ((x : A) → r ≡ Ok x → f x ≡ g x) → (r >>= f) ≡ (r >>= g)
bind_same (Ok x) f g h = h x refl
bind_same (Err e) f g h = refl

module _ (n : ℕ) (scope : Scope) where
  abbrev turn : ℕ → Ahead → Reading (Unit {0} × Spot)
  turn k a = item_at (whole_at n) some_unit (λ next after. items_at (whole_at n) some_unit k next scope after) tt scope a

  turn_same : (k l : ℕ) (s : Spot) → ((t : Spot) → length t.rest < length s.rest → items_at (whole_at n) some_unit k tt scope t ≡ items_at (whole_at n) some_unit l tt scope t)
      → (a : Ahead) → look_at scope s.place s.rest ≡ Ok a → turn k a ≡ turn l a
  turn_same k l s more (ended p t) e = refl
  turn_same k l s more (begun o t) e =
      bind_same (whole_at n tt scope o t) _ _
      (λ x h.
      let i = look_shrink scope s.place s.rest o t e in
      let j = whole_shrink n scope o t x h in more x.1 (omega arith))

  pub turns_same : (k l : ℕ) (s : Spot) → length s.rest < k → length s.rest < l → items_at (whole_at n) some_unit k tt scope s ≡ items_at (whole_at n) some_unit l tt scope s
  unfolding items_at
  turns_same zero l s a b = absurd (omega arith)
  turns_same (suc k) zero s a b = absurd (omega arith)
  turns_same (suc k) (suc l) s a b =
      bind_same (look_at scope s.place s.rest) _ _ (λ x h. turn_same k l s (λ t lt. turns_same k l t (omega arith) (omega arith)) x h)
