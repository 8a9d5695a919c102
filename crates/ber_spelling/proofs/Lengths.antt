-- Lengths: what is read is spelled so, and what is spelled so is read.
use Rattle.std.proofs.Common.{◌≡◌, ◌≢◌, ℕ, suc, ◌+◌, ◌-◌, ◌≤◌, ◌<◌, Bool, true, false, not, ◌&&◌, ◌||◌, cond, List, [], ◌∷◌, ◌++◌, length, take, drop, Ok, Err, refl, sym, ap, ◌∙◌, subst, arith, append_assoc, length-append, ◌⊎◌, inl, inr}
use Rattle.std.specs.Prelude.{nat_lt, nat_le, nat_eq, slice_index}
use Rattle.std.proofs.lemmas.Bool.{lt-ltb, le-ltb, ltb-false, ltb-true, eqb-true, eqb-false, ne_eqb, leb-true, le-leb, and_parts}
use Rattle.std.proofs.lemmas.List.{take_at, drop_at, take-append-drop, length-take}
use Rattle.osi_base.specs.declared.layer_words.Kind.TheVariants.{Length, Form}
use Rattle.asn1_types.specs.Whole.{number_256}
use Rattle.ber_spelling.specs.declared.fault.ReadFault.TheVariants as faults
use Rattle.ber_spelling.specs.declared.spot.Scope.{Scope}
use Rattle.ber_spelling.specs.Reading.{Spot, Reading, refuse, within, ◌>>=◌}
use Rattle.ber_spelling.specs.Fields.{announced_at, long_at, sure_reach, definite_at, inside, inside_until, extent_at, contents_at}
use Rattle.ber_spelling.specs.Spelling.{IsLong, IsLength}
use Rattle.ber_spelling.proofs.Growing.{short_not_ok, lacking_not_ok}
use Rattle.ber_spelling.proofs.Identifiers.{IsIn, in_before, is_in, in_is, Taken, bind_ok, chosen_ok, unless_ok, ok_is}

abbrev done : {A : Type 0} → A → Reading A
done x = Ok x

strict_minimal : (s m : Bool) → (s && not m) ≡ false → s ≡ true → m ≡ true
strict_minimal true true e h = refl
strict_minimal true false e h = absurd cc
strict_minimal false m e h = absurd cc

pub record Announced (scope : Scope) (count : ℕ) (minimal : Bool) (from : ℕ) (rest : List ℕ) (n : ℕ) (s : Spot) : Type 0 where
  pub number : n ≡ count
  pub place : s.place ≡ from
  pub behind : s.rest ≡ rest
  pub is_in : IsIn scope (from + count)
  pub shortest : scope.strict ≡ true → minimal ≡ true

announced_found : (scope : Scope) (place count : ℕ) (minimal : Bool) (from : ℕ) (rest : List ℕ) (n : ℕ) (s : Spot) → announced_at scope place count minimal from rest ≡ Ok (n, s) → Announced scope count minimal from rest n s
unfolding announced_at
announced_found scope place count minimal from rest n s e =
    let b = bind_ok (within scope place (from + count)) (λ _. cond (scope.strict && not minimal) (refuse place Form) (Ok (count, record { place = from; rest = rest }))) (n, s) e in
    let u = unless_ok (scope.strict && not minimal) (faults.NotSpelled place Form) (Ok (count, record { place = from; rest = rest })) (n, s) b.2 in
    let same = ok_is {A = ℕ × Spot} (count, record { place = from; rest = rest }) (n, s) u.1 in
    record {
      number = ap (λ (x : ℕ × Spot). x.0) (sym same);
      place = ap (λ (x : ℕ × Spot). x.1.place) (sym same);
      behind = ap (λ (x : ℕ × Spot). x.1.rest) (sym same);
      is_in = is_in scope place (from + count) b.0 b.1;
      shortest = strict_minimal scope.strict minimal u.0;
    }

announced_again : (scope : Scope) (place count : ℕ) (minimal : Bool) (from : ℕ) (rest : List ℕ) → IsIn scope (from + count) → (scope.strict && not minimal) ≡ false → announced_at scope place count minimal from rest ≡ Ok (count, record { place = from; rest = rest })
unfolding announced_at
announced_again scope place count minimal from rest here ok = rw (in_is scope place (from + count) here, ok) refl

pub record DefiniteFound (scope : Scope) (place : ℕ) (rest : List ℕ) (n : ℕ) (s : Spot) : Type 0 where
  pub size : List ℕ
  pub taken : Taken place rest size s
  pub is_length : IsLength scope.strict size n
  pub is_in : IsIn scope (s.place + n)

enough_ok : {A B : Type 0} (lacks : Bool) (r : Reading A) (read : Reading B) (x : B) → cond lacks (r >>= λ _. Err faults.Short) read ≡ Ok x → (lacks ≡ false) × (read ≡ Ok x)
enough_ok true r read x e = absurd (short_not_ok r x e)
enough_ok false r read x e = (refl, e)

long_found : (scope : Scope) (place first : ℕ) (rest : List ℕ) (n : ℕ) (s : Spot) → 129 ≤ first → long_at scope place (first - 128) rest ≡ Ok (n, s) → DefiniteFound scope place (first ∷ rest) n s
unfolding long_at
long_found scope place first rest n s large e =
    let size = first - 128 in
    let u = enough_ok (nat_lt (length rest) size) (within scope place (sure_reach scope.end (place + 1 + size) (place + 1 + length rest))) _ (n, s) e in
    let b = bind_ok (within scope place (place + 1 + size)) _ (n, s) u.1 in
    let v = unless_ok (nat_lt 8 size) (faults.NotSpelled place Length) _ (n, s) b.2 in
    let enough : size ≤ length rest = ltb-false (length rest) size u.0 in
    let few : size ≤ 8 = ltb-false 8 size v.0 in
    let len : length (take size rest) ≡ size = omega (arith, length-take size rest) in
    let a = announced_found scope place (number_256 0 (take size rest)) (nat_le 128 (number_256 0 (take size rest)) && nat_lt 0 (slice_index (take size rest) 0)) (place + 1 + size) (drop size rest) n s v.1 in
    record {
      size = first ∷ take size rest;
      taken = record { parts = ap (λ (x : List ℕ). first ∷ x) (sym (take-append-drop size rest) ∙ ap (λ (x : List ℕ). take size rest ++ x) (sym a.behind)); onward = omega (arith, a.place) };
      is_length = inr (record {
        size = omega arith;
        some = omega arith;
        few = omega arith;
        number = sym a.number;
        shortest = λ h. let t = and_parts _ _ (a.shortest h) in
            (let le = leb-true 128 (number_256 0 (take size rest)) t.0 in omega (arith, a.number), ltb-true 0 (slice_index (take size rest) 0) t.1);
      });
      is_in = rw (a.place, a.number) a.is_in;
    }

pub definite_found : (scope : Scope) (place : ℕ) (rest : List ℕ) (n : ℕ) (s : Spot) → definite_at scope place rest ≡ Ok (n, s) → DefiniteFound scope place rest n s
unfolding definite_at
definite_found scope place [] n s e = absurd (lacking_not_ok scope place place (n, s) e)
definite_found scope place (first ∷ rest) n s e =
    let b = bind_ok (within scope place (place + 1)) _ (n, s) e in
    elim (chosen_ok (nat_lt first 128) _ _ (n, s) b.2) [
      | inl t ↦
          let a = announced_found scope place first true (place + 1) rest n s t.1 in
          record {
            size = first ∷ [];
            taken = record { parts = ap (λ (x : List ℕ). first ∷ x) (sym a.behind); onward = a.place };
            is_length = inl (ltb-true first 128 t.0, refl, a.number);
            is_in = rw (a.place, a.number) a.is_in;
          }
      | inr t ↦
          let u = unless_ok (nat_eq first 128 || nat_eq first 255) (faults.NotSpelled place Length) _ (n, s) t.1 in
          let ge : 128 ≤ first = ltb-false first 128 t.0 in
          let ne : first ≢ 128 = eqb-false first 128 (or_false (nat_eq first 128) (nat_eq first 255) u.0).0 in
          long_found scope place first rest n s (omega arith) u.1
    ]
  where
    or_false : (a b : Bool) → (a || b) ≡ false → (a ≡ false) × (b ≡ false)
    or_false true b e = absurd cc
    or_false false b e = (refl, e)

minimal_ok : (strict : Bool) (n d : ℕ) → (strict ≡ true → (128 ≤ n) × (0 < d)) → (strict && not (nat_le 128 n && nat_lt 0 d)) ≡ false
minimal_ok false n d h = refl
minimal_ok true n d h = let t = h refl in rw (le-leb 128 n t.0, lt-ltb 0 d t.1) refl

long_again : (scope : Scope) (place first : ℕ) (digits rest : List ℕ) (n : ℕ) → IsLong scope.strict first digits n → IsIn scope (place + 1 + length digits + n) → long_at scope place (length digits) (digits ++ rest) ≡ Ok (n, record { place = place + 1 + length digits; rest = rest })
unfolding long_at
long_again scope place first digits rest n h here =
    let enough : length digits ≤ length (digits ++ rest) = omega (arith, length-append digits rest) in
    let few : length digits ≤ 8 = h.few in
    rw (
      le-ltb (length (digits ++ rest)) (length digits) enough,
      in_is scope place (place + 1 + length digits) (in_before scope (place + 1 + length digits) (place + 1 + length digits + n) (omega arith) here),
      le-ltb 8 (length digits) few,
      take_at digits rest (length digits) refl,
      drop_at digits rest (length digits) refl,
      h.number,
    )
    (announced_again scope place n _ (place + 1 + length digits) rest here (minimal_ok scope.strict n (slice_index digits 0) h.shortest))

pub definite_again : (scope : Scope) (place : ℕ) (size rest : List ℕ) (n : ℕ) → IsLength scope.strict size n → IsIn scope (place + length size + n) → definite_at scope place (size ++ rest) ≡ Ok (n, record { place = place + length size; rest = rest })
unfolding definite_at long_at
definite_again scope place [] rest n h here = absurd h
definite_again scope place (first ∷ d ∷ digits) rest n (inl h) here = absurd (let e : (d ∷ digits) ≡ [] = h.1 in cc)
definite_again scope place (first ∷ []) rest n (inl h) here =
    let there : place + 1 + n ≡ place + 1 + first = omega (arith, h.2) in
    rw (in_is scope place (place + 1) (in_before scope (place + 1) (place + 1 + n) (omega arith) here), lt-ltb first 128 h.0, h.2)
    (announced_again scope place first true (place + 1) rest (rw there at here) (no scope.strict))
  where
    no : (s : Bool) → (s && not true) ≡ false
    no true = refl
    no false = refl
definite_again scope place (first ∷ digits) rest n (inr h) here =
    let there : place + suc (length digits) + n ≡ place + 1 + length digits + n = omega arith in
    let moved : place + suc (length digits) ≡ place + 1 + length digits = omega arith in
    let large : 128 ≤ first = omega (arith, h.size, h.some) in
    let ne128 : first ≢ 128 = let some = h.some in let size = h.size in λ e. omega arith in
    let ne255 : first ≢ 255 = let few = h.few in let size = h.size in λ e. omega arith in
    let size : first - 128 ≡ length digits = omega (arith, h.size) in
    rw (in_is scope place (place + 1) (in_before scope (place + 1) (place + suc (length digits) + n) (omega arith) here), le-ltb first 128 large, ne_eqb first 128 ne128, ne_eqb first 255 ne255, size, moved)
    (long_again scope place first digits rest n h (rw there at here))

-- ---- contents of primitives

pub record ContentsFound (scope : Scope) (place : ℕ) (rest : List ℕ) (at : ℕ) (contents : List ℕ) (s : Spot) : Type 0 where
  pub size : List ℕ
  pub is_length : IsLength scope.strict size (length contents)
  pub taken : Taken place rest (size ++ contents) s
  pub is_in : IsIn scope s.place

pub contents_found : (scope : Scope) (place : ℕ) (rest : List ℕ) (at : ℕ) (contents : List ℕ) (s : Spot) → contents_at scope place rest ≡ Ok (at, contents, s) → ContentsFound scope place rest at contents s
unfolding contents_at
contents_found scope place rest at contents s e =
    let b = bind_ok (definite_at scope place rest) _ (at, contents, s) e in
    let n : ℕ = b.0.0 in
    let mid : Spot = b.0.1 in
    let f = definite_found scope place rest n mid b.1 in
    let u = unless_ok (nat_lt (length mid.rest) n) faults.Short _ (at, contents, s) b.2 in
    let enough : n ≤ length mid.rest = ltb-false (length mid.rest) n u.0 in
    let len : length (take n mid.rest) ≡ n = omega (arith, length-take n mid.rest) in
    let same = ok_is {A = ℕ × List ℕ × Spot} (mid.place, take n mid.rest, record { place = mid.place + n; rest = drop n mid.rest }) (at, contents, s) u.1 in
    subst (λ (y : ℕ × List ℕ × Spot). ContentsFound scope place rest y.0 y.1 y.2) same (record {
      size = f.size;
      is_length = rw len f.is_length;
      taken = record {
        parts = f.taken.parts ∙ ap (λ (x : List ℕ). f.size ++ x) (sym (take-append-drop n mid.rest)) ∙ sym (append_assoc f.size (take n mid.rest) (drop n mid.rest));
        onward = omega (arith, f.taken.onward, length-append f.size (take n mid.rest));
      };
      is_in = f.is_in;
    })

pub contents_again : (scope : Scope) (place : ℕ) (size contents rest : List ℕ) → IsLength scope.strict size (length contents) → IsIn scope (place + length size + length contents)
    → contents_at scope place (size ++ (contents ++ rest)) ≡ Ok (place + length size, contents, record { place = place + length size + length contents; rest = rest })
unfolding contents_at
contents_again scope place size contents rest h here =
    let enough : length contents ≤ length (contents ++ rest) = omega (arith, length-append contents rest) in
    rw (definite_again scope place size (contents ++ rest) (length contents) h here, le-ltb (length (contents ++ rest)) (length contents) enough, take_at contents rest (length contents) refl, drop_at contents rest (length contents) refl) refl

-- ---- the scope of constructed contents

pub record Until (scope : Scope) (place : ℕ) (rest : List ℕ) (x : Scope) (s : Spot) : Type 0 where
  pub size : List ℕ
  pub count : ℕ
  pub taken : Taken place rest size s
  pub is_length : IsLength scope.strict size count
  pub is_in : IsIn scope (s.place + count)
  pub are : x ≡ inside_until scope (s.place + count)

pub record Marked (scope : Scope) (place : ℕ) (rest : List ℕ) (x : Scope) (s : Spot) : Type 0 where
  pub taken : Taken place rest (128 ∷ []) s
  pub lax : scope.strict ≡ false
  pub is_in : IsIn scope s.place
  pub are : x ≡ inside scope

pub extent_found : (scope : Scope) (place : ℕ) (rest : List ℕ) (x : Scope) (s : Spot) → extent_at scope place rest ≡ Ok (x, s) → Until scope place rest x s ⊎ Marked scope place rest x s
unfolding extent_at
extent_found scope place [] x s e = absurd (lacking_not_ok scope place place (x, s) e)
extent_found scope place (first ∷ rest) x s e =
    elim (chosen_ok (nat_eq first 128) _ _ (x, s) e) [
      | inl t ↦
          let b = bind_ok (within scope place (place + 1)) _ (x, s) t.1 in
          let u = unless_ok scope.strict (faults.NotSpelled place Form) (Ok (inside scope, record { place = place + 1; rest = rest })) (x, s) b.2 in
          let same = ok_is {A = Scope × Spot} (inside scope, record { place = place + 1; rest = rest }) (x, s) u.1 in
          inr (subst (λ (y : Scope × Spot). Marked scope place (first ∷ rest) y.0 y.1) same (record {
            taken = record { parts = ap (λ (o : ℕ). o ∷ rest) (eqb-true first 128 t.0); onward = refl };
            lax = u.0;
            is_in = is_in scope place (place + 1) b.0 b.1;
            are = refl;
          }))
      | inr t ↦
          let b = bind_ok (definite_at scope place (first ∷ rest)) _ (x, s) t.1 in
          let f = definite_found scope place (first ∷ rest) b.0.0 b.0.1 b.1 in
          let same = ok_is {A = Scope × Spot} (inside_until scope (b.0.1.place + b.0.0), b.0.1) (x, s) b.2 in
          inl (subst (λ (y : Scope × Spot). Until scope place (first ∷ rest) y.0 y.1) same (record {
            size = f.size;
            count = b.0.0;
            taken = f.taken;
            is_length = f.is_length;
            is_in = f.is_in;
            are = refl;
          }))
    ]

pub length_first : (strict : Bool) (first : ℕ) (digits : List ℕ) (n : ℕ) → IsLength strict (first ∷ digits) n → nat_eq first 128 ≡ false
length_first strict first digits n (inl h) = let lt : first < 128 = h.0 in let ne : first ≢ 128 = omega arith in ne_eqb first 128 ne
length_first strict first digits n (inr h) = let some = h.some in let size = h.size in let ne : first ≢ 128 = λ e. omega arith in ne_eqb first 128 ne

pub extent_until : (scope : Scope) (place : ℕ) (size rest : List ℕ) (n : ℕ) → IsLength scope.strict size n → IsIn scope (place + length size + n)
    → extent_at scope place (size ++ rest) ≡ Ok (inside_until scope (place + length size + n), record { place = place + length size; rest = rest })
unfolding extent_at
extent_until scope place [] rest n h here = absurd h
extent_until scope place (first ∷ digits) rest n h here =
    rw (length_first scope.strict first digits n h, definite_again scope place (first ∷ digits) rest n h here) refl

pub extent_marked : (scope : Scope) (place : ℕ) (rest : List ℕ) → scope.strict ≡ false → IsIn scope (place + 1) → extent_at scope place (128 ∷ rest) ≡ Ok (inside scope, record { place = place + 1; rest = rest })
unfolding extent_at
extent_marked scope place rest lax here = rw (in_is scope place (place + 1) here, lax) refl
