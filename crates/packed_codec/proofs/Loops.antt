-- Reading one after the other, as loops do.
use Rattle.std.proofs.Common.{◌≡◌, ℕ, suc, ◌+◌, ◌-◌, ◌<◌, length, List, [], ◌∷◌, ◌++◌, Ok, Err, refl, sym, ap, ◌∙◌, subst, append_assoc, arith}
use Rattle.asn1_types.specs.Value.{Value}
use Rattle.packed_codec.specs.declared.spot.Spot as code
use Rattle.packed_codec.specs.declared.fault.PackedFault.{PackedFault}
use Rattle.packed_codec.specs.declared.fault.PackedFault.TheVariants as faults
use Rattle.packed_codec.specs.Reading.{GoesOn, Spot, Reading, ◌>>=◌, FailsWith}
use Rattle.packed_codec.specs.Rules.{Reader, items_at, set_items_at}

-- what was found before, and what is still found
abbrev pub behind : {X : Type 0} → List X → Reading (List X × Spot) → Reading (List X × Spot)
behind front read = read >>= λ x. Ok (front ++ x.0, x.1)

regroup : {X : Type 0} (front : List X) (o : X) (read : Reading (List X × Spot)) → behind front (read >>= λ x. Ok (o ∷ x.0, x.1)) ≡ behind (front ++ o ∷ []) read
regroup {X} front o (Ok x) = ap (λ (os : List X). Ok (os, x.1)) (simp append_assoc)
regroup front o (Err f) = refl

pub items_go_on : (inner : Reader) (limit n i : ℕ) (front : List Value) (s : Spot) (v : Value) (next : Spot) (total : Reading (List Value × Spot))
    → i < n → inner limit s ≡ Ok (v, next)
    → behind front (items_at inner (n - i) limit s) ≡ total
    → behind (front ++ v ∷ []) (items_at inner (n - (i + 1)) limit next) ≡ total
unfolding items_at
items_go_on inner limit n i front s v next total lt read so_far =
    let cell : n - i ≡ suc (n - (i + 1)) = omega arith in
    let one : behind front (items_at inner (n - i) limit s) ≡ behind (front ++ v ∷ []) (items_at inner (n - (i + 1)) limit next) =
    rw (cell, read) (regroup front v (items_at inner (n - (i + 1)) limit next)) in
    sym one ∙ so_far

-- what fails at its first step fails so
Fails-bind : {A B : Type 0} (e : PackedFault) (read : Reading A) (f : A → Reading B) → FailsWith e read → FailsWith e (read >>= f)
Fails-bind (faults.NotSpelled place kind) read f h = rw h refl
Fails-bind faults.Short read f h = rw h refl
Fails-bind (faults.TooLong place) read f h = rw h refl
Fails-bind faults.NoMemory read f h = tt

pub items_fail : (e : PackedFault) (inner : Reader) (limit n i : ℕ) (front : List Value) (s : Spot) (total : Reading (List Value × Spot))
    → i < n → FailsWith e (inner limit s) → behind front (items_at inner (n - i) limit s) ≡ total → FailsWith e total
unfolding items_at
items_fail e inner limit n i front s total lt h so_far =
    let cell : n - i ≡ suc (n - (i + 1)) = omega arith in
    let one : FailsWith e (items_at inner (suc (n - (i + 1))) limit s) = Fails-bind e (inner limit s) _ h in
    let F : ℕ → Type 0 = λ k. FailsWith e (items_at inner k limit s) in
    let R : Reading (List Value × Spot) → Type 0 = λ r. FailsWith e r in
    subst R so_far (Fails-bind e (items_at inner (n - i) limit s) _ (subst F (sym cell) one))

pub set_items_go_on : (step : List Value → Reader) (limit n i : ℕ) (front : List Value) (s : Spot) (v : Value) (next : Spot) (total : Reading (List Value × Spot))
    → i < n → step front limit s ≡ Ok (v, next)
    → behind front (set_items_at step front (n - i) limit s) ≡ total
    → behind (front ++ v ∷ []) (set_items_at step (front ++ v ∷ []) (n - (i + 1)) limit next) ≡ total
unfolding set_items_at
set_items_go_on step limit n i front s v next total lt read so_far =
    let cell : n - i ≡ suc (n - (i + 1)) = omega arith in
    let one : behind front (set_items_at step front (n - i) limit s) ≡ behind (front ++ v ∷ []) (set_items_at step (front ++ v ∷ []) (n - (i + 1)) limit next) =
    rw (cell, read) (regroup front v (set_items_at step (front ++ v ∷ []) (n - (i + 1)) limit next)) in
    sym one ∙ so_far

pub set_items_fail : (e : PackedFault) (step : List Value → Reader) (limit n i : ℕ) (front : List Value) (s : Spot) (total : Reading (List Value × Spot))
    → i < n → FailsWith e (step front limit s) → behind front (set_items_at step front (n - i) limit s) ≡ total → FailsWith e total
unfolding set_items_at
set_items_fail e step limit n i front s total lt h so_far =
    let cell : n - i ≡ suc (n - (i + 1)) = omega arith in
    let one : FailsWith e (set_items_at step front (suc (n - (i + 1))) limit s) = Fails-bind e (step front limit s) _ h in
    let F : ℕ → Type 0 = λ k. FailsWith e (set_items_at step front k limit s) in
    let R : Reading (List Value × Spot) → Type 0 = λ r. FailsWith e r in
    subst R so_far (Fails-bind e (set_items_at step front (n - i) limit s) _ (subst F (sym cell) one))

pub goes_then : {place len : ℕ} {mid to : code.Spot} → GoesOn place len mid → GoesOn mid.place (length mid.rest.now) to → GoesOn place len to
goes_then a b = record { whole = omega (arith, a.whole, b.whole); onward = omega (arith, a.onward, b.onward) }
