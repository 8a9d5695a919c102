-- Steps of reading that stop.
use Rattle.std.proofs.Common.{◌≡◌, ℕ, ◌+◌, ◌<◌, List, [], ◌∷◌, length, refl, subst, arith}
use Rattle.ber_spelling.specs.declared.fault.ReadFault.{ReadFault}
use Rattle.ber_spelling.specs.declared.fault.ReadFault.TheVariants as faults
use Rattle.ber_spelling.specs.declared.spot.Scope.{Scope}
use Rattle.ber_spelling.specs.Reading.{Reading, ◌>>=◌, FailsWith, within}
use Rattle.ber_spelling.specs.Fields.{digits_at}

-- what fails at its first step fails so
pub FailsWith-bind : {A B : Type 0} (e : ReadFault) (read : Reading A) (f : A → Reading B) → FailsWith e read → FailsWith e (read >>= f)
FailsWith-bind (faults.NotSpelled place kind) read f h = rw h refl
FailsWith-bind faults.Short read f h = rw h refl
FailsWith-bind (faults.TooDeep place) read f h = rw h refl
FailsWith-bind (faults.TooLong place) read f h = rw h refl
FailsWith-bind faults.NoMemory read f h = tt

pub FailsWith-same : {B : Type 0} (e : ReadFault) (a b : Reading B) → a ≡ b → FailsWith e a → FailsWith e b
FailsWith-same {B} e a b same h = subst (λ (r : Reading B). FailsWith e r) same h

pub digits_cut : (e : ReadFault) (scope : Scope) (place number from until : ℕ) (digits : List ℕ) → 0 < length digits → until ≡ from + 1 → FailsWith e (within scope place until) → FailsWith e (digits_at scope place number from digits)
unfolding digits_at
digits_cut e scope place number from until [] some same h = absurd (omega arith)
digits_cut e scope place number from until (d ∷ ds) some same h =
    let g : FailsWith e (within scope place (from + 1)) = rw (← same) h in
    FailsWith-bind e (within scope place (from + 1)) _ g
