-- Calls of `shut` that are only counted.
use Rattle.std.proofs.Common.{ℕ, suc, zero, ◌≡◌, ◌-◌, ◌<◌, ◌≤◌, List, ◌∷◌, refl, ap, subst, arith}
use Rattle.osi_base.specs.declared.line.LineCall.{LineCall}
use Rattle.osi_base.specs.declared.line.LineCall.TheVariants.{Shut}
use Rattle.osi_base.specs.declared.line.Outcome.TheVariants.{Done}
use Rattle.osi_base.specs.Lines.{shut_after, newest_shuts}

-- one that is written out before those that are counted, or counted as one more
pub shut_onto : (count : ℕ) (log : List LineCall) → shut_after count (Shut Done ∷ log) ≡ shut_after (suc count) log
shut_onto zero log = refl
shut_onto (suc count) log = ap (λ rest. Shut Done ∷ rest) (shut_onto count log)

-- all of them stand in a row as the newest
pub shuts_counted : (count : ℕ) (log : List LineCall) → count ≤ newest_shuts (shut_after count log)
shuts_counted zero log = omega arith
shuts_counted (suc count) log = omega (arith, shuts_counted count log)

-- the same, as code counts down
pub written_out : (count : ℕ) (log : List LineCall) → 0 < count → shut_after (count - 1) (Shut Done ∷ log) ≡ shut_after count log
written_out zero log some = absurd (omega (arith, some))
written_out (suc count) log some = let P : ℕ → Type 0 = λ n. shut_after n (Shut Done ∷ log) ≡ shut_after (suc count) log in
    let same : count ≡ suc count - 1 = omega arith in subst P same (shut_onto count log)
