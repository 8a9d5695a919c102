-- The digits of high tag numbers.
use Rattle.std.proofs.Common.{◌≡◌, ℕ, suc, ◌+◌, ◌-◌, ◌*◌, ◌≤◌, List, [], ◌∷◌, ◌++◌, length, Err, refl, ap, arith, inl, inr}
use Rattle.std.specs.Prelude.{nat_lt}
use Rattle.std.proofs.lemmas.Bool.{le-ltb, ltb-false}
use Rattle.asn1_types.specs.Tags.{capped}
use Rattle.ber_spelling.specs.declared.fault.ReadFault.{ReadFault}
use Rattle.ber_spelling.specs.declared.fault.ReadFault.TheVariants.{Short}
use Rattle.ber_spelling.specs.declared.spot.Scope.{Scope}
use Rattle.ber_spelling.specs.Reading.{Spot, within}
use Rattle.ber_spelling.specs.Fields.{digits_at}
use Rattle.ber_spelling.proofs.Identifiers.{in_before}
use Rattle.ber_faults.specs.Fields.{IsWithin, Crosses, GoesOn, AreUnfinishedDigits}
use Rattle.ber_faults.proofs.Steps.{bind_err, bind_fails, cond_err, not_err, within_err, crosses_err, within_ok, within_goes, in_within, within_in, lacking_err, lacking_fails}

-- ---- digits that cross

pub record DigitsCross (scope : Scope) (place from : ℕ) (octets : List ℕ) (f : ReadFault) : Type 0 where
  pub digits : List ℕ
  pub more : List ℕ
  pub parts : octets ≡ digits ++ more
  pub within : IsWithin scope (from + length digits)
  pub are : AreUnfinishedDigits digits
  pub goes_on : GoesOn scope (from + length digits) more
  pub crosses : Crosses scope place (from + length digits + 1) f

pub digits_err : (scope : Scope) (place number from : ℕ) (octets : List ℕ) (f : ReadFault) → (f ≡ Short → ⊥) → IsWithin scope from → digits_at scope place number from octets ≡ Err f → DigitsCross scope place from octets f
unfolding digits_at
digits_err scope place number from [] f ne here e =
    let l = lacking_err {A = ℕ × Spot} scope place from f ne e in
    let none : from + 0 ≡ from = omega arith in
    record { digits = []; more = []; parts = refl; within = rw none here; are = tt; goes_on = rw none l.0; crosses = rw none l.1 }
digits_err scope place number from (digit ∷ rest) f ne here e =
    let none : from + 0 ≡ from = omega arith in
    elim (bind_err (within scope place (from + 1)) _ f e) [
      | inl t ↦ record { digits = []; more = digit ∷ rest; parts = refl; within = rw none here; are = tt; goes_on = tt; crosses = rw none (within_err scope place (from + 1) f t) }
      | inr t ↦ elim (cond_err (nat_lt digit 128) _ _ f t.2) [
        | inl u ↦ absurd (not_err {A = ℕ × Spot} (capped (128 * number + digit), record { place = from + 1; rest = rest }) f u.1)
        | inr u ↦
            let r = digits_err scope place (capped (128 * number + (digit - 128))) (from + 1) rest f ne (within_ok scope place (from + 1) t.0 t.1) u.1 in
            let there : from + suc (length r.digits) ≡ from + 1 + length r.digits = omega arith in
            record {
              digits = digit ∷ r.digits;
              more = r.more;
              parts = ap (λ (x : List ℕ). digit ∷ x) r.parts;
              within = rw there r.within;
              are = (ltb-false digit 128 u.0, r.are);
              goes_on = rw there r.goes_on;
              crosses = rw there r.crosses;
            }
      ]
    ]

within_before : (scope : Scope) (p q : ℕ) → p ≤ q → IsWithin scope q → IsWithin scope p
within_before scope p q le h = within_in scope p (in_before scope p q le (in_within scope q h))

next_crosses : (scope : Scope) (place number from : ℕ) (more : List ℕ) (f : ReadFault) → GoesOn scope from more → Crosses scope place (from + 1) f → digits_at scope place number from more ≡ Err f
unfolding digits_at
next_crosses scope place number from [] f on c = lacking_fails {A = ℕ × Spot} scope place from f on c
next_crosses scope place number from (octet ∷ more) f on c = bind_fails (within scope place (from + 1)) _ f (crosses_err scope place (from + 1) f c)

pub digits_cross : (scope : Scope) (place number from : ℕ) (digits more : List ℕ) (f : ReadFault) → AreUnfinishedDigits digits → IsWithin scope (from + length digits) → GoesOn scope (from + length digits) more
    → Crosses scope place (from + length digits + 1) f → digits_at scope place number from (digits ++ more) ≡ Err f
unfolding digits_at
digits_cross scope place number from [] more f are here on c =
    let none : from + 0 ≡ from = omega arith in next_crosses scope place number from more f (rw none at on) (rw none at c)
digits_cross scope place number from (digit ∷ digits) more f are here on c =
    let there : from + suc (length digits) ≡ from + 1 + length digits = omega arith in
    rw (within_goes scope place (from + 1) (within_before scope (from + 1) (from + suc (length digits)) (omega arith) here), le-ltb digit 128 are.0)
    (digits_cross scope place (capped (128 * number + (digit - 128))) (from + 1) digits more f are.1 (rw there at here) (rw there at on) (rw there at c))
