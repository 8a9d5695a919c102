-- Looking for user data among parameters, as a loop does.
use Rattle.std.proofs.Common.{◌≡◌, ℕ, zero, suc, ◌-◌, ◌≤◌, List, [], ◌∷◌, length, Option, Result, Ok, Err, refl, sym, ap, ◌∙◌, arith}
use Rattle.spdu_codec.specs.declared.parameters.Slot.{Slot}
use Rattle.spdu_codec.specs.Tables.{row_of}
use Rattle.spdu_codec.specs.Reading.{UnitFault, at, FailsWith, front, value_at}
use Rattle.spdu_codec.specs.declared.fault.SFault.{SFault}
use Rattle.spdu_codec.specs.declared.fault.SFault.TheVariants as faults
use Rattle.spdu_codec.specs.Places.{placed, on_value, user_among}
use Rattle.spdu_codec.proofs.ScanLoop.{value_less}

-- with enough fuel
abbrev pub among : List (ℕ × Slot) → ℕ → Option ℕ → List ℕ → Option ℕ
among table end at xs = user_among table (length xs) end at xs

same_value : (at : Option ℕ) (r : Result (List ℕ × List ℕ) UnitFault) (f g : List ℕ × List ℕ → Option ℕ) → ((v : List ℕ × List ℕ) → r ≡ Ok v → f v ≡ g v) → on_value at r f ≡ on_value at r g
same_value at (Err e) f g h = refl
same_value at (Ok v) f g h = h v refl

pub any_fuel : (table : List (ℕ × Slot)) (f g end : ℕ) (at : Option ℕ) (xs : List ℕ) → length xs ≤ f → length xs ≤ g → user_among table f end at xs ≡ user_among table g end at xs
unfolding user_among
any_fuel table f g end at [] le me = refl
any_fuel table zero g end at (x ∷ xs) le me = absurd (omega arith)
any_fuel table (suc f) zero end at (x ∷ xs) le me = absurd (omega arith)
any_fuel table (suc f) (suc g) end at (x ∷ xs) le me =
    same_value at (value_at end xs) _ _ (λ v h.
    let less = value_less end xs v h in
    any_fuel table f g end (placed (row_of x table) v.0 (front end v.1 - length v.0) at) v.1 (omega arith) (omega arith))

pub goes_on : (table : List (ℕ × Slot)) (end : ℕ) (at : Option ℕ) (x : ℕ) (xs : List ℕ) (v : List ℕ × List ℕ) → value_at end xs ≡ Ok v
    → among table end at (x ∷ xs) ≡ among table end (placed (row_of x table) v.0 (front end v.1 - length v.0) at) v.1
unfolding user_among
goes_on table end at x xs v h = (let less = value_less end xs v h in rw h (any_fuel table (length xs) (length v.1) end (placed (row_of x table) v.0 (front end v.1 - length v.0) at) v.1 (omega arith) (omega arith)))

pub stops : (table : List (ℕ × Slot)) (end : ℕ) (at : Option ℕ) (x : ℕ) (xs : List ℕ) (f : UnitFault) → value_at end xs ≡ Err f → among table end at (x ∷ xs) ≡ at
unfolding user_among
stops table end at x xs f h = rw h refl

-- ---- the loop

pub loop_on : (table : List (ℕ × Slot)) (end : ℕ) (at : Option ℕ) (rest : List ℕ) (x : ℕ) (xs : List ℕ) (v : List ℕ × List ℕ) (whole : Option ℕ)
    → rest ≡ x ∷ xs → value_at end xs ≡ Ok v → among table end at rest ≡ whole
    → among table end (placed (row_of x table) v.0 (front end v.1 - length v.0) at) v.1 ≡ whole
loop_on table end at rest x xs v whole e h reads = sym (goes_on table end at x xs v h) ∙ ap (among table end at) (sym e) ∙ reads

pub loop_stops : (table : List (ℕ × Slot)) (end : ℕ) (at : Option ℕ) (rest : List ℕ) (x : ℕ) (xs : List ℕ) (f : UnitFault) (whole : Option ℕ)
    → rest ≡ x ∷ xs → value_at end xs ≡ Err f → among table end at rest ≡ whole → at ≡ whole
loop_stops table end at rest x xs f whole e h reads = sym (stops table end at x xs f h) ∙ ap (among table end at) (sym e) ∙ reads

pub loop_ends : (table : List (ℕ × Slot)) (end : ℕ) (at : Option ℕ) (rest : List ℕ) (whole : Option ℕ) → rest ≡ [] → among table end at rest ≡ whole → at ≡ whole
unfolding user_among
loop_ends table end at rest whole e reads = ap (among table end at) (sym e) ∙ reads

-- a fault that is no want of memory
pub fault_is : (e : SFault) (r : Result (List ℕ × List ℕ) UnitFault) → (e ≡ faults.NoMemory → ⊥) → FailsWith e r → (f : UnitFault) × (r ≡ Err f)
fault_is faults.NoMemory r ne h = absurd (ne refl)
fault_is (faults.At place kind) r ne h = (at place kind, h)
