-- Values that are read one after the other.
use Rattle.std.proofs.Common.{◌≡◌, ℕ, zero, suc, ◌+◌, ◌<◌, ◌≤◌, List, [], ◌∷◌, ◌++◌, length, drop, get_or, Option, Some, None, Result, Ok, Err, refl, ap, ◌∙◌, sym, append_assoc, arith, add-one}
use Rattle.std.proofs.lemmas.List.{append-nil, drop_all}
use Rattle.osi_base.specs.declared.presentation_word.Pdv.{Pdv}
use Rattle.end_rules.specs.Base.{Fault}
use Rattle.end_rules.specs.Messages as meant
use Rattle.association_intake.specs.association_reading.Values.{before_values, all_values, unless_fault}
use Rattle.association_words.specs.declared.values.Value.{Value}
use Rattle.association_words.specs.Seen.{seen_value, seen_values, seen_fault}
use Rattle.association_meaning.specs.declared.basis.Halt.{Halt}
use Rattle.association_meaning.specs.declared.basis.Halt.TheVariants.{Faulty, NoMemory}
use Rattle.association_meaning.specs.Grounds.{FailsAs}
use Rattle.association_meaning.specs.Steps.{checked, joined}

abbrev Values : Type 0
Values = Result (List meant.DataValue) Fault

-- ---- once contexts and forms were looked at

same_fault : {X : Type 0} (f g : Fault) → (let a : Result X Fault = Err f in a) ≡ Err g → f ≡ g
same_fault f g e = cc

pub right_values : (x : Option Fault) (v : Values) (u : Unit {0}) → checked x ≡ Ok u → unless_fault x v ≡ v
right_values None v u e = refl
right_values (Some f) v u e = absurd cc

pub wrong_values : (e : Halt) (x : Option Fault) (v : Values) → FailsAs e (checked x) → FailsAs e (unless_fault x v)
wrong_values (Faulty f) None v h = absurd cc
wrong_values (Faulty f) (Some g) v h = ap (λ (k : Fault). let r : Values = Err k in r) (same_fault {X = Unit {0}} g (seen_fault f) h)
wrong_values NoMemory x v h = tt

-- ---- the values

pub seen_on : (vs : List Value) (v : Value) → seen_values (vs ++ v ∷ []) ≡ seen_values vs ++ seen_value v ∷ []
seen_on [] v = refl
seen_on (w ∷ vs) v = ap (λ (xs : List meant.DataValue). seen_value w ∷ xs) (seen_on vs v)

joined_on : (vs : List meant.DataValue) (v : meant.DataValue) (more : Values) → joined (vs ++ v ∷ []) more ≡ joined vs (before_values (Ok v) more)
joined_on vs v (Ok xs) = ap (λ (ys : List meant.DataValue). let r : Values = Ok ys in r) (append_assoc vs (v ∷ []) xs)
joined_on vs v (Err f) = refl

drop_at : (xs : List Pdv) (i : ℕ) (d : Pdv) → i < length xs → drop i xs ≡ get_or xs i d ∷ drop (suc i) xs
drop_at [] i d lt = absurd (omega arith)
drop_at (x ∷ xs) zero d lt = refl
drop_at (x ∷ xs) (suc i) d lt = drop_at xs i d (omega (arith, lt))

module _ (read : Pdv → Result meant.DataValue Fault) (xs : List Pdv) (i : ℕ) (d : Pdv) (lt : i < length xs) (vs : List Value)
    (so_far : joined (seen_values vs) (all_values read (drop i xs)) ≡ all_values read xs) where
  here : joined (seen_values vs) (before_values (read (get_or xs i d)) (all_values read (drop (suc i) xs))) ≡ all_values read xs
  here = ap (λ (ys : List Pdv). joined (seen_values vs) (all_values read ys)) (sym (drop_at xs i d lt)) ∙ so_far

  pub all_step : (v : Value) (new : List Value) → read (get_or xs i d) ≡ Ok (seen_value v) → new ≡ vs ++ v ∷ [] → joined (seen_values new) (all_values read (drop (i + 1) xs)) ≡ all_values read xs
  all_step v new e pushed =
      rw add-one (
      ap (λ (ys : List Value). joined (seen_values ys) (all_values read (drop (suc i) xs))) pushed
      ∙ ap (λ (ys : List meant.DataValue). joined ys (all_values read (drop (suc i) xs))) (seen_on vs v)
      ∙ joined_on (seen_values vs) (seen_value v) (all_values read (drop (suc i) xs))
      ∙ ap (λ (r : Result meant.DataValue Fault). joined (seen_values vs) (before_values r (all_values read (drop (suc i) xs)))) (sym e)
      ∙ here)

  pub fails_at : (e : Halt) (r : Result meant.DataValue Fault) → read (get_or xs i d) ≡ r → FailsAs e r → FailsAs e (all_values read xs)
  fails_at (Faulty f) (Ok v) at h = absurd cc
  fails_at (Faulty f) (Err g) at h =
      sym here ∙ ap (λ (r : Result meant.DataValue Fault). joined (seen_values vs) (before_values r (all_values read (drop (suc i) xs)))) (at ∙ h)
  fails_at NoMemory r at h = tt

pub all_done : (read : Pdv → Result meant.DataValue Fault) (xs : List Pdv) (i : ℕ) (vs : List Value) → length xs ≤ i → joined (seen_values vs) (all_values read (drop i xs)) ≡ all_values read xs → all_values read xs ≡ Ok (seen_values vs)
all_done read xs i vs le so_far =
    sym so_far
    ∙ ap (λ (ys : List Pdv). joined (seen_values vs) (all_values read ys)) (drop_all i xs le)
    ∙ ap (λ (ys : List meant.DataValue). let r : Values = Ok ys in r) (append-nil (seen_values vs))
