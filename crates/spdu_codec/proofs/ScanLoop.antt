-- Reading parameters one after the other, as a loop does.
use Rattle.std.proofs.Common.{◌≡◌, ℕ, zero, suc, ◌+◌, ◌*◌, ◌<◌, ◌≤◌, ◌==◌, ltb, List, [], ◌∷◌, length, take, drop, Option, Result, Ok, refl, sym, ap, subst, ◌∙◌, inl, inr, arith}
use Rattle.std.proofs.lemmas.Bool.{ltb-false}
use Rattle.std.proofs.lemmas.List.{length-take, length-drop}
use Rattle.osi_base.specs.declared.layer_words.Kind.TheVariants as why
use Rattle.spdu_codec.specs.declared.fault.SFault.{SFault}
use Rattle.spdu_codec.specs.declared.fault.SFault.TheVariants as faults
use Rattle.spdu_codec.specs.declared.parameters.Slot.{Slot}
use Rattle.spdu_codec.specs.declared.parameters.Parameters.{Parameters}
use Rattle.spdu_codec.specs.Tables.{row_of}
use Rattle.spdu_codec.specs.Reading.{UnitFault, at, FailsWith, front, length_at, value_at, checked_free, scan}
use Rattle.spdu_codec.proofs.Results.{ok_is, refused, chosen, bound, same_steps}

-- a length takes at least one octet
length_less : (place : ℕ) (xs : List ℕ) (n : ℕ × List ℕ) → length_at place xs ≡ Ok n → length n.1 < length xs
unfolding length_at
length_less place [] n e = absurd cc
length_less place (a ∷ []) n e = (let f = refused (a == 255) (at place why.Length) (Ok (a, [])) n e in let g = ap (λ (q : ℕ × List ℕ). length q.1) (ok_is (a, []) n f.1) in omega arith)
length_less place (a ∷ b ∷ []) n e = (let f = refused (a == 255) (at place why.Length) (Ok (a, b ∷ [])) n e in let g = ap (λ (q : ℕ × List ℕ). length q.1) (ok_is (a, b ∷ []) n f.1) in omega arith)
length_less place (a ∷ b ∷ c ∷ xs) n e =
    elim (chosen (a == 255) (Ok (256 * b + c, xs)) (Ok (a, b ∷ c ∷ xs)) (Ok n) e) [
      | inl f ↦ (let g = ap (λ (q : ℕ × List ℕ). length q.1) (ok_is (256 * b + c, xs) n f.1) in omega arith)
      | inr f ↦ (let g = ap (λ (q : ℕ × List ℕ). length q.1) (ok_is (a, b ∷ c ∷ xs) n f.1) in omega arith)
    ]

-- a value and what follows it are fewer octets than there were
pub value_less : (end : ℕ) (xs : List ℕ) (v : List ℕ × List ℕ) → value_at end xs ≡ Ok v → length v.0 + length v.1 < length xs
unfolding value_at
value_less end xs v e =
    let b = bound (length_at (front end xs) xs) _ v e in
    let n = b.0 in
    let a = refused (ltb (length n.1) n.0) (at (front end xs) why.Length) (Ok (take n.0 n.1, drop n.0 n.1)) v b.2 in
    let there : n.0 ≤ length n.1 = ltb-false _ _ a.0 in
    let less = length_less (front end xs) xs n b.1 in
    let value : take n.0 n.1 ≡ v.0 = ap (λ (q : List ℕ × List ℕ). q.0) (ok_is (take n.0 n.1, drop n.0 n.1) v a.1) in
    let rest : drop n.0 n.1 ≡ v.1 = ap (λ (q : List ℕ × List ℕ). q.1) (ok_is (take n.0 n.1, drop n.0 n.1) v a.1) in
    omega (arith, less, length-take n.0 n.1, length-drop n.0 n.1, ap length value, ap length rest)

abbrev pub Taker : Type 0
Taker = ℕ → Option Slot → List ℕ → Parameters → Result Parameters UnitFault

pub any_fuel : (t : Taker) (table : List (ℕ × Slot)) (f g end : ℕ) (p : Parameters) (xs : List ℕ) → length xs ≤ f → length xs ≤ g → scan t table f end p xs ≡ scan t table g end p xs
unfolding scan
any_fuel t table f g end p [] le me = refl
any_fuel t table zero g end p (x ∷ xs) le me = absurd (omega arith)
any_fuel t table (suc f) zero end p (x ∷ xs) le me = absurd (omega arith)
any_fuel t table (suc f) (suc g) end p (x ∷ xs) le me =
    same_steps (checked_free (front end (x ∷ xs)) (row_of x table) p) _ _ (λ slot _.
    same_steps (value_at end xs) _ _ (λ v h.
    same_steps (t (front end v.1) slot v.0 p) _ _ (λ next _.
    let less = value_less end xs v h in
    any_fuel t table f g end next v.1 (omega arith) (omega arith))))

-- with enough fuel
abbrev pub scanned : Taker → List (ℕ × Slot) → ℕ → Parameters → List ℕ → Result Parameters UnitFault
scanned t table end p xs = scan t table (length xs) end p xs

pub goes_on : (t : Taker) (table : List (ℕ × Slot)) (end : ℕ) (p next : Parameters) (x : ℕ) (xs : List ℕ) (slot : Option Slot) (v : List ℕ × List ℕ)
    → checked_free (front end (x ∷ xs)) (row_of x table) p ≡ Ok slot → value_at end xs ≡ Ok v → t (front end v.1) slot v.0 p ≡ Ok next
    → scanned t table end p (x ∷ xs) ≡ scanned t table end next v.1
unfolding scan
goes_on t table end p next x xs slot v a b c =
    let less = value_less end xs v b in
    rw (a, b, c) (any_fuel t table (length xs) (length v.1) end next v.1 (omega arith) (omega arith))

-- a step that fails fails the whole
pub fails_free : (e : SFault) (t : Taker) (table : List (ℕ × Slot)) (end : ℕ) (p : Parameters) (x : ℕ) (xs : List ℕ) (total : Result Parameters UnitFault)
    → FailsWith e (checked_free (front end (x ∷ xs)) (row_of x table) p) → scanned t table end p (x ∷ xs) ≡ total → FailsWith e total
unfolding scan
fails_free faults.NoMemory t table end p x xs total h so_far = tt
fails_free (faults.At o k) t table end p x xs total h so_far = sym so_far ∙ rw h refl

pub fails_value : (e : SFault) (t : Taker) (table : List (ℕ × Slot)) (end : ℕ) (p : Parameters) (x : ℕ) (xs : List ℕ) (slot : Option Slot) (total : Result Parameters UnitFault)
    → checked_free (front end (x ∷ xs)) (row_of x table) p ≡ Ok slot → FailsWith e (value_at end xs) → scanned t table end p (x ∷ xs) ≡ total → FailsWith e total
unfolding scan
fails_value faults.NoMemory t table end p x xs slot total a h so_far = tt
fails_value (faults.At o k) t table end p x xs slot total a h so_far = sym so_far ∙ rw (a, h) refl

pub fails_take : (e : SFault) (t : Taker) (table : List (ℕ × Slot)) (end : ℕ) (p : Parameters) (x : ℕ) (xs : List ℕ) (slot : Option Slot) (v : List ℕ × List ℕ) (total : Result Parameters UnitFault)
    → checked_free (front end (x ∷ xs)) (row_of x table) p ≡ Ok slot → value_at end xs ≡ Ok v → FailsWith e (t (front end v.1) slot v.0 p) → scanned t table end p (x ∷ xs) ≡ total → FailsWith e total
unfolding scan
fails_take faults.NoMemory t table end p x xs slot v total a b h so_far = tt
fails_take (faults.At o k) t table end p x xs slot v total a b h so_far = sym so_far ∙ rw (a, b, h) refl

-- ---- the same for octets that were taken apart

pub loop_on : (t : Taker) (table : List (ℕ × Slot)) (end : ℕ) (p next : Parameters) (all : List ℕ) (x : ℕ) (xs : List ℕ) (slot : Option Slot) (v : List ℕ × List ℕ) (total : Result Parameters UnitFault)
    → all ≡ x ∷ xs → checked_free (front end all) (row_of x table) p ≡ Ok slot → value_at end xs ≡ Ok v → t (front end v.1) slot v.0 p ≡ Ok next
    → scanned t table end p all ≡ total → scanned t table end next v.1 ≡ total
loop_on t table end p next all x xs slot v total z a b c so_far =
    sym (goes_on t table end p next x xs slot v (subst (λ (w : List ℕ). checked_free (front end w) (row_of x table) p ≡ Ok slot) z a) b c) ∙ ap (scanned t table end p) (sym z) ∙ so_far

pub loop_free : (e : SFault) (t : Taker) (table : List (ℕ × Slot)) (end : ℕ) (p : Parameters) (all : List ℕ) (x : ℕ) (xs : List ℕ) (total : Result Parameters UnitFault)
    → all ≡ x ∷ xs → FailsWith e (checked_free (front end all) (row_of x table) p) → scanned t table end p all ≡ total → FailsWith e total
loop_free e t table end p all x xs total z h so_far =
    fails_free e t table end p x xs total (subst (λ (w : List ℕ). FailsWith e (checked_free (front end w) (row_of x table) p)) z h) (ap (scanned t table end p) (sym z) ∙ so_far)

pub loop_value : (e : SFault) (t : Taker) (table : List (ℕ × Slot)) (end : ℕ) (p : Parameters) (all : List ℕ) (x : ℕ) (xs : List ℕ) (slot : Option Slot) (total : Result Parameters UnitFault)
    → all ≡ x ∷ xs → checked_free (front end all) (row_of x table) p ≡ Ok slot → FailsWith e (value_at end xs) → scanned t table end p all ≡ total → FailsWith e total
loop_value e t table end p all x xs slot total z a h so_far =
    fails_value e t table end p x xs slot total (subst (λ (w : List ℕ). checked_free (front end w) (row_of x table) p ≡ Ok slot) z a) h (ap (scanned t table end p) (sym z) ∙ so_far)

pub loop_take : (e : SFault) (t : Taker) (table : List (ℕ × Slot)) (end : ℕ) (p : Parameters) (all : List ℕ) (x : ℕ) (xs : List ℕ) (slot : Option Slot) (v : List ℕ × List ℕ) (total : Result Parameters UnitFault)
    → all ≡ x ∷ xs → checked_free (front end all) (row_of x table) p ≡ Ok slot → value_at end xs ≡ Ok v → FailsWith e (t (front end v.1) slot v.0 p) → scanned t table end p all ≡ total → FailsWith e total
loop_take e t table end p all x xs slot v total z a b h so_far =
    fails_take e t table end p x xs slot v total (subst (λ (w : List ℕ). checked_free (front end w) (row_of x table) p ≡ Ok slot) z a) b h (ap (scanned t table end p) (sym z) ∙ so_far)

pub loop_end : (t : Taker) (table : List (ℕ × Slot)) (end : ℕ) (p : Parameters) (all : List ℕ) (total : Result Parameters UnitFault) → all ≡ [] → scanned t table end p all ≡ total → total ≡ Ok p
unfolding scan
loop_end t table end p all total z so_far = sym so_far ∙ ap (scanned t table end p) z
