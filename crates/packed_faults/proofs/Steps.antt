-- Steps of reading that fail.
use Rattle.std.proofs.Common.{◌≡◌, ℕ, ◌≤◌, ◌<◌, ◌^◌, Bool, true, false, cond, Option, Some, None, Ok, Err, refl, sym, ap, ◌∙◌, ◌⊎◌, inl, inr}
use Rattle.osi_base.specs.Limits.{most_items}
use Rattle.packed_codec.specs.declared.fault.PackedFault.{PackedFault}
use Rattle.packed_codec.specs.declared.fault.PackedFault.TheVariants.{NotSpelled, Short}
use Rattle.osi_base.specs.Octets.{AreOctets}
use Rattle.packed_codec.specs.Reading.{Spot, Reading, ◌>>=◌, refuse}
use Rattle.packed_codec.specs.Rules.{Reader}
use Rattle.packed_codec.proofs.Taking.{done}
use Rattle.packed_faults.specs.Values.{Wrong, IsAt}
use Rattle.osi_base.specs.declared.layer_words.Kind.TheVariants.{Content}

abbrev pub failed : {A : Type 0} → PackedFault → Reading A
failed f = Err f

pub err_is : {A : Type 0} (d e : PackedFault) → failed {A = A} d ≡ failed e → d ≡ e
err_is d e h = cc

pub not_err : {A : Type 0} (x : A) (e : PackedFault) → done x ≡ failed e → ⊥
not_err x e h = cc

-- a fault is that of the first step, or of what comes behind it
pub bind_err : {A B : Type 0} (r : Reading A) (g : A → Reading B) (e : PackedFault) → (r >>= g) ≡ Err e → (r ≡ Err e) ⊎ ((x : A) × (r ≡ Ok x) × (g x ≡ Err e))
bind_err (Ok x) g e h = inr (x, refl, h)
bind_err {A} {B} (Err d) g e h = inl (ap (λ (f : PackedFault). failed {A = A} f) (err_is {A = B} d e h))

pub bind_fails : {A B : Type 0} (r : Reading A) (g : A → Reading B) (e : PackedFault) → r ≡ Err e → (r >>= g) ≡ Err e
bind_fails r g e h = ap (λ x. x >>= g) h

pub bind_goes : {A B : Type 0} (r : Reading A) (g : A → Reading B) (x : A) (y : Reading B) → r ≡ Ok x → g x ≡ y → (r >>= g) ≡ y
bind_goes r g x y h k = ap (λ z. z >>= g) h ∙ k

pub cond_err : {A : Type 0} (b : Bool) (r s : Reading A) (e : PackedFault) → cond b r s ≡ Err e → ((b ≡ true) × (r ≡ Err e)) ⊎ ((b ≡ false) × (s ≡ Err e))
cond_err true r s e h = inl (refl, h)
cond_err false r s e h = inr (refl, h)

pub cond_yes : {A : Type 0} (b : Bool) (r s x : A) → b ≡ true → r ≡ x → cond b r s ≡ x
cond_yes true r s x e h = h
cond_yes false r s x e h = absurd cc

pub cond_no : {A : Type 0} (b : Bool) (r s x : A) → b ≡ false → s ≡ x → cond b r s ≡ x
cond_no true r s x e h = absurd cc
cond_no false r s x e h = h

pub option_cases : {A : Type 0} (o : Option A) → (o ≡ None) ⊎ ((x : A) × (o ≡ Some x))
option_cases None = inl refl
option_cases (Some x) = inr (x, refl)

pub refused : {A : Type 0} (place : ℕ) (f : PackedFault) → IsAt place f → refuse {A = A} place ≡ failed f
refused {A} place f e = ap (λ (g : PackedFault). failed {A = A} g) (sym e)

pub refusal_is : {A : Type 0} (place : ℕ) (f : PackedFault) → refuse {A = A} place ≡ failed f → IsAt place f
refusal_is {A} place f e = sym (err_is {A = A} (NotSpelled place Content) f e)

-- a reader gives no fault but these
pub record Finds (r : Reader) (W : Wrong) : Type 0 where
  pub finds : (limit : ℕ) (s : Spot) (f : PackedFault) → (f ≡ Short → ⊥) → AreOctets s.rest → s.place ≤ limit → r limit s ≡ Err f → W limit s f

-- and it gives these
pub record Tells (r : Reader) (W : Wrong) : Type 0 where
  pub tells : (limit : ℕ) (s : Spot) (f : PackedFault) → AreOctets s.rest → limit < 2 ^ 32 → s.left ≤ most_items → W limit s f → r limit s ≡ Err f
