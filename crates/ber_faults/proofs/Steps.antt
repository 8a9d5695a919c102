-- Steps of reading that fail, and how far a field may go.
use Rattle.std.proofs.Common.{◌≡◌, ℕ, ◌+◌, Bool, true, false, cond, Ok, Err, refl, sym, ap, ◌∙◌, ◌⊎◌, inl, inr}
use Rattle.std.specs.Prelude.{nat_lt}
use Rattle.std.proofs.lemmas.Bool.{lt-ltb, le-ltb, ltb-false, ltb-true}
use Rattle.osi_base.specs.declared.layer_words.Kind.TheVariants.{Length}
use Rattle.ber_spelling.specs.declared.fault.ReadFault.{ReadFault}
use Rattle.ber_spelling.specs.declared.fault.ReadFault.TheVariants.{NotSpelled, Short, TooLong}
use Rattle.ber_spelling.specs.declared.spot.Scope.{Scope}
use Rattle.ber_spelling.specs.Reading.{Reading, ◌>>=◌, refuse, is_past, within}
use Rattle.ber_spelling.specs.Fields.{is_end, cut_off, lacking_from}
use Rattle.ber_spelling.proofs.Identifiers.{IsIn, is_in, in_is, done}
use Rattle.ber_faults.specs.Fields.{IsWithin, Crosses}

abbrev pub failed : {A : Type 0} → ReadFault → Reading A
failed f = Err f

pub err_is : {A : Type 0} (d e : ReadFault) → failed {A = A} d ≡ failed e → d ≡ e
err_is d e h = cc

pub not_err : {A : Type 0} (x : A) (e : ReadFault) → done x ≡ failed e → ⊥
not_err x e h = cc

-- a fault is that of the first step, or of what comes behind it
pub bind_err : {A B : Type 0} (r : Reading A) (g : A → Reading B) (e : ReadFault) → (r >>= g) ≡ Err e → (r ≡ Err e) ⊎ ((x : A) × (r ≡ Ok x) × (g x ≡ Err e))
bind_err (Ok x) g e h = inr (x, refl, h)
bind_err {A} {B} (Err d) g e h = inl (ap (λ (f : ReadFault). failed {A = A} f) (err_is {A = B} d e h))

pub bind_fails : {A B : Type 0} (r : Reading A) (g : A → Reading B) (e : ReadFault) → r ≡ Err e → (r >>= g) ≡ Err e
bind_fails r g e h = ap (λ x. x >>= g) h

pub bind_goes : {A B : Type 0} (r : Reading A) (g : A → Reading B) (x : A) (y : Reading B) → r ≡ Ok x → g x ≡ y → (r >>= g) ≡ y
bind_goes r g x y h k = ap (λ z. z >>= g) h ∙ k

pub cond_err : {A : Type 0} (b : Bool) (r s : Reading A) (e : ReadFault) → cond b r s ≡ Err e → ((b ≡ true) × (r ≡ Err e)) ⊎ ((b ≡ false) × (s ≡ Err e))
cond_err true r s e h = inl (refl, h)
cond_err false r s e h = inr (refl, h)

pub cond_yes : {A : Type 0} (b : Bool) (r s x : A) → b ≡ true → r ≡ x → cond b r s ≡ x
cond_yes true r s x e h = h
cond_yes false r s x e h = absurd cc

pub cond_no : {A : Type 0} (b : Bool) (r s x : A) → b ≡ false → s ≡ x → cond b r s ≡ x
cond_no true r s x e h = absurd cc
cond_no false r s x e h = h

-- ---- how far a field may go

pub within_in : (scope : Scope) (place : ℕ) → IsIn scope place → IsWithin scope place
within_in scope place h = record { limit = h.limit; end = h.end }

pub in_within : (scope : Scope) (place : ℕ) → IsWithin scope place → IsIn scope place
in_within scope place h = record { limit = h.limit; end = h.end }

pub within_err : (scope : Scope) (place until : ℕ) (f : ReadFault) → within scope place until ≡ Err f → Crosses scope place until f
unfolding within
within_err scope place until f e =
    elim (cond_err (nat_lt scope.limit until) (Err (TooLong place)) _ f e) [
      | inl t ↦ inl (ltb-true scope.limit until t.0, sym (err_is (TooLong place) f t.1))
      | inr t ↦ elim (cond_err (is_past scope.end until) (refuse place Length) (Ok tt) f t.1) [
        | inl u ↦ inr (ltb-false scope.limit until t.0, u.0, sym (err_is (NotSpelled place Length) f u.1))
        | inr u ↦ absurd (not_err tt f u.1)
      ]
    ]

pub crosses_err : (scope : Scope) (place until : ℕ) (f : ReadFault) → Crosses scope place until f → within scope place until ≡ Err f
unfolding within
crosses_err scope place until f (inl c) = cond_yes (nat_lt scope.limit until) _ _ _ (lt-ltb scope.limit until c.0) (ap (λ (g : ReadFault). failed g) (sym c.1))
crosses_err scope place until f (inr c) =
    cond_no (nat_lt scope.limit until) _ _ _ (le-ltb scope.limit until c.0) (cond_yes (is_past scope.end until) _ _ _ c.1 (ap (λ (g : ReadFault). failed g) (sym c.2)))

pub within_goes : (scope : Scope) (place until : ℕ) → IsWithin scope until → within scope place until ≡ Ok tt
within_goes scope place until h = in_is scope place until (in_within scope until h)

pub within_ok : (scope : Scope) (place until : ℕ) (x : Unit {0}) → within scope place until ≡ Ok x → IsWithin scope until
within_ok scope place until x e = within_in scope until (is_in scope place until x e)

-- ---- fields that are cut off

pub cut_err : {A : Type 0} (scope : Scope) (place until : ℕ) (f : ReadFault) → (f ≡ Short → ⊥) → cut_off {A = A} scope place until ≡ Err f → Crosses scope place until f
cut_err {A} scope place until f ne e =
    elim (bind_err (within scope place until) (λ _. failed {A = A} Short) f e) [
      | inl t ↦ within_err scope place until f t
      | inr t ↦ absurd (ne (sym (err_is {A = A} Short f t.2)))
    ]

pub cut_fails : {A : Type 0} (scope : Scope) (place until : ℕ) (f : ReadFault) → Crosses scope place until f → cut_off {A = A} scope place until ≡ Err f
cut_fails {A} scope place until f c = bind_fails (within scope place until) (λ _. failed {A = A} Short) f (crosses_err scope place until f c)

pub lacking_err : {A : Type 0} (scope : Scope) (place from : ℕ) (f : ReadFault) → (f ≡ Short → ⊥) → lacking_from {A = A} scope place from ≡ Err f
    → (is_end scope.end from ≡ true) × Crosses scope place (from + 1) f
lacking_err {A} scope place from f ne e =
    elim (cond_err (is_end scope.end from) (cut_off {A = A} scope place (from + 1)) (failed Short) f e) [
      | inl t ↦ (t.0, cut_err {A = A} scope place (from + 1) f ne t.1)
      | inr t ↦ absurd (ne (sym (err_is {A = A} Short f t.1)))
    ]

pub lacking_fails : {A : Type 0} (scope : Scope) (place from : ℕ) (f : ReadFault) → is_end scope.end from ≡ true → Crosses scope place (from + 1) f → lacking_from {A = A} scope place from ≡ Err f
lacking_fails {A} scope place from f ended c = cond_yes (is_end scope.end from) _ _ _ ended (cut_fails {A = A} scope place (from + 1) f c)
