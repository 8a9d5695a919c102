-- The parameters that are written are those that are read.
use Rattle.std.proofs.Common.{◌≡◌, ℕ, ◌/◌, ◌%◌, ◌<◌, Bool, true, false, List, [], ◌∷◌, ◌++◌, length, Option, Some, None, refl, sym, subst, inl, inr, arith}
use Rattle.std.specs.Option.{option_map}
use Rattle.std.proofs.lemmas.Bool.{cases_lt, lt-ltb, le-ltb}
use Rattle.std.proofs.lemmas.List.{length-append}
use Rattle.spdu_codec.specs.declared.parameters.Slot.{Slot}
use Rattle.spdu_codec.specs.declared.parameters.Parameters.{Parameters}
use Rattle.spdu_codec.specs.Tables.{row_of, items_of}
use Rattle.spdu_codec.specs.Parameters.{is_free, put}
use Rattle.spdu_codec.specs.Wire.{IsLength, IsCoded, AreParameters, IsFree, AllPut, ItemPut, IsInside, ParameterPut}
use Rattle.spdu_codec.specs.Written.{written_length, coded, spelled, optional, group}

-- ---- lengths

length_is : (n : ℕ) → n < 65536 → IsLength n (written_length n)
length_is n lt =
    elim (cases_lt n 255) [
      | inl short ↦ inl (short, (let e = lt-ltb n 255 short in rw e refl))
      | inr long ↦ inr (lt, (let e = le-ltb n 255 long in let same : n / 256 % 256 ≡ n / 256 = omega arith in rw (e, same) refl))
    ]

pub coded_is : (code : ℕ) (value : List ℕ) → length value < 65536 → IsCoded code value (coded code value)
coded_is code value lt = (written_length (length value), length_is (length value) lt, refl)

pub spelled_are : (ps : List (ℕ × List ℕ)) → length (spelled ps) < 65536 → AreParameters ps (spelled ps)
spelled_are [] lt = refl
spelled_are (x ∷ ps) lt =
    let n = length-append (coded x.0 x.1) (spelled ps) in
    let m = length-append (x.0 ∷ written_length (length x.1)) x.1 in
    (coded x.0 x.1, spelled ps, coded_is x.0 x.1 (omega (arith, lt, n, m)), spelled_are ps (omega (arith, lt, n)), refl)

-- ---- parameters put in

pub puts-append : (One : Option Slot → List ℕ → Parameters → Parameters → Type 0) (table : List (ℕ × Slot)) (a b : List (ℕ × List ℕ)) (p r q : Parameters)
    → AllPut One table a p r → AllPut One table b r q → AllPut One table (a ++ b) p q
puts-append One table [] b p r q x y = subst (λ (s : Parameters). AllPut One table b s q) (sym x) y
puts-append One table (i ∷ a) b p r q x y = (x.0, (x.1.0, x.1.1, puts-append One table a b x.1.0 r q x.1.2 y))

-- one parameter
pub one_puts : (One : Option Slot → List ℕ → Parameters → Parameters → Type 0) (table : List (ℕ × Slot)) (code : ℕ) (slot : Slot) (v : List ℕ) (p q : Parameters)
    → row_of code table ≡ Some slot → is_free slot p ≡ true → One (Some slot) v p q → AllPut One table ((code, v) ∷ []) p q
one_puts One table code slot v p q row is_free_now one =
    subst (λ (o : Option Slot). IsFree o p × ((r : Parameters) × One o v p r × (r ≡ q))) (sym row) (is_free_now, (q, one, refl))

-- a parameter that may lack
pub value_puts : {X : Type 0} (enc : X → List ℕ) (One : Option Slot → List ℕ → Parameters → Parameters → Type 0) (table : List (ℕ × Slot)) (code : ℕ) (slot : Slot) (o : Option X) (p : Parameters) (f : Option X → Parameters)
    → row_of code table ≡ Some slot → is_free slot p ≡ true → p ≡ f None → ((x : X) → o ≡ Some x → One (Some slot) (enc x) p (f (Some x))) → AllPut One table (optional code (option_map enc o)) p (f o)
value_puts enc One table code slot None p f row free_now none one = none
value_puts enc One table code slot (Some x) p f row free_now none one = one_puts One table code slot (enc x) p (f (Some x)) row free_now (one x refl)

pub octets_puts : (One : Option Slot → List ℕ → Parameters → Parameters → Type 0) (table : List (ℕ × Slot)) (code : ℕ) (slot : Slot) (o : Option (List ℕ)) (p : Parameters) (f : Option (List ℕ) → Parameters)
    → row_of code table ≡ Some slot → is_free slot p ≡ true → p ≡ f None → ((v : List ℕ) → o ≡ Some v → One (Some slot) v p (f (Some v))) → AllPut One table (optional code o) p (f o)
octets_puts One table code slot None p f row free_now none one = none
octets_puts One table code slot (Some v) p f row free_now none one = one_puts One table code slot v p (f (Some v)) row free_now (one v refl)

-- a parameter of a unit that is no group
pub leaf : (slot : Slot) (v : List ℕ) (p q : Parameters) → items_of slot ≡ None → put slot v p ≡ Some q → ParameterPut (Some slot) v p q
leaf slot v p q none e = (q, e, subst (λ o. IsInside o v q q) (sym none) refl)

-- a group
abbrev pub nonempty : List (ℕ × List ℕ) → Bool
nonempty [] = false
nonempty (x ∷ xs) = true

pub group_puts : (table inner : List (ℕ × Slot)) (code : ℕ) (slot : Slot) (items : List (ℕ × List ℕ)) (p m : Parameters) (s : Bool → Parameters)
    → row_of code table ≡ Some slot → is_free slot p ≡ true → items_of slot ≡ Some inner → ((v : List ℕ) → put slot v p ≡ Some m) → length (spelled items) < 65536
    → AllPut ItemPut inner items m (s true) → (items ≡ [] → p ≡ s false) → AllPut ParameterPut table (group code items) p (s (nonempty items))
group_puts table inner code slot [] p m s row free_now is_group marks lt puts none = none refl
group_puts table inner code slot (x ∷ xs) p m s row free_now is_group marks lt puts none =
    one_puts ParameterPut table code slot (spelled (x ∷ xs)) p (s true) row free_now
    (m, marks (spelled (x ∷ xs)), subst (λ o. IsInside o (spelled (x ∷ xs)) m (s true)) (sym is_group) (x ∷ xs, spelled_are (x ∷ xs) lt, puts))

-- a group without parameters has none of them
pub no_value : {X : Type 0} (enc : X → List ℕ) (code : ℕ) (o : Option X) (rest : List (ℕ × List ℕ)) → optional code (option_map enc o) ++ rest ≡ [] → (o ≡ None) × (rest ≡ [])
no_value enc code None rest e = (refl, e)
no_value enc code (Some x) rest e = absurd cc

pub no_octets : (code : ℕ) (o : Option (List ℕ)) (rest : List (ℕ × List ℕ)) → optional code o ++ rest ≡ [] → (o ≡ None) × (rest ≡ [])
no_octets code None rest e = (refl, e)
no_octets code (Some x) rest e = absurd cc
