-- What is told as octets are put at its end.
use Rattle.std.proofs.Common.{Option, None, Some, ◌≡◌, ℕ, ◌+◌, ◌-◌, List, [], ◌++◌, take, drop, length, refl, ap, sym, ◌∙◌, subst, append_assoc, append-nil, length-drop, length-append, arith}
use Rattle.std.proofs.Math.Seq.{take-add, take-length, take-append-add}
use Rattle.std.proofs.lemmas.List.{take-append-le}
use Rattle.osi_base.specs.Outside.{grown, GrewPart}

-- no octets
pub grown_nil : (told : Option (List ℕ)) → grown told [] ≡ told
grown_nil None = refl
grown_nil (Some octets) = ap (λ octets. Some octets) (append-nil octets)

-- the rest of a slice, as code takes it
take-rest : (n : ℕ) (bytes : List ℕ) → take (length bytes - n) (drop n bytes) ≡ drop n bytes
take-rest n bytes = let P : ℕ → Type 0 = λ k. take k (drop n bytes) ≡ drop n bytes in
    subst P (length-drop n bytes) (take-length (drop n bytes))

-- a beginning of a piece, and then more of it
pub grown_grown : (told : Option (List ℕ)) (bytes : List ℕ) (n m : ℕ)
    → grown (grown told (take n bytes)) (take m (take (length bytes - n) (drop n bytes)))
    ≡ grown told (take (n + m) bytes)
grown_grown None bytes n m = refl
grown_grown (Some octets) bytes n m = ap (λ octets. Some octets)
    (append_assoc octets (take n bytes) _
    ∙ ap (λ more. octets ++ more) (ap (λ rest. take n bytes ++ take m rest) (take-rest n bytes) ∙ sym (take-add n m bytes)))

-- one piece, and then another
pub grown_append : (told : Option (List ℕ)) (first second : List ℕ)
    → grown (grown told first) second ≡ grown told (first ++ second)
grown_append None first second = refl
grown_append (Some octets) first second = ap (λ octets. Some octets) (append_assoc octets first second)

-- a piece, and then a beginning of the next: a beginning of them and of all that follows
pub part_after : (told new : Option (List ℕ)) (first second third : List ℕ)
    → GrewPart (grown told first) new second → GrewPart told new (first ++ (second ++ third))
part_after told new first second third part = record {
  count = length first + part.count;
  within = rw (length-append first (second ++ third)) (rw (length-append second third) (omega (arith, part.within)));
  is_grown = part.is_grown ∙ grown_append told first (take part.count second)
      ∙ ap (λ octets. grown told octets) (sym (take-append-add first (second ++ third) part.count
      ∙ ap (λ octets. first ++ octets) (take-append-le part.count second third part.within)));
}
