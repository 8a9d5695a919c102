-- Pieces of a text that is cut at its first separator.
use Rattle.std.proofs.Common.{◌≡◌, ◌==◌, ℕ, ◌+◌, ◌-◌, ◌<◌, ◌≤◌, Bool, true, false, None, Some, List, [], ◌∷◌, length, take, drop, refl, subst, length-drop, arith}
use Rattle.std.proofs.Math.Seq.{take-length}
use Rattle.std.specs.List.{slice_split, position, position_or_len, before_first, after_first}
use Rattle.std.proofs.lemmas.List.Splits.{slice_split_first}
use Rattle.std.proofs.lemmas.Bool.Decides.{nat_tests}
use Rattle.script_lines.specs.Lines.{pieces}

one_step : {X : Type 0} (p : X → Bool) (x : X) (xs : List X) (b : Bool) → p x ≡ b
    → position_or_len p (x ∷ xs) ≡ length (x ∷ xs)
    → (position_or_len p xs ≡ length xs → slice_split p xs ≡ xs ∷ [])
    → slice_split p (x ∷ xs) ≡ (x ∷ xs) ∷ []
one_step p x xs true e h more = absurd (let h2 : 0 ≡ length (x ∷ xs) = rw e at h in omega arith)
one_step p x xs false e h more = rw e (let h2 = rw e at h in rw (more (omega arith)) refl)

one_piece : {X : Type 0} (p : X → Bool) (xs : List X) → position_or_len p xs ≡ length xs → slice_split p xs ≡ xs ∷ []
one_piece p [] h = refl
one_piece p (x ∷ xs) h = one_step p x xs (p x) refl h (one_piece p xs)

short_step : {X : Type 0} (p : X → Bool) (x : X) (xs : List X) (b : Bool) → p x ≡ b → position_or_len p xs ≤ length xs → position_or_len p (x ∷ xs) ≤ length (x ∷ xs)
short_step p x xs true e h = rw e (omega arith)
short_step p x xs false e h = rw e (omega arith)

short : {X : Type 0} (p : X → Bool) (xs : List X) → position_or_len p xs ≤ length xs
short p [] = omega arith
short p (x ∷ xs) = short_step p x xs (p x) refl (short p xs)

-- what a look for the first separator says
not_found : {X : Type 0} (p : X → Bool) (xs : List X) → position p xs ≡ None → length xs ≤ position_or_len p xs
not_found p xs none = grind (arith, nat_tests)

found_at : {X : Type 0} (p : X → Bool) (xs : List X) (at : ℕ) → position p xs ≡ Some at → (position_or_len p xs ≡ at) × (at < length xs)
found_at p xs at found = grind (arith, nat_tests)

pub pieces_one : (separator : ℕ) (text : List ℕ) → position (λ octet. octet == separator) text ≡ None → pieces separator text ≡ text ∷ []
pieces_one separator text none =
    let p : ℕ → Bool = λ octet. octet == separator in one_piece p text (omega (arith, short p text, not_found p text none))

-- the rest of a slice, as code takes it
take-rest : (n : ℕ) (octets : List ℕ) → take (length octets - n) (drop n octets) ≡ drop n octets
take-rest n octets = let P : ℕ → Type 0 = λ k. take k (drop n octets) ≡ drop n octets in
    subst P (length-drop n octets) (take-length (drop n octets))

pub position_within : (separator : ℕ) (text : List ℕ) (at : ℕ) → position (λ octet. octet == separator) text ≡ Some at → at < length text
position_within separator text at found = (found_at (λ octet. octet == separator) text at found).1

pub pieces_more : (separator : ℕ) (text : List ℕ) (at : ℕ) → position (λ octet. octet == separator) text ≡ Some at
    → pieces separator text ≡ take at text ∷ pieces separator (take (length text - (at + 1)) (drop (at + 1) text))
pieces_more separator text at found =
    let p : ℕ → Bool = λ octet. octet == separator in
    let f = found_at p text at found in
    let e : pieces separator text ≡ before_first p text ∷ pieces separator (after_first p text) = slice_split_first p text 0 (rw f.0 f.1) in
    rw (take-rest (at + 1) text) (let e2 = rw f.0 at e in e2)
